-- What holds of a Result holds of what `ok` makes of it.
use Rattle.std.proofs.Common.{IfSome, Result, Ok, Err}
use Rattle.std.specs.Result.{result_ok}

pub if_ok : {T E : Type 0} (r : Result T E) (P : Result T E → Type 0) (Q : T → Type 0) → ((x : T) → P (Ok x) → Q x) → P r → IfSome (result_ok r) Q
if_ok (Ok x) P Q more p = more x p
if_ok (Err e) P Q more p = tt
