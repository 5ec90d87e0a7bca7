-- What `ok_or` says of the option that it was asked of.
use Rattle.std.proofs.Common.{◌≡◌, Some, None, Option, Ok, Err, refl}
use Rattle.std.specs.Option.{ok_or}

pub there : {T E : Type 0} (o : Option T) (e : E) (x : T) → Ok x ≡ ok_or o e → o ≡ Some x
there None e x h = cc
there (Some y) e x h = cc

pub missing : {T E : Type 0} (o : Option T) (e f : E) → Err f ≡ ok_or o e → (o ≡ None) × (f ≡ e)
missing None e f h = (refl, cc)
missing (Some y) e f h = (cc, cc)
