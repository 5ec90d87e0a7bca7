-- The calls of a script and the events of a log, as the rules speak of them.
use Rattle.std.specs.Prelude.{vec_items}
use Rattle.field.specs.Meaning.{Meaning}
use Rattle.rules.specs.Questions.{answer_of}
use Rattle.rules.specs.Ends.{Call, load, «open», tell, take, key, close}
use Rattle.end.specs.Results.{Follows}
use Rattle.end.specs.declared.end.End.{End}
use Rattle.dialogue.specs.declared.script.Order.{Order}
use Rattle.dialogue.specs.declared.script.Order.TheVariants.{Load, Open, Tell, Take, Key, Close}
use Rattle.dialogue.specs.declared.script.Event.{Event}

-- the call of an order
abbrev pub call_of : Order → Call
call_of (Load bytes) = load (vec_items bytes)
call_of (Open secret) = «open» (vec_items secret)
call_of (Tell room) = tell room
call_of (Take bytes) = take (vec_items bytes)
call_of (Key room) = key room
call_of Close = close

-- the end e does the order as the rules say, and is then e'; the event has the answer and the bytes
abbrev pub Performed : {F : Type 0} → Meaning → End F → Order → Event → End F → Type 0
Performed M e o ev e' = Follows M e (call_of o) (answer_of ev.answer) (vec_items ev.written) e'
