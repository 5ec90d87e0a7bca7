-- Questions, and the answer that they give: the number of the first one whose answer is no.
use Rattle.std.specs.Prelude.{◌≡◌, ℕ, ◌⊎◌, List, [], ◌∷◌, Ok, Err, Result}
use Rattle.field.specs.Refusals.{refusal_number}
use Rattle.field.specs.declared.refusal.Refusal.{Refusal}

-- a question: the number that comes if its answer is no, and what it asks
pub record Question : Type 1 where
  pub number : ℕ
  pub asks : Type 0

-- "Is it so? If not, n."
infix 3 ◌if_not◌
abbrev pub ◌if_not◌ : Type 0 → ℕ → Question
P if_not n = record { number = n; asks = P }

-- what a call answers
pub data Answer : Type 0 where
  accepted : Answer
  refused : ℕ → Answer

-- what a function's result answers: a refusal goes out under the number of its question
abbrev pub answer_of : {T : Type 0} → Result T Refusal → Answer
answer_of (Ok x) = accepted
answer_of (Err e) = refused (refusal_number e)

-- a is the answer to the questions, put in their order: if the first has the answer yes the others decide, if it has the
-- answer no its number comes; where no question is left the call is accepted
abbrev pub Answers : List Question → Answer → Type 0
Answers [] a = a ≡ accepted
Answers (q ∷ qs) a = (q.asks × Answers qs a) ⊎ (¬ q.asks × (a ≡ refused q.number))

-- a is the answer to the questions, and there is no other
pub record Answered (qs : List Question) (a : Answer) : Type 0 where
  pub is : Answers qs a
  pub only : (b : Answer) → Answers qs b → b ≡ a

-- every question has the answer yes
abbrev pub Hold : List Question → Type 0
Hold [] = Unit {0}
Hold (q ∷ qs) = q.asks × Hold qs
