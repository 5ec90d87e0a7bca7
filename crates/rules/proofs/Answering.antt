-- Questions have one answer.
use Rattle.std.proofs.Common.{rules, ◌≡◌, ℕ, List, [], ◌∷◌, ◌++◌, sym, refl, ap, ◌∙◌, inl, inr}
use Rattle.rules.specs.Questions.{Question, Answer, accepted, refused, Answers, Answered, Hold}

pub accepted≢refused : (a : Answer) (n : ℕ) → a ≡ accepted → a ≡ refused n → ⊥
accepted≢refused = search rules

-- at most one answer
pub answers_unique : (qs : List Question) (a b : Answer) → Answers qs a → Answers qs b → a ≡ b
answers_unique [] a b p q = p ∙ sym q
answers_unique (x ∷ qs) a b (inl p) (inl q) = answers_unique qs a b p.1 q.1
answers_unique (x ∷ qs) a b (inl p) (inr q) = absurd (q.0 p.0)
answers_unique (x ∷ qs) a b (inr p) (inl q) = absurd (p.0 q.0)
answers_unique (x ∷ qs) a b (inr p) (inr q) = p.1 ∙ sym q.1

pub answered : (qs : List Question) (a : Answer) → Answers qs a → Answered qs a
answered qs a h = record { is = h; only = λ b g. answers_unique qs b a g h }

-- every question is decidable
abbrev pub Decided : List Question → Type 0
Decided [] = Unit {0}
Decided (q ∷ qs) = Dec q.asks × Decided qs

-- then there is one
pub answers_exist : (qs : List Question) → Decided qs → (a : Answer) × Answers qs a
answers_exist [] d = (accepted, refl)
answers_exist (q ∷ qs) d = go d.0 (answers_exist qs d.1)
  where
    go : Dec q.asks → (a : Answer) × Answers qs a → (a : Answer) × Answers (q ∷ qs) a
    go (yes h) more = (more.0, inl (h, more.1))
    go (no h) more = (refused q.number, inr (h, refl))

-- accepted: all questions hold
pub answers_hold : (qs : List Question) → Answers qs accepted → Hold qs
answers_hold [] p = tt
answers_hold (q ∷ qs) (inl p) = (p.0, answers_hold qs p.1)
answers_hold (q ∷ qs) (inr p) = absurd (accepted≢refused accepted q.number refl p.1)

pub hold_answers : (qs : List Question) → Hold qs → Answers qs accepted
hold_answers [] h = refl
hold_answers (q ∷ qs) h = inl (h.0, hold_answers qs h.1)

-- questions that hold, before others
pub hold_append : (qs rs : List Question) → Hold qs → Hold rs → Hold (qs ++ rs)
hold_append [] rs h g = g
hold_append (q ∷ qs) rs h g = (h.0, hold_append qs rs h.1 g)

pub hold_then : (qs rs : List Question) (a : Answer) → Hold qs → Answers rs a → Answers (qs ++ rs) a
hold_then [] rs a h g = g
hold_then (q ∷ qs) rs a h g = inl (h.0, hold_then qs rs a h.1 g)

-- questions that others follow: all yes, or the number of the first no
pub accepted_then : (qs rs : List Question) (a : Answer) → Answers qs accepted → Answers rs a → Answers (qs ++ rs) a
accepted_then qs rs a h g = hold_then qs rs a (answers_hold qs h) g

pub refused_then : (qs rs : List Question) (n : ℕ) → Answers qs (refused n) → Answers (qs ++ rs) (refused n)
refused_then [] rs n h = absurd (accepted≢refused (refused n) n h refl)
refused_then (q ∷ qs) rs n (inl h) = inl (h.0, refused_then qs rs n h.1)
refused_then (q ∷ qs) rs n (inr h) = inr h

-- refused n: the question of n is the first whose answer is no
pub record First (qs : List Question) (n : ℕ) : Type 1 where
  pub before : List Question
  pub it : Question
  pub behind : List Question
  pub splits : qs ≡ before ++ (it ∷ behind)
  pub held : Hold before
  pub fails : ¬ it.asks
  pub numbered : it.number ≡ n

pub answers_first : (qs : List Question) (n : ℕ) → Answers qs (refused n) → First qs n
answers_first [] n p = absurd (accepted≢refused accepted n refl (sym p))
answers_first (q ∷ qs) n (inl p) =
    let f = answers_first qs n p.1 in
    record {
      before = q ∷ f.before;
      it = f.it;
      behind = f.behind;
      splits = ap (λ (r : List Question). q ∷ r) f.splits;
      held = (p.0, f.held);
      fails = f.fails;
      numbered = f.numbered;
    }
answers_first (q ∷ qs) n (inr p) =
    record { before = []; it = q; behind = qs; splits = refl; held = tt; fails = p.0; numbered = cc p.1 }
