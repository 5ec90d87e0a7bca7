-- Two lawful places that are equivalent are equal: the heart of the theory. If α I(a) = β I(b), then α Qa = β j with j in I(b), both
-- degrees of j are below m, so j has no y-part and is a multiple of Qb; the same holds the other way, and the multipliers are
-- constants.
use mathlib.Core.Path.{◌≡◌, sym, ◌∙◌, ap, ap₂}
use mathlib.Core.HLevel.{Discrete, hedberg, ¬_prop, is_prop→PathP, Σ_prop_path}
use mathlib.Core.List.{[], ◌∷◌}
use mathlib.Core.Logic.{◌≢◌}
use Prim.Native.Nat.{ℕ, ◌+◌, ◌-◌, ◌≤◌, ◌<◌}
use native.Mathlib.Omega.{arith}
use Rattle.ring.proofs.Ring.{CommRing, ⊗-zero, sub_self→eq, Divides}
use Rattle.ring.proofs.Quote.{quote, auto}
use Rattle.ring.proofs.Hypotheses.{by_hyp, by_hyp₂, by_hyp₃}
use Rattle.ring.proofs.PolyRing.{PolyRing}
use Rattle.ring.proofs.Order.{O, mk, order, norm, norm_mul}
use Rattle.algebra.proofs.Degrees.{degree, norm_alive}
use Rattle.ring.proofs.Lengths.{cancel-⊗, len_pos, ⊗-cancel, left_alive, right_alive, top_cancel}
use Rattle.algebra.proofs.Ideal.{in_Q, in_y}
use Rattle.ring.proofs.Euclid.{small_multiple}
use Rattle.algebra.proofs.Norms.{norm_lens}
use Rattle.algebra.proofs.Sites.{~-sym, O_zero?, plain_alive}
use Rattle.algebra.specs.Settings.{Setting}
use Rattle.algebra.specs.Degrees.{top, bot}
use Rattle.algebra.specs.Ideals.{Ideal, I, Standard, LawfulAt}
use Rattle.algebra.specs.Equivalence.{Site, at, ◌~◌}

module _ {C : Type 0} (R : CommRing C) where
  infixl 70 ◌⊗◌
  infix 80 ⊖◌
  open R use {⊖◌, ◌⊗◌}

  cross_multiply : (α β x y z t : C) → α ⊗ x ≡ β ⊗ y → α ⊗ z ≡ β ⊗ t → β ⊗ (y ⊗ z) ≡ β ⊗ (x ⊗ t)
  cross_multiply α β x y z t h g = by_hyp₂ R (⊖ z) h x g (auto R (α ∷ β ∷ x ∷ y ∷ z ∷ t ∷ []) (search quote depth 20) tt)

  replace_factor : (α β x y z w : C) → α ⊗ x ≡ β ⊗ (y ⊗ w) → β ⊗ y ≡ α ⊗ z → α ⊗ x ≡ α ⊗ (z ⊗ w)
  replace_factor α β x y z w h g = h ∙ by_hyp R w g (auto R (α ∷ β ∷ x ∷ y ∷ z ∷ w ∷ []) (search quote depth 20) tt)

module _ {C R : Type 0} (K : PolyRing C R) (S : Setting K) where
  infixl 60 ◌⊕◌ ◌⊝◌
  infixl 70 ◌⊗◌ ◌·◌
  infix 80 ⊖◌
  infix 50 ◌≈◌
  open K use {r, len}
  open S use {D, m}
  open r use {𝟘, 𝟙, ◌⊕◌, ⊖◌, ◌⊗◌}
  open order r D use {𝟘 as 𝟎, ◌⊗◌ as ◌·◌}

  pub standard_by : (a : Ideal r D) (n : ℕ) → len a.P < len a.Q → len a.Q ≡ n + 1 → K.coef a.Q n ≡ K.k.𝟙 → Standard K S a
  standard_by a n h l e = record { small = h; monic = λ i g. (let z : i ≡ n = omega arith in ap (K.coef a.Q) z ∙ e) }

  -- an ideal is its Q and P
  R_discrete : Discrete R
  R_discrete p q = elim (K.zero? (p ⊕ ⊖ q)) [
    | yes e ↦ yes (sub_self→eq r p q e)
    | no n ↦ no (λ e. n (ap (λ x. x ⊕ ⊖ q) e ∙ r.⊕-neg q))
  ]

  divides_prop : (q x : R) → q ≢ 𝟘 → IsProp (Divides r q x)
  divides_prop q x n h g = Σ_prop_path (λ k. hedberg R_discrete x (k ⊗ q))
      (⊗-cancel K q h.0 g.0 n (r.⊗-comm q h.0 ∙ sym h.1 ∙ g.1 ∙ r.⊗-comm g.0 q))

  pub ideal_path : (a b : Ideal r D) → a.Q ≡ b.Q → a.P ≡ b.P → a ≡ b
  ideal_path a b p q = λ i. record {
    Q = p i;
    P = q i;
    alive = lives i;
    exact = is_prop→PathP (λ j. Divides r (p j) (D ⊕ ⊖ (q j ⊗ q j))) (λ j. divides_prop (p j) (D ⊕ ⊖ (q j ⊗ q j)) (lives j)) a.exact b.exact i;
  }
    where
      lives : (i : 𝕀) → p i ≢ 𝟘
      lives i = is_prop→PathP (λ j. p j ≢ 𝟘) (λ j. ¬_prop) a.alive b.alive i

  abbrev ◌⊝◌ : R → R → R
  a ⊝ b = a ⊕ ⊖ b

  abbrev Nm : O R → R
  Nm = norm r D

  abbrev ι : R → O R
  ι p = mk p 𝟘

  abbrev ◌≈◌ : Site K S → Site K S → Type 0
  p ≈ q = ◌~◌ K S p q

  cancel_O : (a x y : O R) → a ≢ 𝟎 → a · x ≡ a · y → x ≡ y
  cancel_O = cancel-⊗ (order r D) (O_zero? K S) (degree K S).domain

  -- degrees and norms across α·x = β·y
  degrees_across : (α x β y : O R) → α ≢ 𝟎 → x ≢ 𝟎 → β ≢ 𝟎 → y ≢ 𝟎 → α · x ≡ β · y
      → (top K S) α + (top K S) x + ((bot K S) β + (bot K S) y) ≡ (top K S) β + (top K S) y + ((bot K S) α + (bot K S) x)
  degrees_across α x β y nα nx nβ ny e =
      omega (arith, (degree K S).mult α x nα nx, (degree K S).mult β y nβ ny, ap (top K S) e, ap (bot K S) e)

  norm_lens_across : (α x β y : O R) → α ≢ 𝟎 → x ≢ 𝟎 → β ≢ 𝟎 → y ≢ 𝟎 → α · x ≡ β · y
      → len (Nm α) + len (Nm x) ≡ len (Nm β) + len (Nm y)
  norm_lens_across α x β y nα nx nβ ny e =
      sym (K.len_mul (Nm α) (Nm x) (norm_alive K S α nα) (norm_alive K S x nx))
      ∙ ap (λ z. len z + 1) (sym (norm_mul r D α x) ∙ ap Nm e ∙ norm_mul r D β y)
      ∙ K.len_mul (Nm β) (Nm y) (norm_alive K S β nβ) (norm_alive K S y ny)

  norm_len_plain : (p : R) → p ≢ 𝟘 → len (Nm (ι p)) + 1 ≡ len p + len p
  norm_len_plain p n = ap (λ z. len z + 1) same ∙ K.len_mul p p n n
    where
      same : Nm (ι p) ≡ p ⊗ p
      same = auto r (p ∷ D ∷ []) (search quote depth 20) tt

  norm_lens_~ : (a b : Ideal r D) (f g : ℕ) (E : at K S a f ≈ at K S b g) → len (Nm E.α) + len a.Q ≡ len (Nm E.β) + len b.Q
  norm_lens_~ a b f g E = norm_lens K S E.α E.β a b (norm_alive K S E.α E.α_alive) (norm_alive K S E.β E.β_alive) E.to E.from

  -- Qa goes to a multiple of Qb
  Q_to_multiple : (a b : Ideal r D) (f g : ℕ) → f + len a.Q ≤ m → g + len b.Q ≤ m → (E : at K S a f ≈ at K S b g)
      → (w : R) × (E.α · ι a.Q ≡ E.β · ι (b.Q ⊗ w))
  Q_to_multiple a b f g la lb E = (in_j.0, e ∙ ap (λ x. E.β · x) (ap₂ mk whole (flat (K.zero? j.v))))
    where
      j : O R
      j = (E.to (ι a.Q) (in_Q r a.Q a.P)).0

      in_j : I r b j
      in_j = (E.to (ι a.Q) (in_Q r a.Q a.P)).1

      e : E.α · ι a.Q ≡ E.β · j
      e = (E.to (ι a.Q) (in_Q r a.Q a.P)).2

      n_q : ι a.Q ≢ 𝟎
      n_q = plain_alive K S a.Q a.alive

      nj : j ≢ 𝟎
      nj z = (degree K S).domain E.α (ι a.Q) E.α_alive n_q (e ∙ ap (λ x. E.β · x) z ∙ ⊗-zero (order r D) E.β)

      deg : (top K S) E.α + (top K S) (ι a.Q) + ((bot K S) E.β + (bot K S) j) ≡ (top K S) E.β + (top K S) j + ((bot K S) E.α + (bot K S) (ι a.Q))
      deg = degrees_across E.α (ι a.Q) E.β j E.α_alive n_q E.β_alive nj e

      first : (top K S) j + g + 1 ≡ len a.Q + f + (bot K S) j
      first = omega (arith, deg, (degree K S).plain a.Q a.alive, E.off)

      norms : len (Nm j) + 1 ≡ len a.Q + len b.Q
      norms = omega (arith, norm_lens_across E.α (ι a.Q) E.β j E.α_alive n_q E.β_alive nj e, norm_len_plain a.Q a.alive, norm_lens_~ a b f g E)

      flat : Dec (j.v ≡ 𝟘) → j.v ≡ 𝟘
      flat (yes z) = z
      flat (no n) =
          let h : m + len j.v ≤ m = (degree K S).box j m nj n (omega (arith, first, la))
          (omega (arith, first, norms, (degree K S).norms j nj, lb)) in
          absurd (omega (arith, h, len_pos K j.v n))

      whole : j.u ≡ b.Q ⊗ in_j.0
      whole = by_hyp₂ r 𝟙 in_j.1 b.P (flat (K.zero? j.v))
          (auto r (j.u ∷ j.v ∷ b.Q ∷ b.P ∷ in_j.0 ∷ []) (search quote depth 20) tt)

  -- the two factors w and w' are inverse
  factors_inverse : (α β : O R) (q s w w' : R) → α ≢ 𝟎 → q ≢ 𝟘 → α · ι q ≡ β · ι (s ⊗ w) → β · ι s ≡ α · ι (q ⊗ w') → 𝟙 ≡ w' ⊗ w
  factors_inverse α β q s w w' nα nq h g =
      let e : ι q ≡ ι (q ⊗ w') · ι w = cancel_O α (ι q) (ι (q ⊗ w') · ι w) nα
      (replace_factor (order r D) α β (ι q) (ι s) (ι (q ⊗ w')) (ι w) (h ∙ ap (λ x. β · x) split) g) in
      ⊗-cancel K q 𝟙 (w' ⊗ w) nq (by_hyp r 𝟙 (ap (λ x. x.u) e) (auto r (q ∷ w ∷ w' ∷ D ∷ []) (search quote depth 20) tt))
    where
      split : ι (s ⊗ w) ≡ ι s · ι w
      split = ap₂ mk (auto r (s ∷ w ∷ D ∷ []) (search quote depth 20) tt) (auto r (s ∷ w ∷ D ∷ []) (search quote depth 20) tt)

  -- Q, P and the offset are the same
  pub unique_parts : (a b : Ideal r D) (f g : ℕ) → LawfulAt K S a f → LawfulAt K S b g → at K S a f ≈ at K S b g
      → (f ≡ g) × (a.Q ≡ b.Q) × (a.P ≡ b.P)
  unique_parts a b f g la lb E = (omega (arith, lens, offs), sym same_Q, same_P)
    where
      s : (w : R) × (E.α · ι a.Q ≡ E.β · ι (b.Q ⊗ w))
      s = Q_to_multiple a b f g la.fits lb.fits E

      t : (w : R) × (E.β · ι b.Q ≡ E.α · ι (a.Q ⊗ w))
      t = Q_to_multiple b a g f lb.fits la.fits (~-sym K S {p = at K S a f} {q = at K S b g} E)

      w : R
      w = s.0

      w' : R
      w' = t.0

      one : 𝟙 ≡ w' ⊗ w
      one = factors_inverse E.α E.β a.Q b.Q w w' E.α_alive a.alive s.1 t.1

      n_one : w' ⊗ w ≢ 𝟘
      n_one z = omega (arith, K.len_one, ap len (one ∙ z), K.len_zero)

      nw : w ≢ 𝟘
      nw = right_alive K w' w n_one

      nw' : w' ≢ 𝟘
      nw' = left_alive K w' w n_one

      len_w : len w ≡ 1
      len_w = omega (arith, K.len_mul w' w nw' nw, ap len one, K.len_one, len_pos K w nw, len_pos K w' nw')

      len_j : len (b.Q ⊗ w) ≡ len b.Q
      len_j = omega (arith, K.len_mul b.Q w b.alive nw, len_w)

      nj : b.Q ⊗ w ≢ 𝟘
      nj z = omega (arith, ap len z, K.len_zero, len_j, len_pos K b.Q b.alive)

      offs : len a.Q + f ≡ len b.Q + g
      offs = omega (
        arith,
        degrees_across E.α (ι a.Q) E.β (ι (b.Q ⊗ w)) E.α_alive (plain_alive K S a.Q a.alive) E.β_alive (plain_alive K S (b.Q ⊗ w) nj) s.1,
        (degree K S).plain a.Q a.alive,
        (degree K S).plain (b.Q ⊗ w) nj,
        len_j,
        E.off,
      )

      lens : len a.Q ≡ len b.Q
      lens = omega (
        arith,
        norm_lens_across E.α (ι a.Q) E.β (ι (b.Q ⊗ w)) E.α_alive (plain_alive K S a.Q a.alive) E.β_alive (plain_alive K S (b.Q ⊗ w) nj) s.1,
        norm_len_plain a.Q a.alive,
        norm_len_plain (b.Q ⊗ w) nj,
        len_j,
        norm_lens_~ a b f g E,
      )

      j : O R
      j = (E.to (mk a.P 𝟙) (in_y r a.Q a.P)).0

      in_j : I r b j
      in_j = (E.to (mk a.P 𝟙) (in_y r a.Q a.P)).1

      both : ι (b.Q ⊗ w) · mk a.P 𝟙 ≡ ι a.Q · j
      both = cancel_O E.β (ι (b.Q ⊗ w) · mk a.P 𝟙) (ι a.Q · j) E.β_alive
          (cross_multiply (order r D) E.α E.β (ι a.Q) (ι (b.Q ⊗ w)) (mk a.P 𝟙) j s.1 (E.to (mk a.P 𝟙) (in_y r a.Q a.P)).2)

      divides_Q : Divides r a.Q (b.Q ⊝ a.Q)
      divides_Q = (
        j.v ⊗ w' ⊝ 𝟙,
        by_hyp₂ r b.Q one w' (ap (λ x. x.v) both)
            (auto r (a.Q ∷ a.P ∷ b.Q ∷ w ∷ w' ∷ j.u ∷ j.v ∷ D ∷ []) (search quote depth 20) tt),
      )

      n : ℕ
      n = len a.Q - 1

      len_n : len a.Q ≡ n + 1
      len_n = omega (arith, len_pos K a.Q a.alive)

      same_Q : b.Q ≡ a.Q
      same_Q = sub_self→eq r b.Q a.Q (small_multiple K a.Q (b.Q ⊝ a.Q) divides_Q
          (omega (
            arith,
            len_n,
            top_cancel K b.Q a.Q n (omega (arith, lens, len_n)) (omega (arith, len_n))
                (lb.standard.monic n (omega (arith, lens, len_n)) ∙ sym (la.standard.monic n len_n)),
          )))

      divides_P : Divides r a.Q (a.P ⊝ b.P)
      divides_P =
          let h : w ⊗ (a.P ⊝ b.P) ≡ a.Q ⊗ in_j.0 = ⊗-cancel K b.Q (w ⊗ (a.P ⊝ b.P)) (a.Q ⊗ in_j.0) b.alive
          (by_hyp₃ r 𝟙 (ap (λ x. x.u) both) (⊖ b.P) (ap (λ x. x.v) both) a.Q in_j.1
          (auto r (a.Q ∷ a.P ∷ b.Q ∷ b.P ∷ w ∷ j.u ∷ j.v ∷ D ∷ in_j.0 ∷ []) (search quote depth 20) tt)) in (
            in_j.0 ⊗ w',
            by_hyp₂ r (a.P ⊝ b.P) one w' h
                (auto r (a.Q ∷ a.P ∷ b.P ∷ w ∷ w' ∷ in_j.0 ∷ []) (search quote depth 20) tt),
          )

      same_P : a.P ≡ b.P
      same_P = sub_self→eq r a.P b.P (small_multiple K a.Q (a.P ⊝ b.P) divides_P
          (omega (arith, len_n, K.len_add a.P (⊖ b.P) n (omega (arith, len_n, la.standard.small)) (omega (arith, len_n, lens, lb.standard.small, K.len_neg b.P)))))

  pub unique : (a b : Ideal r D) (f g : ℕ) → LawfulAt K S a f → LawfulAt K S b g → at K S a f ≈ at K S b g → (a ≡ b) × (f ≡ g)
  unique a b f g la lb E = let (e, p, q) = unique_parts a b f g la lb E in (ideal_path a b p q, e)
