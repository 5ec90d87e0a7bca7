-- The degree at one infinite place, proved. For α = u + v·y the polynomials plus = u + v·d and minus = u − v·d stand for the values
-- at the two places; as D − d·d is short, the longer of the two is right, and the norm gives the other. First it is shown that the
-- norm is 0 for 0 alone, so that the ring of u + v·y has no zero divisors.
use mathlib.Core.Path.{◌≡◌, sym, ◌∙◌, ap, ap₂}
use mathlib.Core.List.{[], ◌∷◌}
use mathlib.Core.Logic.{◌≢◌, if_pos, if_neg}
use Prim.Native.Nat.{ℕ, zero, suc, ◌+◌, ◌-◌, ◌≤◌, ◌<◌}
use native.Mathlib.Omega.{arith}
use Rattle.std.proofs.lemmas.Grind.{common_steps}
use native.Mathlib.Decide.{dec_le}
use Rattle.ring.proofs.Ring.{sub_self→eq}
use Rattle.ring.proofs.Quote.{quote, auto}
use Rattle.ring.proofs.Hypotheses.{by_hyp, by_hyp₂, by_hyp₃}
use Rattle.ring.proofs.PolyRing.{PolyRing}
use Rattle.ring.proofs.Order.{O, mk, order, conj, norm, norm_mul, times_comm}
use Rattle.ring.proofs.Lengths as L
use Rattle.algebra.specs.Settings.{Setting}
use Rattle.algebra.specs.Degrees.{Degree, plus_part, minus_part, top, bot}

module _ {C R : Type 0} (K : PolyRing C R) (S : Setting K) where
  infixl 60 ◌⊕◌
  infixl 70 ◌⊗◌ ◌·◌
  infix 80 ⊖◌
  open K.r use {𝟘, 𝟙, ◌⊕◌, ⊖◌, ◌⊗◌}
  open K use {len, zero?}
  open S use {D, d, m}

  -- D is no square, since no square of degree 1 or more divides it
  pub not_square : (p : R) → D ≢ p ⊗ p
  not_square p e =
      let one : len p ≡ 1 = S.squarefree p 𝟙 (e ∙ sym (K.r.⊗-one (p ⊗ p))) in
      let short : len (p ⊗ p) ≤ 1 = L.len_mul_≤ K p p 1 (omega arith) in
      omega (arith, ap len e, S.m_big, S.D_len)

  -- y is no quotient u / v: with u = t v + s, a smaller denominator is s
  pub no_root : (n : ℕ) (u v : R) → len v ≤ n → v ≢ 𝟘 → u ⊗ u ≢ v ⊗ v ⊗ D
  no_root zero u v h nv e = omega (arith, L.len_pos K v nv)
  no_root (suc n) u v h nv e =
      let (t, s, eq, lt) = K.divide u v nv in
      elim (zero? s) [
        | yes z ↦
            let w : v ⊗ (v ⊗ (D ⊕ ⊖ (t ⊗ t))) ≡ 𝟘 =
            by_hyp₃ K.r (⊖ 𝟙) e (u ⊕ t ⊗ v) eq (u ⊕ t ⊗ v) z
            (auto K.r (D ∷ u ∷ v ∷ t ∷ s ∷ []) (search quote depth 20) tt) in
            let sq : D ≡ t ⊗ t = sub_self→eq K.r D (t ⊗ t) (L.cancel_zero K v _ nv (L.cancel_zero K v _ nv w)) in
            not_square t sq
        | no ns ↦
            let u' : R = (D ⊕ ⊖ (t ⊗ t)) ⊗ v ⊕ ⊖ (t ⊗ s) in
            let w : u' ⊗ v ≡ s ⊗ u =
            by_hyp₂ K.r (⊖ 𝟙) e (u ⊕ t ⊗ v) eq (auto K.r (D ∷ u ∷ v ∷ t ∷ s ∷ []) (search quote depth 20) tt) in
            let x : v ⊗ (v ⊗ (u' ⊗ u' ⊕ ⊖ (s ⊗ s ⊗ D))) ≡ 𝟘 =
            by_hyp₂ K.r (u' ⊗ v ⊕ s ⊗ u) w (s ⊗ s) e
            (auto K.r (D ∷ u ∷ v ∷ t ∷ s ∷ []) (search quote depth 20) tt) in
            no_root n u' s (omega arith) ns
            (sub_self→eq K.r (u' ⊗ u') (s ⊗ s ⊗ D) (L.cancel_zero K v _ nv (L.cancel_zero K v _ nv x)))
      ]

  abbrev ◌·◌ : O R → O R → O R
  a · b = (order K.r D).◌⊗◌ a b

  abbrev bar : O R → O R
  bar a = conj K.r D a

  abbrev N : O R → R
  N a = norm K.r D a

  abbrev nil : O R
  nil = (order K.r D).𝟘

  pub norm_alive : (a : O R) → a ≢ nil → N a ≢ 𝟘
  norm_alive a na e = elim (zero? a.v) [
    | yes z ↦
        let w : a.u ⊗ a.u ≡ 𝟘 = by_hyp₂ K.r 𝟙 e (a.v ⊗ D) z
        (auto K.r (D ∷ a.u ∷ a.v ∷ []) (search quote depth 20) tt) in
        elim (zero? a.u) [ yes y ↦ na (ap₂ mk y z) | no nu ↦ L.domain K a.u a.u nu nu w ]
    | no nv ↦ no_root (len a.v) a.u a.v (omega arith) nv (sub_self→eq K.r (a.u ⊗ a.u) (a.v ⊗ a.v ⊗ D) e)
  ]

  no_zero_divisors : (a b : O R) → a ≢ nil → b ≢ nil → a · b ≢ nil
  no_zero_divisors a b na nb e = L.domain K (N a) (N b) (norm_alive a na) (norm_alive b nb)
      (sym (norm_mul K.r D a b) ∙ ap N e ∙ auto K.r (D ∷ []) (search quote depth 20) tt)

  pub conj_alive : (a : O R) → a ≢ nil → bar a ≢ nil
  conj_alive = grind (arith, common_steps)

  -- the two places, and the small difference D − d²
  abbrev E : R
  E = D ⊕ ⊖ (d ⊗ d)

  abbrev plus : O R → R
  plus a = plus_part K S a

  abbrev minus : O R → R
  minus a = minus_part K S a

  abbrev X : O R → O R → R
  X a b = a.v ⊗ b.v ⊗ E

  plus_mul : (a b : O R) → plus (a · b) ≡ plus a ⊗ plus b ⊕ X a b
  plus_mul a b = auto K.r (D ∷ d ∷ a.u ∷ a.v ∷ b.u ∷ b.v ∷ []) (search quote depth 20) tt

  minus_mul : (a b : O R) → minus (a · b) ≡ minus a ⊗ minus b ⊕ X a b
  minus_mul a b = auto K.r (D ∷ d ∷ a.u ∷ a.v ∷ b.u ∷ b.v ∷ []) (search quote depth 20) tt

  plus_conj : (a : O R) → plus (bar a) ≡ minus a
  plus_conj a = auto K.r (d ∷ a.u ∷ a.v ∷ []) (search quote depth 20) tt

  minus_conj : (a : O R) → minus (bar a) ≡ plus a
  minus_conj a = auto K.r (d ∷ a.u ∷ a.v ∷ []) (search quote depth 20) tt

  norm_conj : (a : O R) → N (bar a) ≡ N a
  norm_conj a = auto K.r (D ∷ a.u ∷ a.v ∷ []) (search quote depth 20) tt

  norm_parts : (a : O R) → N a ≡ plus a ⊗ minus a ⊕ ⊖ X a a
  norm_parts a = auto K.r (D ∷ d ∷ a.u ∷ a.v ∷ []) (search quote depth 20) tt

  plus_back : (a b : O R) → plus (a · b · bar b) ≡ plus a ⊗ N b
  plus_back a b = auto K.r (D ∷ d ∷ a.u ∷ a.v ∷ b.u ∷ b.v ∷ []) (search quote depth 20) tt

  minus_back : (a b : O R) → minus (a · b · bar a) ≡ minus b ⊗ N a
  minus_back a b = auto K.r (D ∷ d ∷ a.u ∷ a.v ∷ b.u ∷ b.v ∷ []) (search quote depth 20) tt

  -- a bound on plus and minus bounds v, and is not 0
  v_len : (a : O R) (n : ℕ) → len (plus a) ≤ n → len (minus a) ≤ n → a.v ≢ 𝟘 → len a.v + m ≤ n
  v_len a n hP hQ nv =
      let w : R = a.v ⊗ d in
      let diff : w ⊕ w ≡ plus a ⊕ ⊖ minus a = auto K.r (d ∷ a.u ∷ a.v ∷ []) (search quote depth 20) tt in
      let nd : d ≢ 𝟘 = L.pos_len K d (omega arith) in
      omega (arith, L.twice K w, ap len diff, L.len_sub K (plus a) (minus a) n hP hQ, K.len_mul a.v d nv nd)

  bound_pos : (a : O R) (n : ℕ) → len (plus a) ≤ n → len (minus a) ≤ n → a ≢ nil → 1 ≤ n
  bound_pos a n hP hQ na = elim (zero? a.v) [
    | yes z ↦ elim (zero? a.u) [
      | yes y ↦ absurd (na (ap₂ mk y z))
      | no nu ↦
          let same : plus a ≡ a.u = by_hyp K.r d z (auto K.r (d ∷ a.u ∷ a.v ∷ []) (search quote depth 20) tt) in
          omega (arith, ap len same, L.len_pos K a.u nu)
    ]
    | no nv ↦ omega (arith, v_len a n hP hQ nv)
  ]

  rest_short : (a b : O R) (n k : ℕ) → a ≢ nil → b ≢ nil → len (plus a) ≤ n → len (minus a) ≤ n → len (plus b) ≤ k → len (minus b) ≤ k
      → len (X a b) + 2 ≤ n + k
  rest_short a b n k na nb hP hQ gP gQ =
      let n1 = bound_pos a n hP hQ na in
      let k1 = bound_pos b k gP gQ nb in
      elim (zero? a.v) [
        | yes z ↦ omega (
          arith,
          L.empty K (X a b) (by_hyp K.r (b.v ⊗ E) z
              (auto K.r (a.v ∷ b.v ∷ D ∷ d ∷ []) (search quote depth 20) tt)),
        )
        | no nv ↦ elim (zero? b.v) [
          | yes z ↦ omega (
            arith,
            L.empty K (X a b) (by_hyp K.r (a.v ⊗ E) z
                (auto K.r (a.v ∷ b.v ∷ D ∷ d ∷ []) (search quote depth 20) tt)),
          )
          | no nw ↦
              let one : 1 ≤ len (a.v ⊗ b.v) = L.len_pos K (a.v ⊗ b.v) (L.domain K a.v b.v nv nw) in
              omega (
                arith,
                v_len a n hP hQ nv,
                v_len b k gP gQ nw,
                K.len_mul a.v b.v nv nw,
                L.len_mul_≤ K (a.v ⊗ b.v) E (len (a.v ⊗ b.v) + m - 1) (omega (arith, S.rest)),
              )
        ]
      ]

  lead_plus : (a b : O R) → a ≢ nil → b ≢ nil → len (minus a) ≤ len (plus a) → len (minus b) ≤ len (plus b)
      → (len (plus (a · b)) + 1 ≡ len (plus a) + len (plus b)) × (len (minus (a · b)) ≤ len (plus (a · b)))
  lead_plus a b na nb ha hb =
      let n1 = bound_pos a (len (plus a)) (omega arith) ha na in
      let k1 = bound_pos b (len (plus b)) (omega arith) hb nb in
      let w = L.lead K (plus a) (minus a) (plus b) (minus b) (X a b) n1 k1 ha hb
      (rest_short a b (len (plus a)) (len (plus b)) na nb (omega arith) ha (omega arith) hb) in
      let e_p = ap len (plus_mul a b) in
      let e_q = ap len (minus_mul a b) in
      (omega arith, omega arith)

  lead_minus : (a b : O R) → a ≢ nil → b ≢ nil → len (plus a) ≤ len (minus a) → len (plus b) ≤ len (minus b)
      → (len (minus (a · b)) + 1 ≡ len (minus a) + len (minus b)) × (len (plus (a · b)) ≤ len (minus (a · b)))
  lead_minus a b na nb ha hb =
      let n1 = bound_pos a (len (minus a)) ha (omega arith) na in
      let k1 = bound_pos b (len (minus b)) hb (omega arith) nb in
      let w = L.lead K (minus a) (plus a) (minus b) (plus b) (X a b) n1 k1 ha hb
      (rest_short a b (len (minus a)) (len (minus b)) na nb ha (omega arith) hb (omega arith)) in
      let e_p = ap len (plus_mul a b) in
      let e_q = ap len (minus_mul a b) in
      (omega arith, omega arith)

  abbrev test : (a : O R) → Dec (len (minus a) ≤ len (plus a))
  test a = dec_le (len (minus a)) (len (plus a))

  degree_plus : (a : O R) → len (minus a) ≤ len (plus a) → (top K S) a + 1 ≡ len (plus a) + (bot K S) a
  unfolding top bot
  degree_plus a h = omega (arith, if_pos (test a) h (len (plus a)) (len (N a)), if_pos (test a) h 1 (len (minus a)))

  degree_minus : (a : O R) → a ≢ nil → len (plus a) ≤ len (minus a) → (top K S) a + len (minus a) ≡ len (N a) + (bot K S) a
  unfolding top bot
  degree_minus a na h = elim (test a) [
    | yes g ↦
        let n1 = bound_pos a (len (plus a)) (omega arith) g na in
        let x : len (⊖ X a a) + 2 ≤ len (plus a) + len (minus a) =
        omega (arith, rest_short a a (len (plus a)) (len (plus a)) na na (omega arith) g (omega arith) g) in
        omega (
          arith,
          degree_plus a g,
          ap len (norm_parts a),
          if_pos (test a) g 1 (len (minus a)),
          (L.lead K (plus a) (minus a) (minus a) (plus a) (⊖ X a a) n1 (omega arith) g h x).0,
        )
    | no g ↦ omega (arith, if_neg (test a) g (len (plus a)) (len (N a)), if_neg (test a) g 1 (len (minus a)))
  ]

  -- the degree of a product
  abbrev Mult : O R → O R → Type 0
  Mult a b = top K S (a · b) + ((bot K S) a + (bot K S) b) ≡ ((top K S) a + (top K S) b) + (bot K S) (a · b)

  mult_mixed : (a b : O R) → a ≢ nil → b ≢ nil → len (minus a) ≤ len (plus a) → len (plus b) ≤ len (minus b) → Mult a b
  mult_mixed a b na nb ha hb =
      let nN = norm_alive b nb in
      let nM = norm_alive a na in
      let nc = no_zero_divisors a b na nb in
      let e₁ = degree_plus a ha in
      let e₂ = degree_minus b nb hb in
      elim (test (a · b)) [
        | yes g ↦
            let n_p = L.pos_len K (plus a) (bound_pos a (len (plus a)) (omega arith) ha na) in
            let w = (lead_plus (a · b) (bar b) nc (conj_alive b nb) g (omega (arith, ap len (plus_conj b), ap len (minus_conj b)))).0 in
            omega (arith, degree_plus (a · b) g, w, ap len (plus_back a b), K.len_mul (plus a) (N b) n_p nN, ap len (plus_conj b))
        | no g ↦
            let n_q = L.pos_len K (minus b) (bound_pos b (len (minus b)) hb (omega arith) nb) in
            let w = (lead_minus (a · b) (bar a) nc (conj_alive a na) (omega arith) (omega (arith, ap len (plus_conj a), ap len (minus_conj a)))).0 in
            omega (
              arith,
              degree_minus (a · b) nc (omega arith),
              w,
              ap len (minus_back a b),
              K.len_mul (minus b) (N a) n_q nM,
              ap len (minus_conj a),
              ap len (norm_mul K.r D a b),
              K.len_mul (N a) (N b) nM nN,
            )
      ]

  mult : (a b : O R) → a ≢ nil → b ≢ nil → Mult a b
  mult a b na nb = elim (test a) [
    | yes ha ↦ elim (test b) [
      | yes hb ↦
          let w = lead_plus a b na nb ha hb in
          omega (arith, degree_plus (a · b) w.1, w.0, degree_plus a ha, degree_plus b hb)
      | no hb ↦ mult_mixed a b na nb ha (omega arith)
    ]
    | no ha ↦ elim (test b) [
      | yes hb ↦
          let c = times_comm K.r D a b in
          let w : (top K S) (b · a) + ((bot K S) b + (bot K S) a) ≡ ((top K S) b + (top K S) a) + (bot K S) (b · a) = mult_mixed b a nb na hb (omega arith) in
          omega (arith, w, ap (top K S) c, ap (bot K S) c)
      | no hb ↦
          let w = lead_minus a b na nb (omega arith) (omega arith) in
          omega (
            arith,
            degree_minus (a · b) (no_zero_divisors a b na nb) w.1,
            w.0,
            degree_minus a na (omega arith),
            degree_minus b nb (omega arith),
            ap len (norm_mul K.r D a b),
            K.len_mul (N a) (N b) (norm_alive a na) (norm_alive b nb),
          )
    ]
  ]

  plain : (p : R) → p ≢ 𝟘 → (top K S) (mk p 𝟘) + 1 ≡ len p + (bot K S) (mk p 𝟘)
  plain p np =
      let e_p : plus (mk p 𝟘) ≡ p = auto K.r (d ∷ p ∷ []) (search quote depth 20) tt in
      let e_q : minus (mk p 𝟘) ≡ p = auto K.r (d ∷ p ∷ []) (search quote depth 20) tt in
      omega (arith, degree_plus (mk p 𝟘) (omega (arith, ap len e_p, ap len e_q)), ap len e_p)

  norms : (a : O R) → a ≢ nil → (top K S) a + (top K S) (bar a) + 1 ≡ len (N a) + ((bot K S) a + (bot K S) (bar a))
  norms a na =
      let e_p = ap len (plus_conj a) in
      let e_q = ap len (minus_conj a) in
      let eN = ap len (norm_conj a) in
      elim (test a) [
        | yes h ↦ omega (arith, degree_plus a h, degree_minus (bar a) (conj_alive a na) (omega arith))
        | no h ↦ omega (arith, degree_minus a na (omega arith), degree_plus (bar a) (omega arith))
      ]

  box : (a : O R) (n : ℕ) → a ≢ nil → a.v ≢ 𝟘 → (top K S) a < n + (bot K S) a → (top K S) (bar a) < n + (bot K S) (bar a) → m + len a.v ≤ n
  box a n na nv h₁ h₂ =
      let e_p = ap len (plus_conj a) in
      let e_q = ap len (minus_conj a) in
      elim (test a) [
        | yes h ↦ omega (arith, degree_plus a h, v_len a (len (plus a)) (omega arith) h nv)
        | no h ↦ omega (arith, degree_plus (bar a) (omega arith), v_len a (len (minus a)) (omega arith) (omega arith) nv)
      ]

  step : (p : R) → p ⊕ d ≢ 𝟘 → (top K S) (mk p 𝟙) + 1 ≡ len (p ⊕ d) + (bot K S) (mk p 𝟙)
  step p np =
      let a : O R = mk p 𝟙 in
      let e_p : plus a ≡ p ⊕ d = auto K.r (d ∷ p ∷ []) (search quote depth 20) tt in
      let eL = ap len e_p in
      elim (test a) [
        | yes h ↦ omega (arith, degree_plus a h)
        | no h ↦
            let n_p : plus a ≢ 𝟘 = L.pos_len K (plus a) (omega (arith, L.len_pos K (p ⊕ d) np)) in
            let n_q : minus a ≢ 𝟘 = L.pos_len K (minus a) (omega arith) in
            let diff : ⊖ minus a ⊕ plus a ≡ d ⊕ d = auto K.r (d ∷ p ∷ []) (search quote depth 20) tt in
            let long : len (⊖ minus a ⊕ plus a) ≡ len (⊖ minus a) = L.longer K (⊖ minus a) (plus a) (omega arith) in
            let q : len (minus a) ≡ m + 1 = omega (arith, ap len diff, long, L.twice K d) in
            let na : a ≢ nil = λ e. L.pos_len K 𝟙 (omega (arith, K.len_one)) (ap (λ x. x.v) e) in
            let e_x : ⊖ X a a ≡ ⊖ (D ⊕ ⊖ (d ⊗ d)) = auto K.r (d ∷ D ∷ []) (search quote depth 20) tt in
            let pq : len (plus a ⊗ minus a) + 1 ≡ len (plus a) + len (minus a) = K.len_mul (plus a) (minus a) n_p n_q in
            let x : len (⊖ X a a) < len (plus a ⊗ minus a) =
            omega (arith, ap len e_x, L.len_pos K (plus a) n_p) in
            omega (arith, degree_minus a na (omega arith), ap len (norm_parts a), L.longer K (plus a ⊗ minus a) (⊖ X a a) x)
      ]

  pub degree : Degree K S
  degree = record {
    domain = no_zero_divisors;
    mult = mult;
    plain = plain;
    norms = norms;
    box = box;
    step = step;
  }
