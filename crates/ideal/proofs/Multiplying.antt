-- Products: from the contracts of the polynomial record.
use Rattle.std.proofs.Common.{◌≡◌, ◌<◌, ◌≤◌, ◌≢◌, ◌∙◌, arith}
use Rattle.field.specs.Meaning.{Meaning, Lawful}
use Rattle.ring.proofs.Ring.{Divides}
use Rattle.ring.proofs.Lengths.{left_alive, right_alive}
use Rattle.ring.proofs.Euclid.{divides_trans, divides_len}
use Rattle.algebra.specs.Codes.{R, K}
use Rattle.algebra.specs.Ideals.{StandardForm}
use Rattle.algebra.specs.Products.{Product as ProductOf}
use Rattle.algebra.proofs.Ideal.{remainder_exact}
use Rattle.algebra.proofs.Product.{joined, product_alive, product_exact}
use Rattle.rules.specs.Settings.{Accepted, setting, Ideals}
use Rattle.poly.specs.Values.{size, Is}
use Rattle.poly.specs.Rules.{Sum, Difference, Product, Division, Common}
use Rattle.poly.specs.declared.poly.Poly.{Poly}
use Rattle.ideal.specs.Values.{IdealIs}
use Rattle.ideal.specs.Parts.{Cofactor, Residue}
use Rattle.ideal.specs.Results.{Standardized, Multiplied}
use Rattle.ideal.specs.declared.setting.Setting.{Setting}
use Rattle.ideal.specs.declared.ideal.Ideal.{Ideal}
use Rattle.ideal.proofs.Records.{sum_is, difference_is, product_is, division_is, exact_is, common_is}
use Rattle.ideal.proofs.Products.{residue, product_of, near, form_near}

pub residue_is : {M : Meaning} {a b n k s l t product j u : Poly}
    → Division M a n k s → (0 < size n → size s < size n) → Division M b n l t → (0 < size n → size t < size n)
    → Product M s t product → Division M product n j u → (0 < size n → size u < size n) → Residue M a b n u
residue_is da la db lb times dp lp L x y z hx hy hz alive short =
    let v = division_is L da la hx hz alive in
    let w = division_is L db lb hy hz alive in
    let p = v.short in
    let q = w.short in
    let o = division_is L dp lp (product_is L times v.s_is w.s_is (omega arith)) hz alive in
    record {
      k = _;
      s = o.s;
      is = o.s_is;
      sums = residue (K L).r x y z v.k v.s w.k w.s o.k o.s v.sums w.sums o.sums;
      short = o.short;
    }

module _ {M : Meaning} (L : Lawful M) (A : Accepted L) (x y : Ideals L A) where
  infixl 60 ◌⊕◌
  infixl 70 ◌⊗◌
  infix 80 ⊖◌
  open K L use {r, len}
  open (K L).r use {𝟘, ◌⊕◌, ⊖◌, ◌⊗◌, ⊗-comm}

  -- s with its multipliers, and the quotients a, b and c of Qa, Qb and D − Pa·Pa
  pub record Split (s a b c X Y Z : R L) : Type 0 where
    pub sums : s ≡ X ⊗ x.Q ⊕ Z ⊗ y.Q ⊕ Y ⊗ (x.P ⊕ y.P)
    pub left : x.Q ≡ a ⊗ s
    pub right : y.Q ≡ b ⊗ s
    pub middle : Divides r s (x.P ⊕ y.P)
    pub rest : A.D ⊕ ⊖ (x.P ⊗ x.P) ≡ c ⊗ x.Q

  -- the product, of which o holds the standard form
  abbrev pub Made : Ideal → R L → Type 0
  Made o s = (Qc : R L) × (Pc : R L) × (z : Ideals L A)
      × ProductOf (K L) (setting L A) x y s Qc Pc × StandardForm (K L) (setting L A) Qc Pc z × IdealIs L A o z

  -- what is in standard form at the end is the product
  finished : {q p : Poly} {o : Ideal} (s a b c X X' Y Z k j i t u : R L) → Split s a b c X Y Z
      → X ≡ k ⊗ b ⊕ X' → X' ⊗ (y.P ⊕ ⊖ x.P) ≡ j ⊗ b ⊕ t → Y ⊗ c ≡ i ⊗ b ⊕ u
      → Is L q (a ⊗ b) → Is L p (x.P ⊕ a ⊗ (t ⊕ u)) → Standardized M q p o → Made o s
  finished s a b c X X' Y Z k j i t u parts hX ht hu is_q is_p standard =
      let P : R L = x.P ⊕ a ⊗ (X ⊗ (y.P ⊕ ⊖ x.P) ⊕ Y ⊗ c) in
      let P' : R L = x.P ⊕ a ⊗ (t ⊕ u) in
      let n : R L = k ⊗ (y.P ⊕ ⊖ x.P) ⊕ j ⊕ i in
      let π = product_of (K L) (setting L A) x y s a b c X Y Z parts.sums parts.left parts.right parts.middle parts.rest in
      let h = near r a b c X X' Y x.P (y.P ⊕ ⊖ x.P) k j i t u hX ht hu in
      let exact = remainder_exact r (a ⊗ b) P P' n h A.D (product_exact (K L) (setting L A) x y s (a ⊗ b) P π) in
      let (z, form, hz) = standard L A (a ⊗ b) P' is_q is_p (product_alive (K L) (setting L A) x y s (a ⊗ b) P π) exact in
      (a ⊗ b, P, z, π, form_near (K L) (setting L A) (a ⊗ b) P P' n z h form, hz)

  -- a quotient of Q by s
  module _ (s a : R L) (z : Ideals L A) (e : z.Q ≡ a ⊗ s) where
    part_alive : a ≢ 𝟘
    part_alive = left_alive (K L) a s (λ n. z.alive (e ∙ n))

    part_len : len a ≤ len z.Q
    part_len = divides_len (K L) a z.Q (s, e ∙ ⊗-comm a s) z.alive

  -- from the parts on, all of which fit
  worked : {i j o : Ideal} {pa pb pc px pu py X' Δ t v T W p q : Poly}
      → IdealIs L A i x → IdealIs L A j y → len x.Q ≤ A.m → len y.Q ≤ A.m
      → (s a b c X U Y Z : R L) → Split s a b c (U ⊗ X) Y Z
      → Is L pa a → Is L pb b → Is L pc c → Is L px X → Is L pu U → Is L py Y
      → Residue M pu px pb X' → Difference M j.p i.p Δ → Residue M X' Δ pb t → Residue M py pc pb v
      → Sum M t v T → Product M pa T W → Sum M i.p W p → Product M pa pb q → Standardized M q p o → Made o s
  worked hi hj lx ly s a b c X U Y Z parts ha hb hc hX hU hY mX dΔ mt mv sT pW sp pq standard =
      let high = A.high in
      let la = part_len s a x parts.left in
      let lb = part_len s b y parts.right in
      let alive = part_alive s b y parts.right in
      let X' = mX L U X b hU hX hb alive (omega arith) in
      let t = mt L X'.s (y.P ⊕ ⊖ x.P) b X'.is (difference_is L dΔ hj.P_is hi.P_is) hb alive (omega arith) in
      let u = mv L Y c b hY hc hb alive (omega arith) in
      let lt = t.short in
      let lu = u.short in
      let l = (K L).len_add t.s u.s (len b) (omega arith) (omega arith) in
      finished s a b c (U ⊗ X) X'.s Y Z X'.k t.k u.k t.s u.s parts X'.sums t.sums u.sums (product_is L pq ha hb (omega arith))
      (sum_is L sp hi.P_is (product_is L pW ha (sum_is L sT t.is u.is) (omega arith))) standard

  -- s divides Q of both ideals and the sum of their P, and is U·X·Qa + Z·Qb + Y·(Pa + Pb) for some Z
  pub record DivisorOf (pu px py ps : Poly) : Type 0 where
    pub U : R L
    pub X : R L
    pub Y : R L
    pub Z : R L
    pub s : R L
    pub U_is : Is L pu U
    pub X_is : Is L px X
    pub Y_is : Is L py Y
    pub s_is : Is L ps s
    pub sums : s ≡ U ⊗ X ⊗ x.Q ⊕ Z ⊗ y.Q ⊕ Y ⊗ (x.P ⊕ y.P)
    pub left : Divides r s x.Q
    pub right : Divides r s y.Q
    pub middle : Divides r s (x.P ⊕ y.P)

  pub divisor_of : {i j : Ideal} {px z g sum pu py s : Poly} → Common M i.q j.q px z g → Sum M i.p j.p sum → Common M g sum pu py s
      → IdealIs L A i x → IdealIs L A j y → DivisorOf pu px py s
  divisor_of first sum second hi hj =
      let g = common_is L first hi.Q_is hj.Q_is in
      let h = common_is L second g.d_is (sum_is L sum hi.P_is hj.P_is) in
      record {
        U = h.u;
        X = g.u;
        Y = h.v;
        Z = h.u ⊗ g.v;
        s = h.d;
        U_is = h.u_is;
        X_is = g.u_is;
        Y_is = h.v_is;
        s_is = h.d_is;
        sums = joined r h.d g.d h.u h.v g.u g.v x.Q y.Q (x.P ⊕ y.P) h.sums g.sums;
        left = divides_trans (K L) h.d g.d x.Q h.left g.left;
        right = divides_trans (K L) h.d g.d y.Q h.left g.right;
        middle = h.right;
      }

pub multiplied : {M : Meaning} {σ : Setting} {i j o : Ideal} {px z g sum pu py s a b c k l X' Δ t v T W p q : Poly}
    → Common M i.q j.q px z g → Sum M i.p j.p sum → Common M g sum pu py s
    → Division M i.q s a k → (0 < size s → size k < size s) → Division M j.q s b l → (0 < size s → size l < size s) → Cofactor M σ i.p i.q c
    → Residue M pu px b X' → Difference M j.p i.p Δ → Residue M X' Δ b t → Residue M py c b v
    → Sum M t v T → Product M a T W → Sum M i.p W p → Product M a b q → Standardized M q p o → Multiplied M σ i j o s
multiplied first sum second da la db lb rest mX dΔ mt mv sT pW sp pq standard L A x y hs hi hj tx ty lx ly =
    let d = divisor_of L A x y first sum second hi hj in
    let alive = right_alive (K L) d.left.0 d.s (λ e. x.alive (d.left.1 ∙ e)) in
    let low = tx.small in
    let high = A.high in
    let a = exact_is L (division_is L da la hi.Q_is d.s_is alive) d.left alive in
    let b = exact_is L (division_is L db lb hj.Q_is d.s_is alive) d.right alive in
    let c = rest L A x.P x.Q hs hi.P_is hi.Q_is (omega arith) x.alive x.exact in
    let (Qc, Pc, z, is_product, is_standard, hz) = worked L A x y hi hj lx ly d.s a.w b.w c.w d.X d.U d.Y d.Z
    record { sums = d.sums; left = a.exact; right = b.exact; middle = d.middle; rest = c.exact }
    a.is b.is c.is d.X_is d.U_is d.Y_is mX dΔ mt mv sT pW sp pq standard in
    (d.s, Qc, Pc, z, is_product, is_standard, hz, d.s_is)
