-- What the parts of a step and of a product give. What comes out in the end stands in Results.
use Rattle.std.specs.Prelude.{◌≡◌, ◌+◌, ◌<◌, ◌≤◌, ◌≢◌}
use Rattle.field.specs.Meaning.{Meaning, Lawful}
use Rattle.ring.proofs.Ring.{Divides}
use Rattle.algebra.specs.Codes.{R, K}
use Rattle.rules.specs.Settings.{Accepted}
use Rattle.poly.specs.Values.{Is}
use Rattle.poly.specs.declared.poly.Poly.{Poly}
use Rattle.ideal.specs.Values.{SettingIs}
use Rattle.ideal.specs.declared.setting.Setting.{Setting}

module _ {M : Meaning} (L : Lawful M) where
  infixl 60 ◌⊕◌
  infixl 70 ◌⊗◌
  infix 80 ⊖◌
  open K L use {r, len}
  open (K L).r use {𝟘, ◌⊕◌, ⊖◌, ◌⊗◌}

  -- q is the quotient of x by y
  pub record Quotient (x y : R L) (q : Poly) : Type 0 where
    pub w : R L
    pub is : Is L q w
    pub exact : x ≡ w ⊗ y

  -- p is the remainder s of x by y
  pub record Remainder (x y : R L) (p : Poly) : Type 0 where
    pub k : R L
    pub s : R L
    pub is : Is L p s
    pub sums : x ≡ k ⊗ y ⊕ s
    pub short : len s < len y

-- r is D − P·P, where P·P fits
abbrev pub LessSquare : Meaning → Setting → Poly → Poly → Type 0
LessSquare M s p r = (L : Lawful M) (A : Accepted L) (x : R L) → SettingIs L A s → Is L p x → (K L).len x + (K L).len x ≤ 129
    → Is L r ((K L).r.◌⊕◌ A.D ((K L).r.⊖◌ ((K L).r.◌⊗◌ x x)))

-- c is (D − P·P) / Q, where Q is not 0 and divides D − P·P, and P·P fits
abbrev pub Cofactor : Meaning → Setting → Poly → Poly → Poly → Type 0
Cofactor M s p q c = (L : Lawful M) (A : Accepted L) (x y : R L) → SettingIs L A s → Is L p x → Is L q y → (K L).len x + (K L).len x ≤ 129 → y ≢ (K L).r.𝟘
    → Divides (K L).r y ((K L).r.◌⊕◌ A.D ((K L).r.⊖◌ ((K L).r.◌⊗◌ x x)))
    → Quotient L ((K L).r.◌⊕◌ A.D ((K L).r.⊖◌ ((K L).r.◌⊗◌ x x))) y c

-- p is the remainder of a·b by n, which is not 0 and so short that two remainders by it can be multiplied
abbrev pub Residue : Meaning → Poly → Poly → Poly → Poly → Type 0
Residue M a b n p = (L : Lawful M) (x y z : R L) → Is L a x → Is L b y → Is L n z → z ≢ (K L).r.𝟘 → (K L).len z ≤ 64
    → Remainder L ((K L).r.◌⊗◌ x y) z p
