-- The polynomials over a field are a PolyRing, so that all that is proved of that record holds of them.
use mathlib.Core.Path.{refl}
use Rattle.ring.proofs.PolyRing.{PolyRing}
use Rattle.ring.proofs.Field.{Field, domain}
use Rattle.ring.proofs.Poly.{Poly, Polynomials, coef, ext, coef_add, coef_neg}
use Rattle.ring.proofs.Sizes.{len, zero_len, len_add, len_neg, len_mul, coef_past, coef_top, coef_mul, zero_poly?}
use Rattle.ring.proofs.Divide.{divide, constant_unit, make_monic}
use Rattle.ring.proofs.Derive.{der, der_add, der_mul}

unfoldable pub poly_ring : {C : Type 0} (F : Field C) → PolyRing C (Poly F)
unfolding Polynomials
poly_ring F = record {
  k = F.ring;
  r = Polynomials F;
  c_zero? = F.zero?;
  c_domain = domain F;
  c_two = F.two;
  zero? = zero_poly? F;
  len = len F;
  coef = coef F;
  ext = ext F;
  len_zero = refl;
  zero_len = zero_len F;
  len_one = refl;
  len_add = len_add F;
  len_neg = len_neg F;
  len_mul = len_mul F;
  coef_add = coef_add F;
  coef_neg = coef_neg F;
  coef_past = coef_past F;
  coef_top = coef_top F;
  coef_mul = coef_mul F;
  unit = constant_unit F;
  monic = make_monic F;
  divide = divide F;
  der = der F;
  der_add = der_add F;
  der_mul = der_mul F;
}
