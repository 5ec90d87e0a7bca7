use Rattle.std.proofs.Common.{rules, sym, refl, inl, inr, arith}
use Rattle.ring.proofs.PolyModel.{poly_ring}
use Rattle.algebra.specs.Codes.{K}
use Rattle.rules.specs.Settings.{EvenDegree, Monic, Coprime}
use Rattle.rules.proofs.Roots.{accepted_exists}
use Rattle.poly.proofs.Bridge.{moved}
use Rattle.ideal.proofs.Records.{size_is}
use Rattle.ideal.proofs.Questions.{refuted, even_yes, even_no, monic_yes, monic_no, coprime_yes, coprime_no}
use Rattle.ideal.proofs.setting.Setting.new.Goals as goal

pub returns-then-len-eq0-clause-made : goal.returns-then-len-eq0-clause-made
returns-then-len-eq0-clause-made g c = λ L x D_is. inr (even_no L D_is (search rules), refl)

pub returns-then-not-is_monic-clause-made : goal.returns-then-not-is_monic-clause-made
returns-then-not-is_monic-clause-made g c = λ L x D_is. inl (
  even_yes L D_is (search rules),
  inr (monic_no L D_is (refuted c.is_monic.ensures c.if-not-is_monic.true), refl),
)

pub returns-then-len-ne1-clause-made : goal.returns-then-len-ne1-clause-made
unfolding poly_ring
returns-then-len-ne1-clause-made g c = λ L x D_is. inl (
  even_yes L D_is (search rules),
  inl (
    monic_yes L D_is (c.is_monic.ensures.0 c.if-not-is_monic.false),
    inr (coprime_no L (c.gcd.ensures L x ((K L).der x) D_is (c.derivative.ensures L x D_is)) (omega (arith, c.len.ensures.0)), refl),
  ),
)

pub returns-clause-made : goal.returns-clause-made
unfolding poly_ring
returns-clause-made g c = λ L x D_is.
    let even : EvenDegree L x = even_yes L D_is (search rules) in
    let monic : Monic L x = monic_yes L D_is (c.is_monic.ensures.0 c.if-not-is_monic.false) in
    let plain : Coprime L x ((K L).der x) =
    coprime_yes L (c.gcd.ensures L x ((K L).der x) D_is (c.derivative.ensures L x D_is)) (omega (arith, c.len.ensures.0)) in
    let (A, same) = accepted_exists L x even monic plain in
    let held = moved L D_is (sym same) in (
      inl (even, inl (monic, inl (plain, refl))),
      (
        A,
        same,
        record {
          D_is = held;
          d_is = c.root-root.ensures L A held (omega (arith, A.D_len, size_is L held));
          m_is = omega (arith, A.D_len, size_is L held);
        },
      ),
    )
