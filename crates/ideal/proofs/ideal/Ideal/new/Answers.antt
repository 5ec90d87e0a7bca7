use Rattle.std.proofs.Common.{◌≡◌, ◌<◌, ◌≤◌, ◌≢◌, rules, sym, refl, ◌∙◌, inl, inr, true≢false, arith}
use Rattle.std.proofs.lemmas.Bool.{eqb-true, eq-eqb}
use Rattle.ring.proofs.PolyModel.{poly_ring}
use Rattle.ring.proofs.Poly.{Polynomials}
use Rattle.algebra.specs.Codes.{K}
use Rattle.poly.specs.Values.{size}
use Rattle.ideal.proofs.Records.{size_is}
use Rattle.ideal.proofs.Questions.{refuted, monic_yes, monic_no, divides_yes, divides_no, ideal_made}
use Rattle.ideal.proofs.ideal.Ideal.new.Goals as goal

pub returns-then-not-contains : goal.returns-then-not-contains
returns-then-not-contains g c = record {
  made = λ L A x y S-is Q_is P_is.
      let out : ¬ ((1 ≤ size c.args.q.now) × (size c.args.q.now ≤ c.args.curve.now.setting.half)) = search rules in
      inr ((λ h. out (omega (arith, h, size_is L Q_is), omega (arith, h, size_is L Q_is, S-is.m_is))), refl);
  same = tt;
}

pub returns-then-not-is_monic : goal.returns-then-not-is_monic
returns-then-not-is_monic g c = record {
  made = λ L A x y S-is Q_is P_is.
      let within : (1 ≤ size c.args.q.now) × (size c.args.q.now ≤ c.args.curve.now.setting.half) = search rules in
      inl (
        (omega (arith, within.0, size_is L Q_is), omega (arith, within.1, size_is L Q_is, S-is.m_is)),
        inr (monic_no L Q_is (refuted c.is_monic.ensures c.if-not-is_monic.true), refl),
      );
  same = tt;
}

pub returns-then-len : goal.returns-then-len
returns-then-len g c = record {
  made = λ L A x y S-is Q_is P_is.
      let within : (1 ≤ size c.args.q.now) × (size c.args.q.now ≤ c.args.curve.now.setting.half) = search rules in
      inl (
        (omega (arith, within.0, size_is L Q_is), omega (arith, within.1, size_is L Q_is, S-is.m_is)),
        inl (
          monic_yes L Q_is (c.is_monic.ensures.0 c.if-not-is_monic.false),
          inr ((λ h. omega (arith, h, size_is L P_is, size_is L Q_is)), refl),
        ),
      );
  same = tt;
}

pub returns-then-not-is_zero : goal.returns-then-not-is_zero
unfolding poly_ring Polynomials
returns-then-not-is_zero g c = record {
  made = λ L A x y S-is Q_is P_is.
      let within : (1 ≤ size c.args.q.now) × (size c.args.q.now ≤ c.args.curve.now.setting.half) = search rules in
      let low : (K L).len y < (K L).len x = omega (arith, size_is L P_is, size_is L Q_is) in
      let rest = c.less_square.ensures L A y S-is P_is (omega (arith, within.1, size_is L Q_is, A.high, S-is.m_is)) in
      let left : size c.div_rem.result.1 ≢ 0 = λ e. true≢false (sym (c.is_zero.ensures ∙ eq-eqb _ _ e) ∙ c.if-not-is_zero.true) in
      inl (
        (omega (arith, within.0, size_is L Q_is), omega (arith, within.1, size_is L Q_is, S-is.m_is)),
        inl (
          monic_yes L Q_is (c.is_monic.ensures.0 c.if-not-is_monic.false),
          inl (
            low,
            inr (divides_no L (c.div_rem.ensures.is L _ x rest Q_is) Q_is (c.div_rem.ensures.less (omega arith)) left, refl),
          ),
        ),
      );
  same = tt;
}

pub returns : goal.returns
unfolding poly_ring Polynomials
returns g c = record {
  made = λ L A x y S-is Q_is P_is.
      let within : (1 ≤ size c.args.q.now) × (size c.args.q.now ≤ c.args.curve.now.setting.half) = search rules in
      let low : (K L).len y < (K L).len x = omega (arith, size_is L P_is, size_is L Q_is) in
      let rest = c.less_square.ensures L A y S-is P_is (omega (arith, within.1, size_is L Q_is, A.high, S-is.m_is)) in
      let left : size c.div_rem.result.1 ≡ 0 = eqb-true _ _ (sym c.is_zero.ensures ∙ c.if-not-is_zero.false) in
      ideal_made L A x y (omega (arith, within.0, size_is L Q_is), omega (arith, within.1, size_is L Q_is, S-is.m_is))
      (monic_yes L Q_is (c.is_monic.ensures.0 c.if-not-is_monic.false))
      low
      (divides_yes L (c.div_rem.ensures.is L _ x rest Q_is) left) _ Q_is P_is;
  same = (refl, refl);
}
