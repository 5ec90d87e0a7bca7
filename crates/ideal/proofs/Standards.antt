-- The standard form of (Q, P).
use Rattle.std.proofs.Common.{◌<◌, refl}
use Rattle.field.specs.Meaning.{Meaning}
use Rattle.algebra.specs.Codes.{K}
use Rattle.algebra.proofs.Ideal.{scale, scale_alive, remainder_exact}
use Rattle.poly.specs.Values.{size}
use Rattle.poly.specs.Rules.{Division, Monic}
use Rattle.poly.specs.declared.poly.Poly.{Poly}
use Rattle.ideal.specs.Results.{Standardized}
use Rattle.ideal.specs.declared.ideal.Ideal.{Ideal}
use Rattle.ideal.proofs.Records.{division_is, monic_is}

pub standardized : {M : Meaning} (q p k : Poly) (b : Ideal) → Monic M q b.q → Division M p b.q k b.p → (0 < size b.q → size b.p < size b.q)
    → Standardized M q p b
standardized q p k b monic division less L A x y hx hy alive exact =
    let n = monic_is L monic hx alive in
    let there = scale_alive (K L).r n.c n.e n.inverse x alive in
    let w = division_is L division less hy n.is there in (
      record {
        Q = (K L).r.◌⊗◌ n.c x;
        P = w.s;
        alive = there;
        exact = remainder_exact (K L).r ((K L).r.◌⊗◌ n.c x) y w.s w.k w.sums A.D
            (scale (K L).r n.c n.e n.inverse x ((K L).r.◌⊕◌ A.D ((K L).r.⊖◌ ((K L).r.◌⊗◌ y y))) exact);
      },
      record { c = n.c; e = n.e; q = w.k; inverse = n.inverse; Q_is = refl; P_is = w.sums; standard = record { small = w.short; monic = n.monic } },
      record { Q_is = n.is; P_is = w.s_is },
    )
