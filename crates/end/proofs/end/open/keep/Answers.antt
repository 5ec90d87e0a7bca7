use Rattle.std.proofs.Common.{◌≡◌, ℕ, ◌≤◌, length, replicate, sym, ap, ◌∙◌, subst, arith}
use Rattle.end.proofs.Opening.{number_kept}
use Rattle.end.proofs.end.open.keep.Goals as goal

pub returns : goal.returns
returns c h =
    let n : length c.args.distance.now ≡ 32 = omega arith in
    let e = number_kept _ _ c.args.number.now (c.fill.ensures.after (λ y q. q) ∙ ap (λ (k : ℕ). replicate k 0) n) c.copy_from_slice.ensures.after c.requires in
    c.lessen.ensures.left (subst (λ (k : ℕ). c.args.by ≤ k) (sym e) h) ∙ e
