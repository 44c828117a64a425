use Rattle.std.proofs.Common.{ℕ, ◌+◌, min, ap, ◌∙◌, of_z, to_z}
use Rattle.std.specs.Prelude.{ℤ, ◌-ℤ◌, unsigned_abs}
use Rattle.std.specs.Int.{w64}
use Rattle.std.proofs.lemmas.Int.{to_z-of_z}
use Rattle.lf_gen.specs.Draws.{span}
use Rattle.lf_gen.proofs.candidate.span.Goals as goal

pub returns-clause-value : goal.returns-clause-value
unfolding span
returns-clause-value c =
    let lo = c.args.lo in
    let hi = c.args.hi in
    let distance =
    c.abs_diff.ensures
    ∙ ap (λ (z : ℤ). unsigned_abs (z -ℤ to_z w64 (of_z w64 lo))) (to_z-of_z w64 hi c.ranges.hi)
    ∙ ap (λ (z : ℤ). unsigned_abs (hi -ℤ z)) (to_z-of_z w64 lo c.ranges.lo) in
    ap (λ (n : ℕ). n + 1) (c.min.ensures ∙ ap (λ (n : ℕ). min n 999999) distance)
