use Rattle.std.specs.Prelude.{ℤ, pos, ◌≤ℤ◌, FitsSigned}
use Rattle.std.proofs.Common.{ap, ◌∙◌, rules, to_z, of_z}
use Rattle.std.specs.Int.{w64, int_max, int_min}
use Rattle.std.proofs.lemmas.Int.{to_z-of_z as back}
use Rattle.lf_number.specs.declared.dash_zero.DashZero.{DashZero}
use Rattle.lf_narrow.proofs.SameBounds.{bounds-same}
use Rattle.lf_narrow.specs.Bounds.{greater_not_negative}
use Rattle.lf_narrow.proofs.rules.meet_dashed.Goals as goal

pub returns : goal.returns
returns c =
    let fits_max : FitsSigned w64 c.max.result = search rules in
    let fits_min : FitsSigned w64 c.min.result = search rules in
    let fits_lo : FitsSigned w64 c.args.d.lo = search rules in
    let fits_hi : FitsSigned w64 c.args.d.hi = search rules in
    let made : (lo hi : ℤ) → pos 0 ≤ℤ lo → DashZero = λ lo hi p. record { lo = lo; hi = hi; not_negative = p } in
    bounds-same DashZero made _ _ (int_max c.args.d.lo c.args.lo) (int_min c.args.d.hi c.args.hi) _ (greater_not_negative c.args.d.lo c.args.lo c.args.d.not_negative)
    (back w64 c.max.result fits_max ∙ c.max.ensures.value ∙ ap (λ (x : ℤ). int_max x (to_z w64 (of_z w64 c.args.lo))) (back w64 c.args.d.lo fits_lo) ∙ ap (λ (x : ℤ). int_max c.args.d.lo x) (back w64 c.args.lo c.ranges.lo))
    (back w64 c.min.result fits_min ∙ c.min.ensures.value ∙ ap (λ (x : ℤ). int_min x (to_z w64 (of_z w64 c.args.hi))) (back w64 c.args.d.hi fits_hi) ∙ ap (λ (x : ℤ). int_min c.args.d.hi x) (back w64 c.args.hi c.ranges.hi))
