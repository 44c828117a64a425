use Rattle.std.proofs.Common.{◌≤◌, ℕ, sym, ap, subst, ◌∙◌}
use Rattle.std.specs.Option.{option_copied}
use Rattle.lf_limits.specs.Limits.{most_length}
use Rattle.lf_format.specs.CommonKinds.{zero_fits}
use Rattle.envoy_front.specs.Length.{number_fits}
use Rattle.envoy_front.specs.Table.{sized}
use Rattle.envoy_front.proofs.SizedTexts.{sized_same}
use Rattle.envoy_front.proofs.table.sized.Goals as goal

pub returns-in_default : goal.returns-in_default
returns-in_default c = c.texts.ensures zero_fits ∙ ap (λ d. sized c.args.class (option_copied d)) (sym c.in_default.is)

pub bounded_texts-requires-clause-most : goal.bounded_texts-requires-clause-most
bounded_texts-requires-clause-most c = subst (λ (n : ℕ). n ≤ most_length) (sym c.number.ensures) (number_fits c.in-Some.digits.now)

pub returns : goal.returns
returns c = sized_same c.args.class c.in-Some.digits.now c.number.result c.bounded_texts.result c.number.ensures (λ most. c.bounded_texts.ensures zero_fits most)
    ∙ ap (λ d. sized c.args.class (option_copied d)) (sym c.in-Some.is)
