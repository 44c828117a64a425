use Rattle.std.proofs.Common.{◌≡◌, ◌∙◌, ap, rules}
use Rattle.std.specs.Prelude.{ℤ, FitsSigned}
use Rattle.std.specs.Int.{w64}
use Rattle.std.specs.Fmt.{signed_decimal}
use Rattle.std.proofs.lemmas.Int.{to_z-of_z}
use Rattle.lf_number.specs.Numbers.{number_text}
use Rattle.lf_number.proofs.StdDecimals.{number_text_std}
use Rattle.lf_number.proofs.num_range.is_printed_as.Goals as goal

pub returns : goal.returns
returns c =
    let fits : FitsSigned w64 c.args.n = search rules in
    let same : c.as_bytes.result.now ≡ number_text c.args.n =
    c.as_bytes.ensures.value ∙ c.format.ensures.text ∙ ap (λ (z : ℤ). signed_decimal z) (to_z-of_z w64 c.args.n fits) ∙ number_text_std c.args.n fits in
    rw (← same) (search rules)
