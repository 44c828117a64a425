use Rattle.std.proofs.Common.{◌≡◌, ◌++◌, ◌∙◌, ℕ, ℤ, List, ap, subst, rules}
use Rattle.std.specs.Prelude.{OnOk, FitsSigned}
use Rattle.std.specs.Int.{w64}
use Rattle.std.specs.Fmt.{signed_decimal}
use Rattle.std.proofs.lemmas.Int.{to_z-of_z}
use Rattle.lf_number.proofs.StdDecimals.{number_text_std}
use Rattle.lf_json.proofs.writing.write_number.Goals as goal

pub returns-clause-ok : goal.returns-clause-ok
returns-clause-ok c =
    let n = c.args.number in
    let fits : FitsSigned w64 n = search rules in
    let P : List ℕ → Type 0 = λ t. OnOk c.extend.result (c.extend.new.self ≡ c.args.into.now ++ t) in
    let text = c.as_bytes.ensures.value ∙ c.format.ensures.text ∙ ap (λ (z : ℤ). signed_decimal z) (to_z-of_z w64 n fits) ∙ number_text_std n fits in
    subst P text c.extend.ensures.ok
