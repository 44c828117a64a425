use Rattle.std.proofs.Common.{◌≡◌, ◌++◌, List, ℕ, ap, sym, ◌∙◌, rules}
use Rattle.std.specs.Prelude.{ℤ, FitsSigned}
use Rattle.std.specs.Int.{w64}
use Rattle.std.proofs.lemmas.Int.{to_z-of_z}
use Rattle.lf_core.specs.declared.values.Value.{Value}
use Rattle.lf_escape.specs.declared.coding.Coding.TheVariants as coding
use Rattle.lf_json.specs.Text.{text_json, value_json}
use Rattle.lf_number.specs.Numbers.{number_text}
use Rattle.lf_scan.proofs.ExactTexts.{reads-plain}
use Rattle.lf_scan.proofs.Cuts.{cut-parts}
use Rattle.lf_scan.proofs.exact_step.ExactStep.read.Goals as goal

pub returns-in_ok-write_number-in-Some-Num-clause-read : goal.returns-in_ok-write_number-in-Some-Num-clause-read
returns-in_ok-write_number-in-Some-Num-clause-read c =
    let text = c.args.text.now in
    let plain = c.split_at.result.0.now in
    let left = c.split_at.result.1.now in
    let old = c.args.into.now in
    let found = rw c.in-Some-Num.is at c.in_ok-number.ensures in
    let raw : c.args.self.now.code ≡ coding.Raw = search rules in
    let fits : FitsSigned w64 c.in-Some-Num.number = search rules in
    reads-plain c.args.self.now.kind c.args.self.now.code c.in-Some-Num.field-0 text plain left old c.write_number.new.into raw found.0 found.1
    (cut-parts c.stop_at.result text plain left c.split_at.ensures.front c.split_at.ensures.back)
    (c.in_ok-write_number-in-Some-Num.ensures.ok ∙ ap (λ (n : ℤ). old ++ number_text n) (to_z-of_z w64 c.in-Some-Num.number fits) ∙ ap (λ (v : Value). old ++ value_json v) (sym c.in-Some-Num.field-0-is))

pub returns-in_ok-write_text-in-Some-Text-clause-read : goal.returns-in_ok-write_text-in-Some-Text-clause-read
returns-in_ok-write_text-in-Some-Text-clause-read c =
    let text = c.args.text.now in
    let plain = c.split_at.result.0.now in
    let left = c.split_at.result.1.now in
    let old = c.args.into.now in
    let found = rw c.in-Some-Text.is at c.in_ok-number.ensures in
    let raw : c.args.self.now.code ≡ coding.Raw = search rules in
    reads-plain c.args.self.now.kind c.args.self.now.code c.in-Some-Text.field-0 text plain left old c.write_text.new.into raw found.0 found.1
    (cut-parts c.stop_at.result text plain left c.split_at.ensures.front c.split_at.ensures.back)
    (c.in_ok-write_text-in-Some-Text.ensures.ok ∙ ap (λ (s : List ℕ). old ++ text_json s) c.as_slice.ensures ∙ ap (λ (v : Value). old ++ value_json v) (sym c.in-Some-Text.field-0-is))
