use Rattle.std.proofs.Common.{◌<◌, ◌^◌, ◌∙◌, ap, sym, refl, w64, arith, length}
use Rattle.std.proofs.lemmas.Bool.{eqb-true}
use Rattle.std.proofs.lemmas.Int.{to_z_pos}
use Rattle.lf_number.specs.Numbers.{number_text}
use Rattle.lf_number.proofs.PlainDigits.{is-text}
use Rattle.lf_digits.proofs.DigitTexts.{none-left, zero-is, plain-first}
use Rattle.lf_digits.proofs.digits.number_of.Goals as goal

pub returns-then-is_empty : goal.returns-then-is_empty
returns-then-is_empty c =
    let more = c.in_ok-first.more.now in
    let none = none-left more (eqb-true (length more) 0 (sym c.is_empty.ensures ∙ c.if-is_empty.true)) in
    zero-is c.args.digits.now c.in_ok-first.first.now more c.in_ok-first.ensures.cases.0 c.if-first-eq48.true none

pub returns-then-value : goal.returns-then-value
returns-then-value c =
    let text = c.args.digits.now in
    let value = c.value_of-value.result in
    let small : value < 2 ^ 63 = omega (arith, c.if-value.true) in
    let plain = plain-first text c.in_ok-first.first.now c.in_ok-first.more.now c.in_ok-first.ensures.cases.0 c.requires c.if-first-eq48.false in
    ap number_text (to_z_pos w64 value small) ∙ is-text value text value small plain c.value_of-value.ensures refl
