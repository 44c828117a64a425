use Rattle.std.proofs.Common.{◌≡◌, ◌+◌, ◌*◌, ◌-◌, min, sym, ◌∙◌, arith}
use Rattle.lf_map.proofs.Grown.{digit_on}
use Rattle.lf_map.proofs.numbers.+digits.Goals as goal

pub returns-else-not-is_digit : goal.returns-else-not-is_digit
returns-else-not-is_digit t c =
    let k : min c.saturating_add-more.result 18446744073709551615 ≡ min (10 * c.args.value + (c.in-Some.digit.now - 48)) 18446744073709551615 =
    omega (arith, c.saturating_mul.ensures, c.saturating_sub.ensures, c.saturating_add-more.ensures) in
    digit_on c.args.value c.in-Some.digit.now c.saturating_add-more.result c.in-Some.rest.now c.args.text.now c.digits.result c.in-Some.ensures.cases.0 (sym c.is_digit.ensures ∙ c.if-not-is_digit.false) k c.digits.ensures
