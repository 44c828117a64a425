use Rattle.std.proofs.Common.{◌≡◌, List, ℕ, true, subst, sym}
use Rattle.std.specs.List.{list_all}
use Rattle.lf_number.specs.Numbers.{is_decimal_digit}
use Rattle.lf_digits.proofs.DigitTexts.{front-digits}
use Rattle.lf_digits.proofs.digits.front_number.Goals as goal

pub number_of-requires : goal.number_of-requires
number_of-requires c =
    subst (λ (s : List ℕ). list_all is_decimal_digit s ≡ true) (sym c.split_at.ensures.front) (front-digits c.digits_len.result c.args.text.now c.digits_len.ensures.digits)
