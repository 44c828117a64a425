use Rattle.std.proofs.Common.{◌≡◌, ℕ, ◌<◌, true, get_or}
use Rattle.lf_number.specs.Numbers.{is_decimal_digit}
use Rattle.lf_digits.proofs.digits.digits_len.Given as goal

abbrev pub invariant-loop-at : goal.invariant-loop-at
invariant-loop-at l = (k : ℕ) → k < l.at → is_decimal_digit (get_or l.text k 0) ≡ true
