-- The texts of numbers here are those that the library writes.
use Rattle.std.proofs.Common.{◌≡◌, ℕ, suc, ◌+◌, ◌/◌, ◌%◌, ◌<◌, ◌^◌, List, [], ◌∷◌, ◌++◌, sym, ap, ◌∙◌, arith}
use Rattle.std.specs.Prelude.{ℤ, pos, negsuc, FitsSigned}
use Rattle.std.specs.Int.{w64}
use Rattle.std.proofs.lemmas.Int.{ints}
use Rattle.std.proofs.lemmas.Bool.Decides.{nat_tests}
use Rattle.std.proofs.lemmas.Fmt.{decimal_by_steps}
use Rattle.std.specs.Fmt as fmt
use Rattle.lf_number.specs.Numbers.{digit_letter, decimal, number_text}
use Rattle.lf_number.specs.Digits.{ten, digits-one, digits-more}

small-letter : (d : ℕ) → d < 10 → 48 + d ≡ digit_letter d
unfolding digit_letter
small-letter d h = grind (arith, nat_tests)

pub decimal-std : (n : ℕ) → n < 2 ^ 64 → fmt.decimal n ≡ decimal n
decimal-std n h =
    decimal_by_steps (λ (m : ℕ) (ds : List ℕ). ds ≡ decimal m)
    (λ m g. ap (λ (c : ℕ). c ∷ []) (small-letter m g) ∙ sym (digits-one 10 ten m g))
    (λ m ds g e. ap (λ (xs : List ℕ). xs ++ (48 + m % 10) ∷ []) e ∙ ap (λ (c : ℕ). decimal (m / 10) ++ c ∷ []) (small-letter (m % 10) (omega arith)) ∙ sym (digits-more 10 ten m g))
    n h

pub number_text_std : (n : ℤ) → FitsSigned w64 n → fmt.signed_decimal n ≡ number_text n
number_text_std (pos n) h = decimal-std n (omega (arith, ints))
number_text_std (negsuc n) h = ap (λ (ds : List ℕ). 45 ∷ ds) (decimal-std (suc n) (omega (arith, ints)))
