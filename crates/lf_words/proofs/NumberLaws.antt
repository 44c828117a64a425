-- A text is at most one number.
use Rattle.std.proofs.Common.{◌≡◌, ℕ, List, ◌<◌, ◌≤◌, ◌^◌, Bool, true, arith, sym, ◌∙◌, ap, subst, refl}
use Rattle.std.specs.Prelude.{Result, Ok, Err, decimal, bytes_eq, not, Option, None, Some, ◌⊎◌}
use Rattle.std.proofs.Common.{inl, inr}
use Rattle.std.specs.Str.Parse.{ParsesUnsigned, digits_value}
use Rattle.std.proofs.lemmas.Fmt.{parse-decimal, decimal_injective, decimal_is_IsNumeral}
use Rattle.std.proofs.lemmas.Slice.Eq.{bytes_eq-Decides}
use Rattle.std.proofs.lemmas.Bool.{cases_lt}
use Rattle.lf_words.proofs.NameLaws.{same_or_not}
use Rattle.lf_words.specs.Command.{IsNumber, IsJobs}
use Rattle.lf_words.specs.Reading.{IsNoNumber, IsNoJobs}

-- What parses as a number is that number or none.
number_parsed : (most : ℕ) (text : List ℕ) (r : Result ℕ (Unit {0})) → most < 2 ^ 64 → ParsesUnsigned 64 10 text r → (n : ℕ) → IsNumber most text n → r ≡ Ok n
number_parsed most text r fits parses n is =
    let low : n ≤ most = is.0 in
    let lt : n < 2 ^ 64 = omega (arith, low, fits) in
    parse-decimal 64 n text r lt lt is.1 parses

pub none_parsed : (most : ℕ) (text : List ℕ) → most < 2 ^ 64 → ParsesUnsigned {E = Unit {0}} 64 10 text (Err tt) → IsNoNumber most text
none_parsed most text fits parses n is =
    let e : Err tt ≡ Ok n = number_parsed most text (Err tt) fits parses n is in cc

abbrev value_or_none : Result ℕ (Unit {0}) → ℕ
value_or_none (Ok n) = n
value_or_none (Err e) = 0

pub other_parsed : (most : ℕ) (text : List ℕ) (m : ℕ) → most < 2 ^ 64 → ParsesUnsigned {E = Unit {0}} 64 10 text (Ok m) → (n : ℕ) → IsNumber most text n → m ≡ n
other_parsed most text m fits parses n is = ap value_or_none (number_parsed most text (Ok m) fits parses n is)

pub otherwise_spelled : (most : ℕ) (text : List ℕ) (m : ℕ) → most < 2 ^ 64 → ParsesUnsigned {E = Unit {0}} 64 10 text (Ok m) → (text ≡ decimal m → ⊥) → IsNoNumber most text
otherwise_spelled most text m fits parses other n is =
    let e : m ≡ n = other_parsed most text m fits parses n is in
    other (is.1 ∙ ap decimal (sym e))

pub too_large : (most : ℕ) (text : List ℕ) (m : ℕ) → most < 2 ^ 64 → ParsesUnsigned {E = Unit {0}} 64 10 text (Ok m) → most < m → IsNoNumber most text
too_large most text m fits parses over n is =
    let e : m ≡ n = other_parsed most text m fits parses n is in
    let low : n ≤ most = is.0 in omega (arith, e, low, over)

pub text_apart : (x y : List ℕ) (r : Bool) → r ≡ not (bytes_eq x y) → r ≡ true → y ≡ x → ⊥
text_apart x y r is e same = let t : bytes_eq x y ≡ true = (bytes_eq-Decides x y).1 (sym same) in cc

pub no_jobs : (found : Option (List ℕ)) (value text : List ℕ) (m : ℕ) → Some value ≡ found → text ≡ value → IsNumber 64 text m → m ≡ 0 → IsNoJobs found
no_jobs found value text m is same number none jobs says =
    let h : IsJobs (Some value) jobs = subst (λ f. IsJobs f jobs) (sym is) says in
    let most : jobs ≤ 64 = h.1.0 in
    let low : m ≤ 64 = number.0 in
    let e : decimal m ≡ decimal jobs = sym number.1 ∙ same ∙ h.1.1 in
    let fits : m < 2 ^ 64 = omega (arith, low) in
    let fits_too : jobs < 2 ^ 64 = omega (arith, most) in
    let equal : m ≡ jobs = decimal_injective m jobs fits fits_too e in
    let one : 1 ≤ jobs = h.0 in
    omega (arith, equal, one, none)

pub number_one : (most : ℕ) (text : List ℕ) (m n : ℕ) → most < 2 ^ 64 → IsNumber most text m → IsNumber most text n → m ≡ n
number_one most text m n fits a b =
    let low : m ≤ most = a.0 in
    let low_too : n ≤ most = b.0 in
    let m_fits : m < 2 ^ 64 = omega (arith, low, fits) in
    let n_fits : n < 2 ^ 64 = omega (arith, low_too, fits) in
    decimal_injective m n m_fits n_fits (sym a.1 ∙ b.1)

-- The only number that the text can be.
the_number : (most : ℕ) (text : List ℕ) → most < 2 ^ 64 → (n : ℕ) → IsNumber most text n → digits_value 10 text ≡ n
the_number most text fits n is =
    let low : n ≤ most = is.0 in
    let n_fits : n < 2 ^ 64 = omega (arith, low, fits) in
    ap (λ (t : List ℕ). digits_value 10 t) is.1 ∙ (decimal_is_IsNumeral n n_fits).1

pub number_cases : (most : ℕ) (text : List ℕ) → most < 2 ^ 64 → ((n : ℕ) × IsNumber most text n) ⊎ IsNoNumber most text
number_cases most text fits =
    elim (same_or_not text (decimal (digits_value 10 text))) [
      | inr other ↦ inr (λ n is. other (is.1 ∙ ap decimal (sym (the_number most text fits n is))))
      | inl e ↦ elim (cases_lt most (digits_value 10 text)) [
        | inl over ↦ inr (λ n is. let same : digits_value 10 text ≡ n = the_number most text fits n is in let low : n ≤ most = is.0 in omega (arith, over, same, low))
        | inr low ↦ inl (digits_value 10 text, (low, e))
      ]
    ]

pub jobs_one : (value : Option (List ℕ)) (m n : ℕ) → IsJobs value m → IsJobs value n → m ≡ n
jobs_one None m n a b = a ∙ sym b
jobs_one (Some text) m n a b = let fits : 64 < 2 ^ 64 = omega arith in number_one 64 text m n fits a.1 b.1

pub jobs_cases : (value : Option (List ℕ)) → ((n : ℕ) × IsJobs value n) ⊎ IsNoJobs value
jobs_cases None = inl (1, refl)
jobs_cases (Some text) =
    let fits : 64 < 2 ^ 64 = omega arith in
    elim (number_cases 64 text fits) [
      | inr none ↦ inr (λ n is. none n is.1)
      | inl x ↦ elim (cases_lt 0 x.0) [
        | inl one ↦ let low : 1 ≤ x.0 = omega (arith, one) in inl (x.0, (low, x.1))
        | inr zero_is ↦ inr (λ n is. let same : n ≡ x.0 = number_one 64 text n x.0 fits is.1 x.1 in let low : 1 ≤ n = is.0 in omega (arith, zero_is, same, low))
      ]
    ]
