-- The calendar here is that of jiff.
use Rattle.std.proofs.Common.{◌≡◌, ℕ, zero, suc, ◌+◌, ◌-◌, ◌*◌, ◌/◌, ◌<◌, ◌≤◌, ◌⊎◌, inl, inr, Bool, cond, refl, sym, ap, subst, ◌∙◌, arith}
use Rattle.std.specs.Prelude.{ℤ, pos, negsuc, neg_ℤ, ◌+ℤ◌, ◌≤ℤ◌, ◌<ℤ◌, unsigned_abs}
use Rattle.std.proofs.lemmas.Bool.Decides.{nat_tests}
use Rattle.std.proofs.Common.{T, Fits, w32, ◌^◌}
use lib.Signed.{non_neg}
use Rattle.jiff_core.proofs.SignedLemmas.{signed_arith}
use Rattle.jiff_core.specs.Calendar.{is_leap_year, days_in_month, days_of_years, days_of_months as jiff_months, day_count as jiff_count, days_from_civil, IsCivilDate}
use Rattle.jiff_core.proofs.CalendarLemmas.{days_from_civil-day_count, day_count-lt_year}
use Rattle.jiff_core.proofs.MarchLemmas.{leap_day as jiff_leap, leap_day-shift, days_of_years-march_days}
use Rattle.lf_layout.specs.Calendar.{is_leap, month_length, days_of_month, days_of_months, days_before_year, day_count, day_number, civil_date, IsDay}
use Rattle.lf_layout.specs.CalendarLaws.{leap_day, dated, date_after-only, of_positive}

pub same-leap : (y : ℕ) → is_leap_year (pos y) ≡ is_leap y
same-leap y = grind (arith, nat_tests)

pub same-length : (y m : ℕ) → days_in_month (pos y) m ≡ month_length y m
same-length y m = grind (arith, nat_tests, same-leap y)

pub same-months : (y m : ℕ) → jiff_months (pos y) m ≡ days_of_months y m
unfolding jiff_months days_of_months
same-months y zero = refl
same-months y (suc m) = omega (arith, same-months y m, same-length y (suc m))

same-years : (y n : ℕ) → n ≡ y + 10000 → 1 ≤ y → 365 * n + n / 4 - n / 100 + n / 400 + 1 ≡ days_before_year y + leap_day y + 3652791
unfolding days_before_year
same-years y n e h = grind (arith, nat_tests)

pub months-none : (y : ℕ) → days_of_months y 0 ≡ 0
unfolding days_of_months
months-none y = refl

-- one month more
pub months-more : (y : ℕ) (leap : Bool) (m days more : ℕ) → leap ≡ is_leap y → days ≡ days_of_months y m → more ≡ days_of_month leap (m + 1) → days + more ≡ days_of_months y (m + 1)
unfolding days_of_months
months-more y leap m days more l e f =
    let n : m + 1 ≡ suc m = omega arith in
    let g : more ≡ month_length y (suc m) = f ∙ ap (λ (b : Bool). days_of_month b (m + 1)) l ∙ ap (month_length y) n in
    let h : days_of_months y (m + 1) ≡ days_of_months y m + month_length y (suc m) = ap (days_of_months y) n in
    omega arith

count-same : (y m d : ℕ) → 1 ≤ y → 1 ≤ d → jiff_count (pos y) m d ≡ day_count y m d + 3652790
unfolding jiff_count
count-same y m d h k =
    let e : unsigned_abs (pos y +ℤ pos 10000) ≡ y + 10000 = omega (arith, signed_arith) in
    let f : days_of_years (unsigned_abs (pos y +ℤ pos 10000)) ≡ days_of_years (y + 10000) = ap days_of_years e in
    let l : jiff_leap (pos y) ≡ leap_day y = ap (λ (b : Bool). cond b 1 0) (same-leap y) in
    omega (arith, f, l, same-months y (m - 1), days_of_years-march_days (y + 10000), leap_day-shift (pos y) (y + 10000) refl, same-years y (y + 10000) refl h)

-- the two day numbers are one
pub same-day : (y m d : ℕ) → 1 ≤ y → 1 ≤ d → days_from_civil (pos y) m d ≡ day_number (dated y m d)
same-day y m d h k =
    omega (arith, signed_arith, days_from_civil-day_count (pos y) m d, count-same y m d h k)

first-count : day_count 1 1 1 ≡ 1
unfolding days_before_year days_of_months
first-count = refl

not-early : (y : ℤ) (m d : ℕ) (day : ℤ) → IsCivilDate y m d → IsDay day → days_from_civil y m d ≡ day → pos 1 ≤ℤ y
not-early y m d day is h e =
    elim (order y) [
      | inl low ↦ low
      | inr early ↦
          absurd (omega (arith, signed_arith, h.0, e, day_count-lt_year y m d (pos 1) 1 1 is (omega arith) early, count-same 1 1 1 (omega arith) (omega arith), first-count, days_from_civil-day_count y m d))
    ]
  where
    order : (y : ℤ) → (pos 1 ≤ℤ y) ⊎ (y <ℤ pos 1)
    order (pos zero) = inr (omega (arith, signed_arith))
    order (pos (suc n)) = inl (omega (arith, signed_arith))
    order (negsuc n) = inr (omega (arith, signed_arith))

-- what jiff gives for a day is its date here
pub jiff-date : (y : ℤ) (m d : ℕ) (day : ℤ) → IsCivilDate y m d → IsDay day → days_from_civil y m d ≡ day → (n : ℕ) × (y ≡ pos n) × (civil_date day ≡ dated n m d)
jiff-date (negsuc n) m d day is h e = absurd (omega (arith, signed_arith, not-early (negsuc n) m d day is h e))
jiff-date (pos n) m d day is h e =
    let low = not-early (pos n) m d day is h e in
    let some : 1 ≤ n = omega (arith, signed_arith, low) in
    let some_day : 1 ≤ d = omega (arith, is.2.0) in
    let number = sym (same-day n m d some some_day) ∙ e in
    let shift : pos 0 ≤ℤ (day +ℤ pos 719162) = omega (arith, signed_arith, h.0) in
    let up = of_positive (day +ℤ pos 719162) shift in
    let place : day_count n m d ≡ unsigned_abs (day +ℤ pos 719162) + 1 = omega (arith, signed_arith, number, up) in (
      n,
      refl,
      date_after-only (unsigned_abs (day +ℤ pos 719162)) (dated n m d) (record {
        some_year = some;
        some_month = omega (arith, is.1.0);
        month_most = omega (arith, is.1.1);
        some_day = some_day;
        day_most = omega (arith, is.2.1, same-length n m);
        place = place;
      }),
    )

pub year-small : (y : ℤ) → (neg_ℤ (pos 9999) ≤ℤ y) → (y ≤ℤ pos 9999) → unsigned_abs y < 2 ^ 15
year-small (pos n) h k = omega (arith, signed_arith)
year-small (negsuc n) h k = omega (arith, signed_arith)

-- a year that isn't negative fits
pub year-fits : (z : ℤ) (n : ℕ) → z ≡ pos n → n < 2 ^ 15 → T (non_neg z) × Fits w32 (unsigned_abs z)
year-fits z n e h =
    subst (λ (x : ℤ). T (non_neg x) × Fits w32 (unsigned_abs x)) (sym e) (tt, record { fits = omega arith })
