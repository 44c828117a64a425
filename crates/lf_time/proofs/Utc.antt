-- A moment at the offset 0 is one of the years 0001 to 9999 where its civil day is.
use Rattle.std.proofs.Common.{◌≡◌, ℕ, true, false, to_z, of_z, arith, subst, sym, ap, ◌∙◌}
use Rattle.std.specs.Prelude.{FitsSigned, ℤ, pos, neg_ℤ, ◌≤ℤ◌}
use Rattle.std.specs.Int.{w64}
use Rattle.std.proofs.lemmas.Int.{ints, to_z-of_z}
use Rattle.lf_core.specs.declared.values.Moment.{Moment}
use Rattle.lf_layout.specs.Calendar.{IsDay}
use Rattle.lf_layout.specs.Layouts.{IsMoment, civil_day, second_of_day}
use Rattle.lf_layout.specs.LayoutLaws.{day-in, seconds-in}
use Rattle.lf_layout.specs.ReadingLaws.{second_of_day-less, seconds-parts}
use Rattle.lf_time.specs.Instants.{epoch_of, utc_of}

-- a moment at the offset 0
abbrev pub record_of : ℤ → ℕ → Moment
record_of seconds millis = record { seconds = seconds; millis = millis; offset = pos 0 }

seconds-of-day : (s : ℤ) → IsDay (civil_day s) → (neg_ℤ (pos 62135596800) ≤ℤ s) × (s ≤ℤ pos 253402300799)
seconds-of-day s h =
    let P : ℤ → Type 0 = λ z. (neg_ℤ (pos 62135596800) ≤ℤ z) × (z ≤ℤ pos 253402300799) in
    subst P (seconds-parts s) (seconds-in (civil_day s) (second_of_day s) h (second_of_day-less s))

pub utc-day : (m u : Moment) → u ≡ utc_of m → IsMoment u → IsDay (civil_day (epoch_of m))
utc-day m u e is =
    let P : Moment → Type 0 = λ x. IsMoment x in
    let h = subst P e is in
    day-in (epoch_of m) h.0 h.1

pub utc-moment : (m u : Moment) → IsMoment m → u ≡ utc_of m → IsDay (civil_day (epoch_of m)) → IsMoment u
utc-moment m u is e h =
    let P : Moment → Type 0 = λ x. IsMoment x in
    let s = seconds-of-day (epoch_of m) h in
    subst P (sym e) (s.0, s.1, is.2, omega (arith, ints), omega (arith, ints))

-- a moment of the years is kept in 64 bits
pub utc-cast : (m : Moment) (e : ℤ) → FitsSigned w64 e → e ≡ epoch_of m → record_of (to_z w64 (of_z w64 e)) m.millis ≡ utc_of m
utc-cast m e f h = ap (λ (s : ℤ). record_of s m.millis) (to_z-of_z w64 e f ∙ h)

pub not-moment : (P : Type 0) → (P → false ≡ true) → P → ⊥
not-moment P h p = let e : false ≡ true = h p in absurd (cc)
