-- Numbers that come back from the bits of their types.
use Rattle.std.proofs.Common.{◌≡◌, ℕ, ◌<◌, ◌^◌, ap, ◌∙◌, arith, to_z, of_z}
use Rattle.std.specs.Prelude.{ℤ, pos, ◌+ℤ◌, ◌*ℤ◌, FitsSigned, unsigned_abs}
use Rattle.std.specs.Int.{w32, w64, int_div_euclid, int_rem_euclid}
use Rattle.std.proofs.lemmas.Int.{to_z-of_z, to_z_pos}
use Rattle.jiff_core.proofs.SignedLemmas.{signed_arith}
use Rattle.lf_core.specs.declared.values.Moment.{Moment}
use Rattle.lf_layout.specs.Calendar.{IsDay}
use Rattle.lf_layout.specs.Layouts.{IsMoment, civil_day, second_of_day}
use Rattle.lf_layout.specs.LayoutLaws.{day-in}
use Rattle.lf_layout.specs.Readings.{seconds_of}

-- a day comes back from 32 bits, and then from 64
pub cast-back : (day : ℤ) → IsDay day → to_z w64 (of_z w64 (to_z w32 (of_z w32 day))) ≡ day
cast-back day h =
    let f : FitsSigned w32 day = omega (arith, signed_arith, h.0, h.1) in
    let g : FitsSigned w64 day = omega (arith, signed_arith, h.0, h.1) in
    ap (λ (z : ℤ). to_z w64 (of_z w64 z)) (to_z-of_z w32 day f) ∙ to_z-of_z w64 day g

cast-down : (day : ℤ) → IsDay day → to_z w32 (of_z w32 (to_z w64 (of_z w64 day))) ≡ day
cast-down day h =
    let f : FitsSigned w32 day = omega (arith, signed_arith, h.0, h.1) in
    let g : FitsSigned w64 day = omega (arith, signed_arith, h.0, h.1) in
    ap (λ (z : ℤ). to_z w32 (of_z w32 z)) (to_z-of_z w64 day g) ∙ to_z-of_z w32 day f

pub civil_day-cast : (m : Moment) (q : ℤ) → IsMoment m → q ≡ int_div_euclid (to_z w64 (of_z w64 m.seconds)) (pos 86400) → to_z w32 (of_z w32 (to_z w64 (of_z w64 q))) ≡ civil_day m.seconds
unfolding civil_day
civil_day-cast m q is e =
    let f : FitsSigned w64 m.seconds = omega (arith, signed_arith, is.0, is.1) in
    let d : q ≡ int_div_euclid m.seconds (pos 86400) = e ∙ ap (λ (z : ℤ). int_div_euclid z (pos 86400)) (to_z-of_z w64 m.seconds f) in
    let i : IsDay (int_div_euclid m.seconds (pos 86400)) = day-in m.seconds is.0 is.1 in
    ap (λ (z : ℤ). to_z w32 (of_z w32 (to_z w64 (of_z w64 z)))) d ∙ cast-down (int_div_euclid m.seconds (pos 86400)) i

pub second_of_day-cast : (s r : ℤ) → FitsSigned w64 s → r ≡ int_rem_euclid (to_z w64 (of_z w64 s)) (pos 86400) → unsigned_abs (to_z w64 (of_z w64 r)) ≡ second_of_day s
unfolding second_of_day
second_of_day-cast s r f e =
    let d : r ≡ int_rem_euclid s (pos 86400) = e ∙ ap (λ (z : ℤ). int_rem_euclid z (pos 86400)) (to_z-of_z w64 s f) in
    let g : FitsSigned w64 (int_rem_euclid s (pos 86400)) = omega (arith, signed_arith) in
    ap (λ (z : ℤ). unsigned_abs (to_z w64 (of_z w64 z))) d ∙ ap unsigned_abs (to_z-of_z w64 (int_rem_euclid s (pos 86400)) g)

small : (n : ℕ) → n < 2 ^ 32 → to_z w64 n ≡ pos n
small n h = to_z_pos w64 n (omega arith)

pub seconds-cast : (day : ℤ) (second : ℕ) → FitsSigned w32 day → second < 2 ^ 32 → to_z w64 (of_z w64 (to_z w64 (of_z w64 (to_z w64 (of_z w64 (to_z w32 (of_z w32 day))) *ℤ pos 86400)) +ℤ to_z w64 second)) ≡ seconds_of day second
seconds-cast day second f l =
    let g : FitsSigned w64 day = omega (arith, signed_arith) in
    let p : FitsSigned w64 (day *ℤ pos 86400) = omega (arith, signed_arith) in
    let w : FitsSigned w64 (day *ℤ pos 86400 +ℤ pos second) = omega (arith, signed_arith) in
    ap (λ (z : ℤ). to_z w64 (of_z w64 (to_z w64 (of_z w64 (to_z w64 (of_z w64 z) *ℤ pos 86400)) +ℤ to_z w64 second))) (to_z-of_z w32 day f)
    ∙ ap (λ (z : ℤ). to_z w64 (of_z w64 (to_z w64 (of_z w64 (z *ℤ pos 86400)) +ℤ to_z w64 second))) (to_z-of_z w64 day g)
    ∙ ap (λ (z : ℤ). to_z w64 (of_z w64 (z +ℤ to_z w64 second))) (to_z-of_z w64 (day *ℤ pos 86400) p)
    ∙ ap (λ (z : ℤ). to_z w64 (of_z w64 ((day *ℤ pos 86400) +ℤ z))) (small second l)
    ∙ to_z-of_z w64 ((day *ℤ pos 86400) +ℤ pos second) w
