-- Numbers of times that come back from the bits of their types.
use Rattle.std.proofs.Common.{◌≡◌, ap, ◌∙◌, arith, to_z, of_z}
use Rattle.std.specs.Prelude.{ℤ, pos, ◌+ℤ◌, ◌*ℤ◌, FitsSigned}
use Rattle.std.specs.Int.{w64}
use Rattle.std.proofs.lemmas.Int.{to_z-of_z, to_z_pos}
use Rattle.jiff_core.proofs.SignedLemmas.{signed_arith}
use Rattle.lf_core.specs.declared.values.Moment.{Moment}
use Rattle.lf_layout.specs.Layouts.{IsMoment}
use Rattle.lf_time.specs.Instants.{epoch_of}

pub millis-cast : (m : Moment) (r : ℤ) → IsMoment m → r ≡ epoch_of m → to_z w64 (of_z w64 (to_z w64 (of_z w64 (pos 1000 *ℤ to_z w64 (of_z w64 r))) +ℤ to_z w64 m.millis)) ≡ pos 1000 *ℤ epoch_of m +ℤ pos m.millis
millis-cast m r is e =
    let f : FitsSigned w64 (epoch_of m) = omega (arith, signed_arith, is.0, is.1, is.3, is.4) in
    let g : FitsSigned w64 (pos 1000 *ℤ epoch_of m) = omega (arith, signed_arith, is.0, is.1, is.3, is.4) in
    let h : FitsSigned w64 (pos 1000 *ℤ epoch_of m +ℤ pos m.millis) = omega (arith, signed_arith, is.0, is.1, is.2, is.3, is.4) in
    let s : to_z w64 m.millis ≡ pos m.millis = to_z_pos w64 m.millis (omega (arith, is.2)) in
    ap (λ (z : ℤ). to_z w64 (of_z w64 (to_z w64 (of_z w64 (pos 1000 *ℤ to_z w64 (of_z w64 z))) +ℤ to_z w64 m.millis))) e
    ∙ ap (λ (z : ℤ). to_z w64 (of_z w64 (to_z w64 (of_z w64 (pos 1000 *ℤ z)) +ℤ to_z w64 m.millis))) (to_z-of_z w64 (epoch_of m) f)
    ∙ ap (λ (z : ℤ). to_z w64 (of_z w64 (z +ℤ to_z w64 m.millis))) (to_z-of_z w64 (pos 1000 *ℤ epoch_of m) g)
    ∙ ap (λ (z : ℤ). to_z w64 (of_z w64 ((pos 1000 *ℤ epoch_of m) +ℤ z))) s
    ∙ to_z-of_z w64 (pos 1000 *ℤ epoch_of m +ℤ pos m.millis) h
