use Rattle.std.proofs.Common.{◌≡◌, ◌∙◌, sym, refl, ap, rules, eq-eqb}
use Rattle.std.specs.Prelude.{ℤ, pos, FitsSigned, true}
use Rattle.std.specs.Int.{w64}
use Rattle.std.proofs.lemmas.Int.{to_z-of_z}
use Rattle.std.proofs.lemmas.Bool.{eqb-true, false≢true}
use lib.IntN.{nat_abs}
use lib.Signed.{le_z}
use Rattle.lf_number.specs.Numbers.{number_text, magnitude, is_plain_digits}
use Rattle.lf_number.proofs.PlainDigits.{is-text, has-value, not-above, from-positive, nat_abs-is, small-is}
use Rattle.lf_number.proofs.num_range.is_text_of.Goals as goal

pub returns-then-n-le0 : goal.returns-then-n-le0
returns-then-n-le0 c =
    let n = c.args.n in
    let fits : FitsSigned w64 c.args.n = search rules in
    let plain : is_plain_digits c.args.text.now ≡ true = sym c.has_plain_digits.ensures ∙ c.if-not-has_plain_digits.false in
    let low : le_z n (pos 0) ≡ true = ap (λ (z : ℤ). le_z z (pos 0)) (sym (to_z-of_z w64 n fits)) ∙ c.if-n-le0.true in (
      λ h. absurd (false≢true h),
      λ e. let v = has-value n c.args.text.now _ fits plain refl e in absurd (not-above n v.1 v.2 low),
    )

pub returns : goal.returns
returns c =
    let n = c.args.n in
    let text = c.args.text.now in
    let value = c.number_of.result in
    let fits : FitsSigned w64 c.args.n = search rules in
    let same = to_z-of_z w64 n fits in
    let plain : is_plain_digits text ≡ true = sym c.has_plain_digits.ensures ∙ c.if-not-has_plain_digits.false in
    let positive = from-positive n (ap (λ (z : ℤ). le_z z (pos 0)) (sym same) ∙ c.if-n-le0.false) in
    let abs_is : c.unsigned_abs.result ≡ magnitude n = c.unsigned_abs.ensures.value ∙ ap nat_abs same ∙ nat_abs-is n in
    let k_is : magnitude n ≡ positive.0 = ap magnitude positive.1 in (
      λ h. ap number_text positive.1 ∙ is-text positive.0 text value (small-is n positive.0 fits positive.1) plain c.number_of.ensures (sym k_is ∙ sym abs_is ∙ eqb-true _ _ h),
      λ e. eq-eqb _ _ (abs_is ∙ (has-value n text value fits plain c.number_of.ensures e).0),
    )
