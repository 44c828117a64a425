use Rattle.std.proofs.Common.{◌∙◌, ◌∷◌, [], ◌^◌, ◌-◌, ap, sym, min, ℕ, take, get_or}
use Rattle.lf_number.specs.Machines.{value_after}
use Rattle.lf_number.specs.Digits.{ten}
use Rattle.lf_number.proofs.Places.{value-more, capped-letter}
use Rattle.lf_digits.proofs.digits.value_of.Goals as goal

pub loop-digit-preserved : goal.loop-digit-preserved
loop-digit-preserved c =
    let xs = c.args.digits.now in
    let i = c.loop-digit.digit-index in
    let m = value-more 10 ten xs i c.loop-digit-test.true in
    let k = capped-letter 10 ten (value_after 10 0 (take i xs)) (get_or xs i 0) (2 ^ 64 - 1) in
    c.with_digit-value.ensures ∙ ap (λ (v : ℕ). min (value_after 10 v (get_or xs i 0 ∷ [])) (2 ^ 64 - 1)) c.loop-digit.invariant ∙ k ∙ ap (λ (v : ℕ). min v (2 ^ 64 - 1)) (sym m)
