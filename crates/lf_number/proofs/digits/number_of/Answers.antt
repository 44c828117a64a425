use Rattle.std.proofs.Common.{◌∙◌, ◌∷◌, [], ◌^◌, ◌-◌, ap, sym, min, ℕ, take, get_or}
use Rattle.lf_number.specs.Machines.{value_after}
use Rattle.lf_number.proofs.Places.{value-more, capped-letter}
use Rattle.lf_number.proofs.digits.number_of.Goals as goal

pub loop-letter-preserved : goal.loop-letter-preserved
loop-letter-preserved c =
    let m = value-more c.args.radix c.requires c.args.text.now c.loop-letter.letter-index c.loop-letter-test.true in
    let k = capped-letter c.args.radix c.requires (value_after c.args.radix 0 (take c.loop-letter.letter-index c.args.text.now)) (get_or c.args.text.now c.loop-letter.letter-index 0) (2 ^ 64 - 1) in
    c.with_letter-value.ensures ∙ ap (λ (v : ℕ). min (value_after c.args.radix v (get_or c.args.text.now c.loop-letter.letter-index 0 ∷ [])) (2 ^ 64 - 1)) c.loop-letter.invariant ∙ k ∙ ap (λ (v : ℕ). min v (2 ^ 64 - 1)) (sym m)
