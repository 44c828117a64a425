use Rattle.std.proofs.Common.{FitsSigned, cond, rules, sym, ap, ◌∙◌}
use Rattle.std.specs.Prelude.{ℤ, pos}
use Rattle.std.specs.Int.{w64}
use Rattle.std.specs.Int.Signed.{≤ℤ_refl}
use Rattle.std.proofs.lemmas.Int.{to_z-of_z}
use Rattle.lf_number.specs.declared.padded.Radix.TheVariants.{Sixteen}
use Rattle.lf_format.specs.CommonKinds.{numbers, padded}
use Rattle.haproxy_front.proofs.slots.numbers.Goals as goal

pub returns-then-flags : goal.returns-then-flags
returns-then-flags c =
    let fits : FitsSigned w64 c.from.result = search rules in
    c.padded.ensures (≤ℤ_refl (pos 0)) ∙ ap (λ (hi : ℤ). padded Sixteen 4 (pos 0) hi (≤ℤ_refl (pos 0))) (to_z-of_z w64 c.from.result fits ∙ c.from.ensures)
    ∙ sym (ap (λ v. cond v (padded Sixteen 4 (pos 0) (pos c.args.most) (≤ℤ_refl (pos 0))) (numbers (pos 0) (pos c.args.most))) c.if-flags.true)
