use Rattle.std.proofs.Common.{◌≡◌, arith, rules, length, inl, inr, sym, ◌∙◌}
use Rattle.lf_product.proofs.Bits.{has_written, has_new}
use Rattle.lf_product.specs.ByteSet.{HasByte}
use Rattle.lf_product.proofs.byte_set.ByteSet.with.Goals as goal

pub returns-clause-kept : goal.returns-clause-kept
unfolding HasByte
returns-clause-kept c = λ b h.
    let four : length c.args.self.words ≡ 4 = search rules in
    rw c.from-at.ensures
    (elim (has_written c.args.self.words c.args.byte four (omega arith) b) [ inl e ↦ rw e (has_new c.args.self.words c.args.byte four (omega arith)) | inr e ↦ e ∙ h ])

pub returns-clause-added : goal.returns-clause-added
unfolding HasByte
returns-clause-added c =
    let four : length c.args.self.words ≡ 4 = search rules in
    rw c.from-at.ensures (has_new c.args.self.words c.args.byte four (omega arith))

pub returns-clause-only : goal.returns-clause-only
unfolding HasByte
returns-clause-only c = rw c.from-at.ensures (λ b small h.
    let four : length c.args.self.words ≡ 4 = search rules in
    elim (has_written c.args.self.words c.args.byte four (omega arith) b) [ inl e ↦ inr e | inr e ↦ inl (sym e ∙ h) ])
