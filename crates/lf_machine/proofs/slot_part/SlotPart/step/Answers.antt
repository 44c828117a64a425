use Rattle.std.proofs.Common.{◌∙◌, sym, ap}
use Rattle.lf_format.specs.declared.slot.Slot.{Slot}
use Rattle.lf_format.specs.Kinds.{kind_machine, kind_laws}
use Rattle.lf_machine.proofs.slot_part.SlotPart.step.Goals as goal

pub returns-clause-among : goal.returns-clause-among
returns-clause-among c = λ after e.
    let laws = kind_laws c.args.self.now.kind in
    let is = ap (λ (s : Slot). (kind_machine s.kind).next c.args.state c.args.letter) c.self.view_is in
    (laws.stays c.args.state c.args.letter after c.requires (sym is ∙ sym c.step.ensures ∙ e)).1
