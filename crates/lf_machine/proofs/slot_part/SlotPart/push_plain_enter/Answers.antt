use Rattle.std.proofs.Common.{◌∙◌, ◌==◌, [], ap, ℕ, List}
use Rattle.lf_core.specs.declared.marked.Move.{Move}
use Rattle.lf_format.specs.Kinds.{kind_machine}
use Rattle.lf_format.specs.declared.slot.Slot.{Slot}
use Rattle.lf_machine.specs.Laid.{slot_steps, slot_top}
use Rattle.lf_machine.specs.Pieces.{is_one, dash_of}
use Rattle.lf_machine.proofs.Placed.{enter-at}
use Rattle.lf_machine.proofs.slot_part.SlotPart.push_plain_enter.Goals as goal

pub returns : goal.returns
returns c =
    let steps : ℕ → List Move = λ q. slot_steps c.args.self.now q [] c.args.byte in
    record {
      ok = enter-at c.args.place c.args.into.now.items c.push_dash.new.into.items c.push_steps.new.into.items
          (dash_of c.args.self.now.absent c.args.self.now.present) (c.args.byte == 45)
          c.is_one_dash.result (is_one c.args.self.now.absent) c.self.inside.top (slot_top c.args.self.now) c.start.result (kind_machine c.args.self.now.kind).first steps
          (c.self.invariant.counted ∙ ap slot_top c.self.view_is)
          (c.is_one_dash.ensures ∙ ap (λ (s : Slot). is_one s.absent) c.self.view_is)
          c.start.ensures.exact
          c.in_ok-push_dash.ensures.ok c.in_ok-push_steps.ensures.ok;
    }
