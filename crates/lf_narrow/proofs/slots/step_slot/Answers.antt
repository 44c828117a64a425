use Rattle.std.proofs.Common.{Bool, sym, ap, ◌∙◌, ◌&&◌, not}
use Rattle.lf_narrow.specs.Effects.{narrowed_slot}
use Rattle.lf_narrow.specs.Said.{rule_said}
use Rattle.lf_narrow.proofs.Cases.{named_stands}
use Rattle.lf_narrow.proofs.slots.step_slot.Goals as goal

pub returns-clause-stands : goal.returns-clause-stands
returns-clause-stands c =
    named_stands c.args.term.slot (narrowed_slot (rule_said c.args.term.rule)) c.args.k c.args.slot.now c.narrow_slot-acts.new.slot c.narrow_slot-acts.result
    (sym c.names.ensures ∙ c.if-not-names.false)
    (ap (λ (t : Bool). t && not c.narrow_slot-acts.result) (sym c.is_some.ensures) ∙ c.if-is_some-acts.false)
    c.narrow_slot-acts.ensures.acts c.narrow_slot-acts.ensures.after (c.in_ok-holds_any.ensures.0 c.if-not-branch.false)
