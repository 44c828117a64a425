use Rattle.lf_narrow.specs.Effects.{narrowed_slot}
use Rattle.lf_narrow.specs.Said.{rule_said}
use Rattle.lf_narrow.specs.Narrowed.{IsSo, IsFirstFault, IsTermFault}
use Rattle.lf_narrow.proofs.Cases.{err_more, term_fault}
use Rattle.lf_narrow.proofs.slots.apply.Goals as goal

pub returns-in-None-clause-fault : goal.returns-in-None-clause-fault
returns-in-None-clause-fault c =
    err_more c.step_slots.result (IsSo (IsFirstFault c.args.term.slot (narrowed_slot (rule_said c.args.term.rule)) 1 c.args.pieces.now)) (IsSo (IsTermFault c.args.term.slot (narrowed_slot (rule_said c.args.term.rule)) c.args.pieces.now))
    (λ f h. term_fault c.args.term.slot (narrowed_slot (rule_said c.args.term.rule)) c.args.pieces.now f c.in-None.ensures h) c.step_slots.ensures.fault
