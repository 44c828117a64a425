use Rattle.lf_scan.specs.Steps.{slot_of}
use Rattle.lf_scan.proofs.Presence.{reads-bare}
use Rattle.lf_scan.proofs.slot_step.SlotStep.read_bare.Goals as goal

pub returns-clause-read : goal.returns-clause-read
returns-clause-read c =
    let read = rw c.in-Some.is at c.in_ok-left.ensures.read in
    reads-bare (slot_of c.args.self.now) c.args.text.now c.in-Some.left.now c.args.into.now c.read.new.into c.requires read
    (λ span e. c.is_present.ensures span e c.if-not-is_present.false)
