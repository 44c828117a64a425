use Rattle.lf_scan.specs.Steps.{slot_of}
use Rattle.lf_scan.proofs.Presence.{reads-quoted}
use Rattle.lf_scan.proofs.slot_step.SlotStep.read_quoted.Goals as goal

pub returns-clause-read : goal.returns-clause-read
returns-clause-read c =
    let read = rw c.in-Some-2.is at c.in_ok-more.ensures.read in
    reads-quoted (slot_of c.args.self.now) c.args.text.now c.in-Some.inner.now c.in-Some-2.more.now c.in-Some-after_byte.left.now c.args.into.now c.read.new.into c.requires
    c.in-Some.ensures read c.in-Some-after_byte.ensures (λ span e. c.is_present.ensures span e c.if-not-is_present.false)
