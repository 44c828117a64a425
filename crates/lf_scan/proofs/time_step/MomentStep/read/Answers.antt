use Rattle.std.proofs.Common.{subst}
use Rattle.lf_layout.specs.declared.layout.Layout.{Layout}
use Rattle.lf_stamp.specs.Moments.{ReadsMoment}
use Rattle.lf_scan.proofs.TimeTexts.{reads-moment}
use Rattle.lf_scan.proofs.time_step.MomentStep.read.Goals as goal

pub returns-clause-read : goal.returns-clause-read
returns-clause-read c =
    let text = c.args.text.now in
    let left = c.in-Some.left.now in
    let old = c.args.into.now in
    let new = c.read.new.into in
    let read = subst (λ (l : Layout). ReadsMoment l text left old new) c.layout.ensures (rw c.in-Some.is at c.in_ok-left.ensures.read) in
    reads-moment c.args.self read.moment text left old new read.shown read.written read.added
