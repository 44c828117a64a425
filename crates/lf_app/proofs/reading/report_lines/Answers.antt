use Rattle.std.proofs.Common.{[], ◌∷◌, ◌++◌}
use Rattle.lf_app.proofs.Steps.{reads_start, reads_line, reads_end, some_read, none_read, fewer_left}
use Rattle.lf_app.proofs.reading.report_lines.Goals as goal

pub loop-init : goal.loop-init
loop-init c = (c.requires.begun, λ over stream found r. reads_start c.args.job.now over c.args.lines.now c.args.report.now stream found r)

pub loop-smaller : goal.loop-smaller
loop-smaller c =
    let job = c.args.job.now in
    let after = c.report_next.new in
    let b = c.loop.invariant.0 in
    let step = some_read c.in_ok-report_next.field-0 job b.0 after.lines c.loop.report after.report b.1 b.2 c.if-branch.true (c.in_ok-report_next.ensures b.0 b.1 b.2 b.3) in
    fewer_left job b.0 c.loop.lines after.lines c.loop.report after.report b.1 b.2 b.3 step

pub loop-preserved : goal.loop-preserved
loop-preserved c =
    let job = c.args.job.now in
    let after = c.report_next.new in
    let b = c.loop.invariant.0 in
    let step = some_read c.in_ok-report_next.field-0 job b.0 after.lines c.loop.report after.report b.1 b.2 c.if-branch.true (c.in_ok-report_next.ensures b.0 b.1 b.2 b.3) in (
      (b.0, b.1, b.2 ++ step.0 ∷ [], step.1),
      λ over stream found r.
          let s = c.loop.invariant.1 over stream found r in
          let more = some_read c.in_ok-report_next.field-0 job over after.lines c.loop.report after.report stream (found ++ s.more) c.if-branch.true (c.in_ok-report_next.ensures over stream (found ++ s.more) s.reading) in
          reads_line job over c.loop.lines after.lines c.args.report.now c.loop.report after.report stream found s more,
    )

pub returns : goal.returns
returns c = λ over stream found r.
    let job = c.args.job.now in
    let after = c.report_next.new in
    let s = c.loop.invariant.1 over stream found r in
    let none = none_read c.in_ok-report_next.field-0 job over after.lines c.loop.report after.report stream (found ++ s.more) c.if-branch.false (c.in_ok-report_next.ensures over stream (found ++ s.more) s.reading) in
    reads_end job over c.loop.lines after.lines c.args.report.now c.loop.report after.report stream found s none
