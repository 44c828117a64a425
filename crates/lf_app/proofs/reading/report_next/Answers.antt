use Rattle.std.proofs.Common.{length}
use Rattle.lf_app.proofs.Steps.{next_read, next_none}
use Rattle.lf_app.proofs.reading.report_next.Goals as goal

pub returns-in_default : goal.returns-in_default
returns-in_default c = λ over stream found r.
    next_none c.args.job.now over c.args.lines.now c.next.follows.lender-at-none c.args.report.now stream found r (c.in_default.ensures.next stream (length found) r.holds.stands) c.next.result c.in_default.is c.next.follows.holds-at-none

pub returns : goal.returns
returns c = λ over stream found r.
    next_read c.args.job.now over c.args.lines.now c.next.follows.lender-at-none c.args.report.now c.report_line.new.report stream found c.in-Some.line r (c.in-Some.ensures.next stream (length found) r.holds.stands) c.next.result c.in-Some.is c.next.follows.holds-at-none.0 c.in_ok-report_line.ensures.says c.in_ok-report_line.ensures.count
