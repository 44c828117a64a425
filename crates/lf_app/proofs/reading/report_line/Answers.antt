use Rattle.std.proofs.Common.{subst}
use Rattle.std.proofs.lemmas.Result.{on_ok_weaker}
use Rattle.lf_app.specs.Progress.{IsScanned}
use Rattle.lf_app.proofs.VerdictLaws.{says_after}
use Rattle.lf_app.proofs.reading.report_line.Goals as goal

pub returns-clause-says : goal.returns-clause-says
returns-clause-says c =
    let job = c.args.job.now in
    let line = c.args.line in
    let same = subst (IsScanned job line.body line.number c.args.report.now c.scan_line.new.self) c.if-branch.false c.in_ok-scan_line.ensures in
    on_ok_weaker c.add.result (says_after job line.body line.number c.args.report.now c.scan_line.new.self c.add.new.self c.in_ok-said.said same c.in_ok-said.ensures.verdict) c.add.ensures.reports
