use Rattle.std.proofs.Common.{◌≡◌, true, false, sym, ◌∙◌, ap}
use Rattle.std.proofs.lemmas.Bool.{cond-true, cond-false}
use Rattle.lf_app.specs.declared.report.Report.{Report}
use Rattle.lf_app.proofs.RunLaws.{runs_last_memory, runs_last_sink, runs_end}
use Rattle.lf_app.proofs.passes.close.Goals as goal

pub returns-in_default-clause-runs : goal.returns-in_default-clause-runs
returns-in_default-clause-runs g c = λ left later og eg f room end.
    runs_last_memory c.args.job.now c.args.lines.now c.args.report.now left later _ _ c.requires.job f

pub returns-in-Failed-clause-runs : goal.returns-in-Failed-clause-runs
returns-in-Failed-clause-runs g c = λ left later og eg f room end.
    runs_last_sink c.args.job.now c.args.lines.now c.finish.new.lines c.args.report.now c.finish.new.report left later og _ _ eg _ _ c.requires.job f (c.in-Ok.ensures f.taken f.found f.read) end c.in-Failed.ensures.bytes.0 c.in-Failed.ensures.bytes.1

pub returns-then-report-clause-runs : goal.returns-then-report-clause-runs
returns-then-report-clause-runs g c = λ left later og eg f room end.
    let mid = c.finish.new.report in
    let partial : mid.is_partial ≡ true = sym (ap (λ (r : Report). r.is_partial) c.in-Done.ensures.bytes.2) ∙ c.if-report.true in
    runs_end c.args.job.now c.args.lines.now c.finish.new.lines c.args.report.now mid 3 left later og _ _ eg _ _ f (c.in-Ok.ensures f.taken f.found f.read) room end c.in-Done.ensures.bytes.0 c.in-Done.ensures.bytes.1 (sym (cond-true mid.is_partial 3 0 partial))

pub returns-else-report-clause-runs : goal.returns-else-report-clause-runs
returns-else-report-clause-runs g c = λ left later og eg f room end.
    let mid = c.finish.new.report in
    let partial : mid.is_partial ≡ false = sym (ap (λ (r : Report). r.is_partial) c.in-Done.ensures.bytes.2) ∙ c.if-report.false in
    runs_end c.args.job.now c.args.lines.now c.finish.new.lines c.args.report.now mid 0 left later og _ _ eg _ _ f (c.in-Ok.ensures f.taken f.found f.read) room end c.in-Done.ensures.bytes.0 c.in-Done.ensures.bytes.1 (sym (cond-false mid.is_partial 3 0 partial))
