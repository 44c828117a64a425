use Rattle.lf_app.proofs.RunLaws.{runs_memory, runs_sink, follows_piece}
use Rattle.lf_app.proofs.Steps.{fed_more}
use Rattle.lf_app.proofs.passes.pass_piece.Goals as goal

pub returns-in_default-clause-goes_on : goal.returns-in_default-clause-goes_on
returns-in_default-clause-goes_on g c = λ left later now og eg f takes.
    runs_memory c.args.job.now c.args.lines.now c.args.report.now left later now _ _ c.args.piece.now c.requires.job f takes c.requires.most

pub returns-in-Failed-clause-goes_on : goal.returns-in-Failed-clause-goes_on
returns-in-Failed-clause-goes_on g c = λ left later now og eg f takes.
    runs_sink c.args.job.now c.args.lines.now c.feed.new.lines c.args.report.now c.feed.new.report left later now og _ _ eg _ _ c.args.piece.now c.requires.job f (c.in-Ok.ensures f.taken f.found f.read) takes c.requires.most c.in-Failed.ensures.bytes.0 c.in-Failed.ensures.bytes.1

pub returns-in-Done-clause-goes_on : goal.returns-in-Done-clause-goes_on
returns-in-Done-clause-goes_on g c = λ left later now og eg f takes.
    follows_piece c.args.job.now c.args.lines.now c.feed.new.lines c.args.report.now c.feed.new.report c.flush.new.report left later now og _ _ eg _ _ c.args.piece.now f (c.in-Ok.ensures f.taken f.found f.read) takes c.requires.most c.in-Done.ensures.bytes.0 c.in-Done.ensures.bytes.1 c.in-Done.ensures.bytes.2

pub returns-in-Done-clause-fed : goal.returns-in-Done-clause-fed
returns-in-Done-clause-fed g c =
    let some = c.requires.unended in
    fed_more c.args.job.now c.args.lines.now c.feed.new.lines c.args.report.now c.feed.new.report some.0 c.args.piece.now some.1 some.2 (c.in-Ok.ensures some.0 some.1 some.2)
