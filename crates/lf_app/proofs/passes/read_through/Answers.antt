use Rattle.std.proofs.Common.{◌≡◌, ◌<◌, ◌≤◌, take, arith, refl, sym, ◌∙◌, subst, inl, inr}
use Rattle.lf_io.specs.Moves.{Takes}
use Rattle.lf_stream.specs.Standing.{bytes_fed}
use Rattle.lf_app.specs.declared.commands.Command.TheVariants as command
use Rattle.lf_limits.specs.Limits.{most_run_bytes}
use Rattle.lf_app.proofs.RunLaws.{runs_nothing, follows_none, follows_pull, at_end_later, runs_broken, tells_on, tells_quiet, tells_sinks, tells_source}
use Rattle.lf_app.proofs.passes.read_through.Goals as goal

pub returns-in_default-clause-runs : goal.returns-in_default-clause-runs
returns-in_default-clause-runs g c = runs_nothing (command.Lines c.args.job.now) _ _ _

pub loop-alloc-init : goal.loop-alloc-init
loop-alloc-init g c =
    let n = c.in-Ok.ensures in
    let r = c.new-report.ensures in
    (follows_none c.args.job.now c.in-Ok.lines c.new-report.result _ _ _ n.stands (n.notes ∙ c.has_notes.ensures) n.«open» n.room r.count r.listed r.out r.err, refl, refl, refl)

pub returns-then-most-eq0-clause-runs : goal.returns-then-most-eq0-clause-runs
returns-then-most-eq0-clause-runs g c =
    let l = c.loop-alloc in
    let full : most_run_bytes ≤ bytes_fed l.lines = omega (arith, c.fed-most.ensures, c.if-most-eq0.true) in
    runs_broken c.args.job.now l.lines l.report 8 _ _ _ _ l.invariant.0 (inr (refl, full))

pub loop-alloc-smaller : goal.loop-alloc-smaller
loop-alloc-smaller g c =
    let pulled = c.in-Took.ensures.bytes in
    omega (arith, pulled.0, c.split_at.ensures.front_len, c.in-Ok-pass_piece.ensures.fed, c.fed-most.ensures, c.if-most-eq0.false)

pub loop-alloc-preserved : goal.loop-alloc-preserved
loop-alloc-preserved g c =
    let l = c.loop-alloc in
    let pulled = c.in-Took.ensures.bytes in
    let piece : c.split_at.result.0.now ≡ take c.in-Took.count c.pull_most.new.buffer = c.split_at.ensures.front in
    let takes = subst (Takes (g.S.Source.left l.input) (g.S.Source.left c.pull_most.new.input)) (sym piece) pulled.2 in
    let follows = c.in-Ok-pass_piece.ensures.goes_on _ _ _ _ _ l.invariant.0 takes in
    let sinks = c.in-Ok-pass_piece.ensures.faults.kept (λ h. h) in
    (follows, c.in-Took.ensures.faults.kept (λ h. cc) ∙ l.invariant.1, sinks.0 ∙ l.invariant.2, sinks.1 ∙ l.invariant.3)

pub returns-in-Err-clause-runs : goal.returns-in-Err-clause-runs
returns-in-Err-clause-runs g c =
    let l = c.loop-alloc in
    let pulled = c.in-Took.ensures.bytes in
    let piece : c.split_at.result.0.now ≡ take c.in-Took.count c.pull_most.new.buffer = c.split_at.ensures.front in
    let takes = subst (Takes (g.S.Source.left l.input) (g.S.Source.left c.pull_most.new.input)) (sym piece) pulled.2 in
    c.in-Err.ensures.goes_on _ _ _ _ _ l.invariant.0 takes

pub returns-in-End-clause-runs : goal.returns-in-End-clause-runs
returns-in-End-clause-runs g c =
    let l = c.loop-alloc in
    let pulled = c.in-End.ensures.bytes in
    let f = follows_pull c.args.job.now l.lines l.report _ _ (g.S.Source.left c.pull_most.new.input) _ _ l.invariant.0 pulled.1 in
    let room : bytes_fed l.lines < most_run_bytes = omega (arith, c.fed-most.ensures, c.if-most-eq0.false) in
    c.close.ensures.runs _ _ _ _ f room (at_end_later _ _ pulled.0 pulled.1)

pub returns-in-Failed-clause-runs : goal.returns-in-Failed-clause-runs
returns-in-Failed-clause-runs g c =
    let l = c.loop-alloc in
    let f = follows_pull c.args.job.now l.lines l.report _ _ (g.S.Source.left c.pull_most.new.input) _ _ l.invariant.0 c.in-Failed.ensures.bytes in
    let room : bytes_fed l.lines < most_run_bytes = omega (arith, c.fed-most.ensures, c.if-most-eq0.false) in
    runs_broken c.args.job.now l.lines l.report 4 _ _ _ _ f (inl (refl, room))

pub returns-then-most-eq0-clause-tells : goal.returns-then-most-eq0-clause-tells
returns-then-most-eq0-clause-tells g c =
    let i = c.loop-alloc.invariant in
    tells_on 8 _ _ _ _ _ _ _ _ _ i.1 i.2 i.3 (tells_quiet 8 _ _ _ (omega arith) (λ h. absurd (omega (arith, h))) (λ h. absurd (omega (arith, h))))

pub returns-in-Err-clause-tells : goal.returns-in-Err-clause-tells
returns-in-Err-clause-tells g c =
    let i = c.loop-alloc.invariant in
    let known = c.in-Err.ensures.known in
    tells_on _ _ _ _ _ _ _ _ _ _ i.1 i.2 i.3
    (tells_sinks _ _ _ _ _ _ _ (c.in-Took.ensures.faults.kept (λ h. cc)) c.in-Err.ensures.faults (λ h. omega (arith, h, known)) (omega (arith, known)))

pub returns-in-End-clause-tells : goal.returns-in-End-clause-tells
returns-in-End-clause-tells g c =
    let i = c.loop-alloc.invariant in
    let known = c.close.ensures.known in
    tells_on _ _ _ _ _ _ _ _ _ _ i.1 i.2 i.3
    (tells_sinks _ _ _ _ _ _ _ (c.in-End.ensures.faults.kept (λ h. cc)) c.close.ensures.faults (λ h. omega (arith, h, known)) (omega (arith, known)))

pub returns-in-Failed-clause-tells : goal.returns-in-Failed-clause-tells
returns-in-Failed-clause-tells g c =
    let i = c.loop-alloc.invariant in
    tells_on 4 _ _ _ _ _ _ _ _ _ i.1 i.2 i.3 (tells_source _ _ _ _ (c.in-Failed.ensures.faults.cause refl))
