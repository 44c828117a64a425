use Rattle.std.proofs.Common.{◌≡◌, ℕ, ◌≤◌, ◌⊎◌, ◌++◌, refl, sym, subst, arith, inl}
use Rattle.std.specs.Prelude.{codes}
use Rattle.std.specs.Fmt.{decimal}
use Rattle.lf_app.specs.declared.commands.Command.TheVariants.{Readable, Witness, Show, Refuse}
use Rattle.lf_app.specs.Outcome.{told_out, told_err, shown, witness_text, refusal_text, refusal_status}
use Rattle.lf_app.proofs.Drawing.{runs_generated}
use Rattle.lf_app.proofs.RunLaws.{runs_text_out, runs_text_err, told_readable, told_witness, told_shown, told_refused, good_status, tells_out, tells_err}
use Rattle.lf_app.proofs.running.answer.Goals as goal

pub returns-in-Readable-clause-runs : goal.returns-in-Readable-clause-runs
returns-in-Readable-clause-runs g c =
    let slots = c.in-Readable.slots in
    let runs = runs_text_out (Readable slots) (told_out 0 (codes "readable " ++ decimal slots)) c.tell_text.result.0 (g.S.Source.left c.args.input.now) (g.E.Sink.got c.args.err.now) c.readable_text.result _ (told_readable slots) refl c.readable_text.ensures c.tell_text.ensures.says in
    rw c.in-Readable.is runs

pub returns-in-Witness-clause-runs : goal.returns-in-Witness-clause-runs
returns-in-Witness-clause-runs g c =
    let confusion = c.in-Witness.confusion in
    let tell = c.tell_text-in-Witness in
    let runs = runs_text_out (Witness confusion) (told_out 1 (witness_text confusion)) tell.result.0 (g.S.Source.left c.args.input.now) (g.E.Sink.got c.args.err.now) c.witness_text.result _ (told_witness confusion) refl c.witness_text.ensures tell.ensures.says in
    rw c.in-Witness.is runs

pub returns-in-Show-clause-runs : goal.returns-in-Show-clause-runs
returns-in-Show-clause-runs g c =
    let format = c.in-Show.format in
    let tell = c.tell_text-in-Show in
    let runs = runs_text_out (Show format) (shown format) tell.result.0 (g.S.Source.left c.args.input.now) (g.E.Sink.got c.args.err.now) c.show_text.result _ (told_shown format) refl c.show_text.ensures tell.ensures.says in
    rw c.in-Show.is runs

pub returns-in-Refuse-clause-runs : goal.returns-in-Refuse-clause-runs
returns-in-Refuse-clause-runs g c =
    let refusal = c.in-Refuse.refusal in
    let tell = c.tell_text-in-Refuse in
    let runs = runs_text_err (Refuse refusal) (told_err (refusal_status refusal) (refusal_text refusal)) tell.result.0 (g.S.Source.left c.args.input.now) (g.O.Sink.got c.args.out.now) c.refusal_text.result _ (told_refused refusal) refl c.refusal_text.ensures (rw (← c.refusal_status.ensures) tell.ensures.says) in
    rw c.in-Refuse.is runs

pub returns-in-Readable-clause-tells : goal.returns-in-Readable-clause-tells
returns-in-Readable-clause-tells g c = tells_out 0 _ _ _ _ _ _ _ (inl (omega arith)) c.tell_text.ensures.says c.tell_text.ensures.faults

pub returns-in-Witness-clause-tells : goal.returns-in-Witness-clause-tells
returns-in-Witness-clause-tells g c =
    let tell = c.tell_text-in-Witness in
    tells_out 1 _ _ _ _ _ _ _ (inl (omega arith)) tell.ensures.says tell.ensures.faults

pub returns-in-Show-clause-tells : goal.returns-in-Show-clause-tells
returns-in-Show-clause-tells g c =
    let tell = c.tell_text-in-Show in
    tells_out 0 _ _ _ _ _ _ _ (inl (omega arith)) tell.ensures.says tell.ensures.faults

pub returns-in-Refuse-clause-tells : goal.returns-in-Refuse-clause-tells
returns-in-Refuse-clause-tells g c =
    let tell = c.tell_text-in-Refuse in
    let good = subst (λ (n : ℕ). (n ≤ 3) ⊎ (n ≡ 7)) (sym c.refusal_status.ensures) (good_status c.in-Refuse.refusal) in
    tells_err c.refusal_status.result.0 _ _ _ _ _ _ _ good tell.ensures.says tell.ensures.faults

pub returns-in-Generate-clause-runs : goal.returns-in-Generate-clause-runs
returns-in-Generate-clause-runs g c =
    let it = c.in-Generate in
    let tell = c.tell_text-in-Generate in
    let runs = runs_generated it.reader it.seed it.count tell.result.0 (g.S.Source.left c.args.input.now) (g.E.Sink.got c.args.err.now) c.generated_text.result _ c.generated_text.ensures.said c.generated_text.ensures.one tell.ensures.says in
    rw it.is runs

pub returns-in-Generate-clause-tells : goal.returns-in-Generate-clause-tells
returns-in-Generate-clause-tells g c =
    let tell = c.tell_text-in-Generate in
    tells_out 0 _ _ _ _ _ _ _ (inl (omega arith)) tell.ensures.says tell.ensures.faults
