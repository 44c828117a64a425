use Rattle.lf_machine.specs.LineMachine.{line_machine, line-marked, record_moves}
use Rattle.lf_compile.proofs.NoteLaws.{headed_as, none_as, no_note, least_note_is}
use Rattle.lf_compile.proofs.note.least_note.Goals as goal

pub returns-in-None : goal.returns-in-None
returns-in-None c =
    let pieces = c.args.machine.now in
    no_note pieces (line_machine pieces) (record_moves pieces) c.means_records.ensures.runs
    (none_as (line_machine pieces) c.args.pairs.now (line-marked pieces) c.requires (rw c.in-None.is at c.in_ok-least_from.ensures))

pub decode-requires : goal.decode-requires
decode-requires c =
    let pieces = c.args.machine.now in
    let headed = c.in-Some.headed in
    (headed.line, (headed_as (line_machine pieces) c.args.pairs.now headed.line headed.run (line-marked pieces) c.requires (rw c.in-Some.is at c.in_ok-least_from.ensures)).least_run.runs)

pub returns-in_ok-decode-in-Some : goal.returns-in_ok-decode-in-Some
returns-in_ok-decode-in-Some c =
    let pieces = c.args.machine.now in
    let headed = c.in-Some.headed in
    least_note_is pieces (line_machine pieces) (record_moves pieces) c.means_records.ensures.runs c.means_records.ensures.order headed.line headed.run c.in_ok-decode-in-Some.field-0
    (headed_as (line_machine pieces) c.args.pairs.now headed.line headed.run (line-marked pieces) c.requires (rw c.in-Some.is at c.in_ok-least_from.ensures))
    c.in_ok-decode-in-Some.ensures
