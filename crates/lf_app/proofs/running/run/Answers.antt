use Rattle.std.proofs.Common.{sym, subst}
use Rattle.lf_app.specs.Commands.{TakesInput}
use Rattle.lf_app.proofs.CommandLaws.{same_command, command_ready}
use Rattle.lf_app.proofs.RunLaws.{runs_nothing, tells_nothing, cut_part, sink_part, memory_part, complete_part}
use Rattle.lf_app.proofs.running.run.Goals as goal

pub answer-requires : goal.answer-requires
answer-requires g c = command_ready c.args.words.now c.in-Ok.command c.in-Ok.ensures

pub returns-in-Ok-clause-settled : goal.returns-in-Ok-clause-settled
returns-in-Ok-clause-settled g c = λ command is.
    let same = same_command (c.words_are_one_command.ensures c.args.words.now) is c.in-Ok.ensures in
    rw same c.answer.ensures.runs.settled

pub returns-in-Ok-clause-untouched : goal.returns-in-Ok-clause-untouched
returns-in-Ok-clause-untouched g c = λ command is none.
    let same = same_command (c.words_are_one_command.ensures c.args.words.now) is c.in-Ok.ensures in
    c.answer.ensures.untouched (λ takes. none (subst TakesInput (sym same) takes))

pub returns-in-Ok-clause-cut_stream : goal.returns-in-Ok-clause-cut_stream
returns-in-Ok-clause-cut_stream g c = λ command is.
    let same = same_command (c.words_are_one_command.ensures c.args.words.now) is c.in-Ok.ensures in
    rw same (cut_part c.in-Ok.command c.answer.result.0 _ _ _ _ _ _ _ _ _ _ c.answer.ensures.runs c.answer.ensures.tells)

pub returns-in-Ok-clause-sink_fault : goal.returns-in-Ok-clause-sink_fault
returns-in-Ok-clause-sink_fault g c = λ command is.
    let same = same_command (c.words_are_one_command.ensures c.args.words.now) is c.in-Ok.ensures in
    rw same (sink_part c.in-Ok.command c.answer.result.0 _ _ _ _ _ _ _ _ _ _ c.answer.ensures.runs c.answer.ensures.tells)

pub returns-in-Ok-clause-no_memory : goal.returns-in-Ok-clause-no_memory
returns-in-Ok-clause-no_memory g c = λ command is.
    let same = same_command (c.words_are_one_command.ensures c.args.words.now) is c.in-Ok.ensures in
    rw same (memory_part c.in-Ok.command c.answer.result.0 _ _ _ _ c.answer.ensures.runs)

pub returns-in-Ok-clause-complete : goal.returns-in-Ok-clause-complete
returns-in-Ok-clause-complete g c = λ no_s no_o no_e command is.
    let same = same_command (c.words_are_one_command.ensures c.args.words.now) is c.in-Ok.ensures in
    rw same (complete_part c.in-Ok.command c.answer.result.0 _ _ _ _ _ _ _ _ _ _ c.answer.ensures.runs c.answer.ensures.tells no_s no_o no_e)

pub returns-in-Err-clause-settled : goal.returns-in-Err-clause-settled
returns-in-Err-clause-settled g c = λ command is. let runs = runs_nothing command _ _ _ in runs.settled

pub returns-in-Err-clause-cut_stream : goal.returns-in-Err-clause-cut_stream
returns-in-Err-clause-cut_stream g c = λ command is.
    cut_part command 6 _ _ _ _ _ _ _ _ _ _ (runs_nothing command _ _ _) (tells_nothing _ (g.O.Sink.faults c.args.out.now) (g.E.Sink.faults c.args.err.now))

pub returns-in-Err-clause-sink_fault : goal.returns-in-Err-clause-sink_fault
returns-in-Err-clause-sink_fault g c = λ command is.
    sink_part command 6 _ _ (g.S.Source.faults c.args.input.now) _ _ _ _ _ _ _ (runs_nothing command _ _ _) (tells_nothing (g.S.Source.faults c.args.input.now) _ _)

pub returns-in-Err-clause-no_memory : goal.returns-in-Err-clause-no_memory
returns-in-Err-clause-no_memory g c = λ command is. memory_part command 6 _ _ _ _ (runs_nothing command _ _ _)
