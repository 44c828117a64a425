use Rattle.lf_app.proofs.Deciding.{one_outcome}
use Rattle.lf_app.proofs.laws.command_has_one_outcome.Goals as goal

pub returns : goal.returns
returns c = λ words command is input.
    one_outcome words command input c.lines_have_one_reading.ensures.some c.lines_are_decided.ensures c.some_mapped.ensures c.one_record.ensures c.some_record.ensures c.format_is_a_word.ensures c.spelled_keeps.ensures c.two_keeps.ensures.keeps c.narrowed_keeps.ensures is
