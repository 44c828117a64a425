use Rattle.lf_app.proofs.CommandLaws.{words_one}
use Rattle.lf_app.proofs.SideLaws.{one_side}
use Rattle.lf_app.proofs.laws.words_are_one_command.Goals as goal

pub returns : goal.returns
returns c = λ words.
    words_one words c.words_are_one_command_or_bad.ensures c.format_is_a_word.ensures c.translation_has_a_target.ensures c.one_answer-3.ensures
    (record {
      sides = one_side c.one_answer.ensures c.one_answer-2.ensures;
      spelled = c.spelled_keeps.ensures;
      told = c.two_keeps.ensures.keeps;
      narrowed = c.narrowed_keeps.ensures;
      answers = c.some_answer.ensures;
      maps = c.one_answer-4.ensures.some;
    })
