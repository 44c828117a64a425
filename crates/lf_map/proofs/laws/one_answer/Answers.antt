use Rattle.std.proofs.Common.{refl}
use Rattle.lf_limits.specs.Limits.{most_nesting}
use Rattle.lf_syntax.specs.Cuts.{separated}
use Rattle.lf_map.specs.Map.{call, assign}
use Rattle.lf_map.proofs.Answered.{answer_one, some_answer}
use Rattle.lf_map.proofs.laws.one_answer.Goals as goal

pub returns-clause-some : goal.returns-clause-some
returns-clause-some c = λ source target text form. some_answer source target text (λ w. c.one_of_two.ensures call assign most_nesting w refl refl) (λ w. c.one_of_two.ensures call (separated 59 assign) most_nesting w refl refl) form

pub returns-clause-one : goal.returns-clause-one
returns-clause-one c = λ source target text parts form one other h e. answer_one source target text parts form one other h e
