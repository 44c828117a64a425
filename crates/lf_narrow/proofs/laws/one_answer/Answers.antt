use Rattle.std.proofs.Common.{refl}
use Rattle.lf_narrow.specs.Narrowing.{byte, term, narrowing}
use Rattle.lf_narrow.proofs.Only.{one_of_both}
use Rattle.lf_narrow.proofs.laws.one_answer.Goals as goal

pub returns : goal.returns
returns c = λ format text. one_of_both format text (λ w. c.one_of_two.ensures (byte 0) term 0 w refl refl) (λ w. c.one_of_two.ensures (byte 0) narrowing 0 w refl refl)
