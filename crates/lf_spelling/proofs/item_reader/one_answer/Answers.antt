use Rattle.lf_spelling.proofs.OneAnswer.{has_one_answer}
use Rattle.lf_spelling.proofs.item_reader.one_answer.Goals as goal

pub returns : goal.returns
returns g c = λ end notes text. has_one_answer g.F.ItemReader.reading g.F.ItemReader.item_is g.F.ItemReader.fault_is g.met.F.ItemReader.laws c.args.front.now end notes text
