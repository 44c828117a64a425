use Rattle.lf_number.proofs.ReadBack.{candidate-is}
use Rattle.lf_number.proofs.num_range.candidate.Goals as goal

pub returns : goal.returns
returns c = λ n f e.
    candidate-is n c.args.text.now c.has_minus.result c.number_of.result c.signed.result f e c.has_minus.ensures c.number_of.ensures c.signed.ensures
