use Rattle.std.proofs.Common.{Result, subst}
use Rattle.lf_format.specs.Shape.{Shape}
use Rattle.lf_spelling.specs.Spelling.{IsAnswer}
use Rattle.lf_spelling.specs.declared.fault.FormatFault.{FormatFault}
use Rattle.lf_spelling.proofs.OneAnswer.{has_one_answer, only_answer}
use Rattle.lf_spelling.proofs.item_reader.read_text.Goals as goal

pub returns-clause-faulty : goal.returns-clause-faulty
returns-clause-faulty g c =
    let f = g.F.ItemReader in
    λ place cause e. subst (λ (r : Result Shape FormatFault). IsAnswer f.item_is f.fault_is c.args.front c.args.end c.args.notes c.args.text.now r) e c.read_whole.ensures

pub returns-clause-only_spelled : goal.returns-clause-only_spelled
returns-clause-only_spelled g c =
    let f = g.F.ItemReader in
    (only_answer f.item_is f.fault_is c.args.front c.args.end c.args.notes c.args.text.now (has_one_answer f.reading f.item_is f.fault_is g.met.F.ItemReader.laws c.args.front c.args.end c.args.notes c.args.text.now) c.read_whole.result c.read_whole.ensures).spelled

pub returns-clause-only_faulty : goal.returns-clause-only_faulty
returns-clause-only_faulty g c =
    let f = g.F.ItemReader in
    (only_answer f.item_is f.fault_is c.args.front c.args.end c.args.notes c.args.text.now (has_one_answer f.reading f.item_is f.fault_is g.met.F.ItemReader.laws c.args.front c.args.end c.args.notes c.args.text.now) c.read_whole.result c.read_whole.ensures).faulty
