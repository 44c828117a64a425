use Rattle.std.proofs.Common.{List, ◌++◌, sym, ap}
use Rattle.lf_core.specs.declared.marked.Move.{Move}
use Rattle.lf_known_tables.specs.Nth.{nth_machine}
use Rattle.lf_known_tables.proofs.nth.NthFromEndMarked.moves.Goals as goal

pub returns-in_default-clause-err : goal.returns-in_default-clause-err
returns-in_default-clause-err c =
    let whole : List Move = (nth_machine c.args.self.now.place).moves c.args.point c.args.byte in
    (whole, sym (ap (λ (xs : List Move). xs ++ whole) c.clear.ensures.items))
