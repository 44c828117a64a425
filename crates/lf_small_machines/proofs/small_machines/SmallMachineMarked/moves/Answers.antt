use Rattle.std.proofs.Common.{List, ◌++◌, sym, ap}
use Rattle.lf_core.specs.declared.marked.Move.{Move}
use Rattle.lf_small_machines.specs.Small.{small_moves}
use Rattle.lf_small_machines.proofs.small_machines.SmallMachineMarked.moves.Goals as goal

pub returns-in_default-clause-err : goal.returns-in_default-clause-err
returns-in_default-clause-err c =
    let whole : List Move = small_moves c.args.self.now.flags.items c.args.point c.args.byte in
    (whole, sym (ap (λ (xs : List Move). xs ++ whole) c.clear.ensures.items))
