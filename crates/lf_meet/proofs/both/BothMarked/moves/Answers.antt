use Rattle.std.proofs.Common.{List, ◌++◌, sym, ap}
use Rattle.lf_core.specs.declared.marked.Move.{Move}
use Rattle.lf_meet.specs.Both.{both}
use Rattle.lf_meet.proofs.both.BothMarked.moves.Goals as goal

pub returns-in_default-clause-err : goal.returns-in_default-clause-err
returns-in_default-clause-err g c =
    let whole : List Move = (both (g.M.Marked.machine c.args.self.now.left.now) (g.N.Marked.machine c.args.self.now.right.now)).moves c.args.point c.args.byte in
    (whole, sym (ap (λ (xs : List Move). xs ++ whole) c.clear.ensures.items))
