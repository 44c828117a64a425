use Rattle.std.proofs.Common.{List, subst}
use Rattle.lf_format.specs.declared.format.Piece.{Piece}
use Rattle.lf_format.specs.Keeps.{EachKept}
use Rattle.lf_machine.proofs.LineOrder.{line-order}
use Rattle.lf_machine.proofs.machine.FormatMachine.keeps_order.Goals as goal

pub returns : goal.returns
returns c = line-order c.args.self.now (subst (λ (ps : List Piece). EachKept ps) c.self.view_is c.self.invariant.kept)
