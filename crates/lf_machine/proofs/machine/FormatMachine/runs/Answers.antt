use Rattle.std.proofs.Common.{List, subst}
use Rattle.lf_format.specs.declared.format.Piece.{Piece}
use Rattle.lf_format.specs.Keeps.{EachKept}
use Rattle.lf_machine.specs.LineBytes.{LiteralsAreBytes}
use Rattle.lf_machine.proofs.RunLaws.{line-runs}
use Rattle.lf_machine.proofs.machine.FormatMachine.runs.Goals as goal

pub returns : goal.returns
returns c =
    line-runs c.args.self.now (subst (λ (ps : List Piece). EachKept ps) c.self.view_is c.self.invariant.kept)
    (subst (λ (ps : List Piece). LiteralsAreBytes ps) c.self.view_is c.self.invariant.bytes)
