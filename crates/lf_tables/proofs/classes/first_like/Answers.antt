use Rattle.std.proofs.Common.{sym, ◌∙◌}
use Rattle.lf_tables.proofs.CellLaws.{same_moves}
use Rattle.lf_tables.proofs.classes.first_like.Goals as goal

pub returns-then-eq-clause-moves : goal.returns-then-eq-clause-moves
returns-then-eq-clause-moves c =
    sym c.moves.ensures ∙ same_moves c.moves.result.now c.moves-then-firsts-other.result.now c.eq.result c.eq.ensures c.if-eq.true ∙ c.moves-then-firsts-other.ensures
