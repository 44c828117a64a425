-- Which formats are read by tables.
use Rattle.std.specs.Prelude.{◌≡◌, List, Option, MatchOption}
use Rattle.lf_core.specs.Written.{WrittenMachine, written}
use Rattle.lf_format.specs.Shape.{Shape}
use Rattle.lf_format.specs.declared.format.Piece.{Piece}
use Rattle.lf_limits.specs.Limits.{most_sets}
use Rattle.lf_machine.specs.LineMachine.{line_machine}
use Rattle.lf_tables.specs.Reached.{ReachesMoreSets}

-- The machine of the pieces reaches more sets of points than tables may have. The empty set counts where it is reached.
abbrev pub HasManySets : List Piece → Type 0
HasManySets pieces = ReachesMoreSets (line_machine pieces) most_sets

-- The machine of the format reaches no more sets of points than tables may have.
abbrev pub IsTabled : Shape → Type 0
IsTabled format = HasManySets format.pieces → ⊥

-- The tables are those of the pieces' machine, and there are none exactly where it reaches too many sets of points.
abbrev pub AreTables : List Piece → Option WrittenMachine → Type 0
AreTables pieces tables =
    MatchOption tables (HasManySets pieces) (λ table. (table ≡ written (line_machine pieces)) × (HasManySets pieces → ⊥))
