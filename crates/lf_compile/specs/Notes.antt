-- Records whose lines begin with `#`.
use Rattle.std.specs.Prelude.{ℕ, List, ◌∷◌}
use Rattle.lf_core.specs.declared.values.Value.{Value}
use Rattle.lf_format.specs.Lines.{Prints}
use Rattle.lf_format.specs.declared.format.Piece.{Piece}
use Rattle.lf_product.specs.Walk.{LineLe}
use Rattle.lf_compile.specs.Confused.{IsLeastRecord}

-- Some record's line begins with `#`.
abbrev pub HasNote : List Piece → Type 0
HasNote pieces = (rec : List Value) × (rest : List ℕ) × Prints pieces rec (35 ∷ rest)

-- The least record of the least line that begins with `#`.
pub record IsLeastNote (pieces : List Piece) (rec : List Value) : Type 0 where
  pub rest : List ℕ
  pub on_line : IsLeastRecord pieces (35 ∷ rest) rec
  pub least : (other : List Value) (more : List ℕ) → Prints pieces other (35 ∷ more) → LineLe (35 ∷ rest) (35 ∷ more)
