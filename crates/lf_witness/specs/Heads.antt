-- The least line that begins with a byte.
use Rattle.std.specs.Prelude.{◌≡◌, ℕ, ◌≤◌, List, ◌∷◌, true, Option, None, Some, Contains, min}
use Rattle.lf_core.specs.declared.marked.Move.{Move}
use Rattle.lf_core.specs.Marked.{Machine, IsWholeRun}
use Rattle.lf_product.specs.Distance.{Suffices}
use Rattle.lf_product.specs.Walk.{LineLe}
use Rattle.lf_witness.specs.Runs.{IsLeastRun}
use Rattle.lf_witness.specs.Sets.{CanEnd}

-- the least whole run on the least line that begins with the byte and has one
pub record IsLeastHeaded (m : Machine) (byte : ℕ) (line : List ℕ) (run : List Move) : Type 0 where
  pub rest : List ℕ
  pub begins : line ≡ byte ∷ rest
  pub least_line : (other : List ℕ) (whole : List Move) → IsWholeRun m (byte ∷ other) whole → LineLe line (byte ∷ other)
  pub least_run : IsLeastRun m m.first line run

-- no line that begins with the byte has a whole run
abbrev pub HasNoHeaded : Machine → ℕ → Type 0
HasNoHeaded m byte = (other : List ℕ) (whole : List Move) → IsWholeRun m (byte ∷ other) whole → ⊥

-- the least line over which an end is reached after some move on the byte
pub record IsLeastTail (m : Machine) (byte : ℕ) (tail : List ℕ) : Type 0 where
  pub can : CanEnd m (byte ∷ tail) m.first
  pub least : (other : List ℕ) → CanEnd m (byte ∷ other) m.first → LineLe tail other

-- so many bytes lead to an end from the point
abbrev pub EndsIn : Machine → ℕ → ℕ → Type 0
EndsIn m n p = Suffices m n p p true

-- the least number of bytes that lead to an end from one of the points to which the moves lead, if one of them has one
abbrev pub IsNearest : Machine → List Move → Option ℕ → Type 0
IsNearest m moves None = (x : Move) (k : ℕ) → Contains moves x → EndsIn m k x.to → ⊥
IsNearest m moves (Some n) =
    ((x : Move) × Contains moves x × EndsIn m n x.to) × ((x : Move) (k : ℕ) → Contains moves x → EndsIn m k x.to → n ≤ k)

-- the lesser of two numbers, where there are two
abbrev pub lesser_number : Option ℕ → Option ℕ → Option ℕ
lesser_number None b = b
lesser_number (Some x) None = Some x
lesser_number (Some x) (Some y) = Some (min x y)
