-- distances in their cells, and when they are those of a machine
use Rattle.std.specs.Prelude.{ℕ, ◌<◌, Bool, cond, eqb, List, Option, Some, None, slice_index, slice_set}
use Rattle.lf_core.specs.Marked.{Machine}
use Rattle.lf_product.specs.Distance.{IsDistance}
use Rattle.lf_product.specs.Pages.{cell}

-- what stands in the cell of a flagged pair
unfoldable pub steps_at : List ℕ → ℕ → ℕ → Bool → ℕ
steps_at ds a b d = slice_index ds (cell a b d)

-- the same cells, with these steps in that one
abbrev pub put_at : List ℕ → ℕ → ℕ → Bool → ℕ → List ℕ
put_at ds a b d steps = slice_set ds (cell a b d) steps

-- a distance, where it is not the number that stands for none
abbrev pub answer : ℕ → ℕ → Option ℕ
answer none steps = cond (eqb steps none) None (Some steps)

-- each distance that stands is the right one
abbrev pub IsExact : Machine → ℕ → ℕ → List ℕ → Type 0
IsExact m n none ds = (a b : ℕ) (d : Bool) → a < n → b < n → IsDistance m a b d (answer none (steps_at ds a b d))
