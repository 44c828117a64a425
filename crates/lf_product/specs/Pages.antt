-- Pages of distances, each of 64 by 64 pairs of points with both values, and where a pair stands in them.
use Rattle.std.specs.Prelude.{◌≡◌, ℕ, ◌+◌, ◌*◌, ◌/◌, ◌%◌, min, max, Bool, cond, List, length, map, Option, None, Some, Vec, slice_index_or}
use Rattle.std.specs.Int.{div_ceil}
use Rattle.std.specs.List.{All, range_with_len}
use Rattle.std.specs.declared.alloc.Global.{Global}
use Rattle.lf_product.specs.declared.pages.TheConstants.{NONE, PAGE, BLOCK}

-- the page of a flagged pair, whichever of the points comes first: one for each two blocks of 64 points
unfoldable pub page_of : ℕ → ℕ → ℕ
page_of a b = max a b / BLOCK * (max a b / BLOCK + 1) / 2 + min a b / BLOCK

-- its place in the page
unfoldable pub place_of : ℕ → ℕ → Bool → ℕ
place_of a b d = max a b % BLOCK * (2 * BLOCK) + 2 * (min a b % BLOCK) + cond d 1 0

-- its cell, where the pages stand one after another
unfoldable pub cell : ℕ → ℕ → Bool → ℕ
cell a b d = page_of a b * PAGE + place_of a b d

-- how many pages so many points take: one for each two of their blocks, a block with itself too
unfoldable pub pages_for : ℕ → ℕ
pages_for points = div_ceil points BLOCK * (div_ceil points BLOCK + 1) / 2

-- what stands at a place of a page; where the page isn't made, no distance does
abbrev pub at_place : Option (Vec ℕ Global) → ℕ → ℕ
at_place None place = NONE
at_place (Some page) place = slice_index_or page.items place NONE

-- a page that is made has each of its places
abbrev pub IsWholePage : Option (Vec ℕ Global) → Type 0
IsWholePage None = Unit {0}
IsWholePage (Some page) = length page.items ≡ PAGE

-- what stands at each cell
unfoldable pub cells_of : List (Option (Vec ℕ Global)) → List ℕ
cells_of pages = map (λ at. at_place (slice_index_or pages (at / PAGE) None) (at % PAGE)) (range_with_len 0 (length pages * PAGE))

abbrev pub AreWholePages : List (Option (Vec ℕ Global)) → Type 0
AreWholePages pages = All (λ page. IsWholePage page) pages

-- none is made
abbrev pub AreNoPages : List (Option (Vec ℕ Global)) → Type 0
AreNoPages pages = (k : ℕ) → slice_index_or pages k None ≡ None
