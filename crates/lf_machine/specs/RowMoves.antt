-- Parts in a row by numbers: the moves into them and from their points.
use Rattle.std.proofs.Common.{◌≡◌, ℕ, ◌+◌, ◌-◌, List, [], ◌∷◌, ◌++◌, map, Bool, true, false, cond, ltb, ◌&&◌, arith}
use Rattle.lf_core.specs.declared.marked.Move.{Move}
use Rattle.lf_machine.specs.Lists.{Rises, rises-append, rises-up, rises-more, rises-guard, rises-either}
use Rattle.lf_machine.specs.Rows.{Row, marks_of}

-- a part's move among those of a row: its marks above those of the later parts, its points after those of the earlier
abbrev pub shift : ℕ → ℕ → Move → Move
shift above base m = record { mark = above + m.mark; to = base + m.to }

pub rises-shift : (a b above base : ℕ) (ms : List Move) → Rises a b ms → Rises (above + a) (above + b) (map (shift above base) ms)
rises-shift a b above base [] h = omega arith
rises-shift a b above base (m ∷ ms) h =
    (omega (arith, h.0), rises-more ((above + m.mark) + 1) (above + (m.mark + 1)) (above + b) (map (shift above base) ms) (omega arith) (rises-shift (m.mark + 1) b above base ms h.1))

-- The points of a part: how many, the moves into it and from each, where it may end, and the numbers of its states.
pub record Numbering (P S : Type 0) : Type 1 where
  pub count : P → ℕ
  pub enters : P → ℕ → List Move
  pub moves : P → ℕ → ℕ → List Move
  pub is_done : P → ℕ → Bool
  pub is_empty : P → Bool
  pub number : P → S → ℕ
  pub state : P → ℕ → S
  -- the states that have a number
  pub Valid : P → S → Type 0

module _ {P S V : Type 0} (row : Row P S V) (num : Numbering P S) where
  -- how many points parts have
  abbrev pub all_points : List P → ℕ
  all_points [] = 0
  all_points (p ∷ ps) = num.count p + all_points ps

  -- the moves into a row whose points begin at the base, those of the later parts first
  abbrev pub row_enter : List P → ℕ → ℕ → List Move
  row_enter [] base byte = []
  row_enter (p ∷ ps) base byte = cond (num.is_empty p) (row_enter ps (base + num.count p) byte) [] ++ map (shift (marks_of row ps) base) (num.enters p byte)

  -- the moves at a point of the row
  abbrev pub row_moves : List P → ℕ → ℕ → ℕ → List Move
  row_moves [] base point byte = []
  row_moves (p ∷ ps) base point byte =
      cond (ltb point (base + num.count p))
      (cond (num.is_done p (point - base)) (row_enter ps (base + num.count p) byte) [] ++ map (shift (marks_of row ps) base) (num.moves p (point - base) byte))
      (row_moves ps (base + num.count p) point byte)

  -- whether parts may print nothing
  abbrev pub row_empty : List P → Bool
  row_empty [] = true
  row_empty (p ∷ ps) = num.is_empty p && row_empty ps

  -- whether the line may stop at a point of the row
  abbrev pub row_done : List P → ℕ → ℕ → Bool
  row_done [] base point = false
  row_done (p ∷ ps) base point = cond (ltb point (base + num.count p)) (num.is_done p (point - base) && row_empty ps) (row_done ps (base + num.count p) point)

  -- the marks of a part's moves rise, below its number of marks
  pub record PartRises (p : P) : Type 0 where
    pub into : (byte : ℕ) → Rises 0 (row.marks p) (num.enters p byte)
    pub at : (point byte : ℕ) → Rises 0 (row.marks p) (num.moves p point byte)

  -- the marks of each part's moves rise
  abbrev pub AllRise : List P → Type 0
  AllRise [] = Unit {0}
  AllRise (p ∷ ps) = PartRises p × AllRise ps

  rises-row : (b : Bool) (above base top : ℕ) (late own : List Move) → Rises 0 above late → Rises 0 top own → Rises 0 (top + above) (cond b late [] ++ map (shift above base) own)
  rises-row b above base top late own l o =
      let e : above + 0 ≡ above = omega arith in
      let f : above + top ≡ top + above = omega arith in
      let s : Rises (above + 0) (above + top) (map (shift above base) own) = rises-shift 0 top above base own o in
      let t : Rises above (top + above) (map (shift above base) own) = rw (e, f) at s in
      rises-append 0 above (top + above) (cond b late []) (map (shift above base) own) (rises-guard b 0 above late (omega arith) l) t

  pub row-rises_into : (ps : List P) → AllRise ps → (base byte : ℕ) → Rises 0 (marks_of row ps) (row_enter ps base byte)
  row-rises_into [] a base byte = omega arith
  row-rises_into (p ∷ ps) a base byte = rises-row (num.is_empty p) (marks_of row ps) base (row.marks p) (row_enter ps (base + num.count p) byte) (num.enters p byte) (row-rises_into ps a.1 (base + num.count p) byte) (a.0.into byte)

  pub row-rises : (ps : List P) → AllRise ps → (base point byte : ℕ) → Rises 0 (marks_of row ps) (row_moves ps base point byte)
  row-rises [] a base point byte = omega arith
  row-rises (p ∷ ps) a base point byte =
      rises-either (ltb point (base + num.count p)) 0 (row.marks p + marks_of row ps)
      (cond (num.is_done p (point - base)) (row_enter ps (base + num.count p) byte) [] ++ map (shift (marks_of row ps) base) (num.moves p (point - base) byte)) (row_moves ps (base + num.count p) point byte)
      (rises-row (num.is_done p (point - base)) (marks_of row ps) base (row.marks p) (row_enter ps (base + num.count p) byte) (num.moves p (point - base) byte) (row-rises_into ps a.1 (base + num.count p) byte) (a.0.at (point - base) byte))
      (rises-up 0 (marks_of row ps) (row.marks p + marks_of row ps) (row_moves ps (base + num.count p) point byte) (omega arith) (row-rises ps a.1 (base + num.count p) point byte))
