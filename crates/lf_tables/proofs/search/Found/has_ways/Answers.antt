use Rattle.std.proofs.Common.{◌≡◌, ℕ, ◌+◌, ◌<◌, ◌≤◌, inl, inr, List, length, get_or, Vec, Global, sym, ap, ◌∙◌, subst, arith}
use Rattle.std.proofs.lemmas.Bool.{cases_lt}
use Rattle.std.proofs.lemmas.List.{get_or_default}
use Rattle.lf_tables.specs.declared.ways.Back.{Back}
use Rattle.lf_tables.specs.Ways.{no_back, back_at}
use Rattle.lf_tables.specs.Tabled.{Cell, cells_of, cell_at, set_at, HasWays, AreStored}
use Rattle.lf_tables.proofs.NumberLaws.{lists_of, length_lists, list_at}
use Rattle.lf_tables.proofs.CellLaws.{length_cells, next_at, start_at, same_back}
use Rattle.lf_tables.proofs.search.Found.has_ways.Goals as goal

-- what was read of a cell that is stored
module _ (lists : List (Vec ℕ Global)) (nexts starts : List ℕ) (backs : List Back) (k : ℕ) (low : k < length nexts) (even : length nexts ≡ length starts) (stored : AreStored (lists_of lists) (cells_of nexts starts) backs) where
  abbrev cell : Cell
  cell = cell_at (cells_of nexts starts) k

  next_is : (n : ℕ) → n ≡ get_or nexts k n → n ≡ cell.next
  next_is n read = read ∙ get_or_default nexts k n 0 low ∙ sym (next_at nexts starts k even)

  start_is : (s : ℕ) → s ≡ get_or starts k s → s ≡ cell.start
  start_is s read = read ∙ get_or_default starts k s 0 (omega (arith, low, even)) ∙ sym (start_at nexts starts k even)

  next_low : (n : ℕ) → n ≡ get_or nexts k n → n < length lists
  next_low n read =
      let there : cell.next < length (lists_of lists) = (stored k (omega (arith, low, length_cells nexts starts even))).0 in
      omega (arith, next_is n read, there, length_lists lists)

  set_is : (n : ℕ) (v : Vec ℕ Global) → n ≡ get_or nexts k n → v ≡ get_or lists n v → v.items ≡ set_at (lists_of lists) cell.next
  set_is n v read of = list_at lists n v (next_low n read) of ∙ ap (set_at (lists_of lists)) (next_is n read)

  way_low : (n s place many : ℕ) (v : Vec ℕ Global) → n ≡ get_or nexts k n → s ≡ get_or starts k s → v ≡ get_or lists n v → length v.items ≡ many → place < many → s + place < length backs
  way_low n s place many v read from of each lt =
      let within : cell.start + length (set_at (lists_of lists) cell.next) ≤ length backs = (stored k (omega (arith, low, length_cells nexts starts even))).1 in
      let size : length v.items ≡ length (set_at (lists_of lists) cell.next) = ap (λ (xs : List ℕ). length xs) (set_is n v read of) in
      omega (arith, start_is s from, within, size, each, lt)

  has : (n s : ℕ) (v : Vec ℕ Global) (ways : List Back) → n ≡ get_or nexts k n → s ≡ get_or starts k s → v ≡ get_or lists n v → length v.items ≡ length ways → ((i : ℕ) → i < length ways → back_at backs (s + i) ≡ back_at ways i) → HasWays (lists_of lists) backs cell ways
  has n s v ways read from of each same = record {
    each = ap (λ (xs : List ℕ). length xs) (sym (set_is n v read of)) ∙ each;
    same = λ i lt. ap (λ (j : ℕ). back_at backs (j + i)) (sym (start_is s from)) ∙ same i lt;
  }

pub index-set-requires : goal.index-set-requires
index-set-requires c =
    let low = next_low c.args.self.now.sets.lists.items c.args.self.now.nexts.items c.args.self.now.starts.items c.args.self.now.backs.items c.args.cell c.requires.low c.requires.even c.requires.stored c.index.result.now c.index.ensures in
    omega (arith, low, c.args.self.now.sets.lists.ok.0)

pub overflow_add-start : goal.overflow_add-start
overflow_add-start c =
    let each : length c.index-set.result.now.items ≡ length c.args.ways.now = omega (arith, c.if-len-ways.false, c.len.ensures, c.index-set.result.now.ok.0) in
    let low = way_low c.args.self.now.sets.lists.items c.args.self.now.nexts.items c.args.self.now.starts.items c.args.self.now.backs.items c.args.cell c.requires.low c.requires.even c.requires.stored c.index.result.now c.index-start.result.now c.loop-place.place (length c.args.ways.now) c.index-set.result.now c.index.ensures c.index-start.ensures c.index-set.ensures each c.loop-place-test.true in
    omega (arith, low, c.args.self.now.backs.ok.0, c.args.self.now.backs.small)

pub index-requires-in-loop-place : goal.index-requires-in-loop-place
index-requires-in-loop-place c =
    let each : length c.index-set.result.now.items ≡ length c.args.ways.now = omega (arith, c.if-len-ways.false, c.len.ensures, c.index-set.result.now.ok.0) in
    let low = way_low c.args.self.now.sets.lists.items c.args.self.now.nexts.items c.args.self.now.starts.items c.args.self.now.backs.items c.args.cell c.requires.low c.requires.even c.requires.stored c.index.result.now c.index-start.result.now c.loop-place.place (length c.args.ways.now) c.index-set.result.now c.index.ensures c.index-start.ensures c.index-set.ensures each c.loop-place-test.true in
    omega (arith, low, c.args.self.now.backs.ok.0)

pub loop-place-preserved : goal.loop-place-preserved
loop-place-preserved c =
    let backs : List Back = c.args.self.now.backs.items in
    let at : ℕ = c.index-start.result.now + c.loop-place.place in
    let each : length c.index-set.result.now.items ≡ length c.args.ways.now = omega (arith, c.if-len-ways.false, c.len.ensures, c.index-set.result.now.ok.0) in
    let low = way_low c.args.self.now.sets.lists.items c.args.self.now.nexts.items c.args.self.now.starts.items c.args.self.now.backs.items c.args.cell c.requires.low c.requires.even c.requires.stored c.index.result.now c.index-start.result.now c.loop-place.place (length c.args.ways.now) c.index-set.result.now c.index.ensures c.index-start.ensures c.index-set.ensures each c.loop-place-test.true in
    let read : c.index-in-loop-place.result.now ≡ back_at backs at = c.index-in-loop-place.ensures ∙ get_or_default backs at c.index-in-loop-place.result.now no_back low in
    let same = same_back c.index-in-loop-place.result.now (back_at c.args.ways.now c.loop-place.place) c.ne.result c.ne.ensures c.if-ne.false in
    λ k lt. elim (cases_lt k c.loop-place.place) [
      | inl less ↦ c.loop-place.invariant k less
      | inr ge ↦
          let e : c.loop-place.place ≡ k = omega (arith, lt, ge) in
          subst (λ (j : ℕ). back_at backs (c.index-start.result.now + j) ≡ back_at c.args.ways.now j) e (sym read ∙ same)
    ]

pub returns : goal.returns
returns c =
    let each : length c.index-set.result.now.items ≡ length c.args.ways.now = omega (arith, c.if-len-ways.false, c.len.ensures, c.index-set.result.now.ok.0) in
    has c.args.self.now.sets.lists.items c.args.self.now.nexts.items c.args.self.now.starts.items c.args.self.now.backs.items c.args.cell c.requires.low c.requires.even c.requires.stored c.index.result.now c.index-start.result.now c.index-set.result.now c.args.ways.now c.index.ensures c.index-start.ensures c.index-set.ensures each (λ i lt. c.loop-place.invariant i (omega (arith, lt, c.loop-place-test.false)))
