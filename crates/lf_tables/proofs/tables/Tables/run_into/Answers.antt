use Rattle.std.proofs.Common.{◌≡◌, ℕ, ◌<◌, List, length, get_or, true, sym, subst, arith, Option, None, Some}
use Rattle.lf_core.specs.declared.marked.Move.{Move}
use Rattle.lf_core.specs.Marked.{Machine, IsWholeRun}
use Rattle.lf_core.specs.Written.{WrittenMachine, machine_of}
use Rattle.lf_tables.specs.declared.ways.Back.{Back}
use Rattle.lf_tables.specs.Tabled.{Cell, cells_of, set_at, set_after, IsEndOf, IsTabled}
use Rattle.lf_tables.proofs.NumberLaws.{lists_of}
use Rattle.lf_tables.proofs.WalkLaws.{last_low, no_run}
use Rattle.lf_tables.proofs.tables.Tables.run_into.Goals as goal

-- what a table tells of the end of a line
module _ (m : Machine) (sets : List (List ℕ)) (class_of : List ℕ) (classes : ℕ) (cells : List Cell) (backs : List Back) (ends : List (Option ℕ)) (is : IsTabled m sets class_of classes cells backs ends) (line : List ℕ) (bytes : (i : ℕ) → get_or line i 0 < 256) (last : ℕ) (reached : last ≡ set_after class_of classes cells line) where
  has_end : last < length ends
  has_end = omega (arith, reached, is.each, last_low m sets class_of classes cells backs ends is line bytes)

  ended : (e : Option ℕ) → e ≡ get_or ends last e → IsEndOf m (set_at sets (set_after class_of classes cells line)) e
  ended e read = is.ended (set_after class_of classes cells line) e (last_low m sets class_of classes cells backs ends is line bytes) (subst (λ (s : ℕ). e ≡ get_or ends s e) reached read)

  none : (e : Option ℕ) → e ≡ get_or ends last e → e ≡ None → (run : List Move) → IsWholeRun m line run → ⊥
  none e read empty run whole = no_run m sets class_of classes cells backs ends is line run bytes (subst (λ (o : Option ℕ). IsEndOf m (set_at sets (set_after class_of classes cells line)) o) empty (ended e read)) whole

  some : (e : Option ℕ) (k : ℕ) → e ≡ get_or ends last e → e ≡ Some k → (k < length (set_at sets (set_after class_of classes cells line))) × (m.is_end (get_or (set_at sets (set_after class_of classes cells line)) k 0) ≡ true)
  some e k read full = (ended e read).some k full

pub index-requires : goal.index-requires
index-requires c =
    let bytes = λ (i : ℕ). let b : get_or c.args.line.now i 0 < 256 = omega (arith, c.type_inv.line i) in b in
    let low = has_end (machine_of c.self.inside.grid.machine.value) (lists_of c.self.inside.grid.sets.value.items) c.self.inside.grid.class_of.items c.self.inside.grid.classes (cells_of c.self.inside.grid.nexts.items c.self.inside.grid.starts.items) c.self.inside.grid.backs.items c.self.inside.grid.ends.items c.self.inside.grid.tabled c.args.line.now bytes c.in_ok-last.last c.in_ok-last.ensures.last in
    omega (arith, low, c.self.inside.grid.ends.ok.0)

pub returns-in_default : goal.returns-in_default
returns-in_default c =
    let bytes = λ (i : ℕ). let b : get_or c.args.line.now i 0 < 256 = omega (arith, c.type_inv.line i) in b in
    λ run whole. none (machine_of c.self.inside.grid.machine.value) (lists_of c.self.inside.grid.sets.value.items) c.self.inside.grid.class_of.items c.self.inside.grid.classes (cells_of c.self.inside.grid.nexts.items c.self.inside.grid.starts.items) c.self.inside.grid.backs.items c.self.inside.grid.ends.items c.self.inside.grid.tabled c.args.line.now bytes c.in_ok-last.last c.in_ok-last.ensures.last c.index.result.now c.index.ensures c.in_default.is run
    (subst (λ (w : WrittenMachine). IsWholeRun (machine_of w) c.args.line.now run) (sym c.self.view_is) whole)

pub backward-requires-clause-place : goal.backward-requires-clause-place
backward-requires-clause-place c =
    let bytes = λ (i : ℕ). let b : get_or c.args.line.now i 0 < 256 = omega (arith, c.type_inv.line i) in b in
    (some (machine_of c.self.inside.grid.machine.value) (lists_of c.self.inside.grid.sets.value.items) c.self.inside.grid.class_of.items c.self.inside.grid.classes (cells_of c.self.inside.grid.nexts.items c.self.inside.grid.starts.items) c.self.inside.grid.backs.items c.self.inside.grid.ends.items c.self.inside.grid.tabled c.args.line.now bytes c.in_ok-last.last c.in_ok-last.ensures.last c.index.result.now c.in-Some.end c.index.ensures c.in-Some.is).0

pub backward-requires-clause-ends : goal.backward-requires-clause-ends
backward-requires-clause-ends c =
    let bytes = λ (i : ℕ). let b : get_or c.args.line.now i 0 < 256 = omega (arith, c.type_inv.line i) in b in
    (some (machine_of c.self.inside.grid.machine.value) (lists_of c.self.inside.grid.sets.value.items) c.self.inside.grid.class_of.items c.self.inside.grid.classes (cells_of c.self.inside.grid.nexts.items c.self.inside.grid.starts.items) c.self.inside.grid.backs.items c.self.inside.grid.ends.items c.self.inside.grid.tabled c.args.line.now bytes c.in_ok-last.last c.in_ok-last.ensures.last c.index.result.now c.in-Some.end c.index.ensures c.in-Some.is).1
