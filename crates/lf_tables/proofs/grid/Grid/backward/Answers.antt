use Rattle.std.proofs.Common.{◌≡◌, ℕ, ◌+◌, ◌-◌, ◌<◌, List, [], ◌∷◌, ◌++◌, length, get_or, take, drop, reverse, sym, ap, ◌∙◌, subst, arith, Vec, Global, ◌*◌}
use Rattle.std.proofs.lemmas.List.{get_or_default}
use Rattle.lf_core.specs.declared.marked.Move.{Move}
use Rattle.lf_core.specs.Marked.{Machine}
use Rattle.lf_core.specs.Runs.{RunsToEnd}
use Rattle.lf_core.specs.Written.{machine_of}
use Rattle.lf_tables.specs.declared.ways.Back.{Back}
use Rattle.lf_tables.specs.Ways.{no_back, back_at}
use Rattle.lf_tables.specs.Tabled.{Cell, cells_of, set_at, cell_of, set_after}
use Rattle.lf_tables.proofs.NumberLaws.{lists_of, length_lists}
use Rattle.lf_tables.proofs.CellLaws.{start_at}
use Rattle.lf_tables.proofs.WalkLaws.{set_low, back_low, before_low, back_more}
use Rattle.lf_tables.proofs.grid.Grid.backward.Goals as goal

pub place-requires : goal.place-requires
place-requires c =
    let m : Machine = machine_of c.args.self.now.machine.value in
    let lists : List (Vec ℕ Global) = c.args.self.now.sets.value.items in
    let line : List ℕ = c.args.line.now in
    let at : ℕ = length c.args.line.now - 1 - c.loop-k.k in
    let lt : length c.args.line.now - 1 - c.loop-k.k < length line = omega (arith, c.loop-k-test.true) in
    let bytes = λ (i : ℕ). let b : get_or line i 0 < 256 = omega (arith, c.type_inv.line i) in b in
    let low : set_after c.args.self.now.class_of.items c.args.self.now.classes (cells_of c.args.self.now.nexts.items c.args.self.now.starts.items) (take at line) < length (lists_of lists) =
    set_low m (lists_of lists) c.args.self.now.class_of.items c.args.self.now.classes (cells_of c.args.self.now.nexts.items c.args.self.now.starts.items) c.args.self.now.backs.items c.args.self.now.ends.items c.args.self.now.tabled line at bytes in
    let e = c.requires.trail at lt in
    omega (arith, e, low, length_lists lists)

pub overflow_add-start : goal.overflow_add-start
overflow_add-start c =
    let m : Machine = machine_of c.args.self.now.machine.value in
    let lists : List (Vec ℕ Global) = c.args.self.now.sets.value.items in
    let of : List ℕ = c.args.self.now.class_of.items in
    let classes : ℕ = c.args.self.now.classes in
    let nexts : List ℕ = c.args.self.now.nexts.items in
    let starts : List ℕ = c.args.self.now.starts.items in
    let cells : List Cell = cells_of c.args.self.now.nexts.items c.args.self.now.starts.items in
    let backs : List Back = c.args.self.now.backs.items in
    let line : List ℕ = c.args.line.now in
    let place : ℕ = c.loop-k.place in
    let at : ℕ = length c.args.line.now - 1 - c.loop-k.k in
    let lt : length c.args.line.now - 1 - c.loop-k.k < length line = omega (arith, c.loop-k-test.true) in
    let bytes = λ (i : ℕ). let b : get_or line i 0 < 256 = omega (arith, c.type_inv.line i) in b in
    let next : length c.args.line.now - c.loop-k.k ≡ length c.args.line.now - 1 - c.loop-k.k + 1 = omega (arith, c.loop-k-test.true) in
    let there : place < length (set_at (lists_of lists) (set_after of classes cells (take (at + 1) line))) =
    subst (λ (n : ℕ). place < length (set_at (lists_of lists) (set_after of classes cells (take n line)))) next c.loop-k.invariant.place in
    let spot : c.place.result ≡ set_after of classes cells (take at line) * classes + get_or of (get_or line at 0) 0 =
    c.place.ensures.is ∙ ap (λ (s : ℕ). s * classes + get_or of (get_or line at 0) 0) (c.requires.trail at lt) in
    let some : c.place.result < length starts = omega (arith, c.place.ensures.low, c.args.self.now.even) in
    let start : c.index-start.result.now ≡ (cell_of of classes cells (set_after of classes cells (take at line)) (get_or line at 0)).start =
    c.index-start.ensures ∙ get_or_default starts c.place.result c.index-start.result.now 0 some ∙ ap (λ (i : ℕ). get_or starts i 0) spot
    ∙ sym (start_at nexts starts (set_after of classes cells (take at line) * classes + get_or of (get_or line at 0) 0) c.args.self.now.even) in
    let low : c.index-start.result.now + place < length backs =
    subst (λ (i : ℕ). i + place < length backs) (sym start) (back_low m (lists_of lists) of classes cells backs c.args.self.now.ends.items c.args.self.now.tabled line bytes at lt place there) in
    omega (arith, low, c.args.self.now.backs.ok)

pub index-back-requires : goal.index-back-requires
index-back-requires c =
    let m : Machine = machine_of c.args.self.now.machine.value in
    let lists : List (Vec ℕ Global) = c.args.self.now.sets.value.items in
    let of : List ℕ = c.args.self.now.class_of.items in
    let classes : ℕ = c.args.self.now.classes in
    let nexts : List ℕ = c.args.self.now.nexts.items in
    let starts : List ℕ = c.args.self.now.starts.items in
    let cells : List Cell = cells_of c.args.self.now.nexts.items c.args.self.now.starts.items in
    let backs : List Back = c.args.self.now.backs.items in
    let line : List ℕ = c.args.line.now in
    let place : ℕ = c.loop-k.place in
    let at : ℕ = length c.args.line.now - 1 - c.loop-k.k in
    let lt : length c.args.line.now - 1 - c.loop-k.k < length line = omega (arith, c.loop-k-test.true) in
    let bytes = λ (i : ℕ). let b : get_or line i 0 < 256 = omega (arith, c.type_inv.line i) in b in
    let next : length c.args.line.now - c.loop-k.k ≡ length c.args.line.now - 1 - c.loop-k.k + 1 = omega (arith, c.loop-k-test.true) in
    let there : place < length (set_at (lists_of lists) (set_after of classes cells (take (at + 1) line))) =
    subst (λ (n : ℕ). place < length (set_at (lists_of lists) (set_after of classes cells (take n line)))) next c.loop-k.invariant.place in
    let spot : c.place.result ≡ set_after of classes cells (take at line) * classes + get_or of (get_or line at 0) 0 =
    c.place.ensures.is ∙ ap (λ (s : ℕ). s * classes + get_or of (get_or line at 0) 0) (c.requires.trail at lt) in
    let some : c.place.result < length starts = omega (arith, c.place.ensures.low, c.args.self.now.even) in
    let start : c.index-start.result.now ≡ (cell_of of classes cells (set_after of classes cells (take at line)) (get_or line at 0)).start =
    c.index-start.ensures ∙ get_or_default starts c.place.result c.index-start.result.now 0 some ∙ ap (λ (i : ℕ). get_or starts i 0) spot
    ∙ sym (start_at nexts starts (set_after of classes cells (take at line) * classes + get_or of (get_or line at 0) 0) c.args.self.now.even) in
    let low : c.index-start.result.now + place < length backs =
    subst (λ (i : ℕ). i + place < length backs) (sym start) (back_low m (lists_of lists) of classes cells backs c.args.self.now.ends.items c.args.self.now.tabled line bytes at lt place there) in
    omega (arith, low, c.args.self.now.backs.ok.0)

pub loop-k-preserved : goal.loop-k-preserved
loop-k-preserved c =
    let m : Machine = machine_of c.args.self.now.machine.value in
    let lists : List (Vec ℕ Global) = c.args.self.now.sets.value.items in
    let of : List ℕ = c.args.self.now.class_of.items in
    let classes : ℕ = c.args.self.now.classes in
    let nexts : List ℕ = c.args.self.now.nexts.items in
    let starts : List ℕ = c.args.self.now.starts.items in
    let cells : List Cell = cells_of c.args.self.now.nexts.items c.args.self.now.starts.items in
    let backs : List Back = c.args.self.now.backs.items in
    let line : List ℕ = c.args.line.now in
    let place : ℕ = c.loop-k.place in
    let at : ℕ = length c.args.line.now - 1 - c.loop-k.k in
    let lt : length c.args.line.now - 1 - c.loop-k.k < length line = omega (arith, c.loop-k-test.true) in
    let bytes = λ (i : ℕ). let b : get_or line i 0 < 256 = omega (arith, c.type_inv.line i) in b in
    let next : length c.args.line.now - c.loop-k.k ≡ length c.args.line.now - 1 - c.loop-k.k + 1 = omega (arith, c.loop-k-test.true) in
    let there : place < length (set_at (lists_of lists) (set_after of classes cells (take (at + 1) line))) =
    subst (λ (n : ℕ). place < length (set_at (lists_of lists) (set_after of classes cells (take n line)))) next c.loop-k.invariant.place in
    let spot : c.place.result ≡ set_after of classes cells (take at line) * classes + get_or of (get_or line at 0) 0 =
    c.place.ensures.is ∙ ap (λ (s : ℕ). s * classes + get_or of (get_or line at 0) 0) (c.requires.trail at lt) in
    let some : c.place.result < length starts = omega (arith, c.place.ensures.low, c.args.self.now.even) in
    let start : c.index-start.result.now ≡ (cell_of of classes cells (set_after of classes cells (take at line)) (get_or line at 0)).start =
    c.index-start.ensures ∙ get_or_default starts c.place.result c.index-start.result.now 0 some ∙ ap (λ (i : ℕ). get_or starts i 0) spot
    ∙ sym (start_at nexts starts (set_after of classes cells (take at line) * classes + get_or of (get_or line at 0) 0) c.args.self.now.even) in
    let low : c.index-start.result.now + place < length backs =
    subst (λ (i : ℕ). i + place < length backs) (sym start) (back_low m (lists_of lists) of classes cells backs c.args.self.now.ends.items c.args.self.now.tabled line bytes at lt place there) in
    let read : c.index-back.result.now ≡ back_at backs (c.index-start.result.now + place) = c.index-back.ensures ∙ get_or_default backs (c.index-start.result.now + place) c.index-back.result.now no_back low in
    let back : c.index-back.result.now ≡ back_at backs ((cell_of of classes cells (set_after of classes cells (take at line)) (get_or line at 0)).start + place) = read ∙ ap (λ (i : ℕ). back_at backs (i + place)) start in
    let done : length c.args.line.now - 1 - c.loop-k.k ≡ length c.args.line.now - (c.loop-k.k + 1) = omega (arith, c.loop-k-test.true) in
    let old : List Move = c.loop-k.moves.items in
    let pushed : c.push.new.self.items ≡ old ++ c.index-back.result.now.step ∷ [] = c.in_ok-push.ensures.items in
    let ends_there : RunsToEnd m (get_or (set_at (lists_of lists) (set_after of classes cells (take (at + 1) line))) place 0) (drop (at + 1) line) (reverse old) =
    subst (λ (n : ℕ). RunsToEnd m (get_or (set_at (lists_of lists) (set_after of classes cells (take n line))) place 0) (drop n line) (reverse old)) next c.loop-k.invariant.ends in
    let more = back_more m (lists_of lists) of classes cells backs c.args.self.now.ends.items c.args.self.now.tabled line bytes at lt place there old ends_there in
    let first = before_low m (lists_of lists) of classes cells backs c.args.self.now.ends.items c.args.self.now.tabled line bytes at lt place there in
    record {
      place = subst (λ (n : ℕ). c.index-back.result.now.before < length (set_at (lists_of lists) (set_after of classes cells (take n line)))) done
          (subst (λ (x : Back). x.before < length (set_at (lists_of lists) (set_after of classes cells (take at line)))) (sym back) first);
      ends = subst (λ (n : ℕ). RunsToEnd m (get_or (set_at (lists_of lists) (set_after of classes cells (take n line))) c.index-back.result.now.before 0) (drop n line) (reverse c.push.new.self.items)) done
          (subst (λ (xs : List Move). RunsToEnd m (get_or (set_at (lists_of lists) (set_after of classes cells (take at line))) c.index-back.result.now.before 0) (drop at line) (reverse xs)) (sym pushed)
          (subst (λ (x : Back). RunsToEnd m (get_or (set_at (lists_of lists) (set_after of classes cells (take at line))) x.before 0) (drop at line) (reverse (old ++ x.step ∷ []))) (sym back) more));
    }
