use Rattle.std.proofs.Common.{◌≡◌, ℕ, ◌*◌, ◌<◌, List, length, get_or, sym, ap, ◌∙◌, subst, arith, Option, Vec, Global}
use Rattle.std.specs.List.{Contains}
use Rattle.lf_core.specs.Marked.{Machine, IsMachine}
use Rattle.lf_core.specs.Written.{WrittenMachine, machine_of}
use Rattle.lf_limits.specs.Limits.{most_sets}
use Rattle.lf_tables.specs.declared.ways.Back.{Back}
use Rattle.lf_tables.specs.Classes.{AreClasses}
use Rattle.lf_tables.specs.Tabled.{Cell, cells_of, set_at, IsEndOf, IsTabled}
use Rattle.lf_tables.specs.Found.{AreFound}
use Rattle.lf_tables.proofs.NumberLaws.{lists_of, length_lists}
use Rattle.lf_tables.proofs.CellLaws.{length_cells}
use Rattle.lf_tables.proofs.TableLaws.{found_below, tabled, no_more}
use Rattle.lf_tables.proofs.tables.Tables.build.Goals as goal

-- the table, from lists that were read once more
table_of : (m : Machine) (class_of firsts seen : List ℕ) (lists read : List (Vec ℕ Global)) (cells : List Cell) (backs : List Back) (ends : List (Option ℕ)) → IsMachine m → seen ≡ firsts → read ≡ lists → AreClasses m class_of firsts 256 → AreFound m seen (lists_of lists) cells backs → length cells ≡ length lists * length seen → length ends ≡ length read → ((s : ℕ) (e : Option ℕ) → s < length read → e ≡ get_or ends s e → IsEndOf m (set_at (lists_of read) s) e) → IsTabled m (lists_of lists) class_of (length firsts) cells backs ends
table_of m class_of firsts seen lists read cells backs ends lawful firsts_are lists_are classed found full each ended =
    let n : length (lists_of lists) ≡ length lists = length_lists lists in
    let found_here : AreFound m firsts (lists_of lists) cells backs = subst (λ (fs : List ℕ). AreFound m fs (lists_of lists) cells backs) firsts_are found in
    let full_here : length cells ≡ length (lists_of lists) * length firsts =
    full ∙ ap (λ (fs : List ℕ). length lists * length fs) firsts_are ∙ ap (λ (k : ℕ). k * length firsts) (sym n) in
    let each_here : length ends ≡ length (lists_of lists) = each ∙ ap (λ (xs : List (Vec ℕ Global)). length xs) lists_are ∙ sym n in
    let ended_here : (s : ℕ) (e : Option ℕ) → s < length lists → e ≡ get_or ends s e → IsEndOf m (set_at (lists_of lists) s) e =
    subst (λ (xs : List (Vec ℕ Global)). (s : ℕ) (e : Option ℕ) → s < length xs → e ≡ get_or ends s e → IsEndOf m (set_at (lists_of xs) s) e) lists_are ended in
    tabled m class_of firsts (lists_of lists) cells backs ends lawful classed found_here full_here each_here (λ s e lt. ended_here s e (omega (arith, lt, n)))

pub ends_of-requires : goal.ends_of-requires
ends_of-requires c =
    let m : Machine = machine_of c.args.table.now in
    let found = rw c.in-Some.is at c.in_ok-found.ensures in
    let lists : List (Vec ℕ Global) = c.in-Some.found.sets.lists.items in
    let low : (s p : ℕ) → s < length lists → Contains (set_at (lists_of lists) s) p → p < m.count =
    λ s p lt h. found_below m c.deref.result.now (lists_of lists) (cells_of c.in-Some.found.nexts.items c.in-Some.found.starts.items) c.in-Some.found.backs.items s p c.requires found.1 (omega (arith, lt, length_lists lists)) h in
    subst (λ (xs : List (Vec ℕ Global)). (s p : ℕ) → s < length xs → Contains (set_at (lists_of xs) s) p → p < m.count) (sym c.deref-2.ensures.value) low

pub invariant_of-grid : goal.invariant_of-grid
invariant_of-grid c =
    let found = rw c.in-Some.is at c.in_ok-found.ensures in
    let lists : List (Vec ℕ Global) = c.in-Some.found.sets.lists.items in
    let class_of : List ℕ = c.in_ok-class_of.field-0.class_of.items in
    let firsts : List ℕ = c.in_ok-class_of.field-0.firsts.items in
    let cells : List Cell = (cells_of c.in-Some.found.nexts.items c.in-Some.found.starts.items) in
    let backs : List Back = c.in-Some.found.backs.items in
    let ends : List (Option ℕ) = c.in_ok-ends.ends.items in
    let classes : c.len-classes.result ≡ length firsts = c.len-classes.ensures ∙ c.in_ok-class_of.field-0.firsts.ok.0 in
    let table : IsTabled (machine_of c.args.table.now) (lists_of lists) class_of (length firsts) cells backs ends =
    table_of (machine_of c.args.table.now) class_of firsts c.deref.result.now lists c.deref-2.result.now cells backs ends c.requires c.deref.ensures.value c.deref-2.ensures.value c.in_ok-class_of.ensures found.1 (length_cells c.in-Some.found.nexts.items c.in-Some.found.starts.items found.2 ∙ found.3) c.in_ok-ends.ensures.each c.in_ok-ends.ensures.ends in
    record {
      even = found.2;
      tabled = subst (λ (w : WrittenMachine). IsTabled (machine_of w) (lists_of c.of-2.result.value.items) class_of c.len-classes.result cells backs ends) (sym c.of.ensures)
          (subst (λ (v : Vec (Vec ℕ Global) Global). IsTabled (machine_of c.args.table.now) (lists_of v.items) class_of c.len-classes.result cells backs ends) (sym c.of-2.ensures)
          (subst (λ (k : ℕ). IsTabled (machine_of c.args.table.now) (lists_of lists) class_of k cells backs ends) (sym classes) table));
    }

pub returns : goal.returns
returns c =
    let found = rw c.in-Some.is at c.in_ok-found.ensures in
    let lists : List (Vec ℕ Global) = c.in-Some.found.sets.lists.items in
    let class_of : List ℕ = c.in_ok-class_of.field-0.class_of.items in
    let firsts : List ℕ = c.in_ok-class_of.field-0.firsts.items in
    let cells : List Cell = (cells_of c.in-Some.found.nexts.items c.in-Some.found.starts.items) in
    let backs : List Back = c.in-Some.found.backs.items in
    let ends : List (Option ℕ) = c.in_ok-ends.ends.items in
    let table : IsTabled (machine_of c.args.table.now) (lists_of lists) class_of (length firsts) cells backs ends =
    table_of (machine_of c.args.table.now) class_of firsts c.deref.result.now lists c.deref-2.result.now cells backs ends c.requires c.deref.ensures.value c.deref-2.ensures.value c.in_ok-class_of.ensures found.1 (length_cells c.in-Some.found.nexts.items c.in-Some.found.starts.items found.2 ∙ found.3) c.in_ok-ends.ensures.each c.in_ok-ends.ensures.ends in
    (c.of.ensures, λ more. no_more (machine_of c.args.table.now) (lists_of lists) class_of (length firsts) cells backs ends table most_sets more found.0.few)
