use Rattle.std.proofs.Common.{◌≡◌, ◌*◌, ◌≤◌, ℕ, length, subst, arith, rules}
use Rattle.lf_tables.specs.Tabled.{cells_of}
use Rattle.lf_tables.proofs.NumberLaws.{lists_of, length_lists}
use Rattle.lf_tables.proofs.CellLaws.{length_cells}
use Rattle.lf_tables.proofs.search.search.Goals as goal

pub returns : goal.returns
returns c =
    let many : length (cells_of c.cells.found.nexts.items c.cells.found.starts.items) ≡ length c.cells.found.nexts.items = length_cells c.cells.found.nexts.items c.cells.found.starts.items c.cells.invariant.even in
    let sets : length (lists_of c.cells.found.sets.lists.items) ≡ length c.cells.found.sets.lists.items = length_lists c.cells.found.sets.lists.items in
    let within : length (cells_of c.cells.found.nexts.items c.cells.found.starts.items) ≤ length c.cells.found.sets.lists.items * length c.args.firsts.now = subst (λ (n : ℕ). length (cells_of c.cells.found.nexts.items c.cells.found.starts.items) ≤ n * length c.args.firsts.now) sets c.cells.invariant.found.within in
    let ended : length c.cells.found.sets.lists.items * length c.args.firsts.now ≤ length c.cells.found.nexts.items = search (rules, c.cells-test.false) in
    (c.cells.invariant.numbered, c.cells.invariant.found, c.cells.invariant.even, omega (arith, many, within, ended))
