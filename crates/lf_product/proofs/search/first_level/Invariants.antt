use Rattle.std.proofs.Common.{◌≡◌, ℕ, ◌<◌, [], true}
use Rattle.lf_product.specs.declared.pages.TheConstants.{NONE}
use Rattle.lf_core.specs.Written.{machine_of}
use Rattle.lf_product.specs.Cells.{steps_at}
use Rattle.lf_product.specs.Level.{Going}
use Rattle.lf_product.proofs.search.first_level.Given as goal

abbrev pub invariant-loop-right : goal.invariant-loop-right
invariant-loop-right l = record {
  going : Going (machine_of l.table) NONE 0 l.fn.distances [] l.distances l.waiting.items;
  done : (a b : ℕ) → a < l.left → b < (machine_of l.table).count → (machine_of l.table).is_end a ≡ true → (machine_of l.table).is_end b ≡ true → steps_at l.distances a b true < NONE;
  row : (b : ℕ) → b < l.right → (machine_of l.table).is_end b ≡ true → steps_at l.distances l.left b true < NONE;
}

abbrev pub invariant-loop-left : goal.invariant-loop-left
invariant-loop-left l = record {
  going : Going (machine_of l.table) NONE 0 l.fn.distances [] l.distances l.waiting.items;
  done : (a b : ℕ) → a < l.left → b < (machine_of l.table).count → (machine_of l.table).is_end a ≡ true → (machine_of l.table).is_end b ≡ true → steps_at l.distances a b true < NONE;
}
