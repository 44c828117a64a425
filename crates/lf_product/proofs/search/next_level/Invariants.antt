use Rattle.std.proofs.Common.{◌+◌, [], take}
use Rattle.std.specs.List.{Contains}
use Rattle.lf_product.specs.declared.pair.SmallPair.{SmallPair}
use Rattle.lf_product.specs.declared.pages.TheConstants.{NONE}
use Rattle.lf_core.specs.Written.{machine_of}
use Rattle.lf_product.specs.Level.{AreBefore, Going}
use Rattle.lf_product.proofs.search.next_level.Given as goal

abbrev pub invariant-loop-pair : goal.invariant-loop-pair
invariant-loop-pair l = record {
  going : Going (machine_of l.table) NONE (l.steps + 1) l.fn.distances [] l.distances l.waiting.items;
  done : (p : SmallPair) → Contains (take l.pair-index l.level) p → AreBefore (machine_of l.table) NONE l.distances p;
}
