use Rattle.std.proofs.Common.{take}
use Rattle.std.specs.List.{Contains}
use Rattle.lf_core.specs.Marked.{NoneTwice}
use Rattle.lf_core.specs.Written.{machine_of}
use Rattle.lf_product.specs.declared.pair.Pair.{Pair}
use Rattle.lf_product.specs.Walk.{IsNext, IsNextOf}
use Rattle.lf_product.proofs.walk.next_on.Given as goal

abbrev pub invariant-loop-pair : goal.invariant-loop-pair
invariant-loop-pair l = record {
  from : (p : Pair) → Contains l.next.items p → IsNextOf (machine_of l.pairs) l.steps l.level l.byte p;
  all : (q p : Pair) → Contains (take l.pair-index l.level) q → IsNext (machine_of l.pairs) l.steps ((machine_of l.pairs).moves q.left l.byte) ((machine_of l.pairs).moves q.right l.byte) q.differed p → Contains l.next.items p;
  once : NoneTwice l.next.items;
}
