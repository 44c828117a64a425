use Rattle.std.proofs.Common.{◌⊎◌, take}
use Rattle.std.specs.List.{Contains}
use Rattle.lf_core.specs.declared.marked.Move.{Move}
use Rattle.lf_core.specs.Marked.{NoneTwice}
use Rattle.lf_core.specs.Written.{machine_of}
use Rattle.lf_product.specs.Distance.{differed_by}
use Rattle.lf_product.specs.declared.pair.Pair.{Pair}
use Rattle.lf_product.specs.Walk.{IsNext, IsLeast}
use Rattle.lf_product.proofs.walk.add_pairs.Given as goal

abbrev pub invariant-loop-y : goal.invariant-loop-y
invariant-loop-y l = record {
  kept : (p : Pair) → Contains l.fn.list.items p → Contains l.list.items p;
  from : (p : Pair) → Contains l.list.items p → Contains l.fn.list.items p ⊎ IsNext (machine_of l.pairs) l.steps l.lefts l.rights l.differed p;
  all : (x y : Move) → Contains (take l.x-index l.lefts) x → Contains l.rights y → IsLeast (machine_of l.pairs) l.steps (record { left = x.to; right = y.to; differed = differed_by l.differed x y }) → Contains l.list.items (record { left = x.to; right = y.to; differed = differed_by l.differed x y });
  row : (y : Move) → Contains (take l.y-index l.rights) y → IsLeast (machine_of l.pairs) l.steps (record { left = l.x.to; right = y.to; differed = differed_by l.differed l.x y }) → Contains l.list.items (record { left = l.x.to; right = y.to; differed = differed_by l.differed l.x y });
  once : NoneTwice l.list.items;
}

abbrev pub invariant-loop-x : goal.invariant-loop-x
invariant-loop-x l = record {
  kept : (p : Pair) → Contains l.fn.list.items p → Contains l.list.items p;
  from : (p : Pair) → Contains l.list.items p → Contains l.fn.list.items p ⊎ IsNext (machine_of l.pairs) l.steps l.lefts l.rights l.differed p;
  all : (x y : Move) → Contains (take l.x-index l.lefts) x → Contains l.rights y → IsLeast (machine_of l.pairs) l.steps (record { left = x.to; right = y.to; differed = differed_by l.differed x y }) → Contains l.list.items (record { left = x.to; right = y.to; differed = differed_by l.differed x y });
  once : NoneTwice l.list.items;
}
