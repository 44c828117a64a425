use Rattle.std.proofs.Common.{◌≡◌, ◌-◌, length}
use Rattle.lf_core.specs.Written.{machine_of}
use Rattle.lf_product.specs.Walk.{SharesFrom, IsLevel}
use Rattle.lf_product.proofs.WalkSteps.{Begins}
use Rattle.lf_product.proofs.walk.least_word.Given as goal

abbrev pub invariant-loop-taken : goal.invariant-loop-taken
invariant-loop-taken l = record {
  begins : Begins (machine_of l.pairs) (SharesFrom (machine_of l.pairs) l.fn.level.items) l.word (l.distance - l.taken) l.now.items;
  is_level : IsLevel (machine_of l.pairs) (l.distance - l.taken) l.now.items;
  len : length l.word ≡ l.taken;
}
