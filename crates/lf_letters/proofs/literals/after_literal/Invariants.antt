use Rattle.std.proofs.Common.{◌≡◌, ◌++◌, take}
use Rattle.lf_letters.proofs.literals.after_literal.Given as goal

abbrev pub invariant-loop-wanted : goal.invariant-loop-wanted
invariant-loop-wanted l = l.text ≡ take l.wanted-index l.literal ++ l.left
