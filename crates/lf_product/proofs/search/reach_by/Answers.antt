use Rattle.std.proofs.Common.{◌≡◌, arith, true, false, eqb, ◌&&◌}
use Rattle.lf_core.specs.Written.{machine_of}
use Rattle.lf_product.proofs.Sweep.{before_step, differs}
use Rattle.lf_product.proofs.search.reach_by.Goals as goal
use Rattle.lf_product.proofs.search.reach_by.Goals.{then-pair, else-pair}

pub reach_if-requires-2-clause-way : goal.reach_if-requires-2-clause-way
reach_if-requires-2-clause-way c = λ h.
    let same : (eqb c.args.x.now.mark c.args.y.now.mark && eqb c.args.pair.left c.args.pair.right) ≡ c.if-pair.same =
    elim c.if-pair.branch [
      | then-pair w ↦ let one : eqb c.args.pair.left c.args.pair.right ≡ true = grind (arith, w.if-pair.true) in rw (one, w.same-is) (grind arith)
      | else-pair w ↦ let two : eqb c.args.pair.left c.args.pair.right ≡ false = grind (arith, w.if-pair.false) in rw (two, w.same-is) (grind arith)
    ] in
    before_step (machine_of c.args.table.now) c.args.steps c.args.x.now c.args.y.now c.args.pair false c.requires.way c.requires.step (c.meets.ensures.yes c.if-not-meets.false)
    (differs _ c.args.pair.differed c.if-pair.same same h)
