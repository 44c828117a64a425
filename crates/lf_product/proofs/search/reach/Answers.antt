use Rattle.std.proofs.Common.{◌≡◌, false, arith, rules}
use Rattle.lf_core.specs.Written.{machine_of}
use Rattle.lf_product.specs.declared.pages.TheConstants.{NONE}
use Rattle.lf_product.specs.Cells.{steps_at}
use Rattle.lf_product.proofs.Levels.{inside, going_waits, going_first, has_steps}
use Rattle.lf_product.proofs.search.reach.Goals as goal

pub get-requires : goal.get-requires
get-requires c = inside (machine_of c.args.table.now) c.args.distances.now c.args.pair.left c.args.pair.right c.args.pair.differed c.requires.standing.whole c.requires.left c.requires.right

pub set-requires : goal.set-requires
set-requires c = inside (machine_of c.args.table.now) c.args.distances.now c.args.pair.left c.args.pair.right c.args.pair.differed c.requires.standing.whole c.requires.left c.requires.right

pub returns-then-not-pair-clause-going : goal.returns-then-not-pair-clause-going
returns-then-not-pair-clause-going c =
    let free : steps_at c.args.distances.now c.args.pair.left c.args.pair.right c.args.pair.differed ≡ NONE = omega (arith, c.if-get.false, c.get.ensures) in
    let off : c.args.pair.differed ≡ false = search rules in
    rw c.in_ok-set.ensures.ok
    (going_first (machine_of c.args.table.now) NONE c.args.steps c.args.distances.now c.args.waiting.now.items c.args.pair c.requires.standing free c.requires.left c.requires.right c.requires.way c.if-pair.true off)

pub returns-then-not-pair-clause-has : goal.returns-then-not-pair-clause-has
returns-then-not-pair-clause-has c = rw c.in_ok-set.ensures.ok (has_steps (machine_of c.args.table.now) NONE c.args.steps c.args.distances.now c.args.pair c.requires.standing.whole c.requires.left c.requires.right c.requires.standing.small)

pub returns-clause-going : goal.returns-clause-going
returns-clause-going c =
    let free : steps_at c.args.distances.now c.args.pair.left c.args.pair.right c.args.pair.differed ≡ NONE = omega (arith, c.if-get.false, c.get.ensures) in
    rw (c.in_ok-set.ensures.ok, c.in_ok-push.ensures.items)
    (going_waits (machine_of c.args.table.now) NONE c.args.steps c.args.distances.now c.args.waiting.now.items c.args.pair c.requires.standing free c.requires.left c.requires.right c.requires.way)

pub returns-clause-has : goal.returns-clause-has
returns-clause-has c = rw c.in_ok-set.ensures.ok (has_steps (machine_of c.args.table.now) NONE c.args.steps c.args.distances.now c.args.pair c.requires.standing.whole c.requires.left c.requires.right c.requires.standing.small)
