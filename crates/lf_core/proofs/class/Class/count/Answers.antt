use Rattle.std.proofs.Common.{◌∷◌, [], ap, length, length-append, arith}
use Rattle.lf_core.specs.Class.{members_below}
use Rattle.lf_core.proofs.Members.{members_below-none, members_below-in, members_below-out}
use Rattle.lf_core.proofs.class.Class.count.Goals as goal
use Rattle.lf_core.proofs.class.Class.count.Goals.{then-has, else-has}

pub loop-b-init : goal.loop-b-init
loop-b-init c = (omega (arith, ap length (members_below-none c.args.self.now)), omega arith)

pub loop-b-preserved : goal.loop-b-preserved
loop-b-preserved c =
    let set = c.args.self.now in
    let b = c.loop-b.b in
    let inv = c.loop-b.invariant in
    elim c.if-has.branch [
      | then-has w ↦
          let e = ap length (members_below-in set b (rw (← c.has.ensures) w.if-has.true)) in
          (omega (arith, inv.0, w.count-is, e, length-append (members_below set b) (b ∷ [])), omega (arith, inv.1, w.count-is))
      | else-has w ↦
          let e = ap length (members_below-out set b (rw (← c.has.ensures) w.if-has.false)) in
          (omega (arith, inv.0, w.count-is, e), omega (arith, inv.1, w.count-is))
    ]
