use Rattle.std.proofs.Common.{◌≡◌, List, get_or, subst}
use Rattle.lf_core.specs.declared.marked.Move.{Move}
use Rattle.std.proofs.Common.{None}
use Rattle.lf_core.specs.Marked.{Machine}
use Rattle.lf_core.specs.Written.{machine_of}
use Rattle.lf_witness.specs.Open.{IsLeast, IsLeastOpen}
use Rattle.lf_witness.proofs.SetLaws.{set_after}
use Rattle.lf_witness.proofs.RunSteps.{extends_none, extends_more, extends_stuck, extends_all}
use Rattle.lf_witness.proofs.runs.extend_least.Goals as goal

pub loop-i-init : goal.loop-i-init
loop-i-init c = extends_none (machine_of c.args.table.now) c.args.start c.args.line.now c.args.run.now c.requires.start c.requires.can

pub returns-in_default : goal.returns-in_default
returns-in_default c =
    let m : Machine = machine_of c.args.table.now in
    let l = c.loop-i in
    let set = c.deref.result.now in
    let listed : c.moves-moves.result.now ≡ m.moves l.point (get_or c.args.line.now l.i 0) = c.moves-moves.ensures in
    let after = set_after m c.args.line.now c.args.sets.now l.i c.index-sets-line.result set c.requires.sets c.loop-i-test.true c.index-sets-line.is c.deref.ensures.value in
    absurd (extends_stuck m c.args.start c.args.line.now l.i c.args.run.now l.run l.point set (c.requires.lawful) c.loop-i-test.true after
    (subst (λ (moves : List Move). IsLeastOpen moves set None None) listed c.in_default.ensures) l.invariant)

pub loop-i-preserved : goal.loop-i-preserved
loop-i-preserved c =
    let m : Machine = machine_of c.args.table.now in
    let l = c.loop-i in
    let set = c.deref.result.now in
    let listed : c.moves-moves.result.now ≡ m.moves l.point (get_or c.args.line.now l.i 0) = c.moves-moves.ensures in
    let after = set_after m c.args.line.now c.args.sets.now l.i c.index-sets-line.result set c.requires.sets c.loop-i-test.true c.index-sets-line.is c.deref.ensures.value in
    extends_more m c.args.start c.args.line.now l.i c.args.run.now l.run c.push.new.self l.point set c.in-Some.step (c.requires.lawful) c.loop-i-test.true after
    (subst (λ (moves : List Move). IsLeast moves set None c.in-Some.step) listed c.in-Some.ensures) c.in_ok-push.ensures.ok l.invariant

pub returns : goal.returns
returns c = extends_all (machine_of c.args.table.now) c.args.start c.args.line.now c.loop-i.i c.args.run.now c.loop-i.run c.loop-i.point c.loop-i-test.false c.loop-i.invariant
