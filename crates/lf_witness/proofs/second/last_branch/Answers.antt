use Rattle.std.proofs.Common.{◌≡◌, ◌-◌, ◌+◌, length, arith, subst}
use Rattle.lf_core.specs.Marked.{Machine}
use Rattle.lf_core.specs.Written.{machine_of}
use Rattle.lf_witness.specs.Branch.{OnlyFrom, IsOtherMove}
use Rattle.lf_witness.proofs.SecondLaws.{only_from_end}
use Rattle.lf_witness.proofs.second.last_branch.Goals as goal

pub loop-k-init : goal.loop-k-init
loop-k-init c = only_from_end (machine_of c.args.table.now) c.args.line.now c.args.first.now _ c.requires.first (omega arith)

pub loop-k-preserved : goal.loop-k-preserved
loop-k-preserved c =
    let m : Machine = machine_of c.args.table.now in
    let only = OnlyFrom m c.args.line.now c.args.first.now in
    let n = length c.args.line.now in
    let k = c.loop-k.k in
    let at : n - k ≡ n - 1 - k + 1 = omega (arith, c.loop-k-test.true) in
    let less : n - 1 - k ≡ n - (k + 1) = omega arith in
    subst only less (subst (IsOtherMove m c.args.line.now c.args.first.now (n - 1 - k)) c.in_default.is (c.other_move.ensures (subst only at c.loop-k.invariant)))

pub returns-in-Some : goal.returns-in-Some
returns-in-Some c =
    let m : Machine = machine_of c.args.table.now in
    let only = OnlyFrom m c.args.line.now c.args.first.now in
    let n = length c.args.line.now in
    let k = c.loop-k.k in
    let at : n - k ≡ n - 1 - k + 1 = omega (arith, c.loop-k-test.true) in
    subst (IsOtherMove m c.args.line.now c.args.first.now (n - 1 - k)) c.in-Some.is (c.other_move.ensures (subst only at c.loop-k.invariant))

pub returns : goal.returns
returns c =
    let n = length c.args.line.now in
    let none : n - c.loop-k.k ≡ 0 = omega (arith, c.loop-k-test.false) in
    subst (OnlyFrom (machine_of c.args.table.now) c.args.line.now c.args.first.now) none c.loop-k.invariant
