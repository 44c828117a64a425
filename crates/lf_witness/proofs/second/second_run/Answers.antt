use Rattle.std.proofs.Common.{◌≡◌, ◌+◌, ◌++◌, ◌∷◌, [], List, take, arith, sym, ap, ◌∙◌, subst, ℕ}
use Rattle.lf_core.specs.declared.marked.Move.{Move}
use Rattle.lf_core.specs.Marked.{Machine}
use Rattle.lf_core.specs.Written.{machine_of}
use Rattle.lf_witness.specs.Branch.{IsBranch, IsLastBranch}
use Rattle.lf_witness.specs.Runs.{IsLeastRun}
use Rattle.lf_witness.specs.Sets.{CanEnd}
use Rattle.lf_witness.proofs.SetLaws.{sets_rest}
use Rattle.lf_witness.proofs.SecondLaws.{least_length, shared_not_only, second_whole}
use Rattle.lf_witness.proofs.second.second_run.Goals as goal

pub returns-in_default : goal.returns-in_default
returns-in_default c =
    let m : Machine = machine_of c.args.table.now in
    absurd (shared_not_only m c.args.line.now c.args.first.now c.requires.shared (subst (IsLastBranch m c.args.line.now c.args.first.now) c.in_default.is c.last_branch.ensures))

pub front_of-requires : goal.front_of-requires
front_of-requires c =
    let m : Machine = machine_of c.args.table.now in
    let b : IsBranch m c.args.line.now c.args.first.now c.in-Some.branch = subst (IsLastBranch m c.args.line.now c.args.first.now) c.in-Some.is c.last_branch.ensures in
    let long = least_length m _ c.args.line.now c.args.first.now c.requires.first in
    omega (arith, long, b.within)

pub split_at-requires : goal.split_at-requires
split_at-requires c =
    let m : Machine = machine_of c.args.table.now in
    let b : IsBranch m c.args.line.now c.args.first.now c.in-Some.branch = subst (IsLastBranch m c.args.line.now c.args.first.now) c.in-Some.is c.last_branch.ensures in
    omega (arith, b.within)

pub extend_least-requires : goal.extend_least-requires
extend_least-requires c =
    let m : Machine = machine_of c.args.table.now in
    let line = c.args.line.now in
    let branch = c.in-Some.branch in
    let b : IsBranch m line c.args.first.now branch = subst (IsLastBranch m line c.args.first.now) c.in-Some.is c.last_branch.ensures in
    let rest = c.split_at.ensures.back in
    record {
      lawful = c.requires.lawful;
      sets = sets_rest m line c.split_at.result.1.now c.args.sets.now (branch.at + 1) (omega (arith, b.within)) rest c.requires.sets;
      start = b.below;
      can = subst (λ (bs : List ℕ). CanEnd m bs branch.step.to) (sym rest) b.can;
    }

pub returns : goal.returns
returns c =
    let m : Machine = machine_of c.args.table.now in
    let line = c.args.line.now in
    let first = c.args.first.now in
    let branch = c.in-Some.branch in
    let b : IsBranch m line first branch = subst (IsLastBranch m line first) c.in-Some.is c.last_branch.ensures in
    let more = c.in_ok-extend_least.ensures in
    let front : c.push.new.self ≡ take branch.at first ++ branch.step ∷ [] = c.in_ok-push.ensures.ok ∙ ap (λ (xs : List Move). xs ++ branch.step ∷ []) c.in_ok-run.ensures in
    second_whole m line first c.extend_least.new.run more.0 branch c.requires.first b
    (subst (λ (bs : List ℕ). IsLeastRun m branch.step.to bs more.0) c.split_at.ensures.back more.2)
    (more.1 ∙ ap (λ (xs : List Move). xs ++ more.0) front)
