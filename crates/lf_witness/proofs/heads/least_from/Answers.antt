use Rattle.std.proofs.Common.{◌≡◌, ◌∙◌, ◌∷◌, ◌++◌, [], List, ℕ, ap, subst}
use Rattle.lf_core.specs.Marked.{Machine}
use Rattle.lf_core.specs.Written.{WrittenMachine, machine_of}
use Rattle.lf_witness.specs.Runs.{IsLeastRun}
use Rattle.lf_witness.proofs.HeadLaws.{headed_is}
use Rattle.lf_witness.proofs.heads.least_from.Goals as goal

pub returns : goal.returns
returns c =
    let m : Machine = machine_of c.args.pairs.now in
    let tail = c.in-Some.tail in
    let line = c.extend.new.self in
    let begins : c.extend.new.self ≡ c.args.first ∷ tail =
    c.in_ok-extend.ensures.ok ∙ ap (λ (bs : List ℕ). c.push.new.self ++ bs) c.as_slice.ensures
    ∙ ap (λ (bs : List ℕ). bs ++ tail) (c.in_ok-push.ensures.ok ∙ ap (λ (bs : List ℕ). bs ++ c.args.first ∷ []) c.new-line.ensures) in
    let run = c.in_ok-run.run' in
    let least : IsLeastRun m m.first line run =
    subst (λ (w : WrittenMachine). IsLeastRun (machine_of w) w.start line run) c.table.ensures
    (subst (λ (bs : List ℕ). IsLeastRun (machine_of c.table.result.now) c.table.result.now.start bs run) c.as_slice-2.ensures c.in_ok-run.ensures) in
    headed_is m c.args.first tail line run (rw c.in-Some.is at c.in_ok-tail.ensures) begins least
