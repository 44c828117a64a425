use Rattle.std.proofs.Common.{◌≡◌, ap, ◌∙◌}
use Rattle.std.proofs.lemmas.Result.{IfOk-weaker}
use Rattle.lf_core.specs.Written.{written}
use Rattle.lf_machine.specs.LineMachine.{line_machine, line-marked}
use Rattle.lf_compile.proofs.SetLaws.{found_run}
use Rattle.lf_compile.proofs.finder.Finder.run.Goals as goal

pub returns-in-Some : goal.returns-in-Some
returns-in-Some c =
    let pieces = c.args.self.now in
    let tables = rw c.in-Some.is at c.self.invariant.0 in
    let are : c.in-Some.tables ≡ written (line_machine pieces) = tables.0 ∙ ap (λ ps. written (line_machine ps)) c.self.view_is in
    IfOk-weaker c.run.result _ _ (λ found. found_run (line_machine pieces) c.in-Some.tables c.args.line.now found (line-marked pieces) are) c.run.ensures
