use Rattle.std.proofs.Common.{◌≡◌, List, ◌++◌, take, drop, ap, sym, ◌∙◌, arith, rules}
use Rattle.std.proofs.lemmas.List.{take-append-drop, take_all}
use Rattle.lf_core.specs.declared.marked.Move.{Move}
use Rattle.lf_core.specs.Marked.{Machine}
use Rattle.lf_core.specs.Written.{WrittenMachine, points_of, moves_at}
use Rattle.lf_core.specs.WrittenLaws.{written_points, written_moves}
use Rattle.lf_written.proofs.TableLaws.{on_err}
use Rattle.lf_written.proofs.written.WrittenOutMarked.moves.Goals as goal

pub moves-step-items-requires : goal.moves-step-items-requires
moves-step-items-requires g c =
    let m : Machine = g.M.Marked.machine c.self.inside.source in
    let many : points_of c.self.inside.table ≡ m.count = ap (λ (w : WrittenMachine). points_of w) c.self.invariant ∙ written_points m in
    let same : m.count ≡ (g.M.Marked.machine c.args.self.now).count = ap (λ s. (g.M.Marked.machine s).count) c.self.view_is in
    omega (arith, many, same, c.requires)

pub returns-in_err-push-clause-err : goal.returns-in_err-push-clause-err
returns-in_err-push-clause-err g c =
    let m : Machine = g.M.Marked.machine c.self.inside.source in
    let count : m.count ≡ (g.M.Marked.machine c.args.self.now).count = ap (λ s. (g.M.Marked.machine s).count) c.self.view_is in
    let all : List Move = c.moves-step-items.result.now in
    let left : List Move = drop c.loop-step.step-index all in
    let so_far : c.push.new.self.items ≡ take c.loop-step.step-index all = search rules in
    let same : (g.M.Marked.machine c.args.self.now).moves c.args.point c.args.byte ≡ all =
    sym (c.moves-step-items.ensures
    ∙ ap (λ (w : WrittenMachine). moves_at w c.args.point c.args.byte) c.self.invariant
    ∙ written_moves m c.args.point c.args.byte (omega (arith, count, c.requires)) (omega (arith, c.ranges.byte.fits))
    ∙ ap (λ s. (g.M.Marked.machine s).moves c.args.point c.args.byte) c.self.view_is) in
    on_err c.from_residual.result (left, same ∙ sym (take-append-drop c.loop-step.step-index all) ∙ ap (λ (xs : List Move). xs ++ left) (sym so_far))

pub returns-clause-ok : goal.returns-clause-ok
returns-clause-ok g c =
    let m : Machine = g.M.Marked.machine c.self.inside.source in
    let count : m.count ≡ (g.M.Marked.machine c.args.self.now).count = ap (λ s. (g.M.Marked.machine s).count) c.self.view_is in
    let all : List Move = c.moves-step-items.result.now in
    c.loop-step.invariant
    ∙ take_all c.loop-step.step-index all (omega (arith, c.loop-step-test.false))
    ∙ c.moves-step-items.ensures
    ∙ ap (λ (w : WrittenMachine). moves_at w c.args.point c.args.byte) c.self.invariant
    ∙ written_moves m c.args.point c.args.byte (omega (arith, count, c.requires)) (omega (arith, c.ranges.byte.fits))
    ∙ ap (λ s. (g.M.Marked.machine s).moves c.args.point c.args.byte) c.self.view_is
