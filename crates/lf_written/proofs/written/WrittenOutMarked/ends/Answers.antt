use Rattle.std.proofs.Common.{◌≡◌, ap, ◌∙◌, arith}
use Rattle.lf_core.specs.Marked.{Machine}
use Rattle.lf_core.specs.Written.{WrittenMachine, points_of, is_end_at}
use Rattle.lf_core.specs.WrittenLaws.{written_points, written_is_end}
use Rattle.lf_written.proofs.written.WrittenOutMarked.ends.Goals as goal

pub is_end-requires : goal.is_end-requires
is_end-requires g c =
    let m : Machine = g.M.Marked.machine c.self.inside.source in
    let many : points_of c.self.inside.table ≡ m.count = ap (λ (w : WrittenMachine). points_of w) c.self.invariant ∙ written_points m in
    let same : m.count ≡ (g.M.Marked.machine c.args.self.now).count = ap (λ s. (g.M.Marked.machine s).count) c.self.view_is in
    omega (arith, many, same, c.requires)

pub returns : goal.returns
returns g c =
    let m : Machine = g.M.Marked.machine c.self.inside.source in
    let same : m.count ≡ (g.M.Marked.machine c.args.self.now).count = ap (λ s. (g.M.Marked.machine s).count) c.self.view_is in
    c.is_end.ensures
    ∙ ap (λ (w : WrittenMachine). is_end_at w c.args.point) c.self.invariant
    ∙ written_is_end m c.args.point (omega (arith, same, c.requires))
    ∙ ap (λ s. (g.M.Marked.machine s).is_end c.args.point) c.self.view_is
