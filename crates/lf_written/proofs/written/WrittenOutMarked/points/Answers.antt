use Rattle.std.proofs.Common.{ap, ◌∙◌}
use Rattle.lf_core.specs.Written.{WrittenMachine, points_of}
use Rattle.lf_core.specs.WrittenLaws.{written_points}
use Rattle.lf_written.proofs.written.WrittenOutMarked.points.Goals as goal

pub returns : goal.returns
returns g c =
    c.points.ensures ∙ ap (λ (w : WrittenMachine). points_of w) c.self.invariant ∙ written_points (g.M.Marked.machine c.self.inside.source) ∙ ap (λ s. (g.M.Marked.machine s).count) c.self.view_is
