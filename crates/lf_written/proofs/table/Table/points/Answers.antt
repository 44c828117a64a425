use Rattle.std.proofs.Common.{ap, sym, ◌∙◌}
use Rattle.lf_core.specs.Written.{WrittenMachine, points_of}
use Rattle.lf_written.proofs.TableLaws.{laid_points}
use Rattle.lf_written.proofs.table.Table.points.Goals as goal

pub returns : goal.returns
returns c = sym (laid_points c.self.inside.points c.self.inside.start c.self.inside.cells.starts.items c.self.inside.cells.moves.items c.self.inside.ends.items) ∙ ap (λ (w : WrittenMachine). points_of w) c.self.view_is
