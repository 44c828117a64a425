use Rattle.std.proofs.Common.{rules, ◌≡◌, ◌∙◌, [], ◌∷◌, ◌++◌}
use Rattle.lf_core.specs.Marked.{Machine}
use Rattle.lf_written.proofs.TableLaws.{push_made}
use Rattle.lf_written.proofs.table.ends_of.Goals as goal

pub loop-point-preserved : goal.loop-point-preserved
loop-point-preserved g c =
    let m : Machine = g.M.Marked.machine c.args.m.now in
    let ends : c.push.new.self.items ≡ c.loop-point.ends.items ++ c.ends.result ∷ [] = search rules in
    ends ∙ push_made m.is_end c.loop-point.ends.items c.ends.result c.loop-point.point c.loop-point.invariant c.ends.ensures
