use Rattle.std.proofs.Common.{◌<◌, length, false, ap, ◌∙◌, arith}
use Rattle.std.proofs.lemmas.List.{get_or_default}
use Rattle.lf_core.specs.Written.{WrittenMachine, is_end_at}
use Rattle.lf_written.proofs.TableLaws.{laid_below}
use Rattle.lf_written.proofs.table.Table.is_end.Goals as goal

pub index-requires : goal.index-requires
index-requires c =
    let low = laid_below c.self.inside.points c.self.inside.start c.self.inside.cells.starts.items c.self.inside.cells.moves.items c.self.inside.ends.items c.args.self.now c.args.point c.self.view_is c.requires in
    omega (arith, low, c.self.invariant.each_point, c.self.inside.ends.ok.0)

pub returns : goal.returns
returns c =
    let low = laid_below c.self.inside.points c.self.inside.start c.self.inside.cells.starts.items c.self.inside.cells.moves.items c.self.inside.ends.items c.args.self.now c.args.point c.self.view_is c.requires in
    let lt : c.args.point < length c.self.inside.ends.items = omega (arith, low, c.self.invariant.each_point) in
    c.index.ensures ∙ get_or_default c.self.inside.ends.items c.args.point c.index.result.now false lt ∙ ap (λ (w : WrittenMachine). is_end_at w c.args.point) c.self.view_is
