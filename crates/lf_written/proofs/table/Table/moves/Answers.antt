use Rattle.std.proofs.Common.{◌+◌, ◌*◌, ap, sym, ◌∙◌, arith}
use Rattle.lf_core.specs.Written.{WrittenMachine, moves_at}
use Rattle.lf_written.proofs.TableLaws.{laid_below, laid_moves}
use Rattle.lf_written.proofs.table.Table.moves.Goals as goal

pub at-requires-clause-among : goal.at-requires-clause-among
at-requires-clause-among c =
    let low = laid_below c.self.inside.points c.self.inside.start c.self.inside.cells.starts.items c.self.inside.cells.moves.items c.self.inside.ends.items c.args.self.now c.args.point c.self.view_is c.requires in
    omega (arith, low, c.ranges.byte.fits, c.self.invariant.cells.each)

pub at-requires-clause-ordered : goal.at-requires-clause-ordered
at-requires-clause-ordered c =
    let low = laid_below c.self.inside.points c.self.inside.start c.self.inside.cells.starts.items c.self.inside.cells.moves.items c.self.inside.ends.items c.args.self.now c.args.point c.self.view_is c.requires in
    c.self.invariant.cells.ordered (c.args.point * 256 + c.args.byte) (omega (arith, low, c.ranges.byte.fits))

pub at-requires-clause-within : goal.at-requires-clause-within
at-requires-clause-within c =
    let low = laid_below c.self.inside.points c.self.inside.start c.self.inside.cells.starts.items c.self.inside.cells.moves.items c.self.inside.ends.items c.args.self.now c.args.point c.self.view_is c.requires in
    c.self.invariant.cells.within (c.args.point * 256 + c.args.byte) (omega (arith, low, c.ranges.byte.fits))

pub returns : goal.returns
returns c =
    let low = laid_below c.self.inside.points c.self.inside.start c.self.inside.cells.starts.items c.self.inside.cells.moves.items c.self.inside.ends.items c.args.self.now c.args.point c.self.view_is c.requires in
    c.at.ensures
    ∙ sym (laid_moves c.self.inside.points c.self.inside.start c.self.inside.cells.starts.items c.self.inside.cells.moves.items c.self.inside.ends.items c.args.point c.args.byte low (omega (arith, c.ranges.byte.fits)))
    ∙ ap (λ (w : WrittenMachine). moves_at w c.args.point c.args.byte) c.self.view_is
