use Rattle.std.proofs.Common.{refl}
use Rattle.lf_stream.proofs.BatchLaws.{seen}
use Rattle.lf_stream.proofs.lines.Lines.batch.Goals as goal

pub returns : goal.returns
returns c =
    let l = c.args.self.now in
    let t = c.take_lines-count.ensures in
    let b = c.marked.ensures in
    let s = seen l c.take_lines-count.new.self c.take_lines-count.result c.marked.result.marks.now t.moves t.room b.1 t.few in (
      (refl, λ _. tt, (s.moves, s.room)),
      record { lines = λ stream n stands. rw (b.0, b.1) (t.lines stream n stands); after_borrow = tt },
    )
