use Rattle.std.proofs.Common.{refl, arith, ◌∙◌}
use Rattle.std.proofs.lemmas.List.Edits.{between_none}
use Rattle.lf_stream.proofs.LineLaws.{stands_dropped}
use Rattle.lf_stream.proofs.lines.Lines.drop_start.Goals as goal

pub returns-in_default-clause-moves : goal.returns-in_default-clause-moves
returns-in_default-clause-moves c =
    let settled = c.settled-front.ensures in
    let r = c.release.ensures in
    record {
      same = record { notes = refl; finished = refl };
      fed = refl;
      stands = λ stream n s. stands_dropped c.args.self.now _ stream n (record { notes = refl; finished = refl }) refl refl settled (λ e. c.in_default.not-Line (settled ∙ e)) (rw (r.0, r.1, r.2) (between_none c.args.self.now.buffer.bytes.items c.args.self.now.buffer.end)) c.requires s;
      room = omega (arith, r.2);
    }
