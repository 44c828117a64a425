use Rattle.std.proofs.Common.{◌++◌, arith, length-append, sym, subst}
use Rattle.lf_stream.specs.Sorts.{Holds}
use Rattle.lf_stream.proofs.StandLaws.{goes_more, holds_more}
use Rattle.lf_stream.proofs.lines.Lines.feed.Goals as goal

pub returns-clause-stands : goal.returns-clause-stands
returns-clause-stands c = λ stream n s.
    let l = c.args.self.now in
    let piece = c.args.piece.now in
    record {
      given = s.given;
      rest = s.rest ++ piece;
      fed = omega (arith, s.fed, length-append stream piece);
      number = s.number;
      count = s.count;
      goes = goes_more l.finished stream s.given s.rest piece c.requires.open s.goes;
      holds = subst (λ bytes. Holds l.notes l.first_sort bytes (s.rest ++ piece)) (sym c.append.ensures.bytes) (holds_more l.notes l.first_sort _ s.rest piece s.holds);
    }
