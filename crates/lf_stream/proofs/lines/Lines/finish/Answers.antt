use Rattle.lf_stream.proofs.StandLaws.{goes_end}
use Rattle.lf_stream.proofs.lines.Lines.finish.Goals as goal

pub returns-clause-stands : goal.returns-clause-stands
returns-clause-stands c = λ stream n s. record {
  given = s.given;
  rest = s.rest;
  fed = s.fed;
  number = s.number;
  count = s.count;
  goes = goes_end c.args.self.now.finished stream s.given s.rest s.goes;
  holds = s.holds;
}
