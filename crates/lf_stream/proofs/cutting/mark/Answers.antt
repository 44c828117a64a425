use Rattle.std.proofs.Common.{refl}
use Rattle.lf_stream.proofs.SortLaws.{holds_settled}
use Rattle.lf_stream.proofs.cutting.mark.Goals as goal

pub returns-in_default-clause-mark : goal.returns-in_default-clause-mark
returns-in_default-clause-mark c = λ before after line at holds. record {
  sort_is = holds_settled c.args.notes c.args.front c.args.bytes.now line c.in_default.not-Line holds;
  kept = λ is. absurd (c.in_default.not-Line is);
  not_kept = λ _. (refl, refl);
}
