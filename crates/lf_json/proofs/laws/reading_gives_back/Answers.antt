use Rattle.lf_json.proofs.RoundTrip.{gives_back}
use Rattle.lf_json.proofs.laws.reading_gives_back.Goals as goal

pub returns : goal.returns
returns c = gives_back
