use Rattle.lf_json.proofs.OneReading.{one_reading, some_reading}
use Rattle.lf_json.proofs.laws.lines_have_one_reading.Goals as goal

pub returns : goal.returns
returns c = record { some = some_reading; alone = one_reading }
