use Rattle.std.proofs.Common.{length}
use Rattle.lf_json.proofs.reading.+read_values.Given as goal

abbrev pub decreases-read_values : goal.decreases-read_values
decreases-read_values l = length l.pieces.now
