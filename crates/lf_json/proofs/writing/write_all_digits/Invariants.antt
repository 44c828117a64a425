use Rattle.std.proofs.Common.{drop}
use Rattle.hex.specs.Hex.{encode_lower}
use Rattle.lf_json.proofs.Fronts.{Leaves}
use Rattle.lf_json.proofs.writing.write_all_digits.Given as goal

abbrev pub invariant-loop-byte : goal.invariant-loop-byte
invariant-loop-byte l = Leaves l.initial.into l.into (encode_lower l.bytes) (encode_lower (drop l.byte-index l.bytes))
