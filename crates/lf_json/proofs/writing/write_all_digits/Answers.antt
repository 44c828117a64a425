use Rattle.std.proofs.Common.{[], ◌∷◌, ◌+◌, drop, get_or, arith}
use Rattle.hex.specs.Hex.{encode_lower}
use Rattle.lf_json.proofs.Fronts.{leaves_less, leaves_none}
use Rattle.lf_json.proofs.StringLaws.{digits-drop, digits-end}
use Rattle.lf_json.proofs.writing.write_all_digits.Goals as goal

pub loop-byte-preserved : goal.loop-byte-preserved
loop-byte-preserved c =
    let bytes = c.args.bytes.now in
    let i = c.loop-byte.byte-index in
    leaves_less c.args.into.now c.loop-byte.into c.write_digits.new.into (encode_lower bytes) (encode_lower (get_or bytes i 0 ∷ [])) (encode_lower (drop (i + 1) bytes))
    (encode_lower (drop i bytes)) c.loop-byte.invariant (digits-drop bytes i (omega arith)) c.in_ok-write_digits.ensures.ok

pub returns-clause-ok : goal.returns-clause-ok
returns-clause-ok c =
    let bytes = c.args.bytes.now in
    let i = c.loop-byte.byte-index in
    leaves_none c.args.into.now c.loop-byte.into (encode_lower bytes) (encode_lower (drop i bytes)) c.loop-byte.invariant (digits-end bytes i (omega arith))
