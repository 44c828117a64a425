use Rattle.std.proofs.Common.{◌++◌}
use Rattle.std.specs.Prelude.{codes}
use Rattle.hex.specs.Hex.{encode_lower}
use Rattle.lf_json.proofs.Fronts.{front_after, front_before, on_err}
use Rattle.lf_json.proofs.writing.write_hex_object.Goals as goal

pub returns-in_err-write_all_digits-clause-err : goal.returns-in_err-write_all_digits-clause-err
returns-in_err-write_all_digits-clause-err c =
    let digits = encode_lower c.args.bytes.now in
    on_err c.from_residual-in_err-write_all_digits.result
    (front_after c.args.into.now c.extend.new.self c.write_all_digits.new.into (codes "{\"hex\":\"") (digits ++ codes "\"}") c.in_ok-extend.ensures.ok
    (front_before c.extend.new.self c.write_all_digits.new.into digits (codes "\"}") c.in_err-write_all_digits.ensures.err))
