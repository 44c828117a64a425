use Rattle.std.proofs.Common.{[], ◌∷◌, ◌++◌}
use Rattle.std.specs.List.{flat_map}
use Rattle.lf_json.specs.Text.{json_letter}
use Rattle.lf_json.proofs.Fronts.{front_after, front_before, on_err}
use Rattle.lf_json.proofs.writing.write_string.Goals as goal

pub returns-in_err-write_letters-clause-err : goal.returns-in_err-write_letters-clause-err
returns-in_err-write_letters-clause-err c =
    let letters = flat_map json_letter c.args.text.now in
    on_err c.from_residual-in_err-write_letters.result
    (front_after c.args.into.now c.push.new.self c.write_letters.new.into (34 ∷ []) (letters ++ 34 ∷ []) c.in_ok-push.ensures.ok
    (front_before c.push.new.self c.write_letters.new.into letters (34 ∷ []) c.in_err-write_letters.ensures.err))
