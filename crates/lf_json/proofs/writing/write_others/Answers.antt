use Rattle.std.proofs.Common.{[], ◌∷◌, ◌++◌, ◌+◌, drop, arith}
use Rattle.lf_json.specs.Text.{others_text, value_json}
use Rattle.lf_json.proofs.Fronts.{leaves_less, leaves_front, front_before, on_err}
use Rattle.lf_json.proofs.StringLaws.{others-drop}
use Rattle.lf_json.proofs.writing.write_others.Goals as goal

pub returns-in_err-write_value-clause-err : goal.returns-in_err-write_value-clause-err
returns-in_err-write_value-clause-err c =
    let values = c.args.values.now in
    let i = c.loop-value.value-index in
    let v = c.value-item.result in
    let rest = others_text (drop (i + 1) values) in
    let comma = leaves_less c.args.into.now c.loop-value.into c.push.new.self (others_text values) (44 ∷ []) (value_json v ++ rest) (others_text (drop i values)) c.loop-value.invariant
    (others-drop values i v (omega arith) c.value-item.is) c.in_ok-push.ensures.ok in
    on_err c.from_residual-in_err-write_value.result
    (leaves_front c.args.into.now c.push.new.self c.write_value.new.into (others_text values) (value_json v ++ rest) comma
    (front_before c.push.new.self c.write_value.new.into (value_json v) rest c.in_err-write_value.ensures.err))
