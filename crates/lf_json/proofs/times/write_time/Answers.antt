use Rattle.std.proofs.Common.{[], ◌∷◌, ◌++◌}
use Rattle.lf_json.proofs.Fronts.{front_after, front_before, on_err}
use Rattle.lf_json.proofs.times.write_time.Goals as goal

pub returns-in_err-write_plain-clause-err : goal.returns-in_err-write_plain-clause-err
returns-in_err-write_plain-clause-err g c =
    let text = g.D.Domain.plain c.args.domain.now c.args.value.now in
    on_err c.from_residual-in_err-write_plain.result
    (front_after c.args.into.now c.push.new.self c.write_plain.new.into (34 ∷ []) (text ++ 34 ∷ []) c.in_ok-push.ensures.ok
    (front_before c.push.new.self c.write_plain.new.into text (34 ∷ []) c.in_err-write_plain.ensures.err))
