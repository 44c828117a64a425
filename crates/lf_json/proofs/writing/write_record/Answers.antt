use Rattle.std.proofs.Common.{◌≡◌, List, [], ◌∷◌, ◌++◌, sym, ◌∙◌, subst}
use Rattle.std.specs.Prelude.{All, OnErr}
use Rattle.std.proofs.lemmas.List.Elements.{All-tail}
use Rattle.lf_core.specs.Adds.{AddsFront}
use Rattle.lf_core.specs.declared.values.Value.{Value}
use Rattle.lf_json.specs.Text.{HasJson, json_text, others_text, value_json}
use Rattle.lf_json.proofs.Fronts.{front_after, front_before, on_err}
use Rattle.lf_json.proofs.writing.write_record.Goals as goal

pub write_others-requires : goal.write_others-requires
write_others-requires c =
    let is : c.args.rec.now ≡ c.in-Some.first.now ∷ c.in-Some.others.now = sym c.as_slice.ensures ∙ c.in-Some.ensures.cases.0 in
    All-tail HasJson c.in-Some.first.now c.in-Some.others.now (subst (All HasJson) is c.requires)

pub returns-in_err-write_value-clause-err : goal.returns-in_err-write_value-clause-err
returns-in_err-write_value-clause-err c =
    let first = value_json c.in-Some.first.now in
    let others = others_text c.in-Some.others.now in
    let is : c.args.rec.now ≡ c.in-Some.first.now ∷ c.in-Some.others.now = sym c.as_slice.ensures ∙ c.in-Some.ensures.cases.0 in
    let P : List Value → Type 0 = λ rec. OnErr c.from_residual-in_err-write_value.result (AddsFront c.args.into.now c.write_value.new.into (json_text rec)) in
    subst P (sym is)
    (on_err c.from_residual-in_err-write_value.result
    (front_after c.args.into.now c.push.new.self c.write_value.new.into (91 ∷ []) ((first ++ others) ++ 93 ∷ []) c.in_ok-push.ensures.ok
    (front_before c.push.new.self c.write_value.new.into (first ++ others) (93 ∷ [])
    (front_before c.push.new.self c.write_value.new.into first others c.in_err-write_value.ensures.err))))

pub returns-in_err-write_others-clause-err : goal.returns-in_err-write_others-clause-err
returns-in_err-write_others-clause-err c =
    let first = value_json c.in-Some.first.now in
    let others = others_text c.in-Some.others.now in
    let is : c.args.rec.now ≡ c.in-Some.first.now ∷ c.in-Some.others.now = sym c.as_slice.ensures ∙ c.in-Some.ensures.cases.0 in
    let P : List Value → Type 0 = λ rec. OnErr c.from_residual-in_err-write_others.result (AddsFront c.args.into.now c.write_others.new.into (json_text rec)) in
    subst P (sym is)
    (on_err c.from_residual-in_err-write_others.result
    (front_after c.args.into.now c.push.new.self c.write_others.new.into (91 ∷ []) ((first ++ others) ++ 93 ∷ []) c.in_ok-push.ensures.ok
    (front_before c.push.new.self c.write_others.new.into (first ++ others) (93 ∷ [])
    (front_after c.push.new.self c.write_value.new.into c.write_others.new.into first others c.in_ok-write_value.ensures.ok c.in_err-write_others.ensures.err))))
