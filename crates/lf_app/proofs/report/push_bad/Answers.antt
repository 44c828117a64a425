use Rattle.std.proofs.Common.{◌++◌, sym, ap, ◌∙◌}
use Rattle.std.proofs.lemmas.Result.{on_ok_weaker}
use Rattle.lf_json.specs.declared.bad_record.BadRecord.{BadRecord}
use Rattle.lf_app.specs.Verdicts.{bad_text}
use Rattle.lf_app.proofs.Texts.{added_more}
use Rattle.lf_app.proofs.report.push_bad.Goals as goal

pub returns-in_ok-extend-in-WrongCount : goal.returns-in_ok-extend-in-WrongCount
returns-in_ok-extend-in-WrongCount c = on_ok_weaker c.push_number.result (λ e.
    added_more c.args.into.now c.extend-in-WrongCount.new.self c.push_number.new.into _ _ c.in_ok-extend-in-WrongCount.ensures.ok e
    ∙ ap (λ (x : BadRecord). c.args.into.now ++ bad_text x) (sym c.in-WrongCount.is)) c.push_number.ensures

pub returns-in_ok-extend-in-WrongValue : goal.returns-in_ok-extend-in-WrongValue
returns-in_ok-extend-in-WrongValue c = on_ok_weaker c.push_number-in-WrongValue.result (λ e.
    added_more c.args.into.now c.extend-in-WrongValue.new.self c.push_number-in-WrongValue.new.into _ _ c.in_ok-extend-in-WrongValue.ensures.ok e
    ∙ ap (λ (x : BadRecord). c.args.into.now ++ bad_text x) (sym c.in-WrongValue.is)) c.push_number-in-WrongValue.ensures
