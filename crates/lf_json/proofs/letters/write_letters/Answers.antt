use Rattle.std.proofs.Common.{[], ◌++◌, refl}
use Rattle.std.specs.List.{flat_map}
use Rattle.lf_json.specs.Text.{json_letter}
use Rattle.lf_json.proofs.Fronts.{leaves_less, leaves_none, leaves_stop, on_err}
use Rattle.lf_json.proofs.StringLaws.{letters-next, letters-last}
use Rattle.lf_json.proofs.letters.write_letters.Goals as goal

pub returns-in_default-clause-ok : goal.returns-in_default-clause-ok
returns-in_default-clause-ok c =
    let rest = c.runs.rest.now in
    let run = c.split_at.result.0.now in
    let whole = flat_map json_letter c.args.text.now in
    let last = letters-last c.bare_len.result rest run c.split_at.result.1.now c.bare_len.ensures.bare c.split_at.ensures.front c.split_at.ensures.back c.in_default.ensures.cases in
    leaves_none c.args.into.now c.extend.new.self whole []
    (leaves_less c.args.into.now c.runs.into c.extend.new.self whole run [] (flat_map json_letter rest) c.runs.invariant last c.in_ok-extend.ensures.ok) refl

pub returns-in_err-write_letter-clause-err : goal.returns-in_err-write_letter-clause-err
returns-in_err-write_letter-clause-err c =
    let rest = c.runs.rest.now in
    let run = c.split_at.result.0.now in
    let whole = flat_map json_letter c.args.text.now in
    let more = json_letter c.in-Some.byte.now ++ flat_map json_letter c.in-Some.after.now in
    let next = letters-next c.bare_len.result rest run c.split_at.result.1.now c.bare_len.ensures.bare c.split_at.ensures.front c.split_at.ensures.back c.in-Some.byte.now c.in-Some.after.now c.in-Some.ensures.cases.0 in
    on_err c.from_residual-in_err-write_letter.result
    (leaves_stop c.args.into.now c.extend.new.self c.write_letter.new.into whole more
    (leaves_less c.args.into.now c.runs.into c.extend.new.self whole run more (flat_map json_letter rest) c.runs.invariant next c.in_ok-extend.ensures.ok) c.in_err-write_letter.ensures.err)

pub runs-preserved : goal.runs-preserved
runs-preserved c =
    let rest = c.runs.rest.now in
    let run = c.split_at.result.0.now in
    let whole = flat_map json_letter c.args.text.now in
    let after = flat_map json_letter c.in-Some.after.now in
    let letter = json_letter c.in-Some.byte.now in
    let next = letters-next c.bare_len.result rest run c.split_at.result.1.now c.bare_len.ensures.bare c.split_at.ensures.front c.split_at.ensures.back c.in-Some.byte.now c.in-Some.after.now c.in-Some.ensures.cases.0 in
    leaves_less c.args.into.now c.extend.new.self c.write_letter.new.into whole letter after (letter ++ after)
    (leaves_less c.args.into.now c.runs.into c.extend.new.self whole run (letter ++ after) (flat_map json_letter rest) c.runs.invariant next c.in_ok-extend.ensures.ok)
    refl c.in_ok-write_letter.ensures.ok
