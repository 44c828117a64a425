use Rattle.std.proofs.Common.{◌≡◌, ◌++◌, List, ℕ, subst}
use Rattle.std.specs.Prelude.{codes}
use Rattle.lf_json.specs.Text.{json_text, text_json}
use Rattle.lf_app.proofs.Texts.{added_more}
use Rattle.lf_app.proofs.showing.push_witness.Goals as goal

pub returns : goal.returns
returns c =
    let old = c.args.into.now in
    let line = text_json c.args.confusion.now.line in
    let one = json_text c.args.confusion.now.first in
    let other = json_text c.args.confusion.now.second in
    let a = codes "ambiguous\nline " in
    let b = codes "\nfirst " in
    let d = codes "\nsecond " in
    let written = subst (λ (w : List ℕ). c.write_text.new.into ≡ c.extend.new.self ++ text_json w) c.as_slice.ensures c.in_ok-write_text.ensures.ok in
    let p2 = added_more old c.extend.new.self c.write_text.new.into a line c.in_ok-extend.ensures.ok written in
    let p3 = added_more old c.write_text.new.into c.extend-2.new.self (a ++ line) b p2 c.in_ok-extend-2.ensures.ok in
    let p4 = added_more old c.extend-2.new.self c.write_record.new.into (a ++ line ++ b) one p3 c.in_ok-write_record.ensures.ok in
    let p5 = added_more old c.write_record.new.into c.extend-3.new.self (a ++ line ++ b ++ one) d p4 c.in_ok-extend-3.ensures.ok in
    added_more old c.extend-3.new.self c.write_record-2.new.into (a ++ line ++ b ++ one ++ d) other p5 c.in_ok-write_record-2.ensures.ok
