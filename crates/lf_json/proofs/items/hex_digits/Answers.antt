use Rattle.std.proofs.Common.{◌≡◌, sym, ap, ◌∙◌, arith}
use Rattle.std.specs.Option.{option_and_then}
use Rattle.std.specs.Prelude.{◌≢◌, length, codes}
use Rattle.serde_json.specs.Find.{as_str}
use Rattle.serde_json.specs.View.{view, members_view}
use Rattle.lf_json.specs.Reading.{hex_digits}
use Rattle.lf_json.proofs.ReadingLaws.{hex_digits-other, hex_digits-one, get-object}
use Rattle.lf_json.proofs.items.hex_digits.Goals as goal

pub returns-then-len-ne1 : goal.returns-then-len-ne1
returns-then-len-ne1 c =
    let entries = c.in_ok-object.object.now.entries in
    let other : length entries ≢ 1 = λ e. c.if-len-ne1.true (c.len.ensures.len ∙ e) in
    sym (hex_digits-other entries other) ∙ ap (option_and_then hex_digits) c.in_ok-object.ensures

pub returns : goal.returns
returns c =
    let entries = c.in_ok-object.object.now.entries in
    let found = members_view entries in
    let one : length entries ≡ 1 = omega (arith, c.len.ensures.len) in
    c.as_str.ensures
    ∙ ap (option_and_then as_str) (c.in_ok-get.ensures ∙ get-object (view c.args.json.now) found (codes "hex") c.in_ok-object.ensures)
    ∙ sym (hex_digits-one entries one)
    ∙ ap (option_and_then hex_digits) c.in_ok-object.ensures
