use Rattle.std.proofs.Common.{◌≡◌, rules, length, sym, ap, ◌∙◌}
use Rattle.std.proofs.lemmas.Bool.{false≢true}
use Rattle.lf_format.specs.Shape.{Shape}
use Rattle.lf_format.specs.declared.format.LineEnd.{LineEnd}
use Rattle.lf_log.specs.Ends.{end_text}
use Rattle.lf_log.proofs.Drawing.{has_first, front_is, rest_is}
use Rattle.lf_log.proofs.generating.+read_lines.Goals as goal

pub read_lines-requires : goal.read_lines-requires
read_lines-requires t c =
    let format = c.args.reader.now in
    let text = c.args.text.now in
    let ns = c.in-Some.rest.now in
    let h = has_first format c.in-Some.length.now ns c.args.lengths.now text c.requires c.in-Some.ensures.cases.0 in
    let end : length c.end_of.result.now ≡ length (end_text format.end) = ap length c.end_of.ensures ∙ ap (λ (e : LineEnd). length (end_text e)) (c.end.ensures ∙ ap (λ (f : Shape). f.end) c.format.ensures) in
    (search rules, rest_is format c.in-Some.length.now (length c.end_of.result.now) ns text c.split_at.result.1.now c.split_at-in-Some.result.1.now h c.split_at.ensures.back end c.split_at-in-Some.ensures.back)

pub returns-else-branch : goal.returns-else-branch
returns-else-branch t c =
    let format = c.args.reader.now in
    let text = c.args.text.now in
    let n = c.in-Some.length.now in
    let ns = c.in-Some.rest.now in
    let h = has_first format n ns c.args.lengths.now text c.requires c.in-Some.ensures.cases.0 in
    let line = front_is format n ns text c.split_at.result.0.now h c.split_at.ensures.front in
    absurd (false≢true (sym c.if-branch.false ∙ c.in_ok-is_read-in-Some.ensures h.first (record { held = h.held; printed = sym line })))
