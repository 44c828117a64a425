use Rattle.std.proofs.Common.{rules, ◌≡◌, ◌∷◌, ◌++◌, []}
use Rattle.std.proofs.lemmas.Result.{on_ok_weaker}
use Rattle.lf_stream.specs.Cut.{line_of}
use Rattle.lf_small_streams.proofs.PlainLines.{feed_cut, byte_unended}
use Rattle.lf_small_streams.proofs.plain.+cut.Goals as goal

pub returns-then-byte-eq10 : goal.returns-then-byte-eq10
returns-then-byte-eq10 t c =
    let one : c.push_line.new.into.items ≡ c.args.into.now.items ++ line_of c.args.notes c.args.line ∷ [] = search rules in
    on_ok_weaker c.cut.result (feed_cut c.args.notes c.args.line c.new.result c.args.text.now c.in-Some.rest.now c.in-Some.byte.now c.args.into.now.items c.push_line.new.into.items c.cut.new.into.items
    c.requires c.in-Some.ensures.cases.0 c.if-byte-eq10.true c.new.ensures one) c.cut.ensures

pub cut-requires-2 : goal.cut-requires-2
cut-requires-2 t c =
    let shorter = c.in-Some.ensures.cases.1 in
    (search rules, byte_unended c.args.line c.push.new.self c.in-Some.byte.now c.requires c.if-byte-eq10.false c.in_ok-push.ensures.ok)
