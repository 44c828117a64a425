use Rattle.std.proofs.Common.{◌≡◌, ℕ, ◌+◌, ◌-◌, ◌*◌, ◌≤◌, length, arith, sym, ap, subst, ◌∙◌}
use Rattle.lf_format.specs.Shape.{Shape}
use Rattle.lf_log.specs.Generated.{DrawsPart, DrawsLog}
use Rattle.lf_log.proofs.Drawing.{log_more, part_length}
use Rattle.lf_log.proofs.generating.draw_log.Goals as goal

pub parts-preserved : goal.parts-preserved
parts-preserved c =
    let format = c.args.reader.now in
    let l = c.parts in
    let inv = l.invariant in
    let before = c.args.count - l.left in
    let some = c.min-some.result in
    let text = c.draw_part.new.part.text in
    let lengths = c.draw_part.new.part.lengths.items in
    let part = subst (λ (f : Shape). DrawsPart f l.state c.draw_part.new.state some text lengths) c.format.ensures c.in_ok-draw_part.ensures in
    let long : length lengths ≡ some = part_length format l.state c.draw_part.new.state some text lengths part in
    let read : c.in_ok-read.read ≡ some = c.in_ok-read.ensures ∙ ap length c.as_slice.ensures.value ∙ long in
    let same : before + some ≡ c.args.count - (l.left - some) = omega (arith, inv.0, c.min-some.ensures) in
    let more : l.tally.bytes + c.len.result ≡ l.tally.bytes + length text = ap (λ (n : ℕ). l.tally.bytes + n) c.len.ensures in
    let log = log_more format c.args.seed l.state c.draw_part.new.state before some l.tally.bytes (l.tally.bytes + c.len.result) text lengths inv.1 part more in
    let most : l.tally.bytes + c.len.result ≤ (before + some) * 18446744073709551616 = omega (arith, inv.3, c.len.type_inv, c.min-some.ensures, c.parts-test.true) in (
      omega (arith, inv.0),
      subst (λ (n : ℕ). DrawsLog format c.args.seed c.draw_part.new.state n (l.tally.bytes + c.len.result)) same log,
      omega (arith, inv.2, read, same),
      subst (λ (n : ℕ). l.tally.bytes + c.len.result ≤ n * 18446744073709551616) same most,
    )
