use Rattle.std.proofs.Common.{List, ℕ, length, arith, subst, slice_range}
use Rattle.memchr.specs.Find.{NoneBefore, Passes, is_byte}
use Rattle.lf_stream.proofs.FeedLaws.{none_found, first_found}
use Rattle.lf_stream.proofs.buffer.Buffer.find.Goals as goal

pub invariant_of-self-clause-clean : goal.invariant_of-self-clause-clean
invariant_of-self-clause-clean c =
    let b = c.args.self.now in
    none_found b.bytes.items c.deref.result.now b.start b.scanned b.end c.deref.ensures.value b.from b.to b.clean c.in-None.ensures

pub returns-in-Some-clause-found : goal.returns-in-Some-clause-found
returns-in-Some-clause-found c =
    let b = c.args.self.now in
    let first = λ (xs : List ℕ). NoneBefore (Passes (is_byte 10) (slice_range xs b.scanned b.end)) 0 (length (slice_range xs b.scanned b.end)) c.in-Some.ahead × Passes (is_byte 10) (slice_range xs b.scanned b.end) c.in-Some.ahead in
    let m = subst first c.deref.ensures.value c.in-Some.ensures in
    let f = first_found b.bytes.items b.start b.scanned b.end c.in-Some.ahead b.from (omega (arith, b.filled)) b.clean m.0 m.1 in
    record { from = omega (arith, b.from); to = f.to; unended = f.unended; joined = f.joined }
