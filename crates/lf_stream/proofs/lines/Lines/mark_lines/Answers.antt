use Rattle.std.proofs.Common.{◌≡◌, refl, sym, take, ap, arith}
use Rattle.lf_limits.specs.Limits.{most_marks}
use Rattle.lf_stream.proofs.BatchLaws.{marked_none, marked_more, marked_all, marked_text}
use Rattle.lf_stream.proofs.lines.Lines.mark_lines.Goals as goal

pub loop-count-init : goal.loop-count-init
loop-count-init c = marked_none _

pub loop-count-preserved : goal.loop-count-preserved
loop-count-preserved c =
    let l = c.loop-count in
    let a = c.in-Some.ensures in
    let w = c.index_mut.ensures in
    marked_more c.args.self.now l.self c.advance.new.self _ l.count c.in-Some.mark
    (record { same = record { notes = refl; finished = refl }; fed = refl; given = refl; first_sort = refl; bytes = refl; end = refl })
    l.invariant (omega (arith, l.self.room_for_marks, c.loop-count-test.true)) a.moves a.kept.0 a.kept.1 a.next refl refl

pub returns-in_default-clause-all : goal.returns-in_default-clause-all
returns-in_default-clause-all c = marked_all c.args.self.now c.loop-count.self c.loop-count.count c.advance.new.self.buffer.bytes.items c.loop-count.invariant c.loop-count-test.true c.in_default.ensures.next

pub returns-in_default-clause-marked : goal.returns-in_default-clause-marked
returns-in_default-clause-marked c =
    let kept = c.in_default.ensures.kept in
    marked_text c.args.self.now c.loop-count.self c.loop-count.count _ _ c.loop-count.invariant (ap (λ v. v.items) kept.0) (ap (λ v. take c.loop-count.count v.items) kept.1)

pub returns-clause-marked : goal.returns-clause-marked
returns-clause-marked c =
    let l = c.loop-count in
    let whole : l.count ≡ most_marks = omega (arith, l.auto.count-end, c.loop-count-test.false) in
    marked_text c.args.self.now l.self l.count _ _ l.invariant refl (ap (λ n. take n l.self.marks.items) (sym whole))

pub returns-clause-all : goal.returns-clause-all
returns-clause-all c = λ stream n s.
    let l = c.loop-count in
    let whole : l.count ≡ most_marks = omega (arith, l.auto.count-end, c.loop-count-test.false) in
    omega (arith, whole, l.invariant.enough stream n s (omega (arith, whole)))
