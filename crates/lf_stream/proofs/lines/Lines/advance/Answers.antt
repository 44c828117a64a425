use Rattle.std.proofs.Common.{◌≡◌, ◌+◌, ◌≤◌, refl, sym, subst, arith}
use Rattle.std.proofs.lemmas.Bool.{iff_false}
use Rattle.lf_stream.specs.Cut.{HasNoFeed}
use Rattle.lf_stream.specs.Sorts.{least_dropped}
use Rattle.lf_stream.specs.Held.{held_bytes}
use Rattle.lf_stream.proofs.LineLaws.{next_ended, next_last, moves_next, marks_next, no_next_open, no_next_left}
use Rattle.lf_stream.proofs.lines.Lines.advance.Goals as goal

pub returns-in-Some-clause-next : goal.returns-in-Some-clause-next
returns-in-Some-clause-next c = λ stream n s.
    let same = c.in-Some.ensures.same in
    let t = c.take_line.ensures in
    marks_next c.args.self.now _ c.take_line.new.self c.in-Some.at _ stream n c.take_line.result t.taken
    (record { same = record { notes = refl; finished = refl }; fed = refl; given = refl; first_sort = refl; bytes = rw (same.0, same.1, same.2) refl; end = same.2 })
    (λ stream n s. next_ended _ stream n c.in-Some.at c.in-Some.ensures.found s)
    t.number t.mark s

pub returns-in-Some-clause-moves : goal.returns-in-Some-clause-moves
returns-in-Some-clause-moves c =
    let same = c.in-Some.ensures.same in
    moves_next c.args.self.now _ c.take_line.new.self c.in-Some.at _ c.take_line.ensures.taken
    (record { same = record { notes = refl; finished = refl }; fed = refl; given = refl; first_sort = refl; bytes = rw (same.0, same.1, same.2) refl; end = same.2 })
    (λ stream n s. next_ended _ stream n c.in-Some.at c.in-Some.ensures.found s)

pub returns-clause-next : goal.returns-clause-next
returns-clause-next c = λ stream n s.
    let same = c.in_default.ensures.same in
    let t = c.take_line-2.ensures in
    marks_next c.args.self.now _ c.take_line-2.new.self _ _ stream n c.take_line-2.result t.taken
    (record { same = record { notes = refl; finished = refl }; fed = refl; given = refl; first_sort = refl; bytes = rw (same.0, same.1, same.2) refl; end = same.2 })
    (λ stream n s. next_last _ stream n c.if-not-self.false c.in_default.ensures.found (c.has_rest.ensures.0 c.if-not-has_rest.false) s)
    t.number t.mark s

pub returns-clause-moves : goal.returns-clause-moves
returns-clause-moves c =
    let same = c.in_default.ensures.same in
    moves_next c.args.self.now _ c.take_line-2.new.self _ _ c.take_line-2.ensures.taken
    (record { same = record { notes = refl; finished = refl }; fed = refl; given = refl; first_sort = refl; bytes = rw (same.0, same.1, same.2) refl; end = same.2 })
    (λ stream n s. next_last _ stream n c.if-not-self.false c.in_default.ensures.found (c.has_rest.ensures.0 c.if-not-has_rest.false) s)

pub returns-then-not-self-clause-next : goal.returns-then-not-self-clause-next
returns-then-not-self-clause-next c = λ stream n s.
    let same = c.in_default.ensures.same in
    let held : held_bytes c.find.new.self ≡ held_bytes c.args.self.now.buffer = rw (same.0, same.1, same.2) refl in
    no_next_open c.args.self.now stream n c.if-not-self.true (subst HasNoFeed held c.in_default.ensures.found) s

pub returns-then-not-has_rest-clause-next : goal.returns-then-not-has_rest-clause-next
returns-then-not-has_rest-clause-next c = λ stream n s.
    let same = c.in_default.ensures.same in
    let l = c.args.self.now in
    let none : l.buffer.start + 1 ≤ l.buffer.end + least_dropped l.first_sort → ⊥ = rw (sym same.1, sym same.2) (iff_false c.has_rest.ensures c.if-not-has_rest.true) in
    no_next_left l stream n (omega (arith, none)) s
