use Rattle.std.proofs.Common.{◌≤◌, ℕ, List, ◌++◌, take, refl, sym, ap, subst, ◌∙◌, length-drop, arith}
use Rattle.std.proofs.lemmas.Bool.{eqb-true}
use Rattle.std.specs.Str.{IsUtf8}
use Rattle.std.proofs.lemmas.List.{nil_from_length, take-append-drop}
use Rattle.lf_spelling.specs.declared.fault.Cause.{Cause}
use Rattle.lf_spelling.specs.Spelling.{Faulty}
use Rattle.lf_spelling.proofs.Steps.{more_than_none, progress_more, fails_here, fails_full, fails_empty}
use Rattle.lf_spelling.proofs.item_reader.read_items.Goals as goal

pub item-requires-clause-text : goal.item-requires-clause-text
item-requires-clause-text g c = (take c.loop-at.at c.args.text.now, subst IsUtf8 (sym (ap (λ (t : List ℕ). take c.loop-at.at c.args.text.now ++ t) c.split_at.ensures.back ∙ take-append-drop c.loop-at.at c.args.text.now)) c.requires.text)

pub returns-in-Err-Fault : goal.returns-in-Err-Fault
returns-in-Err-Fault g c =
    let f = g.F.ItemReader in
    let read = rw (c.split_at.ensures.back) at (rw c.in-Err-Fault.field-0-is at c.in-Err-Fault.ensures) in
    subst (λ (w : Cause). Faulty f.item_is f.fault_is c.args.front c.args.text.now c.loop-at.at w) (sym c.in-Err-Fault.cause-is) (fails_here f.reading f.item_is f.fault_is g.met.F.ItemReader.laws c.args.front c.args.text.now c.loop-at.at c.loop-at.state c.loop-at.built c.loop-at.invariant.progress c.in-Err-Fault.cause c.loop-at-test.true read)

pub returns-then-built-slots-gt-MOST_SLOTS : goal.returns-then-built-slots-gt-MOST_SLOTS
returns-then-built-slots-gt-MOST_SLOTS g c =
    let f = g.F.ItemReader in
    let read = rw (c.split_at.ensures.back) at (c.in-Ok.ensures) in
    fails_full f.reading f.item_is f.fault_is g.met.F.ItemReader.laws c.args.front c.args.text.now c.loop-at.at c.loop-at.state c.loop-at.built c.loop-at.invariant.progress _ _ c.loop-at-test.true read.1 (omega (arith, c.slots.ensures))

pub loop-at-smaller : goal.loop-at-smaller
loop-at-smaller g c =
    let f = g.F.ItemReader in
    let read = rw (c.split_at.ensures.back) at (c.in-Ok.ensures) in
    let some : 1 ≤ c.in-Ok.taken.len = more_than_none f.reading f.item_is f.fault_is g.met.F.ItemReader.laws c.args.text.now c.loop-at.at c.loop-at.state _ c.in-Ok.taken.len c.loop-at-test.true refl read.1 in
    omega arith

pub loop-at-preserved : goal.loop-at-preserved
loop-at-preserved g c =
    let f = g.F.ItemReader in
    let read = rw (c.split_at.ensures.back) at (c.in-Ok.ensures) in
    record {
      within = omega (arith, read.0, length-drop c.loop-at.at c.args.text.now);
      progress = progress_more f.reading f.item_is f.fault_is g.met.F.ItemReader.laws c.args.front c.args.text.now c.loop-at.at c.loop-at.state c.loop-at.built c.loop-at.invariant.progress _ c.in-Ok.taken.len c.add.new.self c.loop-at-test.true read.0 refl read.1 (omega (arith, c.slots.ensures)) c.in_ok-add.ensures;
    }

pub returns-then-is_empty : goal.returns-then-is_empty
returns-then-is_empty g c =
    let f = g.F.ItemReader in
    fails_empty f.item_is f.fault_is c.args.front c.args.text.now c.loop-at.at c.loop-at.state c.loop-at.built c.loop-at.invariant.progress c.in_ok-pieces.pieces.items (omega arith) c.in_ok-pieces.ensures (sym c.as_slice.ensures.value ∙ nil_from_length _ (eqb-true _ _ (sym c.is_empty.ensures ∙ c.if-is_empty.true)))
