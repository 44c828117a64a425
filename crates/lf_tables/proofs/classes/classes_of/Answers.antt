use Rattle.std.proofs.Common.{◌≡◌, ℕ, ◌<◌, List, get_or, sym, ◌∙◌, subst, arith}
use Rattle.std.proofs.lemmas.List.{get_or_default}
use Rattle.lf_core.specs.Marked.{Machine}
use Rattle.lf_core.specs.Written.{machine_of}
use Rattle.lf_tables.specs.Classes.{AreAlike}
use Rattle.lf_tables.proofs.classes.classes_of.Goals as goal

pub loop-byte-preserved : goal.loop-byte-preserved
loop-byte-preserved c =
    let m : Machine = machine_of c.args.table.now in
    let firsts : List ℕ = c.in_ok-firsts.firsts.items in
    let byte : ℕ = c.loop-byte.byte in
    let lt : c.loop-byte.byte < 256 = c.loop-byte-test.true in
    let read : c.index.result.now ≡ get_or firsts byte 0 = c.index.ensures ∙ get_or_default firsts byte c.index.result.now 0 (omega (arith, lt, c.in_ok-firsts.ensures.each)) in
    c.in_ok-add.ensures m (subst (λ (first : ℕ). AreAlike m m.count byte first) (sym read) (c.in_ok-firsts.ensures.alike byte lt)) c.loop-byte.invariant
