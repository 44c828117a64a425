use Rattle.std.proofs.Common.{List, get_or, take, sym, subst}
use Rattle.std.proofs.lemmas.Bool.{iff_false}
use Rattle.std.proofs.lemmas.List.{take_more}
use Rattle.lf_core.specs.declared.marked.Move.{Move}
use Rattle.lf_core.specs.Marked.{no_move}
use Rattle.lf_witness.specs.Open.{IsLeast, IsLeastOpen}
use Rattle.lf_witness.proofs.OpenLaws.{open_skip, open_more}
use Rattle.lf_witness.proofs.runs.least_open.Goals as goal

pub loop-x-preserved-then-not-is_open : goal.loop-x-preserved-then-not-is_open
loop-x-preserved-then-not-is_open c =
    let l = c.loop-x in
    let moves = c.args.moves.now in
    subst (λ (zs : List Move). IsLeastOpen zs c.args.after.now c.args.but l.least) (sym (take_more moves l.x-index no_move c.loop-x-test.true))
    (open_skip (take l.x-index moves) c.args.after.now c.args.but (get_or moves l.x-index no_move) l.least l.invariant (iff_false c.is_open.ensures c.if-not-is_open.true))

pub loop-x-preserved : goal.loop-x-preserved
loop-x-preserved c =
    let l = c.loop-x in
    let moves = c.args.moves.now in
    let z = c.lesser.ensures in
    subst (λ (zs : List Move). IsLeast zs c.args.after.now c.args.but c.lesser.result) (sym (take_more moves l.x-index no_move c.loop-x-test.true))
    (open_more (take l.x-index moves) c.args.after.now c.args.but (get_or moves l.x-index no_move) c.lesser.result l.least l.invariant (c.is_open.ensures.0 c.if-not-is_open.false) z.one z.below z.below_least)
