use Rattle.std.proofs.Common.{◌∷◌, ◌++◌, [], List, Option, ℕ, get_or, take, sym, subst}
use Rattle.std.proofs.lemmas.List.{take_more, take_all}
use Rattle.lf_core.specs.declared.marked.Move.{Move}
use Rattle.lf_core.specs.Marked.{Machine, no_move}
use Rattle.lf_core.specs.Written.{machine_of}
use Rattle.lf_witness.specs.Heads.{IsNearest}
use Rattle.lf_witness.proofs.HeadLaws.{nearest_more}
use Rattle.lf_witness.proofs.heads.nearest.Goals as goal

pub loop-x-preserved : goal.loop-x-preserved
loop-x-preserved c =
    let m : Machine = machine_of c.args.pairs.now in
    let l = c.loop-x in
    let moves = c.args.moves.now in
    let x : Move = get_or moves l.x-index no_move in
    subst (λ (zs : List Move). IsNearest m zs c.lesser-least.result) (sym (take_more moves l.x-index no_move c.loop-x-test.true))
    (subst (λ (o : Option ℕ). IsNearest m (take l.x-index moves ++ x ∷ []) o) (sym c.lesser-least.ensures) (nearest_more m (take l.x-index moves) x l.least c.distance.result l.invariant c.distance.ensures))

pub returns : goal.returns
returns c = subst (λ (zs : List Move). IsNearest (machine_of c.args.pairs.now) zs c.loop-x.least) (take_all c.loop-x.x-index c.args.moves.now c.loop-x-test.false) c.loop-x.invariant
