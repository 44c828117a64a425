use Rattle.std.proofs.Common.{◌≡◌, arith, sym, get_or, inl, inr, subst}
use Rattle.std.specs.List.{Contains}
use Rattle.std.proofs.lemmas.List.Elements.{Contains-get_or}
use Rattle.lf_core.specs.declared.marked.Move.{Move}
use Rattle.lf_core.specs.Marked.{no_move}
use Rattle.lf_core.specs.Written.{machine_of}
use Rattle.lf_product.specs.Distance.{differed_by}
use Rattle.lf_product.specs.declared.pair.Pair.{Pair}
use Rattle.lf_product.specs.Walk.{IsLeast, IsNext}
use Rattle.lf_product.proofs.Sweep.{contains_take_more, contains_whole}
use Rattle.lf_product.proofs.WalkSteps.{pair_is}
use Rattle.lf_product.proofs.walk.add_pairs.Goals as goal

pub loop-y-preserved : goal.loop-y-preserved
loop-y-preserved c =
    let x : Move = get_or c.args.lefts.now c.loop-x.x-index no_move in
    let y : Move = get_or c.args.rights.now c.loop-y.y-index no_move in
    let x_in : Contains c.args.lefts.now x = Contains-get_or c.args.lefts.now c.loop-x.x-index no_move (omega arith) in
    let y_in : Contains c.args.rights.now y = Contains-get_or c.args.rights.now c.loop-y.y-index no_move (omega arith) in
    let q : Pair = record { left = x.to; right = y.to; differed = differed_by c.args.differed x y } in
    let e : c.after.result ≡ q = pair_is c.after.result q c.after.ensures.left c.after.ensures.right c.after.ensures.differed in
    record {
      kept = λ p h. c.in_ok-add_pair.ensures.kept p (c.loop-y.invariant.kept p h);
      from = λ p h. elim (c.in_ok-add_pair.ensures.from p h) [
        | inl k ↦ c.loop-y.invariant.from p k
        | inr (is, least) ↦ inr (subst (λ (z : Pair). IsNext (machine_of c.args.pairs.now) c.args.steps c.args.lefts.now c.args.rights.now c.args.differed z) is
            (record { x = x; y = y; on_left = x_in; on_right = y_in; left_is = c.after.ensures.left; right_is = c.after.ensures.right; differed_is = c.after.ensures.differed; least = least }))
      ];
      all = λ u v hu hv least. c.in_ok-add_pair.ensures.kept _ (c.loop-y.invariant.all u v hu hv least);
      row = λ v hv. elim (contains_take_more c.args.rights.now c.loop-y.y-index no_move v (omega arith) hv) [
        | inl h ↦ (λ least. c.in_ok-add_pair.ensures.kept _ (c.loop-y.invariant.row v h least))
        | inr is ↦ subst (λ (z : Move). IsLeast (machine_of c.args.pairs.now) c.args.steps (record { left = x.to; right = z.to; differed = differed_by c.args.differed x z }) → Contains c.add_pair.new.list.items (record { left = x.to; right = z.to; differed = differed_by c.args.differed x z })) is
            (λ least. subst (λ (z : Pair). Contains c.add_pair.new.list.items z) e (c.in_ok-add_pair.ensures.all (subst (λ (z : Pair). IsLeast (machine_of c.args.pairs.now) c.args.steps z) (sym e) least)))
      ];
      once = c.in_ok-add_pair.ensures.once;
    }

pub loop-x-preserved : goal.loop-x-preserved
loop-x-preserved c =
    let x : Move = get_or c.args.lefts.now c.loop-x.x-index no_move in
    record {
      kept = c.loop-y.invariant.kept;
      from = c.loop-y.invariant.from;
      all = λ u v hu hv. elim (contains_take_more c.args.lefts.now c.loop-x.x-index no_move u (omega arith) hu) [
        | inl h ↦ (λ least. c.loop-y.invariant.all u v h hv least)
        | inr is ↦ subst (λ (z : Move). IsLeast (machine_of c.args.pairs.now) c.args.steps (record { left = z.to; right = v.to; differed = differed_by c.args.differed z v }) → Contains c.loop-y.list.items (record { left = z.to; right = v.to; differed = differed_by c.args.differed z v })) is
            (c.loop-y.invariant.row v (contains_whole c.args.rights.now c.loop-y.y-index v (omega (arith, c.loop-y-test.false)) hv))
      ];
      once = c.loop-y.invariant.once;
    }

pub returns-clause-all : goal.returns-clause-all
returns-clause-all c = λ p n.
    let q : Pair = record { left = n.x.to; right = n.y.to; differed = differed_by c.args.differed n.x n.y } in
    let e : p ≡ q = pair_is p q n.left_is n.right_is n.differed_is in
    subst (λ (z : Pair). Contains c.loop-x.list.items z) (sym e)
    (c.loop-x.invariant.all n.x n.y (contains_whole c.args.lefts.now c.loop-x.x-index n.x (omega (arith, c.loop-x-test.false)) n.on_left) n.on_right (subst (λ (z : Pair). IsLeast (machine_of c.args.pairs.now) c.args.steps z) e n.least))
