use Rattle.std.proofs.Common.{◌≡◌, ◌<◌, List, get_or, inl, inr, subst, sym, ap, ◌∙◌}
use Rattle.std.specs.List.{All, Contains}
use Rattle.std.proofs.lemmas.List.Elements.{Contains-get_or}
use Rattle.lf_core.specs.declared.marked.Move.{Move}
use Rattle.lf_core.specs.Marked.{Machine}
use Rattle.lf_core.specs.Written.{WrittenMachine, machine_of, moves_at, points_of}
use Rattle.lf_product.specs.declared.pair.Pair.{Pair}
use Rattle.lf_product.specs.Walk.{IsNext}
use Rattle.lf_product.proofs.Sweep.{contains_take_more, contains_whole}
use Rattle.lf_product.proofs.WalkSteps.{no_pair}
use Rattle.lf_product.proofs.walk.next_on.Goals as goal

pub moves-lefts-requires : goal.moves-lefts-requires
moves-lefts-requires c =
    let q : Pair = get_or c.args.level.now c.loop-pair.pair-index no_pair in
    let low = c.requires.left q (Contains-get_or c.args.level.now c.loop-pair.pair-index no_pair c.loop-pair-test.true) in
    subst (λ (w : WrittenMachine). q.left < points_of w) (sym c.table-table.ensures) low

pub moves-rights-requires : goal.moves-rights-requires
moves-rights-requires c =
    let q : Pair = get_or c.args.level.now c.loop-pair.pair-index no_pair in
    let low = c.requires.right q (Contains-get_or c.args.level.now c.loop-pair.pair-index no_pair c.loop-pair-test.true) in
    subst (λ (w : WrittenMachine). q.right < points_of w) (sym c.table-table.ensures) low

pub add_pairs-requires-clause-left : goal.add_pairs-requires-clause-left
add_pairs-requires-clause-left c =
    let q : Pair = get_or c.args.level.now c.loop-pair.pair-index no_pair in
    let low = c.requires.left q (Contains-get_or c.args.level.now c.loop-pair.pair-index no_pair c.loop-pair-test.true) in
    let is = c.moves-lefts.ensures ∙ ap (λ (w : WrittenMachine). moves_at w q.left c.args.byte) c.table-table.ensures in
    subst (λ (xs : List Move). All (λ (x : Move). x.to < points_of c.args.pairs.now) xs) (sym is) (c.is_machine.ensures.stays q.left c.args.byte low)

pub add_pairs-requires-clause-right : goal.add_pairs-requires-clause-right
add_pairs-requires-clause-right c =
    let q : Pair = get_or c.args.level.now c.loop-pair.pair-index no_pair in
    let low = c.requires.right q (Contains-get_or c.args.level.now c.loop-pair.pair-index no_pair c.loop-pair-test.true) in
    let is = c.moves-rights.ensures ∙ ap (λ (w : WrittenMachine). moves_at w q.right c.args.byte) c.table-table.ensures in
    subst (λ (xs : List Move). All (λ (x : Move). x.to < points_of c.args.pairs.now) xs) (sym is) (c.is_machine.ensures.stays q.right c.args.byte low)

pub loop-pair-preserved : goal.loop-pair-preserved
loop-pair-preserved c =
    let m : Machine = machine_of c.args.pairs.now in
    let q : Pair = get_or c.args.level.now c.loop-pair.pair-index no_pair in
    let listed : Contains c.args.level.now q = Contains-get_or c.args.level.now c.loop-pair.pair-index no_pair c.loop-pair-test.true in
    let ls : List Move = c.moves-lefts.result.now in
    let rs : List Move = c.moves-rights.result.now in
    let le : c.moves-lefts.result.now ≡ m.moves q.left c.args.byte = c.moves-lefts.ensures ∙ ap (λ (w : WrittenMachine). moves_at w q.left c.args.byte) c.table-table.ensures in
    let re : c.moves-rights.result.now ≡ m.moves q.right c.args.byte = c.moves-rights.ensures ∙ ap (λ (w : WrittenMachine). moves_at w q.right c.args.byte) c.table-table.ensures in
    let add = c.in_ok-add_pairs.ensures in
    record {
      from = λ p h. elim (add.from p h) [
        | inl k ↦ c.loop-pair.invariant.from p k
        | inr n ↦ record {
          from = q;
          listed = listed;
          next =
              subst (λ (xs : List Move). IsNext m c.args.steps xs (m.moves q.right c.args.byte) q.differed p) le
              (subst (λ (ys : List Move). IsNext m c.args.steps ls ys q.differed p) re n);
        }
      ];
      all = λ u p hu. elim (contains_take_more c.args.level.now c.loop-pair.pair-index no_pair u c.loop-pair-test.true hu) [
        | inl h ↦ (λ n. add.kept p (c.loop-pair.invariant.all u p h n))
        | inr is ↦ subst (λ (z : Pair). IsNext m c.args.steps (m.moves z.left c.args.byte) (m.moves z.right c.args.byte) z.differed p → Contains c.add_pairs.new.list.items p) is
            (λ n. add.all p
            (subst (λ (xs : List Move). IsNext m c.args.steps xs rs q.differed p) (sym le)
            (subst (λ (ys : List Move). IsNext m c.args.steps (m.moves q.left c.args.byte) ys q.differed p) (sym re) n)))
      ];
      once = add.once;
    }

pub returns-clause-all : goal.returns-clause-all
returns-clause-all c = λ p n. c.loop-pair.invariant.all n.from p (contains_whole c.args.level.now c.loop-pair.pair-index n.from c.loop-pair-test.false n.listed) n.next
