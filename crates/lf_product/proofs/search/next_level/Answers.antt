use Rattle.std.proofs.Common.{ℕ, arith, ◌+◌, [], get_or, inl, inr, subst, List, false}
use Rattle.std.proofs.lemmas.List.Elements.{Contains-get_or}
use Rattle.lf_product.specs.declared.pair.SmallPair.{SmallPair}
use Rattle.lf_product.specs.declared.pages.TheConstants.{NONE}
use Rattle.lf_core.specs.Written.{machine_of}
use Rattle.lf_product.specs.Level.{AreBefore}
use Rattle.lf_product.proofs.Levels.{going_trans}
use Rattle.lf_product.proofs.Sweep.{contains_take_more, contains_whole, before_grows}
use Rattle.lf_product.proofs.search.next_level.Goals as goal

abbrev no_pair : SmallPair
no_pair = record { left = 0; right = 0; differed = false }

pub reach_from-requires-clause-left : goal.reach_from-requires-clause-left
reach_from-requires-clause-left c = c.requires.standing.reached.waits_left (get_or c.args.level.now c.loop-pair.pair-index no_pair) (Contains-get_or c.args.level.now c.loop-pair.pair-index no_pair (omega arith))

pub reach_from-requires-clause-right : goal.reach_from-requires-clause-right
reach_from-requires-clause-right c = c.requires.standing.reached.waits_right (get_or c.args.level.now c.loop-pair.pair-index no_pair) (Contains-get_or c.args.level.now c.loop-pair.pair-index no_pair (omega arith))

pub reach_from-requires-clause-way : goal.reach_from-requires-clause-way
reach_from-requires-clause-way c = (c.args.steps, omega arith, c.requires.standing.reached.waits_at (get_or c.args.level.now c.loop-pair.pair-index no_pair) (Contains-get_or c.args.level.now c.loop-pair.pair-index no_pair (omega arith)))

pub reach_from-requires-clause-arrivals : goal.reach_from-requires-clause-arrivals
reach_from-requires-clause-arrivals c = c.telling-arrivals.ensures (machine_of c.args.table.now) c.requires.marked c.requires.joined

pub loop-pair-preserved : goal.loop-pair-preserved
loop-pair-preserved c =
    let m = machine_of c.args.table.now in
    let es : List ℕ = c.reach_from.new.distances in
    record {
      going = going_trans m NONE (c.args.steps + 1) c.args.distances.now c.loop-pair.distances es [] c.loop-pair.waiting.items c.reach_from.new.waiting.items c.loop-pair.invariant.going c.in_ok-reach_from.ensures.going;
      done = λ p h. elim (contains_take_more c.args.level.now c.loop-pair.pair-index no_pair p (omega arith) h) [
        | inl k ↦ before_grows m NONE c.loop-pair.distances es p c.in_ok-reach_from.ensures.going.grows (c.loop-pair.invariant.done p k)
        | inr e ↦ subst (λ (q : SmallPair). AreBefore m NONE es q) e c.in_ok-reach_from.ensures.has
      ];
    }

pub returns-clause-has : goal.returns-clause-has
returns-clause-has c = λ p h. c.loop-pair.invariant.done p (contains_whole c.args.level.now c.loop-pair.pair-index p (omega (arith, c.loop-pair-test.false)) h)
