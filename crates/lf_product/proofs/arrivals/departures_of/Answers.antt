use Rattle.std.proofs.Common.{◌≡◌, ℕ, arith, ◌<◌, ◌∙◌, sym, ap, length, get_or, List, subst, inl, inr}
use Rattle.std.specs.List.{Contains}
use Rattle.std.proofs.lemmas.Bool.{cases_lt}
use Rattle.std.proofs.lemmas.List.Elements.{Contains-get_or}
use Rattle.lf_core.specs.declared.marked.Move.{Move}
use Rattle.lf_core.specs.Written.{moves_at}
use Rattle.lf_product.specs.Arcs.{seen, Departs}
use Rattle.lf_product.proofs.Sweep.{contains_take_more, contains_whole}
use Rattle.lf_product.proofs.arrivals.departures_of.Goals as goal

abbrev no_move : Move
no_move = record { mark = 0; to = 0 }

pub loop-step-preserved : goal.loop-step-preserved
loop-step-preserved c =
    let items : List Move = c.moves-step-items.result.now in
    let lt : c.loop-step.step-index < length c.moves-step-items.result.now = omega arith in
    let cell : moves_at c.args.table.now c.args.from c.loop-byte.byte ≡ items = sym c.moves-step-items.ensures in
    let step : Move = get_or items c.loop-step.step-index no_move in
    let here : Contains (moves_at c.args.table.now c.args.from c.loop-byte.byte) step = rw cell (Contains-get_or items c.loop-step.step-index no_move lt) in
    record {
      from = λ x b low h. elim (c.in_ok-add_departure.ensures.only x b low h) [
        | inl k ↦ c.loop-step.invariant.from x b low k
        | inr (e, f) ↦ rw f (step, here, sym c.seen.ensures ∙ sym e)
      ];
      all = λ x b below h. c.in_ok-add_departure.ensures.kept (seen c.args.marked x) b (c.loop-step.invariant.all x b below h);
      here = λ x h. elim (contains_take_more items c.loop-step.step-index no_move x lt h) [
        | inl k ↦ c.in_ok-add_departure.ensures.kept (seen c.args.marked x) c.loop-byte.byte (c.loop-step.invariant.here x k)
        | inr e ↦ subst (λ (z : Move). Departs c.add_departure.new.departures.items z c.loop-byte.byte) (c.seen.ensures ∙ ap (λ (z : Move). seen c.args.marked z) e) c.in_ok-add_departure.ensures.added
      ];
      some = c.in_ok-add_departure.ensures.some c.loop-step.invariant.some;
    }

pub loop-byte-preserved : goal.loop-byte-preserved
loop-byte-preserved c =
    let items : List Move = c.moves-step-items.result.now in
    let cell : moves_at c.args.table.now c.args.from c.loop-byte.byte ≡ items = sym c.moves-step-items.ensures in
    record {
      from = c.loop-step.invariant.from;
      all = λ x b below h. elim (cases_lt b c.loop-byte.byte) [
        | inl lt ↦ c.loop-step.invariant.all x b lt h
        | inr ge ↦
            let e : b ≡ c.loop-byte.byte = omega (arith, ge, below) in
            let h' : Contains items x = subst (λ (ys : List Move). Contains ys x) (ap (λ (k : ℕ). moves_at c.args.table.now c.args.from k) e ∙ cell) h in
            subst (λ (k : ℕ). Departs c.loop-step.departures.items (seen c.args.marked x) k) (sym e) (c.loop-step.invariant.here x (contains_whole items c.loop-step.step-index x (omega (arith, c.loop-step-test.false)) h'))
      ];
      some = c.loop-step.invariant.some;
    }
