use Rattle.std.proofs.Common.{◌≡◌, ℕ, ◌+◌, ◌<◌, ◌≢◌, List, [], ◌∷◌, ◌++◌, map, take, get_or, set, length, sym, ap, ◌∙◌, arith}
use Rattle.std.proofs.lemmas.List.{length-set, get_or-set_other, take_all, take_more_set, map_more}
use Rattle.lf_core.specs.declared.marked.Move.{Move}
use Rattle.lf_core.specs.Marked.{no_move}
use Rattle.lf_core.specs.RunLaws.{move_is}
use Rattle.lf_meet.specs.Both.{shifted}
use Rattle.lf_meet.proofs.both.shift.Goals as goal

more : (by i : ℕ) (old now : List Move) (y d : Move) → i < length now → length now ≡ length old → take i now ≡ map (shifted by) (take i old) → y ≡ shifted by (get_or old i d) → take (i + 1) (set now i y) ≡ map (shifted by) (take (i + 1) old)
more by i old now y d lt len h is =
    take_more_set now i y lt
    ∙ ap (λ (xs : List Move). xs ++ y ∷ []) h
    ∙ ap (λ (z : Move). map (shifted by) (take i old) ++ z ∷ []) is
    ∙ sym (map_more (shifted by) old i d (omega (arith, lt, len)))

same_to : (by : ℕ) (x y : Move) → x ≡ y → record { mark = x.mark; to = x.to + by } ≡ shifted by y
same_to by x y e =
    let to = ap (λ (z : Move). z.to) e in
    move_is (record { mark = x.mark; to = x.to + by }) (shifted by y) (ap (λ (z : Move). z.mark) e) (omega (arith, to))

pub overflow_add-step : goal.overflow_add-step
overflow_add-step c =
    let i : ℕ = c.loop-step.step-index in
    let lt : i < length c.args.moves.now = c.loop-step-test.true in
    let same : (get_or c.loop-step.moves i no_move).to ≡ (get_or c.args.moves.now i no_move).to = ap (λ (z : Move). z.to) (c.loop-step.invariant.1 i no_move (omega arith)) in
    let low = c.requires i no_move lt in
    omega (arith, same, low)

pub loop-step-preserved : goal.loop-step-preserved
loop-step-preserved c =
    let i : ℕ = c.loop-step.step-index in
    let now : List Move = c.loop-step.moves in
    let lt : i < length now = omega (arith, c.loop-step-test.true, c.loop-step.auto.moves) in
    let x : Move = get_or now i no_move in
    let y : Move = record { mark = x.mark; to = x.to + c.args.by } in (
      more c.args.by i c.args.moves.now now y no_move lt c.loop-step.auto.moves c.loop-step.invariant.0 (same_to c.args.by x (get_or c.args.moves.now i no_move) (c.loop-step.invariant.1 i no_move (omega arith))),
      λ k d le. let other : k ≢ i = omega (arith, le) in get_or-set_other now i k y d other ∙ c.loop-step.invariant.1 k d (omega (arith, le)),
      length-set now i y ∙ c.loop-step.auto.moves,
    )

pub returns : goal.returns
returns c =
    let end : c.loop-step.step-index ≡ length c.args.moves.now = omega (arith, c.loop-step-test.false, c.loop-step.auto.step-index-end) in
    sym (take_all c.loop-step.step-index c.loop-step.moves (omega (arith, end, c.loop-step.auto.moves)))
    ∙ c.loop-step.invariant.0
    ∙ ap (map (shifted c.args.by)) (take_all c.loop-step.step-index c.args.moves.now (omega (arith, end)))
