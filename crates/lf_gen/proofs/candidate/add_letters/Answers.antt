use Rattle.std.proofs.Common.{◌≡◌, ℕ, suc, ◌+◌, ◌-◌, ◌%◌, List, [], ◌∷◌, ◌++◌, sym, ap, ◌∙◌, append_assoc, arith}
use Rattle.std.specs.Prelude.{slice_index}
use Rattle.lf_core.specs.Class.{members}
use Rattle.lf_gen.specs.Draws.{draw, drawn_letters, next_state, state_after}
use Rattle.lf_gen.proofs.candidate.add_letters.Goals as goal

pub loop-preserved : goal.loop-preserved
loop-preserved c =
    let set = c.args.class in
    let l = c.loop in
    let left = c.args.count - (l.counter + 1) in
    let more : c.args.count - l.counter ≡ suc left = omega (arith, c.loop-test.true) in
    let letter =
    c.nth.ensures
    ∙ ap (λ (d : ℕ). slice_index (members set) (d % c.count-members.result)) c.draw.ensures.drawn
    ∙ ap (λ (n : ℕ). slice_index (members set) (draw l.state % n)) l.invariant.0 in
    let first =
    ap (λ (s : ℕ). c.nth.result ∷ drawn_letters set left s) c.draw.ensures.state
    ∙ ap (λ (b : ℕ). b ∷ drawn_letters set left (next_state l.state)) letter in (
      l.invariant.0,
      l.invariant.1,
      ap (λ (t : List ℕ). t ++ drawn_letters set left c.draw.new.state) c.in_ok-push.ensures.ok
          ∙ append_assoc l.into (c.nth.result ∷ []) (drawn_letters set left c.draw.new.state)
          ∙ ap (λ (t : List ℕ). l.into ++ t) first
          ∙ ap (λ (n : ℕ). l.into ++ drawn_letters set n l.state) (sym more)
          ∙ l.invariant.2,
      ap (state_after left) c.draw.ensures.state
          ∙ ap (λ (n : ℕ). state_after n l.state) (sym more)
          ∙ l.invariant.3,
    )
