use Rattle.std.proofs.Common.{◌≡◌, ℕ, zero, suc, refl, ◌+◌, ◌%◌, ◌==◌, false, None, sym, ap, ◌∙◌, arith}
use Rattle.std.proofs.Math.Dec.{eqb-suc-zero}
use Rattle.lf_core.specs.declared.class.Class.{Class}
use Rattle.lf_gen.specs.Draws.{draw, letter_draws, next_state, query_draws, state_after}
use Rattle.lf_gen.proofs.candidate.draw_query.Goals as goal

more-draws : (n x : ℕ) → state_after (n + 2) x ≡ state_after (n + 1) (next_state x)
more-draws n x = let e : n + 2 ≡ suc (n + 1) = omega arith in ap (λ (k : ℕ). state_after k x) e

query-state : (set : Class) (x : ℕ) → (draw x % 2 == 0) ≡ false → state_after (query_draws set x) x ≡ state_after (letter_draws set 0 None (next_state x) + 1) (next_state x)
query-state set x odd = rw odd (more-draws (letter_draws set 0 None (next_state x)) x)

not-zero : (n : ℕ) → (n ≡ 0 → ⊥) → (n == 0) ≡ false
not-zero zero h = absurd (h refl)
not-zero (suc n) h = eqb-suc-zero n

pub returns-clause-state : goal.returns-clause-state
returns-clause-state c =
    let set = c.args.class in
    let odd = ap (λ (d : ℕ). d % 2 == 0) (sym c.draw.ensures.drawn) ∙ not-zero (c.draw.result % 2) c.if-draw-eq0.false in
    c.in_ok-add_text.ensures.state
    ∙ ap (λ (x : ℕ). state_after (letter_draws set 0 None x + 1) x) c.draw.ensures.state
    ∙ sym (query-state set c.args.state.now odd)
