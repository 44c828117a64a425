use Rattle.std.proofs.Common.{◌≡◌, ℕ, ◌+◌, ◌*◌, ◌/◌, ◌%◌, ap, arith}
use Rattle.lf_gen.specs.Draws.{next_state, draw}
use Rattle.lf_gen.proofs.draws.draw.Goals as goal

-- the rest is taken once
rest-once : (a : ℕ) → (a % 18446744073709551616 + 1442695040888963407) % 18446744073709551616 ≡ (a + 1442695040888963407) % 18446744073709551616
rest-once a = omega arith

pub returns-clause-state : goal.returns-clause-state
unfolding next_state
returns-clause-state c = rest-once (c.args.state.now * 6364136223846793005)

pub returns-clause-drawn : goal.returns-clause-drawn
unfolding next_state draw
returns-clause-drawn c = ap (λ (n : ℕ). n / 4294967296) (rest-once (c.args.state.now * 6364136223846793005))
