-- The whole runs of a machine over bytes.
use Rattle.std.proofs.Common.{ℕ, ◌<◌, List, [], ◌∷◌, ltb, sym, subst, All, Contains}
use Rattle.std.proofs.lemmas.List.Elements.{All-head, All-tail}
use Rattle.lf_core.specs.Marked.{Machine, IsRun, IsWholeRun}
use Rattle.lf_core.specs.declared.marked.Move.{Move}
use Rattle.lf_machine.specs.OnBytes.{on_bytes, byte-moves}
use Rattle.lf_machine.specs.Lists.{cond-there}

narrow : (machine : Machine) (line : List ℕ) (point : ℕ) (run : List Move) → All (λ byte. byte < 256) line → IsRun machine.moves point line run → IsRun (on_bytes machine).moves point line run
narrow machine [] point [] all h = h
narrow machine [] point (m ∷ run) all h = absurd h
narrow machine (byte ∷ line) point [] all h = absurd h
narrow machine (byte ∷ line) point (m ∷ run) all h = (
  subst (λ (ms : List Move). Contains ms m) (sym (byte-moves machine point byte (All-head (λ b. b < 256) byte line all))) h.0,
  narrow machine line m.to run (All-tail (λ b. b < 256) byte line all) h.1,
)

widen : (machine : Machine) (line : List ℕ) (point : ℕ) (run : List Move) → IsRun (on_bytes machine).moves point line run → IsRun machine.moves point line run
widen machine [] point [] h = h
widen machine [] point (m ∷ run) h = absurd h
widen machine (byte ∷ line) point [] h = absurd h
widen machine (byte ∷ line) point (m ∷ run) h =
    ((cond-there (ltb byte 256) (machine.moves point byte) m h.0).1, widen machine line m.to run h.1)

-- a whole run over bytes stays one
pub run-on_bytes : (machine : Machine) (line : List ℕ) (run : List Move) → All (λ byte. byte < 256) line → IsWholeRun machine line run → IsWholeRun (on_bytes machine) line run
run-on_bytes machine line run all h = (narrow machine line machine.first run all h.0, h.1)

-- and there is no other
pub on_bytes-run : (machine : Machine) (line : List ℕ) (run : List Move) → IsWholeRun (on_bytes machine) line run → IsWholeRun machine line run
on_bytes-run machine line run h = (widen machine line machine.first run h.0, h.1)
