-- How runs from the start grow.
use Rattle.std.proofs.Common.{◌≡◌, ℕ, List, [], ◌∷◌, ◌++◌, refl, sym, subst, Contains}
use Rattle.lf_core.specs.declared.marked.Move.{Move}
use Rattle.lf_core.specs.Marked.{Machine, IsRun, stop}
use Rattle.lf_enumerated.specs.Leading.{Leads}

grown : (moves : ℕ → ℕ → List Move) (point byte : ℕ) (bytes : List ℕ) (run : List Move) (m : Move) → IsRun moves point bytes run → Contains (moves (stop point run) byte) m → IsRun moves point (bytes ++ byte ∷ []) (run ++ m ∷ [])
grown moves point byte [] [] m is has = (has, tt)
grown moves point byte [] (x ∷ run) m is has = absurd is
grown moves point byte (b ∷ bytes) [] m is has = absurd is
grown moves point byte (b ∷ bytes) (x ∷ run) m is has = (is.0, grown moves x.to byte bytes run m is.1 has)

stop-grown : (point : ℕ) (run : List Move) (m : Move) → stop point (run ++ m ∷ []) ≡ m.to
stop-grown point [] m = refl
stop-grown point (x ∷ run) m = stop-grown x.to run m

pub leads-on : (machine : Machine) (run : List Move) (point byte : ℕ) (m : Move) → Leads machine run point → Contains (machine.moves point byte) m → Leads machine (run ++ m ∷ []) m.to
leads-on machine run point byte m (bytes, is, stops) has =
    (bytes ++ byte ∷ [], grown machine.moves machine.first byte bytes run m is (subst (λ p. Contains (machine.moves p byte) m) (sym stops) has), stop-grown machine.first run m)
