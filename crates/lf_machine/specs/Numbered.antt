-- A machine whose points are the numbers of states.
use Rattle.std.proofs.Common.{◌≡◌, ℕ, true, Contains}
use Rattle.lf_core.specs.Marked.{Machine}
use Rattle.lf_core.specs.declared.marked.Move.{Move}
use Rattle.lf_machine.specs.Paths.{Step}
use Rattle.lf_machine.specs.Parts.{Part}

-- the move by the numbers of states
abbrev pub numbered : {S : Type 0} → (S → ℕ) → Step S → Move
numbered number a = record { mark = a.mark; to = number a.to }

-- the states of a machine by numbers: `At n s` says that the number is the state's
module _ {S : Type 0} (part : Part S) (machine : Machine) (number : S → ℕ) (At : ℕ → S → Type 0) where
  -- the moves are the steps, by the numbers of the states
  pub record IsNumbered : Type 0 where
    pub only : (n : ℕ) (s t : S) → At n s → At n t → s ≡ t
    pub enters : (byte : ℕ) (m : Move) → Contains (machine.moves machine.first byte) m → (a : Step S) × part.enter byte a × At (number a.to) a.to × (m ≡ numbered number a)
    pub entered : (byte : ℕ) (a : Step S) → part.enter byte a → At (number a.to) a.to × Contains (machine.moves machine.first byte) (numbered number a)
    pub goes : (n : ℕ) (s : S) (byte : ℕ) (m : Move) → At n s → Contains (machine.moves n byte) m → (a : Step S) × part.can s byte a × At (number a.to) a.to × (m ≡ numbered number a)
    pub gone : (n : ℕ) (s : S) (byte : ℕ) (a : Step S) → At n s → part.can s byte a → At (number a.to) a.to × Contains (machine.moves n byte) (numbered number a)
    pub ends : (n : ℕ) (s : S) → At n s → (machine.is_end n ≡ true) → part.done s
    pub ended : (n : ℕ) (s : S) → At n s → part.done s → (machine.is_end n ≡ true)
    pub ends_empty : (machine.is_end machine.first ≡ true) → part.empty
    pub ended_empty : part.empty → (machine.is_end machine.first ≡ true)
