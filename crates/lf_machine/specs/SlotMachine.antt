-- What the part of a slot in the machine is made of.
use Rattle.std.specs.Prelude.{◌≡◌, ℕ, List, ◌∷◌, Option, Bool, true}

-- A code's words, the domain's machine, the table of the words' proper prefixes, and what the slot does for absence.
pub record SlotMachine : Type 0 where
  pub takes : ℕ → Bool
  pub word : ℕ → List ℕ
  -- each word has a first byte
  pub least : (c : ℕ) → takes c ≡ true → (b : ℕ) × (rest : List ℕ) × (word c ≡ b ∷ rest)
  pub next : ℕ → ℕ → Option ℕ
  pub ends : ℕ → Bool
  pub first : ℕ
  pub size : ℕ
  pub table : List (List ℕ)
  -- absence is held and prints a dash, or nothing
  pub dash : Bool
  pub blank : Bool
  -- no present value prints a lone dash, or nothing
  pub apart_dash : Bool
  pub apart_blank : Bool
