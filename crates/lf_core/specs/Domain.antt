-- What a domain keeps: its plain texts are those that its machine over letters accepts.
use Rattle.std.specs.Prelude.{◌≡◌, ℕ, ◌<◌, ◌≤◌, List, [], ◌∷◌, Option, None, Some, Bool, true, false}
use Rattle.lf_core.specs.declared.values.Value.{Value}

-- A machine over letters. Its points are the numbers below `count`.
pub record LetterMachine : Type 0 where
  pub count : ℕ
  pub first : ℕ
  pub next : ℕ → ℕ → Option ℕ
  pub is_end : ℕ → Bool

-- The letters lead from the state to an end, each by a step.
abbrev pub accepts : {S : Type 0} → (S → ℕ → Option S) → (S → Bool) → S → List ℕ → Bool
accepts next is_end state [] = is_end state
accepts next is_end state (letter ∷ letters) =
    elim (next state letter) [ None ↦ false | Some after ↦ accepts next is_end after letters ]

-- The value is held, and this is its plain text.
abbrev pub IsPlainOf : (Value → Type 0) → (Value → List ℕ) → List ℕ → Value → Type 0
IsPlainOf holds plain text v = holds v × (plain v ≡ text)

-- This is no held value's plain text.
abbrev pub IsPlainOfNone : (Value → Type 0) → (Value → List ℕ) → List ℕ → Type 0
IsPlainOfNone holds plain text = (v : Value) → holds v → plain v ≡ text → ⊥

pub record IsDomain (holds : Value → Type 0) (plain : Value → List ℕ) (machine : LetterMachine) (size : ℕ) : Type 0 where
  -- what the machine accepts is the plain text of a held value
  pub sound : (text : List ℕ) → accepts machine.next machine.is_end machine.first text ≡ true → (v : Value) × holds v × (plain v ≡ text)
  -- it accepts the plain text of each held value
  pub complete : (v : Value) → holds v → accepts machine.next machine.is_end machine.first (plain v) ≡ true
  -- two held values with one plain text are one
  pub distinct : (v w : Value) → holds v → holds w → plain v ≡ plain w → v ≡ w
  -- the machine stays among its points, and its letters are bytes
  pub begins : machine.first < machine.count
  pub stays : (point letter after : ℕ) → point < machine.count → machine.next point letter ≡ Some after → (letter < 256) × (after < machine.count)
  pub small : machine.count ≤ size
