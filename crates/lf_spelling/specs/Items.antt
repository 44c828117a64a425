-- Items that stand one after the other in a text.
use Rattle.std.specs.Prelude.{ℕ, List, [], ◌∷◌, ◌++◌}
use Rattle.lf_spelling.specs.declared.item_reader.Given.{Given}
use Rattle.lf_spelling.specs.declared.fault.Cause.{Cause}

-- An item: its bytes, what it gives, and the state after it.
pub record Item (State : Type 0) : Type 0 where
  pub bytes : List ℕ
  pub given : Given
  pub state : State

-- What a reader finds at the start of a text: an item and the bytes after it, or no item for a cause.
pub data Reading (State : Type 0) : Type 0 where
  Found : Item State → List ℕ → Reading State
  Failed : Cause → Reading State

-- the bytes of items
abbrev pub text_of : {State : Type 0} → List (Item State) → List ℕ
text_of [] = []
text_of (item ∷ items) = item.bytes ++ text_of items

-- what items give
abbrev pub given_of : {State : Type 0} → List (Item State) → List Given
given_of [] = []
given_of (item ∷ items) = item.given ∷ given_of items

-- the state after items
abbrev pub state_after : {State : Type 0} → State → List (Item State) → State
state_after state [] = state
state_after state (item ∷ items) = state_after item.state items

-- From this state the items stand one after the other, and the rest follows them.
abbrev pub Stand : {State : Type 0} → (State → Item State → List ℕ → Type 0) → State → List (Item State) → List ℕ → Type 0
Stand item_is state [] rest = Unit {0}
Stand item_is state (item ∷ items) rest = item_is state item (text_of items ++ rest) × Stand item_is item.state items rest
