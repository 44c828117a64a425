-- Grammars as data, and what one spells.
use Rattle.std.specs.Prelude.{◌≡◌, ℕ, zero, suc, ◌+◌, ◌⊎◌, ◌&&◌, ◌||◌, not, Bool, true, false, List, [], ◌∷◌, ◌++◌}
use Rattle.lf_syntax.specs.declared.leaf.Leaf.{Leaf}
use Rattle.lf_syntax.specs.declared.leaf.Leaf.TheVariants.{End, Within}
use Rattle.lf_syntax.specs.Leaf.{Holds, leaf_ends, is_sound_leaf}

pub data Grammar : Type 0 where
  leaf : Leaf → Grammar
  sequence : Grammar → Grammar → Grammar
  choice : Grammar → Grammar → Grammar
  star : Grammar → Grammar
  again : Grammar

-- these bytes, one after another
abbrev pub word : List ℕ → Grammar
word [] = leaf End
word (b ∷ w) = sequence (leaf (Within b b)) (word w)

abbrev pub joined : List (List ℕ) → List ℕ
joined [] = []
joined (w ∷ ws) = w ++ joined ws

abbrev pub Each : (List ℕ → Type 0) → List (List ℕ) → Type 0
Each P [] = Unit {0}
Each P (w ∷ ws) = P w × Each P ws

-- THE MEANING: what a grammar spells, where `again` spells what X has
abbrev pub Spells : (List ℕ → Type 0) → Grammar → List ℕ → Type 0
Spells X (leaf l) w = Holds l w
Spells X (sequence a c) w = (u : List ℕ) × (v : List ℕ) × (w ≡ u ++ v) × Spells X a u × Spells X c v
Spells X (choice a c) w = Spells X a w ⊎ Spells X c w
Spells X (star a) w = (ws : List (List ℕ)) × (w ≡ joined ws) × Each (Spells X a) ws
Spells X again w = X w

-- what `rule` spells where `again` in it is `rule` once more, and at most this many of it lie in one another
abbrev pub Nested : Grammar → ℕ → List ℕ → Type 0
Nested rule zero w = ⊥
Nested rule (suc d) w = Spells (Nested rule d) rule w

-- THE SENTENCES of a language that nests nothing
abbrev pub Sentence : Grammar → List ℕ → Type 0
Sentence g text = Spells (λ w. ⊥) g text

-- the sentences of a language with a rule, where at most this many of the rule lie in one another
abbrev pub NestedSentence : Grammar → ℕ → Grammar → List ℕ → Type 0
NestedSentence rule depth g text = Spells (Nested rule depth) g text

abbrev pub ends : Grammar → Bool
ends (leaf l) = leaf_ends l
ends (sequence a c) = ends a && ends c
ends (choice a c) = ends a || ends c
ends (star a) = true
ends again = false

-- each part spells something with nothing nested: `again` stands only as a last choice
abbrev pub sound_at : Bool → Grammar → Bool
sound_at last (leaf l) = is_sound_leaf l
sound_at last (sequence a c) = sound_at false a && sound_at false c
sound_at last (choice a c) = sound_at false a && sound_at true c
sound_at last (star a) = sound_at false a
sound_at last again = last

abbrev pub is_sound : Grammar → Bool
is_sound g = sound_at false g

-- a rule to be nested: sound, and never the empty text
abbrev pub is_rule : Grammar → Bool
is_rule rule = not (ends rule) && is_sound rule

-- how many parts a grammar has, where `again` has W
abbrev pub weight : ℕ → Grammar → ℕ
weight W (leaf l) = 0
weight W (sequence a c) = weight W a + weight W c + 1
weight W (choice a c) = weight W a + weight W c + 1
weight W (star a) = weight W a + 1
weight W again = W

abbrev pub deep_weight : Grammar → ℕ → ℕ
deep_weight rule zero = 0
deep_weight rule (suc d) = weight (deep_weight rule d) rule + 1
