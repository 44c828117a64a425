-- A text cut at a byte, and grammars whose texts have no such byte.
use Rattle.std.specs.Prelude.{ℕ, ◌&&◌, ◌||◌, not, eqb, leb, Bool, true, cond, List, [], ◌∷◌, ◌++◌}
use Rattle.lf_syntax.specs.declared.leaf.Leaf.{Leaf}
use Rattle.lf_syntax.specs.declared.leaf.Leaf.TheVariants.{End, Within, Number, Digits, Item, Cross, High, Low, Rest}
use Rattle.lf_syntax.specs.Leaf.{is_within, is_plain, hex_value}
use Rattle.lf_syntax.specs.Grammar.{Grammar, leaf, sequence, choice, star, again}

-- a byte of items and what is between them
abbrev pub is_of_items : ℕ → Bool
is_of_items b = is_plain b || (eqb b 92 || (eqb b 120 || (eqb b 45 || leb (hex_value b) 15)))

-- no text of the leaf has the byte
abbrev pub leaf_avoids : ℕ → Leaf → Bool
leaf_avoids b End = true
leaf_avoids b (Within low high) = not (is_within low high b)
leaf_avoids b (Number lone limit) = not (is_within 48 57 b)
leaf_avoids b (Digits value limit) = not (is_within 48 57 b)
leaf_avoids b (Item from pair) = not (is_of_items b)
leaf_avoids b (Cross from pair) = not (is_of_items b)
leaf_avoids b (High from pair) = not (is_of_items b)
leaf_avoids b (Low from pair high) = not (is_of_items b)
leaf_avoids b (Rest value) = not (is_of_items b)

-- no text of the grammar has the byte, if none of the rule has
abbrev pub avoids : ℕ → Grammar → Bool
avoids b (leaf l) = leaf_avoids b l
avoids b (sequence a c) = avoids b a && avoids b c
avoids b (choice a c) = avoids b a && avoids b c
avoids b (star a) = avoids b a
avoids b again = true

abbrev pub onto_first : ℕ → List (List ℕ) → List (List ℕ)
onto_first x [] = (x ∷ []) ∷ []
onto_first x (p ∷ ps) = (x ∷ p) ∷ ps

-- the pieces of a text between the bytes: one more than there are of these
abbrev pub cuts : ℕ → List ℕ → List (List ℕ)
cuts b [] = [] ∷ []
cuts b (x ∷ w) = cond (eqb x b) ([] ∷ cuts b w) (onto_first x (cuts b w))

-- the text before the first such byte
abbrev pub front_of : ℕ → List ℕ → List ℕ
front_of b [] = []
front_of b (x ∷ w) = cond (eqb x b) [] (x ∷ front_of b w)

-- the text from the first such byte on
abbrev pub from_first : ℕ → List ℕ → List ℕ
from_first b [] = []
from_first b (x ∷ w) = cond (eqb x b) (x ∷ w) (from_first b w)

-- the pieces after the byte that the text begins with, if it isn't at its end
abbrev pub further_cuts : ℕ → List ℕ → List (List ℕ)
further_cuts b [] = []
further_cuts b (x ∷ w) = cuts b w

-- pieces, with the byte after each
abbrev pub ended : ℕ → List (List ℕ) → List ℕ
ended b [] = []
ended b (w ∷ ws) = w ++ b ∷ ended b ws

-- one or more parts, joined by a byte
abbrev pub separated : ℕ → Grammar → Grammar
separated b part = sequence part (star (sequence (leaf (Within b b)) part))
