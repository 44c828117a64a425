-- What a text says that is a term of a narrowing.
use Rattle.std.specs.Prelude.{ℕ, ◌+◌, ◌-◌, ◌*◌, ◌==◌, ◌||◌, not, Bool, false, cond, ℤ, pos, negsuc, List, [], ◌∷◌, drop, Option, None, Some}
use Rattle.std.specs.Option.{unwrap_or}
use Rattle.lf_syntax.specs.Leaf.{is_within, hex_value, value_from}
use Rattle.lf_syntax.specs.Cuts.{front_of, from_first}
use Rattle.lf_narrow.specs.declared.sets.Stage.{Stage}
use Rattle.lf_narrow.specs.declared.sets.Stage.TheVariants.{Fresh, Slash, Cross, Digit}

-- A rule: the letters that it allows, the least and the most of them, the least and the greatest number, or that the value isn't missing.
pub data Rule : Type 0 where
  letters : (ℕ → Bool) → Rule
  lengths : ℕ → Option ℕ → Rule
  range : ℤ → ℤ → Rule
  present : Rule

-- A rule for the slot of this number, or for all slots on which it acts.
pub record Term : Type 0 where
  pub slot : Option ℕ
  pub rule : Rule

abbrev pub number_of : List ℕ → ℕ
number_of digits = value_from 0 digits

-- a number with a sign
abbrev pub int_of : List ℕ → ℤ
int_of [] = pos 0
int_of (b ∷ w) = cond (b == 45) (negsuc (number_of w - 1)) (pos (number_of (b ∷ w)))

-- the value of the item that ends with the byte
abbrev pub item_by : Stage → ℕ → Option ℕ
item_by Fresh b = cond (b == 92 || b == 45) None (Some b)
item_by Slash b = None
item_by Cross b = None
item_by (Digit high) b = Some (16 * high + hex_value b)

-- how much of an item has been read after the byte
abbrev pub stage_after : Stage → ℕ → Stage
stage_after Fresh b = cond (b == 92) Slash Fresh
stage_after Slash b = Cross
stage_after Cross b = Digit (hex_value b)
stage_after (Digit high) b = Fresh

-- whether the byte is the dash of a range
abbrev pub is_dash : Stage → ℕ → Bool
is_dash Fresh b = b == 45
is_dash stage b = false

-- Whether `x` is listed by the members of which this is left to be read. `first` is the first item of a range whose dash has been read, and `last` the last item.
abbrev pub is_listed : ℕ → Stage → Option ℕ → ℕ → List ℕ → Bool
is_listed x stage first last [] = false
is_listed x stage first last (b ∷ w) =
    elim (item_by stage b) [
      | None ↦ is_listed x (stage_after stage b) (cond (is_dash stage b) (Some last) first) last w
      | Some item ↦ is_within (unwrap_or first item) item x || is_listed x Fresh None item w
    ]

-- whether the byte is a member of the set
abbrev pub is_in_set : List ℕ → ℕ → Bool
is_in_set text x = is_listed x Fresh None 0 text

abbrev pub upper_of : List ℕ → Option ℕ
upper_of [] = None
upper_of (b ∷ w) = Some (number_of (b ∷ w))

-- two bounds with `..` between them
abbrev pub lengths_of : List ℕ → Rule
lengths_of text = lengths (number_of (front_of 46 text)) (upper_of (drop 2 (from_first 46 text)))

abbrev pub range_of : List ℕ → Rule
range_of text = range (int_of (front_of 46 text)) (int_of (drop 2 (from_first 46 text)))

-- a rule is known by its first letter: `not`, `only`, `len`, `range`, or else `present`
abbrev pub rule_by : ℕ → List ℕ → Rule
rule_by b text =
    cond (b == 110) (letters (λ x. not (is_in_set (drop 4 text) x)))
    (cond (b == 111) (letters (is_in_set (drop 5 text)))
    (cond (b == 108) (lengths_of (drop 4 text))
    (cond (b == 114) (range_of (drop 6 text)) present)))

abbrev pub rule_of : List ℕ → Rule
rule_of [] = present
rule_of (b ∷ w) = rule_by b (b ∷ w)

-- the slot's number before the colon, or none for `*`
abbrev pub slot_of : List ℕ → Option ℕ
slot_of [] = None
slot_of (b ∷ w) = cond (b == 42) None (Some (number_of (front_of 58 w)))

-- the slot before the colon, and the rule after it
abbrev pub term_of : List ℕ → Term
term_of text = record { slot = slot_of text; rule = rule_of (drop 1 (from_first 58 text)) }
