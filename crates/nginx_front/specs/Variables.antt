-- Names of variables, and their slots.
use Rattle.std.specs.Prelude.{ℕ, ◌==◌, ◌&&◌, ◌||◌, nat_le, Bool, false, List, [], ◌∷◌, ◌++◌}
use Rattle.std.specs.List.{list_all}
use Rattle.lf_spelling.specs.Enclosed.{is_not}
use Rattle.lf_format.specs.declared.slot.Slot.{Slot}
use Rattle.nginx_front.specs.declared.table.Escape.{Escape}
use Rattle.nginx_front.specs.Table.{sort_of, kind_of, code_of, absence_of}

-- a letter, a digit or `_`
abbrev pub is_word : ℕ → Bool
is_word b = (nat_le 48 b && nat_le b 57) || (nat_le 65 b && nat_le b 90) || (nat_le 97 b && nat_le b 122) || (b == 95)

-- a name has at least one byte, and each is a letter, a digit or `_`
abbrev pub is_name : List ℕ → Bool
is_name [] = false
is_name (b ∷ name) = list_all is_word (b ∷ name)

-- any byte but `}`
abbrev pub is_inside : ℕ → Bool
is_inside = is_not 125

-- a variable as it is spelled without braces
abbrev pub spelling : List ℕ → List ℕ
spelling name = 36 ∷ name

-- a variable as it is spelled with braces
abbrev pub braced_spelling : List ℕ → List ℕ
braced_spelling name = 36 ∷ 123 ∷ (name ++ 125 ∷ [])

-- The slot of a variable is named without braces.
abbrev pub slot_of : Escape → List ℕ → Slot
slot_of escape name = record { name = spelling name; kind = kind_of escape (sort_of name); code = code_of escape (sort_of name); absent = absence_of escape (sort_of name); present = false; quoted = false }
