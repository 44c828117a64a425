-- The flags at the start of a text, and their changes in braces.
use Rattle.std.specs.Prelude.{ℕ, ◌==◌, ◌&&◌, ◌||◌, Bool, false, List, [], ◌∷◌, if◌then◌else◌}
use Rattle.haproxy_front.specs.declared.flags.Flags.{Flags}

-- at the start no flag holds
abbrev pub at_start : Flags
at_start = record { quotes = false; escapes = false; hexadecimal = false }

-- `+` or `-`
abbrev pub is_sign : ℕ → Bool
is_sign b = (b == 43) || (b == 45)

-- `Q`, `E` or `X`
abbrev pub is_flag : ℕ → Bool
is_flag b = (b == 81) || (b == 69) || (b == 88)

-- a sign and a flag, or more of these, joined by commas
abbrev pub are_flags : List ℕ → Bool
are_flags (sign ∷ letter ∷ []) = is_sign sign && is_flag letter
are_flags (sign ∷ letter ∷ comma ∷ more) = is_sign sign && is_flag letter && (comma == 44) && are_flags more
are_flags _ = false

-- the flags with the one of the letter held or not
abbrev pub with_flag : Flags → Bool → ℕ → Flags
with_flag flags held letter =
    if letter == 81 then record flags { quotes = held } else
    if letter == 69 then record flags { escapes = held } else
    record flags { hexadecimal = held }

-- the flags after each change, from left to right: `+` has the flag held, and `-` not
abbrev pub changed : Flags → List ℕ → Flags
changed flags (sign ∷ letter ∷ []) = with_flag flags (sign == 43) letter
changed flags (sign ∷ letter ∷ comma ∷ more) = changed (with_flag flags (sign == 43) letter) more
changed flags _ = flags
