-- What a call that adds to a list leaves of it.
use Rattle.std.specs.Prelude.{◌≡◌, List, ◌++◌}

-- The list begins with the prefix.
abbrev pub BeginsWith : {A : Type 0} → List A → List A → Type 0
BeginsWith {A} whole front = (rest : List A) × (whole ≡ front ++ rest)

-- The new list is the old one, and after it a prefix of what was to be added.
abbrev pub AddsFront : {A : Type 0} → List A → List A → List A → Type 0
AddsFront {A} old new added = (done : List A) × (rest : List A) × (added ≡ done ++ rest) × (new ≡ old ++ done)
