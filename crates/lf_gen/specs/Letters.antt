-- The letters of a class that a code takes, and the one with the least word.
use Rattle.std.specs.Prelude.{◌≡◌, ℕ, ◌<◌, List, [], Option, None, Some, true, false, replicate}
use Rattle.std.specs.declared.cmp.Ordering.{Ordering}
use Rattle.std.specs.Ordering.{ordering_then, nat_cmp, is_gt}
use Rattle.lf_core.specs.Class.{is_letter}
use Rattle.lf_core.specs.declared.class.Class.{Class}
use Rattle.lf_escape.specs.Codings.{coding_takes, coding_word}
use Rattle.lf_escape.specs.declared.coding.Coding.{Coding}
use Rattle.lf_gen.specs.Compared.{line_cmp}

-- The letter is in the class, and the code takes it.
abbrev pub IsCoded : Coding → Class → ℕ → Type 0
IsCoded code set letter = (is_letter set letter ≡ true) × (coding_takes code letter ≡ true)

-- letters by their words, and of equal words the lesser letter first
abbrev pub letter_cmp : Coding → ℕ → ℕ → Ordering
letter_cmp code one other =
    ordering_then (line_cmp (coding_word code one) (coding_word code other)) (nat_cmp one other)

-- The least of the letters below the bound, and none where there is none.
abbrev pub IsLeastLetter : Coding → Class → ℕ → Option ℕ → Type 0
IsLeastLetter code set bound None = (letter : ℕ) → letter < bound → IsCoded code set letter → ⊥
IsLeastLetter code set bound (Some least) =
    IsCoded code set least
    × ((letter : ℕ) → letter < bound → IsCoded code set letter → is_gt (letter_cmp code least letter) ≡ false)

-- the letter so many times, and nothing where there is no letter
abbrev pub repeated : Option ℕ → ℕ → List ℕ
repeated None count = []
repeated (Some letter) count = replicate count letter
