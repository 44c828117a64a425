-- What a code keeps, as tests: of the word of each letter, and of the words of each two letters.
use Rattle.std.specs.Prelude.{ℕ, zero, suc, List, [], ◌∷◌, length, Bool, true, false, if◌then◌else◌, nat_lt, nat_le, ◌==◌, ◌&&◌, not}
use Rattle.std.specs.List.{list_all}

-- The test holds of each number below the bound.
unfoldable pub each_below : (ℕ → Bool) → ℕ → Bool
each_below test zero = true
each_below test (suc n) = test n && each_below test n

-- The test holds of each letter that is taken.
unfoldable pub each_taken : (ℕ → Bool) → (ℕ → Bool) → Bool
each_taken takes test = each_below (λ letter. if takes letter then test letter else true) 256

-- The second text begins with the first.
unfoldable pub is_front : List ℕ → List ℕ → Bool
is_front [] text = true
is_front (byte ∷ front) [] = false
is_front (byte ∷ front) (other ∷ text) = if byte == other then is_front front text else false

-- The byte may stand in a word.
abbrev pub is_word_byte : ℕ → Bool
is_word_byte byte = nat_lt byte 256 && not (byte == 10)

-- The word has one to six bytes, no line feed among them, and only the dash's word begins with a dash.
abbrev pub is_word_of : ℕ → List ℕ → Bool
is_word_of letter [] = false
is_word_of letter (first ∷ rest) =
    nat_le (length rest) 5 && list_all is_word_byte (first ∷ rest) && (if first == 45 then letter == 45 else true)

-- Each letter's word is one.
unfoldable pub are_words : (ℕ → Bool) → (ℕ → List ℕ) → Bool
are_words takes word = each_taken takes (λ letter. is_word_of letter (word letter))

-- Of two letters where the word of the second begins with that of the first, the test holds.
abbrev pub is_pair : (ℕ → List ℕ) → (ℕ → ℕ → Bool) → ℕ → ℕ → Bool
is_pair word same a b = if is_front (word a) (word b) then same a b else true

unfoldable pub each_pair : (ℕ → Bool) → (ℕ → List ℕ) → (ℕ → ℕ → Bool) → Bool
each_pair takes word same = each_taken takes (λ a. each_taken takes (is_pair word same a))

-- A word that begins with a word is as long as that.
abbrev pub are_prefix_free : (ℕ → Bool) → (ℕ → List ℕ) → Bool
are_prefix_free takes word = each_pair takes word (λ a b. length (word a) == length (word b))

-- A word that begins with a letter's word is that letter's.
abbrev pub are_apart : (ℕ → Bool) → (ℕ → List ℕ) → Bool
are_apart takes word = each_pair takes word (λ a b. a == b)
