-- What a code is: a word of bytes for each letter that it takes.
use Rattle.std.specs.Prelude.{◌≡◌, ℕ, ◌<◌, ◌≤◌, List, [], ◌∷◌, ◌++◌, length, Bool, true, false, nat_lt, ◌==◌, ◌&&◌, not, All, Contains}

-- What each code keeps.
pub record IsCode (takes : ℕ → Bool) (word : ℕ → List ℕ) : Type 0 where
  -- letters are bytes
  pub bytes : (letter : ℕ) → takes letter ≡ true → letter < 256
  -- a word has one to six bytes
  pub least : (letter : ℕ) → takes letter ≡ true → 1 ≤ length (word letter)
  pub most : (letter : ℕ) → takes letter ≡ true → length (word letter) ≤ 6
  -- no word is a proper prefix of another
  pub prefix_free : (a b : ℕ) (rest : List ℕ) → takes a ≡ true → takes b ≡ true → word b ≡ word a ++ rest → rest ≡ []
  -- no word holds a line feed
  pub no_feed : (letter : ℕ) → takes letter ≡ true → Contains (word letter) 10 → ⊥
  -- the dash's word is the dash alone, and no other word begins with a dash
  pub dash : takes 45 ≡ true → word 45 ≡ 45 ∷ []
  pub dash_alone : (letter : ℕ) (rest : List ℕ) → takes letter ≡ true → word letter ≡ 45 ∷ rest → letter ≡ 45
  -- words are bytes
  pub word_bytes : (letter : ℕ) → takes letter ≡ true → All (λ byte. byte < 256) (word letter)

-- Two letters that are taken and have one word are one letter.
abbrev pub AreWordsApart : (ℕ → Bool) → (ℕ → List ℕ) → Type 0
AreWordsApart takes word = (a b : ℕ) → takes a ≡ true → takes b ≡ true → word a ≡ word b → a ≡ b

-- The words of the letters, joined.
abbrev pub coded : (ℕ → List ℕ) → List ℕ → List ℕ
coded word [] = []
coded word (letter ∷ letters) = word letter ++ coded word letters

-- The word is the letter alone.
abbrev pub is_alone : ℕ → List ℕ → Bool
is_alone letter [] = false
is_alone letter (byte ∷ []) = byte == letter
is_alone letter (byte ∷ more ∷ rest) = false

-- The letter is its own word.
abbrev pub is_bare : (ℕ → List ℕ) → ℕ → Bool
is_bare word letter = is_alone letter (word letter)

-- Every byte.
abbrev pub byte_takes : ℕ → Bool
byte_takes letter = nat_lt letter 256

-- Every byte but the line feed.
abbrev pub line_takes : ℕ → Bool
line_takes letter = nat_lt letter 256 && not (letter == 10)
