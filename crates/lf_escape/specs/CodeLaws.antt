-- What the codes keep: each passes the tests.
use Rattle.std.proofs.Common.{◌≡◌, ◌≢◌, ℕ, zero, suc, ◌<◌, ◌≤◌, ◌∙◌, inl, inr, List, [], ◌∷◌, ◌++◌, length, Bool, true, cond, nat_le, ◌==◌, ◌&&◌, refl, sym, ap, arith, All, length-append, append-nil}
use Rattle.std.proofs.lemmas.Bool.{eqb-true, leb-true, and_parts, cases_lt}
use Rattle.std.proofs.lemmas.Bool.Decides.{nat_tests}
use Rattle.std.proofs.lemmas.List.{nil_from_length}
use Rattle.std.proofs.lemmas.List.Elements.{All-nil, All-cons, All-contains}
use Rattle.std.specs.List.{list_all}
use Rattle.lf_escape.specs.Codes.{IsCode, AreWordsApart, byte_takes, line_takes}
use Rattle.lf_escape.specs.CodeTests.{each_below, each_taken, is_front, is_word_byte, is_word_of, is_pair, each_pair, are_words, are_prefix_free, are_apart}
use Rattle.lf_escape.specs.Plain.{raw_word, plus_word, doubled_word}
use Rattle.lf_escape.specs.Apache.{apache_word}
use Rattle.lf_escape.specs.Nginx.{nginx_word, json_word}
use Rattle.lf_escape.specs.HaProxy.{hash_word, capture_word, escape_word}

-- What the tests say.
below-at : (test : ℕ → Bool) (n a : ℕ) → each_below test n ≡ true → a < n → test a ≡ true
unfolding each_below
below-at test zero a h lt = absurd (omega arith)
below-at test (suc n) a h lt =
    let p = and_parts (test n) (each_below test n) h in
    elim (cases_lt a n) [
      | inl less ↦ below-at test n a p.1 less
      | inr more ↦ (let e : n ≡ a = omega arith in rw e at p.0)
    ]

taken-at : (takes test : ℕ → Bool) (a : ℕ) → each_taken takes test ≡ true → a < 256 → takes a ≡ true → test a ≡ true
unfolding each_taken
taken-at takes test a h small is = rw is at (below-at (λ b. cond (takes b) (test b) true) 256 a h small)

front-append : (front rest : List ℕ) → is_front front (front ++ rest) ≡ true
unfolding is_front
front-append [] rest = refl
front-append (x ∷ front) rest =
    let same : (x == x) ≡ true = grind (arith, nat_tests) in rw same (front-append front rest)

abbrev IsWordByte : ℕ → Type 0
IsWordByte byte = is_word_byte byte ≡ true

abbrev NoFeed : ℕ → Type 0
NoFeed byte = byte ≢ 10

all-word_bytes : (word : List ℕ) → list_all is_word_byte word ≡ true → All IsWordByte word
all-word_bytes [] h = All-nil IsWordByte
all-word_bytes (x ∷ rest) h =
    let p = and_parts (is_word_byte x) (list_all is_word_byte rest) h in
    All-cons IsWordByte x rest p.0 (all-word_bytes rest p.1)

word_byte-small : (byte : ℕ) → IsWordByte byte → byte < 256
word_byte-small byte h = grind (arith, nat_tests)

word_byte-no_feed : (byte : ℕ) → IsWordByte byte → NoFeed byte
word_byte-no_feed byte h = grind (arith, nat_tests)

-- What one word keeps.
record IsWordOf (letter : ℕ) (word : List ℕ) : Type 0 where
  least : 1 ≤ length word
  most : length word ≤ 6
  bytes : All IsWordByte word
  dash_alone : (rest : List ℕ) → word ≡ 45 ∷ rest → letter ≡ 45

only-dash : (letter first : ℕ) → first ≡ 45 → cond (first == 45) (letter == 45) true ≡ true → letter ≡ 45
only-dash letter first e h = grind (arith, nat_tests)

word-at : (letter : ℕ) (word : List ℕ) → is_word_of letter word ≡ true → IsWordOf letter word
word-at letter [] h = cc
word-at letter (first ∷ rest) h =
    let bytes = list_all is_word_byte (first ∷ rest) in
    let short = nat_le (length rest) 5 in
    let p = and_parts (short && bytes) (cond (first == 45) (letter == 45) true) h in
    let q = and_parts short bytes p.0 in
    let few : length rest ≤ 5 = leb-true (length rest) 5 q.0 in
    record {
      least = omega arith;
      most = omega arith;
      bytes = all-word_bytes (first ∷ rest) q.1;
      dash_alone = λ more e. let is : first ≡ 45 = cc in only-dash letter first is p.1;
    }

-- A code whose words tell their letters.
pub record IsApartCode (takes : ℕ → Bool) (word : ℕ → List ℕ) : Type 0 where
  pub laws : IsCode takes word
  pub apart : AreWordsApart takes word

-- What a code keeps that takes bytes and passes the tests.
module _ (takes : ℕ → Bool) (word : ℕ → List ℕ) (small : (a : ℕ) → takes a ≡ true → a < 256) where
  words-at : are_words takes word ≡ true → (a : ℕ) → takes a ≡ true → IsWordOf a (word a)
  unfolding are_words
  words-at test a h = word-at a (word a) (taken-at takes (λ x. is_word_of x (word x)) a test (small a h) h)

  -- What the test of each two says of two letters, where the word of one begins with the other's.
  pair-at : (same : ℕ → ℕ → Bool) (a b : ℕ) (rest : List ℕ) → each_pair takes word same ≡ true → takes a ≡ true →
      takes b ≡ true → word b ≡ word a ++ rest → same a b ≡ true
  unfolding each_pair
  pair-at same a b rest test h g e =
      let row = taken-at takes (λ x. each_taken takes (is_pair word same x)) a test (small a h) h in
      let cell = taken-at takes (is_pair word same a) b row (small b g) g in
      rw (e, front-append (word a) rest) at cell

  code_of_tests : (same : ℕ → ℕ → Bool) → ((a b : ℕ) → same a b ≡ true → length (word a) ≡ length (word b)) →
      word 45 ≡ 45 ∷ [] → are_words takes word ≡ true → each_pair takes word same ≡ true → IsCode takes word
  code_of_tests same long dash words pairs = record {
    bytes = small;
    least = λ a h. (words-at words a h).least;
    most = λ a h. (words-at words a h).most;
    prefix_free = λ a b rest h g e.
        let equal = long a b (pair-at same a b rest pairs h g e) in
        let sum = length-append (word a) rest in
        let total = ap length e in
        nil_from_length rest (omega arith);
    no_feed = λ a h found.
        All-contains NoFeed (word a) 10 (λ k d less. word_byte-no_feed _ ((words-at words a h).bytes k d less)) found refl;
    dash = λ h. dash;
    dash_alone = λ a rest h e. (words-at words a h).dash_alone rest e;
    word_bytes = λ a h. λ k d less. word_byte-small _ ((words-at words a h).bytes k d less);
  }

  code_of_lengths : word 45 ≡ 45 ∷ [] → are_words takes word ≡ true → are_prefix_free takes word ≡ true → IsCode takes word
  code_of_lengths =
      code_of_tests (λ a b. length (word a) == length (word b)) (λ a b h. eqb-true (length (word a)) (length (word b)) h)

  code_of_letters : word 45 ≡ 45 ∷ [] → are_words takes word ≡ true → are_apart takes word ≡ true → IsApartCode takes word
  code_of_letters dash words pairs = record {
    laws = code_of_tests (λ a b. a == b) (λ a b h. ap (λ c. length (word c)) (eqb-true a b h)) dash words pairs;
    apart = λ a b h g e.
        eqb-true a b (pair-at (λ x y. x == y) a b [] pairs h g (sym e ∙ sym (append-nil (word a))));
  }

byte-small : (a : ℕ) → byte_takes a ≡ true → a < 256
byte-small a h = grind (arith, nat_tests)

line-small : (a : ℕ) → line_takes a ≡ true → a < 256
line-small a h = grind (arith, nat_tests)

-- Each code.
pub raw_code : IsApartCode line_takes raw_word
unfolding each_below each_taken is_front each_pair are_words
raw_code = code_of_letters line_takes raw_word line-small refl refl refl

pub plus_code : IsCode line_takes plus_word
unfolding each_below each_taken is_front each_pair are_words
plus_code = code_of_lengths line_takes plus_word line-small refl refl refl

pub doubled_code : IsApartCode line_takes doubled_word
unfolding each_below each_taken is_front each_pair are_words
doubled_code = code_of_letters line_takes doubled_word line-small refl refl refl

pub apache_code : IsApartCode byte_takes apache_word
unfolding each_below each_taken is_front each_pair are_words
apache_code = code_of_letters byte_takes apache_word byte-small refl refl refl

pub nginx_code : IsApartCode byte_takes nginx_word
unfolding each_below each_taken is_front each_pair are_words
nginx_code = code_of_letters byte_takes nginx_word byte-small refl refl refl

pub json_code : IsApartCode byte_takes json_word
unfolding each_below each_taken is_front each_pair are_words
json_code = code_of_letters byte_takes json_word byte-small refl refl refl

pub hash_code : IsApartCode byte_takes hash_word
unfolding each_below each_taken is_front each_pair are_words
hash_code = code_of_letters byte_takes hash_word byte-small refl refl refl

pub capture_code : IsApartCode byte_takes capture_word
unfolding each_below each_taken is_front each_pair are_words
capture_code = code_of_letters byte_takes capture_word byte-small refl refl refl

pub escape_code : IsApartCode line_takes escape_word
unfolding each_below each_taken is_front each_pair are_words
escape_code = code_of_letters line_takes escape_word line-small refl refl refl
