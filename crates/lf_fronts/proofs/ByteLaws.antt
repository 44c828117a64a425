-- The literals of a format that a text spells are made of bytes.
use Rattle.std.proofs.Common.{◌≡◌, ℕ, ◌+◌, ◌/◌, ◌%◌, ◌≤◌, ◌<◌, Bool, true, false, ◌&&◌, cond, List, [], ◌∷◌, ◌++◌, length, take, drop, refl, sym, ◌∙◌, ap, subst, arith, inl, inr}
use Rattle.std.specs.List.{list_all}
use Rattle.std.specs.Str.{IsUtf8}
use Rattle.std.proofs.Math.Utf8.{encode, encodes, scalar, scalars, scalar_cases}
use Rattle.std.proofs.lemmas.Bool.{lt-ltb, ltb-true}
use Rattle.std.proofs.lemmas.List.{take-append-drop}
use Rattle.std.specs.Prelude.{ltb}
use Rattle.lf_format.specs.declared.format.Piece.{Piece}
use Rattle.lf_format.specs.declared.format.Piece.TheVariants as piece
use Rattle.lf_spelling.specs.declared.item_reader.Given.{Given}
use Rattle.lf_spelling.specs.declared.item_reader.Given.TheVariants.{Nothing, Byte, Slot, Spaced, Braced}
use Rattle.lf_spelling.specs.Items.{Item, text_of, given_of, Stand}
use Rattle.lf_spelling.specs.Pieces.{with_literal, pieces_of}
use Rattle.lf_spelling.specs.Spelling.{SpellsPieces}
use Rattle.lf_fronts.specs.Keeps.{is_byte, AreOfBytes}

abbrev pub AreBytes : List ℕ → Type 0
AreBytes text = list_all is_byte text ≡ true

pub and_left : (a b : Bool) → (a && b) ≡ true → a ≡ true
and_left true b e = refl
and_left false b e = absurd (cc)

and_right : (a b : Bool) → (a && b) ≡ true → b ≡ true
and_right true b e = e
and_right false b e = absurd (cc)

and_both : (a b : Bool) → a ≡ true → b ≡ true → (a && b) ≡ true
and_both a b h k = rw h k

bytes_join : (front back : List ℕ) → AreBytes front → AreBytes back → AreBytes (front ++ back)
bytes_join [] back h k = k
bytes_join (b ∷ front) back h k = and_both (is_byte b) (list_all is_byte (front ++ back)) (and_left (is_byte b) (list_all is_byte front) h) (bytes_join front back (and_right (is_byte b) (list_all is_byte front) h) k)

bytes_front : (front back : List ℕ) → AreBytes (front ++ back) → AreBytes front
bytes_front [] back h = refl
bytes_front (b ∷ front) back h = and_both (is_byte b) (list_all is_byte front) (and_left (is_byte b) (list_all is_byte (front ++ back)) h) (bytes_front front back (and_right (is_byte b) (list_all is_byte (front ++ back)) h))

bytes_back : (front back : List ℕ) → AreBytes (front ++ back) → AreBytes back
bytes_back [] back h = h
bytes_back (b ∷ front) back h = bytes_back front back (and_right (is_byte b) (list_all is_byte (front ++ back)) h)

pub bytes_take : (n : ℕ) (text : List ℕ) → AreBytes text → AreBytes (take n text)
bytes_take n text h = bytes_front (take n text) (drop n text) (subst AreBytes (sym (take-append-drop n text)) h)

-- ---- the bytes of a text

bytes_one : (b : ℕ) (rest : List ℕ) → b < 256 → AreBytes rest → AreBytes (b ∷ rest)
bytes_one b rest small h = and_both (is_byte b) (list_all is_byte rest) (lt-ltb b 256 small) h

by_test : (t : Bool) (xs ys : List ℕ) → (t ≡ true → AreBytes xs) → (t ≡ false → AreBytes ys) → AreBytes (cond t xs ys)
by_test true xs ys h k = h refl
by_test false xs ys h k = k refl

scalar_small : (c : ℕ) → scalar c ≡ true → c < 1114112
scalar_small c is = elim (scalar_cases c is) [ inl low ↦ omega (arith, low) | inr high ↦ high.1 ]

next_small : (n : ℕ) → 128 + n % 64 < 256
next_small n = omega arith

encode_bytes : (c : ℕ) → scalar c ≡ true → AreBytes (encode c)
unfolding encode
encode_bytes c is =
    let small = scalar_small c is in
    let last = 128 + c % 64 in
    let third = 128 + (c / 64) % 64 in
    let second = 128 + (c / 4096) % 64 in
    let one = bytes_one last [] (next_small c) refl in
    let two = bytes_one third (last ∷ []) (next_small (c / 64)) one in
    let three = bytes_one second (third ∷ last ∷ []) (next_small (c / 4096)) two in
    by_test (ltb c 128) (c ∷ []) _ (λ t. let low = ltb-true c 128 t in bytes_one c [] (omega (arith, low)) refl) (λ f.
    by_test (ltb c 2048) ((192 + c / 64) ∷ last ∷ []) _ (λ t. let low = ltb-true c 2048 t in bytes_one (192 + c / 64) (last ∷ []) (omega (arith, low)) one) (λ g.
    by_test (ltb c 65536) ((224 + c / 4096) ∷ third ∷ last ∷ []) _ (λ t. let low = ltb-true c 65536 t in bytes_one (224 + c / 4096) (third ∷ last ∷ []) (omega (arith, low)) two)
    (λ e. bytes_one (240 + c / 262144) (second ∷ third ∷ last ∷ []) (omega (arith, small)) three)))

encodes_bytes : (cs : List ℕ) → scalars cs ≡ true → AreBytes (encodes cs)
encodes_bytes [] is = refl
encodes_bytes (c ∷ cs) is = bytes_join (encode c) (encodes cs) (encode_bytes c (and_left (scalar c) (scalars cs) is)) (encodes_bytes cs (and_right (scalar c) (scalars cs) is))

pub text_bytes : (text : List ℕ) → IsUtf8 text → AreBytes text
text_bytes text is = subst AreBytes is.1.1 (encodes_bytes is.0 is.1.0)

-- ---- the literals of what items give

-- whether a literal byte that is given is a byte
abbrev pub gives_byte : Given → Bool
gives_byte Nothing = true
gives_byte (Byte b) = is_byte b
gives_byte (Slot slot) = true
gives_byte (Spaced slot) = true
gives_byte (Braced slot) = true

with_bytes : (text : List ℕ) (pieces : List Piece) → AreBytes text → AreOfBytes pieces → AreOfBytes (with_literal text pieces)
with_bytes text [] h k = (h, tt)
with_bytes text (piece.Literal more ∷ pieces) h k = (bytes_join text more h k.0, k.1)
with_bytes text (piece.Slot slot ∷ pieces) h k = (h, k)

pieces_bytes : (given : List Given) → list_all gives_byte given ≡ true → AreOfBytes (pieces_of given)
pieces_bytes [] h = tt
pieces_bytes (Nothing ∷ given) h = pieces_bytes given h
pieces_bytes (Byte b ∷ given) h = with_bytes (b ∷ []) (pieces_of given) (and_both (is_byte b) true (and_left (is_byte b) (list_all gives_byte given) h) refl) (pieces_bytes given (and_right (is_byte b) (list_all gives_byte given) h))
pieces_bytes (Slot slot ∷ given) h = pieces_bytes given h
pieces_bytes (Spaced slot ∷ given) h = (refl, pieces_bytes given h)
pieces_bytes (Braced slot ∷ given) h = (refl, with_bytes (125 ∷ []) (pieces_of given) refl (pieces_bytes given h))

module _ {S : Type 0} (item_is : S → Item S → List ℕ → Type 0) (item_gives : (state : S) (item : Item S) (after : List ℕ) → item_is state item after → AreBytes item.bytes → gives_byte item.given ≡ true) where
  stand_bytes : (state : S) (items : List (Item S)) (rest : List ℕ) → Stand item_is state items rest → AreBytes (text_of items) → list_all gives_byte (given_of items) ≡ true
  stand_bytes state [] rest h all = refl
  stand_bytes state (item ∷ items) rest h all =
      and_both (gives_byte item.given) (list_all gives_byte (given_of items))
      (item_gives state item (text_of items ++ rest) h.0 (bytes_front item.bytes (text_of items) all))
      (stand_bytes item.state items rest h.1 (bytes_back item.bytes (text_of items) all))

  -- The literals of what a text of bytes spells are made of bytes.
  pub spelled_bytes : (start : S) (text : List ℕ) (pieces : List Piece) → AreBytes text → SpellsPieces item_is start text pieces → AreOfBytes pieces
  spelled_bytes start text pieces all h =
      subst AreOfBytes (sym h.pieces_are) (pieces_bytes (given_of h.items) (stand_bytes start h.items [] h.whole.stand (bytes_front (text_of h.items) [] (subst AreBytes h.whole.parts all))))
