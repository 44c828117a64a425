-- The pieces of good items make a good format.
use Rattle.std.proofs.Common.{◌≡◌, ℕ, ◌+◌, ◌≤◌, Bool, true, ◌&&◌, List, [], ◌∷◌, ◌++◌, length, refl, sym, ap, subst, ◌∙◌, length-append, arith}
use Rattle.std.specs.List.{list_all}
use Rattle.lf_format.specs.declared.format.Piece.{Piece}
use Rattle.lf_format.specs.declared.format.Piece.TheVariants as piece
use Rattle.lf_spelling.specs.declared.fault.Cause.{Cause}
use Rattle.lf_spelling.specs.declared.item_reader.Given.{Given}
use Rattle.lf_spelling.specs.declared.item_reader.Given.TheVariants.{Nothing, Byte, Slot, Spaced, Braced}
use Rattle.lf_spelling.specs.Pieces.{with_literal, pieces_of, slots_of}
use Rattle.lf_spelling.specs.Items.{Item, Reading, text_of, given_of, Stand}
use Rattle.lf_format.specs.Keeps.{is_no_feed, EachKept, AreJoined, slots_in, literal_bytes, KeepsFormat}
use Rattle.lf_spelling.specs.Spelling.{SpellsPieces}
use Rattle.lf_spelling.specs.ItemReaders.{KeepsGiven, given_bytes, ReadsItems}

AllGiven : List Given → Type 0
AllGiven [] = Unit {0}
AllGiven (one ∷ given) = KeepsGiven one × AllGiven given

-- how many literal bytes are given
all_bytes : List Given → ℕ
all_bytes [] = 0
all_bytes (one ∷ given) = given_bytes one + all_bytes given

and_both : (a b : Bool) → a ≡ true → b ≡ true → (a && b) ≡ true
and_both a b h k = rw h k

each_with : (b : ℕ) (pieces : List Piece) → is_no_feed b ≡ true → EachKept pieces → EachKept (with_literal (b ∷ []) pieces)
each_with b [] h each = ((omega arith, and_both (is_no_feed b) true h refl), tt)
each_with b (piece.Literal more ∷ pieces) h each = ((omega arith, and_both (is_no_feed b) (list_all is_no_feed more) h each.0.1), each.1)
each_with b (piece.Slot slot ∷ pieces) h each = ((omega arith, and_both (is_no_feed b) true h refl), each)

joined_with : (text : List ℕ) (pieces : List Piece) → AreJoined pieces → AreJoined (with_literal text pieces)
joined_with text [] h = tt
joined_with text (piece.Literal more ∷ []) h = tt
joined_with text (piece.Literal more ∷ piece.Literal other ∷ pieces) h = h
joined_with text (piece.Literal more ∷ piece.Slot slot ∷ pieces) h = h
joined_with text (piece.Slot slot ∷ pieces) h = h

slots_with : (text : List ℕ) (pieces : List Piece) → slots_in (with_literal text pieces) ≡ slots_in pieces
slots_with text [] = refl
slots_with text (piece.Literal more ∷ pieces) = refl
slots_with text (piece.Slot slot ∷ pieces) = refl

bytes_with : (text : List ℕ) (pieces : List Piece) → literal_bytes (with_literal text pieces) ≡ length text + literal_bytes pieces
bytes_with text [] = refl
bytes_with text (piece.Literal more ∷ pieces) = omega (arith, length-append text more)
bytes_with text (piece.Slot slot ∷ pieces) = refl

each_of : (given : List Given) → AllGiven given → EachKept (pieces_of given)
unfolding AllGiven
each_of [] h = tt
each_of (Nothing ∷ given) h = each_of given h.1
each_of (Byte b ∷ given) h = each_with b (pieces_of given) h.0 (each_of given h.1)
each_of (Slot slot ∷ given) h = (h.0, each_of given h.1)
each_of (Spaced slot ∷ given) h = ((omega arith, refl), (h.0, each_of given h.1))
each_of (Braced slot ∷ given) h = ((omega arith, refl), (h.0, each_with 125 (pieces_of given) refl (each_of given h.1)))

joined_of : (given : List Given) → AreJoined (pieces_of given)
joined_of [] = tt
joined_of (Nothing ∷ given) = joined_of given
joined_of (Byte b ∷ given) = joined_with (b ∷ []) (pieces_of given) (joined_of given)
joined_of (Slot slot ∷ given) = joined_of given
joined_of (Spaced slot ∷ given) = joined_of given
joined_of (Braced slot ∷ given) = joined_with (125 ∷ []) (pieces_of given) (joined_of given)

slots_in_of : (given : List Given) → length (slots_in (pieces_of given)) ≡ slots_of given
slots_in_of [] = refl
slots_in_of (Nothing ∷ given) = slots_in_of given
slots_in_of (Byte b ∷ given) = ap length (slots_with (b ∷ []) (pieces_of given)) ∙ slots_in_of given
slots_in_of (Slot slot ∷ given) = omega (arith, slots_in_of given)
slots_in_of (Spaced slot ∷ given) = omega (arith, slots_in_of given)
slots_in_of (Braced slot ∷ given) = omega (arith, ap length (slots_with (125 ∷ []) (pieces_of given)), slots_in_of given)

bytes_of : (given : List Given) → literal_bytes (pieces_of given) ≡ all_bytes given
unfolding all_bytes
bytes_of [] = refl
bytes_of (Nothing ∷ given) = omega (arith, bytes_of given)
bytes_of (Byte b ∷ given) = omega (arith, bytes_with (b ∷ []) (pieces_of given), bytes_of given)
bytes_of (Slot slot ∷ given) = omega (arith, bytes_of given)
bytes_of (Spaced slot ∷ given) = omega (arith, bytes_of given)
bytes_of (Braced slot ∷ given) = omega (arith, bytes_with (125 ∷ []) (pieces_of given), bytes_of given)

module _ {S : Type 0} (reading : S → List ℕ → Reading S) (item_is : S → Item S → List ℕ → Type 0) (fault_is : S → List ℕ → Cause → Type 0) (laws : ReadsItems reading item_is fault_is) where
  all_given : (state : S) (items : List (Item S)) (rest : List ℕ) → Stand item_is state items rest → AllGiven (given_of items)
  unfolding AllGiven
  all_given state [] rest h = tt
  all_given state (item ∷ items) rest h = ((laws.keeps state item (text_of items ++ rest) h.0).good, all_given item.state items rest h.1)

  all_short : (state : S) (items : List (Item S)) (rest : List ℕ) → Stand item_is state items rest → all_bytes (given_of items) ≤ length (text_of items)
  unfolding all_bytes
  all_short state [] rest h = omega arith
  all_short state (item ∷ items) rest h =
      omega (arith, (laws.keeps state item (text_of items ++ rest) h.0).short, all_short item.state items rest h.1, length-append item.bytes (text_of items))

  -- What a text of at most 1,048,576 bytes spells is a format.
  pub keeps_format : (start : S) (text : List ℕ) (pieces : List Piece) → length text ≤ 1048576 → SpellsPieces item_is start text pieces → KeepsFormat pieces
  keeps_format start text pieces short h =
      let given = given_of h.items in
      record {
        each = subst EachKept (sym h.pieces_are) (each_of (given_of h.items) (all_given start h.items [] h.whole.stand));
        joined = subst AreJoined (sym h.pieces_are) (joined_of (given_of h.items));
        some = h.some;
        few = omega (arith, h.whole.few, slots_in_of (given_of h.items), ap (λ (ps : List Piece). length (slots_in ps)) h.pieces_are);
        short = omega (arith, short, all_short start h.items [] h.whole.stand, bytes_of (given_of h.items), ap literal_bytes h.pieces_are, ap length h.whole.parts, length-append (text_of h.items) []);
      }
