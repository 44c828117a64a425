-- Pieces that grow at their end.
use Rattle.std.proofs.Common.{◌≡◌, ℕ, ◌+◌, List, [], ◌∷◌, ◌++◌, refl, sym, ap, subst, ◌∙◌, append_assoc, append-nil, arith}
use Rattle.lf_format.specs.declared.slot.Slot.{Slot as OneSlot}
use Rattle.lf_format.specs.declared.format.Piece.{Piece}
use Rattle.lf_format.specs.declared.format.Piece.TheVariants as piece
use Rattle.lf_spelling.specs.declared.item_reader.Given.{Given}
use Rattle.lf_spelling.specs.declared.item_reader.Given.TheVariants.{Nothing, Byte, Slot, Spaced, Braced}
use Rattle.lf_spelling.specs.declared.built.Built.{Built}
use Rattle.lf_spelling.specs.Pieces.{with_literal, pieces_of, slots_of}
use Rattle.lf_spelling.specs.Building.{with_open, literal_of, IsBuilt, Builds, IsClosed}

with_literal-append : (a b : List ℕ) (pieces : List Piece) → with_literal (a ++ b) pieces ≡ with_literal a (with_literal b pieces)
with_literal-append a b [] = refl
with_literal-append a b (piece.Literal more ∷ pieces) = ap (λ (t : List ℕ). piece.Literal t ∷ pieces) (append_assoc a b more)
with_literal-append a b (piece.Slot slot ∷ pieces) = refl

with_open-push : (grown : List ℕ) (b : ℕ) (pieces : List Piece) → with_open grown (with_literal (b ∷ []) pieces) ≡ with_open (grown ++ b ∷ []) pieces
with_open-push [] b pieces = refl
with_open-push (x ∷ grown) b pieces = sym (with_literal-append (x ∷ grown) (b ∷ []) pieces)

with_open-slot : (grown : List ℕ) (slot : OneSlot) (pieces : List Piece) → with_open grown (piece.Slot slot ∷ pieces) ≡ literal_of grown ++ piece.Slot slot ∷ pieces
with_open-slot [] slot pieces = refl
with_open-slot (x ∷ grown) slot pieces = refl

with_open-end : (grown : List ℕ) → with_open grown [] ≡ literal_of grown
with_open-end [] = refl
with_open-end (x ∷ grown) = refl

pub slots_of-append : (a b : List Given) → slots_of (a ++ b) ≡ slots_of a + slots_of b
slots_of-append [] b = omega arith
slots_of-append (Nothing ∷ a) b = slots_of-append a b
slots_of-append (Byte x ∷ a) b = slots_of-append a b
slots_of-append (Slot s ∷ a) b = omega (arith, slots_of-append a b)
slots_of-append (Spaced s ∷ a) b = omega (arith, slots_of-append a b)
slots_of-append (Braced s ∷ a) b = omega (arith, slots_of-append a b)

one_more : (given later : List Given) (one : Given) → (given ++ one ∷ []) ++ later ≡ given ++ one ∷ later
one_more given later one = append_assoc given (one ∷ []) later

pub built_nothing : (built : Built) (one : Given) → one ≡ Nothing → Builds one built built
built_nothing built one is = subst (λ (one : Given). Builds one built built) (sym is) (λ given h. record {
  all = λ later. ap pieces_of (one_more given later Nothing) ∙ h.all (Nothing ∷ later);
  slots = omega (arith, h.slots, slots_of-append given (Nothing ∷ []));
})

pub built_byte : (old new : Built) (b : ℕ) → new.done ≡ old.done → new.grown ≡ old.grown ++ b ∷ [] → new.slots ≡ old.slots → Builds (Byte b) old new
built_byte old new b same grown slots = λ given h. record {
  all = λ later. ap pieces_of (one_more given later (Byte b)) ∙ h.all (Byte b ∷ later) ∙ ap (λ (t : List Piece). old.done.items ++ t) (with_open-push old.grown b (pieces_of later) ∙ ap (λ (t : List ℕ). with_open t (pieces_of later)) (sym grown)) ∙ ap (λ d. d.items ++ with_open new.grown (pieces_of later)) (sym same);
  slots = omega (arith, h.slots, slots, slots_of-append given (Byte b ∷ []));
}

regroup : (done literal later : List Piece) (slot : Piece) → done ++ (literal ++ slot ∷ later) ≡ ((done ++ literal) ++ slot ∷ []) ++ later
regroup done literal later slot = sym (append_assoc (done ++ literal) (slot ∷ []) later ∙ append_assoc done literal (slot ∷ later))

pub built_slot : (old middle new : Built) (slot : OneSlot) → IsClosed old middle → new.done.items ≡ middle.done.items ++ piece.Slot slot ∷ [] → new.grown ≡ middle.grown → new.slots ≡ middle.slots + 1 → Builds (Slot slot) old new
built_slot old middle new slot closed grown same slots = λ given h. record {
  all = λ later.
      let whole : new.done.items ≡ (old.done.items ++ literal_of old.grown) ++ piece.Slot slot ∷ [] = grown ∙ ap (λ (t : List Piece). t ++ piece.Slot slot ∷ []) closed.done in
      ap pieces_of (one_more given later (Slot slot)) ∙ h.all (Slot slot ∷ later) ∙ ap (λ (t : List Piece). old.done.items ++ t) (with_open-slot old.grown slot (pieces_of later)) ∙ regroup old.done.items (literal_of old.grown) (pieces_of later) (piece.Slot slot) ∙ ap (λ (t : List Piece). t ++ pieces_of later) (sym whole) ∙ ap (λ (t : List ℕ). new.done.items ++ with_open t (pieces_of later)) (sym (same ∙ closed.none));
  slots = omega (arith, h.slots, slots, closed.slots, slots_of-append given (Slot slot ∷ []));
}

-- what stands before adds the same pieces to the same ones
behind : (given a b : List Given) → pieces_of a ≡ pieces_of b → pieces_of (given ++ a) ≡ pieces_of (given ++ b)
behind [] a b e = e
behind (Nothing ∷ given) a b e = behind given a b e
behind (Byte x ∷ given) a b e = ap (with_literal (x ∷ [])) (behind given a b e)
behind (Slot slot ∷ given) a b e = ap (λ (t : List Piece). piece.Slot slot ∷ t) (behind given a b e)
behind (Spaced slot ∷ given) a b e = ap (λ (t : List Piece). piece.Literal (32 ∷ []) ∷ piece.Slot slot ∷ t) (behind given a b e)
behind (Braced slot ∷ given) a b e = ap (λ (t : List Piece). piece.Literal (123 ∷ []) ∷ piece.Slot slot ∷ with_literal (125 ∷ []) t) (behind given a b e)

-- what gives the same as simpler parts is built as these are
built_parts : (given parts : List Given) (one : Given) (new : Built) → ((later : List Given) → pieces_of (one ∷ later) ≡ pieces_of (parts ++ later)) → slots_of (one ∷ []) ≡ slots_of parts → IsBuilt (given ++ parts) new → IsBuilt (given ++ one ∷ []) new
built_parts given parts one new same count h = record {
  all = λ later. ap pieces_of (one_more given later one) ∙ behind given (one ∷ later) (parts ++ later) (same later) ∙ ap pieces_of (sym (append_assoc given parts later)) ∙ h.all later;
  slots = h.slots ∙ slots_of-append given parts ∙ ap (λ (n : ℕ). slots_of given + n) (sym count) ∙ sym (slots_of-append given (one ∷ []));
}

pub built_spaced : (old middle new : Built) (slot : OneSlot) → Builds (Byte 32) old middle → Builds (Slot slot) middle new → Builds (Spaced slot) old new
built_spaced old middle new slot first second = λ given h.
    let whole : IsBuilt ((given ++ Byte 32 ∷ []) ++ Slot slot ∷ []) new = second (given ++ Byte 32 ∷ []) (first given h) in
    built_parts given (Byte 32 ∷ Slot slot ∷ []) (Spaced slot) new (λ later. refl) refl (subst (λ (gs : List Given). IsBuilt gs new) (append_assoc given (Byte 32 ∷ []) (Slot slot ∷ [])) whole)

pub built_braced : (old opened middle new : Built) (slot : OneSlot) → Builds (Byte 123) old opened → Builds (Slot slot) opened middle → Builds (Byte 125) middle new → Builds (Braced slot) old new
built_braced old opened middle new slot first second third = λ given h.
    let inner : IsBuilt ((given ++ Byte 123 ∷ []) ++ Slot slot ∷ []) middle = second (given ++ Byte 123 ∷ []) (first given h) in
    let whole : IsBuilt (((given ++ Byte 123 ∷ []) ++ Slot slot ∷ []) ++ Byte 125 ∷ []) new = third ((given ++ Byte 123 ∷ []) ++ Slot slot ∷ []) inner in
    let joined : ((given ++ Byte 123 ∷ []) ++ Slot slot ∷ []) ++ Byte 125 ∷ [] ≡ given ++ Byte 123 ∷ Slot slot ∷ Byte 125 ∷ [] =
    append_assoc (given ++ Byte 123 ∷ []) (Slot slot ∷ []) (Byte 125 ∷ []) ∙ append_assoc given (Byte 123 ∷ []) (Slot slot ∷ Byte 125 ∷ []) in
    built_parts given (Byte 123 ∷ Slot slot ∷ Byte 125 ∷ []) (Braced slot) new (λ later. refl) refl (subst (λ (gs : List Given). IsBuilt gs new) joined whole)

pub built_whole : (given : List Given) (old new : Built) → IsBuilt given old → IsClosed old new → new.done.items ≡ pieces_of given
built_whole given old new h closed = closed.done ∙ ap (λ (t : List Piece). old.done.items ++ t) (sym (with_open-end old.grown)) ∙ sym (h.all []) ∙ ap pieces_of (append-nil given)
