-- A side gives one format or is refused for one thing, and what it gives keeps what a format keeps.
use Rattle.std.proofs.Common.{◌≡◌, ℕ, ◌+◌, ◌≤◌, Bool, true, false, ◌&&◌, ◌⊎◌, inl, inr, Option, None, Some, List, [], ◌∷◌, length, refl, sym, ap, subst, ◌∙◌}
use Rattle.std.specs.Prelude.{All, Result, Ok, Err}
use Rattle.std.specs.List.{list_all}
use Rattle.std.specs.Str.{IsUtf8}
use Rattle.std.proofs.lemmas.Bool.{ltb-true}
use Rattle.std.proofs.lemmas.List.Elements.{All-nil, All-cons}
use Rattle.lf_syntax.specs.Cuts.{cuts}
use Rattle.lf_format.specs.Shape.{Shape}
use Rattle.lf_format.specs.Two.{pieces_with_two, with_two}
use Rattle.lf_format.specs.Keeps.{EachKept, KeepsFormat}
use Rattle.lf_format.specs.declared.format.Piece.{Piece}
use Rattle.lf_format.specs.declared.format.Piece.TheVariants as piece
use Rattle.lf_fronts.specs.Fronts.{Spells, HasOneAnswer}
use Rattle.lf_fronts.specs.Keeps.{is_byte, AreOfBytes, IsFormat}
use Rattle.lf_limits.specs.Limits.{most_text_bytes}
use Rattle.lf_machine.specs.LineBytes.{IsByte, LiteralsAreBytes}
use Rattle.lf_narrow.specs.Terms.{term_of}
use Rattle.lf_narrow.specs.Effects.{narrowed_slot}
use Rattle.lf_narrow.specs.Narrowed.{Effect, pieces_after, Narrows, NarrowsTo, IsFaulty as IsFaultyNarrowing, IsSo, HasOneAnswer as HasOneNarrowing}
use Rattle.lf_narrow.specs.declared.fault.NarrowFault.{NarrowFault}
use Rattle.lf_narrow.specs.declared.fault.NarrowFault.TheVariants as fault
use Rattle.lf_spelling.specs.declared.fault.Cause.{Cause}
use Rattle.lf_words.specs.declared.command.Front.{Front}
use Rattle.lf_words.specs.declared.command.Side.{Side}
use Rattle.lf_words.specs.Command.{IsWord}
use Rattle.lf_app.specs.declared.commands.Refusal.{Refusal}
use Rattle.lf_app.specs.declared.commands.WhichSide.{WhichSide}
use Rattle.lf_app.specs.declared.commands.Refusal.TheVariants.{BadFormat, BadNarrowing}
use Rattle.lf_app.specs.declared.sides.SideFault.{SideFault}
use Rattle.lf_app.specs.declared.sides.SideFault.TheVariants as side_faults
use Rattle.lf_app.specs.Sides.{dash_apart, Leaves, HasFault, Gives, IsFaultySide, misspelled, misnarrowed, side_fault_of, IsSideFault, IsNarrowingFault}
use Rattle.lf_app.specs.Progress.{CanTell}

abbrev pub SpellsOne : Type 0
SpellsOne = (front : Front) (text : List ℕ) → HasOneAnswer front text

abbrev pub NarrowsOne : Type 0
NarrowsOne = (format : Shape) (text : List ℕ) → HasOneNarrowing format text

-- Each side gives one format, or it is refused for one thing.
pub record HasOneSide (which : WhichSide) (two : Bool) (side : Side) : Type 0 where
  pub some : ((format : Shape) × Gives two side format) ⊎ ((refusal : Refusal) × IsFaultySide which two side refusal)
  pub one_format : (a b : Shape) → Gives two side a → Gives two side b → a ≡ b
  pub one_refusal : (a b : Refusal) → IsFaultySide which two side a → IsFaultySide which two side b → a ≡ b
  pub not_both : (format : Shape) (refusal : Refusal) → Gives two side format → IsFaultySide which two side refusal → ⊥

module _ (narrowings : NarrowsOne) (spelled : Shape) where
  left_one : (narrow : Option (List ℕ)) (a b : Shape) → Leaves narrow spelled a → Leaves narrow spelled b → a ≡ b
  left_one None a b p q = p ∙ sym q
  left_one (Some text) a b p q = (narrowings spelled text).one_format a b p q

  fault_one : (narrow : Option (List ℕ)) (f g : NarrowFault) → HasFault narrow spelled f → HasFault narrow spelled g → f ≡ g
  fault_one None f g p q = absurd p
  fault_one (Some text) f g p q = (narrowings spelled text).one_fault f g p q

  left_or_fault : (narrow : Option (List ℕ)) (a : Shape) (f : NarrowFault) → Leaves narrow spelled a → HasFault narrow spelled f → ⊥
  left_or_fault None a f p q = q
  left_or_fault (Some text) a f p q = (narrowings spelled text).not_both a f p q

  some_left : (narrow : Option (List ℕ)) → ((format : Shape) × Leaves narrow spelled format) ⊎ ((fault : NarrowFault) × HasFault narrow spelled fault)
  some_left None = inl (spelled, refl)
  some_left (Some text) = (narrowings spelled text).some

module _ (fronts : SpellsOne) (narrowings : NarrowsOne) (which : WhichSide) (two : Bool) (side : Side) where
  same_spelled : (a b : Shape) → Spells side.front side.format a → Spells side.front side.format b → a ≡ b
  same_spelled a b p q = (fronts side.front side.format).one_format a b p q

  gives_one : (a b : Shape) → Gives two side a → Gives two side b → a ≡ b
  gives_one a b p q =
      let same = same_spelled p.spelled q.spelled p.spells q.spells in
      left_one narrowings (dash_apart two q.spelled) side.narrow a b (subst (λ (x : Shape). Leaves side.narrow (dash_apart two x) a) same p.left) q.left

  refusal_one : (a b : Refusal) → IsFaultySide which two side a → IsFaultySide which two side b → a ≡ b
  refusal_one a b (misspelled p x f e) (misspelled q y g d) =
      let same = (fronts side.front side.format).one_fault p q x y f g in
      e ∙ ap (λ (n : ℕ). BadFormat which n x) same.0 ∙ ap (λ (z : Cause). BadFormat which q z) same.1 ∙ sym d
  refusal_one a b (misspelled p x f e) (misnarrowed s n h g d) = absurd ((fronts side.front side.format).not_both s p x h f)
  refusal_one a b (misnarrowed s n h g d) (misspelled p x f e) = absurd ((fronts side.front side.format).not_both s p x h f)
  refusal_one a b (misnarrowed s n h g d) (misnarrowed t m k i e) =
      let same = same_spelled s t h k in
      let one = fault_one narrowings (dash_apart two t) side.narrow n m (subst (λ (x : Shape). HasFault side.narrow (dash_apart two x) n) same g) i in
      d ∙ ap (λ (f : NarrowFault). BadNarrowing which f) one ∙ sym e

  not_refused : (format : Shape) (refusal : Refusal) → Gives two side format → IsFaultySide which two side refusal → ⊥
  not_refused format refusal g (misspelled p x f e) = (fronts side.front side.format).not_both g.spelled p x g.spells f
  not_refused format refusal g (misnarrowed s n h i e) =
      let same = same_spelled s g.spelled h g.spells in
      left_or_fault narrowings (dash_apart two g.spelled) side.narrow format n g.left (subst (λ (x : Shape). HasFault side.narrow (dash_apart two x) n) same i)

  some_side : ((format : Shape) × Gives two side format) ⊎ ((refusal : Refusal) × IsFaultySide which two side refusal)
  some_side = elim (fronts side.front side.format).some [
    | inr fault ↦ inr (BadFormat which fault.0 fault.1, misspelled fault.0 fault.1 fault.2 refl)
    | inl spelled ↦ elim (some_left narrowings (dash_apart two spelled.0) side.narrow) [
      | inl left ↦ inl (left.0, record { spelled = spelled.0; spells = spelled.1; left = left.1 })
      | inr fault ↦ inr (BadNarrowing which fault.0, misnarrowed spelled.0 fault.0 spelled.1 fault.1 refl)
    ]
  ]

  pub one_side : HasOneSide which two side
  one_side = record { some = some_side; one_format = gives_one; one_refusal = refusal_one; not_both = not_refused }

-- What a side is refused for can be told.
pub side_tells : (which : WhichSide) (two : Bool) (side : Side) (refusal : Refusal) → IsFaultySide which two side refusal → CanTell refusal
side_tells which two side refusal (misspelled p x f e) = subst CanTell (sym e) tt
side_tells which two side refusal (misnarrowed s n h g e) = subst CanTell (sym e) tt

-- A narrowing's fault is told as that of the narrowing that is given.
pub narrowing_fault : (which : WhichSide) (narrow : Option (List ℕ)) (spelled : Shape) (text : List ℕ) (f : NarrowFault) → narrow ≡ Some text → IsSo (IsFaultyNarrowing spelled text) f → IsNarrowingFault which narrow spelled (side_fault_of which f)
narrowing_fault which narrow spelled text (fault.Syntax n) e h = (fault.Syntax n, subst (λ (o : Option (List ℕ)). HasFault o spelled (fault.Syntax n)) (sym e) h, refl)
narrowing_fault which narrow spelled text (fault.NoSlot n) e h = (fault.NoSlot n, subst (λ (o : Option (List ℕ)). HasFault o spelled (fault.NoSlot n)) (sym e) h, refl)
narrowing_fault which narrow spelled text (fault.WrongKind n) e h = (fault.WrongKind n, subst (λ (o : Option (List ℕ)). HasFault o spelled (fault.WrongKind n)) (sym e) h, refl)
narrowing_fault which narrow spelled text (fault.Empty n) e h = (fault.Empty n, subst (λ (o : Option (List ℕ)). HasFault o spelled (fault.Empty n)) (sym e) h, refl)
narrowing_fault which narrow spelled text fault.OutOfMemory e h = tt

-- And it is the side's.
pub side_fault : (which : WhichSide) (two : Bool) (side : Side) (spelled : Shape) (f : SideFault) → Spells side.front side.format spelled → IsNarrowingFault which side.narrow (dash_apart two spelled) f → IsSideFault which two side f
side_fault which two side spelled (side_faults.Refused refusal) s h = misnarrowed spelled h.0 s h.1 h.2
side_fault which two side spelled side_faults.OutOfMemory s h = tt

-- ---- what a side gives

-- What a text spells keeps what a format keeps.
abbrev pub SpelledKeeps : Type 0
SpelledKeeps = (front : Front) (text : List ℕ) (format : Shape) → IsUtf8 text → length text ≤ most_text_bytes → Spells front text format → IsFormat format

-- With a lone dash told from absence, a format keeps what a format keeps.
abbrev pub ToldKeeps : Type 0
ToldKeeps = (format : Shape) → KeepsFormat format.pieces → KeepsFormat (with_two format).pieces

-- What a format is narrowed to keeps what a format keeps.
abbrev pub NarrowedKeeps : Type 0
NarrowedKeeps = (format narrowed : Shape) (text : List ℕ) → KeepsFormat format.pieces → NarrowsTo format text narrowed → KeepsFormat narrowed.pieces

-- Each slot keeps what a format's do, and the literals are bytes.
abbrev pub IsKept : Shape → Type 0
IsKept format = EachKept format.pieces × LiteralsAreBytes format.pieces

both_true : (a b : Bool) → (a && b) ≡ true → (a ≡ true) × (b ≡ true)
both_true true b e = (refl, e)
both_true false b e = absurd (cc)

all_bytes : (text : List ℕ) → list_all is_byte text ≡ true → All IsByte text
all_bytes [] h = All-nil IsByte
all_bytes (b ∷ text) h =
    let both = both_true (is_byte b) (list_all is_byte text) h in
    All-cons IsByte b text (ltb-true b 256 both.0) (all_bytes text both.1)

literals : (pieces : List Piece) → AreOfBytes pieces → LiteralsAreBytes pieces
literals [] h = tt
literals (piece.Literal text ∷ pieces) h = (all_bytes text h.0, literals pieces h.1)
literals (piece.Slot slot ∷ pieces) h = (tt, literals pieces h)

-- A term leaves the literals as they are.
literals_after : (named : Option ℕ) (effect : Effect) (k : ℕ) (pieces : List Piece) → LiteralsAreBytes pieces → LiteralsAreBytes (pieces_after named effect k pieces)
literals_after named effect k [] h = tt
literals_after named effect k (piece.Literal text ∷ pieces) h = (h.0, literals_after named effect k pieces h.1)
literals_after named effect k (piece.Slot slot ∷ pieces) h = (tt, literals_after named effect (k + 1) pieces h.1)

answers : (a b : List Piece) → ◌≡◌ {A = Result (List Piece) NarrowFault} (Ok a) (Ok b) → a ≡ b
answers a b e = cc

no_answer : (a : List Piece) (f : NarrowFault) → ◌≡◌ {A = Result (List Piece) NarrowFault} (Ok a) (Err f) → ⊥
no_answer a f e = cc

literals_narrowed : (text : List ℕ) (parts : List (List ℕ)) (pieces after : List Piece) → LiteralsAreBytes pieces → Narrows text parts pieces (Ok after) → LiteralsAreBytes after
literals_narrowed text [] pieces after h n = subst LiteralsAreBytes (sym (answers after pieces n)) h
literals_narrowed text (part ∷ parts) pieces after h (inl none) = absurd (no_answer after (fault.Syntax none.place) none.is)
literals_narrowed text (part ∷ parts) pieces after h (inr (inl fails)) = absurd (no_answer after fails.fault fails.is)
literals_narrowed text (part ∷ parts) pieces after h (inr (inr goes)) =
    let named = (term_of part).slot in
    let effect = narrowed_slot (term_of part).rule in
    literals_narrowed text parts (pieces_after named effect 1 pieces) after (literals_after named effect 1 pieces h) goes.2

-- What is narrowed keeps what a format keeps, and its literals are bytes.
record KeepsWhole (format : Shape) : Type 0 where
  keeps : KeepsFormat format.pieces
  bytes : LiteralsAreBytes format.pieces

literals_apart : (pieces : List Piece) → LiteralsAreBytes pieces → LiteralsAreBytes (pieces_with_two pieces)
literals_apart [] h = tt
literals_apart (piece.Literal text ∷ pieces) h = (h.0, literals_apart pieces h.1)
literals_apart (piece.Slot slot ∷ pieces) h = (tt, literals_apart pieces h.1)

apart_kept : (two : Bool) (spelled : Shape) → ToldKeeps → IsFormat spelled → KeepsWhole (dash_apart two spelled)
apart_kept true spelled told kept = record { keeps = told spelled kept.keeps; bytes = literals_apart spelled.pieces (literals spelled.pieces kept.bytes) }
apart_kept false spelled told kept = record { keeps = kept.keeps; bytes = literals spelled.pieces kept.bytes }

left_kept : (narrow : Option (List ℕ)) (whole format : Shape) → NarrowedKeeps → KeepsWhole whole → Leaves narrow whole format → IsKept format
left_kept None whole format keeps kept e = subst IsKept (sym e) (kept.keeps.each, kept.bytes)
left_kept (Some text) whole format keeps kept n = (
  (keeps whole format text kept.keeps n).each,
  literals_narrowed text (cuts 59 text) whole.pieces format.pieces kept.bytes n.pieces,
)

-- A format that a side gives keeps what a format keeps, and its literals are bytes.
pub gives_kept : (two : Bool) (side : Side) (format : Shape) → SpelledKeeps → ToldKeeps → NarrowedKeeps → IsWord side.format → Gives two side format → IsKept format
gives_kept two side format spelled told narrowed word g =
    let is = spelled side.front side.format g.spelled word.text word.short g.spells in
    left_kept side.narrow (dash_apart two g.spelled) format narrowed (apart_kept two g.spelled told is) g.left
