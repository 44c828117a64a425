-- What a format keeps.
use Rattle.std.specs.Prelude.{◌≡◌, ◌≢◌, ℕ, ◌+◌, ◌≤◌, ◌==◌, not, true, Bool, List, [], ◌∷◌, length, All}
use Rattle.std.specs.List.{list_all}
use Rattle.lf_core.specs.declared.values.Value.{Value}
use Rattle.lf_format.specs.declared.kind.Kind.{Kind}
use Rattle.lf_format.specs.declared.kind.Kind.TheVariants as kind
use Rattle.lf_escape.specs.declared.coding.Coding.{Coding}
use Rattle.lf_escape.specs.declared.coding.Coding.TheVariants.{Raw}
use Rattle.lf_format.specs.declared.slot.Slot.{Slot as OneSlot}
use Rattle.lf_format.specs.declared.format.Piece.{Piece}
use Rattle.lf_format.specs.declared.format.Piece.TheVariants.{Literal, Slot}
use Rattle.lf_format.specs.Kinds.{HoldsKind, plain_text}
use Rattle.lf_escape.specs.Codings.{coding_takes}
use Rattle.lf_format.specs.Slots.{Holds}
use Rattle.lf_limits.specs.Limits.{most_slots, most_literal_bytes}

-- Only texts have a code of their own.
abbrev pub FitsCode : Kind → Coding → Type 0
FitsCode (kind.Text d) code = Unit {0}
FitsCode (kind.Query d) code = Unit {0}
FitsCode k code = code ≡ Raw

-- The code takes every letter of the domain's plain texts.
abbrev pub TakesPlain : Kind → Coding → Type 0
TakesPlain k code = (v : Value) → HoldsKind k v → All (λ letter. coding_takes code letter ≡ true) (plain_text k v)

-- The slot holds some value.
abbrev pub HoldsSome : OneSlot → Type 0
HoldsSome slot = (v : Value) × Holds slot v

-- What each slot of a format keeps.
pub record KeepsSlot (slot : OneSlot) : Type 0 where
  pub fits : FitsCode slot.kind slot.code
  pub takes : TakesPlain slot.kind slot.code
  pub some : HoldsSome slot

-- the byte isn't a line feed
abbrev pub is_no_feed : ℕ → Bool
is_no_feed b = not (b == 10)

-- What each piece of a format keeps: a literal isn't empty and holds no line feed.
abbrev pub KeepsPiece : Piece → Type 0
KeepsPiece (Literal text) = (1 ≤ length text) × (list_all is_no_feed text ≡ true)
KeepsPiece (Slot slot) = KeepsSlot slot

-- Each piece keeps what it should.
abbrev pub EachKept : List Piece → Type 0
EachKept [] = Unit {0}
EachKept (piece ∷ pieces) = KeepsPiece piece × EachKept pieces

-- No two literals are neighbours.
abbrev pub AreJoined : List Piece → Type 0
AreJoined [] = Unit {0}
AreJoined (Slot slot ∷ pieces) = AreJoined pieces
AreJoined (Literal text ∷ []) = Unit {0}
AreJoined (Literal text ∷ Literal more ∷ pieces) = ⊥
AreJoined (Literal text ∷ Slot slot ∷ pieces) = AreJoined pieces

-- the slots, in order
abbrev pub slots_in : List Piece → List OneSlot
slots_in [] = []
slots_in (Literal text ∷ pieces) = slots_in pieces
slots_in (Slot slot ∷ pieces) = slot ∷ slots_in pieces

-- how many bytes the literals have together
abbrev pub literal_bytes : List Piece → ℕ
literal_bytes [] = 0
literal_bytes (Literal text ∷ pieces) = length text + literal_bytes pieces
literal_bytes (Slot slot ∷ pieces) = literal_bytes pieces

-- What a format keeps: at least one piece, at most `most_slots` slots, and literals of at most `most_literal_bytes` bytes together.
pub record KeepsFormat (pieces : List Piece) : Type 0 where
  pub each : EachKept pieces
  pub joined : AreJoined pieces
  pub some : pieces ≢ []
  pub few : length (slots_in pieces) ≤ most_slots
  pub short : literal_bytes pieces ≤ most_literal_bytes
