-- The order of the records that print one line.
use Rattle.std.specs.Prelude.{◌≡◌, ◌≢◌, ℕ, ◌<◌, ◌⊎◌, List, [], ◌∷◌, false}
use Rattle.lf_core.specs.declared.marked.Move.{Move}
use Rattle.lf_core.specs.Runs.{IsRunLess}
use Rattle.lf_core.specs.declared.values.Value.{Value}
use Rattle.lf_core.specs.declared.values.Value.TheVariants.{Missing}
use Rattle.lf_format.specs.Kinds.{plain_text}
use Rattle.lf_format.specs.Slots.{missing_text}
use Rattle.lf_format.specs.Lines.{IsRecordOf, line_text}
use Rattle.lf_format.specs.declared.slot.Slot.{Slot as OneSlot}
use Rattle.lf_format.specs.declared.format.Piece.{Piece}
use Rattle.lf_format.specs.declared.format.Piece.TheVariants.{Literal, Slot}

-- The lesser text has the lesser byte at the first place where they differ; a proper prefix is less.
abbrev pub IsTextLess : List ℕ → List ℕ → Type 0
IsTextLess [] [] = ⊥
IsTextLess [] (d ∷ ds) = Unit {0}
IsTextLess (c ∷ cs) [] = ⊥
IsTextLess (c ∷ cs) (d ∷ ds) = (c < d) ⊎ ((c ≡ d) × IsTextLess cs ds)

-- The text by which a slot's values are ordered: the plain text, and for `Missing` what stands for absence without quotes.
abbrev pub order_text : OneSlot → Value → List ℕ
order_text slot Missing = missing_text slot.absent false
order_text slot v = plain_text slot.kind v

-- The value with the lesser order text is less; where these are equal, `Missing` is.
abbrev pub IsValueLess : OneSlot → Value → Value → Type 0
IsValueLess slot v u =
    IsTextLess (order_text slot v) (order_text slot u)
    ⊎ ((order_text slot v ≡ order_text slot u) × (v ≡ Missing) × (u ≢ Missing))

-- The first slot whose values differ tells which record is less.
abbrev pub IsRecordLess : List Piece → List Value → List Value → Type 0
IsRecordLess [] rec other = ⊥
IsRecordLess (Literal text ∷ pieces) rec other = IsRecordLess pieces rec other
IsRecordLess (Slot slot ∷ pieces) [] other = ⊥
IsRecordLess (Slot slot ∷ pieces) (v ∷ rec) [] = ⊥
IsRecordLess (Slot slot ∷ pieces) (v ∷ rec) (u ∷ other) = IsValueLess slot v u ⊎ ((v ≡ u) × IsRecordLess pieces rec other)

-- Of two records that print one line, the one with the lesser run is less.
abbrev pub KeepsOrder : List Piece → (List Value → List Move) → Type 0
KeepsOrder pieces run =
    (rec other : List Value) → IsRecordOf pieces rec → IsRecordOf pieces other → line_text pieces rec ≡ line_text pieces other →
    IsRunLess (run rec) (run other) → IsRecordLess pieces rec other
