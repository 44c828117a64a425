-- The line of a record is made of bytes.
use Rattle.std.proofs.Common.{◌≡◌, ℕ, ◌<◌, List, [], ◌∷◌, ◌++◌, Bool, true, false, arith, All}
use Rattle.std.proofs.lemmas.List.Elements.{All-nil, All-cons, All-append, All-head, All-tail}
use Rattle.lf_core.specs.declared.values.Value.{Value}
use Rattle.lf_core.specs.declared.values.Value.TheVariants.{Missing}
use Rattle.lf_escape.specs.Codes.{IsCode, coded}
use Rattle.lf_escape.specs.Codings.{coding_word, coding_laws}
use Rattle.lf_format.specs.Kinds.{plain_text}
use Rattle.lf_format.specs.Slots.{Holds, in_quotes, missing_text, slot_text}
use Rattle.lf_format.specs.Lines.{IsRecordOf, line_text}
use Rattle.lf_format.specs.Keeps.{KeepsSlot, EachKept}
use Rattle.lf_format.specs.declared.slot.Slot.{Slot as ASlot}
use Rattle.lf_format.specs.declared.slot.Absent.{Absent}
use Rattle.lf_format.specs.declared.slot.Absent.TheVariants.{No, Dash, DashTwo, Blank}
use Rattle.lf_format.specs.declared.format.Piece.{Piece}
use Rattle.lf_format.specs.declared.format.Piece.TheVariants.{Literal, Slot}
use Rattle.lf_machine.specs.LineBytes.{IsByte, LiteralsAreBytes}

one-byte : (b : ℕ) → b < 256 → All IsByte (b ∷ [])
one-byte b h = All-cons IsByte b [] h (All-nil IsByte)

quotes-bytes : (quoted : Bool) (text : List ℕ) → All IsByte text → All IsByte (in_quotes quoted text)
quotes-bytes false text h = h
quotes-bytes true text h =
    All-cons IsByte 34 (text ++ 34 ∷ []) (omega arith) (All-append IsByte text (34 ∷ []) h (one-byte 34 (omega arith)))

missing-bytes : (absent : Absent) (quoted : Bool) → All IsByte (missing_text absent quoted)
missing-bytes No quoted = All-nil IsByte
missing-bytes Dash quoted = one-byte 45 (omega arith)
missing-bytes DashTwo quoted = one-byte 45 (omega arith)
missing-bytes Blank quoted = quotes-bytes quoted [] (All-nil IsByte)

coded-bytes : {takes : ℕ → Bool} {word : ℕ → List ℕ} → IsCode takes word → (letters : List ℕ) → All (λ letter. takes letter ≡ true) letters → All IsByte (coded word letters)
coded-bytes laws [] all = All-nil IsByte
coded-bytes {takes} {word} laws (letter ∷ letters) all =
    All-append IsByte (word letter) (coded word letters)
    (laws.word_bytes letter (All-head (λ x. takes x ≡ true) letter letters all))
    (coded-bytes laws letters (All-tail (λ x. takes x ≡ true) letter letters all))

slot-bytes : (s : ASlot) (v : Value) → KeepsSlot s → Holds s v → All IsByte (slot_text s v)
slot-bytes s Missing k h = missing-bytes s.absent s.quoted
slot-bytes s v k h =
    quotes-bytes s.quoted (coded (coding_word s.code) (plain_text s.kind v))
    (coded-bytes (coding_laws s.code) (plain_text s.kind v) (k.takes v h.0))

pub line-bytes : (ps : List Piece) → EachKept ps → LiteralsAreBytes ps → (rec : List Value) → IsRecordOf ps rec → All IsByte (line_text ps rec)
line-bytes [] k b [] h = All-nil IsByte
line-bytes [] k b (v ∷ rec) h = absurd h
line-bytes (Literal text ∷ ps) k b rec h = All-append IsByte text (line_text ps rec) b.0 (line-bytes ps k.1 b.1 rec h)
line-bytes (Slot s ∷ ps) k b [] h = absurd h
line-bytes (Slot s ∷ ps) k b (v ∷ rec) h = All-append IsByte (slot_text s v) (line_text ps rec) (slot-bytes s v k.0 h.0) (line-bytes ps k.1 b.1 rec h.1)
