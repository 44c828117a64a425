-- The pieces that steps stand for.
use Rattle.std.specs.Prelude.{List, map}
use Rattle.lf_escape.specs.declared.coding.Coding.{Coding}
use Rattle.lf_escape.specs.declared.coding.Coding.TheVariants as coding
use Rattle.lf_format.specs.declared.format.Piece.{Piece}
use Rattle.lf_format.specs.declared.format.Piece.TheVariants as piece
use Rattle.lf_format.specs.declared.kind.Kind.{Kind}
use Rattle.lf_format.specs.declared.kind.Kind.TheVariants as kind
use Rattle.lf_format.specs.declared.slot.Slot.{Slot}
use Rattle.lf_scan.specs.Texts.{query_of, set_of}
use Rattle.lf_scan.specs.Times.{moment_kind}
use Rattle.lf_scan.specs.declared.step.Step.{Step}
use Rattle.lf_scan.specs.declared.step.Step.TheVariants as step
use Rattle.lf_scan.specs.declared.slot_step.SlotStep.{SlotStep}
use Rattle.lf_scan.specs.declared.value_step.ValueStep.{ValueStep}
use Rattle.lf_scan.specs.declared.value_step.ValueStep.TheVariants.{Text, Query, Decimal, DashZero, Fixed3, Padded, Moment, Day, Clock, Exact}

-- the domain whose values are read
abbrev pub kind_of : ValueStep → Kind
kind_of (Text t) = kind.Text (set_of t)
kind_of (Query t) = kind.Query (query_of t)
kind_of (Decimal d) = kind.Num d
kind_of (DashZero d) = kind.DashZero d
kind_of (Fixed3 d) = kind.Fixed3 d
kind_of (Padded d) = kind.Padded d
kind_of (Moment t) = moment_kind t
kind_of (Day d) = kind.Date d
kind_of (Clock d) = kind.Clock d
kind_of (Exact t) = t.kind

-- the code in which they are written
abbrev pub code_of : ValueStep → Coding
code_of (Text t) = t.letters.code
code_of (Query t) = t.letters.code
code_of (Decimal d) = coding.Raw
code_of (DashZero d) = coding.Raw
code_of (Fixed3 d) = coding.Raw
code_of (Padded d) = coding.Raw
code_of (Moment t) = coding.Raw
code_of (Day d) = coding.Raw
code_of (Clock d) = coding.Raw
code_of (Exact t) = t.code

-- the slot of a step
abbrev pub slot_of : SlotStep → Slot
slot_of s = record { name = s.name; kind = kind_of s.value; code = code_of s.value; absent = s.absent; present = s.present; quoted = s.quoted }

-- the piece of a step
abbrev pub piece_of : Step → Piece
piece_of (step.Literal bytes) = piece.Literal bytes
piece_of (step.Slot slot) = piece.Slot (slot_of slot)

-- the pieces of steps, in order
abbrev pub pieces_of : List Step → List Piece
pieces_of steps = map piece_of steps
