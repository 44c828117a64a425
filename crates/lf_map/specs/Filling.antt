-- The field map that a text is, or its first fault.
use Rattle.std.specs.Prelude.{◌≡◌, ℕ, zero, suc, ◌+◌, ◌-◌, ◌&&◌, ◌⊎◌, nat_le, Bool, true, false, cond, List, [], ◌∷◌, length, Option, None, Some, Result, Ok, Err}
use Rattle.lf_syntax.specs.Places.{FaultPlace}
use Rattle.lf_format.specs.declared.slot.Slot.{Slot as OneSlot}
use Rattle.lf_format.specs.Kinds.{value_kind}
use Rattle.lf_format.specs.Keeps.{slots_in}
use Rattle.lf_format.specs.Shape.{Shape}
use Rattle.lf_expression.specs.Exprs.{Expr, slot, or_else, at_time, spaced, applied, exprs_said}
use Rattle.lf_expression.specs.Values.{nth}
use Rattle.lf_expression.specs.Kinds.{has_kind}
use Rattle.lf_map.specs.declared.fault.MapFault.{MapFault}
use Rattle.lf_map.specs.declared.fault.MapFault.TheVariants.{Syntax, NoSlot, Twice, Untyped, Unfilled, OutOfMemory}
use Rattle.lf_map.specs.Map.{IsAssign, IsMap}
use Rattle.lf_map.specs.Letters.{parts_of}
use Rattle.lf_map.specs.Assigns.{target_of, expr_of}
use Rattle.lf_map.specs.Shape.{MapShape}

-- a number of each of these slots, counted from 1
abbrev pub is_number_of : ℕ → ℕ → Bool
is_number_of k slots = nat_le 1 k && nat_le k slots

abbrev pub first_of : Option ℕ → Option ℕ → Option ℕ
first_of None other = other
first_of (Some k) other = Some k

-- the first number of a source slot, from the left, that isn't one of so many slots
abbrev pub first_stray : ℕ → Expr → Option ℕ
first_stray slots (slot k) = cond (is_number_of k slots) None (Some k)
first_stray slots (or_else first second) = first_of (first_stray slots first) (first_stray slots second)
first_stray slots (at_time first second) = first_of (first_stray slots first) (first_stray slots second)
first_stray slots (spaced first second) = first_of (first_stray slots first) (first_stray slots second)
first_stray slots (applied operation first) = first_stray slots first
first_stray slots plain = None

-- The target's slots, each with the expression that it has been given.
abbrev pub Form : Type 0
Form = List (Option Expr)

abbrev pub blank : ℕ → Form
blank zero = []
blank (suc slots) = None ∷ blank slots

-- whether the slot has an expression
abbrev pub is_given : Option (Option Expr) → Bool
is_given (Some (Some e)) = true
is_given other = false

-- the form with this expression for the slot with so many slots before it
abbrev pub put : ℕ → Expr → Form → Form
put n e [] = []
put zero e (one ∷ more) = Some e ∷ more
put (suc n) e (one ∷ more) = one ∷ put n e more

-- the form with this expression for the slot of the number
abbrev pub given : ℕ → Expr → Form → Form
given k e form = put (k - 1) e form

-- the fault of the kind of an expression for the slot
abbrev pub kind_fault : List OneSlot → ℕ → OneSlot → Expr → Option MapFault
kind_fault source k target e = cond (has_kind source (value_kind target.kind) e) None (Some (Untyped k))

-- the fault of an assignment, of which all numbers of source slots are good
abbrev pub given_fault : List OneSlot → Form → ℕ → OneSlot → Expr → Option MapFault
given_fault source form k target e = cond (is_given (nth k form)) (Some (Twice k)) (kind_fault source k target e)

-- the same, with the first number that is not good, if there is one
abbrev pub stray_fault : Option ℕ → Option MapFault → Option MapFault
stray_fault (Some n) other = Some (NoSlot n)
stray_fault None other = other

-- the same, with the slot of the target, if it is there
abbrev pub target_fault : List OneSlot → Form → ℕ → Option OneSlot → Expr → Option MapFault
target_fault source form k None e = Some (NoSlot k)
target_fault source form k (Some target) e = stray_fault (first_stray (length source) e) (given_fault source form k target e)

-- the fault of an assignment that is spelled right
abbrev pub assign_fault : List OneSlot → List OneSlot → Form → ℕ → Expr → Option MapFault
assign_fault source target form k e = target_fault source form k (nth k target) e

-- the fault of a part that is an assignment, and the form after it
abbrev pub part_fault : List OneSlot → List OneSlot → List ℕ → Form → Option MapFault
part_fault source target part form = assign_fault source target form (target_of part) (expr_of part)

abbrev pub form_after : List ℕ → Form → Form
form_after part form = given (target_of part) (expr_of part) form

-- the number of the first slot without an expression, where the form's first has this one
abbrev pub first_blank : ℕ → Form → Option ℕ
first_blank k [] = None
first_blank k (None ∷ more) = Some k
first_blank k (Some e ∷ more) = first_blank (k + 1) more

abbrev pub all_given : Form → List Expr
all_given [] = []
all_given (None ∷ more) = all_given more
all_given (Some e ∷ more) = e ∷ all_given more

abbrev pub Answer : Type 0
Answer = Result (List Expr) MapFault

-- the answer after the last assignment
abbrev pub finished : Form → Option ℕ → Answer
finished form None = Ok (all_given form)
finished form (Some k) = Err (Unfilled k)

-- The part isn't an assignment, and the whole text's place is answered.
pub record NoAssign (text part : List ℕ) (answer : Answer) : Type 0 where
  pub none : IsAssign part → ⊥
  pub place : ℕ
  pub at : FaultPlace IsMap text place
  pub is : answer ≡ Err (Syntax place)

-- The part is an assignment with a fault, which is answered.
pub record HasFault (source target : List OneSlot) (part : List ℕ) (form : Form) (answer : Answer) : Type 0 where
  pub assign : IsAssign part
  pub fault : MapFault
  pub has : part_fault source target part form ≡ Some fault
  pub is : answer ≡ Err fault

-- The part is an assignment without a fault.
pub record IsFine (source target : List OneSlot) (part : List ℕ) (form : Form) : Type 0 where
  pub assign : IsAssign part
  pub fine : part_fault source target part form ≡ None

-- The answer of a text of which these parts are left: an expression for each slot of the target, or the first fault.
abbrev pub Reads : List OneSlot → List OneSlot → List ℕ → List (List ℕ) → Form → Answer → Type 0
Reads source target text [] form answer = answer ≡ finished form (first_blank 1 form)
Reads source target text (part ∷ parts) form answer =
    NoAssign text part answer
    ⊎ (HasFault source target part form answer
    ⊎ (IsFine source target part form × Reads source target text parts (form_after part form) answer))

-- THE MEANING: what the text is as a map from the one format to the other
abbrev pub ParsesMap : List ℕ → Shape → Shape → Answer → Type 0
ParsesMap text source target answer = Reads (slots_in source.pieces) (slots_in target.pieces) text (parts_of text) (blank (length (slots_in target.pieces))) answer

-- The map is what the text is.
pub record IsMapOf (text : List ℕ) (source target : Shape) (map : MapShape) : Type 0 where
  pub source_is : map.source ≡ source
  pub target_is : map.target ≡ target
  pub parses : ParsesMap text source target (Ok (exprs_said map.exprs))

-- The fault is so, where it isn't want of memory.
abbrev pub IsSo : (MapFault → Type 0) → MapFault → Type 0
IsSo P OutOfMemory = Unit {0}
IsSo P fault = P fault

-- The fault is the place of the text's, unless memory ran out.
abbrev pub IsPlace : List ℕ → MapFault → Type 0
IsPlace text (Syntax place) = FaultPlace IsMap text place
IsPlace text OutOfMemory = Unit {0}
IsPlace text fault = ⊥

-- The part is no assignment and this is the text's place, or it is one with this fault.
abbrev pub IsPartFault : List OneSlot → List OneSlot → List ℕ → List ℕ → Form → MapFault → Type 0
IsPartFault source target text part form OutOfMemory = Unit {0}
IsPartFault source target text part form fault =
    ((IsAssign part → ⊥) × IsPlace text fault) ⊎ (IsAssign part × (part_fault source target part form ≡ Some fault))

-- The answer is given, unless memory runs out.
abbrev pub Gives : Answer → Result MapShape MapFault → Type 0
Gives answer (Ok map) = answer ≡ Ok (exprs_said map.exprs)
Gives answer (Err fault) = (answer ≡ Err fault) ⊎ (fault ≡ OutOfMemory)
