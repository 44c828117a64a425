-- On a record of the source an expression of a kind has no value of another.
use Rattle.std.proofs.Common.{◌≡◌, ℕ, zero, suc, ◌-◌, ◌&&◌, Bool, true, false, List, [], ◌∷◌, refl, sym, subst}
use Rattle.std.specs.Prelude.{cond, ℤ, ◌*ℤ◌, pos, neg_ℤ, int_le, Option, None, Some, slice_get}
use Rattle.std.proofs.lemmas.Bool.{and_parts}
use Rattle.lf_core.specs.declared.values.Moment.{Moment}
use Rattle.lf_core.specs.declared.values.Value.{Value}
use Rattle.lf_core.specs.declared.values.Value.TheVariants as value
use Rattle.lf_layout.specs.Layouts.{civil_day}
use Rattle.lf_time.specs.Instants.{utc_of}
use Rattle.lf_syntax.specs.Cuts.{cuts}
use Rattle.lf_format.specs.declared.kind.Kind.{Kind}
use Rattle.lf_format.specs.declared.kind.Kind.TheVariants as kind
use Rattle.lf_format.specs.declared.kind.ValueKind.{ValueKind}
use Rattle.lf_format.specs.declared.kind.ValueKind.TheVariants as sort
use Rattle.lf_format.specs.declared.format.Piece.{Piece}
use Rattle.lf_format.specs.declared.format.Piece.TheVariants.{Literal, Slot}
use Rattle.lf_format.specs.declared.slot.Slot.{Slot as OneSlot}
use Rattle.lf_format.specs.Kinds.{HoldsKind, value_kind}
use Rattle.lf_format.specs.Slots.{Holds}
use Rattle.lf_format.specs.Lines.{IsRecordOf}
use Rattle.lf_format.specs.Keeps.{slots_in}
use Rattle.lf_expression.specs.Exprs.{Expr, missing, number, text, slot, or_else, at_time, spaced, applied, Operation, utc, zoned, whole_second, date, clock, epoch, millis, part, div, mul}
use Rattle.lf_expression.specs.Kinds.{same_kind, wanted_kind, given_kind, slot_has_kind, has_kind, IsOfKind}
use Rattle.lf_expression.specs.Values.{nth, dated, counted, texted, of_moment, of_number, of_text, of_value, of_day, of_texts, of_choice, expr_value}

same_is : (k j : ValueKind) → same_kind k j ≡ true → k ≡ j
same_is sort.Number sort.Number h = refl
same_is sort.Text sort.Text h = refl
same_is sort.Moment sort.Moment h = refl
same_is sort.Day sort.Day h = refl
same_is sort.Clock sort.Clock h = refl
same_is k j h = absurd (cc)

as_kind : (k j : ValueKind) (v : Option Value) → same_kind k j ≡ true → IsOfKind j v → IsOfKind k v
as_kind k j v h o = subst (λ (i : ValueKind). IsOfKind i v) (sym (same_is k j h)) o

kind_sorted : (d : Kind) (v : Value) → HoldsKind d v → IsOfKind (value_kind d) (Some v)
kind_sorted (kind.Num d) (value.Num n) h = tt
kind_sorted (kind.Num d) v h = absurd h
kind_sorted (kind.DashZero d) (value.Num n) h = tt
kind_sorted (kind.DashZero d) v h = absurd h
kind_sorted (kind.Fixed3 d) (value.Num n) h = tt
kind_sorted (kind.Fixed3 d) v h = absurd h
kind_sorted (kind.Padded d) (value.Num n) h = tt
kind_sorted (kind.Padded d) v h = absurd h
kind_sorted (kind.Words d) (value.Text t) h = tt
kind_sorted (kind.Words d) v h = absurd h
kind_sorted (kind.Text d) (value.Text t) h = tt
kind_sorted (kind.Text d) v h = absurd h
kind_sorted (kind.Query d) (value.Text t) h = tt
kind_sorted (kind.Query d) v h = absurd h
kind_sorted (kind.Clf d) (value.Moment m) h = tt
kind_sorted (kind.Clf d) v h = absurd h
kind_sorted (kind.Iso d) (value.Moment m) h = tt
kind_sorted (kind.Iso d) v h = absurd h
kind_sorted (kind.IsoMillis d) (value.Moment m) h = tt
kind_sorted (kind.IsoMillis d) v h = absurd h
kind_sorted (kind.Ha d) (value.Moment m) h = tt
kind_sorted (kind.Ha d) v h = absurd h
kind_sorted (kind.Date d) (value.Day n) h = tt
kind_sorted (kind.Date d) v h = absurd h
kind_sorted (kind.Clock d) (value.Clock n) h = tt
kind_sorted (kind.Clock d) v h = absurd h

held_sorted : (s : OneSlot) (v : Value) → Holds s v → IsOfKind (value_kind s.kind) (Some v)
held_sorted s value.Missing h = tt
held_sorted s v h = kind_sorted s.kind v h.0

slot_sorted : (source : List Piece) (rec : List Value) (k : ValueKind) (n : ℕ) → IsRecordOf source rec → slot_has_kind k (slice_get (slots_in source) n) ≡ true → IsOfKind k (slice_get rec n)
slot_sorted [] rec k n r h = absurd (cc)
slot_sorted (Literal t ∷ source) rec k n r h = slot_sorted source rec k n r h
slot_sorted (Slot s ∷ source) [] k n r h = absurd r
slot_sorted (Slot s ∷ source) (v ∷ rec) k zero r h = as_kind k (value_kind s.kind) (Some v) h (held_sorted s v r.0)
slot_sorted (Slot s ∷ source) (v ∷ rec) k (suc n) r h = slot_sorted source rec k n r.1 h

at_sorted : (source : List Piece) (rec : List Value) (k : ValueKind) (n : ℕ) → IsRecordOf source rec → slot_has_kind k (nth n (slots_in source)) ≡ true → IsOfKind k (nth n rec)
at_sorted source rec k zero r h = absurd (cc)
at_sorted source rec k (suc n) r h = slot_sorted source rec k n r h

choice_sorted : (k : ValueKind) (v w : Option Value) → IsOfKind k v → IsOfKind k w → IsOfKind k (of_choice v w)
choice_sorted k (Some value.Missing) w h o = o
choice_sorted k v w h o = h

day_sorted : (v w : Option Value) → IsOfKind sort.Moment (of_day v w)
day_sorted (Some (value.Day d)) (Some (value.Clock s)) = tt
day_sorted (Some (value.Day d)) (Some value.Missing) = tt
day_sorted (Some value.Missing) (Some (value.Clock s)) = tt
day_sorted (Some value.Missing) (Some value.Missing) = tt
day_sorted v w = tt

texts_sorted : (v w : Option Value) → IsOfKind sort.Text (of_texts v w)
texts_sorted (Some (value.Text t)) (Some (value.Text u)) = tt
texts_sorted (Some (value.Text t)) (Some value.Missing) = tt
texts_sorted (Some value.Missing) (Some (value.Text u)) = tt
texts_sorted (Some value.Missing) (Some value.Missing) = tt
texts_sorted v w = tt

if_sorted : (k : ValueKind) (t : Bool) (v : Value) → IsOfKind k (Some v) → IsOfKind k (cond t (Some v) None)
if_sorted k true v h = h
if_sorted k false v h = tt

moment_sorted : (operation : Operation) (m : Moment) → IsOfKind (given_kind operation) (of_moment operation m)
moment_sorted utc m = dated_sorted (utc_of m)
  where
    dated_sorted : (m : Moment) → IsOfKind sort.Moment (dated m)
    dated_sorted m = if_sorted sort.Moment (int_le (neg_ℤ (pos 719162)) (civil_day m.seconds) && int_le (civil_day m.seconds) (pos 2932896)) (value.Moment m) tt
moment_sorted (zoned offset) m = tt
moment_sorted whole_second m = tt
moment_sorted date m = tt
moment_sorted clock m = tt
moment_sorted epoch m = tt
moment_sorted millis m = tt
moment_sorted operation m = tt

number_sorted : (operation : Operation) (n : ℤ) → IsOfKind (given_kind operation) (of_number operation n)
number_sorted (div divisor) n = tt
number_sorted (mul factor) n = counted_sorted (n *ℤ factor)
  where
    counted_sorted : (n : ℤ) → IsOfKind sort.Number (counted n)
    counted_sorted n = if_sorted sort.Number (int_le (neg_ℤ (pos 9223372036854775808)) n && int_le n (pos 9223372036854775807)) (value.Num n) tt
number_sorted operation n = tt

texted_sorted : (t : Option (List ℕ)) → IsOfKind sort.Text (texted t)
texted_sorted None = tt
texted_sorted (Some t) = tt

text_sorted : (operation : Operation) (t : List ℕ) → IsOfKind (given_kind operation) (of_text operation t)
text_sorted (part k) t = texted_sorted (slice_get (cuts 32 t) (k - 1))
text_sorted operation t = tt

value_sorted : (operation : Operation) (v : Option Value) → IsOfKind (given_kind operation) (of_value operation v)
value_sorted operation (Some (value.Moment m)) = moment_sorted operation m
value_sorted operation (Some (value.Num n)) = number_sorted operation n
value_sorted operation (Some (value.Text t)) = text_sorted operation t
value_sorted operation v = tt

module _ (source : List Piece) (rec : List Value) (r : IsRecordOf source rec) where
  abbrev slots : List OneSlot
  slots = slots_in source

  pub sorted : (k : ValueKind) (e : Expr) → has_kind slots k e ≡ true → IsOfKind k (expr_value e rec)
  sorted k missing h = tt
  sorted k (number n) h = as_kind k sort.Number (Some (value.Num n)) h tt
  sorted k (text t) h = as_kind k sort.Text (Some (value.Text t)) h tt
  sorted k (slot n) h = at_sorted source rec k n r h
  sorted k (or_else e f) h =
      let p = and_parts (has_kind slots k e) (has_kind slots k f) h in
      choice_sorted k (expr_value e rec) (expr_value f rec) (sorted k e p.0) (sorted k f p.1)
  sorted k (at_time e f) h =
      as_kind k sort.Moment (of_day (expr_value e rec) (expr_value f rec)) (and_parts (same_kind k sort.Moment) (has_kind slots sort.Day e && has_kind slots sort.Clock f) h).0 (day_sorted (expr_value e rec) (expr_value f rec))
  sorted k (spaced e f) h =
      as_kind k sort.Text (of_texts (expr_value e rec) (expr_value f rec)) (and_parts (same_kind k sort.Text) (has_kind slots sort.Text e && has_kind slots sort.Text f) h).0 (texts_sorted (expr_value e rec) (expr_value f rec))
  sorted k (applied operation e) h =
      as_kind k (given_kind operation) (of_value operation (expr_value e rec)) (and_parts (same_kind k (given_kind operation)) (has_kind slots (wanted_kind operation) e) h).0 (value_sorted operation (expr_value e rec))
