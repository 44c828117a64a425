-- What a record's values keep, and that a map makes one thing of it.
use Rattle.std.proofs.Common.{◌≡◌, ℕ, suc, ◌+◌, ◌<◌, inl, inr, List, [], ◌∷◌, ◌++◌, length, refl, sym, ap, ◌∙◌, arith}
use Rattle.std.specs.Prelude.{All, ℤ, Option, None, Some}
use Rattle.std.proofs.lemmas.List.Elements.{All-nil, All-cons}
use Rattle.lf_core.specs.declared.values.Moment.{Moment}
use Rattle.lf_core.specs.declared.values.Value.{Value}
use Rattle.lf_core.specs.declared.values.Value.TheVariants as value
use Rattle.lf_layout.specs.Calendar.{IsDay}
use Rattle.lf_layout.specs.Layouts.{IsMoment}
use Rattle.lf_format.specs.declared.kind.Kind.{Kind}
use Rattle.lf_format.specs.declared.kind.Kind.TheVariants as kind
use Rattle.lf_format.specs.declared.format.Piece.{Piece}
use Rattle.lf_format.specs.declared.format.Piece.TheVariants.{Literal, Slot}
use Rattle.lf_format.specs.declared.slot.Slot.{Slot as OneSlot}
use Rattle.lf_format.specs.Kinds.{HoldsKind}
use Rattle.lf_format.specs.Slots.{Holds}
use Rattle.lf_format.specs.Lines.{IsRecordOf}
use Rattle.lf_format.specs.Keeps.{slots_in}
use Rattle.lf_format.proofs.Deciding.{holds_decided}
use Rattle.lf_expression.specs.declared.expr.Expr.{Expr as CodeExpr}
use Rattle.lf_expression.specs.Answers.{IsDated}
use Rattle.lf_expression.specs.Exprs.{Expr, exprs_said}
use Rattle.lf_map.specs.Shape.{AreKinded}
use Rattle.lf_map.specs.Mapped.{Mapped, Rec, Unmapped, Fills, Makes, mapped_record}

moment_dated : (k : Kind) (m : Moment) → HoldsKind k (value.Moment m) → IsMoment m
moment_dated (kind.Clf d) m h = h.0
moment_dated (kind.Iso d) m h = h.0
moment_dated (kind.IsoMillis d) m h = h.0
moment_dated (kind.Ha d) m h = h.0
moment_dated k m h = absurd h

day_dated : (k : Kind) (day : ℤ) → HoldsKind k (value.Day day) → IsDay day
day_dated (kind.Date d) day h = h
day_dated k day h = absurd h

clock_dated : (k : Kind) (second : ℕ) → HoldsKind k (value.Clock second) → second < 86400
clock_dated (kind.Clock d) second h = h
clock_dated k second h = absurd h

held_dated : (slot : OneSlot) (v : Value) → Holds slot v → IsDated v
held_dated slot (value.Moment m) h = moment_dated slot.kind m h.0
held_dated slot (value.Day day) h = day_dated slot.kind day h.0
held_dated slot (value.Clock second) h = clock_dated slot.kind second h.0
held_dated slot v h = tt

pub all_dated : (pieces : List Piece) (rec : List Value) → IsRecordOf pieces rec → All IsDated rec
all_dated [] [] h = All-nil IsDated
all_dated [] (v ∷ rec) h = absurd h
all_dated (Literal text ∷ pieces) rec h = all_dated pieces rec h
all_dated (Slot slot ∷ pieces) [] h = absurd h
all_dated (Slot slot ∷ pieces) (v ∷ rec) h = All-cons IsDated v rec (held_dated slot v h.0) (all_dated pieces rec h.1)

said_length : (es : List CodeExpr) → length (exprs_said es) ≡ length es
said_length [] = refl
said_length (e ∷ es) = let h = said_length es in omega (arith, h)

kinded_length : (source slots : List OneSlot) (es : List Expr) → AreKinded source slots es → length es ≡ length slots
kinded_length source [] [] h = refl
kinded_length source [] (e ∷ es) h = absurd h
kinded_length source (slot ∷ slots) [] h = absurd h
kinded_length source (slot ∷ slots) (e ∷ es) h = let k = kinded_length source slots es h.1 in omega (arith, k)

pub map_count : (source slots : List OneSlot) (es : List CodeExpr) → AreKinded source slots (exprs_said es) → length es ≡ length slots
map_count source slots es h = sym (said_length es) ∙ kinded_length source slots (exprs_said es) h

filled_one : (k : ℕ) (pieces : List Piece) (values : List (Option Value)) (done : List Value) (one other : Mapped) → Fills k pieces values done one → Fills k pieces values done other → one ≡ other
filled_one k [] values done one other h e = h ∙ sym e
filled_one k (Literal text ∷ pieces) values done one other h e = filled_one k pieces values done one other h e
filled_one k (Slot slot ∷ pieces) [] done one other h e = absurd h
filled_one k (Slot slot ∷ pieces) (None ∷ values) done one other h e = h ∙ sym e
filled_one k (Slot slot ∷ pieces) (Some v ∷ values) done one other (inl h) (inl e) = filled_one (k + 1) pieces values (done ++ v ∷ []) one other h.1 e.1
filled_one k (Slot slot ∷ pieces) (Some v ∷ values) done one other (inl h) (inr e) = absurd (e.0 h.0)
filled_one k (Slot slot ∷ pieces) (Some v ∷ values) done one other (inr h) (inl e) = absurd (h.0 e.0)
filled_one k (Slot slot ∷ pieces) (Some v ∷ values) done one other (inr h) (inr e) = h.1 ∙ sym e.1

pub mapped_one : (target : List Piece) (exprs : List Expr) (rec : List Value) (one other : Mapped) → Makes target exprs rec one → Makes target exprs rec other → one ≡ other
mapped_one target exprs rec one other h e = filled_one 1 target (mapped_record exprs rec) [] one other h e

-- ---- and something

mapped_length : (exprs : List Expr) (rec : List Value) → length (mapped_record exprs rec) ≡ length exprs
mapped_length [] rec = refl
mapped_length (e ∷ es) rec = ap suc (mapped_length es rec)

filled_some : (k : ℕ) (pieces : List Piece) (values : List (Option Value)) (done : List Value) → length values ≡ length (slots_in pieces) → (answer : Mapped) × Fills k pieces values done answer
filled_some k [] values done e = (Rec done, refl)
filled_some k (Literal text ∷ pieces) values done e = filled_some k pieces values done e
filled_some k (Slot slot ∷ pieces) [] done e = absurd (omega (arith, e))
filled_some k (Slot slot ∷ pieces) (None ∷ values) done e = (Unmapped k, refl)
filled_some k (Slot slot ∷ pieces) (Some v ∷ values) done e = elim (holds_decided slot v) [
  | inl held ↦ let more = filled_some (k + 1) pieces values (done ++ v ∷ []) (omega (arith, e)) in (more.0, inl (held, more.1))
  | inr unheld ↦ (Unmapped k, inr (unheld, refl))
]

pub mapped_some : (source slots : List OneSlot) (target : List Piece) (exprs : List Expr) (rec : List Value) → slots ≡ slots_in target → AreKinded source slots exprs → (answer : Mapped) × Makes target exprs rec answer
mapped_some source slots target exprs rec same kinded =
    filled_some 1 target (mapped_record exprs rec) [] (mapped_length exprs rec ∙ kinded_length source slots exprs kinded ∙ ap length same)

-- what is left of the pieces has as many slots as what is left of the expressions
pub count_literal : (pieces : List Piece) (one : Piece) (more : List Piece) (text : List ℕ) (n : ℕ) → pieces ≡ one ∷ more → one ≡ Literal text → n ≡ length (slots_in pieces) → n ≡ length (slots_in more)
count_literal pieces one more text n a b h = h ∙ ap (λ (ps : List Piece). length (slots_in ps)) (a ∙ ap (λ (p : Piece). p ∷ more) b)

pub count_slot : (pieces : List Piece) (one : Piece) (more : List Piece) (slot : OneSlot) (n : ℕ) → pieces ≡ one ∷ more → one ≡ Slot slot → n + 1 ≡ length (slots_in pieces) → n ≡ length (slots_in more)
count_slot pieces one more slot n a b h =
    let e : n + 1 ≡ length (slots_in (Slot slot ∷ more)) = h ∙ ap (λ (ps : List Piece). length (slots_in ps)) (a ∙ ap (λ (p : Piece). p ∷ more) b) in
    omega (arith, e)
