-- From a state one record is drawn and no other.
use Rattle.std.proofs.Common.{◌≡◌, ℕ, ◌⊎◌, inl, inr, List, [], ◌∷◌, length, Option, None, Some, refl, sym, ap, subst, ◌∙◌, arith}
use Rattle.lf_core.specs.declared.values.Value.{Value}
use Rattle.lf_format.specs.Keeps.{KeepsSlot, EachKept}
use Rattle.lf_format.specs.Slots.{Holds, slot_text}
use Rattle.lf_format.specs.declared.slot.Slot.{Slot as OneSlot}
use Rattle.lf_format.specs.declared.format.Piece.{Piece}
use Rattle.lf_format.specs.declared.format.Piece.TheVariants.{Literal, Slot}
use Rattle.lf_format.proofs.Deciding.{holds_decided}
use Rattle.lf_machine.specs.RecordOrder.{IsTextLess, order_text, IsValueLess}
use Rattle.lf_product.specs.Walk.{NotAbove, LineLe}
use Rattle.lf_gen.specs.Draws.{candidate}
use Rattle.lf_gen.specs.Drawn.{IsTaken, IsDrawnValue, IsDrawn, slot_state}
use Rattle.lf_gen.specs.Least.{IsLeastValue}
use Rattle.lf_gen.proofs.Existence.{some_least_value}

-- ---- the least value is one

text_both : (cs ds : List ℕ) → IsTextLess cs ds → IsTextLess ds cs → ⊥
text_both [] [] h g = h
text_both [] (d ∷ ds) h g = g
text_both (c ∷ cs) [] h g = h
text_both (c ∷ cs) (d ∷ ds) (inl h) (inl g) = absurd (omega (arith, h, g))
text_both (c ∷ cs) (d ∷ ds) (inl h) (inr g) = let e = g.0 in absurd (omega (arith, h, e))
text_both (c ∷ cs) (d ∷ ds) (inr h) (inl g) = let e = h.0 in absurd (omega (arith, g, e))
text_both (c ∷ cs) (d ∷ ds) (inr h) (inr g) = text_both cs ds h.1 g.1

not_self : (cs ds : List ℕ) → cs ≡ ds → IsTextLess cs ds → ⊥
not_self cs ds e h = text_both cs ds h (subst (λ (xs : List ℕ). IsTextLess ds xs) (sym e) (subst (λ (xs : List ℕ). IsTextLess xs ds) e h))

value_both : (slot : OneSlot) (v u : Value) → IsValueLess slot v u → IsValueLess slot u v → ⊥
value_both slot v u (inl h) (inl g) = text_both (order_text slot v) (order_text slot u) h g
value_both slot v u (inl h) (inr g) = not_self (order_text slot v) (order_text slot u) (sym g.0) h
value_both slot v u (inr h) (inl g) = not_self (order_text slot u) (order_text slot v) (sym h.0) g
value_both slot v u (inr h) (inr g) = h.2 g.1

line_both : (cs ds : List ℕ) → length cs ≡ length ds → NotAbove cs ds → NotAbove ds cs → cs ≡ ds
line_both [] [] e h g = refl
line_both [] (d ∷ ds) e h g = absurd (omega (arith, e))
line_both (c ∷ cs) [] e h g = absurd h
line_both (c ∷ cs) (d ∷ ds) e (inl h) (inl g) = absurd (omega (arith, h, g))
line_both (c ∷ cs) (d ∷ ds) e (inl h) (inr g) = let k = g.0 in absurd (omega (arith, h, k))
line_both (c ∷ cs) (d ∷ ds) e (inr h) (inl g) = let k = h.0 in absurd (omega (arith, g, k))
line_both (c ∷ cs) (d ∷ ds) e (inr h) (inr g) = ap (λ (x : ℕ). x ∷ cs) h.0 ∙ ap (λ (xs : List ℕ). d ∷ xs) (line_both cs ds (omega (arith, e)) h.1 g.1)

same_line : (line other : List ℕ) → LineLe line other → LineLe other line → line ≡ other
same_line line other (inl h) (inl g) = absurd (omega (arith, h, g))
same_line line other (inl h) (inr g) = let e = g.0 in absurd (omega (arith, h, e))
same_line line other (inr h) (inl g) = let e = h.0 in absurd (omega (arith, g, e))
same_line line other (inr h) (inr g) = line_both line other h.0 h.1 g.1

neither_less : (slot : OneSlot) (v u : Value) → (v ≡ u) ⊎ IsValueLess slot v u → (u ≡ v) ⊎ IsValueLess slot u v → v ≡ u
neither_less slot v u (inl e) g = e
neither_less slot v u (inr h) (inl e) = sym e
neither_less slot v u (inr h) (inr g) = absurd (value_both slot v u h g)

one_least : (slot : OneSlot) (v u : Value) → IsLeastValue slot v → IsLeastValue slot u → v ≡ u
one_least slot v u h g =
    let same = same_line (slot_text slot v) (slot_text slot u) (h.text u g.held) (g.text v h.held) in
    neither_less slot v u (h.ties u g.held (sym same)) (g.ties v h.held same)

-- ---- the drawn value is one

none_taken : (slot : OneSlot) (x : ℕ) → candidate slot.kind x ≡ None → (c : Value) → IsTaken slot x c → ⊥
none_taken slot x none c h = let bad = sym none ∙ h.0 in cc

same_candidate : (slot : OneSlot) (x : ℕ) (c d : Value) → candidate slot.kind x ≡ Some c → candidate slot.kind x ≡ Some d → c ≡ d
same_candidate slot x c d e f = let same = sym e ∙ f in cc

not_taken : (slot : OneSlot) (x : ℕ) (c : Value) → candidate slot.kind x ≡ Some c → (Holds slot c → ⊥) → (d : Value) → IsTaken slot x d → ⊥
not_taken slot x c is never d h = never (subst (Holds slot) (sym (same_candidate slot x c d is h.0)) h.1)

one_if_none : (slot : OneSlot) (x : ℕ) (v u : Value) → ((c : Value) → IsTaken slot x c → ⊥) → IsDrawnValue slot x v → IsDrawnValue slot x u → v ≡ u
one_if_none slot x v u never h g = one_least slot v u (h.least never) (g.least never)

one_by_candidate : (slot : OneSlot) (x : ℕ) (o : Option Value) (v u : Value) → candidate slot.kind x ≡ o → IsDrawnValue slot x v → IsDrawnValue slot x u → v ≡ u
one_by_candidate slot x None v u is h g = one_if_none slot x v u (none_taken slot x is) h g
one_by_candidate slot x (Some c) v u is h g = elim (holds_decided slot c) [
  | inl held ↦ h.taken c (is, held) ∙ sym (g.taken c (is, held))
  | inr never ↦ one_if_none slot x v u (not_taken slot x c is never) h g
]

one_value : (slot : OneSlot) (x : ℕ) (v u : Value) → IsDrawnValue slot x v → IsDrawnValue slot x u → v ≡ u
one_value slot x v u h g = one_by_candidate slot x (candidate slot.kind x) v u refl h g

-- A state draws no two records.
pub one_drawn : (pieces : List Piece) (x : ℕ) (rec other : List Value) → IsDrawn pieces x rec → IsDrawn pieces x other → rec ≡ other
one_drawn [] x [] [] h g = refl
one_drawn [] x [] (u ∷ other) h g = absurd g
one_drawn [] x (v ∷ rec) other h g = absurd h
one_drawn (Literal text ∷ pieces) x rec other h g = one_drawn pieces x rec other h g
one_drawn (Slot slot ∷ pieces) x [] other h g = absurd h
one_drawn (Slot slot ∷ pieces) x (v ∷ rec) [] h g = absurd g
one_drawn (Slot slot ∷ pieces) x (v ∷ rec) (u ∷ other) h g =
    ap (λ (w : Value). w ∷ rec) (one_value slot x v u h.0 g.0) ∙ ap (λ (ws : List Value). u ∷ ws) (one_drawn pieces (slot_state slot x) rec other h.1 g.1)

-- ---- a record is drawn

some_if_none : (slot : OneSlot) (x : ℕ) → KeepsSlot slot → ((c : Value) → IsTaken slot x c → ⊥) → (v : Value) × IsDrawnValue slot x v
some_if_none slot x kept never =
    let least = some_least_value slot kept in
    (least.0, record { held = least.1.held; taken = λ c h. absurd (never c h); least = λ _. least.1 })

some_by_candidate : (slot : OneSlot) (x : ℕ) (o : Option Value) → candidate slot.kind x ≡ o → KeepsSlot slot → (v : Value) × IsDrawnValue slot x v
some_by_candidate slot x None is kept = some_if_none slot x kept (none_taken slot x is)
some_by_candidate slot x (Some c) is kept = elim (holds_decided slot c) [
  | inl held ↦ (c, record { held = held; taken = λ d h. same_candidate slot x c d is h.0; least = λ never. absurd (never c (is, held)) })
  | inr never ↦ some_if_none slot x kept (not_taken slot x c is never)
]

-- Each state draws a record of what a format keeps.
pub some_drawn : (pieces : List Piece) (x : ℕ) → EachKept pieces → (rec : List Value) × IsDrawn pieces x rec
some_drawn [] x kept = ([], tt)
some_drawn (Literal text ∷ pieces) x kept = let rest = some_drawn pieces x kept.1 in (rest.0, rest.1)
some_drawn (Slot slot ∷ pieces) x kept =
    let first = some_by_candidate slot x (candidate slot.kind x) refl kept.0 in
    let rest = some_drawn pieces (slot_state slot x) kept.1 in
    (first.0 ∷ rest.0, (first.1, rest.1))
