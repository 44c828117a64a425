-- The least line is one line, and the least record one record.
use Rattle.std.proofs.Common.{◌≡◌, ℕ, inl, inr, List, [], ◌∷◌, length, refl, sym, ap, ◌∙◌, subst, arith}
use Rattle.lf_core.specs.declared.values.Value.{Value}
use Rattle.lf_format.specs.declared.slot.Slot.{Slot as OneSlot}
use Rattle.lf_format.specs.declared.format.Piece.{Piece}
use Rattle.lf_format.specs.declared.format.Piece.TheVariants.{Literal, Slot}
use Rattle.lf_machine.specs.RecordOrder.{IsTextLess, order_text, IsValueLess, IsRecordLess}
use Rattle.lf_product.specs.Walk.{NotAbove, LineLe}
use Rattle.lf_compile.specs.Confused.{IsAtMost}

text_both : (cs ds : List ℕ) → IsTextLess cs ds → IsTextLess ds cs → ⊥
text_both [] [] h g = h
text_both [] (d ∷ ds) h g = g
text_both (c ∷ cs) [] h g = h
text_both (c ∷ cs) (d ∷ ds) (inl h) (inl g) = absurd (omega (arith, h, g))
text_both (c ∷ cs) (d ∷ ds) (inl h) (inr g) = let e = g.0 in absurd (omega (arith, h, e))
text_both (c ∷ cs) (d ∷ ds) (inr h) (inl g) = let e = h.0 in absurd (omega (arith, g, e))
text_both (c ∷ cs) (d ∷ ds) (inr h) (inr g) = text_both cs ds h.1 g.1

not_self : (cs ds : List ℕ) → cs ≡ ds → IsTextLess cs ds → ⊥
not_self cs ds e h = text_both cs ds h (subst (λ (xs : List ℕ). IsTextLess ds xs) (sym e) (subst (λ (xs : List ℕ). IsTextLess xs ds) e h))

value_both : (slot : OneSlot) (v u : Value) → IsValueLess slot v u → IsValueLess slot u v → ⊥
value_both slot v u (inl h) (inl g) = text_both (order_text slot v) (order_text slot u) h g
value_both slot v u (inl h) (inr g) = not_self (order_text slot v) (order_text slot u) (sym g.0) h
value_both slot v u (inr h) (inl g) = not_self (order_text slot u) (order_text slot v) (sym h.0) g
value_both slot v u (inr h) (inr g) = h.2 g.1

value_self : (slot : OneSlot) (v u : Value) → v ≡ u → IsValueLess slot v u → ⊥
value_self slot v u e h = value_both slot v u h (subst (λ (x : Value). IsValueLess slot u x) (sym e) (subst (λ (x : Value). IsValueLess slot x u) e h))

record_both : (pieces : List Piece) (rec other : List Value) → IsRecordLess pieces rec other → IsRecordLess pieces other rec → ⊥
record_both [] rec other h g = h
record_both (Literal text ∷ pieces) rec other h g = record_both pieces rec other h g
record_both (Slot slot ∷ pieces) [] other h g = h
record_both (Slot slot ∷ pieces) (v ∷ rec) [] h g = h
record_both (Slot slot ∷ pieces) (v ∷ rec) (u ∷ other) (inl h) (inl g) = value_both slot v u h g
record_both (Slot slot ∷ pieces) (v ∷ rec) (u ∷ other) (inl h) (inr g) = value_self slot v u (sym g.0) h
record_both (Slot slot ∷ pieces) (v ∷ rec) (u ∷ other) (inr h) (inl g) = value_self slot u v (sym h.0) g
record_both (Slot slot ∷ pieces) (v ∷ rec) (u ∷ other) (inr h) (inr g) = record_both pieces rec other h.1 g.1

-- Two records of which neither is above the other are the same.
pub one_record : (pieces : List Piece) (rec other : List Value) → IsAtMost pieces rec other → IsAtMost pieces other rec → rec ≡ other
one_record pieces rec other (inl e) g = e
one_record pieces rec other (inr h) (inl e) = sym e
one_record pieces rec other (inr h) (inr g) = absurd (record_both pieces rec other h g)

line_both : (cs ds : List ℕ) → length cs ≡ length ds → NotAbove cs ds → NotAbove ds cs → cs ≡ ds
line_both [] [] e h g = refl
line_both [] (d ∷ ds) e h g = absurd (omega (arith, e))
line_both (c ∷ cs) [] e h g = absurd h
line_both (c ∷ cs) (d ∷ ds) e (inl h) (inl g) = absurd (omega (arith, h, g))
line_both (c ∷ cs) (d ∷ ds) e (inl h) (inr g) = let k = g.0 in absurd (omega (arith, h, k))
line_both (c ∷ cs) (d ∷ ds) e (inr h) (inl g) = let k = h.0 in absurd (omega (arith, g, k))
line_both (c ∷ cs) (d ∷ ds) e (inr h) (inr g) = ap (λ (x : ℕ). x ∷ cs) h.0 ∙ ap (λ (xs : List ℕ). d ∷ xs) (line_both cs ds (omega (arith, e)) h.1 g.1)

-- Two lines of which neither is above the other are the same.
pub one_line : (line other : List ℕ) → LineLe line other → LineLe other line → line ≡ other
one_line line other (inl h) (inl g) = absurd (omega (arith, h, g))
one_line line other (inl h) (inr g) = let e = g.0 in absurd (omega (arith, h, e))
one_line line other (inr h) (inl g) = let e = h.0 in absurd (omega (arith, g, e))
one_line line other (inr h) (inr g) = line_both line other h.0 h.1 g.1
