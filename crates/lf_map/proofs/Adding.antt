-- What is added of the pieces that are left, piece by piece.
use Rattle.std.proofs.Common.{◌≡◌, ℕ, ◌+◌, inl, true, List, [], ◌∷◌, ◌++◌, sym, ap, subst, ◌∙◌, append_assoc}
use Rattle.std.specs.Prelude.{Option, None, Some}
use Rattle.lf_core.specs.Adds.{BeginsWith}
use Rattle.lf_core.specs.declared.values.Value.{Value}
use Rattle.lf_format.specs.declared.format.Piece.{Piece}
use Rattle.lf_format.specs.declared.format.Piece.TheVariants.{Slot}
use Rattle.lf_format.specs.declared.slot.Slot.{Slot as OneSlot}
use Rattle.lf_format.specs.Lines.{line_text}
use Rattle.lf_format.specs.Slots.{slot_text}
use Rattle.lf_expression.specs.declared.expr.Expr.{Expr as CodeExpr}
use Rattle.lf_expression.specs.Exprs.{expr_said, exprs_said}
use Rattle.lf_expression.specs.Values.{expr_value}
use Rattle.lf_map.specs.Mapped.{Rec, Fills, mapped_record}
use Rattle.lf_map.specs.Shape.{MapShape}
use Rattle.lf_map.specs.Written.{IsAdded, AddsRest, IsWritten}

begins_after : (old mid new part : List ℕ) → mid ≡ old ++ part → BeginsWith new mid → BeginsWith new old
begins_after old mid new part m b = (part ++ b.0, b.1 ∙ ap (λ (x : List ℕ). x ++ b.0) m ∙ append_assoc old part b.0)

line_after : (old mid new part line : List ℕ) → mid ≡ old ++ part → new ≡ mid ++ line → new ≡ old ++ (part ++ line)
line_after old mid new part line m n = n ∙ ap (λ (x : List ℕ). x ++ line) m ∙ append_assoc old part line

-- The first piece is a slot, which gets the first expression's value.
module _ (k : ℕ) (slot : OneSlot) (more pieces : List Piece) (expr : CodeExpr) (others exprs : List CodeExpr) (rec : List Value) (old : List ℕ)
    (pieces_are : pieces ≡ Slot slot ∷ more) (exprs_are : exprs ≡ expr ∷ others) where
  as_cut : (unmapped : Option ℕ) (new : List ℕ) →
      AddsRest k (Slot slot ∷ more) (expr_value (expr_said expr) rec ∷ mapped_record (exprs_said others) rec) unmapped old new →
      AddsRest k pieces (mapped_record (exprs_said exprs) rec) unmapped old new
  as_cut unmapped new r =
      subst (λ (es : List CodeExpr). AddsRest k pieces (mapped_record (exprs_said es) rec) unmapped old new) (sym exprs_are)
      (subst (λ (ps : List Piece). AddsRest k ps (expr_value (expr_said expr) rec ∷ mapped_record (exprs_said others) rec) unmapped old new) (sym pieces_are) r)

  goes_on : (values : List (Option Value)) (v : Option Value) (unmapped : Option ℕ) (mid new : List ℕ) →
      IsAdded true slot v old mid → AddsRest (k + 1) more values unmapped mid new → AddsRest k (Slot slot ∷ more) (v ∷ values) unmapped old new
  goes_on values None unmapped mid new h r = absurd h
  goes_on values (Some v) None mid new h r = (
    v ∷ r.0,
    λ done. inl (h.0, subst (λ (w : List Value). Fills (k + 1) more values (done ++ v ∷ []) (Rec w)) (append_assoc done (v ∷ []) r.0) (r.1 (done ++ v ∷ []))),
    line_after old mid new (slot_text slot v) (line_text more r.0) h.1 r.2,
  )
  goes_on values (Some v) (Some n) mid new h r = (λ done. inl (h.0, r.0 (done ++ v ∷ [])), begins_after old mid new (slot_text slot v) h.1 r.1)

  pub rest_goes_on : (mid new : List ℕ) (unmapped : Option ℕ) → IsAdded true slot (expr_value (expr_said expr) rec) old mid →
      AddsRest (k + 1) more (mapped_record (exprs_said others) rec) unmapped mid new → AddsRest k pieces (mapped_record (exprs_said exprs) rec) unmapped old new
  rest_goes_on mid new unmapped h r =
      as_cut unmapped new (goes_on (mapped_record (exprs_said others) rec) (expr_value (expr_said expr) rec) unmapped mid new h r)

-- What is added of all pieces is what is written of the record.
module _ (map : MapShape) (pieces : List Piece) (exprs : List CodeExpr) (rec : List Value) (old new : List ℕ) (pieces_are : pieces ≡ map.target.pieces) (exprs_are : exprs ≡ map.exprs) where
  whole : AddsRest 1 pieces (mapped_record (exprs_said exprs) rec) None old new → AddsRest 1 map.target.pieces (mapped_record (exprs_said map.exprs) rec) None old new
  whole r =
      subst (λ (es : List CodeExpr). AddsRest 1 map.target.pieces (mapped_record (exprs_said es) rec) None old new) exprs_are
      (subst (λ (ps : List Piece). AddsRest 1 ps (mapped_record (exprs_said exprs) rec) None old new) pieces_are r)

  pub written : AddsRest 1 pieces (mapped_record (exprs_said exprs) rec) None old new → IsWritten map rec None old new
  written r = let w = whole r in (w.0, w.1 [], w.2)
