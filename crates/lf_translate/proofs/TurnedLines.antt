-- What a line is turned to by a map that a text is.
use Rattle.std.proofs.Common.{◌∙◌, ℕ, List, ap, subst}
use Rattle.lf_core.specs.declared.values.Value.{Value}
use Rattle.lf_format.specs.Lines.{Prints, line_text}
use Rattle.lf_format.specs.Shape.{Shape}
use Rattle.lf_expression.specs.Exprs.{exprs_said}
use Rattle.lf_map.specs.Filling.{IsMapOf}
use Rattle.lf_map.specs.Mapped.{Mapped, Makes, IsMapped}
use Rattle.lf_map.specs.Shape.{MapShape}
use Rattle.lf_map.specs.Mapped as mapped
use Rattle.lf_translate.specs.Turning.{IsTurned}
use Rattle.lf_translate.specs.declared.turning.Turned.{Turned}
use Rattle.lf_translate.specs.declared.turning.Turned.TheVariants.{Line, Unmapped}
use Rattle.lf_translate.specs.Translations.{TurnsTo, IsTurnedTo}

module _ (text : List ℕ) (source target : Shape) (map : MapShape) (is : IsMapOf text source target map) where
  turns_to : (line : List ℕ) (rec : List Value) (made : Mapped) → Prints source.pieces rec line → IsMapped map rec made → TurnsTo (record { source = source; target = target; map = text }) line made
  turns_to line rec made p h = record {
    read = rec;
    prints = p;
    exprs = exprs_said map.exprs;
    maps = is.parses;
    makes = subst (λ (t : Shape). Makes t.pieces (exprs_said map.exprs) rec made) is.target_is h;
  }

  -- The record prints the line, and the line is turned to what it is translated to.
  pub turns : (line : List ℕ) (rec : List Value) (turned : Turned) → Prints source.pieces rec line → IsTurned map rec turned → IsTurnedTo (record { source = source; target = target; map = text }) line turned
  turns line rec (Line out) p h = (h.0, turns_to line rec (mapped.Rec h.0) p h.1, h.2 ∙ ap (λ (t : Shape). line_text t.pieces h.0) is.target_is)
  turns line rec (Unmapped k) p h = turns_to line rec (mapped.Unmapped k) p h
