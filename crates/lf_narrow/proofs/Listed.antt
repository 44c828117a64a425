-- What a set lists, byte by byte.
use Rattle.std.proofs.Common.{◌≡◌, ℕ, Bool, cond, ◌||◌, Option, None, Some, List, ◌∷◌, sym, ap, ◌∙◌}
use Rattle.std.specs.Option.{unwrap_or}
use Rattle.std.proofs.Math.Bool.{or_assoc}
use Rattle.lf_syntax.specs.Leaf.{is_within}
use Rattle.lf_narrow.specs.declared.sets.Stage.{Stage}
use Rattle.lf_narrow.specs.declared.sets.Stage.TheVariants.{Fresh}
use Rattle.lf_narrow.specs.Terms.{item_by, stage_after, is_dash, is_listed}

module _ (x b : ℕ) (stage : Stage) (first : Option ℕ) (last : ℕ) (w : List ℕ) where
  abbrev listed_by : Option ℕ → Bool
  listed_by o = elim o [ None ↦ is_listed x (stage_after stage b) (cond (is_dash stage b) (Some last) first) last w | Some item ↦ is_within (unwrap_or first item) item x || is_listed x Fresh None item w ]

  pub item_listed : (item : ℕ) (m n : Bool) → item_by stage b ≡ Some item → n ≡ (m || is_within (unwrap_or first item) item x) → (n || is_listed x Fresh None item w) ≡ (m || is_listed x stage first last (b ∷ w))
  item_listed item m n e k =
      ap (λ (t : Bool). t || is_listed x Fresh None item w) k
      ∙ or_assoc m (is_within (unwrap_or first item) item x) (is_listed x Fresh None item w)
      ∙ ap (λ (o : Option ℕ). m || listed_by o) (sym e)

  pub byte_listed : (m : Bool) → item_by stage b ≡ None → (m || is_listed x (stage_after stage b) (cond (is_dash stage b) (Some last) first) last w) ≡ (m || is_listed x stage first last (b ∷ w))
  byte_listed m e = ap (λ (o : Option ℕ). m || listed_by o) (sym e)
