-- The first part of a text, and its other parts.
use Rattle.std.proofs.Common.{◌≡◌, ℕ, ◌+◌, ◌<◌, Bool, cond, true, false, List, [], ◌∷◌, ◌++◌, length, get_or, take, drop, refl, sym, ap, ◌∙◌, append-nil, append_assoc}
use Rattle.std.proofs.lemmas.List.{take_more}
use Rattle.std.proofs.Math.Seq.{drop-length}
use Rattle.lf_syntax.specs.Cuts.{onto_first}
use Rattle.lf_expression.proofs.Cutting.{drop-next}
use Rattle.lf_map.specs.declared.parts.Mode.{Mode}
use Rattle.lf_map.specs.declared.parts.Mode.TheVariants.{Outside}
use Rattle.lf_map.specs.Letters.{mode_after, is_cut, parts_from, front_part, after_part}

abbrev pub further_parts : List ℕ → List (List ℕ)
further_parts [] = []
further_parts (b ∷ w) = parts_from Outside w

pub parts-front : (m : Mode) (w : List ℕ) → parts_from m w ≡ front_part m w ∷ further_parts (after_part m w)
parts-front m [] = refl
parts-front m (b ∷ w) =
    elim (is_cut m b) as (λ t. cond t ([] ∷ parts_from Outside w) (onto_first b (parts_from (mode_after m b) w)) ≡ cond t [] (b ∷ front_part (mode_after m b) w) ∷ further_parts (cond t (b ∷ w) (after_part (mode_after m b) w))) [
      | true ↦ refl
      | false ↦ ap (λ (ps : List (List ℕ)). onto_first b ps) (parts-front (mode_after m b) w)
    ]

pub front-after : (m : Mode) (w : List ℕ) → front_part m w ++ after_part m w ≡ w
front-after m [] = refl
front-after m (b ∷ w) =
    elim (is_cut m b) as (λ t. cond t [] (b ∷ front_part (mode_after m b) w) ++ cond t (b ∷ w) (after_part (mode_after m b) w) ≡ b ∷ w) [
      | true ↦ refl
      | false ↦ ap (λ (v : List ℕ). b ∷ v) (front-after (mode_after m b) w)
    ]

-- a text that has been passed over byte by byte, up to the first `;` outside of strings
pub record Parted (text : List ℕ) (i : ℕ) (mode : Mode) : Type 0 where
  pub front : front_part Outside text ≡ take i text ++ front_part mode (drop i text)
  pub rest : after_part Outside text ≡ after_part mode (drop i text)

module _ (text : List ℕ) (i : ℕ) (mode : Mode) where
  pub step : (next : Mode) → i < length text → next ≡ mode_after mode (get_or text i 0) → is_cut mode (get_or text i 0) ≡ false → Parted text i mode → Parted text (i + 1) next
  step next below n f p =
      let e = drop-next text i below in
      record {
        front =
            p.front ∙ ap (λ (v : List ℕ). take i text ++ front_part mode v) e
            ∙ ap (λ (y : Bool). take i text ++ cond y [] (get_or text i 0 ∷ front_part (mode_after mode (get_or text i 0)) (drop (i + 1) text))) f
            ∙ ap (λ (m : Mode). take i text ++ get_or text i 0 ∷ front_part m (drop (i + 1) text)) (sym n)
            ∙ sym (append_assoc (take i text) (get_or text i 0 ∷ []) (front_part next (drop (i + 1) text)))
            ∙ ap (λ (v : List ℕ). v ++ front_part next (drop (i + 1) text)) (sym (take_more text i 0 below));
        rest =
            p.rest ∙ ap (λ (v : List ℕ). after_part mode v) e
            ∙ ap (λ (y : Bool). cond y (get_or text i 0 ∷ drop (i + 1) text) (after_part (mode_after mode (get_or text i 0)) (drop (i + 1) text))) f
            ∙ ap (λ (m : Mode). after_part m (drop (i + 1) text)) (sym n);
      }

  pub part_found : i < length text → is_cut mode (get_or text i 0) ≡ true → Parted text i mode → take i text ≡ front_part Outside text
  part_found below t p =
      sym (p.front ∙ ap (λ (v : List ℕ). take i text ++ front_part mode v) (drop-next text i below)
      ∙ ap (λ (y : Bool). take i text ++ cond y [] (get_or text i 0 ∷ front_part (mode_after mode (get_or text i 0)) (drop (i + 1) text))) t
      ∙ append-nil (take i text))

  pub after_found : i < length text → is_cut mode (get_or text i 0) ≡ true → Parted text i mode → drop i text ≡ after_part Outside text
  after_found below t p =
      let e = drop-next text i below in
      e ∙ sym (p.rest ∙ ap (λ (v : List ℕ). after_part mode v) e
      ∙ ap (λ (y : Bool). cond y (get_or text i 0 ∷ drop (i + 1) text) (after_part (mode_after mode (get_or text i 0)) (drop (i + 1) text))) t)

pub part_whole : (text : List ℕ) (mode : Mode) → Parted text (length text) mode → take (length text) text ≡ front_part Outside text
part_whole text mode p = sym (p.front ∙ ap (λ (v : List ℕ). take (length text) text ++ front_part mode v) (drop-length text) ∙ append-nil (take (length text) text))

pub after_whole : (text : List ℕ) (mode : Mode) → Parted text (length text) mode → drop (length text) text ≡ after_part Outside text
after_whole text mode p = drop-length text ∙ sym (p.rest ∙ ap (λ (v : List ℕ). after_part mode v) (drop-length text))
