-- A part between two brackets is taken apart: the parts together are the text, and spelled parts are found again.
use Rattle.std.proofs.Common.{◌≡◌, ℕ, Bool, true, false, cond, not, eqb, List, [], ◌∷◌, ◌++◌, Option, Some, None, refl, sym, ap, subst, ◌∙◌, append_assoc, eq-eqb, inl, inr}
use Rattle.std.specs.List.{list_all}
use Rattle.std.proofs.lemmas.Bool.{eqb-true, cases_Bool, not-false}
use Rattle.lf_spelling.specs.Runs.{run, past}
use Rattle.lf_spelling.specs.RunLaws.{run_join, run_all, past_stop, run_again}
use Rattle.lf_spelling.specs.Texts.{is_nothing, begins_with, without_first}
use Rattle.lf_spelling.specs.Enclosed.{is_not, HoldsNo, enclosed, is_unclosed, part_of, after_part, IsPart}

-- The text is the part between its brackets, or none, and the rest.
pub record IsEnclosed (opening closing : ℕ) (text : List ℕ) (part : Option (List ℕ)) (rest : List ℕ) : Type 0 where
  pub parts : text ≡ enclosed opening closing part ++ rest
  pub closed : HoldsNo closing part

enclosed_here : (opening closing : ℕ) (text rest : List ℕ) → past (is_not closing) text ≡ rest → is_nothing rest ≡ false → IsEnclosed opening closing (opening ∷ text) (Some (run (is_not closing) text)) (without_first rest)
enclosed_here opening closing text [] is some = absurd cc
enclosed_here opening closing text (c ∷ more) is some =
    let end : c ≡ closing = eqb-true c closing (not-false (eqb c closing) (past_stop (is_not closing) text c more is)) in
    let parts : text ≡ run (is_not closing) text ++ closing ∷ more = sym (run_join (is_not closing) text) ∙ ap (λ (t : List ℕ). run (is_not closing) text ++ t) (is ∙ ap (λ (n : ℕ). n ∷ more) end) in
    record { parts = ap (λ (t : List ℕ). opening ∷ t) (parts ∙ sym (append_assoc (run (is_not closing) text) (closing ∷ []) more)); closed = run_all (is_not closing) text }

-- Unless a bracket is left open, the part and what follows it are the text.
pub enclosed_parts : (opening closing : ℕ) (text : List ℕ) → is_unclosed opening closing text ≡ false → IsEnclosed opening closing text (part_of opening closing text) (after_part opening closing text)
enclosed_parts opening closing [] h = record { parts = refl; closed = tt }
enclosed_parts opening closing (b ∷ text) h = elim (cases_Bool (eqb b opening)) [
  | inl e ↦
      let some : is_nothing (past (is_not closing) text) ≡ false = rw e at h in
      let here : IsEnclosed opening closing (b ∷ text) (Some (run (is_not closing) text)) (without_first (past (is_not closing) text)) =
      subst (λ (n : ℕ). IsEnclosed opening closing (n ∷ text) (Some (run (is_not closing) text)) (without_first (past (is_not closing) text))) (sym (eqb-true b opening e)) (enclosed_here opening closing text (past (is_not closing) text) refl some) in
      rw e here
  | inr e ↦ let here : IsEnclosed opening closing (b ∷ text) None (b ∷ text) = record { parts = refl; closed = tt } in rw e here
]

-- Before a text that opens no bracket a part is found again.
pub part_again : (opening closing : ℕ) (part : Option (List ℕ)) (after : List ℕ) → HoldsNo closing part → begins_with opening after ≡ false → IsPart opening closing (enclosed opening closing part ++ after) part after
part_again opening closing None [] closed other = record { part_is = refl; rest_is = refl; shut = refl }
part_again opening closing None (b ∷ text) closed other = record {
  part_is = ap (λ v. cond v (Some (run (is_not closing) text)) None) other;
  rest_is = ap (λ v. cond v (without_first (past (is_not closing) text)) (b ∷ text)) other;
  shut = ap (λ v. cond v (is_nothing (past (is_not closing) text)) false) other;
}
part_again opening closing (Some p) after closed other =
    let same : eqb opening opening ≡ true = eq-eqb opening opening refl in
    let stop : not (is_not closing closing) ≡ true = ap (λ v. not (not v)) (eq-eqb closing closing refl) in
    let more = run_again (is_not closing) p (closing ∷ after) closed stop in
    let parts : (p ++ closing ∷ []) ++ after ≡ p ++ closing ∷ after = append_assoc p (closing ∷ []) after in
    record {
      part_is = ap (λ v. cond v (Some (run (is_not closing) ((p ++ closing ∷ []) ++ after))) None) same ∙ ap (λ (t : List ℕ). Some (run (is_not closing) t)) parts ∙ ap (λ (t : List ℕ). Some t) more.front_is;
      rest_is = ap (λ v. cond v (without_first (past (is_not closing) ((p ++ closing ∷ []) ++ after))) (opening ∷ ((p ++ closing ∷ []) ++ after))) same ∙ ap (λ (t : List ℕ). without_first (past (is_not closing) t)) parts ∙ ap without_first more.back_is;
      shut = ap (λ v. cond v (is_nothing (past (is_not closing) ((p ++ closing ∷ []) ++ after))) false) same ∙ ap (λ (t : List ℕ). is_nothing (past (is_not closing) t)) parts ∙ ap is_nothing more.back_is;
    }
