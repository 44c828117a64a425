-- Texts cut in two.
use Rattle.std.proofs.Common.{◌≡◌, ℕ, List, ◌++◌, take, drop, sym, ap, ◌∙◌}
use Rattle.std.proofs.lemmas.List.{take-append-drop}

-- A text is cut in two.
pub cut-parts : (n : ℕ) (text front back : List ℕ) → front ≡ take n text → back ≡ drop n text → text ≡ front ++ back
cut-parts n text front back f b =
    sym (take-append-drop n text) ∙ ap (λ (s : List ℕ). s ++ drop n text) (sym f) ∙ ap (λ (s : List ℕ). front ++ s) (sym b)
