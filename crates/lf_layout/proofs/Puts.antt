-- Pieces put one after the other.
use Rattle.std.proofs.Common.{◌≡◌, ℕ, List, ◌++◌, ap, ◌∙◌, append_assoc}

pub five_pieces : (t u v w x y a b c d e : List ℕ) → u ≡ t ++ a → v ≡ u ++ b → w ≡ v ++ c → x ≡ w ++ d → y ≡ x ++ e → y ≡ t ++ (a ++ (b ++ (c ++ (d ++ e))))
five_pieces t u v w x y a b c d e f g h i j =
    j ∙ ap (λ (s : List ℕ). s ++ e) (i ∙ ap (λ (s : List ℕ). s ++ d) (h ∙ ap (λ (s : List ℕ). s ++ c) (g ∙ ap (λ (s : List ℕ). s ++ b) f)))
    ∙ simp append_assoc
