-- Parts of a list, from one place up to another.
use Rattle.std.proofs.Common.{◌≡◌, ℕ, ◌+◌, ◌<◌, ◌≤◌, List, ◌∷◌, ◌++◌, length, get_or, drop, sym, ◌∙◌, ap, arith, append_assoc}
use Rattle.std.specs.List.{slice_range}
use Rattle.std.proofs.lemmas.List.{drop_more, append_cancel_right}
use Rattle.std.proofs.lemmas.List.Folds.{drop_split}

-- A part is its start and its rest.
pub span_join : (xs : List ℕ) (i j k : ℕ) → i ≤ j → j ≤ k → slice_range xs i k ≡ slice_range xs i j ++ slice_range xs j k
span_join xs i j k low high =
    append_cancel_right (slice_range xs i k) (slice_range xs i j ++ slice_range xs j k) (drop k xs)
    (sym (drop_split xs i k (omega arith)) ∙ drop_split xs i j low ∙ ap (λ zs. slice_range xs i j ++ zs) (drop_split xs j k high) ∙ sym (append_assoc (slice_range xs i j) (slice_range xs j k) (drop k xs)))

-- A part begins with the byte at its place.
pub span_first : (xs : List ℕ) (i k : ℕ) → i < k → k ≤ length xs → slice_range xs i k ≡ get_or xs i 0 ∷ slice_range xs (i + 1) k
span_first xs i k low high =
    append_cancel_right (slice_range xs i k) (get_or xs i 0 ∷ slice_range xs (i + 1) k) (drop k xs)
    (sym (drop_split xs i k (omega arith)) ∙ drop_more xs i 0 (omega arith) ∙ ap (λ zs. get_or xs i 0 ∷ zs) (drop_split xs (i + 1) k (omega arith)))
