-- Texts that are added in parts, and records that have a JSON text.
use Rattle.std.proofs.Common.{◌≡◌, ℕ, List, ◌++◌, ap, ◌∙◌, append_assoc}

-- One part was added, and then another.
pub added_more : (old mid new a b : List ℕ) → mid ≡ old ++ a → new ≡ mid ++ b → new ≡ old ++ (a ++ b)
added_more old mid new a b p q = q ∙ ap (λ (x : List ℕ). x ++ b) p ∙ append_assoc old a b
