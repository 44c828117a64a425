-- What holds of an item's bytes and of what it gives holds of equal ones.
use Rattle.std.proofs.Common.{◌≡◌, ℕ, List, sym, subst}
use Rattle.lf_spelling.specs.declared.item_reader.Given.{Given}

pub at_both : (P : List ℕ → Given → Type 0) (a b : List ℕ) (g h : Given) → a ≡ b → g ≡ h → P b h → P a g
at_both P a b g h e f p = subst (λ (x : List ℕ). P x g) (sym e) (subst (λ (x : Given). P b x) (sym f) p)
