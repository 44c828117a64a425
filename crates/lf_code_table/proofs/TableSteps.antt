-- The table of a code's prefixes, text by text and letter by letter.
use Rattle.std.proofs.Common.{◌≡◌, ℕ, ◌+◌, List, [], ◌∷◌, Bool, cond, refl, add-one}
use Rattle.lf_code_table.specs.Table.{with_prefixes, prefix_table}

module _ (takes : ℕ → Bool) (word : ℕ → List ℕ) where
  pub table_none : prefix_table takes word 0 ≡ [] ∷ []
  unfolding prefix_table
  table_none = refl

  pub table_more : (n : ℕ) → cond (takes n) (with_prefixes (prefix_table takes word n) [] (word n)) (prefix_table takes word n) ≡ prefix_table takes word (n + 1)
  unfolding prefix_table
  table_more n = rw add-one refl
