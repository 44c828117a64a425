-- The table of a code's proper prefixes.
use Rattle.std.specs.Prelude.{◌≡◌, ℕ, zero, suc, List, [], ◌∷◌, ◌++◌, Option, None, Some, Bool, true, false, cond, ◌==◌, ◌&&◌}
use Rattle.std.proofs.Common.{refl, arith}
use Rattle.std.proofs.lemmas.Bool.Decides.{nat_tests}
use Rattle.std.proofs.lemmas.Bool.{and_parts}
use Rattle.lf_escape.specs.Codings.{coding_takes, coding_word}
use Rattle.lf_escape.specs.declared.coding.Coding.{Coding}

-- the two lists are one
abbrev pub same_list : List ℕ → List ℕ → Bool
same_list [] [] = true
same_list [] (y ∷ ys) = false
same_list (x ∷ xs) [] = false
same_list (x ∷ xs) (y ∷ ys) = (x == y) && same_list xs ys

-- where the text first stands in the table
abbrev pub index_of : List (List ℕ) → List ℕ → Option ℕ
index_of [] text = None
index_of (t ∷ table) text = cond (same_list t text) (Some 0) (elim (index_of table text) [ None ↦ None | Some i ↦ Some (suc i) ])

-- the table with the text, unless it stands there
abbrev pub added : List (List ℕ) → List ℕ → List (List ℕ)
added table text = elim (index_of table text) [ None ↦ table ++ text ∷ [] | Some i ↦ table ]

-- the table with the proper prefixes of a word, the first of which was read
abbrev pub with_prefixes : List (List ℕ) → List ℕ → List ℕ → List (List ℕ)
with_prefixes table read [] = table
with_prefixes table read (b ∷ rest) = with_prefixes (added table read) (read ++ b ∷ []) rest

-- the proper prefixes of the words of the letters below n, each once
unfoldable pub prefix_table : (ℕ → Bool) → (ℕ → List ℕ) → ℕ → List (List ℕ)
prefix_table takes word zero = [] ∷ []
prefix_table takes word (suc n) = cond (takes n) (with_prefixes (prefix_table takes word n) [] (word n)) (prefix_table takes word n)

-- the proper prefixes of a code's words, each once
abbrev pub table_of : Coding → List (List ℕ)
table_of code = prefix_table (coding_takes code) (coding_word code) 256

pub same_list-true : (xs ys : List ℕ) → same_list xs ys ≡ true → xs ≡ ys
same_list-true [] [] h = refl
same_list-true [] (y ∷ ys) h = cc
same_list-true (x ∷ xs) [] h = cc
same_list-true (x ∷ xs) (y ∷ ys) h =
    let t = and_parts (x == y) (same_list xs ys) h in
    let e : x ≡ y = grind (arith, nat_tests, t.0) in
    let r : xs ≡ ys = same_list-true xs ys t.1 in
    cc

pub true-same_list : (xs : List ℕ) → same_list xs xs ≡ true
true-same_list [] = refl
true-same_list (x ∷ xs) =
    let e : (x == x) ≡ true = grind (arith, nat_tests) in
    rw (e, true-same_list xs)
