-- Prefixes of words, and what a new word keeps of a list.
use Rattle.std.proofs.Common.{◌≡◌, ◌≢◌, ℕ, ◌+◌, ◌<◌, ◌≤◌, List, [], ◌∷◌, ◌++◌, length, drop, get_or, Bool, true, false, nat_eq, arith, refl, sym, ap, ◌∙◌, inl, inr, append_assoc, Contains}
use Rattle.std.specs.List.{starts_with}
use Rattle.std.proofs.lemmas.Bool.{cases_Bool}
use Rattle.std.proofs.lemmas.Bool.Decides.{Decides-eqb}
use Rattle.std.proofs.lemmas.List.{drop_more, get_or_at, get_or_default}
use Rattle.std.proofs.lemmas.List.Quantifiers.{all_pairs_push}
use Rattle.std.proofs.lemmas.List.Sums.{sum_by_push}
use Rattle.lf_domain.specs.WordLaws.{front_rest, front_found}
use Rattle.lf_domain.specs.WordLists.{letter_count, IsWordList}

-- what can't be true is false
otherwise : (b : Bool) → (b ≡ true → ⊥) → b ≡ false
otherwise true h = absurd (h refl)
otherwise false h = refl

-- a word that doesn't begin with the prefix doesn't begin with a longer one
pub front-other : (word front : List ℕ) (c : ℕ) → starts_with nat_eq word front ≡ false → starts_with nat_eq word (front ++ c ∷ []) ≡ false
front-other word front c h =
    otherwise (starts_with nat_eq word (front ++ c ∷ [])) (λ t.
    let rest = drop (length (front ++ c ∷ [])) word in
    let e : word ≡ front ++ (c ∷ rest) = front_rest word (front ++ c ∷ []) t ∙ append_assoc front (c ∷ []) rest in
    let f = front_found word front (c ∷ rest) e in
    absurd (cc))

-- a word that begins with the prefix begins with one more letter where that is its next
pub front-last : (word front : List ℕ) (c : ℕ) → starts_with nat_eq word front ≡ true → length front < length word → nat_eq (get_or word (length front) 0) c ≡ starts_with nat_eq word (front ++ c ∷ [])
front-last word front c t h =
    let x = get_or word (length front) 0 in
    elim (cases_Bool (nat_eq x c)) [
      | inl y ↦
          let z : x ≡ c = (Decides-eqb x c).0 y in
          let rest = drop (length front + 1) word in
          let d : drop (length front) word ≡ c ∷ rest = drop_more word (length front) 0 h ∙ ap (λ (k : ℕ). k ∷ rest) z in
          let e : word ≡ (front ++ c ∷ []) ++ rest = front_rest word front t ∙ ap (λ (r : List ℕ). front ++ r) d ∙ sym (append_assoc front (c ∷ []) rest) in
          y ∙ sym (front_found word (front ++ c ∷ []) rest e)
      | inr n ↦
          n ∙ sym (otherwise (starts_with nat_eq word (front ++ c ∷ [])) (λ u.
          let rest = drop (length (front ++ c ∷ [])) word in
          let e : word ≡ front ++ (c ∷ rest) = front_rest word (front ++ c ∷ []) u ∙ append_assoc front (c ∷ []) rest in
          let z : x ≡ c = ap (λ (w : List ℕ). get_or w (length front) 0) e ∙ get_or_at front c rest 0 (length front) refl in
          let y = (Decides-eqb x c).1 z in
          absurd (cc)))
    ]

-- a new word keeps the list's rules
pub word_list-push : (words : List (List ℕ)) (word : List ℕ) → IsWordList words → (Contains words word → ⊥) → letter_count words + length word ≤ 1000000 → IsWordList (words ++ word ∷ [])
word_list-push words word is new room = record {
  apart = all_pairs_push (λ one other. one ≢ other) words word is.apart (λ k d h. λ e. new (k, h, get_or_default words k word d h ∙ e));
  few = omega (arith, sum_by_push length words word);
}
