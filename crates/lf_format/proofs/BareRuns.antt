-- Letters that are their own words, and what is left after a part was added.
use Rattle.std.proofs.Common.{◌≡◌, ℕ, suc, ◌+◌, true, List, [], ◌∷◌, ◌++◌, length, take, drop, refl, sym, ap, subst, ◌∙◌, append_assoc, append-nil, arith}
use Rattle.std.specs.Prelude.{All}
use Rattle.std.specs.List.{prefix_len}
use Rattle.std.proofs.lemmas.Bool.{eqb-true, cond_both}
use Rattle.std.proofs.lemmas.List.Elements.{All-drop}
use Rattle.lf_core.specs.Adds.{AddsFront}
use Rattle.lf_escape.specs.Codes.{coded, is_alone, is_bare}

-- A part was added, and the rest is left.
abbrev pub AddsUpTo : List ℕ → List ℕ → List ℕ → List ℕ → Type 0
AddsUpTo old new added rest = (done : List ℕ) × (added ≡ done ++ rest) × (new ≡ old ++ done)

pub up_to-none : (old added : List ℕ) → AddsUpTo old old added added
up_to-none old added = ([], refl, sym (append-nil old))

pub up_to-more : (old mid new added part rest : List ℕ) → AddsUpTo old mid added (part ++ rest) → new ≡ mid ++ part → AddsUpTo old new added rest
up_to-more old mid new added part rest u n =
    (u.0 ++ part, u.1 ∙ sym (append_assoc u.0 part rest), n ∙ ap (λ (x : List ℕ). x ++ part) u.2 ∙ append_assoc old u.0 part)

pub up_to-all : (old new added : List ℕ) → AddsUpTo old new added [] → new ≡ old ++ added
up_to-all old new added u = u.2 ∙ ap (λ (x : List ℕ). old ++ x) (sym (u.1 ∙ append-nil u.0))

pub up_to-front : (old mid new added rest : List ℕ) → new ≡ mid → AddsUpTo old mid added rest → AddsFront old new added
up_to-front old mid new added rest n u = (u.0, rest, u.1, n ∙ u.2)

alone-is : (letter : ℕ) (word : List ℕ) → is_alone letter word ≡ true → word ≡ letter ∷ []
alone-is letter [] h = absurd cc
alone-is letter (byte ∷ []) h = ap (λ (b : ℕ). b ∷ []) (eqb-true byte letter h)
alone-is letter (byte ∷ more ∷ rest) h = absurd cc

-- The first so many letters stand as they are.
abbrev StandFirst : (ℕ → List ℕ) → List ℕ → ℕ → Type 0
StandFirst word letters k = coded word letters ≡ take k letters ++ coded word (drop k letters)

one-more : (word : ℕ → List ℕ) (x : ℕ) (letters : List ℕ) (k : ℕ) → word x ≡ x ∷ [] → StandFirst word letters k → StandFirst word (x ∷ letters) (1 + k)
one-more word x letters k is rest =
    let next : suc k ≡ 1 + k = omega arith in
    subst (StandFirst word (x ∷ letters)) next
    (ap (λ (w : List ℕ). w ++ coded word letters) is ∙ ap (λ (w : List ℕ). x ∷ w) rest)

-- The first letters that are their own words stand as they are.
coded-bare : (word : ℕ → List ℕ) (letters : List ℕ) → StandFirst word letters (prefix_len (is_bare word) letters)
coded-bare word [] = refl
coded-bare word (x ∷ letters) =
    cond_both (is_bare word x) (1 + prefix_len (is_bare word) letters) 0 (StandFirst word (x ∷ letters))
    (λ e. one-more word x letters (prefix_len (is_bare word) letters) (alone-is x (word x) e) (coded-bare word letters))
    (λ e. refl)

-- A text that is left, cut after its first letters that are their own words.
module _ (word : ℕ → List ℕ) (rest bare more : List ℕ) (k : ℕ) (count : k ≡ prefix_len (is_bare word) rest) (front : bare ≡ take k rest) (back : more ≡ drop k rest) where
  cut-coded : coded word rest ≡ bare ++ coded word more
  cut-coded =
      subst (StandFirst word rest) (sym count) (coded-bare word rest)
      ∙ ap (λ (x : List ℕ). x ++ coded word (drop k rest)) (sym front) ∙ ap (λ (x : List ℕ). bare ++ coded word x) (sym back)

  pub up_to-bare : (old mid new added : List ℕ) → AddsUpTo old mid added (coded word rest) → new ≡ mid ++ bare → AddsUpTo old new added (coded word more)
  up_to-bare old mid new added u n =
      up_to-more old mid new added bare (coded word more) (subst (λ (x : List ℕ). AddsUpTo old mid added x) cut-coded u) n

  pub more-taken : (P : ℕ → Type 0) → All P rest → All P more
  more-taken P all = subst (λ (x : List ℕ). All P x) (sym back) (All-drop P k rest all)

-- A text that is left, of which the first letter is written.
pub up_to-letter : (word : ℕ → List ℕ) (old mid new added more after : List ℕ) (letter : ℕ) → more ≡ letter ∷ after →
    AddsUpTo old mid added (coded word more) → new ≡ mid ++ word letter → AddsUpTo old new added (coded word after)
up_to-letter word old mid new added more after letter e u n =
    up_to-more old mid new added (word letter) (coded word after) (subst (λ (x : List ℕ). AddsUpTo old mid added (coded word x)) e u) n

-- The whole text was added, where none is left.
pub up_to-end : (word : ℕ → List ℕ) (old new added more : List ℕ) → length more ≡ 0 → AddsUpTo old new added (coded word more) → new ≡ old ++ added
up_to-end word old new added [] e u = up_to-all old new added u
up_to-end word old new added (x ∷ more) e u = absurd (omega (arith, e))
