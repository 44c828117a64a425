-- Prefixes of what is added in parts.
use Rattle.std.proofs.Common.{◌≡◌, ℕ, ◌+◌, ◌<◌, List, [], ◌∷◌, ◌++◌, length, take, get_or, refl, sym, ap, ◌∙◌, append_assoc, append-nil}
use Rattle.std.specs.Prelude.{Result, Ok, Err, OnOk, OnErr}
use Rattle.std.proofs.lemmas.List.{take_more}
use Rattle.lf_escape.specs.Codes.{coded}
use Rattle.lf_core.specs.Adds.{AddsFront}

-- A part was added, and then a prefix of the rest.
pub adds-more : (old mid new part rest added : List ℕ) → mid ≡ old ++ part → added ≡ part ++ rest → AddsFront mid new rest → AddsFront old new added
adds-more old mid new part rest added m a f =
    (part ++ f.0, f.1, a ∙ ap (λ (x : List ℕ). part ++ x) f.2 ∙ sym (append_assoc part f.0 f.1), f.3 ∙ ap (λ (x : List ℕ). x ++ f.0) m ∙ append_assoc old part f.0)

-- A prefix of the first part was added.
pub adds-first : (old new part rest added : List ℕ) → added ≡ part ++ rest → AddsFront old new part → AddsFront old new added
adds-first old new part rest added a f = (f.0, f.1 ++ rest, a ∙ ap (λ (x : List ℕ). x ++ rest) f.2 ∙ append_assoc f.0 f.1 rest, f.3)

-- What holds of the good answer, or of the other, goes by cases on it.
pub ok-as : {A E : Type 0} {P Q : Type 0} (r : Result A E) → (P → Q) → OnOk r P → OnOk r Q
ok-as (Ok a) f p = f p
ok-as (Err e) f p = tt

pub err-as : {A E : Type 0} {P Q : Type 0} (r : Result A E) → (P → Q) → OnErr r P → OnErr r Q
err-as (Ok a) f p = tt
err-as (Err e) f p = f p

pub on-err : {A E : Type 0} {P : Type 0} (r : Result A E) → P → OnErr r P
on-err (Ok a) p = tt
on-err (Err e) p = p

pub coded-append : (word : ℕ → List ℕ) (xs ys : List ℕ) → coded word (xs ++ ys) ≡ coded word xs ++ coded word ys
coded-append word [] ys = refl
coded-append word (x ∷ xs) ys = ap (λ (t : List ℕ). word x ++ t) (coded-append word xs ys) ∙ sym (append_assoc (word x) (coded word xs) (coded word ys))

-- The words of one more letter.
pub coded-more : (word : ℕ → List ℕ) (letters : List ℕ) (i d : ℕ) → i < length letters → coded word (take (i + 1) letters) ≡ coded word (take i letters) ++ word (get_or letters i d)
coded-more word letters i d h =
    ap (coded word) (take_more letters i d h) ∙ coded-append word (take i letters) (get_or letters i d ∷ []) ∙ ap (λ (t : List ℕ). coded word (take i letters) ++ t) (append-nil (word (get_or letters i d)))
