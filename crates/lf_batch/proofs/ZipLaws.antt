-- Lists that agree place by place.
use Rattle.std.proofs.Common.{ℕ, ◌+◌, ◌<◌, List, [], ◌∷◌, ◌++◌, length, take, get_or, sym, subst}
use Rattle.std.specs.List.{AllZip}
use Rattle.std.proofs.lemmas.List.{take_more}
use Rattle.std.proofs.lemmas.Slice.Zip.{all_zipped_more}

-- What holds place by place of two lists, and of two more, holds so of what they are joined to.
pub AllZip-append : {A B : Type 0} (R : A → B → Type 0) (xs more : List A) (ys others : List B) → AllZip R xs ys → AllZip R more others → AllZip R (xs ++ more) (ys ++ others)
AllZip-append R [] more [] others first second = second
AllZip-append R [] more (y ∷ ys) others first second = absurd first
AllZip-append R (x ∷ xs) more [] others first second = absurd first
AllZip-append R (x ∷ xs) more (y ∷ ys) others first second = (first.0, AllZip-append R xs more ys others first.1 second)

-- What holds so of the first places holds of one place more.
pub AllZip-take-more : {A B : Type 0} (R : A → B → Type 0) (xs : List A) (ys : List B) (i : ℕ) (d : A) (y : B) → i < length xs → AllZip R (take i xs) ys → R (get_or xs i d) y → AllZip R (take (i + 1) xs) (ys ++ y ∷ [])
AllZip-take-more R xs ys i d y lt first next =
    subst (λ l. AllZip R l (ys ++ y ∷ [])) (sym (take_more xs i d lt)) (all_zipped_more R (take i xs) ys (get_or xs i d) y first next)
