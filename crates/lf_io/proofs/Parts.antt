-- Parts of lists.
use Rattle.std.proofs.Common.{◌≡◌, ℕ, ◌+◌, ◌≤◌, List, [], ◌++◌, length, take, drop, arith, refl, sym, ◌∙◌, ap, append_assoc, length-append}
use Rattle.std.proofs.lemmas.List.{take_at, length-take-le, take-append-drop, drop-drop, append-nil}
use Rattle.std.specs.Prelude.{Option, Some, None}
use Rattle.lf_io.specs.Moves.{Takes, Gets}

-- The next n bytes of a text, written over the start of a buffer.
pub moved : (text into piece : List ℕ) (at n : ℕ) → piece ≡ take n (drop at text) → n ≤ length (drop at text) → (n ≤ length (piece ++ drop n into)) × (drop at text ≡ take n (piece ++ drop n into) ++ drop (at + n) text)
moved text into piece at n is fits =
    let len : length piece ≡ n = ap length is ∙ length-take-le n (drop at text) fits in
    let front : take n (piece ++ drop n into) ≡ piece = take_at piece (drop n into) n len in
    let back : take n (drop at text) ++ drop n (drop at text) ≡ drop at text = take-append-drop n (drop at text) in
    let later : drop n (drop at text) ≡ drop (at + n) text = drop-drop n at text in
    (omega (arith, length-append piece (drop n into)), rw (front, is, ← later) (sym back))

-- Two additions to a sink are one.
pub gets_both : (a b c : Option (List ℕ)) (xs ys : List ℕ) → Gets a b xs → Gets b c ys → Gets a c (xs ++ ys)
gets_both None None None xs ys p q = tt
gets_both None None (Some c) xs ys p q = absurd q
gets_both None (Some b) c xs ys p q = absurd p
gets_both (Some a) None c xs ys p q = absurd p
gets_both (Some a) (Some b) None xs ys p q = absurd q
gets_both (Some a) (Some b) (Some c) xs ys p q = q ∙ ap (λ v. v ++ ys) p ∙ append_assoc a xs ys

-- Nothing is added.
pub gets_none : (a : Option (List ℕ)) → Gets a a []
gets_none None = tt
gets_none (Some a) = sym (append-nil a)

-- Two takings from a source are one.
pub takes_both : (a b c : Option (List ℕ)) (xs ys : List ℕ) → Takes a b xs → Takes b c ys → Takes a c (xs ++ ys)
takes_both None None None xs ys p q = tt
takes_both None None (Some c) xs ys p q = absurd q
takes_both None (Some b) c xs ys p q = absurd p
takes_both (Some a) None c xs ys p q = absurd p
takes_both (Some a) (Some b) None xs ys p q = absurd q
takes_both (Some a) (Some b) (Some c) xs ys p q = p ∙ ap (λ v. xs ++ v) q ∙ sym (append_assoc xs ys c)

pub takes_none : (a : Option (List ℕ)) → Takes a a []
takes_none None = tt
takes_none (Some a) = refl

-- The first n bytes of the rest join the part before it.
pub split_more : (text part rest : List ℕ) (n : ℕ) → text ≡ part ++ rest → text ≡ (part ++ take n rest) ++ drop n rest
split_more text part rest n is = rw (append_assoc, take-append-drop) is
