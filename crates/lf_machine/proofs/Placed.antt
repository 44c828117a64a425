-- Moves put one after another at a place.
use Rattle.std.proofs.Common.{◌≡◌, ℕ, ◌+◌, ◌&&◌, List, [], ◌∷◌, ◌++◌, map, Bool, cond, refl, sym, ap, ◌∙◌, append_assoc}
use Rattle.std.proofs.lemmas.List.{map-append}
use Rattle.lf_core.specs.declared.marked.Move.{Move}
use Rattle.lf_machine.specs.Places.{placed, aimed, one_move}
use Rattle.lf_machine.specs.PlainNumbers.{redirect}
use Rattle.lf_machine.specs.declared.place.Place.{Place}
use Rattle.lf_machine.specs.declared.place.Aim.{Aim}

aimed-map : (aim : Aim) (ms : List Move) → map (aimed aim) ms ≡ map (placed aim.place) (map (redirect aim.apart aim.lone) ms)
aimed-map aim [] = refl
aimed-map aim (m ∷ ms) = ap (λ (x : List Move). aimed aim m ∷ x) (aimed-map aim ms)

-- moves at their place, and then moves that are aimed there
pub put-apart : (aim : Aim) (old mid new xs ys : List Move) → mid ≡ old ++ map (placed aim.place) xs → new ≡ mid ++ map (aimed aim) ys →
    new ≡ old ++ map (placed aim.place) (xs ++ map (redirect aim.apart aim.lone) ys)
put-apart aim old mid new xs ys h g =
    g ∙ ap (λ (z : List Move). z ++ map (aimed aim) ys) h
    ∙ append_assoc old (map (placed aim.place) xs) (map (aimed aim) ys)
    ∙ ap (λ (z : List Move). old ++ (map (placed aim.place) xs ++ z)) (aimed-map aim ys)
    ∙ ap (λ (z : List Move). old ++ z) (sym (map-append (placed aim.place) xs (map (redirect aim.apart aim.lone) ys)))

-- moves that are aimed at a place, one list after the other
pub put-both : (aim : Aim) (old mid new xs ys zs : List Move) → mid ≡ old ++ map (aimed aim) xs → new ≡ mid ++ map (aimed aim) ys → ys ≡ zs → new ≡ old ++ map (aimed aim) (xs ++ zs)
put-both aim old mid new xs ys zs h g e =
    g ∙ ap (λ (z : List Move). z ++ map (aimed aim) ys) h
    ∙ append_assoc old (map (aimed aim) xs) (map (aimed aim) ys)
    ∙ ap (λ (z : List Move). old ++ z) (sym (map-append (aimed aim) xs ys))
    ∙ ap (λ (z : List Move). old ++ map (aimed aim) (xs ++ z)) e

-- the dash of absence, and then a letter's moves
pub enter-at : (place : Place) (old mid new : List Move) (d t apart apart' : Bool) (top top' first first' : ℕ) (steps : ℕ → List Move) →
    top ≡ top' → apart ≡ apart' → first ≡ first' →
    mid ≡ old ++ map (placed place) (cond (d && t) (one_move 1 top') []) →
    new ≡ mid ++ map (aimed (record { place = place; apart = apart; lone = top + 1 })) (steps first) →
    new ≡ old ++ map (placed place) (cond (d && t) (one_move 1 top') [] ++ map (redirect apart' (top' + 1)) (steps first'))
enter-at place old mid new d t apart apart' top top' first first' steps f g i h k =
    let aim : Aim = record { place = place; apart = apart; lone = top + 1 } in
    put-apart aim old mid new (cond (d && t) (one_move 1 top') []) (steps first) h k
    ∙ ap (λ (n : ℕ). old ++ map (placed place) (cond (d && t) (one_move 1 top') [] ++ map (redirect apart (n + 1)) (steps first))) f
    ∙ ap (λ (x : Bool). old ++ map (placed place) (cond (d && t) (one_move 1 top') [] ++ map (redirect x (top' + 1)) (steps first))) g
    ∙ ap (λ (n : ℕ). old ++ map (placed place) (cond (d && t) (one_move 1 top') [] ++ map (redirect apart' (top' + 1)) (steps n))) i
