-- Changes of flags, from the left.
use Rattle.std.proofs.Common.{◌≡◌, ℕ, ◌≤◌, Bool, true, false, cond, ◌&&◌, eqb, get_or, List, [], ◌∷◌, length, drop, Option, Some, None, refl, sym, ap, ◌∙◌, arith}
use Rattle.std.proofs.lemmas.Bool.{eq-eqb}
use Rattle.haproxy_front.specs.declared.flags.Flags.{Flags}
use Rattle.haproxy_front.specs.Flags.{is_sign, is_flag, are_flags, with_flag, changed}

-- the flags after the changes, or none
abbrev pub outcome : Flags → List ℕ → Option Flags
outcome flags text = cond (are_flags text) (Some (changed flags text)) None

pub after_one : (flags next : Flags) (rest tail : List ℕ) → 2 ≤ length rest → (length rest ≡ 2 → ⊥) → (is_sign (get_or rest 0 0) && is_flag (get_or rest 1 0)) ≡ true → get_or rest 2 0 ≡ 44
    → next ≡ with_flag flags (eqb (get_or rest 0 0) 43) (get_or rest 1 0) → tail ≡ drop 3 rest → outcome flags rest ≡ outcome next tail
after_one flags next [] tail some more change comma next_is tail_is = absurd (omega arith)
after_one flags next (a ∷ []) tail some more change comma next_is tail_is = absurd (omega arith)
after_one flags next (a ∷ b ∷ []) tail some more change comma next_is tail_is = absurd (more refl)
after_one flags next (a ∷ b ∷ c ∷ rest) tail some more change comma next_is tail_is =
    ap (λ v. cond ((v && eqb c 44) && are_flags rest) (Some (changed (with_flag flags (eqb a 43) b) rest)) None) change
    ∙ ap (λ v. cond (v && are_flags rest) (Some (changed (with_flag flags (eqb a 43) b) rest)) None) (eq-eqb c 44 comma)
    ∙ ap (λ (f : Flags). outcome f rest) (sym next_is) ∙ ap (outcome next) (sym tail_is)

pub no_outcome : (good : Bool) (flags : Flags) → cond good (Some flags) None ≡ None → good ≡ false
no_outcome true flags h = absurd cc
no_outcome false flags h = refl

pub some_outcome : (good : Bool) (flags own : Flags) → cond good (Some flags) None ≡ Some own → (good ≡ true) × (flags ≡ own)
some_outcome true flags own h = (refl, cc)
some_outcome false flags own h = absurd cc
