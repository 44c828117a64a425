-- The members of a set of bytes, in order.
use Rattle.std.proofs.Common.{◌≡◌, ℕ, zero, suc, ◌+◌, ◌-◌, ◌<◌, List, [], ◌∷◌, ◌++◌, length, get_or, true, false, cond, refl, sym, ap, ◌∙◌, arith, add-one, append_assoc, append-nil, add-suc}
use Rattle.std.proofs.Math.Seq.{get_or-append_seam}
use Rattle.lf_core.specs.Class.{is_member, members_below}
use Rattle.lf_core.specs.declared.class.Class.{Class}

pub members_below-none : (set : Class) → members_below set 0 ≡ []
unfolding members_below
members_below-none set = refl

pub members_below-in : (set : Class) (b : ℕ) → is_member set b ≡ true → members_below set (b + 1) ≡ members_below set b ++ b ∷ []
unfolding members_below
members_below-in set b h = rw (add-one, h)

pub members_below-out : (set : Class) (b : ℕ) → is_member set b ≡ false → members_below set (b + 1) ≡ members_below set b
unfolding members_below
members_below-out set b h = rw (add-one, h) (append-nil (members_below set b))

more : (set : Class) (b k : ℕ) → (rest : List ℕ) × (members_below set (b + k) ≡ members_below set b ++ rest)
unfolding members_below
more set b zero = let e : b + 0 ≡ b = omega arith in ([], ap (members_below set) e ∙ sym (append-nil (members_below set b)))
more set b (suc k) =
    let e : b + suc k ≡ suc (b + k) = add-suc b k in
    let r = more set b k in
    (r.0 ++ cond (is_member set (b + k)) ((b + k) ∷ []) [], rw (e, r.1) (append_assoc (members_below set b) r.0 (cond (is_member set (b + k)) ((b + k) ∷ []) [])))

-- A member stands after those that are less.
pub members_below-at : (set : Class) (b : ℕ) → b < 256 → is_member set b ≡ true → get_or (members_below set 256) (length (members_below set b)) 0 ≡ b
members_below-at set b h m =
    let e : b + 1 + (255 - b) ≡ 256 = omega arith in
    let r = more set (b + 1) (255 - b) in
    let all : members_below set 256 ≡ members_below set b ++ (b ∷ r.0) = ap (members_below set) (sym e) ∙ r.1 ∙ ap (λ (xs : List ℕ). xs ++ r.0) (members_below-in set b m) ∙ append_assoc (members_below set b) (b ∷ []) r.0 in
    rw all (get_or-append_seam (members_below set b) b r.0 0)
