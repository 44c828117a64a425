-- Two machines side by side are a machine.
use Rattle.std.proofs.Common.{◌≡◌, ℕ, ◌+◌, ◌-◌, ◌<◌, ◌≤◌, inl, inr, List, [], ◌∷◌, length, get_or, map, cond, Bool, sym, ap, ◌∙◌, subst, arith}
use Rattle.std.specs.Prelude.{All, Contains}
use Rattle.std.proofs.lemmas.Bool.{cases_lt, lt-ltb, le-ltb}
use Rattle.std.proofs.lemmas.List.{length-map, get_or-map}
use Rattle.std.proofs.lemmas.List.Elements.{All-map, All-weaker, Contains-get_or}
use Rattle.lf_core.specs.declared.marked.Move.{Move}
use Rattle.lf_core.specs.Marked.{Machine, IsMachine, NoneTwice, no_move}
use Rattle.lf_core.specs.RunLaws.{move_is}
use Rattle.lf_meet.specs.Both.{shifted, both}

pub left_moves : (m n : Machine) (p c : ℕ) → p < m.count → (both m n).moves p c ≡ m.moves p c
left_moves m n p c h = ap (λ (t : Bool). cond t (m.moves p c) (map (shifted m.count) (n.moves (p - m.count) c))) (lt-ltb p m.count h)

pub right_moves : (m n : Machine) (p c : ℕ) → m.count ≤ p → (both m n).moves p c ≡ map (shifted m.count) (n.moves (p - m.count) c)
right_moves m n p c h = ap (λ (t : Bool). cond t (m.moves p c) (map (shifted m.count) (n.moves (p - m.count) c))) (le-ltb p m.count h)

pub left_ends : (m n : Machine) (p : ℕ) → p < m.count → (both m n).is_end p ≡ m.is_end p
left_ends m n p h = ap (λ (t : Bool). cond t (m.is_end p) (n.is_end (p - m.count))) (lt-ltb p m.count h)

pub right_ends : (m n : Machine) (p : ℕ) → m.count ≤ p → (both m n).is_end p ≡ n.is_end (p - m.count)
right_ends m n p h = ap (λ (t : Bool). cond t (m.is_end p) (n.is_end (p - m.count))) (le-ltb p m.count h)

-- a shifted move comes of one of the list
pub from_shifted : (by : ℕ) (xs : List Move) (y : Move) → Contains (map (shifted by) xs) y → (x : Move) × Contains xs x × (shifted by x ≡ y)
from_shifted by xs y (k, lt, is) =
    let low : k < length xs = omega (arith, lt, length-map xs (shifted by)) in
    (get_or xs k no_move, Contains-get_or xs k no_move low, sym (get_or-map (shifted by) xs k no_move y low) ∙ is)

pub to_shifted : (by : ℕ) (xs : List Move) (x : Move) → Contains xs x → Contains (map (shifted by) xs) (shifted by x)
to_shifted by xs x (k, lt, is) = (k, omega (arith, lt, length-map xs (shifted by)), get_or-map (shifted by) xs k x (shifted by x) lt ∙ ap (shifted by) is)

shifted_back : (by : ℕ) (x y : Move) → shifted by x ≡ shifted by y → x ≡ y
shifted_back by x y e =
    let to = ap (λ (z : Move). z.to) e in
    move_is x y (ap (λ (z : Move). z.mark) e) (omega (arith, to))

shifted_once : (by : ℕ) (xs : List Move) → NoneTwice xs → NoneTwice (map (shifted by) xs)
shifted_once by [] h = tt
shifted_once by (x ∷ xs) h = (
  λ at. let f = from_shifted by xs (shifted by x) at in h.0 (subst (Contains xs) (shifted_back by f.0 x f.2) f.1),
  shifted_once by xs h.1,
)

pub both_lawful : (m n : Machine) → IsMachine m → IsMachine n → IsMachine (both m n)
both_lawful m n left right = record {
  begins = let low = left.begins in omega (arith, low);
  once = λ p c h.
      elim (cases_lt p m.count) [
        | inl lt ↦ subst NoneTwice (sym (left_moves m n p c lt)) (left.once p c lt)
        | inr ge ↦ subst NoneTwice (sym (right_moves m n p c ge)) (shifted_once m.count (n.moves (p - m.count) c) (right.once (p - m.count) c (omega (arith, h, ge))))
      ];
  stays = λ p c h.
      elim (cases_lt p m.count) [
        | inl lt ↦
            subst (λ (xs : List Move). All (λ x. x.to < m.count + n.count) xs) (sym (left_moves m n p c lt))
            (All-weaker (λ (x : Move). x.to < m.count) (λ (x : Move). x.to < m.count + n.count) (λ x low. omega (arith, low)) (m.moves p c) (left.stays p c lt))
        | inr ge ↦
            let below : p - m.count < n.count = omega (arith, h, ge) in
            subst (λ (xs : List Move). All (λ x. x.to < m.count + n.count) xs) (sym (right_moves m n p c ge))
            (All-map (λ (x : Move). x.to < m.count + n.count) (shifted m.count) (n.moves (p - m.count) c)
            (All-weaker (λ (x : Move). x.to < n.count) (λ (x : Move). m.count + x.to < m.count + n.count) (λ x low. omega (arith, low)) (n.moves (p - m.count) c) (right.stays (p - m.count) c below)))
      ];
  bytes = λ p c h high.
      elim (cases_lt p m.count) [
        | inl lt ↦ left_moves m n p c lt ∙ left.bytes p c lt high
        | inr ge ↦ right_moves m n p c ge ∙ ap (map (shifted m.count)) (right.bytes (p - m.count) c (omega (arith, h, ge)) high)
      ];
}
