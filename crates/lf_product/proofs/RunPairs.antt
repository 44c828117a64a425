-- A number of steps suffices exactly where two runs stand on a list of that many bytes.
use Rattle.std.proofs.Common.{◌≡◌, ◌≢◌, ℕ, zero, suc, ◌⊎◌, inl, inr, Bool, true, false, ◌&&◌, eqb, List, [], ◌∷◌, length, refl, sym, ap, ◌∙◌, subst, arith, Option, None, Some, is_some}
use Rattle.std.proofs.lemmas.Bool.{and_parts, eqb-true}
use Rattle.lf_core.specs.declared.marked.Move.{Move}
use Rattle.lf_core.specs.Marked.{Machine}
use Rattle.lf_core.specs.Runs.{RunsToEnd, IsShared}
use Rattle.lf_core.specs.RunLaws.{move_is}
use Rattle.lf_product.specs.Distance.{differed_by, Suffices, IsDistance, IsAmbiguous}
use Rattle.lf_product.specs.Walk.{Shares}

same_move_true : (x y : Move) → (eqb x.mark y.mark && eqb x.to y.to) ≡ true → x ≡ y
same_move_true x y h =
    let p = and_parts (eqb x.mark y.mark) (eqb x.to y.to) h in
    move_is x y (eqb-true x.mark y.mark p.0) (eqb-true x.to y.to p.1)

eqb_self : (a : ℕ) → eqb a a ≡ true
eqb_self a = grind arith

same_move_self : (x y : Move) → x ≡ y → (eqb x.mark y.mark && eqb x.to y.to) ≡ true
same_move_self x y h =
    subst (λ (z : Move). (eqb x.mark z.mark && eqb x.to z.to) ≡ true) h
    (rw (eqb_self x.mark, eqb_self x.to) refl)

-- the value is set after a step exactly where it was before, or where the moves differ
set_by : (d : Bool) (x y : Move) → differed_by d x y ≡ true → (d ≡ true) ⊎ (x ≢ y)
set_by true x y h = inl refl
set_by false x y h = inr (λ e. cc (same_move_self x y e, h))

choose : (d : Bool) (t : Bool) (x y : Move) → (eqb x.mark y.mark && eqb x.to y.to) ≡ t → (d ≡ true) ⊎ ((x ≡ y) ⊎ (differed_by d x y ≡ true))
choose true t x y e = inl refl
choose false true x y e = inr (inl (same_move_true x y e))
choose false false x y e = inr (inr (rw e refl))

head_is : (x y : Move) (xs ys : List Move) → x ∷ xs ≡ y ∷ ys → x ≡ y
head_is x y xs ys h = cc

tail_is : (x y : Move) (xs ys : List Move) → x ∷ xs ≡ y ∷ ys → xs ≡ ys
tail_is x y xs ys h = cc

differ_on : (d : Bool) (x y : Move) (xs ys : List Move) (d' : Bool) → differed_by d x y ≡ d' → (d' ≡ true) ⊎ (xs ≢ ys) → (d ≡ true) ⊎ ((x ∷ xs) ≢ (y ∷ ys))
differ_on d x y xs ys d' e h =
    elim h [
      | inl t ↦ elim (set_by d x y (e ∙ t)) [ inl s ↦ inl s | inr n ↦ inr (λ k. n (head_is x y xs ys k)) ]
      | inr n ↦ inr (λ k. n (tail_is x y xs ys k))
    ]

differ_off : (d : Bool) (x y : Move) (xs ys : List Move) → (d ≡ true) ⊎ ((x ∷ xs) ≢ (y ∷ ys)) → (differed_by d x y ≡ true) ⊎ (xs ≢ ys)
differ_off true x y xs ys h = inl refl
differ_off false x y xs ys (inl e) = absurd (cc)
differ_off false x y xs ys (inr n) =
    elim (choose false (eqb x.mark y.mark && eqb x.to y.to) x y refl) [
      | inl e ↦ absurd (cc)
      | inr (inl e) ↦ inr (λ k. n (ap (λ (z : Move). z ∷ xs) e ∙ ap (λ (zs : List Move). y ∷ zs) k))
      | inr (inr t) ↦ inl t
    ]

-- two runs over the bytes from two points to ends, with a difference, or one before
pub record Two (m : Machine) (bytes : List ℕ) (a b : ℕ) (d : Bool) : Type 0 where
  pub left : List Move
  pub right : List Move
  pub runs_left : RunsToEnd m a bytes left
  pub runs_right : RunsToEnd m b bytes right
  pub differ : (d ≡ true) ⊎ (left ≢ right)

pub two_from_shares : (m : Machine) (cs : List ℕ) (a b : ℕ) (d : Bool) → Shares m cs a b d → Two m cs a b d
two_from_shares m [] a b d (ea, eb, t) = record { left = []; right = []; runs_left = (tt, ea); runs_right = (tt, eb); differ = inl t }
two_from_shares m (c ∷ cs) a b d (x, y, hx, hy, rest) =
    let t = two_from_shares m cs x.to y.to (differed_by d x y) rest in
    record {
      left = x ∷ t.left;
      right = y ∷ t.right;
      runs_left = ((hx, t.runs_left.0), t.runs_left.1);
      runs_right = ((hy, t.runs_right.0), t.runs_right.1);
      differ = differ_on d x y t.left t.right (differed_by d x y) refl t.differ;
    }

pub shares_from_two : (m : Machine) (cs : List ℕ) (xs ys : List Move) (a b : ℕ) (d : Bool) → RunsToEnd m a cs xs → RunsToEnd m b cs ys → (d ≡ true) ⊎ (xs ≢ ys) → Shares m cs a b d
shares_from_two m [] [] [] a b d (h, e) (k, f) (inl t) = (e, f, t)
shares_from_two m [] [] [] a b d h k (inr n) = absurd (n refl)
shares_from_two m [] (x ∷ xs) ys a b d (h, e) k g = absurd h
shares_from_two m [] [] (y ∷ ys) a b d h (k, f) g = absurd k
shares_from_two m (c ∷ cs) [] ys a b d (h, e) k g = absurd h
shares_from_two m (c ∷ cs) (x ∷ xs) [] a b d h (k, f) g = absurd k
shares_from_two m (c ∷ cs) (x ∷ xs) (y ∷ ys) a b d (h, e) (k, f) g =
    (x, y, h.0, k.0, shares_from_two m cs xs ys x.to y.to (differed_by d x y) (h.1, e) (k.1, f) (differ_off d x y xs ys g))

pub suffices_from_shares : (m : Machine) (cs : List ℕ) (a b : ℕ) (d : Bool) → Shares m cs a b d → Suffices m (length cs) a b d
suffices_from_shares m [] a b d h = h
suffices_from_shares m (c ∷ cs) a b d (x, y, hx, hy, rest) =
    (x.to, y.to, differed_by d x y, record { byte = c; left = x; right = y; on_left = hx; on_right = hy; left_to = refl; right_to = refl; value = refl }, suffices_from_shares m cs x.to y.to (differed_by d x y) rest)

pub shares_from_suffices : (m : Machine) (n a b : ℕ) (d : Bool) → Suffices m n a b d → (cs : List ℕ) × (length cs ≡ n) × Shares m cs a b d
shares_from_suffices m zero a b d h = ([], refl, h)
shares_from_suffices m (suc n) a b d (a', b', d', step, rest) =
    let r = shares_from_suffices m n a' b' d' rest in
    let shares : Shares m r.0 step.left.to step.right.to (differed_by d step.left step.right) =
    subst (λ (v : Bool). Shares m r.0 step.left.to step.right.to v) (sym step.value)
    (subst (λ (q : ℕ). Shares m r.0 step.left.to q d') (sym step.right_to) (subst (λ (q : ℕ). Shares m r.0 q b' d') (sym step.left_to) r.2)) in
    (step.byte ∷ r.0, ap suc r.1, (step.left, step.right, step.on_left, step.on_right, shares))

-- both ways, at the start
pub shared_from_shares : (m : Machine) (cs : List ℕ) → Shares m cs m.first m.first false → IsShared m cs
shared_from_shares m cs h =
    let t = two_from_shares m cs m.first m.first false h in
    (t.left, t.right, t.runs_left, t.runs_right, elim t.differ [ inl e ↦ absurd (cc) | inr k ↦ k ])

pub shares_from_shared : (m : Machine) (cs : List ℕ) → IsShared m cs → Shares m cs m.first m.first false
shares_from_shared m cs (left, right, h, k, n) = shares_from_two m cs left right m.first m.first false h k (inr n)

pub ambiguous_from_steps : (m : Machine) (n : ℕ) → Suffices m n m.first m.first false → IsAmbiguous m
ambiguous_from_steps m n h = let r = shares_from_suffices m n m.first m.first false h in (r.0, shared_from_shares m r.0 r.2)

pub steps_from_ambiguous : (m : Machine) → IsAmbiguous m → (n : ℕ) × Suffices m n m.first m.first false
steps_from_ambiguous m (line, shared) = (length line, suffices_from_shares m line m.first m.first false (shares_from_shared m line shared))

pub ambiguous_if_some : (m : Machine) (s : ℕ) (r : Option ℕ) → s ≡ m.first → IsDistance m s s false r → is_some r ≡ true → IsAmbiguous m
ambiguous_if_some m s None e h t = absurd (cc)
ambiguous_if_some m s (Some n) e h t = ambiguous_from_steps m n (subst (λ (k : ℕ). Suffices m n k k false) e h.0)

pub some_if_ambiguous : (m : Machine) (s : ℕ) (r : Option ℕ) → s ≡ m.first → IsDistance m s s false r → IsAmbiguous m → is_some r ≡ true
some_if_ambiguous m s None e h a = let p = steps_from_ambiguous m a in absurd (h p.0 (subst (λ (k : ℕ). Suffices m p.0 k k false) (sym e) p.1))
some_if_ambiguous m s (Some n) e h a = refl
