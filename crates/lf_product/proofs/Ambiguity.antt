-- Whether any number of steps suffices is decided.
use Rattle.std.proofs.Common.{◌≡◌, ℕ, zero, suc, ◌+◌, ◌<◌, ◌≤◌, ◌⊎◌, inl, inr, Bool, true, false, List, refl, sym, subst, arith}
use Rattle.std.specs.List.{Contains}
use Rattle.std.proofs.lemmas.Bool.{cases_lt}
use Rattle.lf_core.specs.declared.marked.Move.{Move}
use Rattle.lf_core.specs.Marked.{Machine, IsMachine}
use Rattle.lf_core.specs.WrittenLaws.{move_stays}
use Rattle.lf_product.specs.Distance.{differed_by, Suffices, IsAmbiguous}
use Rattle.lf_product.proofs.RunPairs.{ambiguous_from_steps, steps_from_ambiguous}
use Rattle.lf_product.proofs.Deciding.{Decided, both-decided, either-decided, not-decided, bool-decided, some_below, some_listed, sum_to, sum_le, sum_lt, one_if, one_low, one_le, one_lt, stands_still}
use Rattle.lf_product.proofs.Sweep.{contains_none}

-- a move of each on the byte, and what holds after them
abbrev pub After : Machine → ℕ → ℕ → Bool → ℕ → (ℕ → ℕ → Bool → Type 0) → Type 0
After m a b d c P = (x : Move) × Contains (m.moves a c) x × ((y : Move) × Contains (m.moves b c) y × P x.to y.to (differed_by d x y))

-- so many bytes below 256 lead from a flagged pair to two ends with the value set
abbrev pub Leads : Machine → ℕ → ℕ → ℕ → Bool → Type 0
Leads m zero a b d = ((m.is_end a ≡ true) × (m.is_end b ≡ true)) × (d ≡ true)
Leads m (suc k) a b d = (c : ℕ) × (c < 256) × After m a b d c (Leads m k)

after-decided : (m : Machine) (a b : ℕ) (d : Bool) (c : ℕ) (P : ℕ → ℕ → Bool → Type 0) → ((a' b' : ℕ) (d' : Bool) → Decided (P a' b' d')) → Decided (After m a b d c P)
after-decided m a b d c P dec =
    some_listed (m.moves a c) (λ (x : Move). (y : Move) × Contains (m.moves b c) y × P x.to y.to (differed_by d x y))
    (λ x. some_listed (m.moves b c) (λ (y : Move). P x.to y.to (differed_by d x y)) (λ y. dec x.to y.to (differed_by d x y)))

leads-decided : (m : Machine) (k a b : ℕ) (d : Bool) → Decided (Leads m k a b d)
leads-decided m zero a b d = both-decided (both-decided (bool-decided (m.is_end a)) (bool-decided (m.is_end b))) (bool-decided d)
leads-decided m (suc k) a b d = some_below 256 (λ (c : ℕ). After m a b d c (Leads m k)) (λ c. after-decided m a b d c (Leads m k) (leads-decided m k))

pub byte_low : (m : Machine) (p c : ℕ) (x : Move) → IsMachine m → p < m.count → Contains (m.moves p c) x → c < 256
byte_low m p c x lawful low h =
    elim (cases_lt c 256) [
      | inl lt ↦ lt
      | inr ge ↦ absurd (contains_none x (subst (λ (ys : List Move). Contains ys x) (lawful.bytes p c low ge) h))
    ]

leads_from : (m : Machine) (k a b : ℕ) (d : Bool) → IsMachine m → a < m.count → b < m.count → Suffices m k a b d → Leads m k a b d
leads_from m zero a b d lawful ha hb h = ((h.0, h.1), h.2)
leads_from m (suc k) a b d lawful ha hb (a', b', d', step, rest) =
    let x = step.left in
    let y = step.right in
    let way : Suffices m k x.to y.to (differed_by d x y) =
    subst (λ (v : Bool). Suffices m k x.to y.to v) (sym step.value)
    (subst (λ (q : ℕ). Suffices m k x.to q d') (sym step.right_to) (subst (λ (q : ℕ). Suffices m k q b' d') (sym step.left_to) rest)) in
    let left : x.to < m.count = move_stays m a step.byte x lawful ha step.on_left in
    let right : y.to < m.count = move_stays m b step.byte y lawful hb step.on_right in
    (step.byte, byte_low m a step.byte x lawful ha step.on_left, (x, step.on_left, (y, step.on_right, leads_from m k x.to y.to (differed_by d x y) lawful left right way)))

suffices_from : (m : Machine) (k a b : ℕ) (d : Bool) → Leads m k a b d → Suffices m k a b d
suffices_from m zero a b d h = (h.0.0, h.0.1, h.1)
suffices_from m (suc k) a b d (c, low, (x, hx, (y, hy, rest))) = (
  x.to,
  y.to,
  differed_by d x y,
  record { byte = c; left = x; right = y; on_left = hx; on_right = hy; left_to = refl; right_to = refl; value = refl },
  suffices_from m k x.to y.to (differed_by d x y) rest,
)

-- at most k bytes lead there
abbrev Within : Machine → ℕ → ℕ → ℕ → Bool → Type 0
Within m k a b d = (j : ℕ) × (j < suc k) × Leads m j a b d

within-decided : (m : Machine) (k a b : ℕ) (d : Bool) → Decided (Within m k a b d)
within-decided m k a b d = some_below (suc k) (λ (j : ℕ). Leads m j a b d) (λ j. leads-decided m j a b d)

within_more : (m : Machine) (k a b : ℕ) (d : Bool) → Within m k a b d → Within m (suc k) a b d
within_more m k a b d (j, lt, h) = (j, omega (arith, lt), h)

-- from the flagged pair k bytes lead there, and one more
abbrev NewAt : Machine → ℕ → ℕ → ℕ → Bool → Type 0
NewAt m k a b d = Leads m (suc k) a b d × (Within m k a b d → ⊥)

abbrev NewOf : Machine → ℕ → ℕ → ℕ → Type 0
NewOf m k a b = NewAt m k a b true ⊎ NewAt m k a b false

abbrev NewFrom : Machine → ℕ → ℕ → Type 0
NewFrom m k a = (b : ℕ) × (b < m.count) × NewOf m k a b

-- from some flagged pair, and from it none fewer
abbrev New : Machine → ℕ → Type 0
New m k = (a : ℕ) × (a < m.count) × NewFrom m k a

new_at-decided : (m : Machine) (k a b : ℕ) (d : Bool) → Decided (NewAt m k a b d)
new_at-decided m k a b d = both-decided (leads-decided m (suc k) a b d) (not-decided (within-decided m k a b d))

new-decided : (m : Machine) (k : ℕ) → Decided (New m k)
new-decided m k =
    some_below m.count (λ (a : ℕ). NewFrom m k a)
    (λ a. some_below m.count (λ (b : ℕ). NewOf m k a b) (λ b. either-decided (new_at-decided m k a b true) (new_at-decided m k a b false)))

-- how many of the two values lead there, and how many flagged pairs
abbrev values : Machine → ℕ → ℕ → ℕ → ℕ
values m k a b = one_if (within-decided m k a b true) + one_if (within-decided m k a b false)

abbrev row : Machine → ℕ → ℕ → ℕ
row m k a = sum_to m.count (λ (b : ℕ). values m k a b)

abbrev weight : Machine → ℕ → ℕ
weight m k = sum_to m.count (λ (a : ℕ). row m k a)

values_le : (m : Machine) (k a b : ℕ) → values m k a b ≤ values m (suc k) a b
values_le m k a b =
    let set = one_le (within-decided m k a b true) (within-decided m (suc k) a b true) (within_more m k a b true) in
    let unset = one_le (within-decided m k a b false) (within-decided m (suc k) a b false) (within_more m k a b false) in
    omega (arith, set, unset)

one_more : (m : Machine) (k a b : ℕ) (d : Bool) → NewAt m k a b d → one_if (within-decided m k a b d) < one_if (within-decided m (suc k) a b d)
one_more m k a b d (leads, never) = one_lt (within-decided m k a b d) (within-decided m (suc k) a b d) never (suc k, omega arith, leads)

values_lt : (m : Machine) (k a b : ℕ) → NewOf m k a b → values m k a b < values m (suc k) a b
values_lt m k a b (inl new) =
    let set = one_more m k a b true new in
    let unset = one_le (within-decided m k a b false) (within-decided m (suc k) a b false) (within_more m k a b false) in
    omega (arith, set, unset)
values_lt m k a b (inr new) =
    let set = one_le (within-decided m k a b true) (within-decided m (suc k) a b true) (within_more m k a b true) in
    let unset = one_more m k a b false new in
    omega (arith, set, unset)

row_le : (m : Machine) (k a : ℕ) → row m k a ≤ row m (suc k) a
row_le m k a = sum_le m.count (λ (b : ℕ). values m k a b) (λ (b : ℕ). values m (suc k) a b) (λ b lt. values_le m k a b)

weight_lt : (m : Machine) (k : ℕ) → New m k → weight m k < weight m (suc k)
weight_lt m k (a, ha, (b, hb, new)) =
    sum_lt m.count (λ (i : ℕ). row m k i) (λ (i : ℕ). row m (suc k) i) (λ i lt. row_le m k i) a ha
    (sum_lt m.count (λ (i : ℕ). values m k a i) (λ (i : ℕ). values m (suc k) a i) (λ i lt. values_le m k a i) b hb (values_lt m k a b new))

values_low : (m : Machine) (k a b : ℕ) → values m k a b ≤ 2
values_low m k a b =
    let set = one_low (within-decided m k a b true) in
    let unset = one_low (within-decided m k a b false) in
    omega (arith, set, unset)

weight_low : (m : Machine) (k : ℕ) → weight m k ≤ sum_to m.count (λ a. sum_to m.count (λ b. 2))
weight_low m k =
    sum_le m.count (λ (a : ℕ). row m k a) (λ a. sum_to m.count (λ b. 2))
    (λ a ha. sum_le m.count (λ (b : ℕ). values m k a b) (λ b. 2) (λ b hb. values_low m k a b))

new_of : (m : Machine) (k a b : ℕ) (d : Bool) → NewAt m k a b d → NewOf m k a b
new_of m k a b true h = inl h
new_of m k a b false h = inr h

last_within : (m : Machine) (k a b : ℕ) (d : Bool) → (New m k → ⊥) → a < m.count → b < m.count → Leads m (suc k) a b d → Within m k a b d
last_within m k a b d shut ha hb h = elim (within-decided m k a b d) [ inl w ↦ w | inr never ↦ absurd (shut (a, ha, (b, hb, new_of m k a b d (h, never)))) ]

-- where nothing is new at k, no more than k bytes are needed
stays_within : (m : Machine) (k j a b : ℕ) (d : Bool) → IsMachine m → (New m k → ⊥) → a < m.count → b < m.count → Leads m j a b d → Within m k a b d
stays_within m k zero a b d lawful shut ha hb h = (0, omega arith, h)
stays_within m k (suc j) a b d lawful shut ha hb (c, low, (x, hx, (y, hy, rest))) =
    let (i, lt, way) = stays_within m k j x.to y.to (differed_by d x y) lawful shut (move_stays m a c x lawful ha hx) (move_stays m b c y lawful hb hy) rest in
    let here : Leads m (suc i) a b d = (c, low, (x, hx, (y, hy, way))) in
    elim (cases_lt i k) [
      | inl below ↦ (suc i, omega (arith, below), here)
      | inr ge ↦ let e : i ≡ k = omega (arith, ge, lt) in last_within m k a b d shut ha hb (subst (λ (q : ℕ). Leads m (suc q) a b d) e here)
    ]

-- whether any number of steps suffices
pub steps-decided : (m : Machine) (a b : ℕ) (d : Bool) → IsMachine m → a < m.count → b < m.count → Decided ((k : ℕ) × Suffices m k a b d)
steps-decided m a b d lawful ha hb =
    let (k, shut) = stands_still (weight m) (sum_to m.count (λ a. sum_to m.count (λ b. 2))) (New m) (weight_low m) (new-decided m) (weight_lt m) in
    elim (within-decided m k a b d) [
      | inl (j, lt, h) ↦ inl (j, suffices_from m j a b d h)
      | inr never ↦ inr (λ s. never (stays_within m k s.0 a b d lawful shut ha hb (leads_from m s.0 a b d lawful ha hb s.1)))
    ]

pub ambiguity-decided : (m : Machine) → IsMachine m → Decided (IsAmbiguous m)
ambiguity-decided m lawful =
    elim (steps-decided m m.first m.first false lawful lawful.begins lawful.begins) [
      | inl (k, h) ↦ inl (ambiguous_from_steps m k h)
      | inr never ↦ inr (λ h. never (steps_from_ambiguous m h))
    ]
