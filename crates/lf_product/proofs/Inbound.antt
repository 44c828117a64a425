-- Lists of arrivals by target, one more.
use Rattle.std.proofs.Common.{◌≡◌, ℕ, ◌+◌, ◌<◌, ◌≤◌, ◌⊎◌, inl, inr, Bool, List, [], ◌∷◌, ◌++◌, length, get_or, set, take, refl, sym, ap, subst, get_or-set_same, get_or-set_other}
use Rattle.std.specs.Prelude.{slice_index_or}
use Rattle.std.specs.List.{Contains}
use Rattle.std.proofs.lemmas.Bool.{cases_eq, cases_lt}
use Rattle.std.proofs.lemmas.List.{get_or_past}
use Rattle.std.proofs.lemmas.List.Elements.{Contains-push, Contains-push_cases, Contains-append_left, All-contains}
use Rattle.lf_core.specs.declared.marked.Move.{Move}
use Rattle.lf_product.specs.ByteSet.{HasByte}
use Rattle.lf_core.specs.Marked.{IsMachine}
use Rattle.lf_core.specs.Written.{WrittenMachine, points_of, moves_at, machine_of}
use Rattle.lf_product.specs.declared.arrivals.Arrival.{Arrival}
use Rattle.lf_product.specs.declared.arrivals.Departure.{Departure}
use Rattle.lf_product.specs.Arcs.{IsSeen, Departs, HaveBytes, Arrives}
use Rattle.lf_product.proofs.Sweep.{contains_none, contains_take_more, contains_whole}

-- the lists with one more arrival at a target
abbrev pub more : List (List Arrival) → ℕ → Arrival → List (List Arrival)
more lists t e = set lists t (slice_index_or lists t [] ++ e ∷ [])

pub more_kept : (lists : List (List Arrival)) (t : ℕ) (e : Arrival) (to : ℕ) (y : Arrival) → t < length lists → Contains (slice_index_or lists to []) y → Contains (slice_index_or (more lists t e) to []) y
more_kept lists t e to y lt h =
    elim (cases_eq to t) [
      | inl q ↦ subst (λ (k : ℕ). Contains (slice_index_or (more lists t e) k []) y) (sym q)
          (subst (λ (ys : List Arrival). Contains ys y) (sym (get_or-set_same lists t (slice_index_or lists t [] ++ e ∷ []) [] lt))
          (Contains-append_left (slice_index_or lists t []) (e ∷ []) y (subst (λ (k : ℕ). Contains (slice_index_or lists k []) y) q h)))
      | inr ne ↦ subst (λ (ys : List Arrival). Contains ys y) (sym (get_or-set_other lists t to (slice_index_or lists t [] ++ e ∷ []) [] ne)) h
    ]

pub more_new : (lists : List (List Arrival)) (t : ℕ) (e : Arrival) → t < length lists → Contains (slice_index_or (more lists t e) t []) e
more_new lists t e lt = subst (λ (ys : List Arrival). Contains ys e) (sym (get_or-set_same lists t (slice_index_or lists t [] ++ e ∷ []) [] lt)) (Contains-push (slice_index_or lists t []) e)

pub more_cases : (lists : List (List Arrival)) (t : ℕ) (e : Arrival) (to : ℕ) (y : Arrival) → t < length lists → Contains (slice_index_or (more lists t e) to []) y → Contains (slice_index_or lists to []) y ⊎ ((to ≡ t) × (e ≡ y))
more_cases lists t e to y lt h =
    elim (cases_eq to t) [
      | inl q ↦
          let here : Contains (slice_index_or lists t [] ++ e ∷ []) y = subst (λ (ys : List Arrival). Contains ys y) (get_or-set_same lists t (slice_index_or lists t [] ++ e ∷ []) [] lt) (subst (λ (k : ℕ). Contains (slice_index_or (more lists t e) k []) y) q h) in
          elim (Contains-push_cases (slice_index_or lists t []) e y here) [
            | inl k ↦ inl (subst (λ (k : ℕ). Contains (slice_index_or lists k []) y) (sym q) k)
            | inr s ↦ inr (q, s)
          ]
      | inr ne ↦ inl (subst (λ (ys : List Arrival). Contains ys y) (get_or-set_other lists t to (slice_index_or lists t [] ++ e ∷ []) [] ne) h)
    ]

pub arrives_kept : (lists : List (List Arrival)) (t : ℕ) (e : Arrival) (from : ℕ) (x : Move) (b : ℕ) → t < length lists → Arrives lists from x b → Arrives (more lists t e) from x b
arrives_kept lists t e from x b lt h = record { by = h.by; listed = more_kept lists t e x.to h.by lt h.listed; from_is = h.from_is; mark_is = h.mark_is; on = h.on }

pub arrives_new : (lists : List (List Arrival)) (t : ℕ) (e : Arrival) (from : ℕ) (x : Move) (b : ℕ) → t < length lists → e.from ≡ from → e.mark ≡ x.mark → t ≡ x.to → HasByte e.bytes b → Arrives (more lists t e) from x b
arrives_new lists t e from x b lt f k q on = record { by = e; listed = subst (λ (j : ℕ). Contains (slice_index_or (more lists t e) j []) e) q (more_new lists t e lt); from_is = f; mark_is = k; on = on }

-- moves stand only at points and bytes
pub moves_from : (w : WrittenMachine) (from b : ℕ) (x : Move) → Contains (moves_at w from b) x → from < points_of w
moves_from w from b x h =
    elim (cases_lt from (points_of w)) [
      | inl lt ↦ lt
      | inr ge ↦ absurd (contains_none x (subst (λ (ys : List Move). Contains ys x) (ap (λ (row : List (List Move)). slice_index_or row b []) (get_or_past w.rows from [] ge)) h))
    ]

pub moves_on : (w : WrittenMachine) (from b : ℕ) (x : Move) → IsMachine (machine_of w) → Contains (moves_at w from b) x → b < 256
moves_on w from b x lawful h =
    elim (cases_lt b 256) [
      | inl lt ↦ lt
      | inr ge ↦ absurd (contains_none x (subst (λ (ys : List Move). Contains ys x) (lawful.bytes from b (moves_from w from b x h) ge) h))
    ]

pub depart_leads : (w : WrittenMachine) (marked : Bool) (from : ℕ) (ds : List Departure) → ((x : Move) (b : ℕ) → b < 256 → Departs ds x b → IsSeen marked (moves_at w from b) x) → (d : Departure) → Contains ds d → (b : ℕ) → b < 256 → HasByte d.bytes b → IsSeen marked (moves_at w from b) (record { mark = d.mark; to = d.to })
depart_leads w marked from ds froms d h b low on =
    froms (record { mark = d.mark; to = d.to }) b low (record { by = d; listed = h; mark_is = refl; to_is = refl; on = on })

pub depart_below : (w : WrittenMachine) (marked : Bool) (from : ℕ) (ds : List Departure) → IsMachine (machine_of w) → ((x : Move) (b : ℕ) → b < 256 → Departs ds x b → IsSeen marked (moves_at w from b) x) → HaveBytes ds → (d : Departure) → Contains ds d → d.to < points_of w
depart_below w marked from ds lawful froms some d h =
    let s = some d h in
    let (x, here, is) = depart_leads w marked from ds froms d h s.0 s.1 s.2 in
    subst (λ (k : ℕ). k < points_of w) (ap (λ (y : Move). y.to) is) (All-contains (λ (y : Move). y.to < points_of w) (moves_at w from s.0) x (lawful.stays from s.0 (moves_from w from s.0 x here)) here)

-- a departure within the first ones, or the next
pub departs_take_more : (ds : List Departure) (i : ℕ) (d : Departure) (x : Move) (b : ℕ) → i < length ds → Departs (take (i + 1) ds) x b → Departs (take i ds) x b ⊎ ((d' : Departure) × (get_or ds i d ≡ d') × (d'.mark ≡ x.mark) × (d'.to ≡ x.to) × HasByte d'.bytes b)
departs_take_more ds i d x b lt h =
    elim (contains_take_more ds i d h.by lt h.listed) [
      | inl k ↦ inl (record { by = h.by; listed = k; mark_is = h.mark_is; to_is = h.to_is; on = h.on })
      | inr e ↦ inr (h.by, e, h.mark_is, h.to_is, h.on)
    ]

pub departs_whole : (ds : List Departure) (i : ℕ) (x : Move) (b : ℕ) → length ds ≤ i → Departs ds x b → Departs (take i ds) x b
departs_whole ds i x b le h = record { by = h.by; listed = contains_whole ds i h.by le h.listed; mark_is = h.mark_is; to_is = h.to_is; on = h.on }
