-- Levels of nodes that grow.
use Rattle.std.proofs.Common.{◌≡◌, ◌≢◌, ℕ, ◌+◌, ◌<◌, ◌≤◌, inl, inr, List, [], ◌∷◌, ◌++◌, length, get_or, set, take, drop, reverse, refl, sym, ap, ◌∙◌, subst, arith, zero, suc, length-append}
use Rattle.std.specs.List.{Contains}
use Rattle.std.proofs.Math.Numerals.{add-one}
use Rattle.std.proofs.lemmas.Bool.{cases_lt}
use Rattle.std.proofs.lemmas.List.{take_more, drop_more, reverse-append, get_or_append_left, get_or-set_same, get_or-set_other}
use Rattle.std.proofs.Math.Seq.{get_or-append_seam}
use Rattle.std.proofs.lemmas.List.Elements.{Contains-append_left, Contains-append_right, Contains-append_cases, Contains-get_or}
use Rattle.lf_core.specs.declared.marked.Move.{Move}
use Rattle.lf_core.specs.Marked.{Machine}
use Rattle.lf_sets.specs.declared.forest.Node.{Node}
use Rattle.lf_core.specs.Runs.{RunsToEnd}
use Rattle.lf_sets.specs.Reached.{IsLedTo}
use Rattle.lf_sets.specs.Forests.{no_node, node_at, point_at, before_at, move_of, move_at, HasPoint, IsNumbered, Keeps, Gains, GainsMoves, IsLed, GainsStep, IsTrail, IsTraced}
use Rattle.lf_sets.proofs.Runs.{led_none, led_on, led_by}

keeps_trans : (old mid new : List Node) → Keeps old mid → Keeps mid new → Keeps old new
keeps_trans old mid new h k = record {
  longer = omega (arith, h.longer, k.longer);
  same = λ place lt. k.same place (omega (arith, lt, h.longer)) ∙ h.same place lt;
}

has_kept : (old new : List Node) (level p : ℕ) → Keeps old new → HasPoint old level p → HasPoint new level p
has_kept old new level p keeps (place, from, lt, is) = (place, from, omega (arith, lt, keeps.longer), ap (λ (n : Node). n.point) (keeps.same place lt) ∙ is)

-- where the number of a point tells, its node of the level stands
pub numbered_at : (level : ℕ) (nodes : List Node) (places : List ℕ) (point place : ℕ) → IsNumbered level nodes places → get_or places point 0 ≡ place → HasPoint nodes level point → (level ≤ place) × (place < length nodes) × (point_at nodes place ≡ point)
numbered_at level nodes places point place numbered at (q, from, lt, is) =
    let e : place ≡ q = sym at ∙ subst (λ (p : ℕ). get_or places p 0 ≡ q) is (numbered q from lt) in
    (omega (arith, from, e), omega (arith, lt, e), ap (point_at nodes) e ∙ is)

-- a node of a point that the level doesn't have
pub numbered_more : (level : ℕ) (nodes : List Node) (places : List ℕ) (node : Node) → IsNumbered level nodes places → node.point < length places → (HasPoint nodes level node.point → ⊥) → IsNumbered level (nodes ++ node ∷ []) (set places node.point (length nodes))
numbered_more level nodes places node numbered low new place from lt =
    elim (cases_lt place (length nodes)) [
      | inl old ↦
          let same : point_at (nodes ++ node ∷ []) place ≡ point_at nodes place = ap (λ (n : Node). n.point) (get_or_append_left nodes (node ∷ []) no_node place old) in
          let other : point_at nodes place ≢ node.point = λ e. new (place, from, old, e) in
          ap (λ (p : ℕ). get_or (set places node.point (length nodes)) p 0) same ∙ get_or-set_other places node.point (point_at nodes place) (length nodes) 0 other ∙ numbered place from old
      | inr last ↦
          let e : place ≡ length nodes = omega (arith, last, lt, length-append nodes (node ∷ [])) in
          let same : point_at (nodes ++ node ∷ []) place ≡ node.point = ap (point_at (nodes ++ node ∷ [])) e ∙ ap (λ (n : Node). n.point) (get_or-append_seam nodes node [] no_node) in
          ap (λ (p : ℕ). get_or (set places node.point (length nodes)) p 0) same ∙ get_or-set_same places node.point (length nodes) 0 low ∙ sym e
    ]

only_move : (x y : Move) → Contains (y ∷ []) x → y ≡ x
only_move x y (zero, lt, is) = is
only_move x y (suc k, lt, is) = absurd (omega (arith, lt))

one_move : (x : Move) → Contains (x ∷ []) x
one_move x = (0, omega arith, refl)

-- one more move from the node
pub moves_more : (level at : ℕ) (moves : List Move) (x : Move) (node : Node) (old mid new : List Node) → node ≡ record { point = x.to; mark = x.mark; before = at } → GainsMoves level at moves old mid → Gains level node mid new → GainsMoves level at (moves ++ x ∷ []) old new
moves_more level at moves x node old mid new is h k = record {
  keeps = keeps_trans old mid new h.keeps k.keeps;
  from = λ place from lt. elim (cases_lt place (length mid)) [
    | inl old_one ↦ ap (λ (n : Node). n.before) (k.keeps.same place old_one) ∙ h.from place from old_one
    | inr new_one ↦ ap (λ (n : Node). n.before) (k.only place new_one lt ∙ is)
  ];
  by = λ place from lt. elim (cases_lt place (length mid)) [
    | inl old_one ↦ subst (Contains (moves ++ x ∷ [])) (sym (ap move_of (k.keeps.same place old_one))) (Contains-append_left moves (x ∷ []) (move_at mid place) (h.by place from old_one))
    | inr new_one ↦ subst (Contains (moves ++ x ∷ [])) (sym (ap move_of (k.only place new_one lt ∙ is))) (Contains-append_right moves (x ∷ []) x (one_move x))
  ];
  all = λ y c. elim (Contains-append_cases moves (x ∷ []) y c) [
    | inl before ↦ has_kept mid new level y.to k.keeps (h.all y before)
    | inr last ↦ subst (HasPoint new level) (ap (λ (n : Node). n.point) is ∙ ap (λ (z : Move). z.to) (only_move y x last)) k.has
  ];
}

-- the nodes of a byte
pub step_of_moves : (m : Machine) (byte level at : ℕ) (old new : List Node) → at < length old → GainsMoves level at (m.moves (point_at old at) byte) old new → GainsStep m byte level at (at + 1) old new
step_of_moves m byte level at old new lt h = record {
  keeps = h.keeps;
  led = λ place from below.
      let before : before_at new place ≡ at = h.from place from below in
      let same : point_at old at ≡ point_at new (before_at new place) = sym (ap (point_at new) before ∙ ap (λ (n : Node). n.point) (h.keeps.same at lt)) in
      record {
        after = omega (arith, before);
        before = omega (arith, before);
        by = subst (λ (p : ℕ). Contains (m.moves p byte) (move_at new place)) same (h.by place from below);
      };
  all = λ place x from below c.
      let is : place ≡ at = omega (arith, from, below) in
      h.all x (subst (λ (k : ℕ). Contains (m.moves (point_at old k) byte) x) is c);
}

led_kept : (m : Machine) (byte first end end' place : ℕ) (mid new : List Node) → Keeps mid new → place < length mid → end ≤ length mid → end ≤ end' → IsLed m byte first end mid place → IsLed m byte first end' new place
led_kept m byte first end end' place mid new keeps lt within more h =
    let node : node_at new place ≡ node_at mid place = keeps.same place lt in
    let before : before_at new place ≡ before_at mid place = ap (λ (n : Node). n.before) node in
    let low : before_at mid place < length mid = omega (arith, h.before, within) in
    let point : point_at mid (before_at mid place) ≡ point_at new (before_at new place) =
    sym (ap (point_at new) before ∙ ap (λ (n : Node). n.point) (keeps.same (before_at mid place) low)) in
    let move : move_at mid place ≡ move_at new place = sym (ap move_of node) in
    record {
      after = omega (arith, before, h.after);
      before = omega (arith, before, h.before, more);
      by = subst (λ (p : ℕ). Contains (m.moves p byte) (move_at new place)) point (subst (Contains (m.moves (point_at mid (before_at mid place)) byte)) move h.by);
    }

pub step_more : (m : Machine) (byte level first at : ℕ) (old mid new : List Node) → first ≤ at → at < length old → GainsStep m byte level first at old mid → GainsStep m byte level at (at + 1) mid new → GainsStep m byte level first (at + 1) old new
step_more m byte level first at old mid new le lt h k = record {
  keeps = keeps_trans old mid new h.keeps k.keeps;
  led = λ place from below. elim (cases_lt place (length mid)) [
    | inl old_one ↦ led_kept m byte first at (at + 1) place mid new k.keeps old_one (omega (arith, lt, h.keeps.longer)) (omega arith) (h.led place from old_one)
    | inr new_one ↦
        let one : IsLed m byte at (at + 1) new place = k.led place new_one below in
        record { after = omega (arith, le, one.after); before = one.before; by = one.by }
  ];
  all = λ place x from below c. elim (cases_lt place at) [
    | inl before ↦ has_kept mid new level x.to k.keeps (h.all place x from before c)
    | inr last ↦
        let same : point_at old place ≡ point_at mid place = sym (ap (λ (n : Node). n.point) (h.keeps.same place (omega (arith, below, lt)))) in
        k.all place x last below (subst (λ (p : ℕ). Contains (m.moves p byte) x) same c)
  ];
}

pub trail_below : (m : Machine) (points bytes : List ℕ) (nodes : List Node) (left place : ℕ) → IsTrail m points bytes nodes left place → place < length nodes
trail_below m points bytes nodes zero place h = h.0
trail_below m points bytes nodes (suc left) place h = h.0

-- the way back stands where nodes are added
trail_kept : (m : Machine) (points bytes : List ℕ) (old new : List Node) (left place : ℕ) → Keeps old new → IsTrail m points bytes old left place → IsTrail m points bytes new left place
trail_kept m points bytes old new zero place keeps (lt, low, is) = (omega (arith, lt, keeps.longer), low, ap (λ (n : Node). n.point) (keeps.same place lt) ∙ is)
trail_kept m points bytes old new (suc left) place keeps (lt, by, rest) =
    let node : node_at new place ≡ node_at old place = keeps.same place lt in
    let before : before_at old place ≡ before_at new place = sym (ap (λ (n : Node). n.before) node) in
    let move : move_at old place ≡ move_at new place = sym (ap move_of node) in
    let point : point_at old (before_at old place) ≡ point_at new (before_at new place) =
    sym (ap (λ (n : Node). n.point) (keeps.same (before_at old place) (trail_below m points bytes old left (before_at old place) rest))) ∙ ap (point_at new) before in (
      omega (arith, lt, keeps.longer),
      subst (λ (p : ℕ). Contains (m.moves p (get_or bytes left 0)) (move_at new place)) point (subst (Contains (m.moves (point_at old (before_at old place)) (get_or bytes left 0))) move by),
      subst (IsTrail m points bytes new left) before (trail_kept m points bytes old new left (before_at old place) keeps rest),
    )

-- the way back is a way there
pub trail_leads : (m : Machine) (points bytes : List ℕ) (nodes : List Node) (left place : ℕ) → left ≤ length bytes → IsTrail m points bytes nodes left place → IsLedTo m points (take left bytes) (point_at nodes place)
trail_leads m points bytes nodes zero place le (lt, low, is) = led_none m points (point_at nodes place) (subst (Contains points) (sym is) (Contains-get_or points place 0 low))
trail_leads m points bytes nodes (suc left) place le (lt, by, rest) =
    let whole : take (suc left) bytes ≡ take left bytes ++ get_or bytes left 0 ∷ [] = ap (λ (k : ℕ). take k bytes) (sym (add-one left)) ∙ take_more bytes left 0 (omega (arith, le)) in
    subst (λ (bs : List ℕ). IsLedTo m points bs (point_at nodes place)) (sym whole)
    (led_on m points (take left bytes) (point_at nodes (before_at nodes place)) (get_or bytes left 0) (move_at nodes place) (trail_leads m points bytes nodes left (before_at nodes place) (omega (arith, le)) rest) by)

-- one level more
pub traced_more : (m : Machine) (points bytes : List ℕ) (done level : ℕ) (nodes new : List Node) → done < length bytes → IsTraced m points bytes done nodes level → GainsStep m (get_or bytes done 0) (length nodes) level (length nodes) nodes new → IsTraced m points bytes (done + 1) new (length nodes)
traced_more m points bytes done level nodes new lt h k = record {
  within = k.keeps.longer;
  trails = λ place from below.
      let one : IsLed m (get_or bytes done 0) level (length nodes) new place = k.led place from below in
      subst (λ (n : ℕ). IsTrail m points bytes new n place) (sym (add-one done))
      (below, one.by, trail_kept m points bytes nodes new done (before_at new place) k.keeps (h.trails (before_at new place) one.after one.before));
  all = λ p led.
      let e = led_by m points (take done bytes) p (get_or bytes done 0) (subst (λ (bs : List ℕ). IsLedTo m points bs p) (take_more bytes done 0 lt) led) in
      let (place, from, low, is) = h.all e.0 e.1 in
      subst (HasPoint new (length nodes)) e.4 (k.all place e.2 from low (subst (λ (q : ℕ). Contains (m.moves q (get_or bytes done 0)) e.2) (sym is) e.3));
}

-- one move of the way back
pub trail_step : (m : Machine) (points bytes : List ℕ) (nodes : List Node) (left place : ℕ) → IsTrail m points bytes nodes (left + 1) place → Contains (m.moves (point_at nodes (before_at nodes place)) (get_or bytes left 0)) (move_at nodes place) × IsTrail m points bytes nodes left (before_at nodes place)
trail_step m points bytes nodes left place h =
    let k : IsTrail m points bytes nodes (suc left) place = subst (λ (n : ℕ). IsTrail m points bytes nodes n place) (add-one left) h in
    (k.1, k.2)

pub walk_more : (m : Machine) (points bytes : List ℕ) (nodes : List Node) (left place : ℕ) (rest : List ℕ) (back new : List Move) → left < length bytes → IsTrail m points bytes nodes (left + 1) place → new ≡ back ++ move_at nodes place ∷ [] → RunsToEnd m (point_at nodes place) (drop (left + 1) bytes ++ rest) (reverse back) → RunsToEnd m (point_at nodes (before_at nodes place)) (drop left bytes ++ rest) (reverse new)
walk_more m points bytes nodes left place rest back new lt trail is h =
    let turned : reverse new ≡ move_at nodes place ∷ reverse back = ap (λ (xs : List Move). reverse xs) is ∙ reverse-append back (move_at nodes place ∷ []) in
    let cut : drop left bytes ++ rest ≡ get_or bytes left 0 ∷ (drop (left + 1) bytes ++ rest) = ap (λ (bs : List ℕ). bs ++ rest) (drop_more bytes left 0 lt) in
    subst (λ (bs : List ℕ). RunsToEnd m (point_at nodes (before_at nodes place)) bs (reverse new)) (sym cut)
    (subst (λ (r : List Move). RunsToEnd m (point_at nodes (before_at nodes place)) (get_or bytes left 0 ∷ (drop (left + 1) bytes ++ rest)) r) (sym turned)
    (((trail_step m points bytes nodes left place trail).0, h.0), h.1))
