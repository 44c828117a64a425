-- Runs that go on, come together and are cut.
use Rattle.std.proofs.Common.{◌≡◌, ℕ, ◌<◌, List, [], ◌∷◌, ◌++◌, refl, sym, ap, ◌∙◌, subst, arith, zero, suc}
use Rattle.std.specs.List.{Contains}
use Rattle.lf_core.specs.declared.marked.Move.{Move}
use Rattle.lf_core.specs.Marked.{Machine, IsMachine, IsRun, IsWholeRun, stop}
use Rattle.lf_core.specs.RunLaws.{stop_push}
use Rattle.lf_core.specs.WrittenLaws.{stop_below}
use Rattle.lf_core.specs.Runs.{RunsToEnd}
use Rattle.lf_sets.specs.Reached.{IsLedTo, ArePoints, AreReached}

pub only_one : (x y : ℕ) → Contains (y ∷ []) x → y ≡ x
only_one x y (zero, lt, is) = is
only_one x y (suc k, lt, is) = absurd (omega (arith, lt))

pub is_one : (x : ℕ) → Contains (x ∷ []) x
is_one x = (0, omega arith, refl)

-- one move more
run_push : (moves : ℕ → ℕ → List Move) (line : List ℕ) (run : List Move) (a b : ℕ) (x : Move) → IsRun moves a line run → Contains (moves (stop a run) b) x → IsRun moves a (line ++ b ∷ []) (run ++ x ∷ [])
run_push moves [] [] a b x r h = (h, tt)
run_push moves [] (y ∷ ys) a b x r h = absurd r
run_push moves (c ∷ cs) [] a b x r h = absurd r
run_push moves (c ∷ cs) (y ∷ ys) a b x r h = (r.0, run_push moves cs ys y.to b x r.1 h)

-- the last move of a run
run_back : (moves : ℕ → ℕ → List Move) (line : List ℕ) (run : List Move) (a b : ℕ) → IsRun moves a (line ++ b ∷ []) run → (before : List Move) × IsRun moves a line before × (x : Move) × Contains (moves (stop a before) b) x × (x.to ≡ stop a run)
run_back moves [] [] a b r = absurd r
run_back moves [] (x ∷ []) a b r = ([], tt, x, r.0, refl)
run_back moves [] (x ∷ y ∷ ys) a b r = absurd r.1
run_back moves (c ∷ cs) [] a b r = absurd r
run_back moves (c ∷ cs) (x ∷ xs) a b r =
    let k = run_back moves cs xs x.to b r.1 in
    (x ∷ k.0, (r.0, k.1), k.2, k.3, k.4)

run_join : (moves : ℕ → ℕ → List Move) (xs ys : List ℕ) (r s : List Move) (a : ℕ) → IsRun moves a xs r → IsRun moves (stop a r) ys s → IsRun moves a (xs ++ ys) (r ++ s)
run_join moves [] ys [] s a hr hs = hs
run_join moves [] ys (y ∷ r) s a hr hs = absurd hr
run_join moves (c ∷ cs) ys [] s a hr hs = absurd hr
run_join moves (c ∷ cs) ys (x ∷ r) s a hr hs = (hr.0, run_join moves cs ys r s x.to hr.1 hs)

stop_join : (r s : List Move) (a : ℕ) → stop a (r ++ s) ≡ stop (stop a r) s
stop_join [] s a = refl
stop_join (x ∷ r) s a = stop_join r s x.to

run_cut : (moves : ℕ → ℕ → List Move) (xs ys : List ℕ) (run : List Move) (a : ℕ) → IsRun moves a (xs ++ ys) run → (r : List Move) × IsRun moves a xs r × (s : List Move) × IsRun moves (stop a r) ys s × (stop (stop a r) s ≡ stop a run)
run_cut moves [] ys run a h = ([], tt, run, h, refl)
run_cut moves (c ∷ cs) ys [] a h = absurd h
run_cut moves (c ∷ cs) ys (x ∷ run) a h =
    let k = run_cut moves cs ys run x.to h.1 in
    (x ∷ k.0, (h.0, k.1), k.2, k.3, k.4)

-- with no bytes a point leads to itself alone
pub led_none : (m : Machine) (points : List ℕ) (p : ℕ) → Contains points p → IsLedTo m points [] p
led_none m points p h = (p, h, [], tt, refl)

pub none_led : (m : Machine) (points : List ℕ) (p : ℕ) → IsLedTo m points [] p → Contains points p
none_led m points p (q, h, [], r, e) = subst (Contains points) e h
none_led m points p (q, h, x ∷ xs, r, e) = absurd r

-- one byte more
pub led_on : (m : Machine) (points line : List ℕ) (q b : ℕ) (x : Move) → IsLedTo m points line q → Contains (m.moves q b) x → IsLedTo m points (line ++ b ∷ []) x.to
led_on m points line q b x (from, h, run, r, e) step = (
  from,
  h,
  run ++ x ∷ [],
  run_push m.moves line run from b x r (subst (λ (p : ℕ). Contains (m.moves p b) x) (sym e) step),
  stop_push run from x,
)

pub led_by : (m : Machine) (points line : List ℕ) (p b : ℕ) → IsLedTo m points (line ++ b ∷ []) p → (q : ℕ) × IsLedTo m points line q × (x : Move) × Contains (m.moves q b) x × (x.to ≡ p)
led_by m points line p b (from, h, run, r, e) =
    let k = run_back m.moves line run from b r in
    (stop from k.0, (from, h, k.0, k.1, refl), k.2, k.3, k.4 ∙ e)

pub led_below : (m : Machine) (points line : List ℕ) (p : ℕ) → IsMachine m → ArePoints m points → IsLedTo m points line p → p < m.count
led_below m points line p lawful below (from, h, run, r, e) = subst (λ (q : ℕ). q < m.count) e (stop_below m from line run lawful (below from h) r)

pub start_below : (m : Machine) → IsMachine m → ArePoints m (m.first ∷ [])
start_below m lawful p h = subst (λ (q : ℕ). q < m.count) (only_one p m.first h) lawful.begins

pub reached_below : (m : Machine) (line points : List ℕ) → IsMachine m → AreReached m line points → ArePoints m points
reached_below m line points lawful are p h = led_below m (m.first ∷ []) line p lawful (start_below m lawful) (are.reached p h)

-- the reached points stand for what went before
pub led_join : (m : Machine) (xs ys points : List ℕ) (p : ℕ) → AreReached m xs points → IsLedTo m points ys p → IsLedTo m (m.first ∷ []) (xs ++ ys) p
led_join m xs ys points p are (q, h, s, hs, e) =
    let k = are.reached q h in
    (k.0, k.1, k.2 ++ s, run_join m.moves xs ys k.2 s k.0 k.3 (subst (λ (a : ℕ). IsRun m.moves a ys s) (sym k.4) hs), stop_join k.2 s k.0 ∙ ap (λ (a : ℕ). stop a s) k.4 ∙ e)

pub led_cut : (m : Machine) (xs ys points : List ℕ) (p : ℕ) → AreReached m xs points → IsLedTo m (m.first ∷ []) (xs ++ ys) p → IsLedTo m points ys p
led_cut m xs ys points p are (from, h, run, r, e) =
    let k = run_cut m.moves xs ys run from r in
    (stop from k.0, are.all (stop from k.0) (from, h, k.0, k.1, refl), k.2, k.3, k.4 ∙ e)

-- an end is led to where there is a whole run
pub whole_led : (m : Machine) (line : List ℕ) (run : List Move) → IsWholeRun m line run → IsLedTo m (m.first ∷ []) line (stop m.first run)
whole_led m line run h = (m.first, is_one m.first, run, h.0, refl)

pub from_start : (m : Machine) (line : List ℕ) (p : ℕ) (run : List Move) → IsLedTo m (m.first ∷ []) [] p → RunsToEnd m p line run → IsWholeRun m line run
from_start m line p run led h = subst (λ (q : ℕ). RunsToEnd m q line run) (sym (only_one p m.first (none_led m (m.first ∷ []) p led))) h
