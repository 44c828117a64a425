-- Runs with one byte more, and the points that they reach.
use Rattle.std.proofs.Common.{◌≡◌, ℕ, ◌<◌, List, [], ◌∷◌, ◌++◌, refl, sym, ◌∙◌, subst, arith, zero, suc}
use Rattle.std.specs.List.{Contains}
use Rattle.lf_core.specs.declared.marked.Move.{Move}
use Rattle.lf_core.specs.Marked.{Machine, IsMachine, IsRun, stop}
use Rattle.lf_core.specs.RunLaws.{stop_push}
use Rattle.lf_core.specs.WrittenLaws.{stop_below}
use Rattle.lf_tables.specs.Reached.{Reaches}
use Rattle.lf_tables.specs.Found.{AreReached}

pub only_one : {A : Type 0} (x y : A) → Contains (y ∷ []) x → y ≡ x
only_one x y (zero, lt, is) = is
only_one x y (suc k, lt, is) = absurd (omega (arith, lt))

pub is_one : {A : Type 0} (x : A) → Contains (x ∷ []) x
is_one x = (0, omega arith, refl)

-- one move more
run_push : (moves : ℕ → ℕ → List Move) (line : List ℕ) (run : List Move) (a b : ℕ) (x : Move) → IsRun moves a line run → Contains (moves (stop a run) b) x → IsRun moves a (line ++ b ∷ []) (run ++ x ∷ [])
run_push moves [] [] a b x r h = (h, tt)
run_push moves [] (y ∷ ys) a b x r h = absurd r
run_push moves (c ∷ cs) [] a b x r h = absurd r
run_push moves (c ∷ cs) (y ∷ ys) a b x r h = (r.0, run_push moves cs ys y.to b x r.1 h)

-- the last move of a run
run_back : (moves : ℕ → ℕ → List Move) (line : List ℕ) (run : List Move) (a b : ℕ) → IsRun moves a (line ++ b ∷ []) run → (before : List Move) × IsRun moves a line before × (x : Move) × Contains (moves (stop a before) b) x × (x.to ≡ stop a run)
run_back moves [] [] a b r = absurd r
run_back moves [] (x ∷ []) a b r = ([], tt, x, r.0, refl)
run_back moves [] (x ∷ y ∷ ys) a b r = absurd r.1
run_back moves (c ∷ cs) [] a b r = absurd r
run_back moves (c ∷ cs) (x ∷ xs) a b r =
    let k = run_back moves cs xs x.to b r.1 in
    (x ∷ k.0, (r.0, k.1), k.2, k.3, k.4)

-- the byte leads from the points to just these
pub record LeadTo (m : Machine) (points : List ℕ) (b : ℕ) (next : List ℕ) : Type 0 where
  pub led : (p : ℕ) → Contains next p → (q : ℕ) × Contains points q × (x : Move) × Contains (m.moves q b) x × (x.to ≡ p)
  pub all : (q : ℕ) (x : Move) → Contains points q → Contains (m.moves q b) x → Contains next x.to

none_reached : (m : Machine) (p : ℕ) → Reaches m [] p → Contains (m.first ∷ []) p
none_reached m p ([], r, s) = subst (Contains (m.first ∷ [])) s (is_one m.first)
none_reached m p (x ∷ run, r, s) = absurd r

-- no bytes reach the start alone
pub start_reached : (m : Machine) → AreReached m [] (m.first ∷ [])
start_reached m p = (λ h. ([], tt, only_one p m.first h), none_reached m p)

-- one byte more reaches just the points to which it leads
pub lead_reached : (m : Machine) (line points next : List ℕ) (b : ℕ) → AreReached m line points → LeadTo m points b next → AreReached m (line ++ b ∷ []) next
lead_reached m line points next b are to p = (
  λ h.
      let (q, there, x, by, e) = to.led p h in
      let (run, r, s) = (are q).0 there in
      (run ++ x ∷ [], run_push m.moves line run m.first b x r (subst (λ (a : ℕ). Contains (m.moves a b) x) (sym s) by), stop_push run m.first x ∙ e),
  λ h.
      let (run, r, s) = h in
      let (before, rb, x, by, e) = run_back m.moves line run m.first b r in
      subst (Contains next) (e ∙ s) (to.all (stop m.first before) x ((are (stop m.first before)).1 (before, rb, refl)) by),
)

pub reached_below : (m : Machine) (line points : List ℕ) (p : ℕ) → IsMachine m → AreReached m line points → Contains points p → p < m.count
reached_below m line points p lawful are h =
    let (run, r, s) = (are p).0 h in
    subst (λ (q : ℕ). q < m.count) s (stop_below m m.first line run lawful lawful.begins r)
