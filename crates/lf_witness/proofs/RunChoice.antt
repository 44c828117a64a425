-- The least run with a property, if there is one.
use Rattle.std.proofs.Common.{◌≡◌, ◌≢◌, ℕ, ◌⊎◌, inl, inr, true, List, [], ◌∷◌, refl, sym, ap, ◌∙◌, subst, arith}
use Rattle.std.specs.List.{Contains}
use Rattle.std.proofs.lemmas.Bool.{cases_lt}
use Rattle.lf_core.specs.declared.marked.Move.{Move}
use Rattle.lf_core.specs.Marked.{Machine}
use Rattle.lf_product.proofs.Deciding.{Decided, bool-decided, not-decided, contains_cases, contains_first, contains_later}
use Rattle.lf_core.specs.Runs.{RunsToEnd, MoveLe, RunLe, IsShared}
use Rattle.lf_core.specs.RunLaws.{move_is, run_cases, run_le-none, run_le-cons}
use Rattle.lf_witness.specs.Runs.{AreLeastRuns}
use Rattle.lf_product.proofs.Sweep.{contains_none}
use Rattle.lf_witness.proofs.OpenLaws.{move_le_trans}

by_point : (x y : Move) → x.mark ≡ y.mark → MoveLe x y ⊎ MoveLe y x
by_point x y e =
    elim (cases_lt x.to y.to) [
      | inl lt ↦ inl (inl (inr (e, lt)))
      | inr ge ↦ elim (cases_lt y.to x.to) [ inl gt ↦ inr (inl (inr (sym e, gt))) | inr le ↦ inl (inr (move_is x y e (omega (arith, ge, le)))) ]
    ]

move_le_total : (x y : Move) → MoveLe x y ⊎ MoveLe y x
move_le_total x y =
    elim (cases_lt x.mark y.mark) [
      | inl lt ↦ inl (inl (inl lt))
      | inr ge ↦ elim (cases_lt y.mark x.mark) [ inl gt ↦ inr (inl (inl gt)) | inr le ↦ by_point x y (omega (arith, ge, le)) ]
    ]

-- the least move of a list with a property
record LeastListed (xs : List Move) (P : Move → Type 0) : Type 0 where
  pub x : Move
  pub listed : Contains xs x
  pub holds : P x
  pub least : (y : Move) → Contains xs y → P y → MoveLe x y

lesser : (z : Move) (zs : List Move) (P : Move → Type 0) → P z → LeastListed zs P → LeastListed (z ∷ zs) P
lesser z zs P p l =
    elim (move_le_total z l.x) [
      | inl le ↦ record {
        x = z;
        listed = contains_first z zs;
        holds = p;
        least = λ y h q. elim (contains_cases z zs y h) [ inl e ↦ inr e | inr k ↦ move_le_trans z l.x y le (l.least y k q) ];
      }
      | inr ge ↦ record {
        x = l.x;
        listed = contains_later z zs l.x l.listed;
        holds = l.holds;
        least = λ y h q. elim (contains_cases z zs y h) [ inl e ↦ subst (λ (w : Move). MoveLe l.x w) e ge | inr k ↦ l.least y k q ];
      }
    ]

least_listed : (xs : List Move) (P : Move → Type 0) → ((x : Move) → Decided (P x)) → LeastListed xs P ⊎ ((y : Move) → Contains xs y → P y → ⊥)
least_listed [] P dec = inr (λ y h q. contains_none y h)
least_listed (z ∷ zs) P dec =
    elim (least_listed zs P dec) [
      | inl l ↦
          elim (dec z) [
            | inl p ↦ inl (lesser z zs P p l)
            | inr never ↦ inl (record {
              x = l.x;
              listed = contains_later z zs l.x l.listed;
              holds = l.holds;
              least = λ y h q. elim (contains_cases z zs y h) [ inl e ↦ absurd (never (subst P (sym e) q)) | inr k ↦ l.least y k q ];
            })
          ]
      | inr none ↦
          elim (dec z) [
            | inl p ↦ inl (record {
              x = z;
              listed = contains_first z zs;
              holds = p;
              least = λ y h q. elim (contains_cases z zs y h) [ inl e ↦ inr e | inr k ↦ absurd (none y k q) ];
            })
            | inr never ↦ inr (λ y h q. elim (contains_cases z zs y h) [ inl e ↦ never (subst P (sym e) q) | inr k ↦ none y k q ])
          ]
    ]

-- the least run over the line from the point to an end, of those with a property
pub record LeastAmong (m : Machine) (p : ℕ) (line : List ℕ) (P : List Move → Type 0) : Type 0 where
  pub run : List Move
  pub runs : RunsToEnd m p line run
  pub holds : P run
  pub least : (other : List Move) → RunsToEnd m p line other → P other → RunLe run other

-- no run has it
abbrev pub NoneAmong : Machine → ℕ → List ℕ → (List Move → Type 0) → Type 0
NoneAmong m p line P = (run : List Move) → RunsToEnd m p line run → P run → ⊥

none_at_end : (m : Machine) (p : ℕ) (P : List Move → Type 0) → (m.is_end p ≡ true → P [] → ⊥) → NoneAmong m p [] P
none_at_end m p P never [] r q = never r.1 q
none_at_end m p P never (x ∷ xs) r q = absurd r.0

-- the same after one move
abbrev After : Machine → List ℕ → (List Move → Type 0) → Move → Type 0
After m cs P x = LeastAmong m x.to cs (λ (run : List Move). P (x ∷ run))

abbrev NotAfter : Machine → List ℕ → (List Move → Type 0) → Move → Type 0
NotAfter m cs P x = NoneAmong m x.to cs (λ (run : List Move). P (x ∷ run))

after-decided : (m : Machine) (cs : List ℕ) (P : List Move → Type 0) (x : Move) → After m cs P x ⊎ NotAfter m cs P x → Decided (After m cs P x)
after-decided m cs P x (inl l) = inl l
after-decided m cs P x (inr none) = inr (λ l. none l.run l.runs l.holds)

there : (m : Machine) (p c : ℕ) (cs : List ℕ) (P : List Move → Type 0) (y : Move) (o : List Move) → After m cs P y ⊎ NotAfter m cs P y → RunsToEnd m p (c ∷ cs) (y ∷ o) → P (y ∷ o) → After m cs P y
there m p c cs P y o (inl l) r q = l
there m p c cs P y o (inr none) r q = absurd (none o (r.0.1, r.1) q)

cons_least : (m : Machine) (p c : ℕ) (cs : List ℕ) (P : List Move → Type 0) → ((x : Move) → After m cs P x ⊎ NotAfter m cs P x) → (first : LeastListed (m.moves p c) (After m cs P)) → (other : List Move) → RunsToEnd m p (c ∷ cs) other → P other → RunLe (first.x ∷ first.holds.run) other
cons_least m p c cs P rest first [] r q = absurd r.0
cons_least m p c cs P rest first (y ∷ o) r q =
    elim (first.least y r.0.0 (there m p c cs P y o (rest y) r q)) [
      | inl lt ↦ inl (inl lt)
      | inr e ↦ run_le-cons first.x y first.holds.run o e (first.holds.least o (subst (λ (w : Move). RunsToEnd m w.to cs o) (sym e) (r.0.1, r.1)) (subst (λ (w : Move). P (w ∷ o)) (sym e) q))
    ]

none_cons : (m : Machine) (p c : ℕ) (cs : List ℕ) (P : List Move → Type 0) → ((x : Move) → After m cs P x ⊎ NotAfter m cs P x) → ((y : Move) → Contains (m.moves p c) y → After m cs P y → ⊥) → NoneAmong m p (c ∷ cs) P
none_cons m p c cs P rest none [] r q = absurd r.0
none_cons m p c cs P rest none (y ∷ o) r q = none y r.0.0 (there m p c cs P y o (rest y) r q)

least_at_end : (m : Machine) (p : ℕ) (P : List Move → Type 0) → Decided (m.is_end p ≡ true) → Decided (P []) → LeastAmong m p [] P ⊎ NoneAmong m p [] P
least_at_end m p P (inl e) (inl h) = inl (record { run = []; runs = (tt, e); holds = h; least = λ other r q. run_le-none other })
least_at_end m p P (inl e) (inr never) = inr (none_at_end m p P (λ f q. never q))
least_at_end m p P (inr never) h = inr (none_at_end m p P (λ f q. never f))

least_on : (m : Machine) (p c : ℕ) (cs : List ℕ) (P : List Move → Type 0) → ((x : Move) → After m cs P x ⊎ NotAfter m cs P x) → LeastAmong m p (c ∷ cs) P ⊎ NoneAmong m p (c ∷ cs) P
least_on m p c cs P rest =
    elim (least_listed (m.moves p c) (After m cs P) (λ x. after-decided m cs P x (rest x))) [
      | inl first ↦ inl (record {
        run = first.x ∷ first.holds.run;
        runs = ((first.listed, first.holds.runs.0), first.holds.runs.1);
        holds = first.holds.holds;
        least = cons_least m p c cs P rest first;
      })
      | inr none ↦ inr (none_cons m p c cs P rest none)
    ]

pub least_among : (m : Machine) (line : List ℕ) (p : ℕ) (P : List Move → Type 0) → ((run : List Move) → Decided (P run)) → LeastAmong m p line P ⊎ NoneAmong m p line P
least_among m [] p P dec = least_at_end m p P (bool-decided (m.is_end p)) (dec [])
least_among m (c ∷ cs) p P dec = least_on m p c cs P (λ x. least_among m cs x.to (λ (run : List Move). P (x ∷ run)) (λ run. dec (x ∷ run)))

-- of all runs
abbrev pub Any : List Move → Type 0
Any run = Unit {0}

pub any-decided : (run : List Move) → Decided (Any run)
any-decided run = inl tt

other_of : (m : Machine) (line : List ℕ) (run : List Move) → NoneAmong m m.first line (λ (o : List Move). o ≢ run) → IsShared m line → ⊥
other_of m line run none (left, right, h, k, n) =
    elim (run_cases left run) [ inl e ↦ none right k (λ f. n (e ∙ sym f)) | inr differs ↦ none left h differs ]

-- two least runs stand on the line, or it isn't shared
pub least_runs_on : (m : Machine) (line : List ℕ) → ((left : List Move) × (right : List Move) × AreLeastRuns m line left right) ⊎ (IsShared m line → ⊥)
least_runs_on m line =
    elim (least_among m line m.first Any any-decided) [
      | inl l ↦
          elim (least_among m line m.first (λ (run : List Move). run ≢ l.run) (λ run. not-decided (run_cases run l.run))) [
            | inl r ↦ inl (
              l.run,
              r.run,
              record {
                least = record { runs = l.runs; least = λ other h. l.least other h tt };
                second = record { runs = r.runs; differs = r.holds; least = r.least };
              },
            )
            | inr none ↦ inr (other_of m line l.run none)
          ]
      | inr none ↦ inr (λ s. none s.0 s.2 tt)
    ]

pub shared-decided : (m : Machine) (line : List ℕ) → Decided (IsShared m line)
shared-decided m line =
    elim (least_runs_on m line) [
      | inl (left, right, are) ↦ inl (left, right, are.least.runs, are.second.runs, λ e. are.second.differs (sym e))
      | inr never ↦ inr never
    ]
