-- An ambiguous machine has a least witness, and whether a line begins with a byte is decided.
use Rattle.std.proofs.Common.{ℕ, ◌<◌, ◌⊎◌, inl, inr, true, List, [], ◌∷◌, length, refl, arith}
use Rattle.std.specs.List.{Contains}
use Rattle.std.proofs.lemmas.Bool.{cases_lt}
use Rattle.lf_core.specs.declared.marked.Move.{Move}
use Rattle.lf_core.specs.Marked.{Machine, IsMachine, IsRun, IsWholeRun}
use Rattle.lf_core.specs.WrittenLaws.{move_stays}
use Rattle.lf_product.specs.Distance.{Suffices, IsAmbiguous}
use Rattle.lf_product.proofs.RunPairs.{shares_from_two, two_from_shares, suffices_from_shares, shares_from_suffices}
use Rattle.lf_product.proofs.Deciding.{Decided, some_listed}
use Rattle.lf_product.proofs.Ambiguity.{byte_low, steps-decided}
use Rattle.lf_core.specs.Runs.{IsShared}
use Rattle.lf_product.specs.Walk.{LineLe}
use Rattle.lf_witness.specs.Heads.{IsLeastHeaded, HasNoHeaded}
use Rattle.lf_witness.specs.Least.{HasLeast}
use Rattle.lf_witness.proofs.RunChoice.{Any, any-decided, least_among, least_runs_on, shared-decided}
use Rattle.lf_witness.proofs.LineChoice.{AreBytes, least_line}

run_bytes : (m : Machine) (p : ℕ) (line : List ℕ) (run : List Move) → IsMachine m → p < m.count → IsRun m.moves p line run → AreBytes line
run_bytes m p [] run lawful low h = tt
run_bytes m p (c ∷ cs) [] lawful low h = absurd h
run_bytes m p (c ∷ cs) (x ∷ run) lawful low h = (byte_low m p c x lawful low h.0, run_bytes m x.to cs run lawful (move_stays m p c x lawful low h.0) h.1)

pub least_there : (m : Machine) → IsMachine m → IsAmbiguous m → HasLeast m
least_there m lawful (line, shared) =
    let l = least_line (IsShared m) line (shared-decided m) (λ other s. run_bytes m m.first other s.0 lawful lawful.begins s.2.0) shared in
    elim (least_runs_on m l.line) [
      | inl (first, second, are) ↦ record {
        line = l.line;
        left = first;
        right = second;
        least_line = record { shared = l.holds; least = l.least };
        least_runs = are;
      }
      | inr never ↦ absurd (never l.holds)
    ]

-- some run stands on the line that the byte and the rest make
abbrev Headed : Machine → ℕ → List ℕ → Type 0
Headed m c rest = (run : List Move) × IsWholeRun m (c ∷ rest) run

headed-decided : (m : Machine) (c : ℕ) (rest : List ℕ) → Decided (Headed m c rest)
headed-decided m c rest = elim (least_among m (c ∷ rest) m.first Any any-decided) [ inl l ↦ inl (l.run, l.runs) | inr none ↦ inr (λ h. none h.0 h.1 tt) ]

longer_le : (c : ℕ) (as' bs : List ℕ) → LineLe as' bs → LineLe (c ∷ as') (c ∷ bs)
longer_le c as' bs (inl lt) = inl (omega (arith, lt))
longer_le c as' bs (inr (e, h)) = inr (omega (arith, e), (inr (refl, h)))

abbrev HasHeaded : Machine → ℕ → Type 0
HasHeaded m c = (line : List ℕ) × (run : List Move) × IsLeastHeaded m c line run

headed_there : (m : Machine) (c : ℕ) (rest : List ℕ) → IsMachine m → Headed m c rest → HasHeaded m c
headed_there m c rest lawful some =
    let l = least_line (Headed m c) rest (headed-decided m c) (λ other s. (run_bytes m m.first (c ∷ other) s.0 lawful lawful.begins s.1.0).1) some in
    elim (least_among m (c ∷ l.line) m.first Any any-decided) [
      | inl r ↦ (
        c ∷ l.line,
        r.run,
        record {
          rest = l.line;
          begins = refl;
          least_line = λ other whole h. longer_le c l.line other (l.least other (whole, h));
          least_run = record { runs = r.runs; least = λ other h. r.least other h tt };
        },
      )
      | inr none ↦ absurd (none l.holds.0 l.holds.1 tt)
    ]

-- from the point, which is one of the machine's, an end is reached
abbrev Ends : Machine → ℕ → Type 0
Ends m p = (p < m.count) × ((k : ℕ) × Suffices m k p p true)

ends-decided : (m : Machine) (p : ℕ) → IsMachine m → Decided (Ends m p)
ends-decided m p lawful =
    elim (cases_lt p m.count) [
      | inl lt ↦ elim (steps-decided m p p true lawful lt lt) [ inl h ↦ inl (lt, h) | inr never ↦ inr (λ h. never h.1) ]
      | inr ge ↦ inr (λ h. let lt = h.0 in absurd (omega (arith, ge, lt)))
    ]

none_headed : (m : Machine) (c : ℕ) → IsMachine m → (((x : Move) × Contains (m.moves m.first c) x × Ends m x.to) → ⊥) → HasNoHeaded m c
none_headed m c lawful none other [] h = absurd h.0
none_headed m c lawful none other (x ∷ run) h =
    let low : x.to < m.count = move_stays m m.first c x lawful lawful.begins h.0.0 in
    none (x, h.0.0, (low, (length other, suffices_from_shares m other x.to x.to true (shares_from_two m other run run x.to x.to true (h.0.1, h.1) (h.0.1, h.1) (inl refl)))))

pub headed_or_none : (m : Machine) → IsMachine m → (c : ℕ) → HasHeaded m c ⊎ HasNoHeaded m c
headed_or_none m lawful c =
    elim (some_listed (m.moves m.first c) (λ (x : Move). Ends m x.to) (λ x. ends-decided m x.to lawful)) [
      | inl (x, listed, (low, (k, h))) ↦
          let way = shares_from_suffices m k x.to x.to true h in
          let t = two_from_shares m way.0 x.to x.to true way.2 in
          inl (headed_there m c way.0 lawful (x ∷ t.left, ((listed, t.runs_left.0), t.runs_left.1)))
      | inr none ↦ inr (none_headed m c lawful none)
    ]
