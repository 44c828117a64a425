-- Some record prints a line, or none does.
use Rattle.std.proofs.Common.{◌≡◌, ℕ, zero, suc, true, false, List, [], ◌∷◌, refl, sym, subst, ◌∙◌, arith, ◌⊎◌, inl, inr}
use Rattle.std.specs.Prelude.{Contains}
use Rattle.std.proofs.lemmas.Bool.{cases_Bool, false≢true}
use Rattle.std.proofs.lemmas.List.Elements.{Contains-append_left, Contains-append_right, Contains-append_cases}
use Rattle.lf_core.specs.Marked.{Machine, IsRun, IsWholeRun, stop}
use Rattle.lf_core.specs.declared.marked.Move.{Move}
use Rattle.lf_core.specs.declared.values.Value.{Value}
use Rattle.lf_format.specs.Keeps.{EachKept}
use Rattle.lf_format.specs.Lines.{Prints, PrintsNone}
use Rattle.lf_format.specs.declared.format.Piece.{Piece}
use Rattle.lf_machine.specs.LineBytes.{LiteralsAreBytes}
use Rattle.lf_machine.specs.LineMachine.{line_machine, record_moves}
use Rattle.lf_machine.proofs.RunLaws.{line-runs}

-- Some run over the line leads from the point to an end.
abbrev LeadsOn : Machine → List ℕ → ℕ → Type 0
LeadsOn m line point = (run : List Move) × IsRun m.moves point line run × (m.is_end (stop point run) ≡ true)

-- Some move of the list leads on.
abbrev MovesOn : Machine → List ℕ → List Move → Type 0
MovesOn m line moves = (x : Move) × Contains moves x × LeadsOn m line x.to

none_there : (x : Move) → Contains [] x → ⊥
none_there x h = absurd (omega (arith, h.1))

there : (x : Move) → Contains (x ∷ []) x
there x = (0, omega arith, refl)

only : (x y : Move) → Contains (x ∷ []) y → x ≡ y
only x y (zero, lt, is) = is
only x y (suc k, lt, is) = absurd (omega (arith, lt))

moves_decided : (m : Machine) (line : List ℕ) → ((point : ℕ) → LeadsOn m line point ⊎ (LeadsOn m line point → ⊥)) → (moves : List Move) → MovesOn m line moves ⊎ (MovesOn m line moves → ⊥)
moves_decided m line each [] = inr (λ h. none_there h.0 h.1)
moves_decided m line each (x ∷ moves) = elim (each x.to) [
  | inl on ↦ inl (x, Contains-append_left (x ∷ []) moves x (there x), on)
  | inr none ↦ elim (moves_decided m line each moves) [
    | inl later ↦ inl (later.0, Contains-append_right (x ∷ []) moves later.0 later.1, later.2)
    | inr no_later ↦ inr (λ h. elim (Contains-append_cases (x ∷ []) moves h.0 h.1) [
      | inl first ↦ none (subst (λ (y : Move). LeadsOn m line y.to) (sym (only x h.0 first)) h.2)
      | inr rest ↦ no_later (h.0, rest, h.2)
    ])
  ]
]

not_here : (m : Machine) (point : ℕ) → m.is_end point ≡ false → LeadsOn m [] point → ⊥
not_here m point f ([], runs, t) = false≢true (sym f ∙ t)
not_here m point f (x ∷ run, runs, t) = runs

not_on : (m : Machine) (point byte : ℕ) (line : List ℕ) → (MovesOn m line (m.moves point byte) → ⊥) → LeadsOn m (byte ∷ line) point → ⊥
not_on m point byte line none ([], runs, t) = runs
not_on m point byte line none (x ∷ run, runs, t) = none (x, runs.0, (run, runs.1, t))

leads_decided : (m : Machine) (line : List ℕ) (point : ℕ) → LeadsOn m line point ⊎ (LeadsOn m line point → ⊥)
leads_decided m [] point = elim (cases_Bool (m.is_end point)) [
  | inl t ↦ inl ([], tt, t)
  | inr f ↦ inr (not_here m point f)
]
leads_decided m (byte ∷ line) point = elim (moves_decided m line (leads_decided m line) (m.moves point byte)) [
  | inl on ↦ inl (on.0 ∷ on.2.0, (on.1, on.2.1), on.2.2)
  | inr none ↦ inr (not_on m point byte line none)
]

-- Some record prints the line, or none does.
pub line_decided : (pieces : List Piece) → EachKept pieces → LiteralsAreBytes pieces → (line : List ℕ) → ((rec : List Value) × Prints pieces rec line) ⊎ PrintsNone pieces line
line_decided pieces kept bytes line =
    let runs = line-runs pieces kept bytes in
    elim (leads_decided (line_machine pieces) line (line_machine pieces).first) [
      | inl on ↦
          let found = runs.no_other line on.0 (on.1, on.2) in
          inl (found.0, record { held = found.1; printed = sym found.2 })
      | inr none ↦ inr (λ rec p.
          let whole = subst (λ (w : List ℕ). IsWholeRun (line_machine pieces) w (record_moves pieces rec)) p.printed (runs.each rec p.held) in
          none (record_moves pieces rec, whole.0, whole.1))
    ]
