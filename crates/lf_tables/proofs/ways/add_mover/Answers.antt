use Rattle.std.proofs.Common.{◌≡◌, ◌∙◌, ◌<◌, ◌≤◌, ℕ, List, length, get_or, sym, subst, arith, Ok, Err, inl, inr}
use Rattle.std.proofs.lemmas.Bool.{cases_lt, cases_eq}
use Rattle.std.proofs.lemmas.List.Sorted.{searched}
use Rattle.lf_core.specs.declared.marked.Move.{Move}
use Rattle.lf_core.specs.Written.{machine_of}
use Rattle.lf_tables.specs.Ways.{GainsMoves}
use Rattle.lf_tables.specs.Found.{AreRising}
use Rattle.lf_tables.proofs.MoverLaws.{gains_at, gains_nothing}
use Rattle.lf_tables.proofs.ways.add_mover.Goals as goal

rises : (points : List ℕ) → AreRising points → (i j : ℕ) → i ≤ j → j < length points → get_or points i 0 ≤ get_or points j 0
rises points up i j le lt = elim (cases_eq i j) [
  | inl e ↦ subst (λ (k : ℕ). get_or points i 0 ≤ get_or points k 0) e (omega arith)
  | inr ne ↦ omega (arith, up i j (omega (arith, le, ne)) lt)
]

pub returns-in_default : goal.returns-in_default
returns-in_default c =
    let points : List ℕ = c.args.points.now in
    let (le, below, above) = searched points c.args.mover (Err c.in_default.field-0) c.in_default.ensures.position (rises points c.requires.points) in
    gains_nothing (machine_of c.args.table.now) points c.args.byte c.args.mover c.args.backs.now.items c.requires.rising
    (λ k lt e. elim (cases_lt k c.in_default.field-0) [ inl less ↦ omega (arith, e, below k less) | inr ge ↦ omega (arith, e, above k ge lt) ])

pub returns : goal.returns
returns c =
    let points : List ℕ = c.args.points.now in
    let (lt, is) = searched points c.args.mover (Ok c.in-Ok.before) c.in-Ok.ensures.position (rises points c.requires.points) in
    gains_at (machine_of c.args.table.now) points c.args.byte c.args.mover c.in-Ok.before c.args.backs.now.items c.add_moves.new.backs.items c.requires.points lt is
    (subst (λ (xs : List Move). GainsMoves c.in-Ok.before xs c.args.backs.now.items c.add_moves.new.backs.items) c.moves.ensures c.in_ok-add_moves.ensures)
