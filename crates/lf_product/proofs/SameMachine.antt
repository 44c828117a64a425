-- A machine and the one that is written out have the same shared lines.
use Rattle.std.proofs.Common.{◌≡◌, ℕ, List, Result, Ok, Err, sym, ap, ◌∙◌, subst}
use Rattle.std.specs.Prelude.{IfOk, ◌↔◌}
use Rattle.lf_core.specs.Marked.{Machine, IsMachine}
use Rattle.lf_core.specs.Runs.{IsShared}
use Rattle.lf_core.specs.Written.{WrittenMachine, points_of, machine_of, written}
use Rattle.lf_core.specs.WrittenLaws.{written_points, written_is_machine, same_whole_runs}
use Rattle.lf_product.specs.Distance.{IsAmbiguous}

pub points_are : (m : Machine) (w : WrittenMachine) → w ≡ written m → points_of w ≡ m.count
points_are m w e = ap (λ (v : WrittenMachine). points_of v) e ∙ written_points m

pub lawful_are : (m : Machine) (w : WrittenMachine) → w ≡ written m → IsMachine m → IsMachine (machine_of w)
lawful_are m w e lawful = subst (λ (v : WrittenMachine). IsMachine (machine_of v)) (sym e) (written_is_machine m lawful)

-- two different whole runs stand on the same lines
pub same_shared : (m : Machine) (line : List ℕ) → IsMachine m → IsShared m line ↔ IsShared (machine_of (written m)) line
same_shared m line lawful = (
  λ (left, right, h, k, n). (left, right, (same_whole_runs m line left lawful).0 h, (same_whole_runs m line right lawful).0 k, n),
  λ (left, right, h, k, n). (left, right, (same_whole_runs m line left lawful).1 h, (same_whole_runs m line right lawful).1 k, n),
)

-- what is written out is ambiguous exactly where the machine is
pub same_ambiguity : (m : Machine) → IsMachine m → IsAmbiguous m ↔ IsAmbiguous (machine_of (written m))
same_ambiguity m lawful = (
  λ (line, s). (line, (same_shared m line lawful).0 s),
  λ (line, s). (line, (same_shared m line lawful).1 s),
)

pub points_if_ok : {E : Type 0} (m : Machine) (r : Result WrittenMachine E) → IfOk r (λ w. w ≡ written m) → IfOk r (λ w. points_of w ≡ m.count)
points_if_ok m (Ok w) h = points_are m w h
points_if_ok m (Err e) h = tt
