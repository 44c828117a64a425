-- What is least of a machine that is written out is so of the machine.
use Rattle.std.proofs.Common.{ℕ, List, ◌∷◌}
use Rattle.lf_core.specs.declared.marked.Move.{Move}
use Rattle.lf_core.specs.Marked.{Machine, IsMachine}
use Rattle.lf_core.specs.Written.{machine_of, written}
use Rattle.lf_core.specs.WrittenLaws.{same_whole_runs}
use Rattle.lf_product.proofs.SameMachine.{same_shared}
use Rattle.lf_witness.specs.Runs.{IsLeastRun, AreLeastRuns}
use Rattle.lf_witness.specs.Shared.{IsLeastShared}
use Rattle.lf_witness.specs.Heads.{IsLeastHeaded, HasNoHeaded}

least_run : (m : Machine) (line : List ℕ) (run : List Move) → IsMachine m → IsLeastRun (machine_of (written m)) m.first line run → IsLeastRun m m.first line run
least_run m line run lawful h = record {
  runs = (same_whole_runs m line run lawful).1 h.runs;
  least = λ other g. h.least other ((same_whole_runs m line other lawful).0 g);
}

pub least_shared : (m : Machine) (line : List ℕ) → IsMachine m → IsLeastShared (machine_of (written m)) line → IsLeastShared m line
least_shared m line lawful h = record {
  shared = (same_shared m line lawful).1 h.shared;
  least = λ other s. h.least other ((same_shared m other lawful).0 s);
}

pub least_runs : (m : Machine) (line : List ℕ) (left right : List Move) → IsMachine m → AreLeastRuns (machine_of (written m)) line left right → AreLeastRuns m line left right
least_runs m line left right lawful h = record {
  least = least_run m line left lawful h.least;
  second = record {
    runs = (same_whole_runs m line right lawful).1 h.second.runs;
    differs = h.second.differs;
    least = λ other g. h.second.least other ((same_whole_runs m line other lawful).0 g);
  };
}

pub least_headed : (m : Machine) (byte : ℕ) (line : List ℕ) (run : List Move) → IsMachine m → IsLeastHeaded (machine_of (written m)) byte line run → IsLeastHeaded m byte line run
least_headed m byte line run lawful h = record {
  rest = h.rest;
  begins = h.begins;
  least_line = λ other whole g. h.least_line other whole ((same_whole_runs m (byte ∷ other) whole lawful).0 g);
  least_run = least_run m line run lawful h.least_run;
}

pub no_headed : (m : Machine) (byte : ℕ) → IsMachine m → HasNoHeaded (machine_of (written m)) byte → HasNoHeaded m byte
no_headed m byte lawful none other whole h = none other whole ((same_whole_runs m (byte ∷ other) whole lawful).0 h)
