-- What is said of records that are drawn from a seed is told.
use Rattle.std.proofs.Common.{◌≡◌, ℕ, List, [], ◌∷◌, ◌++◌, refl, sym, ap, subst, ◌∙◌, inl, arith}
use Rattle.std.specs.Prelude.{Option, Result, Ok, Err, IfOk}
use Rattle.lf_core.specs.declared.memory.OutOfMemory.{OutOfMemory}
use Rattle.lf_format.specs.Shape.{Shape}
use Rattle.lf_io.specs.Moves.{Gets}
use Rattle.lf_io.proofs.Parts.{gets_none}
use Rattle.lf_log.specs.Generated.{IsSummary}
use Rattle.lf_app.specs.Outcome.{told_out}
use Rattle.lf_app.specs.Promise.{Runs, TellsText}
use Rattle.lf_app.specs.declared.commands.Command.TheVariants.{Generate}
use Rattle.lf_app.proofs.RunLaws.{IsTold, runs_text_out, runs_untold}

pub told_generated : (format : Shape) (seed count : ℕ) (said : List ℕ) → IsSummary format seed count said → ((one other : List ℕ) → IsSummary format seed count one → IsSummary format seed count other → one ≡ other) → IsTold (Generate format seed count) (told_out 0 said)
told_generated format seed count said is once = record {
  has = λ input. (said, is, refl);
  only = λ input other h. h.2 ∙ ap (told_out 0) (once h.0 said h.1 is);
  takes_none = λ h. h;
  good = inl (omega arith);
}

-- What is said of the records is told.
pub runs_generated : (format : Shape) (seed count status : ℕ) (left e : Option (List ℕ)) (text : Result (List ℕ) OutOfMemory) (out : List ℕ → Type 0)
    → IfOk text (λ t. (said : List ℕ) × IsSummary format seed count said × (t ≡ said ++ 10 ∷ []))
    → ((one other : List ℕ) → IsSummary format seed count one → IsSummary format seed count other → one ≡ other)
    → TellsText 0 status text out → Runs (Generate format seed count) status left left out (Gets e e)
runs_generated format seed count status left e (Ok t) out said once tells =
    runs_text_out (Generate format seed count) (told_out 0 said.0) status left e (Ok t) out (told_generated format seed count said.0 said.1 once) refl said.2 tells
runs_generated format seed count status left e (Err memory) out said once tells =
    subst (λ (s : ℕ). Runs (Generate format seed count) s left left out (Gets e e)) (sym tells.0) (runs_untold (Generate format seed count) left out (Gets e e) tells.1 (gets_none e))
