-- The threads of a grammar's parts make up those of the grammar.
use Rattle.std.proofs.Common.{◌≡◌, ℕ, List, [], ◌∷◌, ◌++◌, length, take, Result, Ok, Err, IfOk, cond, Bool, true, false, sym, ap, ◌∙◌, append_assoc, append-nil}
use Rattle.std.proofs.Math.Seq.{take-append_seam}
use Rattle.lf_syntax.specs.declared.thread.Part as code_part
use Rattle.lf_syntax.specs.Grammar.{Grammar, sequence, star, ends}
use Rattle.lf_syntax.specs.Threads.{Part, Thread, part, step}
use Rattle.lf_syntax.specs.Shape.{grammar, stack}
use Rattle.lf_syntax.proofs.Views.{stack_push}

-- what was pushed is gone
pub restored : (below pushed full kept : List code_part.Part) (p : code_part.Part) (n : ℕ) → pushed ≡ below ++ p ∷ [] → full ≡ pushed → kept ≡ take n full → n ≡ length below → kept ≡ below
restored below pushed full kept p n e f g h =
    g ∙ ap (λ (xs : List code_part.Part). take n xs) (f ∙ e) ∙ ap (λ (m : ℕ). take m (below ++ p ∷ [])) h ∙ take-append_seam below (p ∷ [])

module _ (A : List Part → List Thread) (d b : ℕ) (below pushed : List code_part.Part) (olds middle : List Thread) where
  first_made : (p : code_part.Part) (a c : Grammar) → pushed ≡ below ++ p ∷ [] → part p.depth (grammar p.grammar.now) ≡ part d c → middle ≡ olds ++ step A d a (stack pushed) b → middle ≡ olds ++ step A d a (part d c ∷ stack below) b
  first_made p a c push is made =
      made ∙ ap (λ (ps : List code_part.Part). olds ++ step A d a (stack ps) b) push
      ∙ ap (λ (k : List Part). olds ++ step A d a k b) (stack_push below p)
      ∙ ap (λ (q : Part). olds ++ step A d a (q ∷ stack below) b) is

  pub star_made : (p : code_part.Part) (whole a : Grammar) → whole ≡ star a → pushed ≡ below ++ p ∷ [] → part p.depth (grammar p.grammar.now) ≡ part d whole → middle ≡ olds ++ step A d a (stack pushed) b → middle ≡ olds ++ step A d whole (stack below) b
  star_made p whole a e push is made =
      first_made p a (star a) push (is ∙ ap (λ (g : Grammar). part d g) e) made ∙ ap (λ (g : Grammar). olds ++ step A d g (stack below) b) (sym e)

  module _ (t : Bool) (whole a a_again c : Grammar) (e : whole ≡ sequence a c) (same : a_again ≡ a) (test : t ≡ ends a_again) where
    ends_a : ends a ≡ t
    ends_a = sym (test ∙ ap ends same)

    both_made : (x : Bool) → t ≡ x → olds ++ (step A d a (part d c ∷ stack below) b ++ cond x (step A d c (stack below) b) []) ≡ olds ++ step A d whole (stack below) b
    both_made x h =
        ap (λ (y : Bool). olds ++ (step A d a (part d c ∷ stack below) b ++ cond y (step A d c (stack below) b) [])) (sym (ends_a ∙ h))
        ∙ ap (λ (g : Grammar). olds ++ step A d g (stack below) b) (sym e)

    pub sequence_stops : (p : code_part.Part) → pushed ≡ below ++ p ∷ [] → part p.depth (grammar p.grammar.now) ≡ part d c → middle ≡ olds ++ step A d a (stack pushed) b → t ≡ false → middle ≡ olds ++ step A d whole (stack below) b
    sequence_stops p push is made stops =
        first_made p a c push is made
        ∙ ap (λ (ts : List Thread). olds ++ ts) (sym (append-nil (step A d a (part d c ∷ stack below) b)))
        ∙ both_made false stops

    pub sequence_goes : {E : Type 0} (p : code_part.Part) (r : Result (Unit {0}) E) (kept : List code_part.Part) (news : List Thread) (other : Grammar) → pushed ≡ below ++ p ∷ [] → part p.depth (grammar p.grammar.now) ≡ part d c → middle ≡ olds ++ step A d a (stack pushed) b → t ≡ true → kept ≡ below → other ≡ c → IfOk r (λ done. news ≡ middle ++ step A d other (stack kept) b) → IfOk r (λ done. news ≡ olds ++ step A d whole (stack below) b)
    sequence_goes {E} p (Ok x) kept news other push is made goes k f more =
        more
        ∙ ap (λ (ps : List code_part.Part). middle ++ step A d other (stack ps) b) k
        ∙ ap (λ (g : Grammar). middle ++ step A d g (stack below) b) f
        ∙ ap (λ (ts : List Thread). ts ++ step A d c (stack below) b) (first_made p a c push is made)
        ∙ append_assoc olds (step A d a (part d c ∷ stack below) b) (step A d c (stack below) b)
        ∙ both_made true goes
    sequence_goes {E} p (Err x) kept news other push is made goes k f more = tt
