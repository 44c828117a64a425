-- What pushing and taking does to a stack and to threads.
use Rattle.std.proofs.Common.{◌≡◌, ℕ, List, [], ◌∷◌, ◌++◌, Result, Ok, Err, IfOk, ◌&&◌, cond, Bool, true, false, refl, sym, ap, ◌∙◌, append_assoc, append-nil}
use Rattle.lf_syntax.specs.declared.thread.Part as code_part
use Rattle.lf_syntax.specs.declared.thread.Thread as code_thread
use Rattle.lf_syntax.specs.Grammar.{Grammar, ends}
use Rattle.lf_syntax.specs.Threads.{Part, Thread, part, step, step_again, stack_step, stack_ends, threads_step, thread_step}
use Rattle.lf_syntax.specs.Shape.{grammar, stack_onto, stack, thread_of, threads}

stack_onto_push : (below : List Part) (ps : List code_part.Part) (p : code_part.Part) → stack_onto below (ps ++ p ∷ []) ≡ part p.depth (grammar p.grammar.now) ∷ stack_onto below ps
stack_onto_push below [] p = refl
stack_onto_push below (q ∷ ps) p = stack_onto_push (part q.depth (grammar q.grammar.now) ∷ below) ps p

pub stack_push : (ps : List code_part.Part) (p : code_part.Part) → stack (ps ++ p ∷ []) ≡ part p.depth (grammar p.grammar.now) ∷ stack ps
stack_push ps p = stack_onto_push [] ps p

pub threads_push : (ts : List code_thread.Thread) (t : code_thread.Thread) → threads (ts ++ t ∷ []) ≡ threads ts ++ thread_of t ∷ []
threads_push [] t = refl
threads_push (u ∷ ts) t = ap (λ (xs : List Thread). thread_of u ∷ xs) (threads_push ts t)

pub threads_step_push : (rule : Grammar) (b : ℕ) (ts : List code_thread.Thread) (t : code_thread.Thread) → threads_step rule (threads (ts ++ t ∷ [])) b ≡ threads_step rule (threads ts) b ++ thread_step rule (thread_of t) b
threads_step_push rule b [] t = append-nil (thread_step rule (thread_of t) b)
threads_step_push rule b (u ∷ ts) t = ap (λ (xs : List Thread). thread_step rule (thread_of u) b ++ xs) (threads_step_push rule b ts t) ∙ sym (append_assoc (thread_step rule (thread_of u) b) (threads_step rule (threads ts) b) (thread_step rule (thread_of t) b))

-- the last part of the code is the first of the stack
module _ (ps rest : List code_part.Part) (p : code_part.Part) (push : ps ≡ rest ++ p ∷ []) where
  stack_is : stack ps ≡ part p.depth (grammar p.grammar.now) ∷ stack rest
  stack_is = ap stack push ∙ stack_push rest p

  module _ (m : Bool) (test : m ≡ ends (grammar p.grammar.now)) where
    ends_is : (x : Bool) → m ≡ x → ends (grammar p.grammar.now) ≡ x
    ends_is x e = sym test ∙ e

    pub last_ends : (r : Bool) → m ≡ true → r ≡ stack_ends (stack rest) → r ≡ stack_ends (stack ps)
    last_ends r e h = h ∙ ap (λ (x : Bool). x && stack_ends (stack rest)) (sym (ends_is true e)) ∙ ap stack_ends (sym stack_is)

    pub last_stays : m ≡ false → false ≡ stack_ends (stack ps)
    last_stays e = ap (λ (x : Bool). x && stack_ends (stack rest)) (sym (ends_is false e)) ∙ ap stack_ends (sym stack_is)

    module _ (rule : Grammar) (b : ℕ) (olds middle : List Thread) (made : middle ≡ olds ++ step (step_again rule b p.depth) p.depth (grammar p.grammar.now) (stack rest) b) where
      abbrev first_threads : List Thread
      first_threads = step (step_again rule b p.depth) p.depth (grammar p.grammar.now) (stack rest) b

      all_made : (x : Bool) → m ≡ x → olds ++ (first_threads ++ cond x (stack_step rule (stack rest) b) []) ≡ olds ++ stack_step rule (stack ps) b
      all_made x e =
          ap (λ (y : Bool). olds ++ (first_threads ++ cond y (stack_step rule (stack rest) b) [])) (sym (ends_is x e))
          ∙ ap (λ (k : List Part). olds ++ stack_step rule k b) (sym stack_is)

      pub stack_halts : m ≡ false → middle ≡ olds ++ stack_step rule (stack ps) b
      stack_halts e = made ∙ ap (λ (ts : List Thread). olds ++ ts) (sym (append-nil first_threads)) ∙ all_made false e

      pub stack_goes : {E : Type 0} (r : Result (Unit {0}) E) (kept : List code_part.Part) (news : List Thread) → m ≡ true → kept ≡ rest → IfOk r (λ done. news ≡ middle ++ stack_step rule (stack kept) b) → IfOk r (λ done. news ≡ olds ++ stack_step rule (stack ps) b)
      stack_goes (Ok x) kept news e k more =
          more ∙ ap (λ (xs : List code_part.Part). middle ++ stack_step rule (stack xs) b) k
          ∙ ap (λ (ts : List Thread). ts ++ stack_step rule (stack rest) b) made
          ∙ append_assoc olds first_threads (stack_step rule (stack rest) b)
          ∙ all_made true e
      stack_goes (Err x) kept news e k more = tt
