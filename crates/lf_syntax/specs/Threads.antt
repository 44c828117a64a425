-- Readers of a text: each thread has a leaf under way, and the parts that are to come after it, the next one first.
use Rattle.std.specs.Prelude.{◌≡◌, ℕ, zero, suc, ◌⊎◌, ◌&&◌, ◌||◌, Bool, true, false, cond, Option, Some, None, List, [], ◌∷◌, ◌++◌}
use Rattle.lf_syntax.specs.declared.leaf.Leaf.{Leaf}
use Rattle.lf_syntax.specs.declared.leaf.Leaf.TheVariants.{End}
use Rattle.lf_syntax.specs.Leaf.{Holds, leaf_ends, leaf_after, is_sound_leaf}
use Rattle.lf_syntax.specs.Grammar.{Grammar, leaf, sequence, choice, star, again, Spells, Nested, ends, is_sound}

-- a grammar, and how many of the rule may still lie in one another in it
pub record Part : Type 0 where
  pub depth : ℕ
  pub grammar : Grammar

pub record Thread : Type 0 where
  pub top : Leaf
  pub below : List Part

abbrev pub part : ℕ → Grammar → Part
part d g = record { depth = d; grammar = g }

abbrev pub thread : Leaf → List Part → Thread
thread l k = record { top = l; below = k }

abbrev pub Stacked : Grammar → List Part → List ℕ → Type 0
Stacked rule [] w = w ≡ []
Stacked rule (p ∷ ps) w = (u : List ℕ) × (v : List ℕ) × (w ≡ u ++ v) × Spells (Nested rule p.depth) p.grammar u × Stacked rule ps v

abbrev pub Threaded : Grammar → Thread → List ℕ → Type 0
Threaded rule t w = (u : List ℕ) × (v : List ℕ) × (w ≡ u ++ v) × Holds t.top u × Stacked rule t.below v

-- what one of the threads may still read
abbrev pub AnyThread : Grammar → List Thread → List ℕ → Type 0
AnyThread rule [] w = ⊥
AnyThread rule (t ∷ ts) w = Threaded rule t w ⊎ AnyThread rule ts w

abbrev pub leaf_threads : Option Leaf → List Part → List Thread
leaf_threads None k = []
leaf_threads (Some l) k = thread l k ∷ []

-- the threads after a byte, where A has those of `again`
abbrev pub step : (List Part → List Thread) → ℕ → Grammar → List Part → ℕ → List Thread
step A d (leaf l) k b = leaf_threads (leaf_after l b) k
step A d (sequence a c) k b = step A d a (part d c ∷ k) b ++ cond (ends a) (step A d c k b) []
step A d (choice a c) k b = step A d a k b ++ step A d c k b
step A d (star a) k b = step A d a (part d (star a) ∷ k) b
step A d again k b = A k

abbrev pub step_again : Grammar → ℕ → ℕ → List Part → List Thread
step_again rule b zero k = []
step_again rule b (suc d) k = step (step_again rule b d) d rule k b

abbrev pub stack_step : Grammar → List Part → ℕ → List Thread
stack_step rule [] b = []
stack_step rule (p ∷ ps) b = step (step_again rule b p.depth) p.depth p.grammar ps b ++ cond (ends p.grammar) (stack_step rule ps b) []

abbrev pub thread_step : Grammar → Thread → ℕ → List Thread
thread_step rule t b = leaf_threads (leaf_after t.top b) t.below ++ cond (leaf_ends t.top) (stack_step rule t.below b) []

abbrev pub threads_step : Grammar → List Thread → ℕ → List Thread
threads_step rule [] b = []
threads_step rule (t ∷ ts) b = thread_step rule t b ++ threads_step rule ts b

abbrev pub stack_ends : List Part → Bool
stack_ends [] = true
stack_ends (p ∷ ps) = ends p.grammar && stack_ends ps

abbrev pub threads_end : List Thread → Bool
threads_end [] = false
threads_end (t ∷ ts) = (leaf_ends t.top && stack_ends t.below) || threads_end ts

-- the reader of a whole text
abbrev pub start : ℕ → Grammar → List Thread
start d g = thread End (part d g ∷ []) ∷ []

abbrev pub IsSoundStack : List Part → Type 0
IsSoundStack [] = Unit {0}
IsSoundStack (p ∷ ps) = (is_sound p.grammar ≡ true) × IsSoundStack ps

abbrev pub AreSound : List Thread → Type 0
AreSound [] = Unit {0}
AreSound (t ∷ ts) = (is_sound_leaf t.top ≡ true) × IsSoundStack t.below × AreSound ts

-- some thread, and each of them can be read to an end
abbrev pub IsGood : List Thread → Type 0
IsGood [] = ⊥
IsGood (t ∷ ts) = AreSound (t ∷ ts)

-- nothing is left where no thread is
abbrev pub some_threads : List Thread → Option (List Thread)
some_threads [] = None
some_threads (t ∷ ts) = Some (t ∷ ts)
