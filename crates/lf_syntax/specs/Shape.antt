-- What the grammars and threads of the code are, without their boxes and references.
use Rattle.std.specs.Prelude.{List, [], ◌∷◌}
use Rattle.lf_syntax.specs.declared.grammar.Grammar.{Leaf, Sequence', Choice', Star', Again}
use Rattle.lf_syntax.specs.declared.grammar.Grammar as code
use Rattle.lf_syntax.specs.declared.thread.Part as code_part
use Rattle.lf_syntax.specs.declared.thread.Thread as code_thread
use Rattle.lf_syntax.specs.Grammar.{Grammar, leaf, sequence, choice, star, again}
use Rattle.lf_syntax.specs.Threads.{Part, Thread, part, thread}

abbrev pub grammar : code.Grammar → Grammar
grammar (Leaf l) = leaf l
grammar (Sequence' p a q c) = sequence (grammar a) (grammar c)
grammar (Choice' p a q c) = choice (grammar a) (grammar c)
grammar (Star' p a) = star (grammar a)
grammar Again = again

-- the last part comes first
abbrev pub stack_onto : List Part → List code_part.Part → List Part
stack_onto below [] = below
stack_onto below (p ∷ ps) = stack_onto (part p.depth (grammar p.grammar.now) ∷ below) ps

abbrev pub stack : List code_part.Part → List Part
stack ps = stack_onto [] ps

abbrev pub thread_of : code_thread.Thread → Thread
thread_of t = thread t.top (stack t.below.items)

abbrev pub threads : List code_thread.Thread → List Thread
threads [] = []
threads (t ∷ ts) = thread_of t ∷ threads ts
