use Rattle.std.proofs.Common.{subst}
use Rattle.lf_limits.specs.Limits.{most_nesting}
use Rattle.lf_syntax.specs.Shape.{grammar}
use Rattle.lf_syntax.specs.Cuts.{separated}
use Rattle.lf_syntax.specs.Grammar.{Grammar, NestedSentence}
use Rattle.lf_map.specs.Map.{assign}
use Rattle.lf_map.proofs.parsing.place_of.Goals as goal

pub unreachable-requires : goal.unreachable-requires
unreachable-requires c =
    c.requires.none
    (subst (λ (rule : Grammar). NestedSentence rule most_nesting (separated 59 assign) c.args.text.now) c.requires.call
    (subst (λ (map : Grammar). NestedSentence (grammar c.args.call.now) most_nesting map c.args.text.now) c.in-Ok.ensures c.in-Ok-scan_nested.ensures.sentence))
