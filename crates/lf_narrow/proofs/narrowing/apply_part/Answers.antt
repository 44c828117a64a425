use Rattle.std.proofs.Common.{subst}
use Rattle.lf_syntax.specs.Grammar.{Grammar, Sentence}
use Rattle.lf_narrow.specs.Effects.{narrowed_slot}
use Rattle.lf_narrow.specs.Terms.{term_of}
use Rattle.lf_narrow.specs.Narrowed.{IsSo, IsTermFault, IsPartFault}
use Rattle.lf_narrow.proofs.Cases.{err_more, part_fault}
use Rattle.lf_narrow.proofs.narrowing.apply_part.Goals as goal

pub returns-in-Ok-clause-fault : goal.returns-in-Ok-clause-fault
returns-in-Ok-clause-fault c =
    err_more c.apply_term.result (IsSo (IsTermFault (term_of c.args.part.now).slot (narrowed_slot (term_of c.args.part.now).rule) c.args.pieces.now)) (IsPartFault c.args.at c.args.part.now c.args.pieces.now)
    (λ f h. part_fault c.args.at c.args.part.now c.args.pieces.now f (subst (λ (g : Grammar). Sentence g c.args.part.now) c.requires.language c.in-Ok.ensures.sentence) h) c.apply_term.ensures.fault
