use Rattle.lf_limits.specs.Limits.{most_nesting}
use Rattle.lf_syntax.specs.Grammar.{NestedSentence}
use Rattle.lf_syntax.specs.Shape.{grammar}
use Rattle.lf_format.specs.Keeps.{slots_in}
use Rattle.lf_map.specs.Forms.{form_said}
use Rattle.lf_map.proofs.Whole.{cause_at, as_assign, no_assign, place_fault, faults, fine}
use Rattle.lf_map.proofs.parsing.read_part.Goals as goal

pub place_of-requires-clause-none : goal.place_of-requires-clause-none
place_of-requires-clause-none c = λ h. no_assign (grammar c.args.reading.now.call.now) (grammar c.args.reading.now.assign.now) c.requires.call c.requires.assign c.args.part.now c.in-Err-Syntax.field-0-0 (cause_at (NestedSentence (grammar c.args.reading.now.call.now) most_nesting (grammar c.args.reading.now.assign.now)) c.args.part.now c.in-Err-Syntax.field-0 c.in-Err-Syntax.field-0-0 c.in-Err-Syntax.field-0-is c.in-Err-Syntax.ensures.cause) (c.requires.is_part h)

pub returns-in-Err-Syntax-clause-fault : goal.returns-in-Err-Syntax-clause-fault
returns-in-Err-Syntax-clause-fault c =
    place_fault (slots_in c.args.reading.now.source.now.pieces) (slots_in c.args.reading.now.target.now.pieces) c.args.reading.now.text.now c.args.part.now (form_said c.args.form.now) c.place_of.result
    (no_assign (grammar c.args.reading.now.call.now) (grammar c.args.reading.now.assign.now) c.requires.call c.requires.assign c.args.part.now c.in-Err-Syntax.field-0-0 (cause_at (NestedSentence (grammar c.args.reading.now.call.now) most_nesting (grammar c.args.reading.now.assign.now)) c.args.part.now c.in-Err-Syntax.field-0 c.in-Err-Syntax.field-0-0 c.in-Err-Syntax.field-0-is c.in-Err-Syntax.ensures.cause)) c.place_of.ensures

pub returns-in-Ok-clause-fine : goal.returns-in-Ok-clause-fine
returns-in-Ok-clause-fine c =
    fine (slots_in c.args.reading.now.source.now.pieces) (slots_in c.args.reading.now.target.now.pieces) c.args.reading.now.text.now c.args.part.now (form_said c.args.form.now) c.give.result
    (as_assign (grammar c.args.reading.now.call.now) (grammar c.args.reading.now.assign.now) c.requires.call c.requires.assign c.args.part.now c.in-Ok.ensures.sentence) c.give.ensures.fine

pub returns-in-Ok-clause-fault : goal.returns-in-Ok-clause-fault
returns-in-Ok-clause-fault c =
    faults (slots_in c.args.reading.now.source.now.pieces) (slots_in c.args.reading.now.target.now.pieces) c.args.reading.now.text.now c.args.part.now (form_said c.args.form.now) c.give.result
    (as_assign (grammar c.args.reading.now.call.now) (grammar c.args.reading.now.assign.now) c.requires.call c.requires.assign c.args.part.now c.in-Ok.ensures.sentence) c.give.ensures.fault
