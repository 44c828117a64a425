use Rattle.std.proofs.Common.{length, ◌≡◌, ◌<◌, arith, rules}
use Rattle.lf_syntax.specs.Grammar.{NestedSentence}
use Rattle.lf_syntax.specs.Shape.{grammar, threads}
use Rattle.lf_syntax.proofs.Reading.{none_left, some_left, begins_reading, goes_on, is_stuck, is_short, is_sentence}
use Rattle.lf_syntax.proofs.scan.scan_nested.Goals as goal

pub loop-i-init : goal.loop-i-init
loop-i-init c =
    begins_reading (grammar c.args.rule.now) c.requires.rule c.args.depth (grammar c.args.language.now) c.args.text.now (threads c.in-Ok.all.items) c.requires.sound c.in-Ok.ensures

pub returns-then-is_empty-clause-cause : goal.returns-then-is_empty-clause-cause
returns-then-is_empty-clause-cause c =
    let below : c.loop-i.i < length c.args.text.now = omega arith in
    is_stuck (grammar c.args.rule.now) c.requires.rule (NestedSentence (grammar c.args.rule.now) c.args.depth (grammar c.args.language.now)) c.args.text.now c.loop-i.i (threads c.loop-i.all.items) c.loop-i.invariant
    c.step_all.new.all.items below c.in-Ok-step_all.ensures (none_left c.is_empty.result c.as_slice.result.now c.step_all.new.all.items c.is_empty.ensures c.as_slice.ensures.value c.if-is_empty.true)

pub loop-i-preserved : goal.loop-i-preserved
loop-i-preserved c =
    let below : c.loop-i.i < length c.args.text.now = omega arith in
    goes_on (grammar c.args.rule.now) c.requires.rule (NestedSentence (grammar c.args.rule.now) c.args.depth (grammar c.args.language.now)) c.args.text.now c.loop-i.i (threads c.loop-i.all.items) c.loop-i.invariant
    c.step_all.new.all.items below c.in-Ok-step_all.ensures (some_left c.is_empty.result c.as_slice.result.now c.step_all.new.all.items c.is_empty.ensures c.as_slice.ensures.value c.if-is_empty.false)

pub returns-then-may_end-clause-sentence : goal.returns-then-may_end-clause-sentence
returns-then-may_end-clause-sentence c =
    let at : c.loop-i.i ≡ length c.args.text.now = omega arith in
    is_sentence (grammar c.args.rule.now) c.requires.rule (NestedSentence (grammar c.args.rule.now) c.args.depth (grammar c.args.language.now)) c.args.text.now c.loop-i.i (threads c.loop-i.all.items) c.loop-i.invariant
    at (search rules)

pub returns-clause-cause : goal.returns-clause-cause
returns-clause-cause c =
    let at : c.loop-i.i ≡ length c.args.text.now = omega arith in
    is_short (grammar c.args.rule.now) c.requires.rule (NestedSentence (grammar c.args.rule.now) c.args.depth (grammar c.args.language.now)) c.args.text.now c.loop-i.i (threads c.loop-i.all.items) c.loop-i.invariant
    at (search rules)
