use Rattle.std.proofs.Common.{sym, ◌∙◌}
use Rattle.lf_expression.proofs.Cutting.{nothing_left}
use Rattle.lf_map.proofs.Lettered.{none_left, none_after, ended, after_end, on}
use Rattle.lf_map.proofs.strings.read_string.Goals as goal

pub returns-in_default-clause-letters : goal.returns-in_default-clause-letters
returns-in_default-clause-letters c = none_left c.args.text.now c.letters.letters c.letters.stage c.letters.rest.now c.letters.invariant (nothing_left c.letters.rest.now c.in_default.ensures.cases)

pub returns-in_default-clause-rest : goal.returns-in_default-clause-rest
returns-in_default-clause-rest c = none_after c.args.text.now c.letters.letters c.letters.stage c.letters.rest.now c.letters.invariant (nothing_left c.letters.rest.now c.in_default.ensures.cases)

pub returns-then-is_end-clause-letters : goal.returns-then-is_end-clause-letters
returns-then-is_end-clause-letters c = ended c.args.text.now c.letters.letters c.letters.stage c.letters.rest.now c.letters.invariant c.in-Some.byte.now c.in-Some.more.now c.in-Some.ensures.cases.0 (sym c.is_end.ensures ∙ c.if-is_end.true)

pub returns-then-is_end-clause-rest : goal.returns-then-is_end-clause-rest
returns-then-is_end-clause-rest c = after_end c.args.text.now c.letters.letters c.letters.stage c.letters.rest.now c.letters.invariant c.in-Some.byte.now c.in-Some.more.now c.in-Some.ensures.cases.0 (sym c.is_end.ensures ∙ c.if-is_end.true)

pub letters-preserved : goal.letters-preserved
letters-preserved c = on c.args.text.now c.letters.letters c.letters.stage c.letters.rest.now c.letters.invariant c.in-Some.byte.now c.in-Some.more.now c.in-Some.ensures.cases.0 c.after-stage.result c.push_some.new.into c.letter.result (sym c.is_end.ensures ∙ c.if-is_end.false) c.after-stage.ensures c.letter.ensures c.in_ok-push_some.ensures
