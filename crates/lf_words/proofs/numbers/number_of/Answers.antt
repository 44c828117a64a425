use Rattle.std.proofs.Common.{sym, ◌∙◌}
use Rattle.lf_words.proofs.NumberLaws.{none_parsed, otherwise_spelled, too_large, text_apart}
use Rattle.lf_words.proofs.numbers.number_of.Goals as goal

pub returns-in_default : goal.returns-in_default
returns-in_default c = none_parsed c.args.most c.args.word.now c.ranges.most.fits c.in_default.ensures.value.0

pub returns-then-ne : goal.returns-then-ne
returns-then-ne c =
    otherwise_spelled c.args.most c.args.word.now c.in-Ok.number c.ranges.most.fits c.in-Ok.ensures.value.0
    (λ e. text_apart c.format.result.now c.args.word.now c.ne.result c.ne.ensures c.if-ne.true (e ∙ sym c.format.ensures.text))

pub returns-then-number-most : goal.returns-then-number-most
returns-then-number-most c =
    too_large c.args.most c.args.word.now c.in-Ok.number c.ranges.most.fits c.in-Ok.ensures.value.0 c.if-number-most.true
