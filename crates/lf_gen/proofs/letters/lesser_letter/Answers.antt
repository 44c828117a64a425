use Rattle.std.proofs.Common.{subst, sym, ◌∙◌}
use Rattle.lf_gen.specs.Letters.{IsLeastLetter}
use Rattle.lf_gen.proofs.Choosing.{skip-letter, not-member, not-taken, coded-letter, first-letter, take-letter, keep-letter}
use Rattle.lf_gen.proofs.letters.lesser_letter.Goals as goal

pub returns-then-not-has : goal.returns-then-not-has
returns-then-not-has c =
    skip-letter c.args.code c.args.class c.args.letter c.args.least
    (not-member c.args.code c.args.class c.args.letter (sym c.has.ensures ∙ c.if-not-has.true))

pub returns-then-not-takes : goal.returns-then-not-takes
returns-then-not-takes c =
    skip-letter c.args.code c.args.class c.args.letter c.args.least
    (not-taken c.args.code c.args.class c.args.letter (sym c.takes.ensures ∙ c.if-not-takes.true))

pub returns-in_default : goal.returns-in_default
returns-in_default c = λ h.
    first-letter c.args.code c.args.class c.args.letter
    (coded-letter c.args.code c.args.class c.args.letter c.ranges.letter.fits (sym c.has.ensures ∙ c.if-not-has.false) (sym c.takes.ensures ∙ c.if-not-takes.false))
    (subst (IsLeastLetter c.args.code c.args.class c.args.letter) c.in_default.is h)

pub returns-in-Less : goal.returns-in-Less
returns-in-Less c = λ h.
    take-letter c.args.code c.args.class c.args.letter c.in-Some.other
    (coded-letter c.args.code c.args.class c.args.letter c.ranges.letter.fits (sym c.has.ensures ∙ c.if-not-has.false) (sym c.takes.ensures ∙ c.if-not-takes.false))
    (sym c.compare_letters.ensures ∙ c.in-Less.is)
    (subst (IsLeastLetter c.args.code c.args.class c.args.letter) c.in-Some.is h)

pub returns-in_default-compare_letters : goal.returns-in_default-compare_letters
returns-in_default-compare_letters c = λ h.
    keep-letter c.args.code c.args.class c.args.letter c.in-Some.other
    (λ e. c.in_default-compare_letters.not-Less (c.compare_letters.ensures ∙ e))
    (subst (IsLeastLetter c.args.code c.args.class c.args.letter) c.in-Some.is h)
