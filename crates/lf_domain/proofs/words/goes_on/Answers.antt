use Rattle.std.proofs.Common.{sym, ◌∙◌, arith}
use Rattle.lf_domain.proofs.Prefixes.{front-other, front-last}
use Rattle.lf_domain.proofs.words.goes_on.Goals as goal

pub returns-then-not-starts_with : goal.returns-then-not-starts_with
returns-then-not-starts_with c =
    sym (front-other c.args.word.now c.args.prefix.now c.args.letter (sym c.starts_with.ensures.value ∙ c.if-not-starts_with.true))

pub returns : goal.returns
returns c =
    front-last c.args.word.now c.args.prefix.now c.args.letter (sym c.starts_with.ensures.value ∙ c.if-not-starts_with.false) (omega arith)
