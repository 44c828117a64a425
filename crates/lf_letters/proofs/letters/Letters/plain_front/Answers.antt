use Rattle.std.proofs.Common.{List, ℕ, subst, sym}
use Rattle.lf_letters.specs.Plain.{ArePlain}
use Rattle.lf_letters.proofs.PlainTexts.{cut-parts, front-plain}
use Rattle.lf_letters.proofs.letters.Letters.plain_front.Goals as goal

pub returns-clause-plain : goal.returns-clause-plain
returns-clause-plain c =
    let l = c.args.self.now in
    subst (λ (s : List ℕ). ArePlain l.class l.code s) (sym c.split_at.ensures.front)
    (front-plain l.class l.code l.marks c.marked_len.result c.args.text.now l.plain c.marked_len.ensures.marked)

pub returns-clause-parts : goal.returns-clause-parts
returns-clause-parts c =
    cut-parts c.marked_len.result c.args.text.now c.split_at.result.0.now c.split_at.result.1.now c.split_at.ensures.front c.split_at.ensures.back
