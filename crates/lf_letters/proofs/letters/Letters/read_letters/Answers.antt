use Rattle.lf_letters.proofs.PlainTexts.{reads-plain}
use Rattle.lf_letters.proofs.letters.Letters.read_letters.Goals as goal

pub returns-clause-read : goal.returns-clause-read
returns-clause-read c =
    let l = c.args.self.now in
    reads-plain l.class l.code c.args.lead.now c.args.text.now c.plain_front.result.0.now c.plain_front.result.1.now c.args.into.now c.push_string.new.into c.requires
    c.plain_front.ensures.plain c.plain_front.ensures.parts c.in_ok-push_string.ensures.ok
