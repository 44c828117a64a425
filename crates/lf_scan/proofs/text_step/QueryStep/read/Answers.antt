use Rattle.lf_scan.specs.Texts.{query_of}
use Rattle.lf_scan.proofs.LetterTexts.{reads-query, reads-no-query}
use Rattle.lf_scan.proofs.text_step.QueryStep.read.Goals as goal

pub returns-in_default-clause-read : goal.returns-in_default-clause-read
returns-in_default-clause-read c =
    reads-no-query (query_of c.args.self.now) c.args.self.now.letters.code c.args.text.now c.args.into.now c.extend.new.self c.in_ok-extend.ensures.ok

pub returns-clause-read : goal.returns-clause-read
returns-clause-read c =
    reads-query (query_of c.args.self.now) c.args.self.now.letters.code c.in_ok-left._len c.args.text.now c.in-Some.more.now c.in_ok-left.left.now c.args.into.now c.read_query.new.into
    c.in-Some.ensures c.in_ok-left.ensures.read
