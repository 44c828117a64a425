use Rattle.std.proofs.Common.{◌∙◌, inr, refl}
use Rattle.std.proofs.lemmas.Bool.{false≢true}
use Rattle.lf_json.proofs.ReadingLaws.{json_of-text, json_of-none}
use Rattle.lf_json.proofs.reading.parse.Goals as goal

pub returns-in-Ok-clause-ok : goal.returns-in-Ok-clause-ok
returns-in-Ok-clause-ok c = json_of-text c.args.line.now c.in-Ok.ensures.ok.0 ∙ c.in-Ok.ensures.ok.1

pub returns-else-is_memory-clause-err : goal.returns-else-is_memory-clause-err
returns-else-is_memory-clause-err c =
    inr (refl, json_of-none c.args.line.now (c.in-Err.ensures.err (λ memory. false≢true (c.if-is_memory.ensures.1 memory))))
