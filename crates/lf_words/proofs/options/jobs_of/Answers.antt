use Rattle.lf_words.proofs.NumberLaws.{no_jobs}
use Rattle.lf_words.proofs.options.jobs_of.Goals as goal

pub returns-then-jobs-eq0 : goal.returns-then-jobs-eq0
returns-then-jobs-eq0 c = no_jobs _ c.in-Some.value.now c.as_str.result.now c.in-Some-number_of.jobs c.in-Some.ensures c.as_str.ensures c.in-Some-number_of.ensures c.if-jobs-eq0.true
