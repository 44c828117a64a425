use Rattle.lf_narrow.proofs.Only.{one_format, format_or_fault, memory_only, one_fault}
use Rattle.lf_narrow.proofs.narrowing.narrow.Goals as goal

pub returns-in-Ok-clause-only_narrowed : goal.returns-in-Ok-clause-only_narrowed
returns-in-Ok-clause-only_narrowed c = λ one h. one_format c.args.format c.args.text.now c.in-Ok.narrowed one c.in-Ok.ensures.narrowed h

pub returns-in-Ok-clause-only_faulty : goal.returns-in-Ok-clause-only_faulty
returns-in-Ok-clause-only_faulty c = λ f h. format_or_fault c.args.format c.args.text.now c.in-Ok.narrowed f c.in-Ok.ensures.narrowed h

pub returns-in-Err-clause-only_narrowed : goal.returns-in-Err-clause-only_narrowed
returns-in-Err-clause-only_narrowed c = λ one h. memory_only c.args.format c.args.text.now one c.in-Err.fault c.in-Err.ensures.faulty h

pub returns-in-Err-clause-only_faulty : goal.returns-in-Err-clause-only_faulty
returns-in-Err-clause-only_faulty c = λ f h. one_fault c.args.format c.args.text.now c.in-Err.fault f c.in-Err.ensures.faulty h
