use Rattle.lf_log.proofs.Drawing.{one_summary}
use Rattle.lf_log.proofs.generating.generated_text.Goals as goal

pub returns-in_err-tally-clause-one : goal.returns-in_err-tally-clause-one
returns-in_err-tally-clause-one c = one_summary c.one_record.ensures c.args.reader.now c.args.seed c.args.count

pub returns-in_err-text-clause-one : goal.returns-in_err-text-clause-one
returns-in_err-text-clause-one c = one_summary c.one_record.ensures c.args.reader.now c.args.seed c.args.count

pub returns-in_err-push-clause-one : goal.returns-in_err-push-clause-one
returns-in_err-push-clause-one c = one_summary c.one_record.ensures c.args.reader.now c.args.seed c.args.count

pub returns-clause-one : goal.returns-clause-one
returns-clause-one c = one_summary c.one_record.ensures c.args.reader.now c.args.seed c.args.count
