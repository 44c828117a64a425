use Rattle.std.proofs.Common.{subst}
use Rattle.lf_app.specs.declared.verdict.Finding.{Finding}
use Rattle.lf_app.specs.declared.verdict.Verdict.TheVariants.{Found}
use Rattle.lf_app.specs.Verdicts.{IsOfFormat}
use Rattle.lf_json.proofs.Sorts.{record_json}
use Rattle.lf_app.proofs.report.Report.add_finding.Goals as goal

pub write_record-requires : goal.write_record-requires
write_record-requires c =
    let held = subst (λ (f : Finding). IsOfFormat c.args.format.now (Found f)) c.in-Read.is c.requires in
    record_json c.args.format.now.pieces c.in-Read.record held
