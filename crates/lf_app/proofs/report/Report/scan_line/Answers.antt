use Rattle.std.proofs.Common.{refl, sym, subst}
use Rattle.lf_stream.specs.Marks.{IsBody}
use Rattle.lf_stream.specs.declared.marks.Body.{Body}
use Rattle.lf_scan.specs.Reads.{IsScan}
use Rattle.lf_app.specs.declared.commands.Job.{Job}
use Rattle.lf_app.specs.Progress.{Says}
use Rattle.lf_app.proofs.VerdictLaws.{scanned}
use Rattle.lf_app.proofs.report.Report.scan_line.Goals as goal

pub returns : goal.returns
returns c =
    let format = c.in-Read.reader in
    let text = c.in-Line.text in
    let reads = subst (IsScan format.pieces text.now c.args.self.now.out c.scan.new.into) c.if-not-branch.false c.in_ok-scan.ensures in (
      subst (λ (job : Job). Says job c.args.line.body c.args.line.number c.args.self.now (record { count = c.args.line.number; is_partial = c.args.self.now.is_partial; out = c.push.new.self; err = c.args.self.now.err; recent = c.scan.new.recent })) (sym c.in-Read.is)
          (λ line is.
          let body = subst (λ (b : Body). IsBody format.notes line b) c.in-Line.is is in
          scanned format text.now line c.scan.new.into c.args.line.number c.args.self.now _ body.0 body.1 reads refl c.in_ok-push.ensures.ok refl),
      refl,
    )
