use Rattle.std.proofs.Common.{◌++◌, ◌∙◌, take}
use Rattle.lf_io.proofs.Parts.{split_more, gets_both}
use Rattle.lf_io.proofs.sink.put_all.Goals as goal

pub loop-rest-preserved : goal.loop-rest-preserved
loop-rest-preserved g c =
    let now = c.loop-rest.invariant in
    let step = c.in-Took.ensures in
    let n = c.in-Took.count in
    let rest = c.loop-rest.rest.now in (
      (now.0.0 ++ take n rest, rw c.split_at.ensures.back (split_more c.args.text.now now.0.0 rest n now.0.1), gets_both _ _ _ _ _ now.0.2 step.bytes.2),
      step.faults.kept (λ e. cc) ∙ now.1,
    )
