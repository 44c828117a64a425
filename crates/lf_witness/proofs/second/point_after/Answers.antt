use Rattle.std.proofs.Common.{◌≡◌, ◌-◌, ◌+◌, ℕ, take, sym, ap, ◌∙◌, arith}
use Rattle.lf_core.specs.declared.marked.Move.{Move}
use Rattle.lf_core.specs.Marked.{stop}
use Rattle.lf_witness.proofs.SecondLaws.{stop_more}
use Rattle.lf_witness.proofs.second.point_after.Goals as goal

pub returns : goal.returns
returns c =
    let i = c.args.at - 1 in
    let at : i + 1 ≡ c.args.at = omega arith in
    ap (λ (x : Move). x.to) c.get.ensures ∙ sym (stop_more c.args.start i c.args.run.now (omega arith)) ∙ ap (λ (n : ℕ). stop c.args.start (take n c.args.run.now)) at
