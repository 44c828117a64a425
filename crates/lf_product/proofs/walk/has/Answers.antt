use Rattle.std.proofs.Common.{inl, inr}
use Rattle.std.proofs.lemmas.Bool.{iff_false}
use Rattle.lf_product.proofs.Sweep.{contains_take_more, contains_whole}
use Rattle.lf_product.proofs.WalkSteps.{no_pair}
use Rattle.lf_product.proofs.walk.has.Goals as goal

pub loop-p-preserved : goal.loop-p-preserved
loop-p-preserved c = λ h.
    elim (contains_take_more c.args.list.now c.loop-p.p-index no_pair c.args.pair c.loop-p-test.true h) [
      | inl before ↦ c.loop-p.invariant before
      | inr is ↦ iff_false c.is.ensures c.if-is.false is
    ]

pub returns : goal.returns
returns c = (
  λ t. absurd (cc),
  λ h. absurd (c.loop-p.invariant (contains_whole c.args.list.now c.loop-p.p-index c.args.pair c.loop-p-test.false h)),
)
