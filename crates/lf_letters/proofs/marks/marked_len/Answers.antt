use Rattle.std.proofs.Common.{arith}
use Rattle.lf_letters.proofs.Lanes16.{marked-more, marked-last}
use Rattle.lf_letters.proofs.marks.marked_len.Goals as goal

pub returns-then-run-lt-LANES-clause-marked : goal.returns-then-run-lt-LANES-clause-marked
returns-then-run-lt-LANES-clause-marked c =
    marked-more c.args.marks.now c.args.rows.now c.args.text.now c.chunks.at c.row_run-run.result c.requires c.type_inv.text c.chunks.invariant.marked c.row_run-run.ensures.held

pub chunks-preserved : goal.chunks-preserved
chunks-preserved c = record {
  within = omega (arith, c.chunks-test.true, c.row_run-run.ensures.within, c.chunks.invariant.within);
  marked = marked-more c.args.marks.now c.args.rows.now c.args.text.now c.chunks.at c.row_run-run.result c.requires c.type_inv.text c.chunks.invariant.marked c.row_run-run.ensures.held;
}

pub returns-clause-marked : goal.returns-clause-marked
returns-clause-marked c =
    marked-last c.args.marks.now c.args.text.now c.split_at.result.1.now c.chunks.at c.marked_few.result c.split_at.ensures.back c.chunks.invariant.marked c.marked_few.ensures.marked
