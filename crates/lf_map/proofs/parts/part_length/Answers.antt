use Rattle.std.proofs.Common.{sym, ◌∙◌}
use Rattle.lf_map.proofs.Parted.{step, part_found, after_found}
use Rattle.lf_map.proofs.parts.part_length.Goals as goal

pub loop-i-preserved : goal.loop-i-preserved
loop-i-preserved c = step c.args.text.now c.loop-i.i c.loop-i.mode c.after-mode.result c.loop-i-test.true c.after-mode.ensures (sym c.is_cut.ensures ∙ c.if-is_cut.false) c.loop-i.invariant

pub returns-then-is_cut-clause-front : goal.returns-then-is_cut-clause-front
returns-then-is_cut-clause-front c = part_found c.args.text.now c.loop-i.i c.loop-i.mode c.loop-i-test.true (sym c.is_cut.ensures ∙ c.if-is_cut.true) c.loop-i.invariant

pub returns-then-is_cut-clause-rest : goal.returns-then-is_cut-clause-rest
returns-then-is_cut-clause-rest c = after_found c.args.text.now c.loop-i.i c.loop-i.mode c.loop-i-test.true (sym c.is_cut.ensures ∙ c.if-is_cut.true) c.loop-i.invariant
