use Rattle.std.proofs.Common.{◌≤◌, ◌+◌, length, arith}
use Rattle.lf_narrow.proofs.Steps.{nothing_left, cut_room, cut_fails, cut_kept, cut_ends, cut_goes, cut_shorter}
use Rattle.lf_narrow.proofs.narrowing.apply_all.Goals as goal

pub apply_part-requires-clause-short : goal.apply_part-requires-clause-short
apply_part-requires-clause-short c = let h : c.parts.at + length c.cut_before.result.0.now ≤ length c.args.text.now = cut_room c.args.text.now c.args.pieces.now c.parts.pieces c.parts.at c.parts.rest.now c.parts.invariant c.cut_before.result.0.now c.cut_before.result.1.now c.cut_before.ensures.front c.cut_before.ensures.rest in omega (arith, h, c.requires.short)

pub returns-in-Err-clause-fault : goal.returns-in-Err-clause-fault
returns-in-Err-clause-fault c = cut_fails c.args.text.now c.args.pieces.now c.parts.pieces c.parts.at c.parts.rest.now c.parts.invariant c.cut_before.result.0.now c.cut_before.result.1.now c.cut_before.ensures.front c.cut_before.ensures.rest c.in-Err.fault c.in-Err.ensures.fault

pub returns-in_default-clause-kept : goal.returns-in_default-clause-kept
returns-in_default-clause-kept c = cut_kept c.args.text.now c.args.pieces.now c.parts.pieces c.parts.at c.parts.rest.now c.parts.invariant c.cut_before.result.0.now c.cut_before.result.1.now c.cut_before.ensures.front c.cut_before.ensures.rest c.apply_part.new.pieces c.in-Ok.ensures.sentence c.in-Ok.ensures.fine c.in-Ok.ensures.after

pub returns-in_default-clause-narrowed : goal.returns-in_default-clause-narrowed
returns-in_default-clause-narrowed c = cut_ends c.args.text.now c.args.pieces.now c.parts.pieces c.parts.at c.parts.rest.now c.parts.invariant c.cut_before.result.0.now c.cut_before.result.1.now c.cut_before.ensures.front c.cut_before.ensures.rest c.apply_part.new.pieces c.in-Ok.ensures.sentence c.in-Ok.ensures.fine c.in-Ok.ensures.after (nothing_left c.cut_before.result.1.now c.in_default.ensures.cases)

pub parts-smaller : goal.parts-smaller
parts-smaller c = cut_shorter c.args.text.now c.args.pieces.now c.parts.pieces c.parts.at c.parts.rest.now c.parts.invariant c.cut_before.result.0.now c.cut_before.result.1.now c.cut_before.ensures.front c.cut_before.ensures.rest c.apply_part.new.pieces c.in-Ok.ensures.sentence c.in-Ok.ensures.fine c.in-Ok.ensures.after c.in-Some._byte.now c.in-Some.further.now c.in-Some.ensures.cases.0

pub parts-preserved : goal.parts-preserved
parts-preserved c = cut_goes c.args.text.now c.args.pieces.now c.parts.pieces c.parts.at c.parts.rest.now c.parts.invariant c.cut_before.result.0.now c.cut_before.result.1.now c.cut_before.ensures.front c.cut_before.ensures.rest c.apply_part.new.pieces c.in-Ok.ensures.sentence c.in-Ok.ensures.fine c.in-Ok.ensures.after c.in-Some._byte.now c.in-Some.further.now c.in-Some.ensures.cases.0
