use Rattle.std.proofs.Common.{◌∙◌}
use Rattle.lf_format.specs.Keeps.{slots_in}
use Rattle.lf_expression.proofs.Cutting.{nothing_left}
use Rattle.lf_map.specs.Forms.{form_said}
use Rattle.lf_map.proofs.Steps.{part_short, is_part, fails, ends, smaller, goes}
use Rattle.lf_map.proofs.parsing.read_parts.Goals as goal

pub read_part-requires-clause-shorter : goal.read_part-requires-clause-shorter
read_part-requires-clause-shorter c = part_short (slots_in c.args.reading.now.source.now.pieces) (slots_in c.args.reading.now.target.now.pieces) c.args.reading.now.text.now (form_said c.args.form.now) (form_said c.parts.form) c.parts.rest.now c.parts.invariant.going c.cut_part.result.0.now c.cut_part.result.1.now c.cut_part.ensures.front c.cut_part.ensures.rest

pub read_part-requires-clause-count : goal.read_part-requires-clause-count
read_part-requires-clause-count c = c.parts.invariant.same ∙ c.requires.count

pub read_part-requires-clause-is_part : goal.read_part-requires-clause-is_part
read_part-requires-clause-is_part c = is_part (slots_in c.args.reading.now.source.now.pieces) (slots_in c.args.reading.now.target.now.pieces) c.args.reading.now.text.now (form_said c.args.form.now) (form_said c.parts.form) c.parts.rest.now c.parts.invariant.going c.cut_part.result.0.now c.cut_part.result.1.now c.cut_part.ensures.front c.cut_part.ensures.rest

pub returns-in-Err-clause-fault : goal.returns-in-Err-clause-fault
returns-in-Err-clause-fault c = fails (slots_in c.args.reading.now.source.now.pieces) (slots_in c.args.reading.now.target.now.pieces) c.args.reading.now.text.now (form_said c.args.form.now) (form_said c.parts.form) c.parts.rest.now c.parts.invariant.going c.cut_part.result.0.now c.cut_part.result.1.now c.cut_part.ensures.front c.cut_part.ensures.rest c.in-Err.fault c.in-Err.ensures.fault

pub returns-in_default-clause-read : goal.returns-in_default-clause-read
returns-in_default-clause-read c = ends (slots_in c.args.reading.now.source.now.pieces) (slots_in c.args.reading.now.target.now.pieces) c.args.reading.now.text.now (form_said c.args.form.now) (form_said c.parts.form) c.parts.rest.now c.parts.invariant.going c.cut_part.result.0.now c.cut_part.result.1.now c.cut_part.ensures.front c.cut_part.ensures.rest (form_said c.read_part.new.form) c.in-Ok.ensures.fine c.in-Ok.ensures.given (nothing_left c.cut_part.result.1.now c.in_default.ensures.cases)

pub parts-smaller : goal.parts-smaller
parts-smaller c = smaller (slots_in c.args.reading.now.source.now.pieces) (slots_in c.args.reading.now.target.now.pieces) c.args.reading.now.text.now (form_said c.args.form.now) (form_said c.parts.form) c.parts.rest.now c.parts.invariant.going c.cut_part.result.0.now c.cut_part.result.1.now c.cut_part.ensures.front c.cut_part.ensures.rest (form_said c.read_part.new.form) c.in-Ok.ensures.fine c.in-Ok.ensures.given c.in-Some._byte.now c.in-Some.further.now c.in-Some.ensures.cases.0

pub parts-preserved : goal.parts-preserved
parts-preserved c = record {
  going = goes (slots_in c.args.reading.now.source.now.pieces) (slots_in c.args.reading.now.target.now.pieces) c.args.reading.now.text.now (form_said c.args.form.now) (form_said c.parts.form) c.parts.rest.now c.parts.invariant.going c.cut_part.result.0.now c.cut_part.result.1.now c.cut_part.ensures.front c.cut_part.ensures.rest (form_said c.read_part.new.form) c.in-Ok.ensures.fine c.in-Ok.ensures.given c.in-Some._byte.now c.in-Some.further.now c.in-Some.ensures.cases.0;
  same = c.in-Ok.ensures.length ∙ c.parts.invariant.same;
}

pub returns-in_default-clause-length : goal.returns-in_default-clause-length
returns-in_default-clause-length c = c.in-Ok.ensures.length ∙ c.parts.invariant.same
