use Rattle.std.proofs.Common.{◌+◌, Bool, rules, subst}
use Rattle.lf_expression.specs.Exprs.{expr_said, exprs_said}
use Rattle.lf_expression.specs.Values.{expr_value}
use Rattle.lf_map.specs.Mapped.{mapped_record}
use Rattle.lf_map.specs.Written.{IsAdded, AddsRest}
use Rattle.lf_map.proofs.Adding.{rest_goes_on}
use Rattle.lf_map.proofs.Cases.{ok_more}
use Rattle.lf_map.proofs.mapping.+write_pieces.Goals as goal

pub returns-else-not-branch : goal.returns-else-not-branch
returns-else-not-branch t c =
    let slot = c.in-Some-Slot-default.slot in
    let more = c.in-Some-Slot-default.more.now in
    let expr = c.in-Some.expr.now in
    let others = c.in-Some.others.now in
    let rec = c.args.rec.now in
    let mid = c.write_expr.new.into in
    let new = c.write_pieces-in-Some.new.into in
    let held = subst (λ (b : Bool). IsAdded b slot (expr_value (expr_said expr) rec) c.args.into.now mid) c.if-not-branch.false c.in_ok-write_expr-in-Some.ensures in
    ok_more c.write_pieces-in-Some.result
    (λ unmapped. AddsRest (c.args.k + 1) more (mapped_record (exprs_said others) rec) unmapped mid new)
    (λ unmapped. AddsRest c.args.k c.args.pieces.now (mapped_record (exprs_said c.args.exprs.now) rec) unmapped c.args.into.now new)
    (λ unmapped r. rest_goes_on c.args.k slot more c.args.pieces.now expr others c.args.exprs.now rec c.args.into.now (search rules) (search rules) mid new unmapped held r)
    c.write_pieces-in-Some.ensures
