use Rattle.std.proofs.Common.{sym}
use Rattle.std.proofs.lemmas.Bool.{ne_eqb}
use Rattle.lf_spelling.specs.RunLaws.{run_taken}
use Rattle.w3c_front.specs.Items.{is_inner}
use Rattle.w3c_front.proofs.Cuts.{blanks_read, heading_read, identifier_read, field_fails, field_read}
use Rattle.w3c_front.proofs.Texts.{identifier_text}
use Rattle.w3c_front.proofs.front.FieldsItemReader.item.Goals as goal

pub returns-then-is_blank : goal.returns-then-is_blank
returns-then-is_blank c =
    blanks_read c.args.self.now c.args.rest.now c.in-Some.first.now c.in-Some._after.now c.blank_run.result c.after_blanks-self.result c.in-Some.ensures.cases.0 (sym c.if-is_blank.ensures) c.blank_run.ensures c.after_blanks-self.ensures

pub returns-then-has_heading : goal.returns-then-has_heading
returns-then-has_heading c =
    heading_read c.args.self.now c.args.rest.now c.in-Some.first.now c.in-Some._after.now c.in-Some.ensures.cases.0 (sym c.if-is_blank.ensures) (ne_eqb c.in-Some.first.now 10 c.if-first-eq10.false) (sym c.if-has_heading.ensures)

pub split_at-requires : goal.split_at-requires
split_at-requires c = (run_taken is_inner c.args.rest.now c.identifier_run-len.result c.identifier_run-len.ensures).2

pub slot-requires : goal.slot-requires
slot-requires c = identifier_text c.args.self.now.language c.args.rest.now c.split_at.result.0.now c.identifier_run-len.result c.requires.text c.identifier_run-len.ensures c.split_at.ensures.front

pub returns-in-Err : goal.returns-in-Err
returns-in-Err c =
    let read = identifier_read c.args.self.now c.args.rest.now c.in-Some.first.now c.in-Some._after.now c.identifier_run-len.result c.split_at.result.0.now c.in-Some.ensures.cases.0 (sym c.if-is_blank.ensures) (ne_eqb c.in-Some.first.now 10 c.if-first-eq10.false) (sym c.if-has_heading.ensures) c.identifier_run-len.ensures c.split_at.ensures.front in
    field_fails c.args.self.now c.args.self.now c.args.rest.now c.split_at.result.0.now _ c.in-Err.fault read c.in-Err.ensures

pub returns : goal.returns
returns c =
    let read = identifier_read c.args.self.now c.args.rest.now c.in-Some.first.now c.in-Some._after.now c.identifier_run-len.result c.split_at.result.0.now c.in-Some.ensures.cases.0 (sym c.if-is_blank.ensures) (ne_eqb c.in-Some.first.now 10 c.if-first-eq10.false) (sym c.if-has_heading.ensures) c.identifier_run-len.ensures c.split_at.ensures.front in
    let cut = run_taken is_inner c.args.rest.now c.identifier_run-len.result c.identifier_run-len.ensures in
    field_read c.args.self.now c.args.rest.now c.split_at.result.0.now c.identifier_run-len.result c.in-Ok.slot c.given-given.result cut.2 c.split_at.ensures.front read c.in-Ok.ensures c.given-given.ensures
