use Rattle.std.proofs.Common.{◌≡◌, ℕ, List, sym, subst, ap, ◌∙◌, Ok, Err, arith}
use Rattle.std.proofs.lemmas.Result.{err_from_is_err_and}
use Rattle.lf_spelling.specs.Spelling.{AnswersFormat, AnswersFault}
use Rattle.lf_spelling.specs.declared.fault.FormatFault.{FormatFault}
use Rattle.lf_spelling.specs.declared.fault.FormatFault.TheVariants as fault
use Rattle.nginx_front.specs.declared.strings.Placed.{Placed}
use Rattle.nginx_front.specs.Parts.{IsSpelled}
use Rattle.nginx_front.specs.Whole.{bytes_of, place_of, GivesSaid}
use Rattle.nginx_front.proofs.TextKept.{joined_text, joined_len}
use Rattle.nginx_front.proofs.WholeLaws.{parts_faulty, parts_only_spelled, parts_only_faulty, joined_faulty, joined_only_spelled, joined_ok_faulty, joined_only_faulty}
use Rattle.nginx_front.proofs.directive.parse_directive.Goals as goal

pub parse_bytes-requires-clause-short : goal.parse_bytes-requires-clause-short
parse_bytes-requires-clause-short c =
    let is : IsSpelled c.args.text.now c.in_ok-escape.field-0.escape c.in_ok-escape.field-0.given.items = rw c.as_bytes.ensures.value at c.in_ok-escape.ensures in
    let are : c.as_slice-2.result.now ≡ bytes_of c.in_ok-escape.field-0.given.items = c.as_slice-2.ensures ∙ c.in_ok-bytes.ensures ∙ ap bytes_of c.as_slice.ensures.value in
    omega (arith, c.requires, joined_len c.args.text.now c.in_ok-escape.field-0.escape c.in_ok-escape.field-0.given.items c.as_slice-2.result.now is are)

pub parse_bytes-requires-clause-text : goal.parse_bytes-requires-clause-text
parse_bytes-requires-clause-text c =
    let is : IsSpelled c.args.text.now c.in_ok-escape.field-0.escape c.in_ok-escape.field-0.given.items = rw c.as_bytes.ensures.value at c.in_ok-escape.ensures in
    let are : c.as_slice-2.result.now ≡ bytes_of c.in_ok-escape.field-0.given.items = c.as_slice-2.ensures ∙ c.in_ok-bytes.ensures ∙ ap bytes_of c.as_slice.ensures.value in
    joined_text c.args.text.now c.in_ok-escape.field-0.escape c.in_ok-escape.field-0.given.items c.as_slice-2.result.now is are c.utf8.text

pub returns-in-Ok-clause-only_spelled : goal.returns-in-Ok-clause-only_spelled
returns-in-Ok-clause-only_spelled c = λ format.
    let is : IsSpelled c.args.text.now c.in_ok-escape.field-0.escape c.in_ok-escape.field-0.given.items = rw c.as_bytes.ensures.value at c.in_ok-escape.ensures in
    let are : c.as_slice-2.result.now ≡ bytes_of c.in_ok-escape.field-0.given.items = c.as_slice-2.ensures ∙ c.in_ok-bytes.ensures ∙ ap bytes_of c.as_slice.ensures.value in
    joined_only_spelled c.args.text.now c.in_ok-escape.field-0.escape c.in_ok-escape.field-0.given.items c.as_slice-2.result.now is are format (Ok c.in-Ok.format) (c.in-Ok.ensures.only_spelled format)

pub returns-in-Ok-clause-only_faulty : goal.returns-in-Ok-clause-only_faulty
returns-in-Ok-clause-only_faulty c = λ place cause.
    let is : IsSpelled c.args.text.now c.in_ok-escape.field-0.escape c.in_ok-escape.field-0.given.items = rw c.as_bytes.ensures.value at c.in_ok-escape.ensures in
    let are : c.as_slice-2.result.now ≡ bytes_of c.in_ok-escape.field-0.given.items = c.as_slice-2.ensures ∙ c.in_ok-bytes.ensures ∙ ap bytes_of c.as_slice.ensures.value in
    joined_ok_faulty c.args.text.now c.in_ok-escape.field-0.escape c.in_ok-escape.field-0.given.items c.as_slice-2.result.now is are place cause c.in-Ok.format c.in-Ok.ensures.only_faulty

pub returns-clause-faulty : goal.returns-clause-faulty
returns-clause-faulty c = λ place cause.
    let is : IsSpelled c.args.text.now c.in_ok-escape.field-0.escape c.in_ok-escape.field-0.given.items = rw c.as_bytes.ensures.value at c.in_ok-escape.ensures in
    let are : c.as_slice-2.result.now ≡ bytes_of c.in_ok-escape.field-0.given.items = c.as_slice-2.ensures ∙ c.in_ok-bytes.ensures ∙ ap bytes_of c.as_slice.ensures.value in
    joined_faulty c.args.text.now c.in_ok-escape.field-0.escape c.in_ok-escape.field-0.given.items c.as_slice-2.result.now is are c.in-Err-At.at c.place_of.result c.in-Err-At.cause (c.place_of.ensures ∙ ap (λ (given : List Placed). place_of given c.in-Err-At.at) c.as_slice-in-Err-At.ensures.value) (c.in-Err-At.ensures.faulty c.in-Err-At.at c.in-Err-At.cause (ap (λ (f : FormatFault). Err f) c.in-Err-At.field-0-is)) place cause

pub returns-clause-only_spelled : goal.returns-clause-only_spelled
returns-clause-only_spelled c = λ format.
    let is : IsSpelled c.args.text.now c.in_ok-escape.field-0.escape c.in_ok-escape.field-0.given.items = rw c.as_bytes.ensures.value at c.in_ok-escape.ensures in
    let are : c.as_slice-2.result.now ≡ bytes_of c.in_ok-escape.field-0.given.items = c.as_slice-2.ensures ∙ c.in_ok-bytes.ensures ∙ ap bytes_of c.as_slice.ensures.value in
    joined_only_spelled c.args.text.now c.in_ok-escape.field-0.escape c.in_ok-escape.field-0.given.items c.as_slice-2.result.now is are format (Err (fault.At c.in-Err-At.at c.in-Err-At.cause)) (rw c.in-Err-At.field-0-is at (c.in-Err-At.ensures.only_spelled format))

pub returns-clause-only_faulty : goal.returns-clause-only_faulty
returns-clause-only_faulty c = λ place cause.
    let is : IsSpelled c.args.text.now c.in_ok-escape.field-0.escape c.in_ok-escape.field-0.given.items = rw c.as_bytes.ensures.value at c.in_ok-escape.ensures in
    let are : c.as_slice-2.result.now ≡ bytes_of c.in_ok-escape.field-0.given.items = c.as_slice-2.ensures ∙ c.in_ok-bytes.ensures ∙ ap bytes_of c.as_slice.ensures.value in
    joined_only_faulty c.args.text.now c.in_ok-escape.field-0.escape c.in_ok-escape.field-0.given.items c.as_slice-2.result.now is are c.in-Err-At.at c.in-Err-At.cause place cause c.place_of.result (c.place_of.ensures ∙ ap (λ (given : List Placed). place_of given c.in-Err-At.at) c.as_slice-in-Err-At.ensures.value) (rw c.in-Err-At.field-0-is at c.in-Err-At.ensures.only_faulty)

pub returns-in_err-escape-clause-faulty : goal.returns-in_err-escape-clause-faulty
returns-in_err-escape-clause-faulty c = λ place cause e.
    let is : GivesSaid c.args.text.now (Err c.in_err-escape.field-0.0) = subst (λ (t : List ℕ). GivesSaid t (Err c.in_err-escape.field-0.0)) c.as_bytes.ensures.value c.in_err-escape.ensures in
    let told = err_from_is_err_and c.from_residual.result c.from_residual.ensures.1 in
    let same : c.from_residual.result ≡ Err c.in_err-escape.field-0.0 = told.1 ∙ ap (λ (f : FormatFault). Err f) told.2 in
    parts_faulty c.args.text.now c.in_err-escape.field-0.0 place cause is (sym same ∙ e)

pub returns-in_err-escape-clause-only_spelled : goal.returns-in_err-escape-clause-only_spelled
returns-in_err-escape-clause-only_spelled c = λ format d.
    let is : GivesSaid c.args.text.now (Err c.in_err-escape.field-0.0) = subst (λ (t : List ℕ). GivesSaid t (Err c.in_err-escape.field-0.0)) c.as_bytes.ensures.value c.in_err-escape.ensures in
    let told = err_from_is_err_and c.from_residual.result c.from_residual.ensures.1 in
    let same : c.from_residual.result ≡ Err c.in_err-escape.field-0.0 = told.1 ∙ ap (λ (f : FormatFault). Err f) told.2 in
    subst (AnswersFormat format) (sym same) (parts_only_spelled c.args.text.now c.in_err-escape.field-0.0 format is d)

pub returns-in_err-escape-clause-only_faulty : goal.returns-in_err-escape-clause-only_faulty
returns-in_err-escape-clause-only_faulty c = λ place cause d.
    let is : GivesSaid c.args.text.now (Err c.in_err-escape.field-0.0) = subst (λ (t : List ℕ). GivesSaid t (Err c.in_err-escape.field-0.0)) c.as_bytes.ensures.value c.in_err-escape.ensures in
    let told = err_from_is_err_and c.from_residual.result c.from_residual.ensures.1 in
    let same : c.from_residual.result ≡ Err c.in_err-escape.field-0.0 = told.1 ∙ ap (λ (f : FormatFault). Err f) told.2 in
    subst (AnswersFault place cause) (sym same) (parts_only_faulty c.args.text.now c.in_err-escape.field-0.0 place cause is d)
