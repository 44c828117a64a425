use Rattle.std.proofs.Common.{◌∙◌, sym, ap, map, Some}
use Rattle.std.specs.Prelude.{Ok, Err}
use Rattle.std.proofs.lemmas.Result.{IfOk-weaker}
use Rattle.serde_json.specs.View.{view}
use Rattle.lf_format.specs.Keeps.{slots_in}
use Rattle.lf_format.specs.Lines.{IsRecordOf}
use Rattle.lf_json.specs.Reading.{ReadsArray, ReadsJson, StandForAll}
use Rattle.lf_json.proofs.ReadingLaws.{array_of-items, reads-array, IsRecordOf-StandForAll, if_bad}
use Rattle.lf_json.proofs.reading.read_record.Goals as goal

pub returns-clause-ok : goal.returns-clause-ok
returns-clause-ok c =
    let pieces = c.args.format.now.pieces in
    let jsons = map view c.as_slice.result.now in
    let array = array_of-items c.args.line.now (view c.in_ok-json.json) c.in-Some.items.now.items c.in_ok-json.ensures.ok c.in-Some.ensures ∙ ap (λ vs. Some (map view vs)) (sym c.as_slice.ensures.value) in
    IfOk-weaker c.read_array.result (StandForAll (slots_in pieces) jsons) (λ rec. ReadsJson pieces c.args.line.now (Ok rec))
    (λ rec h. reads-array pieces c.args.line.now jsons (Ok rec) array h) c.read_array.ensures.ok

pub returns-clause-held : goal.returns-clause-held
returns-clause-held c =
    let pieces = c.args.format.now.pieces in
    let jsons = map view c.as_slice.result.now in
    IfOk-weaker c.read_array.result (StandForAll (slots_in pieces) jsons) (IsRecordOf pieces) (IsRecordOf-StandForAll pieces jsons) c.read_array.ensures.ok

pub returns-clause-err : goal.returns-clause-err
returns-clause-err c =
    let pieces = c.args.format.now.pieces in
    let jsons = map view c.as_slice.result.now in
    let array = array_of-items c.args.line.now (view c.in_ok-json.json) c.in-Some.items.now.items c.in_ok-json.ensures.ok c.in-Some.ensures ∙ ap (λ vs. Some (map view vs)) (sym c.as_slice.ensures.value) in
    if_bad c.read_array.result (λ bad. ReadsArray (slots_in pieces) jsons (Err bad)) (λ bad. ReadsJson pieces c.args.line.now (Err bad))
    (λ bad h. reads-array pieces c.args.line.now jsons (Err bad) array h) c.read_array.ensures.err
