use Rattle.lf_json.proofs.Sorts.{record_json}
use Rattle.lf_known_scans.proofs.beside.exact.Goals as goal

pub write_record-requires : goal.write_record-requires
write_record-requires c =
    let only = rw c.in-Some.is at c.in_ok-record.ensures in
    record_json c.args.reader.now.pieces c.in-Some.record only.prints.held
