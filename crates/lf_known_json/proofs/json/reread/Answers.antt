use Rattle.lf_json.proofs.Sorts.{record_json}
use Rattle.lf_known_json.proofs.json.reread.Goals as goal

pub write_record-requires : goal.write_record-requires
write_record-requires c = record_json c.args.format.now.pieces c.in-Ok.rec c.in-Ok.ensures.held
