use denote.Param.Send.{sendable}
use Rattle.std.proofs.Crossing.{crosses}
use Rattle.lf_batch.proofs.ReaderSharing.{format_seen, finder_seen}
use Rattle.lf_batch.proofs.reading.read_batch.Goals as goal

pub share-requires-sync-W : goal.share-requires-sync-W
share-requires-sync-W g c κs within = search (sendable, crosses, format_seen, finder_seen) depth 20
