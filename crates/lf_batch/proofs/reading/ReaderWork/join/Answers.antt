use Rattle.lf_batch.proofs.ZipLaws.{AllZip-append}
use Rattle.lf_batch.proofs.reading.ReaderWork.join.Goals as goal

pub returns : goal.returns
returns c text front back first second = rw c.in_ok-append.ensures.items (AllZip-append _ front back _ _ first second)
