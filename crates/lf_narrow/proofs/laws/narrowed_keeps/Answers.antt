use Rattle.lf_syntax.specs.Cuts.{cuts}
use Rattle.lf_narrow.proofs.StillKept.{still_kept}
use Rattle.lf_narrow.proofs.laws.narrowed_keeps.Goals as goal

pub returns : goal.returns
returns c = λ format narrowed text kept narrows. still_kept text (cuts 59 text) format.pieces narrowed.pieces kept narrows.pieces
