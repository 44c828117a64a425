use Rattle.lf_spelling.proofs.KeepsLaws.{keeps_format}
use Rattle.lf_spelling.proofs.item_reader.read_whole.Goals as goal

pub new-requires : goal.new-requires
new-requires g c =
    let f = g.F.ItemReader in
    keeps_format f.reading f.item_is f.fault_is g.met.F.ItemReader.laws c.args.front c.args.text.now c.in-Ok.pieces.items c.requires.short c.in-Ok.ensures
