use Rattle.std.proofs.Common.{length}
use Rattle.lf_app.proofs.showing.+show_slots.Given as goal

abbrev pub decreases-show_slots : goal.decreases-show_slots
decreases-show_slots l = length l.pieces.now
