-- The places of each layout follow one another.
use Rattle.std.proofs.Common.{Bool, true, false, refl, arith}
use Rattle.lf_layout.specs.Places.{IsPlaced, layout_places}
use Rattle.lf_time.specs.TimeLayouts.{clf_layout, iso_offset_layout, iso_millis_layout, ha_layout, json_layout}

pub clf_placed : (bracketed : Bool) → IsPlaced (layout_places (clf_layout bracketed))
clf_placed true = record { bytes = refl; chained = refl; few = omega arith }
clf_placed false = record { bytes = refl; chained = refl; few = omega arith }

pub iso_offset_placed : IsPlaced (layout_places iso_offset_layout)
iso_offset_placed = record { bytes = refl; chained = refl; few = omega arith }

pub iso_millis_placed : IsPlaced (layout_places iso_millis_layout)
iso_millis_placed = record { bytes = refl; chained = refl; few = omega arith }

pub ha_placed : IsPlaced (layout_places ha_layout)
ha_placed = record { bytes = refl; chained = refl; few = omega arith }

pub json_placed : IsPlaced (layout_places json_layout)
json_placed = record { bytes = refl; chained = refl; few = omega arith }
