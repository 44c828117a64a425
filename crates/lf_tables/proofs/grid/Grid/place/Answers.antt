use Rattle.std.proofs.Common.{◌≡◌, ℕ, ◌+◌, ◌*◌, ◌<◌, ◌∙◌, List, length, get_or, arith, Vec, Global}
use Rattle.std.proofs.lemmas.List.{get_or_default}
use Rattle.lf_tables.proofs.NumberLaws.{lists_of, length_lists}
use Rattle.lf_tables.proofs.CellLaws.{length_cells, place_low}
use Rattle.lf_tables.proofs.grid.Grid.place.Goals as goal

pub overflow_mul-result : goal.overflow_mul-result
overflow_mul-result c =
    let of : List ℕ = c.args.self.now.class_of.items in
    let nexts : List ℕ = c.args.self.now.nexts.items in
    let lists : List (Vec ℕ Global) = c.args.self.now.sets.value.items in
    let low_byte : c.args.byte < 256 = omega (arith, c.ranges.byte.fits) in
    let within : c.args.byte < length of = omega (arith, low_byte, c.args.self.now.tabled.bytes) in
    let class : c.index.result.now ≡ get_or of c.args.byte 0 = c.index.ensures ∙ get_or_default of c.args.byte c.index.result.now 0 within in
    let below : c.index.result.now < c.args.self.now.classes = omega (arith, class, c.args.self.now.tabled.classed c.args.byte low_byte) in
    let set : c.args.set < length (lists_of lists) = omega (arith, c.requires, length_lists lists) in
    let low = place_low c.args.set c.index.result.now (length (lists_of lists)) c.args.self.now.classes set below in
    let many = length_cells nexts c.args.self.now.starts.items c.args.self.now.even in
    let here : c.args.set * c.args.self.now.classes + c.index.result.now < length nexts = omega (arith, low, many, c.args.self.now.tabled.full) in
    omega (arith, here, c.args.self.now.nexts.ok)

pub overflow_add-result : goal.overflow_add-result
overflow_add-result c =
    let of : List ℕ = c.args.self.now.class_of.items in
    let nexts : List ℕ = c.args.self.now.nexts.items in
    let lists : List (Vec ℕ Global) = c.args.self.now.sets.value.items in
    let low_byte : c.args.byte < 256 = omega (arith, c.ranges.byte.fits) in
    let within : c.args.byte < length of = omega (arith, low_byte, c.args.self.now.tabled.bytes) in
    let class : c.index.result.now ≡ get_or of c.args.byte 0 = c.index.ensures ∙ get_or_default of c.args.byte c.index.result.now 0 within in
    let below : c.index.result.now < c.args.self.now.classes = omega (arith, class, c.args.self.now.tabled.classed c.args.byte low_byte) in
    let set : c.args.set < length (lists_of lists) = omega (arith, c.requires, length_lists lists) in
    let low = place_low c.args.set c.index.result.now (length (lists_of lists)) c.args.self.now.classes set below in
    let many = length_cells nexts c.args.self.now.starts.items c.args.self.now.even in
    let here : c.args.set * c.args.self.now.classes + c.index.result.now < length nexts = omega (arith, low, many, c.args.self.now.tabled.full) in
    omega (arith, here, c.args.self.now.nexts.ok)

pub returns-clause-low : goal.returns-clause-low
returns-clause-low c =
    let of : List ℕ = c.args.self.now.class_of.items in
    let nexts : List ℕ = c.args.self.now.nexts.items in
    let lists : List (Vec ℕ Global) = c.args.self.now.sets.value.items in
    let low_byte : c.args.byte < 256 = omega (arith, c.ranges.byte.fits) in
    let within : c.args.byte < length of = omega (arith, low_byte, c.args.self.now.tabled.bytes) in
    let class : c.index.result.now ≡ get_or of c.args.byte 0 = c.index.ensures ∙ get_or_default of c.args.byte c.index.result.now 0 within in
    let below : c.index.result.now < c.args.self.now.classes = omega (arith, class, c.args.self.now.tabled.classed c.args.byte low_byte) in
    let set : c.args.set < length (lists_of lists) = omega (arith, c.requires, length_lists lists) in
    let low = place_low c.args.set c.index.result.now (length (lists_of lists)) c.args.self.now.classes set below in
    let many = length_cells nexts c.args.self.now.starts.items c.args.self.now.even in
    let here : c.args.set * c.args.self.now.classes + c.index.result.now < length nexts = omega (arith, low, many, c.args.self.now.tabled.full) in
    here
