-- moves joined by mark, where marks count, and target, and by where they lead
use Rattle.std.specs.Prelude.{◌≡◌, ℕ, ◌<◌, Bool, cond, List, [], slice_index_or, map, Vec}
use Rattle.std.specs.List.{Contains}
use Rattle.std.specs.declared.alloc.Global.{Global}
use Rattle.lf_core.specs.declared.marked.Move.{Move}
use Rattle.lf_product.specs.ByteSet.{HasByte}
use Rattle.lf_product.specs.declared.arrivals.Departure.{Departure}
use Rattle.lf_product.specs.declared.arrivals.Arrival.{Arrival}

-- the move, or where marks don't count the same with mark 0
abbrev pub seen : Bool → Move → Move
seen marked x = record { mark = cond marked x.mark 0; to = x.to }

-- some move of the list is seen as this one
abbrev pub IsSeen : Bool → List Move → Move → Type 0
IsSeen marked xs y = (x : Move) × Contains xs x × (seen marked x ≡ y)

-- the list has the move on the byte
pub record Departs (ds : List Departure) (x : Move) (b : ℕ) : Type 0 where
  pub by : Departure
  pub listed : Contains ds by
  pub mark_is : by.mark ≡ x.mark
  pub to_is : by.to ≡ x.to
  pub on : HasByte by.bytes b

-- each is of some byte
abbrev pub HaveBytes : List Departure → Type 0
HaveBytes ds = (d : Departure) → Contains ds d → (b : ℕ) × (b < 256) × HasByte d.bytes b

-- the lists by target
abbrev pub lists_of : List (Vec Arrival Global) → List (List Arrival)
lists_of vs = map (λ (v : Vec Arrival Global). v.items) vs

-- the lists by target have the move from a point on the byte
pub record Arrives (lists : List (List Arrival)) (from : ℕ) (x : Move) (b : ℕ) : Type 0 where
  pub by : Arrival
  pub listed : Contains (slice_index_or lists x.to []) by
  pub from_is : by.from ≡ from
  pub mark_is : by.mark ≡ x.mark
  pub on : HasByte by.bytes b
