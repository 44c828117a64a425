-- Nodes of points that moves led to, level by level.
use Rattle.std.specs.Prelude.{◌≡◌, ℕ, zero, suc, ◌<◌, ◌≤◌, List, length, take, slice_index, slice_index_or, Contains}
use Rattle.lf_core.specs.declared.marked.Move.{Move}
use Rattle.lf_core.specs.Marked.{Machine}
use Rattle.lf_sets.specs.declared.forest.Node.{Node}
use Rattle.lf_sets.specs.Reached.{IsLedTo}

-- a node that stands for none
abbrev pub no_node : Node
no_node = record { point = 0; mark = 0; before = 0 }

abbrev pub node_at : List Node → ℕ → Node
node_at nodes place = slice_index_or nodes place no_node

abbrev pub point_at : List Node → ℕ → ℕ
point_at nodes place = (node_at nodes place).point

abbrev pub before_at : List Node → ℕ → ℕ
before_at nodes place = (node_at nodes place).before

-- the move that led to the node
abbrev pub move_of : Node → Move
move_of node = record { mark = node.mark; to = node.point }

abbrev pub move_at : List Node → ℕ → Move
move_at nodes place = move_of (node_at nodes place)

-- the level that begins at the place, and is the last, has the point
abbrev pub HasPoint : List Node → ℕ → ℕ → Type 0
HasPoint nodes level point = (place : ℕ) × (level ≤ place) × (place < length nodes) × (point_at nodes place ≡ point)

-- each node of the level stands where the number of its point tells: so the level has no point twice
abbrev pub IsNumbered : ℕ → List Node → List ℕ → Type 0
IsNumbered level nodes places =
    (place : ℕ) → level ≤ place → place < length nodes → slice_index places (point_at nodes place) ≡ place

-- the nodes are just those of the points
pub record IsPlanted (points : List ℕ) (nodes : List Node) : Type 0 where
  pub each : length nodes ≡ length points
  pub same : (k : ℕ) → k < length points → point_at nodes k ≡ slice_index_or points k 0

-- the old nodes stand where they stood
pub record Keeps (old new : List Node) : Type 0 where
  pub longer : length old ≤ length new
  pub same : (place : ℕ) → place < length old → node_at new place ≡ node_at old place

-- the level has the node's point, and no other node is new
pub record Gains (level : ℕ) (node : Node) (old new : List Node) : Type 0 where
  pub keeps : Keeps old new
  pub only : (place : ℕ) → length old ≤ place → place < length new → node_at new place ≡ node
  pub has : HasPoint new level node.point

-- the level has all points to which the moves lead, and each new node is of one of them, from the node at the place
pub record GainsMoves (level at : ℕ) (moves : List Move) (old new : List Node) : Type 0 where
  pub keeps : Keeps old new
  pub from : (place : ℕ) → length old ≤ place → place < length new → before_at new place ≡ at
  pub by : (place : ℕ) → length old ≤ place → place < length new → Contains moves (move_at new place)
  pub all : (x : Move) → Contains moves x → HasPoint new level x.to

-- a move on the byte led to the node from one that stands from the first place on, and before the end
pub record IsLed (machine : Machine) (byte first end : ℕ) (nodes : List Node) (place : ℕ) : Type 0 where
  pub after : first ≤ before_at nodes place
  pub before : before_at nodes place < end
  pub by : Contains (machine.moves (point_at nodes (before_at nodes place)) byte) (move_at nodes place)

-- the level has all points to which the byte leads from those nodes, and each new node is of one of them
pub record GainsStep (machine : Machine) (byte level first end : ℕ) (old new : List Node) : Type 0 where
  pub keeps : Keeps old new
  pub led : (place : ℕ) → length old ≤ place → place < length new → IsLed machine byte first end new place
  pub all : (place : ℕ) (x : Move) → first ≤ place → place < end → Contains (machine.moves (point_at old place) byte) x →
      HasPoint new level x.to

-- the way back from the place goes over the first `left` of the bytes, to one of the points that were planted
abbrev pub IsTrail : Machine → List ℕ → List ℕ → List Node → ℕ → ℕ → Type 0
IsTrail machine points bytes nodes zero place =
    (place < length nodes) × (place < length points) × (point_at nodes place ≡ slice_index_or points place 0)
IsTrail machine points bytes nodes (suc left) place =
    (place < length nodes) × Contains (machine.moves (point_at nodes (before_at nodes place)) (slice_index_or bytes left 0)) (move_at nodes place)
    × IsTrail machine points bytes nodes left (before_at nodes place)

-- the level is of just the points to which the first `done` bytes lead from those that were planted
pub record IsTraced (machine : Machine) (points bytes : List ℕ) (done : ℕ) (nodes : List Node) (level : ℕ) : Type 0 where
  pub within : level ≤ length nodes
  pub trails : (place : ℕ) → level ≤ place → place < length nodes → IsTrail machine points bytes nodes done place
  pub all : (p : ℕ) → IsLedTo machine points (take done bytes) p → HasPoint nodes level p
