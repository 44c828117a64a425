-- The points of a format's machine are at most its size.
use Rattle.std.proofs.Common.{◌≡◌, ℕ, ◌+◌, ◌*◌, ◌≤◌, List, [], ◌∷◌, length, Bool, true, false, ap, arith}
use Rattle.std.proofs.Math.Nat.{mul-le-mul_right}
use Rattle.lf_core.specs.Domain.{IsDomain}
use Rattle.lf_format.specs.Kinds.{HoldsKind, plain_text, kind_machine, kind_size, kind_laws}
use Rattle.lf_format.specs.declared.slot.Slot.{Slot as ASlot}
use Rattle.lf_format.specs.declared.format.Piece.{Piece}
use Rattle.lf_format.specs.declared.format.Piece.TheVariants.{Literal, Slot}
use Rattle.lf_machine.specs.PieceNumbers.{slot_count, piece_count}
use Rattle.lf_code_table.specs.Table.{table_of}
use Rattle.lf_machine.specs.LineMachine.{line_points}
use Rattle.lf_escape.specs.Codings.{prefixes_of}
use Rattle.lf_format.specs.Size.{piece_size, pieces_size, size_of}
use Rattle.lf_code_table.proofs.TableSizes.{prefix-count}

slot-small : (q : Bool) (s : ASlot) → slot_count q s ≤ (kind_machine s.kind).count * length (table_of s.code) + 3
slot-small false s = omega arith
slot-small true s = omega arith

piece-small : (p : Piece) → piece_count p ≤ piece_size p
piece-small (Literal bytes) = omega arith
piece-small (Slot s) =
    let k : IsDomain (HoldsKind s.kind) (plain_text s.kind) (kind_machine s.kind) (kind_size s.kind) = kind_laws s.kind in
    let a = slot-small s.quoted s in
    let b : (kind_machine s.kind).count * prefixes_of s.code ≤ kind_size s.kind * prefixes_of s.code = mul-le-mul_right (prefixes_of s.code) k.small in
    let c : (kind_machine s.kind).count * length (table_of s.code) ≡ (kind_machine s.kind).count * prefixes_of s.code = ap (λ (n : ℕ). (kind_machine s.kind).count * n) (prefix-count s.code) in
    omega (arith, a, b, c)

pieces-small : (ps : List Piece) → line_points ps ≤ pieces_size ps
pieces-small [] = omega arith
pieces-small (p ∷ ps) = let a = piece-small p in let b = pieces-small ps in omega (arith, a, b)

-- the points of a format's machine are at most its size
pub points-small : (ps : List Piece) → line_points ps + 1 ≤ size_of ps
points-small ps = let a = pieces-small ps in omega (arith, a)
