-- What is built of a format keeps what it should.
use Rattle.std.proofs.Common.{◌≡◌, ℕ, ◌+◌, ◌<◌, ◌≤◌, ◌^◌, ◌*◌, List, [], ◌∷◌, length, Bool, true, false, sym, ap, subst, arith}
use Rattle.lf_format.specs.Keeps.{KeepsPiece, EachKept, KeepsFormat}
use Rattle.lf_format.specs.Size.{size_of}
use Rattle.lf_format.specs.declared.slot.Slot.{Slot as ASlot}
use Rattle.lf_format.specs.declared.format.Piece.{Piece}
use Rattle.lf_format.specs.declared.format.Piece.TheVariants.{Literal, Slot}
use Rattle.lf_machine.specs.Built.{IsBuilt}
use Rattle.lf_machine.specs.LineBytes.{LiteralsAreBytes}
use Rattle.lf_machine.specs.LineMachine.{line_points, line_marks}
use Rattle.lf_machine.specs.PieceNumbers.{slot_count, piece_count}
use Rattle.lf_machine.specs.Spots.{spots_from}
use Rattle.lf_machine.specs.declared.spots.Spot.{Spot}
use Rattle.lf_machine.proofs.SizeLaws.{points-small}
use Rattle.lf_limits.specs.Limits.{most_size}
use Rattle.lf_machine.specs.Sums.{most_sum}

-- each part has as many marks as another
pub marks-even : (ps : List Piece) → line_marks ps ≡ 259 * length ps
marks-even [] = omega arith
marks-even (p ∷ ps) = let r = marks-even ps in omega (arith, r)

slot-some : (q : Bool) (s : ASlot) → 1 ≤ slot_count q s
slot-some false s = omega arith
slot-some true s = omega arith

piece-some : (p : Piece) → KeepsPiece p → 1 ≤ piece_count p
piece-some (Literal text) k = k.0
piece-some (Slot s) k = slot-some s.quoted s

-- there are at least as many points as pieces
pieces-few : (ps : List Piece) → EachKept ps → length ps ≤ line_points ps
pieces-few [] k = omega arith
pieces-few (p ∷ ps) k = let a = piece-some p k.0 in let b = pieces-few ps k.1 in omega (arith, a, b)

pub few-parts : (ps format : List Piece) → ps ≡ format → KeepsFormat format → line_points format < most_size → 0 + length ps ≤ most_sum
few-parts ps format e k l =
    let n = pieces-few format k.each in
    let m : length ps ≡ length format = ap length e in
    omega (arith, n, m, l)

pub built : (ps format : List Piece) (spots : List Spot) (count : ℕ) → ps ≡ format → KeepsFormat format → LiteralsAreBytes format →
    line_points format < most_size → spots ≡ spots_from 0 1 ps → count ≡ line_points ps → IsBuilt ps spots (count + 1)
built ps format spots count h k b l s e =
    let kept = subst (λ (x : List Piece). EachKept x) (sym h) k.each in
    let few = subst (λ (x : List Piece). line_points x < most_size) (sym h) l in
    let short = pieces-few ps kept in
    record {
      counted = ap (λ (n : ℕ). n + 1) e;
      few = few;
      short = omega (arith, short, few);
      kept = kept;
      bytes = subst (λ (x : List Piece). LiteralsAreBytes x) (sym h) b;
      spotted = s;
    }

pub size-points : (format : List Piece) → size_of format ≤ most_size → line_points format < most_size
size-points format h = let a = points-small format in omega (arith, a, h)
