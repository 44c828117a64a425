use Rattle.std.proofs.Common.{◌≡◌, ℕ, ◌+◌, ◌∙◌, true, ap, arith}
use Rattle.lf_core.specs.Marked.{Machine}
use Rattle.lf_core.specs.Written.{points_of}
use Rattle.lf_product.specs.declared.pair.Pair.{Pair}
use Rattle.lf_product.proofs.SameMachine.{points_are}
use Rattle.lf_meet.specs.Both.{both}
use Rattle.lf_meet.proofs.SideBySide.{starts, meeting_is}
use Rattle.lf_meet.proofs.meeting.meet.Goals as goal

pub shared_word-requires-clause-right : goal.shared_word-requires-clause-right
shared_word-requires-clause-right g c =
    let m : Machine = g.M.Marked.machine c.args.m.now in
    let n : Machine = g.N.Marked.machine c.args.n.now in
    let count : points_of c.in_ok-pairs.pairs ≡ m.count + n.count = points_are (both m n) c.in_ok-pairs.pairs c.in_ok-pairs.ensures in
    let low = (g.met.N.Marked.laws c.args.n.now).begins in
    omega (arith, count, low, c.points.ensures, c.start-2.ensures)

pub returns : goal.returns
returns g c =
    let m : Machine = g.M.Marked.machine c.args.m.now in
    let n : Machine = g.N.Marked.machine c.args.n.now in
    let p : Pair = record { left = c.start.result; right = c.points.result + c.start-2.result; differed = true } in
    let right : c.points.result + c.start-2.result ≡ m.count + n.first = omega (arith, c.points.ensures, c.start-2.ensures) in
    let is : p ≡ starts m n =
    ap (λ (v : ℕ). record { left = v; right = c.points.result + c.start-2.result; differed = true }) c.start.ensures
    ∙ ap (λ (v : ℕ). record { left = m.first; right = v; differed = true }) right in
    meeting_is m n c.in_ok-pairs.pairs p c.shared_word.result (g.met.M.Marked.laws c.args.m.now) (g.met.N.Marked.laws c.args.n.now) c.in_ok-pairs.ensures is c.shared_word.ensures
