use Rattle.std.proofs.Common.{◌≡◌, ◌≤◌, arith, length, drop, take, ap}
use Rattle.lf_io.specs.SureText.{SureText}
use Rattle.lf_io.proofs.Parts.{moved}
use Rattle.lf_io.proofs.sure.SureSourceSource.pull.Goals as goal

pub returns-clause-bytes : goal.returns-clause-bytes
returns-clause-bytes c =
    let n = c.min-count.result in
    let s = c.self.inside in
    let rest : c.split_at.result.1.now ≡ drop s.at s.text = rw c.as_slice.ensures at c.split_at.ensures.back in
    let is : c.copy_from_slice.new.self ≡ take n (drop s.at s.text) = rw rest at c.copy_from_slice.ensures.after in
    let fits : n ≤ length (drop s.at s.text) = omega (arith, ap length rest) in
    let left : drop s.at s.text ≡ c.args.self.now.left = ap (λ (t : SureText). t.left) c.self.view_is in
    let m = moved s.text c.args.into.now c.copy_from_slice.new.self s.at n is fits in
    (omega arith, m.0, rw left at m.1)
