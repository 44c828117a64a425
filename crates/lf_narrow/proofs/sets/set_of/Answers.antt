use Rattle.std.proofs.Common.{◌≡◌, ℕ, ◌+◌, ◌||◌, List, [], length, drop, refl, sym, ap, ◌∙◌, arith}
use Rattle.std.proofs.Math.Seq.{drop-length}
use Rattle.lf_core.specs.Class.{is_member}
use Rattle.lf_narrow.specs.Terms.{is_listed}
use Rattle.lf_narrow.proofs.Cutting.{drop-next}
use Rattle.lf_narrow.proofs.Ranges.{none_between, or_false}
use Rattle.lf_narrow.proofs.sets.set_of.Goals as goal

pub loop-byte-init : goal.loop-byte-init
loop-byte-init c = λ x h. rw (c.of.ensures x h, none_between x) refl

pub loop-byte-preserved : goal.loop-byte-preserved
loop-byte-preserved c = λ x h.
    let r = c.loop-byte.reading in
    c.after-reading.ensures x (drop (c.loop-byte.byte-index + 1) c.args.text.now) h
    ∙ ap (λ (w : List ℕ). is_member r.set x || is_listed x r.stage r.first r.last w) (sym (drop-next c.args.text.now c.loop-byte.byte-index (omega arith)))
    ∙ c.loop-byte.invariant x h

pub returns : goal.returns
returns c = λ x h.
    let r = c.loop-byte.reading in
    let e : c.loop-byte.byte-index ≡ length c.args.text.now = omega arith in
    let done : drop c.loop-byte.byte-index c.args.text.now ≡ [] = ap (λ (n : ℕ). drop n c.args.text.now) e ∙ drop-length c.args.text.now in
    sym (or_false (is_member r.set x))
    ∙ ap (λ (w : List ℕ). is_member r.set x || is_listed x r.stage r.first r.last w) (sym done)
    ∙ c.loop-byte.invariant x h
