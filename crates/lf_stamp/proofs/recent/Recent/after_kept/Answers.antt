use Rattle.std.proofs.Common.{◌++◌, List, ℕ, ap, sym, ◌∙◌}
use Rattle.lf_stamp.proofs.KeptMoments.{reads-kept, same-layout}
use Rattle.lf_stamp.proofs.recent.Recent.after_kept.Goals as goal

pub returns : goal.returns
returns c = λ (old new : List ℕ) added.
    let kept = c.self.invariant c.in-Some._stamp c.in-Some.is in
    let same = same-layout c.self.inside.layout c.args.layout c.if-ne.ensures in
    let parts = c.in_ok-left.ensures ∙ ap (λ (t : List ℕ). t ++ c.in_ok-left.left.now) c.as_slice.ensures in
    reads-kept c.self.inside.layout c.args.layout c.in-Some._stamp c.self.inside.text c.self.inside.json c.args.text.now c.in_ok-left.left.now old new kept same parts
    (added ∙ ap (λ (t : List ℕ). old ++ t) (sym c.self.view_is))
