use Rattle.std.proofs.Common.{◌-◌, ◌++◌, List, ℕ, length, refl, ap, ◌∙◌}
use Rattle.lf_layout.specs.Layouts.{layout_text}
use Rattle.lf_stamp.specs.Fields.{moment_of}
use Rattle.lf_stamp.proofs.KeptMoments.{front-is}
use Rattle.lf_stamp.proofs.recent.Recent.read_anew.Goals as goal

pub keep-requires-clause-text : goal.keep-requires-clause-text
keep-requires-clause-text c =
    let text = c.args.text.now in
    let left = c.in-Some.left.now in
    front-is text c.split_at.result.0.now left (layout_text c.args.layout (moment_of c.in-Some.stamp)) (length text - length left) refl c.split_at.ensures.front c.in-Some.ensures.text

pub returns-clause-read : goal.returns-clause-read
returns-clause-read c =
    let old = c.args.into.now in
    record {
      moment = moment_of c.in-Some.stamp;
      shown = c.in-Some.ensures.shown;
      written = c.in-Some.ensures.text;
      added = c.in_ok-extend.ensures.ok ∙ ap (λ (t : List ℕ). old ++ t) (c.json.ensures ∙ c.in_ok-keep.ensures);
    }
