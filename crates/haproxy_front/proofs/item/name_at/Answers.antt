use Rattle.std.proofs.Common.{subst, sym, ◌∙◌}
use Rattle.std.specs.Str.{IsUtf8}
use Rattle.lf_spelling.specs.RunLaws.{run_taken, run_all}
use Rattle.haproxy_front.specs.Names.{is_alphanumeric}
use Rattle.haproxy_front.specs.NameLaws.{name_text}
use Rattle.lf_spelling.specs.Runs.{run}
use Rattle.haproxy_front.proofs.item.name_at.Goals as goal

pub split_at-requires : goal.split_at-requires
split_at-requires c = (run_taken is_alphanumeric c.args.text.now c.name_run.result c.name_run.ensures).2

pub unreachable-requires : goal.unreachable-requires
unreachable-requires c =
    let cut = run_taken is_alphanumeric c.args.text.now c.name_run.result c.name_run.ensures in
    c.in_default.ensures.cases.0 (subst IsUtf8 (sym (c.split_at.ensures.front ∙ cut.0)) (name_text (run is_alphanumeric c.args.text.now) (run_all is_alphanumeric c.args.text.now)))

pub returns : goal.returns
returns c = c.in-Ok.ensures.cases.0 ∙ c.split_at.ensures.front ∙ (run_taken is_alphanumeric c.args.text.now c.name_run.result c.name_run.ensures).0
