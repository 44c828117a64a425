use Rattle.std.proofs.Common.{refl, ◌∙◌}
use Rattle.lf_spelling.specs.RunLaws.{run_taken}
use Rattle.nginx_front.specs.Variables.{is_word}
use Rattle.nginx_front.proofs.Names.{bare_gives}
use Rattle.nginx_front.proofs.variable.bare.Goals as goal

pub split_at-requires : goal.split_at-requires
split_at-requires c = (run_taken is_word c.args.text.now c.word_run.result c.word_run.ensures).2

pub returns : goal.returns
returns c =
    let cut = run_taken is_word c.args.text.now c.word_run.result c.word_run.ensures in
    bare_gives c.args.escape c.args.text.now c.split_at.result.0.now _ c.named.result (c.split_at.ensures.front ∙ cut.0) refl c.named.ensures
