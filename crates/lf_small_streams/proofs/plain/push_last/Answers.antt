use Rattle.std.proofs.Common.{rules, ◌≢◌, ℕ, List, []}
use Rattle.std.proofs.lemmas.Result.{on_ok_weaker}
use Rattle.lf_small_streams.proofs.PlainLines.{last_cut}
use Rattle.lf_small_streams.proofs.plain.push_last.Goals as goal

pub returns : goal.returns
returns c =
    let some : ◌≢◌ {A = List ℕ} c.args.line.now [] = search rules in
    on_ok_weaker c.push_line.result (last_cut c.args.notes c.args.line.now c.args.into.now.items c.push_line.new.into.items c.requires some) c.push_line.ensures
