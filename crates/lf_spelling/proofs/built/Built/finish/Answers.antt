use Rattle.lf_spelling.proofs.Joining.{built_whole}
use Rattle.lf_spelling.proofs.built.Built.finish.Goals as goal

pub returns : goal.returns
returns c = λ gs h. built_whole gs c.args.self c.close.new.self h c.in_ok-close.ensures
