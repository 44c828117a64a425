use Rattle.lf_scan.proofs.TimeTexts.{reads-clock}
use Rattle.lf_scan.proofs.time_step.read_clock.Goals as goal

pub returns-clause-read : goal.returns-clause-read
returns-clause-read c =
    reads-clock c.args.domain c.in-Some.time c.args.text.now c.in-Some.left.now c.args.into.now c.write_json.new.into c.in-Some.ensures.0 c.in-Some.ensures.1 c.in_ok-write_json.ensures.ok
