use Rattle.std.proofs.lemmas.Result.{IfOk-weaker}
use Rattle.lf_app.specs.Commands.{AsksToTranslate, IsTranslation}
use Rattle.lf_app.proofs.commands.read_translation.Goals as goal

pub returns : goal.returns
returns c =
    let line = c.args.line.now in
    let to = c.in-Some.target in
    let by = c.in-Some-map.text in
    IfOk-weaker c.read_sides.result (AsksToTranslate line.two line.source to by) (IsTranslation line) (λ command h. record { to = to; by = by; target = c.in-Some.is; map = c.in-Some-map.is; asks = h }) c.read_sides.ensures
