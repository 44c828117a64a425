use Rattle.std.proofs.Common.{ℕ, ◌&&◌}
use Rattle.lf_core.specs.Class.{is_member}
use Rattle.lf_narrow.proofs.ClassBits.{class_told}
use Rattle.lf_narrow.proofs.rules.kept.Goals as goal

pub returns : goal.returns
returns c = class_told c.both.result (λ (b : ℕ). is_member c.args.class b && is_member c.args.allowed b) c.both.ensures c.both.type_inv.1.1.0.1 c.both.type_inv.1.1.1.0.1
