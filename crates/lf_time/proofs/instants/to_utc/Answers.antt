use Rattle.std.proofs.Common.{refl, rules, to_z, of_z}
use Rattle.std.specs.Prelude.{FitsSigned}
use Rattle.std.specs.Int.{w64}
use Rattle.lf_layout.specs.Layouts.{IsMoment}
use Rattle.lf_time.proofs.Utc.{record_of, utc-day, utc-moment, utc-cast, not-moment}
use Rattle.lf_time.proofs.instants.to_utc.Goals as goal

pub returns-then-is_moment : goal.returns-then-is_moment
returns-then-is_moment c =
    let fits : FitsSigned w64 c.epoch.result = search rules in
    let same = utc-cast c.args.moment c.epoch.result fits c.epoch.ensures in
    (utc-day c.args.moment (record_of (to_z w64 (of_z w64 c.epoch.result)) c.args.moment.millis) same (c.if-is_moment.ensures.0 refl), same)

pub returns-else-is_moment : goal.returns-else-is_moment
returns-else-is_moment c =
    let fits : FitsSigned w64 c.epoch.result = search rules in
    let utc = record_of (to_z w64 (of_z w64 c.epoch.result)) c.args.moment.millis in
    let same = utc-cast c.args.moment c.epoch.result fits c.epoch.ensures in
    λ day. not-moment (IsMoment utc) c.if-is_moment.ensures.1 (utc-moment c.args.moment utc c.requires same day)
