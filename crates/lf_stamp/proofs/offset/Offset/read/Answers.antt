use Rattle.lf_stamp.proofs.FieldTexts.{offset-joined}
use Rattle.lf_stamp.proofs.offset.Offset.read.Goals as goal

pub returns : goal.returns
returns c =
    let keeps = c.is_valid.ensures c.if-not-is_valid.false in
    let joined = offset-joined c.args.colon c.in_ok-behind.behind c.args.text.now c.in_ok-behind.more.now c.in_ok-hour.more.now c.in_ok-more.more.now c.in_ok-minute.left.now
    c.in_ok-hour.hour c.in_ok-minute.minute keeps.minute keeps.some c.in_ok-behind.ensures c.in_ok-hour.ensures.1 c.in_ok-more.ensures c.in_ok-minute.ensures.1 in
    (keeps, joined)
