use Rattle.lf_stamp.proofs.FieldTexts.{named-joined}
use Rattle.lf_stamp.proofs.date.Date.read_named.Goals as goal

pub returns : goal.returns
returns c =
    let keeps = c.is_valid.ensures c.if-not-is_valid.false in
    let joined = named-joined c.args.text.now c.in_ok-day.more.now c.in_ok-more.more.now c.in_ok-month.more.now c.in_ok-more-2.more.now c.in_ok-century.more.now c.in_ok-year.left.now
    c.in_ok-day.day c.in_ok-month.month c.in_ok-century.century c.in_ok-year.year keeps.year
    c.in_ok-day.ensures.1 c.in_ok-more.ensures c.in_ok-month.ensures c.in_ok-more-2.ensures c.in_ok-century.ensures.1 c.in_ok-year.ensures.1 in
    (keeps, joined)
