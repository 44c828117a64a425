use Rattle.std.proofs.Common.{[], ◌∷◌}
use Rattle.lf_layout.specs.Texts.{two, four, month_name}
use Rattle.lf_layout.proofs.Puts.{five_pieces}
use Rattle.lf_layout.proofs.text.put_named_date.Goals as goal

pub returns-clause-items : goal.returns-clause-items
returns-clause-items c =
    let date = c.args.date in
    five_pieces c.args.text.now.items _ _ _ _ c.put_four.new.text.items (two date.day) (47 ∷ []) (month_name date.month) (47 ∷ []) (four date.year)
    c.put_two.ensures.items c.push.ensures.items c.put_month_name.ensures.items c.push-2.ensures.items c.put_four.ensures.items
