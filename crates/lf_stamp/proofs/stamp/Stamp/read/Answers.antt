use Rattle.std.proofs.Common.{◌++◌, List, ℕ, ap, ◌∙◌}
use Rattle.lf_layout.specs.Layouts.{date_text, millis_text, zone_text}
use Rattle.lf_layout.specs.Texts.{clock_text, letter_if}
use Rattle.lf_stamp.specs.Fields.{KeepsStamp, date_of, minutes_of, second_of}
use Rattle.lf_stamp.specs.declared.stamp.Stamp.{Stamp}
use Rattle.lf_stamp.proofs.FieldTexts.{moment-shown, moment-text, parts-joined}
use Rattle.lf_stamp.proofs.stamp.Stamp.read.Goals as goal

pub returns-clause-shown : goal.returns-clause-shown
returns-clause-shown c =
    let s : Stamp = record { date = c.in_ok-date.date; time = c.in_ok-time.time; millis = c.in_ok-millis.millis; offset = c.in_ok-offset.offset } in
    let keeps : KeepsStamp s = record { date = c.in_ok-date.ensures.0; time = c.in_ok-time.ensures.0; millis = c.in_ok-millis.ensures.range; offset = c.in_ok-offset.ensures.kept } in
    moment-shown c.args.layout s keeps c.in_ok-millis.ensures.shown c.in_ok-offset.ensures.shown

pub returns-clause-text : goal.returns-clause-text
returns-clause-text c =
    let layout = c.args.layout in
    let left = c.in_ok-left.left.now in
    let s : Stamp = record { date = c.in_ok-date.date; time = c.in_ok-time.time; millis = c.in_ok-millis.millis; offset = c.in_ok-offset.offset } in
    let keeps : KeepsStamp s = record { date = c.in_ok-date.ensures.0; time = c.in_ok-time.ensures.0; millis = c.in_ok-millis.ensures.range; offset = c.in_ok-offset.ensures.kept } in
    let joined = parts-joined c.args.layout.between c.args.text.now (letter_if c.args.layout.bracketed 91) (date_text c.args.layout.date (date_of c.in_ok-date.date)) (clock_text (second_of c.in_ok-time.time))
    (millis_text c.args.layout.millis c.in_ok-millis.millis) (zone_text c.args.layout.zone (minutes_of c.in_ok-offset.offset)) (letter_if c.args.layout.bracketed 93) c.in_ok-left.left.now
    c.in_ok-more.more.now c.in_ok-date.more.now c.in_ok-more-2.more.now c.in_ok-time.more.now c.in_ok-millis.more.now c.in_ok-offset.more.now
    c.in_ok-more.ensures c.in_ok-date.ensures.1 c.in_ok-more-2.ensures c.in_ok-time.ensures.1 c.in_ok-millis.ensures.text c.in_ok-offset.ensures.text c.in_ok-left.ensures in
    joined ∙ ap (λ (t : List ℕ). t ++ left) (moment-text layout s keeps)
