use Rattle.std.proofs.Common.{◌∙◌, sym, ap}
use Rattle.lf_code_table.specs.Endings.{last_of}
use Rattle.lf_code_table.proofs.EndingLaws.{endings-same, endings-more, pushed}
use Rattle.lf_code_table.proofs.endings.add_letter.Goals as goal

pub returns-then-not-takes : goal.returns-then-not-takes
returns-then-not-takes g c =
    endings-same (g.C.Code.can_take c.args.code.now) (g.C.Code.word c.args.code.now) c.args.endings.now.items c.args.letter c.requires
    (sym c.takes.ensures ∙ c.if-not-takes.true)

pub returns : goal.returns
returns g c =
    endings-more (g.C.Code.can_take c.args.code.now) (g.C.Code.word c.args.code.now) c.args.endings.now.items c.args.letter c.last_byte-at.result c.push.new.self c.requires
    (sym c.takes.ensures ∙ c.if-not-takes.false) (sym (c.last_byte-at.ensures ∙ ap last_of (c.as_slice.ensures.bytes ∙ c.word_of.ensures)))
    c.last_byte-at.type_inv
    (pushed c.args.endings.now.items c.last_byte-at.result c.args.letter c.index_mut.result.now c.push.new.self c.requires.many c.last_byte-at.type_inv c.index_mut.ensures.value c.in_ok-push.ensures.ok)
