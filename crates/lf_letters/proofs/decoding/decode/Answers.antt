use Rattle.lf_letters.proofs.WordByWord.{decodes-none, decodes-plain, decodes-more}
use Rattle.lf_letters.proofs.decoding.decode.Goals as goal

pub words-init : goal.words-init
words-init c = decodes-none c.args.by.now.class c.args.by.now.code c.args.text.now c.args.letters.now

pub words-preserved : goal.words-preserved
words-preserved c =
    let set = c.args.by.now.class in
    let code = c.args.by.now.code in
    let text = c.args.text.now in
    let rest = c.plain_front.result.1.now in
    let old = c.args.letters.now in
    let next = c.in-Some.ensures in
    let front = decodes-plain set code text c.words.left.now c.plain_front.result.0.now rest old c.words.letters c.extend.new.self c.words.invariant c.plain_front.ensures.plain c.plain_front.ensures.parts
    c.in_ok-extend.ensures.ok in
    decodes-more set code text rest c.in-Some.more.now old c.extend.new.self c.push.new.self c.in-Some.letter front next.0 next.1 c.in_ok-push.ensures.ok

pub returns-then-not-goes_on : goal.returns-then-not-goes_on
returns-then-not-goes_on c =
    decodes-plain c.args.by.now.class c.args.by.now.code c.args.text.now c.words.left.now c.plain_front.result.0.now c.plain_front.result.1.now c.args.letters.now c.words.letters c.extend.new.self
    c.words.invariant c.plain_front.ensures.plain c.plain_front.ensures.parts c.in_ok-extend.ensures.ok

pub returns-in_default : goal.returns-in_default
returns-in_default c =
    decodes-plain c.args.by.now.class c.args.by.now.code c.args.text.now c.words.left.now c.plain_front.result.0.now c.plain_front.result.1.now c.args.letters.now c.words.letters c.extend.new.self
    c.words.invariant c.plain_front.ensures.plain c.plain_front.ensures.parts c.in_ok-extend.ensures.ok
