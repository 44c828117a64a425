use Rattle.std.proofs.Common.{◌≡◌, ◌≤◌, ◌++◌, ◌∙◌, ℕ, List, length, true, sym, ap, subst}
use Rattle.std.proofs.lemmas.List.Elements.{All-head, All-tail}
use Rattle.std.proofs.lemmas.List.Sums.{prefix_len-le-length}
use Rattle.std.specs.Prelude.{All}
use Rattle.lf_escape.specs.Codes.{coded, is_bare}
use Rattle.lf_escape.specs.Codings.{coding_takes, coding_word}
use Rattle.lf_format.proofs.Adding.{on-err}
use Rattle.lf_format.proofs.BareRuns.{up_to-bare, up_to-letter, up_to-end, up_to-front, more-taken}
use Rattle.lf_format.proofs.writing.write_words.Goals as goal

pub split_at-requires : goal.split_at-requires
split_at-requires c =
    subst (λ (n : ℕ). n ≤ length c.runs.rest.now) (sym c.bare_len.ensures) (prefix_len-le-length (is_bare (coding_word c.args.code)) c.runs.rest.now)

pub returns-in_default-clause-ok : goal.returns-in_default-clause-ok
returns-in_default-clause-ok c =
    let word = coding_word c.args.code in
    let all = coded word c.args.letters.now in
    let left = up_to-bare word c.runs.rest.now c.split_at.result.0.now c.split_at.result.1.now c.bare_len.result c.bare_len.ensures c.split_at.ensures.front c.split_at.ensures.back
    c.args.into.now c.runs.into c.extend.new.self all c.runs.invariant.0 c.in_ok-extend.ensures.ok in
    up_to-end word c.args.into.now c.extend.new.self all c.split_at.result.1.now c.in_default.ensures.cases left

pub word_of-requires : goal.word_of-requires
word_of-requires c =
    let P : ℕ → Type 0 = λ letter. coding_takes c.args.code letter ≡ true in
    let taken = more-taken (coding_word c.args.code) c.runs.rest.now c.split_at.result.0.now c.split_at.result.1.now c.bare_len.result c.bare_len.ensures c.split_at.ensures.front c.split_at.ensures.back
    P c.runs.invariant.1 in
    All-head P c.in-Some.letter.now c.in-Some.after.now (subst (λ (x : List ℕ). All P x) c.in-Some.ensures.cases.0 taken)

pub returns-in_err-extend-2-clause-err : goal.returns-in_err-extend-2-clause-err
returns-in_err-extend-2-clause-err c =
    let word = coding_word c.args.code in
    let all = coded word c.args.letters.now in
    let left = up_to-bare word c.runs.rest.now c.split_at.result.0.now c.split_at.result.1.now c.bare_len.result c.bare_len.ensures c.split_at.ensures.front c.split_at.ensures.back
    c.args.into.now c.runs.into c.extend.new.self all c.runs.invariant.0 c.in_ok-extend.ensures.ok in
    on-err c.from_residual-in_err-extend-2.result
    (up_to-front c.args.into.now c.extend.new.self c.extend-in-runs.new.self all (coded word c.split_at.result.1.now) c.in_err-extend-2.ensures.err left)

pub runs-preserved : goal.runs-preserved
runs-preserved c =
    let word = coding_word c.args.code in
    let all = coded word c.args.letters.now in
    let P : ℕ → Type 0 = λ letter. coding_takes c.args.code letter ≡ true in
    let left = up_to-bare word c.runs.rest.now c.split_at.result.0.now c.split_at.result.1.now c.bare_len.result c.bare_len.ensures c.split_at.ensures.front c.split_at.ensures.back
    c.args.into.now c.runs.into c.extend.new.self all c.runs.invariant.0 c.in_ok-extend.ensures.ok in
    let taken = more-taken word c.runs.rest.now c.split_at.result.0.now c.split_at.result.1.now c.bare_len.result c.bare_len.ensures c.split_at.ensures.front c.split_at.ensures.back
    P c.runs.invariant.1 in
    let added = c.in_ok-extend-2.ensures.ok ∙ ap (λ (x : List ℕ). c.extend.new.self ++ x) (c.as_slice.ensures.bytes ∙ c.word_of.ensures) in (
      up_to-letter word c.args.into.now c.extend.new.self c.extend-in-runs.new.self all c.split_at.result.1.now c.in-Some.after.now c.in-Some.letter.now c.in-Some.ensures.cases.0 left added,
      All-tail P c.in-Some.letter.now c.in-Some.after.now (subst (λ (x : List ℕ). All P x) c.in-Some.ensures.cases.0 taken),
    )
