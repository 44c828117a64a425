use Rattle.std.proofs.Common.{◌≡◌, ◌-◌, ◌++◌, List, ℕ, length, ap, subst, ◌∙◌, rules}
use Rattle.lf_json.specs.Text.{text_json}
use Rattle.lf_letters.specs.Decodes.{Decodes}
use Rattle.lf_letters.specs.Reads.{ReadsLetters}
use Rattle.lf_letters.proofs.PlainTexts.{reads-words}
use Rattle.lf_letters.proofs.letters.Letters.read_words.Goals as goal

pub returns-clause-read : goal.returns-clause-read
returns-clause-read c =
    let l = c.args.self.now in
    let text = c.args.text.now in
    let left = c.in_ok-left.left.now in
    let old = c.args.into.now in
    let new = c.write_text.new.into in
    let lead = c.args.lead.now in
    let buffer = c.decode.new.letters in
    let same : c.extend.new.self ≡ c.args.lead.now = search rules in
    let count : length c.decode.new.letters - length c.args.lead.now ≡ c.saturating_sub.result = search rules in
    let read = subst (λ (s : List ℕ). Decodes l.class l.code text left s buffer) same c.in_ok-left.ensures in
    subst (λ (n : ℕ). ReadsLetters l.class l.code lead n text left old new) count
    (reads-words l.class l.code lead buffer text left old new read (c.in_ok-write_text.ensures.ok ∙ ap (λ (s : List ℕ). old ++ text_json s) c.as_slice.ensures))
