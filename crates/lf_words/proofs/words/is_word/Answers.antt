use Rattle.std.proofs.Common.{◌≡◌, ℕ, List, Bool, true, ◌&&◌, length, sym, ap, subst}
use Rattle.std.specs.Prelude.{leb}
use Rattle.std.specs.Str.{is_utf8}
use Rattle.std.proofs.lemmas.Str.{is_utf8-from_IsUtf8}
use Rattle.lf_limits.specs.Limits.{most_word_bytes}
use Rattle.lf_words.specs.Command.{is_word}
use Rattle.lf_words.proofs.words.is_word.Goals as goal

pub returns : goal.returns
returns c =
    let text = c.as_str.result.now in
    let short = leb (length text) most_word_bytes in
    let is : is_utf8 text ≡ true = is_utf8-from_IsUtf8 text c.as_str.utf8 in
    subst (λ (w : List ℕ). short ≡ is_word w) c.as_str.ensures (sym (ap (λ (b : Bool). b && short) is))
