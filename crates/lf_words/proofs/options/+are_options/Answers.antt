use Rattle.std.proofs.Common.{◌≡◌, ℕ, ◌≤◌, List, length, get_or, sym, ◌∙◌, ap, drop, [], ◌∷◌, true, None}
use Rattle.lf_words.specs.Command.{value_of, has_option}
use Rattle.lf_words.specs.Reading.{pairs}
use Rattle.lf_words.proofs.OptionLaws.{words_pair, options_up, options_down, none_found}
use Rattle.lf_words.proofs.options.+are_options.Goals as goal

pub returns : goal.returns
returns t c =
    let ws : List (List ℕ) = c.args.words.now in
    let a : List ℕ = c.as_str-name.result.now in
    let b : List ℕ = get_or ws 1 [] in
    let rest : List (List ℕ) = c.split_at.result.1.now in
    let long : 2 ≤ length ws = c.if-words-lt2.false in
    let begins : ws ≡ c.index-words-0.result ∷ b ∷ drop 2 ws = words_pair ws c.index-words-0.result long c.index-words-0.is in
    let is : ws ≡ a ∷ b ∷ rest = begins ∙ ap (λ (w : List ℕ). w ∷ b ∷ drop 2 ws) (sym c.as_str-name.ensures) ∙ ap (λ (w : List (List ℕ)). a ∷ b ∷ w) (sym c.split_at.ensures.back) in
    let has : has_option c.args.verb a ≡ true = cc in
    let once : value_of a (pairs rest) ≡ None = none_found c.find.result (value_of a (pairs rest)) c.is_some.result c.find.ensures c.is_some.ensures c.if-is_some.false in
    (λ h. options_up c.args.verb ws a b rest is has once (c.are_options.ensures.0 h), λ h. c.are_options.ensures.1 (options_down c.args.verb ws a b rest is h))
