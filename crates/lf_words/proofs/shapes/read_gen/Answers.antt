use Rattle.std.proofs.Common.{◌≡◌, ℕ, List, drop, ap, ◌∙◌}
use Rattle.lf_words.specs.Command.{option_words}
use Rattle.lf_words.proofs.OptionLaws.{not_options, not_jobs, not_dash}
use Rattle.lf_words.proofs.shapes.read_gen.Goals as goal

pub returns-then-not-are_options : goal.returns-then-not-are_options
returns-then-not-are_options c d e h =
    let rest : List (List ℕ) = c.split_at.result.1.now in
    let is : rest ≡ option_words h.options = c.split_at.ensures.back ∙ ap (λ (w : List (List ℕ)). drop 4 w) h.spelled in
    not_options _ d.verb rest h.options c.are_options.result is h.says.known e c.are_options.ensures.1 c.if-not-are_options.true

pub returns-in_default-jobs_of : goal.returns-in_default-jobs_of
returns-in_default-jobs_of c d e h =
    let rest : List (List ℕ) = c.split_at.result.1.now in
    let is : rest ≡ option_words h.options = c.split_at.ensures.back ∙ ap (λ (w : List (List ℕ)). drop 4 w) h.spelled in
    not_jobs rest h.options d.jobs is h.says.jobs c.in_default-jobs_of.ensures

pub returns-in_default-two_of : goal.returns-in_default-two_of
returns-in_default-two_of c d e h =
    let rest : List (List ℕ) = c.split_at.result.1.now in
    let is : rest ≡ option_words h.options = c.split_at.ensures.back ∙ ap (λ (w : List (List ℕ)). drop 4 w) h.spelled in
    not_dash rest h.options d.two is h.says.dash c.in_default-two_of.ensures
