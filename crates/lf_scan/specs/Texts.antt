-- The domains of texts that steps stand for.
use Rattle.lf_domain.specs.declared.query_text.QueryText.{QueryText}
use Rattle.lf_domain.specs.declared.text_set.TextSet.{TextSet}
use Rattle.lf_scan.specs.declared.text_step.QueryStep.{QueryStep}
use Rattle.lf_scan.specs.declared.text_step.TextStep.{TextStep}

-- the set of the texts
abbrev pub set_of : TextStep → TextSet
set_of t = record { class = t.letters.class; min = t.min; max = t.max; min_bounded = t.min_bounded; max_bounded = t.max_bounded }

-- the domain of the queries
abbrev pub query_of : QueryStep → QueryText
query_of t = record { class = t.letters.class }
