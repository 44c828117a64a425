use Rattle.std.proofs.Common.{◌≡◌, ◌<◌, ◌∙◌, length, map, subst, sym, ap, List, ℕ}
use Rattle.lf_escape.specs.Codings.{coding_takes, coding_word}
use Rattle.lf_code_table.specs.Lone.{lone_of, HasFirsts}
use Rattle.lf_code_table.specs.Table.{table_of}
use Rattle.lf_code_table.proofs.TableSizes.{table-range}
use Rattle.lf_code_table.proofs.code_table.CodeTable.build.Goals as goal

pub first_numbers-requires : goal.first_numbers-requires
first_numbers-requires c =
    let range = table-range c.args.code in
    let same : c.as_slice-2.result.now ≡ table_of c.args.code = c.as_slice-2.ensures.value ∙ c.in_ok-prefixes.ensures in
    subst (λ (t : List (List ℕ)). length t < 256) (sym same) range.1

pub invariant_of-result : goal.invariant_of-result
invariant_of-result c =
    let range = table-range c.args.code in
    let same : c.as_slice-2.result.now ≡ table_of c.args.code = c.as_slice-2.ensures.value ∙ c.in_ok-prefixes.ensures in
    record {
      same = c.in_ok-prefixes.ensures;
      least = range.0;
      most = range.1;
      ended = c.in_ok-endings.ensures;
      alone = c.in_ok-lone.ensures ∙ ap (λ (ls : List (List ℕ)). map (lone_of (coding_takes c.args.code) (coding_word c.args.code)) ls) c.as_slice.ensures.value;
      first = subst (λ (t : List (List ℕ)). HasFirsts t c.in_ok-firsts.firsts.items 256) same c.in_ok-firsts.ensures;
    }
