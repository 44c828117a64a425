use Rattle.std.proofs.Common.{◌≡◌, ◌≤◌, arith}
use Rattle.std.proofs.Common.{List, ℕ, length, ap, true, false, ◌==◌, sym, ◌∙◌}
use Rattle.lf_limits.specs.Limits.{most_length}
use Rattle.lf_narrow.specs.Terms.{number_of}
use Rattle.lf_narrow.proofs.Digits.{upper_bound}
use Rattle.lf_narrow.proofs.reading.upper.Goals as goal

pub number-requires : goal.number-requires
number-requires c =
    let h : number_of c.args.text.now ≤ most_length = upper_bound c.args.text.now (λ e. let x : true ≡ false = ap (λ (w : List ℕ). length w == 0) (sym e) ∙ sym c.is_empty.ensures ∙ c.if-is_empty.false in cc) c.requires in
    omega (arith, h)

pub overflow_cast-result : goal.overflow_cast-result
overflow_cast-result c =
    let h : number_of c.args.text.now ≤ most_length = upper_bound c.args.text.now (λ e. let x : true ≡ false = ap (λ (w : List ℕ). length w == 0) (sym e) ∙ sym c.is_empty.ensures ∙ c.if-is_empty.false in cc) c.requires in
    omega (arith, h, c.number.ensures)
