use Rattle.std.proofs.Common.{◌≡◌, ℕ, ◌-◌, List, sym, ap, ◌∙◌}
use Rattle.std.specs.Prelude.{Option, codes}
use Rattle.std.specs.Str.{bytes_eq}
use Rattle.lf_expression.specs.Exprs.{or_else, at_time}
use Rattle.lf_map.specs.declared.reading.Read.{Read}
use Rattle.lf_map.specs.Assigns.{paired, line_call, one_call, expr_read}
use Rattle.lf_map.specs.Said.{read_said, found_said}
use Rattle.lf_map.proofs.Cases.{ok_more}
use Rattle.lf_map.proofs.Called.{or_read, at_read, line_read, one_read}
use Rattle.lf_map.proofs.reading.+expr.Goals as goal

pub returns-then-eq : goal.returns-then-eq
returns-then-eq t c =
    ok_more c.or_else.result (λ (read : Read). read_said read ≡ paired or_else (read_said c.in_ok-first.first) (read_said c.in_ok-second.second)) (λ (read : Read). read_said read ≡ expr_read c.args.depth c.args.text.now)
    (λ read e. e ∙ or_read c.args.depth c.args.text.now c.if-depth-eq0.false (sym c.in_ok-read.ensures ∙ ap (λ (o : Option Read). found_said o) c.in_default.is) (read_said c.in_ok-first.first) (c.in_ok-first.ensures ∙ ap (λ (w : List ℕ). expr_read (c.args.depth - 1) w) c.past.ensures) (read_said c.in_ok-second.second) (ap (λ (w : List ℕ). bytes_eq w (codes "or")) (sym c.cut_before.ensures.front) ∙ ap (λ (w : List ℕ). bytes_eq c.cut_before.result.0.now w) (sym c.as_slice.ensures) ∙ sym c.eq.ensures ∙ c.if-eq.true) (c.in_ok-second.ensures ∙ ap (λ (w : List ℕ). expr_read (c.args.depth - 1) w) c.past_first.ensures))
    c.or_else.ensures

pub returns-then-eq-2 : goal.returns-then-eq-2
returns-then-eq-2 t c =
    ok_more c.at_time.result (λ (read : Read). read_said read ≡ paired at_time (read_said c.in_ok-first.first) (read_said c.in_ok-second-2.second)) (λ (read : Read). read_said read ≡ expr_read c.args.depth c.args.text.now)
    (λ read e. e ∙ at_read c.args.depth c.args.text.now c.if-depth-eq0.false (sym c.in_ok-read.ensures ∙ ap (λ (o : Option Read). found_said o) c.in_default.is) (read_said c.in_ok-first.first) (c.in_ok-first.ensures ∙ ap (λ (w : List ℕ). expr_read (c.args.depth - 1) w) c.past.ensures) (ap (λ (w : List ℕ). bytes_eq w (codes "or")) (sym c.cut_before.ensures.front) ∙ ap (λ (w : List ℕ). bytes_eq c.cut_before.result.0.now w) (sym c.as_slice.ensures) ∙ sym c.eq.ensures ∙ c.if-eq.false) (read_said c.in_ok-second-2.second) (ap (λ (w : List ℕ). bytes_eq w (codes "at")) (sym c.cut_before.ensures.front) ∙ ap (λ (w : List ℕ). bytes_eq c.cut_before.result.0.now w) (sym c.as_slice-2.ensures) ∙ sym c.eq-2.ensures ∙ c.if-eq-2.true) (c.in_ok-second-2.ensures ∙ ap (λ (w : List ℕ). expr_read (c.args.depth - 1) w) c.past_first-then-eq-2.ensures))
    c.at_time.ensures

pub returns-then-eq-3 : goal.returns-then-eq-3
returns-then-eq-3 t c =
    ok_more c.line.result (λ (read : Read). read_said read ≡ line_call (read_said c.in_ok-first.first) (read_said c.in_ok-second-3.second) (read_said c.in_ok-third.third)) (λ (read : Read). read_said read ≡ expr_read c.args.depth c.args.text.now)
    (λ read e. e ∙ line_read c.args.depth c.args.text.now c.if-depth-eq0.false (sym c.in_ok-read.ensures ∙ ap (λ (o : Option Read). found_said o) c.in_default.is) (read_said c.in_ok-first.first) (c.in_ok-first.ensures ∙ ap (λ (w : List ℕ). expr_read (c.args.depth - 1) w) c.past.ensures) (ap (λ (w : List ℕ). bytes_eq w (codes "or")) (sym c.cut_before.ensures.front) ∙ ap (λ (w : List ℕ). bytes_eq c.cut_before.result.0.now w) (sym c.as_slice.ensures) ∙ sym c.eq.ensures ∙ c.if-eq.false) (ap (λ (w : List ℕ). bytes_eq w (codes "at")) (sym c.cut_before.ensures.front) ∙ ap (λ (w : List ℕ). bytes_eq c.cut_before.result.0.now w) (sym c.as_slice-2.ensures) ∙ sym c.eq-2.ensures ∙ c.if-eq-2.false) (read_said c.in_ok-second-3.second) (read_said c.in_ok-third.third) (ap (λ (w : List ℕ). bytes_eq w (codes "line")) (sym c.cut_before.ensures.front) ∙ ap (λ (w : List ℕ). bytes_eq c.cut_before.result.0.now w) (sym c.as_slice-3.ensures) ∙ sym c.eq-3.ensures ∙ c.if-eq-3.true) (c.in_ok-second-3.ensures ∙ ap (λ (w : List ℕ). expr_read (c.args.depth - 1) w) c.past_first-then-eq-3.ensures) (c.in_ok-third.ensures ∙ ap (λ (w : List ℕ). expr_read (c.args.depth - 1) w) c.past_first-then-eq-3-2.ensures))
    c.line.ensures

pub returns : goal.returns
returns t c =
    ok_more c.applied.result (λ (read : Read). read_said read ≡ one_call c.cut_before.result.0.now (read_said c.in_ok-first.first)) (λ (read : Read). read_said read ≡ expr_read c.args.depth c.args.text.now)
    (λ read e. e ∙ ap (λ (w : List ℕ). one_call w (read_said c.in_ok-first.first)) c.cut_before.ensures.front ∙ one_read c.args.depth c.args.text.now c.if-depth-eq0.false (sym c.in_ok-read.ensures ∙ ap (λ (o : Option Read). found_said o) c.in_default.is) (read_said c.in_ok-first.first) (c.in_ok-first.ensures ∙ ap (λ (w : List ℕ). expr_read (c.args.depth - 1) w) c.past.ensures) (ap (λ (w : List ℕ). bytes_eq w (codes "or")) (sym c.cut_before.ensures.front) ∙ ap (λ (w : List ℕ). bytes_eq c.cut_before.result.0.now w) (sym c.as_slice.ensures) ∙ sym c.eq.ensures ∙ c.if-eq.false) (ap (λ (w : List ℕ). bytes_eq w (codes "at")) (sym c.cut_before.ensures.front) ∙ ap (λ (w : List ℕ). bytes_eq c.cut_before.result.0.now w) (sym c.as_slice-2.ensures) ∙ sym c.eq-2.ensures ∙ c.if-eq-2.false) (ap (λ (w : List ℕ). bytes_eq w (codes "line")) (sym c.cut_before.ensures.front) ∙ ap (λ (w : List ℕ). bytes_eq c.cut_before.result.0.now w) (sym c.as_slice-3.ensures) ∙ sym c.eq-3.ensures ∙ c.if-eq-3.false))
    c.applied.ensures
