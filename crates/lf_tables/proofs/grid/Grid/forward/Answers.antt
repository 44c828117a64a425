use Rattle.std.proofs.Common.{◌≡◌, ℕ, ◌<◌, inl, inr, List, [], ◌∷◌, ◌++◌, length, get_or, take, sym, ap, ◌∙◌, arith, Vec, Global, ◌+◌, ◌*◌}
use Rattle.std.proofs.lemmas.Bool.{cases_lt}
use Rattle.std.proofs.lemmas.List.{length-append, get_or_append_left, get_or_default}
use Rattle.std.proofs.Math.Seq.{get_or-append_seam}
use Rattle.lf_core.specs.Marked.{Machine}
use Rattle.lf_core.specs.Written.{machine_of}
use Rattle.lf_tables.specs.Tabled.{Cell, cells_of, set_at, cell_of, set_after, IsCell}
use Rattle.lf_tables.proofs.NumberLaws.{lists_of, length_lists}
use Rattle.lf_tables.proofs.CellLaws.{next_at}
use Rattle.lf_tables.proofs.WalkLaws.{after_more}
use Rattle.lf_tables.proofs.grid.Grid.forward.Goals as goal

pub loop-byte-preserved : goal.loop-byte-preserved
loop-byte-preserved c =
    let m : Machine = machine_of c.args.self.now.machine.value in
    let lists : List (Vec ℕ Global) = c.args.self.now.sets.value.items in
    let of : List ℕ = c.args.self.now.class_of.items in
    let classes : ℕ = c.args.self.now.classes in
    let nexts : List ℕ = c.args.self.now.nexts.items in
    let starts : List ℕ = c.args.self.now.starts.items in
    let cells : List Cell = cells_of c.args.self.now.nexts.items c.args.self.now.starts.items in
    let line : List ℕ = c.args.line.now in
    let k : ℕ = c.loop-byte.byte-index in
    let set : ℕ = c.loop-byte.set in
    let trail : List ℕ = c.loop-byte.trail.items in
    let many : length trail ≡ k = c.loop-byte.invariant.each in
    let pushed : c.push.new.self.items ≡ trail ++ set ∷ [] = c.in_ok-push.ensures.items in
    let spot : c.place.result ≡ set * classes + get_or of (get_or line k 0) 0 = c.place.ensures.is in
    let step : c.index-set.result.now ≡ (cell_of of classes cells set (get_or line k 0)).next =
    c.index-set.ensures ∙ get_or_default nexts c.place.result c.index-set.result.now 0 c.place.ensures.low ∙ ap (λ (i : ℕ). get_or nexts i 0) spot
    ∙ sym (next_at nexts starts (set * classes + get_or of (get_or line k 0) 0) c.args.self.now.even) in
    let low : set < length (lists_of lists) = omega (arith, c.loop-byte.invariant.low, length_lists lists) in
    let byte : get_or line k 0 < 256 = omega (arith, c.type_inv.line k) in
    let one : IsCell m (lists_of lists) c.args.self.now.backs.items (set_at (lists_of lists) set) (get_or line k 0) (cell_of of classes cells set (get_or line k 0)) = c.args.self.now.tabled.led set (get_or line k 0) low byte in
    record {
      each = omega (arith, ap (λ (xs : List ℕ). length xs) pushed, length-append trail (set ∷ []), many);
      trail = λ i lt. elim (cases_lt i k) [
        | inl old ↦ ap (λ (xs : List ℕ). get_or xs i 0) pushed ∙ get_or_append_left trail (set ∷ []) 0 i (omega (arith, old, many)) ∙ c.loop-byte.invariant.trail i old
        | inr ge ↦
            let e : i ≡ k = omega (arith, lt, ge) in
            let at : get_or c.push.new.self.items i 0 ≡ set = ap (λ (xs : List ℕ). get_or xs i 0) pushed ∙ ap (λ (j : ℕ). get_or (trail ++ set ∷ []) j 0) (e ∙ sym many) ∙ get_or-append_seam trail set [] 0 in
            at ∙ c.loop-byte.invariant.last ∙ ap (λ (j : ℕ). set_after of classes cells (take j line)) (sym e)
      ];
      last = step ∙ ap (λ (s : ℕ). (cell_of of classes cells s (get_or line k 0)).next) c.loop-byte.invariant.last ∙ sym (after_more of classes cells line k c.loop-byte-test.true);
      low = omega (arith, step, one.next, length_lists lists);
    }
