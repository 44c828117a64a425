-- How line feeds are found.
use Rattle.std.proofs.Common.{◌≡◌, ℕ, ◌+◌, ◌-◌, ◌<◌, ◌≤◌, List, ◌∷◌, ◌++◌, length, get_or, sym, ◌∙◌, ap, arith, subst}
use Rattle.std.specs.List.{slice_range}
use Rattle.std.proofs.lemmas.Bool.{eqb-true, eq-eqb}
use Rattle.std.proofs.lemmas.List.Edits.{length-between, get_or-between}
use Rattle.lf_stream.specs.Cut.{HasNoFeed}
use Rattle.lf_stream.proofs.CutLaws.{no_feed_append, no_feed_from_reads}
use Rattle.lf_stream.proofs.Spans.{span_join, span_first}
use Rattle.memchr.specs.Find.{Nowhere, NoneBefore, Passes, is_byte}

-- A search that finds nothing.
pub none_found : (xs bytes : List ℕ) (start scanned end : ℕ) → bytes ≡ xs → start ≤ scanned → scanned ≤ end → HasNoFeed (slice_range xs start scanned) → Nowhere (Passes (is_byte 10) (slice_range bytes scanned end)) 0 (length (slice_range bytes scanned end)) → HasNoFeed (slice_range xs start end)
none_found xs bytes start scanned end same low high clean nowhere =
    let later : HasNoFeed (slice_range bytes scanned end) = no_feed_from_reads (slice_range bytes scanned end) (λ j below e. nowhere j (omega arith) below (eq-eqb (get_or (slice_range bytes scanned end) j 0) 10 e)) in
    rw (span_join xs start scanned end low high) (no_feed_append (slice_range xs start scanned) (slice_range xs scanned end) clean (subst (λ zs. HasNoFeed (slice_range zs scanned end)) same later))

-- A line feed was found at this place.
pub record Found (xs : List ℕ) (start end at : ℕ) : Type 0 where
  pub to : at < end
  pub unended : HasNoFeed (slice_range xs start at)
  pub joined : slice_range xs start end ≡ slice_range xs start at ++ 10 ∷ slice_range xs (at + 1) end

pub first_found : (xs : List ℕ) (start scanned end ahead : ℕ) → start ≤ scanned → end ≤ length xs → HasNoFeed (slice_range xs start scanned) → NoneBefore (Passes (is_byte 10) (slice_range xs scanned end)) 0 (length (slice_range xs scanned end)) ahead → Passes (is_byte 10) (slice_range xs scanned end) ahead → Found xs start end (scanned + ahead)
first_found xs start scanned end ahead low high clean none here =
    let at = scanned + ahead in
    let long : length (slice_range xs scanned end) ≡ end - scanned = length-between xs scanned end high in
    let ends : at < end = omega (arith, none.high, long) in
    let reads : (j : ℕ) → scanned + j < end → get_or (slice_range xs scanned end) j 0 ≡ get_or xs (scanned + j) 0 = λ j lt. get_or-between xs scanned end j 0 lt in
    let is : get_or xs at 0 ≡ 10 = sym (reads ahead ends) ∙ eqb-true (get_or (slice_range xs scanned end) ahead 0) 10 here in
    let later : HasNoFeed (slice_range xs scanned at) =
    no_feed_from_reads (slice_range xs scanned at) (λ j below e.
    let under : j < ahead = omega (arith, length-between xs scanned at (omega arith), below) in
    none.before j (omega arith) under (eq-eqb (get_or (slice_range xs scanned end) j 0) 10 (reads j (omega arith) ∙ sym (get_or-between xs scanned at j 0 (omega arith)) ∙ e))) in
    record {
      to = ends;
      unended = rw (span_join xs start scanned at low (omega arith)) (no_feed_append (slice_range xs start scanned) (slice_range xs scanned at) clean later);
      joined =
          span_join xs start at end (omega arith) (omega arith)
          ∙ ap (λ zs. slice_range xs start at ++ zs) (span_first xs at end ends high)
          ∙ ap (λ b. slice_range xs start at ++ b ∷ slice_range xs (at + 1) end) is;
    }
