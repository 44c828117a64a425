-- How a stream is cut at its line feeds.
use Rattle.std.proofs.Common.{◌≡◌, ◌≢◌, ℕ, suc, ◌<◌, Bool, true, false, ◌==◌, List, [], ◌∷◌, ◌++◌, length, get_or, take, refl, sym, ◌∙◌, ap, arith}
use Rattle.std.proofs.lemmas.Bool.{or_parts, or_right, ne_eqb}
use Rattle.std.proofs.lemmas.List.{take_at, take_all}
use Rattle.lf_stream.specs.Cut.{cut_lines, without_cr, line_of, has_feed, HasNoFeed, whole_part}

-- the line that a rest without an end is, if any
abbrev pub last_line : List ℕ → List (List ℕ)
last_line [] = []
last_line (b ∷ bs) = (b ∷ bs) ∷ []

pub lines_ended : (line more : List ℕ) → HasNoFeed line → cut_lines (line ++ 10 ∷ more) ≡ line ∷ cut_lines more
lines_ended [] more none = refl
lines_ended (b ∷ bs) more none =
    let parts = or_parts (b == 10) (has_feed bs) none in
    rw (parts.0, lines_ended bs more parts.1) refl

pub lines_open : (line : List ℕ) → HasNoFeed line → cut_lines line ≡ last_line line
lines_open [] none = refl
lines_open (b ∷ []) none = let parts = or_parts (b == 10) false none in rw parts.0 refl
lines_open (b ∷ c ∷ bs) none =
    let parts = or_parts (b == 10) (has_feed (c ∷ bs)) none in
    rw (parts.0, lines_open (c ∷ bs) parts.1) refl

feed_behind : (front more : List ℕ) → has_feed (front ++ 10 ∷ more) ≡ true
feed_behind [] more = refl
feed_behind (b ∷ bs) more = or_right (b == 10) (has_feed (bs ++ 10 ∷ more)) (feed_behind bs more)

pub no_feed_append : (front more : List ℕ) → HasNoFeed front → HasNoFeed more → HasNoFeed (front ++ more)
no_feed_append [] more p q = q
no_feed_append (b ∷ bs) more p q = let parts = or_parts (b == 10) (has_feed bs) p in rw (parts.0, no_feed_append bs more parts.1 q) refl

pub whole_ended : (line more : List ℕ) → whole_part (line ++ 10 ∷ more) ≡ line ++ 10 ∷ whole_part more
whole_ended [] more = refl
whole_ended (b ∷ bs) more = rw (feed_behind (b ∷ bs) more, whole_ended bs more) refl

pub whole_open : (rest : List ℕ) → HasNoFeed rest → whole_part rest ≡ []
whole_open [] none = refl
whole_open (b ∷ bs) none = rw none refl

-- no byte is a line feed
pub no_feed_from_reads : (bs : List ℕ) → ((k : ℕ) → k < length bs → get_or bs k 0 ≢ 10) → HasNoFeed bs
no_feed_from_reads [] none = refl
no_feed_from_reads (b ∷ bs) none =
    rw (ne_eqb b 10 (none 0 (omega arith)), no_feed_from_reads bs (λ k below. none (suc k) (omega arith))) refl

-- A CR at the end is left out.
pub cr_dropped : (front : List ℕ) → without_cr (front ++ 13 ∷ []) ≡ front
cr_dropped [] = refl
cr_dropped (b ∷ []) = refl
cr_dropped (b ∷ c ∷ bs) = ap (λ zs. b ∷ zs) (cr_dropped (c ∷ bs))

-- Any other last byte stays.
pub no_cr_dropped : (front : List ℕ) (b : ℕ) → b ≢ 13 → without_cr (front ++ b ∷ []) ≡ front ++ b ∷ []
no_cr_dropped [] b n = rw (ne_eqb b 13 n) refl
no_cr_dropped (c ∷ []) b n = ap (λ zs. c ∷ zs) (no_cr_dropped [] b n)
no_cr_dropped (c ∷ d ∷ bs) b n = ap (λ zs. c ∷ zs) (no_cr_dropped (d ∷ bs) b n)

-- A line whose last byte is a CR.
pub line_with_cr : (notes : Bool) (line front : List ℕ) (last : ℕ) → notes ≡ true → line ≡ front ++ last ∷ [] → last ≡ 13 → take (length front) line ≡ line_of notes line
line_with_cr false line front last t is cr = absurd (cc)
line_with_cr true line front last t is cr =
    let whole : line ≡ front ++ 13 ∷ [] = is ∙ ap (λ b. front ++ b ∷ []) cr in
    ap (take (length front)) whole ∙ take_at front (13 ∷ []) (length front) refl ∙ sym (ap without_cr whole ∙ cr_dropped front)

-- A line whose last byte is no CR.
pub line_with_none : (notes : Bool) (line front : List ℕ) (last : ℕ) → line ≡ front ++ last ∷ [] → last ≢ 13 → take (length line) line ≡ line_of notes line
line_with_none false line front last is other = take_all (length line) line (omega arith)
line_with_none true line front last is other =
    take_all (length line) line (omega arith) ∙ is ∙ sym (ap without_cr is ∙ no_cr_dropped front last other)
