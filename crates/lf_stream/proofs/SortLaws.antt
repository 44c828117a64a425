-- What a line is, where only a part of it is held.
use Rattle.std.proofs.Common.{◌≡◌, ◌≢◌, ℕ, ◌+◌, ◌<◌, ◌≤◌, Bool, true, false, cond, List, [], ◌∷◌, ◌++◌, length, refl, sym, ◌∙◌, ap, arith, subst, append_assoc, length-append}
use Rattle.std.proofs.lemmas.Bool.{lt-ltb, ltb-true}
use Rattle.std.proofs.lemmas.List.{append-nil}
use Rattle.std.specs.Prelude.{ltb}
use Rattle.lf_limits.specs.Limits.{most_line_bytes}
use Rattle.lf_stream.specs.declared.marks.Sort.{Sort}
use Rattle.lf_stream.specs.declared.marks.Sort.TheVariants.{Line, Note, Long}
use Rattle.lf_stream.specs.Cut.{without_cr, line_of, HasNoFeed}
use Rattle.lf_stream.specs.Sorts.{is_note, sort_of, least_dropped, Drops, Holds}
use Rattle.lf_stream.specs.Standing.{settled_by}
use Rattle.lf_stream.proofs.CutLaws.{no_feed_append}

-- At most one byte is left out.
without_cr_len : (line : List ℕ) → length line ≤ length (without_cr line) + 1
without_cr_len [] = omega arith
without_cr_len (b ∷ []) = omega arith
without_cr_len (b ∷ c ∷ bs) = omega (arith, without_cr_len (c ∷ bs))

line_of_len : (notes : Bool) (line : List ℕ) → length line ≤ length (line_of notes line) + 1
line_of_len false line = omega arith
line_of_len true line = without_cr_len line

-- A longer line begins as before.
note_of : (notes : Bool) (b c : ℕ) (bs : List ℕ) → is_note notes (line_of notes (b ∷ c ∷ bs)) ≡ is_note notes (b ∷ [])
note_of false b c bs = refl
note_of true b c bs = refl

sort_by : (notes : Bool) (line : List ℕ) → most_line_bytes < length line → sort_of notes line ≡ cond (is_note notes line) Note Long
sort_by notes line many = ap (λ t. cond (is_note notes line) Note (cond t Long Line)) (lt-ltb most_line_bytes (length line) many)

-- Enough bytes settle the sort of a line.
pub sort_settled : (notes : Bool) (dropped bytes : List ℕ) → most_line_bytes + 1 < length dropped → sort_of notes (line_of notes (dropped ++ bytes)) ≡ sort_of notes dropped
sort_settled notes [] bytes many = absurd (omega arith)
sort_settled notes (b ∷ []) bytes many = absurd (omega arith)
sort_settled notes (b ∷ c ∷ bs) bytes many =
    let whole = b ∷ c ∷ (bs ++ bytes) in
    sort_by notes (line_of notes whole) (omega (arith, line_of_len notes whole, length-append bs bytes))
    ∙ ap (λ t. cond t Note Long) (note_of notes b c (bs ++ bytes))
    ∙ sym (sort_by notes (b ∷ c ∷ bs) (omega arith))

-- And so do more.
pub sort_grown : (notes : Bool) (dropped bytes : List ℕ) → most_line_bytes + 1 < length dropped → sort_of notes (dropped ++ bytes) ≡ sort_of notes dropped
sort_grown notes [] bytes many = absurd (omega arith)
sort_grown notes (b ∷ bs) bytes many =
    sort_by notes (b ∷ (bs ++ bytes)) (omega (arith, length-append bs bytes)) ∙ sym (sort_by notes (b ∷ bs) (omega arith))

pub drops_settled : (notes : Bool) (sort : Sort) (bytes line : List ℕ) → Drops notes sort bytes line → sort ≡ sort_of notes (line_of notes line)
drops_settled notes sort bytes line d =
    d.sort_is ∙ sym (ap (λ zs. sort_of notes (line_of notes zs)) d.joined ∙ sort_settled notes d.dropped bytes d.many)

pub holds_settled : (notes : Bool) (sort : Sort) (bytes line : List ℕ) → sort ≢ Line → Holds notes sort bytes line → sort ≡ sort_of notes (line_of notes line)
holds_settled notes Line bytes line other h = absurd (other refl)
holds_settled notes Note bytes line other h = drops_settled notes Note bytes line h
holds_settled notes Long bytes line other h = drops_settled notes Long bytes line h

-- The rest up to a line feed, or to the end of what is held.
pub record Front (notes : Bool) (sort : Sort) (bytes more rest : List ℕ) : Type 0 where
  pub line : List ℕ
  pub joined : rest ≡ line ++ more
  pub unended : HasNoFeed line
  pub holds : Holds notes sort bytes line

drops_front : (notes : Bool) (sort : Sort) (bytes more rest : List ℕ) → HasNoFeed bytes → (d : Drops notes sort (bytes ++ more) rest) → (rest ≡ (d.dropped ++ bytes) ++ more) × HasNoFeed (d.dropped ++ bytes) × Drops notes sort bytes (d.dropped ++ bytes)
drops_front notes sort bytes more rest none d = (
  d.joined ∙ sym (append_assoc d.dropped bytes more),
  no_feed_append d.dropped bytes d.unended none,
  record { dropped = d.dropped; joined = refl; unended = d.unended; many = d.many; sort_is = d.sort_is },
)

pub holds_front : (notes : Bool) (sort : Sort) (bytes more rest : List ℕ) → HasNoFeed bytes → Holds notes sort (bytes ++ more) rest → Front notes sort bytes more rest
holds_front notes Line bytes more rest none h = record { line = bytes; joined = sym h; unended = none; holds = refl }
holds_front notes Note bytes more rest none h =
    let f = drops_front notes Note bytes more rest none h in
    record { line = h.dropped ++ bytes; joined = f.0; unended = f.1; holds = f.2 }
holds_front notes Long bytes more rest none h =
    let f = drops_front notes Long bytes more rest none h in
    record { line = h.dropped ++ bytes; joined = f.0; unended = f.1; holds = f.2 }

drops_some : (notes : Bool) (sort : Sort) (bytes rest : List ℕ) → Drops notes sort bytes rest → 0 < length rest
drops_some notes sort bytes rest d = omega (arith, ap length d.joined, length-append d.dropped bytes, d.many)

-- Whether something is left.
pub holds_some : (notes : Bool) (sort : Sort) (bytes rest : List ℕ) → Holds notes sort bytes rest → 1 ≤ length bytes + least_dropped sort → 0 < length rest
holds_some notes Line bytes rest h some = omega (arith, ap length h)
holds_some notes Note bytes rest h some = drops_some notes Note bytes rest h
holds_some notes Long bytes rest h some = drops_some notes Long bytes rest h

pub holds_none : (notes : Bool) (sort : Sort) (bytes rest : List ℕ) → Holds notes sort bytes rest → length bytes + least_dropped sort < 1 → length rest ≡ 0
holds_none notes Line bytes rest h none = omega (arith, ap length h)
holds_none notes Note bytes rest h none = absurd (omega arith)
holds_none notes Long bytes rest h none = absurd (omega arith)

-- All that is held is dropped, once the sort is settled.
drops_all : (notes : Bool) (sort : Sort) (bytes rest : List ℕ) → HasNoFeed bytes → Drops notes sort bytes rest → Drops notes sort [] rest
drops_all notes sort bytes rest none d = record {
  dropped = d.dropped ++ bytes;
  joined = d.joined ∙ sym (append-nil (d.dropped ++ bytes));
  unended = no_feed_append d.dropped bytes d.unended none;
  many = omega (arith, length-append d.dropped bytes, d.many);
  sort_is = d.sort_is ∙ sym (sort_grown notes d.dropped bytes d.many);
}

pub holds_dropped : (notes : Bool) (sort : Sort) (bytes rest : List ℕ) → sort ≢ Line → HasNoFeed bytes → Holds notes sort bytes rest → Holds notes sort [] rest
holds_dropped notes Line bytes rest other none h = absurd (other refl)
holds_dropped notes Note bytes rest other none h = drops_all notes Note bytes rest none h
holds_dropped notes Long bytes rest other none h = drops_all notes Long bytes rest none h

-- Bytes that are too many for a line are dropped.
pub holds_first_dropped : (notes : Bool) (sort : Sort) (bytes : List ℕ) → sort ≢ Line → most_line_bytes + 1 < length bytes → HasNoFeed bytes → sort ≡ sort_of notes bytes → Holds notes sort [] bytes
holds_first_dropped notes Line bytes other many none is = absurd (other refl)
holds_first_dropped notes Note bytes other many none is = record { dropped = bytes; joined = sym (append-nil bytes); unended = none; many = many; sort_is = is }
holds_first_dropped notes Long bytes other many none is = record { dropped = bytes; joined = sym (append-nil bytes); unended = none; many = many; sort_is = is }

settles : (t : Bool) (notes : Bool) (bytes rest : List ℕ) → ltb (most_line_bytes + 1) (length bytes) ≡ t → cond t (sort_of notes bytes) Line ≢ Line → HasNoFeed bytes → bytes ≡ rest → Holds notes (cond t (sort_of notes bytes) Line) [] rest
settles false notes bytes rest e other none h = absurd (other refl)
settles true notes bytes rest e other none h =
    subst (Holds notes (sort_of notes bytes) []) h (holds_first_dropped notes (sort_of notes bytes) bytes other (ltb-true (most_line_bytes + 1) (length bytes) e) none refl)

-- Once a sort other than Line is settled, nothing of the line is held.
pub holds_by : (notes : Bool) (sort : Sort) (bytes rest : List ℕ) → settled_by notes sort bytes ≢ Line → HasNoFeed bytes → Holds notes sort bytes rest → Holds notes (settled_by notes sort bytes) [] rest
holds_by notes Line bytes rest other none h = settles (ltb (most_line_bytes + 1) (length bytes)) notes bytes rest refl other none h
holds_by notes Note bytes rest other none h = holds_dropped notes Note bytes rest other none h
holds_by notes Long bytes rest other none h = holds_dropped notes Long bytes rest other none h
