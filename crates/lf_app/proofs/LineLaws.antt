-- How the lines of a stream grow with it.
use Rattle.std.proofs.Common.{◌≡◌, ℕ, ◌+◌, ◌≤◌, Bool, true, false, ◌||◌, ◌==◌, cond, List, [], ◌∷◌, ◌++◌, length, refl, sym, ◌∙◌, ap, arith, append_assoc, length-append, inl, inr}
use Rattle.std.specs.Prelude.{map}
use Rattle.std.proofs.lemmas.Bool.{cases_Bool}
use Rattle.std.proofs.lemmas.List.{map-append, length-map}
use Rattle.lf_stream.specs.Cut.{with_first, cut_lines, line_of, lines_of, has_feed, whole_part, known_lines}

-- what follows the last line feed
abbrev rest_part : List ℕ → List ℕ
rest_part [] = []
rest_part (b ∷ bs) = cond (has_feed (b ∷ bs)) (rest_part bs) (b ∷ bs)

parts_by : (h : Bool) (b : ℕ) (bs w r : List ℕ) → bs ≡ w ++ r → b ∷ bs ≡ cond h (b ∷ w) [] ++ cond h r (b ∷ bs)
parts_by true b bs w r e = ap (λ zs. b ∷ zs) e
parts_by false b bs w r e = refl

parts : (bs : List ℕ) → bs ≡ whole_part bs ++ rest_part bs
parts [] = refl
parts (b ∷ bs) = parts_by (has_feed (b ∷ bs)) b bs (whole_part bs) (rest_part bs) (parts bs)

whole_is : (b : ℕ) (bs : List ℕ) → has_feed (b ∷ bs) ≡ true → whole_part (b ∷ bs) ≡ b ∷ whole_part bs
whole_is b bs t = ap (λ h. cond h (b ∷ whole_part bs) []) t

whole_none : (b : ℕ) (bs : List ℕ) → has_feed (b ∷ bs) ≡ false → whole_part (b ∷ bs) ≡ []
whole_none b bs f = ap (λ h. cond h (b ∷ whole_part bs) []) f

some_first : (b : ℕ) (lines : List (List ℕ)) → (l : List ℕ) × (ls : List (List ℕ)) × (with_first b lines ≡ l ∷ ls)
some_first b [] = (b ∷ [], [], refl)
some_first b (line ∷ lines) = (b ∷ line, lines, refl)

some_by : (h : Bool) (b : ℕ) (lines : List (List ℕ)) → (l : List ℕ) × (ls : List (List ℕ)) × (cond h ([] ∷ lines) (with_first b lines) ≡ l ∷ ls)
some_by true b lines = ([], lines, refl)
some_by false b lines = some_first b lines

-- Where a line feed is among the bytes, their whole part has a line.
some_line : (bs : List ℕ) → has_feed bs ≡ true → (l : List ℕ) × (ls : List (List ℕ)) × (cut_lines (whole_part bs) ≡ l ∷ ls)
some_line [] t = absurd (cc)
some_line (b ∷ bs) t =
    let some = some_by (b == 10) b (cut_lines (whole_part bs)) in
    (some.0, some.1, ap cut_lines (whole_is b bs t) ∙ some.2)

first_append : (b : ℕ) (xs ys : List (List ℕ)) (l : List ℕ) (ls : List (List ℕ)) → xs ≡ l ∷ ls → with_first b (xs ++ ys) ≡ with_first b xs ++ ys
first_append b xs ys l ls e = ap (λ zs. with_first b (zs ++ ys)) e ∙ sym (ap (λ zs. with_first b zs ++ ys) e)

feed_later : (b : ℕ) (bs : List ℕ) → has_feed (b ∷ bs) ≡ true → (b == 10) ≡ false → has_feed bs ≡ true
feed_later b bs t other = sym (ap (λ v. v || has_feed bs) other) ∙ t

cut_more : (b : ℕ) (bs more : List ℕ) → has_feed (b ∷ bs) ≡ true → cut_lines (whole_part bs ++ more) ≡ cut_lines (whole_part bs) ++ cut_lines more → cut_lines (b ∷ (whole_part bs ++ more)) ≡ cut_lines (b ∷ whole_part bs) ++ cut_lines more
cut_more b bs more t e = elim (cases_Bool (b == 10)) [
  | inl feed ↦ rw feed (ap (λ (ls : List (List ℕ)). [] ∷ ls) e)
  | inr other ↦
      let some = some_line bs (feed_later b bs t other) in
      rw other (ap (with_first b) e ∙ first_append b (cut_lines (whole_part bs)) (cut_lines more) some.0 some.1 some.2)
]

-- Behind the last line feed a line begins.
cut_whole : (bs more : List ℕ) → cut_lines (whole_part bs ++ more) ≡ cut_lines (whole_part bs) ++ cut_lines more
cut_whole [] more = refl
cut_whole (b ∷ bs) more = elim (cases_Bool (has_feed (b ∷ bs))) [
  | inl t ↦
      let w = whole_is b bs t in
      ap (λ zs. cut_lines (zs ++ more)) w ∙ cut_more b bs more t (cut_whole bs more) ∙ sym (ap (λ zs. cut_lines zs ++ cut_lines more) w)
  | inr f ↦
      let w = whole_none b bs f in
      ap (λ zs. cut_lines (zs ++ more)) w ∙ sym (ap (λ zs. cut_lines zs ++ cut_lines more) w)
]

feeds_on : (bs more : List ℕ) → has_feed bs ≡ true → has_feed (whole_part bs ++ more) ≡ true
feeds_on [] more t = absurd (cc)
feeds_on (b ∷ bs) more t = ap (λ zs. has_feed (zs ++ more)) (whole_is b bs t) ∙ elim (cases_Bool (b == 10)) [
  | inl feed ↦ ap (λ v. v || has_feed (whole_part bs ++ more)) feed
  | inr other ↦ ap (λ v. v || has_feed (whole_part bs ++ more)) other ∙ feeds_on bs more (feed_later b bs t other)
]

whole_both : (bs more : List ℕ) → whole_part (whole_part bs ++ more) ≡ whole_part bs ++ whole_part more
whole_both [] more = refl
whole_both (b ∷ bs) more = elim (cases_Bool (has_feed (b ∷ bs))) [
  | inl t ↦
      let w = whole_is b bs t in
      let feeds : has_feed (b ∷ (whole_part bs ++ more)) ≡ true = sym (ap (λ zs. has_feed (zs ++ more)) w) ∙ feeds_on (b ∷ bs) more t in
      ap (λ zs. whole_part (zs ++ more)) w ∙ whole_is b (whole_part bs ++ more) feeds ∙ ap (λ zs. b ∷ zs) (whole_both bs more) ∙ sym (ap (λ zs. zs ++ whole_part more) w)
  | inr f ↦
      let w = whole_none b bs f in
      ap (λ zs. whole_part (zs ++ more)) w ∙ sym (ap (λ zs. zs ++ whole_part more) w)
]

-- Whatever follows, the lines of the whole part stay.
pub lines_grow : (notes : Bool) (bs more : List ℕ) → (later : List (List ℕ)) × (lines_of notes (bs ++ more) ≡ lines_of notes (whole_part bs) ++ later)
lines_grow notes bs more =
    let rest = rest_part bs ++ more in (
      lines_of notes rest,
      ap (λ zs. lines_of notes (zs ++ more)) (parts bs)
          ∙ ap (lines_of notes) (append_assoc (whole_part bs) (rest_part bs) more)
          ∙ ap (map (line_of notes)) (cut_whole bs rest)
          ∙ map-append (line_of notes) (cut_lines (whole_part bs)) (cut_lines rest),
    )

-- Lines that are known stay known.
pub known_grow : (over notes : Bool) (bs more : List ℕ) → (later : List (List ℕ)) × (known_lines over notes (bs ++ more) ≡ known_lines false notes bs ++ later)
known_grow true notes bs more = lines_grow notes bs more
known_grow false notes bs more =
    let rest = rest_part bs ++ more in (
      lines_of notes (whole_part rest),
      ap (λ zs. lines_of notes (whole_part (zs ++ more))) (parts bs)
          ∙ ap (λ zs. lines_of notes (whole_part zs)) (append_assoc (whole_part bs) (rest_part bs) more)
          ∙ ap (lines_of notes) (whole_both bs rest)
          ∙ ap (map (line_of notes)) (cut_whole bs (whole_part rest))
          ∙ map-append (line_of notes) (cut_lines (whole_part bs)) (cut_lines (whole_part rest)),
    )

few_first : (b : ℕ) (lines : List (List ℕ)) → length (with_first b lines) ≤ 1 + length lines
few_first b [] = omega arith
few_first b (line ∷ lines) = omega arith

few_cut : (bs : List ℕ) → length (cut_lines bs) ≤ length bs
few_cut [] = omega arith
few_cut (b ∷ bs) = elim (cases_Bool (b == 10)) [
  | inl feed ↦ rw feed (omega (arith, few_cut bs))
  | inr other ↦ rw other (omega (arith, few_cut bs, few_first b (cut_lines bs)))
]

few_whole : (bs : List ℕ) → length (whole_part bs) ≤ length bs
few_whole bs = omega (arith, ap length (parts bs), length-append (whole_part bs) (rest_part bs))

-- A stream has no more lines than bytes.
pub few_known : (over notes : Bool) (bs : List ℕ) → length (known_lines over notes bs) ≤ length bs
few_known true notes bs = omega (arith, length-map (cut_lines bs) (line_of notes), few_cut bs)
few_known false notes bs = omega (arith, length-map (cut_lines (whole_part bs)) (line_of notes), few_cut (whole_part bs), few_whole bs)
