-- How far the lines are given, as the stream goes on.
use Rattle.std.proofs.Common.{◌≡◌, ℕ, ◌<◌, Bool, true, false, List, [], ◌∷◌, ◌++◌, Some, length, map, refl, sym, ◌∙◌, ap, arith, append_assoc, length-append}
use Rattle.std.specs.Prelude.{slice_get}
use Rattle.std.proofs.lemmas.List.{append-nil, map-append, length-map, get_or_at}
use Rattle.std.proofs.lemmas.Option.{slice_get-get_or}
use Rattle.lf_stream.specs.Cut.{cut_lines, whole_part, known_lines, line_of, HasNoFeed}
use Rattle.lf_stream.specs.declared.marks.Sort.{Sort}
use Rattle.lf_stream.specs.declared.marks.Sort.TheVariants.{Line, Note, Long}
use Rattle.lf_stream.specs.Sorts.{Holds, Drops}
use Rattle.lf_stream.specs.Standing.{Goes}
use Rattle.lf_stream.proofs.CutLaws.{last_line, lines_ended, lines_open, whole_ended, whole_open}

pub goes_more : (f : Bool) (stream : List ℕ) (given : List (List ℕ)) (rest piece : List ℕ) → f ≡ false → Goes f stream given rest → Goes f (stream ++ piece) given (rest ++ piece)
goes_more true stream given rest piece going goes = absurd (cc)
goes_more false stream given rest piece going goes = λ more. rw (append_assoc stream piece more, append_assoc rest piece more) (goes (piece ++ more))

pub goes_end : (f : Bool) (stream : List ℕ) (given : List (List ℕ)) (rest : List ℕ) → Goes f stream given rest → cut_lines stream ≡ given ++ cut_lines rest
goes_end true stream given rest goes = goes
goes_end false stream given rest goes =
    ap cut_lines (sym (append-nil stream)) ∙ (goes []).lines ∙ ap (λ zs. given ++ cut_lines zs) (append-nil rest)

drops_more : (notes : Bool) (sort : Sort) (bytes rest piece : List ℕ) → Drops notes sort bytes rest → Drops notes sort (bytes ++ piece) (rest ++ piece)
drops_more notes sort bytes rest piece d = record {
  dropped = d.dropped;
  joined = ap (λ zs. zs ++ piece) d.joined ∙ append_assoc d.dropped bytes piece;
  unended = d.unended;
  many = d.many;
  sort_is = d.sort_is;
}

pub holds_more : (notes : Bool) (sort : Sort) (bytes rest piece : List ℕ) → Holds notes sort bytes rest → Holds notes sort (bytes ++ piece) (rest ++ piece)
holds_more notes Line bytes rest piece h = ap (λ zs. zs ++ piece) h
holds_more notes Note bytes rest piece h = drops_more notes Note bytes rest piece h
holds_more notes Long bytes rest piece h = drops_more notes Long bytes rest piece h

-- A line has ended.
pub goes_line : (f : Bool) (stream : List ℕ) (given : List (List ℕ)) (rest line later : List ℕ) → Goes f stream given rest → rest ≡ line ++ 10 ∷ later → HasNoFeed line → Goes f stream (given ++ line ∷ []) later
goes_line true stream given rest line later goes is none =
    goes ∙ ap (λ zs. given ++ cut_lines zs) is ∙ ap (λ ls. given ++ ls) (lines_ended line later none) ∙ sym (append_assoc given (line ∷ []) (cut_lines later))
goes_line false stream given rest line later goes is none = λ more.
    let whole : rest ++ more ≡ line ++ 10 ∷ (later ++ more) = ap (λ zs. zs ++ more) is ∙ append_assoc line (10 ∷ later) more in
    record {
      lines =
          (goes more).lines ∙ ap (λ zs. given ++ cut_lines zs) whole ∙ ap (λ ls. given ++ ls) (lines_ended line (later ++ more) none)
          ∙ sym (append_assoc given (line ∷ []) (cut_lines (later ++ more)));
      whole =
          (goes more).whole ∙ ap (λ zs. given ++ cut_lines (whole_part zs)) whole ∙ ap (λ zs. given ++ cut_lines zs) (whole_ended line (later ++ more))
          ∙ ap (λ ls. given ++ ls) (lines_ended line (whole_part (later ++ more)) none)
          ∙ sym (append_assoc given (line ∷ []) (cut_lines (whole_part (later ++ more))));
    }

last_is : (rest : List ℕ) → 0 < length rest → last_line rest ≡ rest ∷ []
last_is [] some = absurd (omega arith)
last_is (b ∷ bs) some = refl

-- The stream has ended, and with it the last line.
pub goes_last : (f : Bool) (stream : List ℕ) (given : List (List ℕ)) (line : List ℕ) → f ≡ true → Goes f stream given line → HasNoFeed line → 0 < length line → Goes f stream (given ++ line ∷ []) []
goes_last false stream given line over goes none some = absurd (cc)
goes_last true stream given line over goes none some =
    goes ∙ ap (λ ls. given ++ ls) (lines_open line none ∙ last_is line some) ∙ sym (append-nil (given ++ line ∷ []))

-- The known lines are those given and those of the rest.
pub known_are : (f notes : Bool) (stream : List ℕ) (given : List (List ℕ)) (rest : List ℕ) → Goes f stream given rest → known_lines f notes stream ≡ map (line_of notes) given ++ known_lines f notes rest
known_are true notes stream given rest goes = ap (map (line_of notes)) goes ∙ map-append (line_of notes) given (cut_lines rest)
known_are false notes stream given rest goes =
    let whole : cut_lines (whole_part stream) ≡ given ++ cut_lines (whole_part rest) =
    ap (λ zs. cut_lines (whole_part zs)) (sym (append-nil stream)) ∙ (goes []).whole ∙ ap (λ zs. given ++ cut_lines (whole_part zs)) (append-nil rest) in
    ap (map (line_of notes)) whole ∙ map-append (line_of notes) given (cut_lines (whole_part rest))

get_behind : (xs ys : List (List ℕ)) (y : List ℕ) (n : ℕ) → length xs ≡ n → slice_get (xs ++ y ∷ ys) n ≡ Some y
get_behind xs ys y n is =
    slice_get-get_or (xs ++ y ∷ ys) n y (omega (arith, length-append xs (y ∷ ys))) ∙ ap Some (get_or_at xs y ys y n is)

-- The line after those given is the next that is known.
pub next_known : (f notes : Bool) (stream : List ℕ) (given : List (List ℕ)) (line later : List ℕ) (n : ℕ) → Goes f stream (given ++ line ∷ []) later → length given ≡ n → slice_get (known_lines f notes stream) n ≡ Some (line_of notes line)
next_known f notes stream given line later n goes count =
    ap (λ ls. slice_get ls n) (known_are f notes stream (given ++ line ∷ []) later goes ∙ ap (λ ls. ls ++ known_lines f notes later) (map-append (line_of notes) given (line ∷ [])) ∙ append_assoc (map (line_of notes) given) (line_of notes line ∷ []) (known_lines f notes later))
    ∙ get_behind (map (line_of notes) given) (known_lines f notes later) (line_of notes line) n (length-map given (line_of notes) ∙ count)

all_known : (f notes : Bool) (stream : List ℕ) (given : List (List ℕ)) (rest : List ℕ) (n : ℕ) → Goes f stream given rest → length given ≡ n → known_lines f notes rest ≡ [] → length (known_lines f notes stream) ≡ n
all_known f notes stream given rest n goes count none =
    ap length (known_are f notes stream given rest goes ∙ ap (λ ls. map (line_of notes) given ++ ls) none ∙ append-nil (map (line_of notes) given)) ∙ length-map given (line_of notes) ∙ count

-- Until the stream has ended, a rest without a line feed holds no line.
pub none_whole : (f notes : Bool) (stream : List ℕ) (given : List (List ℕ)) (rest : List ℕ) (n : ℕ) → f ≡ false → Goes f stream given rest → length given ≡ n → HasNoFeed rest → length (known_lines f notes stream) ≡ n
none_whole true notes stream given rest n going goes count none = absurd (cc)
none_whole false notes stream given rest n going goes count none =
    all_known false notes stream given rest n goes count (ap (λ zs. map (line_of notes) (cut_lines zs)) (whole_open rest none))

-- An empty rest holds no line.
pub none_left : (f notes : Bool) (stream : List ℕ) (given : List (List ℕ)) (rest : List ℕ) (n : ℕ) → Goes f stream given rest → length given ≡ n → length rest ≡ 0 → length (known_lines f notes stream) ≡ n
none_left f notes stream given (b ∷ bs) n goes count none = absurd (omega arith)
none_left true notes stream given [] n goes count none = all_known true notes stream given [] n goes count refl
none_left false notes stream given [] n goes count none = all_known false notes stream given [] n goes count refl
