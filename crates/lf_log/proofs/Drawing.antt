-- Records that are drawn from a seed, their log, and what is said of them.
use Rattle.std.proofs.Common.{◌≡◌, ℕ, zero, suc, ◌+◌, ◌≤◌, ◌<◌, List, [], ◌∷◌, ◌++◌, length, map, take, drop, get_or, refl, sym, ap, subst, ◌∙◌, inl, inr, ◌⊎◌, arith, append_assoc, length-append, All}
use Rattle.std.specs.Prelude.{Option, Some, None, Result, Ok, Err, IfOk}
use Rattle.std.specs.List.{flat_map}
use Rattle.std.proofs.Math.Seq.{take-append_seam, drop-append_seam}
use Rattle.std.proofs.lemmas.List.{append-nil, map-append, length-map}
use Rattle.std.proofs.lemmas.List.Concat.{flat_map-append}
use Rattle.std.proofs.lemmas.List.Elements.{All-nil, All-cons, All-head, All-tail, All-append}
use Rattle.lf_core.specs.declared.values.Value.{Value}
use Rattle.lf_format.specs.Keeps.{EachKept}
use Rattle.lf_format.specs.Lines.{line_text, IsRecordOf}
use Rattle.lf_format.specs.Shape.{Shape}
use Rattle.lf_format.specs.declared.format.Piece.{Piece}
use Rattle.lf_gen.specs.Drawn.{IsDrawn, AreDrawn, record_state, state_past}
use Rattle.lf_log.specs.Ends.{end_text, ended_line, log_text}
use Rattle.lf_log.specs.Generated.{summary_text, IsSummary, line_length, IsPart, DrawsPart, DrawsLog}

-- ---- what is said is one thing

-- A state draws no two records.
abbrev pub DrawsOne : Type 0
DrawsOne = (pieces : List Piece) (x : ℕ) (rec other : List Value) → IsDrawn pieces x rec → IsDrawn pieces x other → rec ≡ other

-- A state draws a record of what a format keeps.
abbrev pub DrawsSome : Type 0
DrawsSome = (pieces : List Piece) (x : ℕ) → EachKept pieces → (rec : List Value) × IsDrawn pieces x rec

same_records : DrawsOne → (pieces : List Piece) (x : ℕ) (records others : List (List Value)) → length records ≡ length others → AreDrawn pieces x records → AreDrawn pieces x others → records ≡ others
same_records once pieces x [] [] e h g = refl
same_records once pieces x [] (r ∷ others) e h g = absurd (omega (arith, e))
same_records once pieces x (r ∷ records) [] e h g = absurd (omega (arith, e))
same_records once pieces x (r ∷ records) (s ∷ others) e h g =
    ap (λ (t : List Value). t ∷ records) (once pieces x r s h.0 g.0)
    ∙ ap (λ (ts : List (List Value)). s ∷ ts) (same_records once pieces (record_state pieces x) records others (omega (arith, e)) h.1 g.1)

pub one_summary : DrawsOne → (format : Shape) (seed count : ℕ) (said other : List ℕ) → IsSummary format seed count said → IsSummary format seed count other → said ≡ other
one_summary once format seed count said other h g =
    let same = same_records once format.pieces seed h.records g.records (h.count_is ∙ sym g.count_is) h.drawn g.drawn in
    h.text_is ∙ ap (λ (rs : List (List Value)). summary_text count count (length (log_text format rs))) same ∙ sym g.text_is

some_records : DrawsSome → (pieces : List Piece) (x count : ℕ) → EachKept pieces → (records : List (List Value)) × (length records ≡ count) × AreDrawn pieces x records
some_records some pieces x zero kept = ([], refl, tt)
some_records some pieces x (suc count) kept =
    let first = some pieces x kept in
    let rest = some_records some pieces (record_state pieces x) count kept in
    (first.0 ∷ rest.0, ap suc rest.1, (first.1, rest.2))

pub some_summary : DrawsSome → (format : Shape) (seed count : ℕ) → EachKept format.pieces → (said : List ℕ) × IsSummary format seed count said
some_summary some format seed count kept =
    let found = some_records some format.pieces seed count kept in
    (summary_text count count (length (log_text format found.0)), record { records = found.0; count_is = found.1; drawn = found.2; text_is = refl })

-- ---- the log is drawn part by part

drawn_append : (pieces : List Piece) (x : ℕ) (records more : List (List Value)) → AreDrawn pieces x records → AreDrawn pieces (state_past pieces (length records) x) more → AreDrawn pieces x (records ++ more)
drawn_append pieces x [] more h g = g
drawn_append pieces x (rec ∷ records) more h g = (h.0, drawn_append pieces (record_state pieces x) records more h.1 g)

past_more : (pieces : List Piece) (x count more : ℕ) → state_past pieces (count + more) x ≡ state_past pieces more (state_past pieces count x)
past_more pieces x zero more = let same : 0 + more ≡ more = omega arith in ap (λ (n : ℕ). state_past pieces n x) same
past_more pieces x (suc count) more =
    let same : suc count + more ≡ suc (count + more) = omega arith in
    ap (λ (n : ℕ). state_past pieces n x) same ∙ past_more pieces (record_state pieces x) count more

log_append : (format : Shape) (records more : List (List Value)) → log_text format (records ++ more) ≡ log_text format records ++ log_text format more
log_append format records more = flat_map-append (ended_line format) records more

log_one : (format : Shape) (rec : List Value) → log_text format (rec ∷ []) ≡ ended_line format rec
log_one format rec = append-nil (ended_line format rec)

pub part_none : (format : Shape) (text lengths : List ℕ) → text ≡ [] → lengths ≡ [] → IsPart format [] text lengths
part_none format text lengths p q = record { held = All-nil (IsRecordOf format.pieces); text_is = p; lengths_is = q }

-- No record of the part is drawn yet.
pub draws_none : (format : Shape) (x : ℕ) (text lengths : List ℕ) → text ≡ [] → lengths ≡ [] → DrawsPart format x x 0 text lengths
draws_none format x text lengths p q = record { records = []; count_is = refl; drawn = tt; after_is = refl; part = part_none format text lengths p q }

-- A record more is drawn.
pub draws_more : (format : Shape) (before mid after count : ℕ) (text lengths more_text more_lengths : List ℕ) (rec : List Value)
    → DrawsPart format before mid count text lengths → IsDrawn format.pieces mid rec → IsRecordOf format.pieces rec → after ≡ record_state format.pieces mid
    → more_text ≡ text ++ ended_line format rec → more_lengths ≡ lengths ++ line_length format rec ∷ [] → DrawsPart format before after (count + 1) more_text more_lengths
draws_more format before mid after count text lengths more_text more_lengths rec d drawn held state t l =
    let here : mid ≡ state_past format.pieces (length d.records) before = d.after_is ∙ ap (λ (n : ℕ). state_past format.pieces n before) (sym d.count_is) in
    record {
      records = d.records ++ rec ∷ [];
      count_is = length-append d.records (rec ∷ []) ∙ ap (λ (n : ℕ). n + 1) d.count_is;
      drawn = drawn_append format.pieces before d.records (rec ∷ []) d.drawn (subst (λ (x : ℕ). IsDrawn format.pieces x rec) here drawn, tt);
      after_is = state ∙ ap (record_state format.pieces) d.after_is ∙ sym (past_more format.pieces before count 1);
      part = record {
        held = All-append (IsRecordOf format.pieces) d.records (rec ∷ []) d.part.held (All-cons (IsRecordOf format.pieces) rec [] held (All-nil (IsRecordOf format.pieces)));
        text_is = t ∙ ap (λ (w : List ℕ). w ++ ended_line format rec) d.part.text_is ∙ ap (λ (w : List ℕ). log_text format d.records ++ w) (sym (log_one format rec)) ∙ sym (log_append format d.records (rec ∷ []));
        lengths_is = l ∙ ap (λ (ns : List ℕ). ns ++ line_length format rec ∷ []) d.part.lengths_is ∙ sym (map-append (line_length format) d.records (rec ∷ []));
      };
    }

-- Nothing of the log is drawn yet.
pub log_none : (format : Shape) (seed : ℕ) → DrawsLog format seed seed 0 0
log_none format seed = record { records = []; count_is = refl; drawn = tt; after_is = refl; bytes_is = refl }

-- A part more is drawn.
pub log_more : (format : Shape) (seed mid after count some bytes total : ℕ) (text lengths : List ℕ) → DrawsLog format seed mid count bytes → DrawsPart format mid after some text lengths → total ≡ bytes + length text → DrawsLog format seed after (count + some) total
log_more format seed mid after count some bytes total text lengths d p is =
    let here : mid ≡ state_past format.pieces (length d.records) seed = d.after_is ∙ ap (λ (n : ℕ). state_past format.pieces n seed) (sym d.count_is) in
    record {
      records = d.records ++ p.records;
      count_is = omega (arith, length-append d.records p.records, d.count_is, p.count_is);
      drawn = drawn_append format.pieces seed d.records p.records d.drawn (subst (λ (x : ℕ). AreDrawn format.pieces x p.records) here p.drawn);
      after_is = p.after_is ∙ ap (state_past format.pieces some) d.after_is ∙ sym (past_more format.pieces seed count some);
      bytes_is = omega (arith, is, d.bytes_is, ap length p.part.text_is, ap length (log_append format d.records p.records), length-append (log_text format d.records) (log_text format p.records));
    }

pub part_length : (format : Shape) (before after count : ℕ) (text lengths : List ℕ) → DrawsPart format before after count text lengths → length lengths ≡ count
part_length format before after count text lengths d = ap length d.part.lengths_is ∙ length-map d.records (line_length format) ∙ d.count_is

-- What is said of the whole log.
pub said_of_log : (format : Shape) (seed after count read bytes : ℕ) (text : List ℕ) → DrawsLog format seed after count bytes → read ≡ count → text ≡ summary_text count read bytes → IsSummary format seed count text
said_of_log format seed after count read bytes text d r t = record {
  records = d.records;
  count_is = d.count_is;
  drawn = d.drawn;
  text_is = t ∙ ap (λ (n : ℕ). summary_text count n bytes) r ∙ ap (summary_text count count) d.bytes_is;
}

-- ---- a part is read back

-- The first line of a part, and the part of the others.
pub record HasFirst (format : Shape) (n : ℕ) (ns text : List ℕ) : Type 0 where
  pub first : List Value
  pub rest : List (List Value)
  pub held : IsRecordOf format.pieces first
  pub long : n ≡ line_length format first
  pub text_is : text ≡ line_text format.pieces first ++ (end_text format.end ++ log_text format rest)
  pub part : IsPart format rest (log_text format rest) ns

first_of : (format : Shape) (records : List (List Value)) (n : ℕ) (ns text : List ℕ) → IsPart format records text (n ∷ ns) → HasFirst format n ns text
first_of format [] n ns text p = absurd (omega (arith, ap length p.lengths_is))
first_of format (rec ∷ records) n ns text p = record {
  first = rec;
  rest = records;
  held = All-head (IsRecordOf format.pieces) rec records p.held;
  long = ap (λ (ms : List ℕ). get_or ms 0 0) p.lengths_is;
  text_is = p.text_is ∙ append_assoc (line_text format.pieces rec) (end_text format.end) (log_text format records);
  part = record { held = All-tail (IsRecordOf format.pieces) rec records p.held; text_is = refl; lengths_is = ap (drop 1) p.lengths_is };
}

pub has_first : (format : Shape) (n : ℕ) (ns all text : List ℕ) → ((records : List (List Value)) × IsPart format records text all) → all ≡ n ∷ ns → HasFirst format n ns text
has_first format n ns all text p e = first_of format p.0 n ns text (subst (IsPart format p.0 text) e p.1)

-- The line stands at the front of the text.
pub front_is : (format : Shape) (n : ℕ) (ns text line : List ℕ) → (h : HasFirst format n ns text) → line ≡ take n text → line ≡ line_text format.pieces h.first
front_is format n ns text line h e =
    e ∙ ap (λ (k : ℕ). take k text) h.long ∙ ap (take (line_length format h.first)) h.text_is
    ∙ take-append_seam (line_text format.pieces h.first) (end_text format.end ++ log_text format h.rest)

pub back_is : (format : Shape) (n : ℕ) (ns text ended : List ℕ) → (h : HasFirst format n ns text) → ended ≡ drop n text → ended ≡ end_text format.end ++ log_text format h.rest
back_is format n ns text ended h e =
    e ∙ ap (λ (k : ℕ). drop k text) h.long ∙ ap (drop (line_length format h.first)) h.text_is
    ∙ drop-append_seam (line_text format.pieces h.first) (end_text format.end ++ log_text format h.rest)

pub fits_text : (format : Shape) (n : ℕ) (ns text : List ℕ) → HasFirst format n ns text → n ≤ length text
fits_text format n ns text h = omega (arith, h.long, ap length h.text_is, length-append (line_text format.pieces h.first) (end_text format.end ++ log_text format h.rest))

pub fits_end : (format : Shape) (n k : ℕ) (ns text ended : List ℕ) → (h : HasFirst format n ns text) → ended ≡ drop n text → k ≡ length (end_text format.end) → k ≤ length ended
fits_end format n k ns text ended h e is =
    omega (arith, is, ap length (back_is format n ns text ended h e), length-append (end_text format.end) (log_text format h.rest))

-- What follows the end is the part of the other lines.
pub rest_is : (format : Shape) (n k : ℕ) (ns text ended after : List ℕ) → (h : HasFirst format n ns text) → ended ≡ drop n text → k ≡ length (end_text format.end) → after ≡ drop k ended → (records : List (List Value)) × IsPart format records after ns
rest_is format n k ns text ended after h e is a =
    let same : after ≡ log_text format h.rest =
    a ∙ ap (λ (m : ℕ). drop m ended) is ∙ ap (drop (length (end_text format.end))) (back_is format n ns text ended h e) ∙ drop-append_seam (end_text format.end) (log_text format h.rest) in
    (h.rest, subst (λ (w : List ℕ). IsPart format h.rest w ns) (sym same) h.part)
