-- The steps of the reading.
use Rattle.std.proofs.Common.{◌≡◌, ℕ, ◌+◌, ◌-◌, ◌<◌, Bool, true, false, List, [], ◌∷◌, ◌++◌, length, refl, sym, ◌∙◌, ap, arith, append_assoc, length-append, subst}
use Rattle.std.specs.Prelude.{slice_get, Option, Some, None}
use Rattle.std.proofs.lemmas.List.{append-nil}
use Rattle.lf_stream.specs.Cut.{known_lines}
use Rattle.lf_stream.specs.Marks.{IsNext}
use Rattle.lf_stream.specs.Standing.{Stands, SameStream, MovesOn, HasRoomAtNone, one_if_some, is_finished, bytes_fed, has_notes as may_have_notes}
use Rattle.lf_stream.specs.declared.lines.Lines.{Lines as Cutter}
use Rattle.lf_stream.specs.declared.marks.Numbered.{Numbered}
use Rattle.lf_app.specs.declared.commands.Job.{Job}
use Rattle.lf_app.specs.declared.report.Report.{Report}
use Rattle.lf_app.specs.declared.verdict.Verdict.{Verdict}
use Rattle.lf_app.specs.Progress.{Holds, IsReading, HasRead, Reports, ReadsOn, ReadsNext, Grows, Says}
use Rattle.lf_app.specs.Verdicts.{has_notes, AreVerdicts}
use Rattle.lf_app.proofs.LineLaws.{known_grow, few_known}
use Rattle.lf_app.proofs.VerdictLaws.{verdicts_append, verdicts_length, reports_both, reports_none}

behind_front : {X : Type 0} (front rest : List X) (x : X) → slice_get (front ++ rest) (length front) ≡ Some x → (later : List X) × (rest ≡ x ∷ later)
behind_front [] [] x e = absurd (cc)
behind_front [] (y ∷ ys) x e = (ys, cc)
behind_front (f ∷ fs) rest x e = behind_front fs rest x e

-- The element behind a prefix of a list is the first of the rest.
at_front : {X : Type 0} (front rest : List X) (n : ℕ) (x : X) → length front ≡ n → slice_get (front ++ rest) n ≡ Some x → (later : List X) × (rest ≡ x ∷ later)
at_front front rest n x here e = behind_front front rest x (subst (λ (k : ℕ). slice_get (front ++ rest) k ≡ Some x) (sym here) e)

none_behind : {X : Type 0} (front rest : List X) → length (front ++ rest) ≡ length front → rest ≡ []
none_behind front [] e = refl
none_behind front (x ∷ xs) e = absurd (omega (arith, e, length-append front (x ∷ xs)))

-- The lines that were given are as many as the verdicts.
given_length : (job : Job) (over : Bool) (lines : Cutter) (report : Report) (stream : List ℕ) (found : List Verdict) → (r : IsReading job over lines report stream found) → length r.given ≡ length found
given_length job over lines report stream found r = verdicts_length job r.given found r.verdicts

-- The next line that is known, by what the job and the stream are.
next_known : (job : Job) (over : Bool) (before : Cutter) (old : Report) (stream : List ℕ) (found : List Verdict) (next : Option Numbered) → (r : IsReading job over before old stream found) → IsNext (may_have_notes before) (known_lines (is_finished before) (may_have_notes before) stream) (length found) next → IsNext (has_notes job) (r.given ++ r.later) (length found) next
next_known job over before old stream found next r is =
    let notes = subst (λ (n : Bool). IsNext n (known_lines (is_finished before) n stream) (length found) next) r.holds.notes is in
    let ended = subst (λ (o : Bool). IsNext (has_notes job) (known_lines o (has_notes job) stream) (length found) next) r.holds.over_is notes in
    subst (λ (ls : List (List ℕ)). IsNext (has_notes job) ls (length found) next) r.known ended

holds_on : (job : Job) (over : Bool) (before after : Cutter) (old new : Report) (stream : List ℕ) (found later : List Verdict) → Holds job over before old stream found → MovesOn before after (length later) → new.count ≡ length (found ++ later) → Holds job over after new stream (found ++ later)
holds_on job over before after old new stream found later h moves count = record {
  notes = moves.same.notes ∙ h.notes;
  over_is = moves.same.finished ∙ h.over_is;
  stands = subst (Stands after stream) (sym (length-append found later)) (moves.stands stream (length found) h.stands);
  count = count;
}

-- The next line is read.
pub next_read : (job : Job) (over : Bool) (before after : Cutter) (old new : Report) (stream : List ℕ) (found : List Verdict) (next : Numbered) → IsReading job over before old stream found → IsNext (may_have_notes before) (known_lines (is_finished before) (may_have_notes before) stream) (length found) (Some next) → (answer : Option Numbered) → answer ≡ Some next → MovesOn before after (one_if_some answer) → Says job next.body next.number old new → new.count ≡ next.number → ReadsNext true job over after old new stream found
next_read job over before after old new stream found next r is answer some moved says count =
    let moves = subst (λ (o : Option Numbered). MovesOn before after (one_if_some o)) some moved in
    let here = next_known job over before old stream found (Some next) r is in
    let line = here.0 in
    let (said, verdict, reports) = says line here.3 in
    let behind = at_front r.given r.later (length found) line (given_length job over before old stream found r) here.1 in
    let number : next.number ≡ length found + 1 = here.2 in
    let counted : new.count ≡ length (found ++ said ∷ []) = omega (arith, count, number, length-append found (said ∷ [])) in (
      said,
      record {
        holds = holds_on job over before after old new stream found (said ∷ []) r.holds moves counted;
        given = r.given ++ line ∷ [];
        later = behind.0;
        known = r.known ∙ ap (λ (ls : List (List ℕ)). r.given ++ ls) behind.1 ∙ sym (append_assoc r.given (line ∷ []) behind.0);
        verdicts = verdicts_append job r.given (line ∷ []) found (said ∷ []) r.verdicts (verdict, tt);
      },
      subst (λ (n : ℕ). Reports job old new n (said ∷ [])) number reports,
    )

-- No further line is known.
pub next_none : (job : Job) (over : Bool) (before after : Cutter) (report : Report) (stream : List ℕ) (found : List Verdict) → IsReading job over before report stream found → IsNext (may_have_notes before) (known_lines (is_finished before) (may_have_notes before) stream) (length found) None → (answer : Option Numbered) → answer ≡ None → MovesOn before after (one_if_some answer) × HasRoomAtNone answer after → ReadsNext false job over after report report stream found
next_none job over before after report stream found r is answer none moved =
    let moves = subst (λ (o : Option Numbered). MovesOn before after (one_if_some o)) none moved.0 in
    let room = subst (λ (o : Option Numbered). HasRoomAtNone o after) none moved.1 in
    let here = next_known job over before report stream found None r is in
    let behind = none_behind r.given r.later (here ∙ sym (given_length job over before report stream found r)) in
    let whole : known_lines over (has_notes job) stream ≡ r.given = r.known ∙ ap (λ (ls : List (List ℕ)). r.given ++ ls) behind ∙ append-nil r.given in
    let same : found ++ [] ≡ found = append-nil found in
    let count : report.count ≡ length (found ++ []) = r.holds.count ∙ sym (ap length same) in (
      record {
        holds = subst (Holds job over after report stream) same (holds_on job over before after report report stream found [] r.holds moves count);
        verdicts = subst (λ (ls : List (List ℕ)). AreVerdicts job ls found) (sym whole) r.verdicts;
        room = room;
      },
      refl,
    )

-- Nothing more is read yet.
pub reads_start : (job : Job) (over : Bool) (lines : Cutter) (report : Report) (stream : List ℕ) (found : List Verdict) → IsReading job over lines report stream found → ReadsOn job over lines report report stream found
reads_start job over lines report stream found r = record {
  more = [];
  reading = subst (IsReading job over lines report stream) (sym (append-nil found)) r;
  reports = reports_none job report (length found + 1);
}

-- A line more is read.
pub reads_line : (job : Job) (over : Bool) (mid after : Cutter) (old here new : Report) (stream : List ℕ) (found : List Verdict) → (s : ReadsOn job over mid old here stream found) → ReadsNext true job over after here new stream (found ++ s.more) → ReadsOn job over after old new stream found
reads_line job over mid after old here new stream found s t =
    let v = t.0 in
    let number : length (found ++ s.more) + 1 ≡ length found + 1 + length s.more = omega (arith, length-append found s.more) in
    record {
      more = s.more ++ v ∷ [];
      reading = subst (IsReading job over after new stream) (append_assoc found s.more (v ∷ [])) t.1;
      reports = reports_both job old here new (length found + 1) s.more (v ∷ []) s.reports (subst (λ (n : ℕ). Reports job here new n (v ∷ [])) number t.2);
    }

-- All is read.
pub reads_end : (job : Job) (over : Bool) (mid after : Cutter) (old here new : Report) (stream : List ℕ) (found : List Verdict) → (s : ReadsOn job over mid old here stream found) → ReadsNext false job over after here new stream (found ++ s.more) → Grows job over after old new stream found
reads_end job over mid after old here new stream found s t = record {
  more = s.more;
  read = t.0;
  reports = subst (λ (r : Report). Reports job old r (length found + 1) s.more) (sym t.1) s.reports;
}

pub some_read : (is_some : Bool) (job : Job) (over : Bool) (after : Cutter) (here new : Report) (stream : List ℕ) (found : List Verdict) → is_some ≡ true → ReadsNext is_some job over after here new stream found → ReadsNext true job over after here new stream found
some_read is_some job over after here new stream found is h = subst (λ (b : Bool). ReadsNext b job over after here new stream found) is h

pub none_read : (is_some : Bool) (job : Job) (over : Bool) (after : Cutter) (here new : Report) (stream : List ℕ) (found : List Verdict) → is_some ≡ false → ReadsNext is_some job over after here new stream found → ReadsNext false job over after here new stream found
none_read is_some job over after here new stream found is h = subst (λ (b : Bool). ReadsNext b job over after here new stream found) is h

-- There is no end of lines but that of the bytes.
pub fewer_left : (job : Job) (over : Bool) (mid after : Cutter) (here new : Report) (stream : List ℕ) (found : List Verdict) → IsReading job over mid here stream found → ReadsNext true job over after here new stream found → bytes_fed after - new.count < bytes_fed mid - here.count
fewer_left job over mid after here new stream found r t =
    let next = t.1 in
    let found_more = length-append found (t.0 ∷ []) in
    omega (arith, r.holds.stands.fed, next.holds.stands.fed, r.holds.count, next.holds.count, found_more, given_length job over after new stream (found ++ t.0 ∷ []) next, ap length next.known, length-append next.given next.later, few_known over (has_notes job) stream)

-- The next bytes are fed.
pub feed_begins : (job : Job) (before after : Cutter) (report : Report) (stream piece : List ℕ) (found : List Verdict) → HasRead job false before report stream found → ((bytes : List ℕ) (n : ℕ) → Stands before bytes n → Stands after (bytes ++ piece) n) → SameStream before after → IsReading job false after report (stream ++ piece) found
feed_begins job before after report stream piece found r stands same =
    let grown = known_grow false (has_notes job) stream piece in
    record {
      holds = record { notes = same.notes ∙ r.holds.notes; over_is = same.finished ∙ r.holds.over_is; stands = stands stream (length found) r.holds.stands; count = r.holds.count };
      given = known_lines false (has_notes job) stream;
      later = grown.0;
      known = grown.1;
      verdicts = r.verdicts;
    }

-- The stream has ended.
pub finish_begins : (job : Job) (before after : Cutter) (report : Report) (stream : List ℕ) (found : List Verdict) → HasRead job false before report stream found → ((bytes : List ℕ) (n : ℕ) → Stands before bytes n → Stands after bytes n) → may_have_notes after ≡ may_have_notes before → is_finished after ≡ true → IsReading job true after report stream found
finish_begins job before after report stream found r stands notes ended =
    let grown = known_grow true (has_notes job) stream [] in
    record {
      holds = record { notes = notes ∙ r.holds.notes; over_is = ended; stands = stands stream (length found) r.holds.stands; count = r.holds.count };
      given = known_lines false (has_notes job) stream;
      later = grown.0;
      known = sym (ap (known_lines true (has_notes job)) (append-nil stream)) ∙ grown.1;
      verdicts = r.verdicts;
    }

-- What was fed grows by the bytes that were.
pub fed_more : (job : Job) (before after : Cutter) (old new : Report) (stream piece : List ℕ) (found : List Verdict) → HasRead job false before old stream found → Grows job false after old new (stream ++ piece) found → bytes_fed after ≡ bytes_fed before + length piece
fed_more job before after old new stream piece found r g =
    omega (arith, r.holds.stands.fed, g.read.holds.stands.fed, length-append stream piece)
