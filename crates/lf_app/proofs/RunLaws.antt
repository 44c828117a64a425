-- How a run ends, at each status.
use Rattle.std.proofs.Common.{◌≡◌, ℕ, ◌+◌, ◌<◌, ◌≤◌, ◌⊎◌, inl, inr, Bool, true, false, ◌||◌, cond, List, [], ◌++◌, length, refl, sym, ◌∙◌, ap, arith, append_assoc, length-append, subst}
use Rattle.std.specs.Prelude.{Option, Some, None, Result, Ok, Err, IfOk, codes}
use Rattle.std.proofs.lemmas.Bool.{cases_lt, cases_eq}
use Rattle.std.proofs.lemmas.List.{append-nil}
use Rattle.lf_stream.specs.Cut.{lines_of, whole_part}
use Rattle.lf_stream.specs.Standing.{Stands, bytes_fed, is_finished, room_of, has_notes as may_have_notes}
use Rattle.lf_limits.specs.Limits.{least_room, most_run_bytes}
use Rattle.lf_stream.specs.declared.lines.Lines.{Lines as Cutter}
use Rattle.lf_app.specs.declared.commands.Job.{Job}
use Rattle.lf_io.specs.Faults.{Rose, HasCause}
use Rattle.lf_io.specs.Moves.{Takes, Gets, IsAtEnd}
use Rattle.lf_io.proofs.Parts.{gets_both, gets_none, takes_both, takes_none}
use Rattle.lf_app.specs.declared.verdict.Verdict.{Verdict}
use Rattle.lf_app.specs.declared.report.Report.{Report}
use Rattle.lf_app.specs.Verdicts.{AreVerdicts, has_notes, out_text, err_text, any_listed}
use Rattle.lf_format.specs.Shape.{Shape}
use Rattle.lf_app.specs.declared.commands.Command.{Command}
use Rattle.lf_app.specs.declared.commands.Command.TheVariants.{Lines, Readable, Witness, Show, Refuse}
use Rattle.lf_app.specs.declared.commands.Refusal.{Refusal}
use Rattle.lf_app.specs.declared.commands.Refusal.TheVariants as refusals
use Rattle.lf_compile.specs.declared.refused.Confusion.{Confusion}
use Rattle.lf_core.specs.declared.memory.OutOfMemory.{OutOfMemory}
use Rattle.std.specs.Fmt.{decimal}
use Rattle.lf_app.specs.Outcome.{Outcome, shown, told_out, told_err, witness_text, refusal_text, refusal_status, outcome_of, HasOutcome}
use Rattle.lf_app.specs.Commands.{TakesInput}
use Rattle.lf_app.specs.Run.{IsFinal, IsCut, Reads, WritesPart, IsSettled, IsCutStream, IsSinkFault, IsNoMemory, IsComplete}
use Rattle.lf_app.specs.Promise.{KeepsLimit, Runs, Tells, Says, TellsText}
use Rattle.lf_app.specs.Progress.{CanWork, HasRead, Reports, Grows}
use Rattle.lf_app.specs.Flush.{HasCauses, Follows}
use Rattle.lf_app.proofs.LineLaws.{lines_grow}
use Rattle.lf_app.proofs.VerdictLaws.{verdicts_front, out_append, err_append, listed_append}

-- What was taken is a prefix of what the source had left.
pub takes_front : (left later : Option (List ℕ)) (taken input : List ℕ) → left ≡ Some input → Takes left later taken → (rest : List ℕ) × (input ≡ taken ++ rest) × (later ≡ Some rest)
takes_front None later taken input e t = cc
takes_front (Some xs) None taken input e t = absurd t
takes_front (Some xs) (Some ys) taken input e t = (ys, cc, refl)

-- Each outcome of an input that begins with the bytes taken begins with what was found of their whole lines.
pub outcome_goes_on : (job : Job) (lines : Cutter) (report : Report) (taken more : List ℕ) (found : List Verdict) (o : Outcome) → CanWork job → HasRead job false lines report taken found → HasOutcome (Lines job) (taken ++ more) o → (later : List Verdict) × (o ≡ outcome_of job (found ++ later))
outcome_goes_on job lines report taken more found o can r has =
    let grown = lines_grow (has_notes job) taken more in
    let verdicts = subst (λ (ls : List (List ℕ)). AreVerdicts job ls has.0) grown.1 has.1 in
    let later = verdicts_front job (lines_of (has_notes job) (whole_part taken)) grown.0 found has.0 can r.verdicts verdicts in
    (later.0, has.2 ∙ ap (outcome_of job) later.1)

pub part_longer : (a b : List ℕ) (P : List ℕ → Type 0) → WritesPart a P → WritesPart (a ++ b) P
part_longer a b P f = (f.0, (f.1.0 ++ b, ap (λ w. w ++ b) f.1.1 ∙ append_assoc f.0 f.1.0 b), f.2)

pub part_all : (a : List ℕ) (P : List ℕ → Type 0) → P a → WritesPart a P
part_all a P p = (a, ([], sym (append-nil a)), p)

-- Of outcomes that begin with what was found, prefixes were written.
pub parts_found : (job : Job) (found later : List Verdict) (o : Outcome) (out err : List ℕ → Type 0) → o ≡ outcome_of job (found ++ later) → WritesPart (out_text job found) out → WritesPart (err_text 1 found) err → WritesPart o.out out × WritesPart o.err err
parts_found job found later o out err is p q =
    let goes : (o : Outcome) → o ≡ outcome_of job (found ++ later) → (o.out ≡ out_text job found ++ out_text job later) × (o.err ≡ err_text 1 found ++ err_text (1 + length found) later) =
    λ o is. (ap (λ (o : Outcome). o.out) is ∙ out_append job found later, ap (λ (o : Outcome). o.err) is ∙ err_append 1 found later) in
    let e = goes o is in (
      subst (λ (w : List ℕ). WritesPart w out) (sym e.0) (part_longer (out_text job found) (out_text job later) out p),
      subst (λ (w : List ℕ). WritesPart w err) (sym e.1) (part_longer (err_text 1 found) (err_text (1 + length found) later) err q),
    )

-- A status that is not final settles nothing.
pub settled_never : (c : Command) (status : ℕ) (left later : Option (List ℕ)) (out err : List ℕ → Type 0) → (IsFinal status → ⊥) → IsSettled c status left later out err
settled_never c status left later out err never = record { ends = λ final. absurd (never final); at_end = λ final. absurd (never final) }

-- A run that stops short, by a sink or for want of memory, has written prefixes.
pub runs_short : (job : Job) (lines : Cutter) (report : Report) (status : ℕ) (left now : Option (List ℕ)) (out err : List ℕ → Type 0) (taken more : List ℕ) (found : List Verdict) → CanWork job → HasRead job false lines report taken found → Takes left now (taken ++ more) → length (taken ++ more) ≤ most_run_bytes → WritesPart (out_text job found) out → WritesPart (err_text 1 found) err → (status ≡ 5) ⊎ (status ≡ 6) → Runs (Lines job) status left now out err
runs_short job lines report status left now out err taken more found can r takes most p q is = record {
  settled = settled_never (Lines job) status left now out err (λ final. omega (arith, is, final));
  reads = λ broken. absurd (omega (arith, is, broken));
  fronts = λ _ input reads o has. elim reads [
    | inl told ↦
        let rest = takes_front left now (taken ++ more) input told takes in
        let longer : input ≡ taken ++ (more ++ rest.0) = rest.1 ∙ append_assoc taken more rest.0 in
        let later = outcome_goes_on job lines report taken (more ++ rest.0) found o can r (subst (λ (w : List ℕ). HasOutcome (Lines job) w o) longer has) in
        parts_found job found later.0 o out err later.1 p q
    | inr none ↦ absurd (none tt)
  ];
  limit = record { taken = taken ++ more; takes = takes; most = most; full = λ _. elim is [ inl five ↦ inl five | inr six ↦ inr (inl six) ]; endless = λ e. absurd (omega (arith, is, e)); whole_lines = λ broken. absurd (omega (arith, is, broken)) };
}

-- The text written before, and then the report's.
pub gets_more : (a b c : Option (List ℕ)) (xs ys zs : List ℕ) → Gets a b xs → Gets b c ys → zs ≡ xs ++ ys → Gets a c zs
gets_more a b c xs ys zs p q is = subst (Gets a c) (sym is) (gets_both a b c xs ys p q)

pub part_more : (a b c : Option (List ℕ)) (xs ys zs : List ℕ) → Gets a b xs → WritesPart ys (Gets b c) → zs ≡ xs ++ ys → WritesPart zs (Gets a c)
part_more a b c xs ys zs p q is =
    (xs ++ q.0, (q.1.0, is ∙ ap (λ w. xs ++ w) q.1.1 ∙ sym (append_assoc xs q.0 q.1.0)), gets_both a b c xs q.0 p q.2)

-- What an emptied report has, once it has grown.
pub report_out : (job : Job) (old new : Report) (found more : List Verdict) → old.out ≡ [] → Reports job old new (length found + 1) more → out_text job (found ++ more) ≡ out_text job found ++ new.out
report_out job old new found more none g = rw (g.out, none) (out_append job found more)

pub report_err : (job : Job) (old new : Report) (found more : List Verdict) → old.err ≡ [] → Reports job old new (length found + 1) more → err_text 1 (found ++ more) ≡ err_text 1 found ++ new.err
report_err job old new found more none g =
    let here : length found + 1 ≡ 1 + length found = omega arith in
    rw (g.err, none, here) (err_append 1 found more)

pub report_listed : (job : Job) (old new : Report) (found more : List Verdict) → old.is_partial ≡ any_listed found → Reports job old new (length found + 1) more → new.is_partial ≡ any_listed (found ++ more)
report_listed job old new found more listed g = g.listed ∙ ap (λ b. b || any_listed more) listed ∙ sym (listed_append found more)

-- A report that is emptied stands where it stood.
read_emptied : (job : Job) (lines : Cutter) (mid new : Report) (taken : List ℕ) (found : List Verdict) → new ≡ record mid { out = []; err = [] } → HasRead job false lines mid taken found → HasRead job false lines new taken found
read_emptied job lines mid new taken found is r = record {
  holds = record { notes = r.holds.notes; over_is = r.holds.over_is; stands = r.holds.stands; count = ap (λ (r : Report). r.count) is ∙ r.holds.count };
  verdicts = r.verdicts;
  room = r.room;
}

-- The next bytes are read and written.
pub follows_piece : (job : Job) (before after : Cutter) (old mid new : Report) (left later now : Option (List ℕ)) (og o1 o2 eg e1 e2 : Option (List ℕ)) (piece : List ℕ) → (f : Follows job before old left later (Gets og o1) (Gets eg e1)) → Grows job false after old mid (f.taken ++ piece) f.found → Takes later now piece → bytes_fed before + length piece ≤ most_run_bytes → Gets o1 o2 mid.out → Gets e1 e2 mid.err → new ≡ record mid { out = []; err = [] } → Follows job after new left now (Gets og o2) (Gets eg e2)
follows_piece job before after old mid new left later now og o1 o2 eg e1 e2 piece f g takes most p q is = record {
  taken = f.taken ++ piece;
  found = f.found ++ g.more;
  read = read_emptied job after mid new (f.taken ++ piece) (f.found ++ g.more) is g.read;
  takes = takes_both left later now f.taken piece f.takes takes;
  most = omega (arith, f.read.holds.stands.fed, length-append f.taken piece, most);
  listed = ap (λ (r : Report). r.is_partial) is ∙ report_listed job old mid f.found g.more f.listed g.reports;
  no_out = ap (λ (r : Report). r.out) is;
  no_err = ap (λ (r : Report). r.err) is;
  out = gets_more og o1 o2 (out_text job f.found) mid.out (out_text job (f.found ++ g.more)) f.out p (report_out job old mid f.found g.more f.no_out g.reports);
  err = gets_more eg e1 e2 (err_text 1 f.found) mid.err (err_text 1 (f.found ++ g.more)) f.err q (report_err job old mid f.found g.more f.no_err g.reports);
}

-- There was no memory to read the next bytes.
pub runs_memory : (job : Job) (lines : Cutter) (report : Report) (left later now : Option (List ℕ)) (out err : List ℕ → Type 0) (piece : List ℕ) → CanWork job → Follows job lines report left later out err → Takes later now piece → bytes_fed lines + length piece ≤ most_run_bytes → Runs (Lines job) 6 left now out err
runs_memory job lines report left later now out err piece can f takes most =
    let all = takes_both left later now f.taken piece f.takes takes in
    let fits : length (f.taken ++ piece) ≤ most_run_bytes = omega (arith, f.read.holds.stands.fed, length-append f.taken piece, most) in
    runs_short job lines report 6 left now out err f.taken piece f.found can f.read all fits (part_all (out_text job f.found) out f.out) (part_all (err_text 1 f.found) err f.err) (inr refl)

-- A sink failed with what was found of the next bytes.
pub runs_sink : (job : Job) (before after : Cutter) (old mid : Report) (left later now : Option (List ℕ)) (og o1 o2 eg e1 e2 : Option (List ℕ)) (piece : List ℕ) → CanWork job → (f : Follows job before old left later (Gets og o1) (Gets eg e1)) → Grows job false after old mid (f.taken ++ piece) f.found → Takes later now piece → bytes_fed before + length piece ≤ most_run_bytes → WritesPart mid.out (Gets o1 o2) → WritesPart mid.err (Gets e1 e2) → Runs (Lines job) 5 left now (Gets og o2) (Gets eg e2)
runs_sink job before after old mid left later now og o1 o2 eg e1 e2 piece can f g takes most p q =
    let all = takes_both left later now f.taken piece f.takes takes in
    let same : (f.taken ++ piece) ++ [] ≡ f.taken ++ piece = append-nil (f.taken ++ piece) in
    let fits : length ((f.taken ++ piece) ++ []) ≤ most_run_bytes = omega (arith, f.read.holds.stands.fed, length-append f.taken piece, ap length same, most) in
    runs_short job after mid 5 left now (Gets og o2) (Gets eg e2) (f.taken ++ piece) [] (f.found ++ g.more) can g.read (subst (Takes left now) (sym same) all) fits
    (part_more og o1 o2 (out_text job f.found) mid.out (out_text job (f.found ++ g.more)) f.out p (report_out job old mid f.found g.more f.no_out g.reports))
    (part_more eg e1 e2 (err_text 1 f.found) mid.err (err_text 1 (f.found ++ g.more)) f.err q (report_err job old mid f.found g.more f.no_err g.reports))
    (inl refl)

-- At the end of the source nothing follows what was taken.
pub input_is : (left later : Option (List ℕ)) (taken input : List ℕ) → left ≡ Some input → Takes left later taken → IsAtEnd later → input ≡ taken
input_is left later taken input told takes end =
    let rest = takes_front left later taken input told takes in
    let none : rest.0 ≡ [] = subst IsAtEnd rest.2 end in
    rest.1 ∙ ap (λ w. taken ++ w) none ∙ append-nil taken

pub status_small : (b : Bool) (status : ℕ) → status ≡ cond b 3 0 → status ≤ 3
status_small true status is = omega (arith, is)
status_small false status is = omega (arith, is)

-- There was no memory to read the last line.
pub runs_last_memory : (job : Job) (lines : Cutter) (report : Report) (left later : Option (List ℕ)) (out err : List ℕ → Type 0) → CanWork job → Follows job lines report left later out err → Runs (Lines job) 6 left later out err
runs_last_memory job lines report left later out err can f =
    runs_memory job lines report left later later out err [] can f (takes_none later) (omega (arith, f.read.holds.stands.fed, f.most))

-- The run has come to its end.
pub runs_end : (job : Job) (before after : Cutter) (old mid : Report) (status : ℕ) (left later : Option (List ℕ)) (og o1 o2 eg e1 e2 : Option (List ℕ)) → (f : Follows job before old left later (Gets og o1) (Gets eg e1)) → Grows job true after old mid f.taken f.found → bytes_fed before < most_run_bytes → IsAtEnd later → Gets o1 o2 mid.out → Gets e1 e2 mid.err → status ≡ cond mid.is_partial 3 0 → Runs (Lines job) status left later (Gets og o2) (Gets eg e2)
runs_end job before after old mid status left later og o1 o2 eg e1 e2 f g room end p q is =
    let all = f.found ++ g.more in
    let small : status ≤ 3 = status_small mid.is_partial status is in
    let partial : mid.is_partial ≡ any_listed all = report_listed job old mid f.found g.more f.listed g.reports in
    record {
      settled = record {
        ends = λ _ input reads. elim reads [
          | inl told ↦
              let same : input ≡ f.taken = input_is left later f.taken input told f.takes end in record {
                outcome = outcome_of job all;
                has = (all, subst (λ (w : List ℕ). AreVerdicts job (lines_of (has_notes job) w) all) (sym same) g.read.verdicts, refl);
                status_is = is ∙ ap (λ (b : Bool). cond b 3 0) partial;
                wrote_out = gets_more og o1 o2 (out_text job f.found) mid.out (out_text job all) f.out p (report_out job old mid f.found g.more f.no_out g.reports);
                wrote_err = gets_more eg e1 e2 (err_text 1 f.found) mid.err (err_text 1 all) f.err q (report_err job old mid f.found g.more f.no_err g.reports);
              }
          | inr none ↦ absurd (none tt)
        ];
        at_end = λ _ _. end;
      };
      reads = λ broken. absurd (omega (arith, broken, small));
      fronts = λ short. absurd (omega (arith, short, small));
      limit = record {
        taken = f.taken;
        takes = f.takes;
        most = f.most;
        full = λ e. absurd (omega (arith, f.read.holds.stands.fed, room, e));
        endless = λ e. absurd (omega (arith, e, small));
        whole_lines = λ broken. absurd (omega (arith, broken, small));
      };
    }

-- A sink failed with what was found of the last line.
pub runs_last_sink : (job : Job) (before after : Cutter) (old mid : Report) (left later : Option (List ℕ)) (og o1 o2 eg e1 e2 : Option (List ℕ)) → CanWork job → (f : Follows job before old left later (Gets og o1) (Gets eg e1)) → Grows job true after old mid f.taken f.found → IsAtEnd later → WritesPart mid.out (Gets o1 o2) → WritesPart mid.err (Gets e1 e2) → Runs (Lines job) 5 left later (Gets og o2) (Gets eg e2)
runs_last_sink job before after old mid left later og o1 o2 eg e1 e2 can f g end p q =
    let all = f.found ++ g.more in
    let lines = lines_of (has_notes job) f.taken in
    let out : WritesPart (out_text job all) (Gets og o2) = part_more og o1 o2 (out_text job f.found) mid.out (out_text job all) f.out p (report_out job old mid f.found g.more f.no_out g.reports) in
    let err : WritesPart (err_text 1 all) (Gets eg e2) = part_more eg e1 e2 (err_text 1 f.found) mid.err (err_text 1 all) f.err q (report_err job old mid f.found g.more f.no_err g.reports) in
    record {
      settled = settled_never (Lines job) 5 left later (Gets og o2) (Gets eg e2) (λ final. omega (arith, final));
      reads = λ broken. absurd (omega (arith, broken));
      fronts = λ _ input reads o has. elim reads [
        | inl told ↦
            let same : input ≡ f.taken = input_is left later f.taken input told f.takes end in
            let verdicts : AreVerdicts job (lines ++ []) has.0 = subst (λ (ls : List (List ℕ)). AreVerdicts job ls has.0) (ap (lines_of (has_notes job)) same ∙ sym (append-nil lines)) has.1 in
            let rest = verdicts_front job lines [] all has.0 can g.read.verdicts verdicts in
            parts_found job all rest.0 o (Gets og o2) (Gets eg e2) (has.2 ∙ ap (outcome_of job) rest.1) out err
        | inr none ↦ absurd (none tt)
      ];
      limit = record { taken = f.taken; takes = f.takes; most = f.most; full = λ _. inl refl; endless = λ e. absurd (omega (arith, e)); whole_lines = λ broken. absurd (omega (arith, broken)) };
    }

-- The source failed, or as many bytes were taken as a run takes.
pub runs_broken : (job : Job) (lines : Cutter) (report : Report) (status : ℕ) (left later : Option (List ℕ)) (out err : List ℕ → Type 0) → Follows job lines report left later out err → ((status ≡ 4) × (bytes_fed lines < most_run_bytes)) ⊎ ((status ≡ 8) × (most_run_bytes ≤ bytes_fed lines)) → Runs (Lines job) status left later out err
runs_broken job lines report status left later out err f is =
    let fed = f.read.holds.stands.fed in
    record {
      settled = settled_never (Lines job) status left later out err (λ final. omega (arith, is, final));
      reads = λ _. tt;
      fronts = λ short. absurd (omega (arith, is, short));
      limit = record {
        taken = f.taken;
        takes = f.takes;
        most = f.most;
        full = λ e. elim is [ inl four ↦ absurd (omega (arith, fed, four, e)) | inr eight ↦ inr (inr eight.0) ];
        endless = λ e. omega (arith, is, e, fed, f.most);
        whole_lines = λ _. record {
          outcome = outcome_of job f.found;
          has = (f.found, f.read.verdicts, refl);
          wrote_out = f.out;
          wrote_err = f.err;
        };
      };
    }

-- A run begins.
pub follows_none : (job : Job) (lines : Cutter) (report : Report) (left og eg : Option (List ℕ)) → Stands lines [] 0 → may_have_notes lines ≡ has_notes job → is_finished lines ≡ false → least_room ≤ room_of lines → report.count ≡ 0 → report.is_partial ≡ false → report.out ≡ [] → report.err ≡ [] → Follows job lines report left left (Gets og og) (Gets eg eg)
follows_none job lines report left og eg stands notes unended room count partial out err = record {
  taken = [];
  found = [];
  read = record { holds = record { notes = notes; over_is = unended; stands = stands; count = count }; verdicts = tt; room = room };
  takes = takes_none left;
  most = omega arith;
  listed = partial;
  no_out = out;
  no_err = err;
  out = gets_none og;
  err = gets_none eg;
}

-- A pull that takes nothing.
pub follows_pull : (job : Job) (lines : Cutter) (report : Report) (left later now : Option (List ℕ)) (out err : List ℕ → Type 0) → Follows job lines report left later out err → Takes later now [] → Follows job lines report left now out err
follows_pull job lines report left later now out err f none = record {
  taken = f.taken;
  found = f.found;
  read = f.read;
  takes = subst (Takes left now) (append-nil f.taken) (takes_both left later now f.taken [] f.takes none);
  most = f.most;
  listed = f.listed;
  no_out = f.no_out;
  no_err = f.no_err;
  out = f.out;
  err = f.err;
}

pub at_end_later : (later now : Option (List ℕ)) → IsAtEnd later → Takes later now [] → IsAtEnd now
at_end_later None None end none = tt
at_end_later None (Some ys) end none = absurd none
at_end_later (Some xs) None end none = absurd none
at_end_later (Some xs) (Some ys) end none = sym none ∙ end

pub part_none : (text : List ℕ) (o : Option (List ℕ)) → WritesPart text (Gets o o)
part_none text o = ([], (text, refl), gets_none o)

-- Nothing was taken.
limit_none : (c : Command) (status : ℕ) (left : Option (List ℕ)) (out err : List ℕ → Type 0) → (IsCut status → ⊥) → KeepsLimit c status left left out err
limit_none c status left out err never = record {
  taken = [];
  takes = takes_none left;
  most = omega arith;
  full = λ h. absurd (omega (arith, h));
  endless = λ h. absurd (never (inr h));
  whole_lines = λ broken. absurd (never broken);
}

-- There was no memory to read the words.
pub runs_nothing : (c : Command) (left o e : Option (List ℕ)) → Runs c 6 left left (Gets o o) (Gets e e)
runs_nothing c left o e = record {
  settled = settled_never c 6 left left (Gets o o) (Gets e e) (λ final. omega (arith, final));
  reads = λ broken. absurd (omega (arith, broken));
  fronts = λ _ input reads outcome has. (part_none outcome.out o, part_none outcome.err e);
  limit = limit_none c 6 left (Gets o o) (Gets e e) (λ broken. omega (arith, broken));
}

-- What a command that takes no input has as its one outcome.
pub record IsTold (c : Command) (o : Outcome) : Type 0 where
  pub has : (input : List ℕ) → HasOutcome c input o
  pub only : (input : List ℕ) (other : Outcome) → HasOutcome c input other → other ≡ o
  pub takes_none : TakesInput c → ⊥
  pub good : (o.status ≤ 3) ⊎ (o.status ≡ 7)

-- The text was written on `out`.
runs_said_out : (c : Command) (o : Outcome) (status : ℕ) (left e : Option (List ℕ)) (out : List ℕ → Type 0) → IsTold c o → o.err ≡ [] → Says o.status status o.out out → (status ≡ o.status) ⊎ (status ≡ 5) → Runs c status left left out (Gets e e)
runs_said_out c o status left e out told none says known =
    let good = told.good in record {
      settled = record {
        ends = λ final input reads.
            let same : status ≡ o.status = elim known [ inl same ↦ same | inr five ↦ absurd (omega (arith, final, five)) ] in record {
              outcome = o;
              has = told.has input;
              status_is = same;
              wrote_out = says.whole same;
              wrote_err = subst (Gets e e) (sym none) (gets_none e);
            };
        at_end = λ final takes. absurd (told.takes_none takes);
      };
      reads = λ broken. absurd (omega (arith, broken, known, good));
      fronts = λ _ input reads outcome has. (subst (λ (w : Outcome). WritesPart w.out out) (sym (told.only input outcome has)) says.part, part_none outcome.err e);
      limit = limit_none c status left out (Gets e e) (λ broken. omega (arith, broken, known, good));
    }

-- The text was written on `err`.
runs_said_err : (c : Command) (o : Outcome) (status : ℕ) (left f : Option (List ℕ)) (err : List ℕ → Type 0) → IsTold c o → o.out ≡ [] → Says o.status status o.err err → (status ≡ o.status) ⊎ (status ≡ 5) → Runs c status left left (Gets f f) err
runs_said_err c o status left f err told none says known =
    let good = told.good in record {
      settled = record {
        ends = λ final input reads.
            let same : status ≡ o.status = elim known [ inl same ↦ same | inr five ↦ absurd (omega (arith, final, five)) ] in record {
              outcome = o;
              has = told.has input;
              status_is = same;
              wrote_out = subst (Gets f f) (sym none) (gets_none f);
              wrote_err = says.whole same;
            };
        at_end = λ final takes. absurd (told.takes_none takes);
      };
      reads = λ broken. absurd (omega (arith, broken, known, good));
      fronts = λ _ input reads outcome has. (part_none outcome.out f, subst (λ (w : Outcome). WritesPart w.err err) (sym (told.only input outcome has)) says.part);
      limit = limit_none c status left (Gets f f) err (λ broken. omega (arith, broken, known, good));
    }

part_nothing : (text : List ℕ) (appended : List ℕ → Type 0) → appended [] → WritesPart text appended
part_nothing text appended none = ([], (text, refl), none)

-- There was no memory for a text, and nothing was written.
pub runs_untold : (c : Command) (left : Option (List ℕ)) (out err : List ℕ → Type 0) → out [] → err [] → Runs c 6 left left out err
runs_untold c left out err no_out no_err = record {
  settled = settled_never c 6 left left out err (λ final. omega (arith, final));
  reads = λ broken. absurd (omega (arith, broken));
  fronts = λ _ input reads outcome has. (part_nothing outcome.out out no_out, part_nothing outcome.err err no_err);
  limit = limit_none c 6 left out err (λ broken. omega (arith, broken));
}

-- A text was told on `out`, where there was memory for it.
pub runs_text_out : (c : Command) (o : Outcome) (status : ℕ) (left e : Option (List ℕ)) (text : Result (List ℕ) OutOfMemory) (out : List ℕ → Type 0) → IsTold c o → o.err ≡ [] → IfOk text (λ t. t ≡ o.out) → TellsText o.status status text out → Runs c status left left out (Gets e e)
runs_text_out c o status left e (Ok text) out told none is says = runs_said_out c o status left e out told none (subst (λ (t : List ℕ). Says o.status status t out) is says.0) says.1
runs_text_out c o status left e (Err memory) out told none is says = subst (λ (s : ℕ). Runs c s left left out (Gets e e)) (sym says.0) (runs_untold c left out (Gets e e) says.1 (gets_none e))

-- A text was told on `err`, where there was memory for it.
pub runs_text_err : (c : Command) (o : Outcome) (status : ℕ) (left f : Option (List ℕ)) (text : Result (List ℕ) OutOfMemory) (err : List ℕ → Type 0) → IsTold c o → o.out ≡ [] → IfOk text (λ t. t ≡ o.err) → TellsText o.status status text err → Runs c status left left (Gets f f) err
runs_text_err c o status left f (Ok text) err told none is says = runs_said_err c o status left f err told none (subst (λ (t : List ℕ). Says o.status status t err) is says.0) says.1
runs_text_err c o status left f (Err memory) err told none is says = subst (λ (s : ℕ). Runs c s left left (Gets f f) err) (sym says.0) (runs_untold c left (Gets f f) err (gets_none f) says.1)

pub told_readable : (slots : ℕ) → IsTold (Readable slots) (told_out 0 (codes "readable " ++ decimal slots))
told_readable slots = record { has = λ input. refl; only = λ input other h. h; takes_none = λ h. h; good = inl (omega arith) }

pub told_witness : (confusion : Confusion) → IsTold (Witness confusion) (told_out 1 (witness_text confusion))
told_witness confusion = record { has = λ input. refl; only = λ input other h. h; takes_none = λ h. h; good = inl (omega arith) }

pub told_shown : (format : Shape) → IsTold (Show format) (shown format)
told_shown format = record { has = λ input. refl; only = λ input other h. h; takes_none = λ h. h; good = inl (omega arith) }

pub good_status : (refusal : Refusal) → (refusal_status refusal ≤ 3) ⊎ (refusal_status refusal ≡ 7)
good_status refusals.BadWords = inl (omega arith)
good_status (refusals.BadFormat which place cause) = inl (omega arith)
good_status (refusals.BadNarrowing which fault) = inl (omega arith)
good_status (refusals.BadMap fault) = inl (omega arith)
good_status (refusals.TooLarge size) = inr refl
good_status (refusals.NoteLine rec) = inl (omega arith)
good_status (refusals.Confused confusion) = inl (omega arith)

pub told_refused : (refusal : Refusal) → IsTold (Refuse refusal) (told_err (refusal_status refusal) (refusal_text refusal))
told_refused refusal = record { has = λ input. refl; only = λ input other h. h; takes_none = λ h. h; good = good_status refusal }

-- Each clause of a run is a part of what the run does.
pub cut_part : (c : Command) (status : ℕ) (left later : Option (List ℕ)) (s0 s1 o0 o1 e0 e1 : ℕ) (out err : List ℕ → Type 0) → Runs c status left later out err → Tells status s0 s1 o0 o1 e0 e1 → IsCutStream c status left later s0 s1 out err
cut_part c status left later s0 s1 o0 o1 e0 e1 out err r t = record {
  reads = r.reads;
  fault = t.source;
  no_fault = t.source_kept;
  taken = r.limit.taken;
  takes = r.limit.takes;
  most = r.limit.most;
  full = r.limit.full;
  endless = r.limit.endless;
  whole_lines = r.limit.whole_lines;
}

pub sink_part : (c : Command) (status : ℕ) (left later : Option (List ℕ)) (s0 s1 o0 o1 e0 e1 : ℕ) (out err : List ℕ → Type 0) → Runs c status left later out err → Tells status s0 s1 o0 o1 e0 e1 → IsSinkFault c status left o0 o1 e0 e1 out err
sink_part c status left later s0 s1 o0 o1 e0 e1 out err r t = record { cause = t.sink; no_fault = t.sinks_kept; fronts = λ five. r.fronts (inl five) }

pub memory_part : (c : Command) (status : ℕ) (left later : Option (List ℕ)) (out err : List ℕ → Type 0) → Runs c status left later out err → IsNoMemory c status left out err
memory_part c status left later out err r = λ six. r.fronts (inr six)

-- Where no count of faults rose, the run comes to its end or had no memory.
run_ends : (c : Command) (status : ℕ) (left later : Option (List ℕ)) (out err : List ℕ → Type 0) (s0 s1 o0 o1 e0 e1 : ℕ) (bytes : List ℕ) → Runs c status left later out err → Tells status s0 s1 o0 o1 e0 e1 → (Rose s0 s1 → ⊥) → (Rose o0 o1 → ⊥) → (Rose e0 e1 → ⊥) → Reads c left bytes → length bytes < most_run_bytes → IsFinal status ⊎ (status ≡ 6)
run_ends c status left later out err s0 s1 o0 o1 e0 e1 bytes r t no_s no_o no_e reads short =
    let not_four : status ≡ 4 → ⊥ = λ h. no_s (t.source h) in
    let not_five : status ≡ 5 → ⊥ = λ h. elim (t.sink h) [ inl a ↦ no_o a | inr b ↦ no_e b ] in
    let not_eight : status ≡ 8 → ⊥ = λ h. elim reads [
      | inl told ↦
          let rest = takes_front left later r.limit.taken bytes told r.limit.takes in
          omega (arith, r.limit.endless h, ap length rest.1, length-append r.limit.taken rest.0, short)
      | inr none ↦ none (r.reads (inr h))
    ] in
    let known = t.known in
    elim (cases_lt status 4) [
      | inl low ↦ inl (inl (omega (arith, low)))
      | inr high ↦ elim (cases_eq status 6) [
        | inl six ↦ inr six
        | inr other ↦ elim (cases_eq status 7) [
          | inl seven ↦ inl (inr seven)
          | inr last ↦
              let eight : status ≡ 8 = omega (arith, high, other, last, known, not_four, not_five) in
              absurd (not_eight eight)
        ]
      ]
    ]

pub complete_part : (c : Command) (status : ℕ) (left later : Option (List ℕ)) (s0 s1 o0 o1 e0 e1 : ℕ) (out err : List ℕ → Type 0) → Runs c status left later out err → Tells status s0 s1 o0 o1 e0 e1 → (Rose s0 s1 → ⊥) → (Rose o0 o1 → ⊥) → (Rose e0 e1 → ⊥) → IsComplete c status left
complete_part c status left later s0 s1 o0 o1 e0 e1 out err r t no_s no_o no_e = λ input reads short. elim (run_ends c status left later out err s0 s1 o0 o1 e0 e1 input r t no_s no_o no_e reads short) [
  | inl final ↦ let e = r.settled.ends final input reads in inl (record { outcome = e.outcome; has = e.has; status_is = e.status_is })
  | inr six ↦ inr six
]

-- At another status no count has changed.
pub tells_quiet : (status s o e : ℕ) → status ≤ 8 → (status ≡ 4 → ⊥) → (status ≡ 5 → ⊥) → Tells status s s o o e e
tells_quiet status s o e known not_four not_five = record {
  source = λ four. absurd (not_four four);
  sink = λ five. absurd (not_five five);
  known = known;
  source_kept = λ _. refl;
  sinks_kept = λ _. (refl, refl);
}

pub tells_nothing : (s o e : ℕ) → Tells 6 s s o o e e
tells_nothing s o e = tells_quiet 6 s o e (omega arith) (λ h. absurd (omega (arith, h))) (λ h. absurd (omega (arith, h)))

-- What is told by the sinks' counts, where the source had no fault.
pub tells_sinks : (status s0 s1 o0 o1 e0 e1 : ℕ) → s1 ≡ s0 → HasCauses o0 o1 e0 e1 (status ≡ 5) → (status ≡ 4 → ⊥) → status ≤ 8 → Tells status s0 s1 o0 o1 e0 e1
tells_sinks status s0 s1 o0 o1 e0 e1 same causes not_four known = record {
  source = λ four. absurd (not_four four);
  sink = causes.cause;
  known = known;
  source_kept = λ _. same;
  sinks_kept = causes.kept;
}

-- What is told at a fault of the source.
pub tells_source : (s0 s1 o e : ℕ) → Rose s0 s1 → Tells 4 s0 s1 o o e e
tells_source s0 s1 o e rose = record {
  source = λ _. rose;
  sink = λ five. absurd (omega (arith, five));
  known = omega arith;
  source_kept = λ other. absurd (other refl);
  sinks_kept = λ _. (refl, refl);
}

-- What is told after counts that have stayed so far.
pub tells_on : (status s s0 s1 o o0 o1 e e0 e1 : ℕ) → s0 ≡ s → o0 ≡ o → e0 ≡ e → Tells status s0 s1 o0 o1 e0 e1 → Tells status s s1 o o1 e e1
tells_on status s s0 s1 o o0 o1 e e0 e1 p q r t =
    subst (λ (x : ℕ). Tells status x s1 o o1 e e1) p (subst (λ (y : ℕ). Tells status s0 s1 y o1 e e1) q (subst (λ (z : ℕ). Tells status s0 s1 o0 o1 z e1) r t))

told_status : (good status : ℕ) (text : Result (List ℕ) OutOfMemory) (appended : List ℕ → Type 0) → TellsText good status text appended → (status ≡ good) ⊎ (status ≡ 5) ⊎ (status ≡ 6)
told_status good status (Ok text) appended h = elim h.1 [ inl a ↦ inl a | inr b ↦ inr (inl b) ]
told_status good status (Err memory) appended h = inr (inr h.0)

-- What is told by a text on one sink.
pub tells_out : (good status s o0 o1 e : ℕ) (text : Result (List ℕ) OutOfMemory) (appended : List ℕ → Type 0) → (good ≤ 3) ⊎ (good ≡ 7) → TellsText good status text appended → HasCause o0 o1 (status ≡ 5) → Tells status s s o0 o1 e e
tells_out good status s o0 o1 e text appended good_is says cause =
    let known : (status ≡ good) ⊎ (status ≡ 5) ⊎ (status ≡ 6) = told_status good status text appended says in
    tells_sinks status s s o0 o1 e e refl
    (record { out_later = cause.later; err_later = omega arith; cause = λ five. inl (cause.cause five); kept = λ other. (cause.kept other, refl) })
    (λ four. omega (arith, four, known, good_is)) (omega (arith, known, good_is))

pub tells_err : (good status s o e0 e1 : ℕ) (text : Result (List ℕ) OutOfMemory) (appended : List ℕ → Type 0) → (good ≤ 3) ⊎ (good ≡ 7) → TellsText good status text appended → HasCause e0 e1 (status ≡ 5) → Tells status s s o o e0 e1
tells_err good status s o e0 e1 text appended good_is says cause =
    let known : (status ≡ good) ⊎ (status ≡ 5) ⊎ (status ≡ 6) = told_status good status text appended says in
    tells_sinks status s s o o e0 e1 refl
    (record { out_later = omega arith; err_later = cause.later; cause = λ five. inr (cause.cause five); kept = λ other. (refl, cause.kept other) })
    (λ four. omega (arith, four, known, good_is)) (omega (arith, known, good_is))
