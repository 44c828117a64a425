-- The verdicts of lines, and the texts of what was found.
use Rattle.std.proofs.Common.{◌≡◌, ℕ, suc, ◌+◌, Bool, true, false, ◌||◌, List, [], ◌∷◌, ◌++◌, length, refl, sym, ap, arith, append_assoc, add-zero, subst, ◌∙◌}
use Rattle.std.proofs.lemmas.List.{append-nil}
use Rattle.std.proofs.lemmas.List.Concat.{flat_map-append}
use Rattle.lf_stream.specs.Sorts.{sort_of}
use Rattle.lf_stream.specs.declared.marks.Sort.{Sort}
use Rattle.lf_stream.specs.declared.marks.Sort.TheVariants as sort
use Rattle.lf_app.specs.declared.commands.Job.{Job}
use Rattle.lf_app.specs.declared.verdict.Verdict.{Verdict}
use Rattle.lf_app.specs.declared.verdict.Verdict.TheVariants.{Note, Long, Found}
use Rattle.lf_app.specs.declared.verdict.Finding.{Finding}
use Rattle.lf_app.specs.declared.verdict.Finding.TheVariants.{Read, Unread, Given, Bad, Turned, Unmapped}
use Rattle.lf_app.specs.declared.commands.Job.TheVariants as jobs
use Rattle.std.specs.Prelude.{Ok, Err}
use Rattle.lf_core.specs.declared.values.Value.{Value}
use Rattle.lf_format.specs.Keeps.{slots_in}
use Rattle.lf_format.specs.Lines.{IsReadable, line_text}
use Rattle.lf_expression.specs.Exprs.{Expr}
use Rattle.lf_map.specs.Filling.{Answer, blank}
use Rattle.lf_map.specs.Letters.{parts_of}
use Rattle.lf_map.specs.Mapped.{Mapped, Makes}
use Rattle.lf_map.specs.Mapped as mapped
use Rattle.lf_map.proofs.Answered.{answer_one}
use Rattle.lf_map.proofs.Records.{mapped_one}
use Rattle.lf_translate.specs.Translations.{Plan, MapsBy, TurnsTo}
use Rattle.lf_json.proofs.OneReading.{one_reading}
use Rattle.lf_app.specs.declared.report.Report.{Report}
use Rattle.lf_scan.specs.Reads.{ReadsLine}
use Rattle.lf_stream.specs.Marks.{IsBody}
use Rattle.lf_stream.specs.declared.marks.Body.{Body}
use Rattle.lf_format.specs.Lines.{Prints}
use Rattle.lf_format.specs.Shape.{Shape}
use Rattle.lf_json.specs.Text.{json_text}
use Rattle.lf_app.specs.Progress.{CanWork, Reports, SameTexts, Says}
use Rattle.lf_app.proofs.Equality.{same_record}
use Rattle.lf_app.specs.Verdicts.{has_notes, IsFound, IsVerdict, AreVerdicts, out_of, err_of, out_text, err_text, is_listed, any_listed}

-- A line is of one sort.
note_or_long : (s : Sort) → s ≡ sort.Note → s ≡ sort.Long → ⊥
note_or_long s p q = cc

note_or_line : (s : Sort) → s ≡ sort.Note → s ≡ sort.Line → ⊥
note_or_line s p q = cc

long_or_line : (s : Sort) → s ≡ sort.Long → s ≡ sort.Line → ⊥
long_or_line s p q = cc

same_exprs : (a b : List Expr) → ◌≡◌ {A = Answer} (Ok a) (Ok b) → a ≡ b
same_exprs a b e = cc

maps_one : (plan : Plan) (a b : List Expr) → MapsBy plan a → MapsBy plan b → a ≡ b
maps_one plan a b p q =
    same_exprs a b (answer_one (slots_in plan.source.pieces) (slots_in plan.target.pieces) plan.map (parts_of plan.map) (blank (length (slots_in plan.target.pieces))) (Ok a) (Ok b) p q)

-- A line of a readable source is turned to one thing.
turned_one : (plan : Plan) (line : List ℕ) (a b : Mapped) → IsReadable plan.source.pieces → TurnsTo plan line a → TurnsTo plan line b → a ≡ b
turned_one plan line a b can p q =
    let read : p.read ≡ q.read = same_record p.read q.read (λ differ. can p.read q.read line (record { left = p.prints; right = q.prints; differ = differ })) in
    let exprs = maps_one plan p.exprs q.exprs p.maps q.maps in
    let makes = subst (λ (e : List Expr). Makes plan.target.pieces e q.read a) exprs (subst (λ (r : List Value). Makes plan.target.pieces p.exprs r a) read p.makes) in
    mapped_one plan.target.pieces q.exprs q.read a b makes q.makes

same_made : (a b : List Value) → ◌≡◌ {A = Mapped} (mapped.Rec a) (mapped.Rec b) → a ≡ b
same_made a b e = cc

same_slot : (a b : ℕ) → ◌≡◌ {A = Mapped} (mapped.Unmapped a) (mapped.Unmapped b) → a ≡ b
same_slot a b e = cc

made_or_not : (a : List Value) (k : ℕ) → ◌≡◌ {A = Mapped} (mapped.Rec a) (mapped.Unmapped k) → ⊥
made_or_not a k e = cc

-- What is found of a line is one thing.
one_finding : (job : Job) (line : List ℕ) (f g : Finding) → CanWork job → IsFound job line f → IsFound job line g → f ≡ g
one_finding (jobs.Read format) line (Read r) (Read s) can p q = ap Read (same_record r s (λ differ. can r s line (record { left = p; right = q; differ = differ })))
one_finding (jobs.Read format) line (Read r) Unread can p q = absurd (q r p)
one_finding (jobs.Read format) line Unread (Read s) can p q = absurd (p s q)
one_finding (jobs.Read format) line Unread Unread can p q = refl
one_finding (jobs.Read format) line (Given r) g can p q = absurd p
one_finding (jobs.Read format) line (Bad bad) g can p q = absurd p
one_finding (jobs.Read format) line f (Given s) can p q = absurd q
one_finding (jobs.Read format) line f (Bad bad) can p q = absurd q
one_finding (jobs.Read format) line (Turned text) g can p q = absurd p
one_finding (jobs.Read format) line (Unmapped k) g can p q = absurd p
one_finding (jobs.Read format) line f (Turned text) can p q = absurd q
one_finding (jobs.Read format) line f (Unmapped k) can p q = absurd q
one_finding (jobs.Write format) line (Given r) (Given s) can p q = let same = one_reading format.pieces line (Ok r) (Ok s) p q in cc
one_finding (jobs.Write format) line (Given r) (Bad bad) can p q = let same = one_reading format.pieces line (Ok r) (Err bad) p q in cc
one_finding (jobs.Write format) line (Bad bad) (Given s) can p q = let same = one_reading format.pieces line (Err bad) (Ok s) p q in cc
one_finding (jobs.Write format) line (Bad bad) (Bad other) can p q = let same = one_reading format.pieces line (Err bad) (Err other) p q in cc
one_finding (jobs.Write format) line (Read r) g can p q = absurd p
one_finding (jobs.Write format) line Unread g can p q = absurd p
one_finding (jobs.Write format) line f (Read s) can p q = absurd q
one_finding (jobs.Write format) line f Unread can p q = absurd q
one_finding (jobs.Write format) line (Turned text) g can p q = absurd p
one_finding (jobs.Write format) line (Unmapped k) g can p q = absurd p
one_finding (jobs.Write format) line f (Turned text) can p q = absurd q
one_finding (jobs.Write format) line f (Unmapped k) can p q = absurd q
one_finding (jobs.Translate plan) line (Turned a) (Turned b) can p q =
    let made = same_made p.0 q.0 (turned_one plan line (mapped.Rec p.0) (mapped.Rec q.0) can p.1 q.1) in
    ap Turned (p.2 ∙ ap (λ (r : List Value). line_text plan.target.pieces r) made ∙ sym q.2)
one_finding (jobs.Translate plan) line (Turned a) (Unmapped k) can p q =
    absurd (made_or_not p.0 k (turned_one plan line (mapped.Rec p.0) (mapped.Unmapped k) can p.1 q))
one_finding (jobs.Translate plan) line (Unmapped k) (Turned b) can p q =
    absurd (made_or_not q.0 k (turned_one plan line (mapped.Rec q.0) (mapped.Unmapped k) can q.1 p))
one_finding (jobs.Translate plan) line (Unmapped k) (Unmapped n) can p q =
    ap Unmapped (same_slot k n (turned_one plan line (mapped.Unmapped k) (mapped.Unmapped n) can p q))
one_finding (jobs.Translate plan) line (Turned a) Unread can p q = absurd (q p.1.read p.1.prints)
one_finding (jobs.Translate plan) line (Unmapped k) Unread can p q = absurd (q p.read p.prints)
one_finding (jobs.Translate plan) line Unread (Turned b) can p q = absurd (p q.1.read q.1.prints)
one_finding (jobs.Translate plan) line Unread (Unmapped k) can p q = absurd (p q.read q.prints)
one_finding (jobs.Translate plan) line Unread Unread can p q = refl
one_finding (jobs.Translate plan) line (Read r) g can p q = absurd p
one_finding (jobs.Translate plan) line (Given r) g can p q = absurd p
one_finding (jobs.Translate plan) line (Bad bad) g can p q = absurd p
one_finding (jobs.Translate plan) line f (Read s) can p q = absurd q
one_finding (jobs.Translate plan) line f (Given s) can p q = absurd q
one_finding (jobs.Translate plan) line f (Bad bad) can p q = absurd q

-- A line has one verdict.
pub one_verdict : (job : Job) (line : List ℕ) (v w : Verdict) → CanWork job → IsVerdict job line v → IsVerdict job line w → v ≡ w
one_verdict job line Note Note can p q = refl
one_verdict job line Note Long can p q = absurd (note_or_long (sort_of (has_notes job) line) p q)
one_verdict job line Note (Found g) can p q = absurd (note_or_line (sort_of (has_notes job) line) p q.0)
one_verdict job line Long Note can p q = absurd (note_or_long (sort_of (has_notes job) line) q p)
one_verdict job line Long Long can p q = refl
one_verdict job line Long (Found g) can p q = absurd (long_or_line (sort_of (has_notes job) line) p q.0)
one_verdict job line (Found f) Note can p q = absurd (note_or_line (sort_of (has_notes job) line) q p.0)
one_verdict job line (Found f) Long can p q = absurd (long_or_line (sort_of (has_notes job) line) q p.0)
one_verdict job line (Found f) (Found g) can p q = ap Found (one_finding job line f g can p.1 q.1)

pub verdicts_length : (job : Job) (ls : List (List ℕ)) (vs : List Verdict) → AreVerdicts job ls vs → length ls ≡ length vs
verdicts_length job [] [] p = refl
verdicts_length job [] (v ∷ vs) p = absurd p
verdicts_length job (l ∷ ls) [] p = absurd p
verdicts_length job (l ∷ ls) (v ∷ vs) p = ap suc (verdicts_length job ls vs p.1)

pub verdicts_append : (job : Job) (ls ms : List (List ℕ)) (vs ws : List Verdict) → AreVerdicts job ls vs → AreVerdicts job ms ws → AreVerdicts job (ls ++ ms) (vs ++ ws)
verdicts_append job [] ms [] ws p q = q
verdicts_append job [] ms (v ∷ vs) ws p q = absurd p
verdicts_append job (l ∷ ls) ms [] ws p q = absurd p
verdicts_append job (l ∷ ls) ms (v ∷ vs) ws p q = (p.0, verdicts_append job ls ms vs ws p.1 q)

-- The verdicts of cut_lines are the first of those of more lines.
pub verdicts_front : (job : Job) (ls ms : List (List ℕ)) (vs ws : List Verdict) → CanWork job → AreVerdicts job ls vs → AreVerdicts job (ls ++ ms) ws → (more : List Verdict) × (ws ≡ vs ++ more)
verdicts_front job [] ms [] ws one p q = (ws, refl)
verdicts_front job [] ms (v ∷ vs) ws one p q = absurd p
verdicts_front job (l ∷ ls) ms [] ws one p q = absurd p
verdicts_front job (l ∷ ls) ms (v ∷ vs) [] one p q = absurd q
verdicts_front job (l ∷ ls) ms (v ∷ vs) (w ∷ ws) one p q =
    let later = verdicts_front job ls ms vs ws one p.1 q.1 in
    (later.0, cc (one_verdict job l v w one p.0 q.0, later.1))

pub out_append : (job : Job) (vs ws : List Verdict) → out_text job (vs ++ ws) ≡ out_text job vs ++ out_text job ws
out_append job vs ws = flat_map-append (out_of job) vs ws

pub err_append : (n : ℕ) (vs ws : List Verdict) → err_text n (vs ++ ws) ≡ err_text n vs ++ err_text (n + length vs) ws
err_append n [] ws = rw add-zero refl
err_append n (v ∷ vs) ws =
    let here : n + 1 + length vs ≡ n + suc (length vs) = omega arith in
    rw (err_append (n + 1) vs ws, here) (sym (append_assoc (err_of n v) (err_text (n + 1) vs) (err_text (n + suc (length vs)) ws)))

pub or_assoc : (a b c : Bool) → (a || b) || c ≡ a || (b || c)
or_assoc true b c = refl
or_assoc false b c = refl

pub listed_append : (vs ws : List Verdict) → any_listed (vs ++ ws) ≡ any_listed vs || any_listed ws
listed_append [] ws = refl
listed_append (v ∷ vs) ws = rw (listed_append vs ws) (sym (or_assoc (is_listed v) (any_listed vs) (any_listed ws)))

pub or_false : (a : Bool) → a || false ≡ a
or_false true = refl
or_false false = refl

-- A report that hasn't grown.
pub reports_none : (job : Job) (r : Report) (n : ℕ) → Reports job r r n []
reports_none job r n = record { listed = sym (or_false r.is_partial); out = sym (append-nil r.out); err = sym (append-nil r.err) }

-- One growth after another.
pub reports_both : (job : Job) (a b c : Report) (n : ℕ) (vs ws : List Verdict) → Reports job a b n vs → Reports job b c (n + length vs) ws → Reports job a c n (vs ++ ws)
reports_both job a b c n vs ws p q = record {
  listed = rw (q.listed, p.listed, listed_append vs ws) (or_assoc a.is_partial (any_listed vs) (any_listed ws));
  out = rw (q.out, p.out, out_append job vs ws) (append_assoc a.out (out_text job vs) (out_text job ws));
  err = rw (q.err, p.err, err_append n vs ws) (append_assoc a.err (err_text n vs) (err_text (n + length vs) ws));
}

-- What is written of a line that was scanned is what is written of its record.
pub scanned : (format : Shape) (text line mid : List ℕ) (n : ℕ) (old new : Report) → sort_of format.notes line ≡ sort.Line → text ≡ line → ReadsLine format.pieces text old.out mid
    → new.is_partial ≡ old.is_partial → new.out ≡ mid ++ 10 ∷ [] → new.err ≡ old.err
    → (v : Verdict) × IsVerdict (jobs.Read format) line v × Reports (jobs.Read format) old new n (v ∷ [])
scanned format text line mid n old new is same reads listed out err =
    let json = json_text reads.rec in (
      Found (Read reads.rec),
      (is, subst (λ zs. Prints format.pieces reads.rec zs) same reads.prints),
      record {
        listed = listed ∙ sym (or_false old.is_partial);
        out = out ∙ ap (λ zs. zs ++ 10 ∷ []) reads.added ∙ append_assoc old.out json (10 ∷ []) ∙ ap (λ zs. old.out ++ zs) (sym (append-nil (json ++ 10 ∷ [])));
        err = err ∙ sym (append-nil old.err);
      },
    )

-- Where nothing was written before the verdict, it is all that is written.
pub says_after : (job : Job) (body : Body) (n : ℕ) (old mid new : Report) (said : Verdict) → SameTexts old mid → ((line : List ℕ) → IsBody (has_notes job) line body → IsVerdict job line said) → Reports job mid new n (said ∷ []) → Says job body n old new
says_after job body n old mid new said same verdict r = λ line is. (
  said,
  verdict line is,
  record {
    listed = r.listed ∙ ap (λ b. b || any_listed (said ∷ [])) same.listed;
    out = r.out ∙ ap (λ zs. zs ++ out_text job (said ∷ [])) same.out;
    err = r.err ∙ ap (λ zs. zs ++ err_text n (said ∷ [])) same.err;
  },
)
