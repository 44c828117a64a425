-- The longest run at the start of a text, and what follows it.
use Rattle.std.proofs.Common.{◌≡◌, ℕ, ◌≤◌, ◌+◌, Bool, true, false, cond, not, eqb, List, [], ◌∷◌, ◌++◌, length, take, drop, refl, sym, ap, ◌∙◌, length-append, arith}
use Rattle.std.specs.List.{list_all, prefix_len}
use Rattle.std.proofs.lemmas.Bool.{cond_both, and_parts, not-true, ne_eqb}
use Rattle.std.proofs.lemmas.List.{take_at, drop_at}
use Rattle.lf_spelling.specs.Runs.{run, past, stops}

-- Both parts together are the text.
pub run_join : (p : ℕ → Bool) (text : List ℕ) → run p text ++ past p text ≡ text
run_join p [] = refl
run_join p (b ∷ text) = elim (p b) as (λ v. cond v (b ∷ run p text) [] ++ cond v (past p text) (b ∷ text) ≡ b ∷ text) [ true ↦ ap (λ (t : List ℕ). b ∷ t) (run_join p text) | false ↦ refl ]

-- Each byte of the run passes the test.
pub run_all : (p : ℕ → Bool) (text : List ℕ) → list_all p (run p text) ≡ true
run_all p [] = refl
run_all p (b ∷ text) = cond_both (p b) (b ∷ run p text) [] (λ t. list_all p t ≡ true) (λ e. rw e (run_all p text)) (λ e. refl)

-- What follows begins with a byte that does not.
pub past_stop : (p : ℕ → Bool) (text : List ℕ) (c : ℕ) (more : List ℕ) → past p text ≡ c ∷ more → p c ≡ false
past_stop p [] c more e = absurd cc
past_stop p (b ∷ text) c more e = cond_both (p b) (past p text) (b ∷ text) (λ t. t ≡ c ∷ more → p c ≡ false) (λ h k. past_stop p text c more k) (λ h k. let is : b ≡ c = cc in rw (sym is) h) e

-- The two parts of a cut are these.
pub record IsCut (front back text after : List ℕ) : Type 0 where
  pub front_is : front ≡ text
  pub back_is : back ≡ after

-- Bytes that pass the test are the whole run before such a text.
pub run_again : (p : ℕ → Bool) (a text : List ℕ) → list_all p a ≡ true → stops p text ≡ true → IsCut (run p (a ++ text)) (past p (a ++ text)) a text
run_again p [] [] all stop = record { front_is = refl; back_is = refl }
run_again p [] (b ∷ text) all stop = let hno = not-true (p b) stop in record { front_is = ap (λ v. cond v (b ∷ run p text) []) hno; back_is = ap (λ v. cond v (past p text) (b ∷ text)) hno }
run_again p (x ∷ a) text all stop =
    let both = and_parts (p x) (list_all p a) all in
    let more = run_again p a text both.1 stop in
    record { front_is = ap (λ v. cond v (x ∷ run p (a ++ text)) []) both.0 ∙ ap (λ (t : List ℕ). x ∷ t) more.front_is; back_is = ap (λ v. cond v (past p (a ++ text)) (x ∷ (a ++ text))) both.0 ∙ more.back_is }

-- how many bytes the run has
pub run_len : (p : ℕ → Bool) (text : List ℕ) → prefix_len p text ≡ length (run p text)
run_len p [] = refl
run_len p (b ∷ text) = elim (p b) as (λ v. cond v (1 + prefix_len p text) 0 ≡ length (cond v (b ∷ run p text) [])) [ true ↦ (let e = run_len p text in omega arith) | false ↦ refl ]

-- The bytes of the run are so many,
pub run_fits : (p : ℕ → Bool) (text : List ℕ) → prefix_len p text ≤ length text
run_fits p text = omega (arith, run_len p text, ap length (run_join p text), length-append (run p text) (past p text))

-- the first ones are the run,
pub run_front : (p : ℕ → Bool) (text : List ℕ) → take (prefix_len p text) text ≡ run p text
run_front p text = ap (take (prefix_len p text)) (sym (run_join p text)) ∙ take_at (run p text) (past p text) (prefix_len p text) (sym (run_len p text))

-- and the others are what follows it.
pub run_back : (p : ℕ → Bool) (text : List ℕ) → drop (prefix_len p text) text ≡ past p text
run_back p text = ap (drop (prefix_len p text)) (sym (run_join p text)) ∙ drop_at (run p text) (past p text) (prefix_len p text) (sym (run_len p text))

-- A cut after so many bytes is the cut after the run.
pub run_taken : (p : ℕ → Bool) (text : List ℕ) (n : ℕ) → n ≡ prefix_len p text → (take n text ≡ run p text) × (drop n text ≡ past p text) × (n ≤ length text)
run_taken p text n is = (ap (λ (k : ℕ). take k text) is ∙ run_front p text, ap (λ (k : ℕ). drop k text) is ∙ run_back p text, omega (arith, is, run_fits p text))

-- A byte that passes the test is not one that does not.
pub apart : (p : ℕ → Bool) (a b : ℕ) → p a ≡ true → p b ≡ false → eqb a b ≡ false
apart p a b hyes hno = ne_eqb a b (λ e. let same : true ≡ false = sym hyes ∙ ap p e ∙ hno in absurd cc)
