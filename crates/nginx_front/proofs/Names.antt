-- What reading a name answers is what is found.
use Rattle.std.proofs.Common.{◌≡◌, ℕ, ◌+◌, ◌<◌, ◌&&◌, ◌||◌, true, false, cond, eqb, leb, List, [], ◌∷◌, ◌++◌, length, take, drop, Result, Ok, Err, refl, sym, ap, subst, ◌∙◌, length-append, arith, inl, inr}
use Rattle.std.specs.Prelude.{All}
use Rattle.std.specs.List.{list_all}
use Rattle.std.specs.Str.{IsUtf8}
use Rattle.std.proofs.Math.Dec.{eqb-suc-zero}
use Rattle.std.proofs.lemmas.Bool.{eqb-true, leb-true, and_parts, or_cases}
use Rattle.std.proofs.lemmas.Str.{IsUtf8-from_ascii}
use Rattle.std.proofs.lemmas.Str.Ascii.{IsAscii-from_all}
use Rattle.std.proofs.lemmas.List.{take_at, drop_at}
use Rattle.std.proofs.lemmas.List.Elements.{All-nil, All-cons}
use Rattle.lf_spelling.specs.Runs.{run, past}
use Rattle.lf_spelling.specs.RunLaws.{run_join}
use Rattle.lf_spelling.specs.Items.{Failed}
use Rattle.lf_spelling.specs.declared.fault.Cause.{Cause}
use Rattle.lf_spelling.specs.declared.fault.Cause.TheVariants.{Unclosed, BadName}
use Rattle.lf_spelling.specs.declared.fault.ItemFault.{ItemFault}
use Rattle.lf_spelling.specs.declared.fault.ItemFault.TheVariants as fault
use Rattle.lf_spelling.specs.declared.item_reader.Taken.{Taken}
use Rattle.lf_spelling.specs.declared.item_reader.Given.{Given}
use Rattle.lf_spelling.specs.declared.item_reader.Given.TheVariants.{Slot}
use Rattle.nginx_front.specs.declared.front.Nginx.{Nginx}
use Rattle.nginx_front.specs.declared.table.Escape.{Escape}
use Rattle.nginx_front.specs.Variables.{is_word, is_name, is_inside, spelling, braced_spelling, slot_of}
use Rattle.nginx_front.specs.Reading.{found, on_name, on_bare, on_closed, on_braced, Gives, GivesName}
use Rattle.nginx_front.specs.FoundLaws.{closed_parts}

-- a name that is spelled in so many bytes, and what follows
pub name_gives : (escape : Escape) (text bytes name after : List ℕ) (len : ℕ) (result : Result Taken ItemFault) → text ≡ bytes ++ after → len ≡ length bytes → GivesName escape name len result → Gives escape (on_name (record { escape = escape }) bytes name after) text result
name_gives escape text bytes name after len (Err fault.OutOfMemory) parts is h = tt
name_gives escape text bytes name after len (Err (fault.Fault cause)) parts is h =
    ap (λ v. cond v (found (record { escape = escape }) bytes (Slot (slot_of escape name)) after) (Failed BadName)) h.0 ∙ ap (λ (c : Cause). Failed c) (sym h.1)
name_gives escape text bytes name after len (Ok taken) parts is h =
    let same : length bytes ≡ taken.len = sym (h.1 ∙ is) in
    let front : take taken.len text ≡ bytes = ap (take taken.len) parts ∙ take_at bytes after taken.len same in
    let back : drop taken.len text ≡ after = ap (drop taken.len) parts ∙ drop_at bytes after taken.len same in
    let read : on_name (record { escape = escape }) bytes name after ≡ found (record { escape = escape }) bytes (Slot (slot_of escape name)) after = ap (λ v. cond v (found (record { escape = escape }) bytes (Slot (slot_of escape name)) after) (Failed BadName)) h.0 in (
      omega (arith, same, ap length parts, length-append bytes after),
      read ∙ ap (λ (t : List ℕ). found (record { escape = escape }) t (Slot (slot_of escape name)) after) (sym front) ∙ ap (λ (g : Given). found (record { escape = escape }) (take taken.len text) g after) (sym h.2) ∙ ap (λ (t : List ℕ). found (record { escape = escape }) (take taken.len text) taken.given t) (sym back),
    )

word_low : (b : ℕ) → is_word b ≡ true → b < 128
word_low b h = elim (or_cases ((leb 48 b && leb b 57) || (leb 65 b && leb b 90) || (leb 97 b && leb b 122)) (eqb b 95) h) [
  | inl h ↦ elim (or_cases ((leb 48 b && leb b 57) || (leb 65 b && leb b 90)) (leb 97 b && leb b 122) h) [
    | inl h ↦ elim (or_cases (leb 48 b && leb b 57) (leb 65 b && leb b 90) h) [
      | inl h ↦ omega (arith, leb-true b 57 (and_parts (leb 48 b) (leb b 57) h).1)
      | inr h ↦ omega (arith, leb-true b 90 (and_parts (leb 65 b) (leb b 90) h).1)
    ]
    | inr h ↦ omega (arith, leb-true b 122 (and_parts (leb 97 b) (leb b 122) h).1)
  ]
  | inr e ↦ omega (arith, eqb-true b 95 e)
]

words_low : (name : List ℕ) → list_all is_word name ≡ true → All (λ b. b < 128) name
words_low [] h = All-nil (λ b. b < 128)
words_low (b ∷ name) h = let both = and_parts (is_word b) (list_all is_word name) h in All-cons (λ b. b < 128) b name (word_low b both.0) (words_low name both.1)

-- A name is text.
pub name_text : (name : List ℕ) → is_name name ≡ true → IsUtf8 name
name_text [] h = absurd cc
name_text (b ∷ name) h = IsUtf8-from_ascii (b ∷ name) (IsAscii-from_all (b ∷ name) (words_low (b ∷ name) h))

-- ---- by what follows a dollar sign

pub bare_gives : (escape : Escape) (text name : List ℕ) (len : ℕ) (result : Result Taken ItemFault) → name ≡ run is_word text → len ≡ length name + 1 → GivesName escape name len result → Gives escape (on_bare (record { escape = escape }) text) (36 ∷ text) result
bare_gives escape text name len result is size h =
    name_gives escape (36 ∷ text) (spelling (run is_word text)) (run is_word text) (past is_word text) len result (ap (λ (t : List ℕ). 36 ∷ t) (sym (run_join is_word text))) (omega (arith, size, ap length is)) (subst (λ (n : List ℕ). GivesName escape n len result) is h)

pub braced_gives : (escape : Escape) (text name closed : List ℕ) (len : ℕ) (result : Result Taken ItemFault) → name ≡ run is_inside text → closed ≡ past is_inside text → eqb (length closed) 0 ≡ false → len ≡ length name + 3 → GivesName escape name len result → Gives escape (on_braced (record { escape = escape }) text) (36 ∷ 123 ∷ text) result
braced_gives escape text name [] len result is shut some size h = absurd cc
braced_gives escape text name (b ∷ after) len result is shut some size h =
    let n : List ℕ = run is_inside text in
    let told : GivesName escape (run is_inside text) len result = subst (λ (n : List ℕ). GivesName escape n len result) is h in
    let long : len ≡ length (braced_spelling (run is_inside text)) = omega (arith, size, ap length is, length-append (run is_inside text) (125 ∷ [])) in
    let read = name_gives escape (36 ∷ 123 ∷ text) (braced_spelling (run is_inside text)) (run is_inside text) after len result (closed_parts text b after (sym shut)) long told in
    subst (λ (t : List ℕ). Gives escape (on_closed (record { escape = escape }) (run is_inside text) t) (36 ∷ 123 ∷ text) result) shut read

pub open_fails : (state : Nginx) (text closed : List ℕ) → closed ≡ past is_inside text → eqb (length closed) 0 ≡ true → on_braced state text ≡ Failed Unclosed
open_fails state text [] shut none = ap (on_closed state (run is_inside text)) (sym shut)
open_fails state text (b ∷ after) shut none = absurd (let wrong : false ≡ true = sym (eqb-suc-zero (length after)) ∙ none in cc)

pub name_is : (name : List ℕ) → eqb (length name) 0 ≡ false → list_all is_word name ≡ is_name name
name_is [] some = absurd cc
name_is (b ∷ name) some = refl
