-- The machine of places goes as its places are read one after the other.
use Rattle.std.proofs.Common.{◌≡◌, ℕ, zero, suc, ◌+◌, ◌-◌, ◌*◌, ◌/◌, ◌%◌, ◌<◌, ◌≤◌, inl, inr, List, [], ◌∷◌, Option, None, Some, Bool, true, false, cond, not, ◌&&◌, ltb, leb, ◌==◌, refl, sym, ap, subst, ◌∙◌, arith}
use Rattle.std.proofs.lemmas.Bool.Decides.{nat_tests}
use Rattle.lf_core.specs.Domain.{accepts}
use Rattle.lf_core.specs.AcceptsLaws.{accepts-step, accepts-stop, accepts-image, map_option, guarded}
use Rattle.std.specs.Prelude.{codes}
use Rattle.std.specs.List.{list_all}
use Rattle.std.proofs.Common.{get_or}
use Rattle.std.proofs.lemmas.Bool.{and_parts, cases_Bool}
use Rattle.std.proofs.lemmas.Option.{cond_some}
use Rattle.lf_layout.specs.Calendar.{days_of_month}
use Rattle.lf_layout.specs.Texts.{month_letter}
use Rattle.lf_layout.specs.Names.{first_month}
use Rattle.lf_core.specs.Choices.{below, option_cases, unwrap}
use Rattle.lf_layout.specs.Places.{number_memories, number_exits, after_number, century_class, is_digit, starts_name, goes_on, ends_name, after_name, and_then, place_memories, place_exits, after_place, point_count, shifted, next_point, is_last, is_chained, is_byte, all_bytes}
use Rattle.lf_layout.specs.declared.place.Number.{Number}
use Rattle.lf_layout.specs.declared.place.Number.TheVariants.{Hour, Minute, Century, YearOfCentury, Month, Day, NamedDay, OffsetHour, OffsetMinute}
use Rattle.lf_layout.specs.declared.place.Place.{Place}
use Rattle.lf_layout.specs.declared.place.Place.TheVariants.{Byte, Forget, Digit, Tens, Ones, Sign, NameFirst, NameSecond, NameThird}

-- the places read the letters, one each
abbrev pub run : List Place → ℕ → List ℕ → Bool
run [] memory [] = memory == 0
run [] memory (c ∷ cs) = false
run (place ∷ places) memory [] = false
run (place ∷ places) memory (c ∷ cs) = elim (after_place place memory c) [ None ↦ false | Some after ↦ run places after cs ]

pub run-step : (place : Place) (places : List Place) (memory after c : ℕ) (cs : List ℕ) → after_place place memory c ≡ Some after → run (place ∷ places) memory (c ∷ cs) ≡ run places after cs
run-step place places memory after c cs h = ap (λ (o : Option ℕ). elim o [ None ↦ false | Some after ↦ run places after cs ]) h

run-stop : (place : Place) (places : List Place) (memory c : ℕ) (cs : List ℕ) → after_place place memory c ≡ None → run (place ∷ places) memory (c ∷ cs) ≡ false
run-stop place places memory c cs h = ap (λ (o : Option ℕ). elim o [ None ↦ false | Some after ↦ run places after cs ]) h

on_first : (places : List Place) (o : Option ℕ) (cs : List ℕ) → elim o [ None ↦ false | Some after ↦ run places after cs ] ≡ true → (after : ℕ) × (o ≡ Some after) × (run places after cs ≡ true)
on_first places None cs h = cc
on_first places (Some after) cs h = (after, refl, h)

-- what is read begins with a letter of the first place
pub run-first : (place : Place) (places : List Place) (memory : ℕ) (text : List ℕ) → run (place ∷ places) memory text ≡ true → (c : ℕ) × (cs : List ℕ) × (after : ℕ) × (text ≡ c ∷ cs) × (after_place place memory c ≡ Some after) × (run places after cs ≡ true)
run-first place places memory [] h = cc
run-first place places memory (c ∷ cs) h =
    let f = on_first places (after_place place memory c) cs h in
    (c, cs, f.0, refl, f.1, f.2)

-- where each memory stays among those of the next place

number-stays : (number : Number) (memory n after : ℕ) → memory < number_memories number → n < 100 → after_number number memory n ≡ Some after → after < number_exits number
number-stays Hour memory n after h l e = let g = cond_some (ltb n 24) 0 after e in omega (arith, g.1)
number-stays Minute memory n after h l e = let g = cond_some (ltb n 60) 0 after e in omega (arith, g.1)
number-stays Century memory n after h l e =
    let f : 3 * memory + century_class n ≡ after = cc in
    let k : century_class n ≤ 2 = grind (arith, nat_tests) in
    omega arith
number-stays YearOfCentury memory n after h l e = grind (arith, nat_tests)
number-stays Month memory n after h l e =
    let g = cond_some (leb 1 n && leb n 12) (days_of_month (memory == 1) n - 28) after e in
    let k : days_of_month (memory == 1) n ≤ 31 = grind (arith, nat_tests) in
    omega (arith, g.1)
number-stays Day memory n after h l e = let g = cond_some (leb 1 n && leb n (28 + memory)) 0 after e in omega (arith, g.1)
number-stays NamedDay memory n after h l e =
    let g = cond_some (leb 1 n && leb n 31) (n - 28) after e in
    let p = and_parts (leb 1 n) (leb n 31) g.0 in
    let k : n ≤ 31 = grind (arith, nat_tests, p.1) in
    omega (arith, g.1)
number-stays OffsetHour memory n after h l e =
    let g = cond_some (ltb n 24) (cond ((memory == 1) && (n == 0)) 1 0) after e in
    let k : cond ((memory == 1) && (n == 0)) 1 0 ≤ 1 = grind (arith, nat_tests) in
    omega (arith, g.1)
number-stays OffsetMinute memory n after h l e = let g = cond_some (ltb n 60 && not ((memory == 1) && (n == 0))) 0 after e in omega (arith, g.1)

-- months that pass a test

pub first_month-found : (test : ℕ → Bool) (count at month : ℕ) → first_month test count at ≡ Some month → (test month ≡ true) × (at ≤ month) × (month < at + count)
unfolding first_month
first_month-found test zero at month h = cc
first_month-found test (suc count) at month h =
    elim (cases_Bool (test at)) [
      | inl t ↦
          let e : at ≡ month = unwrap at month (rw t at h) in
          (subst (λ (x : ℕ). test x ≡ true) e t, omega arith, omega arith)
      | inr f ↦
          let g : first_month test count (at + 1) ≡ Some month = rw f at h in
          let r = first_month-found test count (at + 1) month g in
          (r.0, omega (arith, r.1), omega (arith, r.2))
    ]
  where
    unwrap : (a b : ℕ) → Some a ≡ Some b → a ≡ b
    unwrap a b e = cc

first_month-passes : (test : ℕ → Bool) (count at month : ℕ) → first_month test count at ≡ None → at ≤ month → month < at + count → test month ≡ false
unfolding first_month
first_month-passes test zero at month h l m = absurd (omega arith)
first_month-passes test (suc count) at month h l m =
    elim (cases_Bool (test at)) [
      | inl t ↦ absurd (none at (rw t at h))
      | inr f ↦
          elim (below at month) [
            | inl k ↦ first_month-passes test count (at + 1) month (rw f at h) (omega (arith, k.1)) (omega arith)
            | inr k ↦ let e : at ≡ month = omega (arith, k.1) in subst (λ (x : ℕ). test x ≡ false) e f
          ]
    ]
  where
    none : (a : ℕ) → Some a ≡ None → ⊥
    none a e = cc

-- one is found where one passes
pub first_month-finds : (test : ℕ → Bool) (month : ℕ) → month < 12 → test month ≡ true → (found : ℕ) × (first_month test 12 0 ≡ Some found) × (test found ≡ true) × (found < 12)
first_month-finds test month h t =
    elim (option_cases (first_month test 12 0)) [
      | inl none ↦ let f = first_month-passes test 12 0 month none (omega arith) h in absurd (cc)
      | inr some ↦ let f = first_month-found test 12 0 some.0 some.1 in (some.0, some.1, f.0, f.2)
    ]

get-below : (xs : List ℕ) (k : ℕ) → list_all (λ x. ltb x 256) xs ≡ true → get_or xs k 0 < 256
get-below [] k h = omega arith
get-below (x ∷ xs) zero h = let p = and_parts (ltb x 256) (list_all (λ x. ltb x 256) xs) h in grind (arith, nat_tests, p.0)
get-below (x ∷ xs) (suc k) h = get-below xs k (and_parts (ltb x 256) (list_all (λ x. ltb x 256) xs) h).1

month_letter-byte : (month at : ℕ) → month_letter month at < 256
unfolding month_letter
month_letter-byte month at = get-below (codes "JanFebMarAprMayJunJulAugSepOctNovDec") (3 * month + at) refl

byte_of : (month at letter : ℕ) → (month_letter month at == letter) ≡ true → letter < 256
byte_of month at letter h =
    let e : month_letter month at ≡ letter = grind (arith, nat_tests) in
    omega (arith, month_letter-byte month at)

pub and_then-some : (o : Option ℕ) (f : ℕ → Option ℕ) (after : ℕ) → and_then o f ≡ Some after → (n : ℕ) × (o ≡ Some n) × (f n ≡ Some after)
and_then-some None f after h = cc
and_then-some (Some n) f after h = (n, refl, h)

after_name-most : (over month after : ℕ) → after_name over month ≡ Some after → after < 2
after_name-most over month after e =
    let g = cond_some (leb (28 + over) (days_of_month true (month + 1))) (cond ((over == 1) && (month == 1)) 1 0) after e in
    let k : cond ((over == 1) && (month == 1)) 1 0 ≤ 1 = grind (arith, nat_tests) in
    omega (arith, g.1)

pub digit-less : (c : ℕ) → is_digit c ≡ true → (48 ≤ c) × (c ≤ 57)
digit-less c h =
    let p = and_parts (leb 48 c) (leb c 57) h in
    (grind (arith, nat_tests, p.0), grind (arith, nat_tests, p.1))

-- a place's letter is a byte, and its memory among those of the next
abbrev Stays : Place → ℕ → ℕ → Type 0
Stays place c after = (c < 256) × (after < place_exits place)

pub place-stays : (place : Place) (memory c after : ℕ) → memory < place_memories place → is_byte place ≡ true → after_place place memory c ≡ Some after → Stays place c after
place-stays (Byte byte memories) memory c after h b e =
    let g = cond_some (c == byte) memory after e in
    (grind (arith, nat_tests, g.0), omega (arith, g.1))
place-stays (Forget byte memories) memory c after h b e =
    let g = cond_some (c == byte) 0 after e in
    (grind (arith, nat_tests, g.0), omega (arith, g.1))
place-stays Digit memory c after h b e =
    let g = cond_some (is_digit c) 0 after e in
    (omega (arith, digit-less c g.0), omega (arith, g.1))
place-stays (Tens memories) memory c after h b e =
    let g = cond_some (is_digit c) (10 * memory + (c - 48)) after e in
    let d = digit-less c g.0 in
    (omega (arith, d.1), omega (arith, g.1, d.1))
place-stays (Ones number) memory c after h b e =
    let g = guarded (is_digit c) (after_number number (memory / 10) (10 * (memory % 10) + (c - 48))) after e in
    let d = digit-less c g.0 in
    (omega (arith, d.1), number-stays number (memory / 10) (10 * (memory % 10) + (c - 48)) after (omega arith) (omega (arith, d.1)) g.1)
place-stays Sign memory c after h b e = (grind (arith, nat_tests), grind (arith, nat_tests))
place-stays NameFirst memory c after h b e =
    let a = and_then-some (first_month (starts_name c) 12 0) (λ month. Some (12 * memory + month)) after e in
    let f = first_month-found (starts_name c) 12 0 a.0 a.1 in
    let u = unwrap (12 * memory + a.0) after a.2 in
    (byte_of a.0 0 c f.0, omega (arith, f.2))
place-stays NameSecond memory c after h b e =
    let a = and_then-some (first_month (goes_on (memory % 12) c) 12 0) (λ month. Some (12 * (memory / 12) + month)) after e in
    let f = first_month-found (goes_on (memory % 12) c) 12 0 a.0 a.1 in
    let p = and_parts (month_letter a.0 0 == month_letter (memory % 12) 0) (month_letter a.0 1 == c) f.0 in
    let u = unwrap (12 * (memory / 12) + a.0) after a.2 in
    (byte_of a.0 1 c p.1, omega (arith, f.2))
place-stays NameThird memory c after h b e =
    let a = and_then-some (first_month (ends_name (memory % 12) c) 12 0) (λ month. after_name (memory / 12) month) after e in
    let f = first_month-found (ends_name (memory % 12) c) 12 0 a.0 a.1 in
    let p = and_parts ((month_letter a.0 0 == month_letter (memory % 12) 0) && (month_letter a.0 1 == month_letter (memory % 12) 1)) (month_letter a.0 2 == c) f.0 in
    (byte_of a.0 2 c p.1, after_name-most (memory / 12) a.0 after a.2)

-- the machine of the places after the first is theirs, moved by the first's memories

past-next : (place : Place) (places : List Place) (point letter : ℕ) → next_point (place ∷ places) (place_memories place + point) letter ≡ shifted (place_memories place) (next_point places point letter)
past-next place places point letter =
    let t : ltb (place_memories place + point) (place_memories place) ≡ false = grind (arith, nat_tests) in
    let e : place_memories place + point - place_memories place ≡ point = omega arith in
    rw (t, e) refl

past-last : (place : Place) (places : List Place) (point : ℕ) → is_last (place ∷ places) (place_memories place + point) ≡ is_last places point
past-last place places point =
    let t : ltb (place_memories place + point) (place_memories place) ≡ false = grind (arith, nat_tests) in
    let e : place_memories place + point - place_memories place ≡ point = omega arith in
    rw (t, e) refl

shifted-map : (base : ℕ) (o : Option ℕ) → shifted base o ≡ map_option (λ (point : ℕ). base + point) o
shifted-map base None = refl
shifted-map base (Some n) = refl

past-accepts : (place : Place) (places : List Place) (point : ℕ) (text : List ℕ) → accepts (next_point (place ∷ places)) (is_last (place ∷ places)) (place_memories place + point) text ≡ accepts (next_point places) (is_last places) point text
past-accepts place places point text =
    accepts-image (next_point places) (is_last places) (next_point (place ∷ places)) (is_last (place ∷ places)) (λ (p : ℕ). place_memories place + p) (λ _. Unit {0})
    (record {
      goes = λ p c _. past-next place places p c ∙ shifted-map (place_memories place) (next_point places p c);
      keeps = λ p c t _ _. tt;
      same = λ p _. past-last place places p;
    })
    text point tt

at-first : (place : Place) (places : List Place) (memory letter : ℕ) → memory < place_memories place → next_point (place ∷ places) memory letter ≡ shifted (place_memories place) (after_place place memory letter)
at-first place places memory letter h =
    let t : ltb memory (place_memories place) ≡ true = grind (arith, nat_tests) in
    rw t refl

not-last : (place : Place) (places : List Place) (memory : ℕ) → memory < place_memories place → is_last (place ∷ places) memory ≡ false
not-last place places memory h =
    let t : ltb memory (place_memories place) ≡ true = grind (arith, nat_tests) in
    rw t refl

pub entry-first : (entry : ℕ) (place : Place) (places : List Place) → is_chained entry (place ∷ places) ≡ true → (entry ≤ place_memories place) × (is_chained (place_exits place) places ≡ true)
entry-first entry place places h =
    let p = and_parts (leb entry (place_memories place)) (is_chained (place_exits place) places) h in
    (grind (arith, nat_tests, p.0), p.1)

-- the machine accepts what its places read
pub accepts-run : (places : List Place) (entry memory : ℕ) (text : List ℕ) → all_bytes places ≡ true → is_chained entry places ≡ true → memory < entry → accepts (next_point places) (is_last places) memory text ≡ run places memory text
accepts-run [] entry memory [] b h l = refl
accepts-run [] entry memory (c ∷ cs) b h l = refl
accepts-run (place ∷ places) entry memory [] b h l = not-last place places memory (omega (arith, (entry-first entry place places h).0))
accepts-run (place ∷ places) entry memory (c ∷ cs) b h l =
    let f = entry-first entry place places h in
    let k : memory < place_memories place = omega (arith, f.0) in
    let d = and_parts (is_byte place) (all_bytes places) b in
    elim (option_cases (after_place place memory c)) [
      | inl none ↦
          accepts-stop (next_point (place ∷ places)) (is_last (place ∷ places)) memory c cs (at-first place places memory c k ∙ ap (shifted (place_memories place)) none)
          ∙ sym (run-stop place places memory c cs none)
      | inr some ↦
          let stays = place-stays place memory c some.0 k d.0 some.1 in
          accepts-step (next_point (place ∷ places)) (is_last (place ∷ places)) memory (place_memories place + some.0) c cs (at-first place places memory c k ∙ ap (shifted (place_memories place)) some.1)
          ∙ past-accepts place places some.0 cs
          ∙ accepts-run places (place_exits place) some.0 cs d.1 f.1 stays.1
          ∙ sym (run-step place places memory some.0 c cs some.1)
    ]

shifted-some : (base : ℕ) (o : Option ℕ) (after : ℕ) → shifted base o ≡ Some after → (n : ℕ) × (o ≡ Some n) × (after ≡ base + n)
shifted-some base None after h = cc
shifted-some base (Some n) after h = (n, refl, cc)

entry-point : (entry memory : ℕ) (places : List Place) → is_chained entry places ≡ true → memory < entry → memory < point_count places
entry-point entry memory [] h l = let k : entry ≤ 1 = grind (arith, nat_tests, h) in omega arith
entry-point entry memory (place ∷ places) h l = omega (arith, (entry-first entry place places h).0)

-- it stays among its points, and its letters are bytes
pub points-stay : (places : List Place) (entry point letter after : ℕ) → all_bytes places ≡ true → is_chained entry places ≡ true → point < point_count places → next_point places point letter ≡ Some after → (letter < 256) × (after < point_count places)
points-stay [] entry point letter after b h l e = cc
points-stay (place ∷ places) entry point letter after b h l e =
    let f = entry-first entry place places h in
    let d = and_parts (is_byte place) (all_bytes places) b in
    elim (below point (place_memories place)) [
      | inl t ↦
          let s = shifted-some (place_memories place) (after_place place point letter) after (rw t.0 at e) in
          let k = place-stays place point letter s.0 t.1 d.0 s.1 in
          (k.0, omega (arith, s.2, entry-point (place_exits place) s.0 places f.1 k.1))
      | inr t ↦
          let s = shifted-some (place_memories place) (next_point places (point - place_memories place) letter) after (rw t.0 at e) in
          let k = points-stay places (place_exits place) (point - place_memories place) letter s.0 d.1 f.1 (omega (arith, t.1)) s.1 in
          (k.0, omega (arith, s.2, k.1))
    ]
