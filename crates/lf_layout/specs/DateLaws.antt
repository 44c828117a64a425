-- The places of a date read the dates of the years 0001 to 9999.
use Rattle.std.proofs.Common.{◌≡◌, ℕ, ◌+◌, ◌-◌, ◌*◌, ◌/◌, ◌%◌, ◌<◌, ◌≤◌, inl, inr, List, ◌∷◌, ◌++◌, Some, Bool, true, false, cond, ◌&&◌, ◌==◌, leb, refl, sym, ap, ◌∙◌, arith}
use Rattle.std.proofs.lemmas.Bool.Decides.{nat_tests}
use Rattle.std.proofs.lemmas.Bool.{and_parts, cases_Bool}
use Rattle.std.proofs.lemmas.Option.{cond_some}
use Rattle.lf_layout.specs.declared.calendar.CivilDate.{CivilDate}
use Rattle.lf_layout.specs.Calendar.{is_leap, days_of_month, month_length, IsDate}
use Rattle.lf_layout.specs.CalendarLaws.{month_length-least}
use Rattle.lf_layout.specs.Texts.{two, four, month_letter, month_name, iso_date_text, named_date_text}
use Rattle.lf_layout.specs.Layouts.{date_text}
use Rattle.lf_layout.specs.Places.{century_class, is_leap_in, after_year, after_number, after_name, wants_leap, year_places, iso_date_places, named_date_places, date_places}
use Rattle.lf_layout.specs.PlaceLaws.{run}
use Rattle.lf_core.specs.Choices.{unwrap}
use Rattle.lf_layout.specs.FieldLaws.{IsField, byte-writes, byte-reads, number-writes, number-reads}
use Rattle.lf_layout.specs.NameLaws.{name-writes, name-reads}
use Rattle.lf_layout.specs.declared.layout.DateForm.{DateForm}
use Rattle.lf_layout.specs.declared.layout.DateForm.TheVariants.{Iso, Named}
use Rattle.lf_layout.specs.declared.place.Number.TheVariants.{Century, YearOfCentury, Month, Day, NamedDay}
use Rattle.lf_layout.specs.declared.place.Place.TheVariants.{Byte, Tens, Ones, NameFirst, NameSecond, NameThird}

-- years

abbrev pub leap_code : ℕ → ℕ
leap_code year = cond (is_leap year) 1 0

leap-parts : (c n : ℕ) → n < 100 → 0 < 100 * c + n → is_leap_in (century_class c) n ≡ is_leap (100 * c + n)
leap-parts c n h k =
    let a : (100 * c + n) % 4 ≡ n % 4 = omega arith in
    let b : (100 * c + n) % 100 ≡ n = omega arith in
    let d : (100 * c + n) % 400 ≡ 100 * (c % 4) + n = omega arith in
    rw (a, b, d) (grind (arith, nat_tests))

-- a year that may follow, and what is known after it
pub record GoesYear (must year to : ℕ) : Type 0 where
  pub some_year : 1 ≤ year
  pub year_most : year ≤ 9999
  pub leap : must ≡ 1 → is_leap year ≡ true
  pub code : to ≡ leap_code year

year-from : (must class n y to : ℕ) → is_leap_in class n ≡ is_leap y → after_year must class n ≡ Some to → (must ≡ 1 → is_leap y ≡ true) × (to ≡ leap_code y)
year-from must class n y to e h = (λ m. grind (arith, nat_tests), grind (arith, nat_tests))

year-to : (must class n y : ℕ) → is_leap_in class n ≡ is_leap y → ((class == 0) && (n == 0)) ≡ false → (must ≡ 1 → is_leap y ≡ true) → after_year must class n ≡ Some (leap_code y)
year-to must class n y e f l =
    elim (cases_Bool (is_leap y)) [
      | inl t ↦ let i : is_leap_in class n ≡ true = e ∙ t in rw (f, i, t) refl
      | inr t ↦
          let i : is_leap_in class n ≡ false = e ∙ t in
          let m : (must == 1) ≡ false = not_one must (λ o. let x = l o in absurd (cc)) in
          rw (f, i, m, t) refl
    ]
  where
    not_one : (m : ℕ) → (m ≡ 1 → ⊥) → (m == 1) ≡ false
    not_one m h = elim (cases_Bool (m == 1)) [ inl t ↦ absurd (h (grind (arith, nat_tests))) | inr f ↦ f ]

year-some : (must c n to : ℕ) → after_year must (century_class c) n ≡ Some to → 0 < 100 * c + n
year-some must c n to h = grind (arith, nat_tests)

year-zero : (c n : ℕ) → 0 < 100 * c + n → ((century_class c == 0) && (n == 0)) ≡ false
year-zero c n h = grind (arith, nat_tests)

century-class : (c : ℕ) → century_class c ≤ 2
century-class c = grind (arith, nat_tests)

class-parts : (must c n : ℕ) → after_number YearOfCentury (3 * must + century_class c) n ≡ after_year must (century_class c) n
class-parts must c n =
    let k = century-class c in
    let q : (3 * must + century_class c) / 3 ≡ must = omega arith in
    let r : (3 * must + century_class c) % 3 ≡ century_class c = omega arith in
    ap (λ (x : ℕ). after_year x ((3 * must + century_class c) % 3) n) q ∙ ap (λ (x : ℕ). after_year must x n) r

year-joined : (whole u tail : List ℕ) (c n y : ℕ) → whole ≡ two c ++ u → u ≡ two n ++ tail → c ≡ y / 100 → n ≡ y % 100 → whole ≡ four y ++ tail
year-joined whole u tail c n y e f g h = cc

pub year-field : (must : ℕ) → IsField year_places must (GoesYear must) four
year-field must = record {
  writes = λ y to g rest tail.
      let c = y / 100 in
      let n = y % 100 in
      let s : 100 * c + n ≡ y = omega arith in
      let some : 0 < 100 * c + n = omega (arith, g.some_year) in
      let l = leap-parts c n (omega arith) some ∙ ap is_leap s in
      number-writes 2 Century must c (3 * must + century_class c) (omega (arith, g.year_most)) refl (Tens 6 ∷ Ones YearOfCentury ∷ rest) (two n ++ tail)
      ∙ number-writes 6 YearOfCentury (3 * must + century_class c) n to (omega arith) (class-parts must c n ∙ year-to must (century_class c) n y l (year-zero c n some) g.leap ∙ ap Some (sym g.code)) rest tail;
  reads = λ rest whole h.
      let a = number-reads 2 Century must (Tens 6 ∷ Ones YearOfCentury ∷ rest) whole h in
      let u = unwrap (3 * must + century_class a.0) a.1 a.4 in
      let b = number-reads 6 YearOfCentury a.1 rest a.2 a.6 in
      let e : after_year must (century_class a.0) b.0 ≡ Some b.1 = sym (class-parts must a.0 b.0) ∙ ap (λ (m : ℕ). after_number YearOfCentury m b.0) u ∙ b.4 in
      let some = year-some must a.0 b.0 b.1 e in
      let k = year-from must (century_class a.0) b.0 (100 * a.0 + b.0) b.1 (leap-parts a.0 b.0 b.3 some) e in
      (100 * a.0 + b.0, b.1, b.2, record { some_year = omega (arith, some); year_most = omega (arith, a.3, b.3); leap = k.0; code = k.1 }, year-joined whole a.2 b.2 a.0 b.0 (100 * a.0 + b.0) a.5 b.5 (omega (arith, b.3)) (omega (arith, b.3)), b.6);
}

-- dates with the year first

code-leap : (y : ℕ) → (leap_code y == 1) ≡ is_leap y
code-leap y = grind (arith, nat_tests)

within : (low n high : ℕ) → (leb low n && leb n high) ≡ true → (low ≤ n) × (n ≤ high)
within low n high h =
    let p = and_parts (leb low n) (leb n high) h in
    (grind (arith, nat_tests, p.0), grind (arith, nat_tests, p.1))

is_within : (low n high : ℕ) → low ≤ n → n ≤ high → (leb low n && leb n high) ≡ true
is_within low n high h k = grind (arith, nat_tests)

length-most : (y m : ℕ) → month_length y m ≤ 31
length-most y m = grind (arith, nat_tests)

month-goes : (y m : ℕ) → 1 ≤ m → m ≤ 12 → after_number Month (leap_code y) m ≡ Some (month_length y m - 28)
month-goes y m h k = rw (is_within 1 m 12 h k, code-leap y) refl

month-went : (y m to : ℕ) → after_number Month (leap_code y) m ≡ Some to → (1 ≤ m) × (m ≤ 12) × (month_length y m - 28 ≡ to)
month-went y m to h =
    let g = cond_some (leb 1 m && leb m 12) (days_of_month (leap_code y == 1) m - 28) to h in
    let w = within 1 m 12 g.0 in
    (w.0, w.1, ap (λ (b : Bool). days_of_month b m - 28) (sym (code-leap y)) ∙ g.1)

day-goes : (k d : ℕ) → 1 ≤ d → d ≤ 28 + k → after_number Day k d ≡ Some 0
day-goes k d h l = rw (is_within 1 d (28 + k) h l) refl

iso-joined : (whole u v w x tail : List ℕ) (y m d : ℕ) → whole ≡ four y ++ u → u ≡ 45 ∷ v → v ≡ two m ++ w → w ≡ 45 ∷ x → x ≡ two d ++ tail → whole ≡ iso_date_text (record { year = y; month = m; day = d }) ++ tail
iso-joined whole u v w x tail y m d e f g h i = cc

pub iso-field : IsField iso_date_places 0 (λ (date : CivilDate) (to : ℕ). IsDate date × (to ≡ 0)) iso_date_text
iso-field = record {
  writes = λ date to g rest tail.
      let y = date.year in
      let m = date.month in
      let d = date.day in
      let k = month_length y m - 28 in
      let yf = year-field 0 in
      let gy : GoesYear 0 date.year (leap_code date.year) = record { some_year = g.0.some_year; year_most = g.0.year_most; leap = λ e. absurd (omega (arith, e)); code = refl } in
      yf.writes date.year (leap_code date.year) gy (Byte 45 2 ∷ Tens 2 ∷ Ones Month ∷ Byte 45 4 ∷ Tens 4 ∷ Ones Day ∷ rest) (45 ∷ two m ++ 45 ∷ two d ++ tail)
      ∙ byte-writes 45 2 (leap_code y) (Tens 2 ∷ Ones Month ∷ Byte 45 4 ∷ Tens 4 ∷ Ones Day ∷ rest) (two m ++ 45 ∷ two d ++ tail)
      ∙ number-writes 2 Month (leap_code y) m k (omega (arith, g.0.month_most)) (month-goes y m g.0.some_month g.0.month_most) (Byte 45 4 ∷ Tens 4 ∷ Ones Day ∷ rest) (45 ∷ two d ++ tail)
      ∙ byte-writes 45 4 k (Tens 4 ∷ Ones Day ∷ rest) (two d ++ tail)
      ∙ number-writes 4 Day k d 0 (omega (arith, g.0.day_most, length-most y m)) (day-goes k d g.0.some_day (omega (arith, g.0.day_most, month_length-least y m))) rest tail
      ∙ ap (λ (x : ℕ). run rest x tail) (sym g.1);
  reads = λ rest whole h.
      let yf = year-field 0 in
      let a = yf.reads (Byte 45 2 ∷ Tens 2 ∷ Ones Month ∷ Byte 45 4 ∷ Tens 4 ∷ Ones Day ∷ rest) whole h in
      let b = byte-reads 45 2 a.1 (Tens 2 ∷ Ones Month ∷ Byte 45 4 ∷ Tens 4 ∷ Ones Day ∷ rest) a.2 a.5 in
      let c = number-reads 2 Month a.1 (Byte 45 4 ∷ Tens 4 ∷ Ones Day ∷ rest) b.0 b.2 in
      let m = month-went a.0 c.0 c.1 (ap (λ (x : ℕ). after_number Month x c.0) (sym a.3.code) ∙ c.4) in
      let d = byte-reads 45 4 c.1 (Tens 4 ∷ Ones Day ∷ rest) c.2 c.6 in
      let e = number-reads 4 Day c.1 rest d.0 d.2 in
      let f = cond_some (leb 1 e.0 && leb e.0 (28 + c.1)) 0 e.1 e.4 in
      let w = within 1 e.0 (28 + c.1) f.0 in (
        record { year = a.0; month = c.0; day = e.0 },
        0,
        e.2,
        (
          record {
            some_year = a.3.some_year;
            year_most = a.3.year_most;
            some_month = m.0;
            month_most = m.1;
            some_day = w.0;
            day_most = omega (arith, w.1, m.2, month_length-least a.0 c.0);
          },
          refl,
        ),
        iso-joined whole a.2 b.0 c.2 d.0 e.2 a.0 c.0 e.0 a.4 b.1 c.5 d.1 e.5,
        ap (λ (x : ℕ). run rest x e.2) f.1 ∙ e.6,
      );
}

-- dates with the day first

-- in a leap year a month has the most days
leap-longest : (y m : ℕ) → month_length y m ≤ days_of_month true m
leap-longest y m = grind (arith, nat_tests)

late-february : (y m d : ℕ) → m < 12 → d ≤ month_length y (m + 1) → ((d - 28 == 1) && (m == 1)) ≡ true → is_leap y ≡ true
late-february y m d h k e = grind (arith, nat_tests)

name-goes : (over month : ℕ) → 28 + over ≤ days_of_month true (month + 1) → after_name over month ≡ Some (wants_leap over month)
name-goes over month h = let t : leb (28 + over) (days_of_month true (month + 1)) ≡ true = grind (arith, nat_tests) in rw t refl

name-went : (over month to : ℕ) → after_name over month ≡ Some to → (28 + over ≤ days_of_month true (month + 1)) × (to ≡ wants_leap over month)
name-went over month to h =
    let g = cond_some (leb (28 + over) (days_of_month true (month + 1))) (wants_leap over month) to h in
    (grind (arith, nat_tests, g.0), sym g.1)

short-enough : (y m d to : ℕ) → d - 28 + 28 ≤ days_of_month true (m + 1) → to ≡ wants_leap (d - 28) m → (to ≡ 1 → is_leap y ≡ true) → d ≤ month_length y (m + 1)
short-enough y m d to h e l = grind (arith, nat_tests)

must-leap : (y m d : ℕ) → m < 12 → d ≤ month_length y (m + 1) → wants_leap (d - 28) m ≡ 1 → is_leap y ≡ true
must-leap y m d h k e =
    elim (cases_Bool ((d - 28 == 1) && (m == 1))) [
      | inl t ↦ late-february y m d h k t
      | inr f ↦ let z : wants_leap (d - 28) m ≡ 0 = rw f refl in absurd (omega arith)
    ]

named-day : (d : ℕ) → 1 ≤ d → d ≤ 31 → after_number NamedDay 0 d ≡ Some (d - 28)
named-day d h k = rw (is_within 1 d 31 h k) refl

named-joined : (whole u v w x tail : List ℕ) (y m d n a b c : ℕ) → whole ≡ two d ++ u → u ≡ 47 ∷ v → v ≡ a ∷ (b ∷ (c ∷ w)) → w ≡ 47 ∷ x → x ≡ four y ++ tail → a ≡ month_letter (m - 1) 0 → b ≡ month_letter (m - 1) 1 → c ≡ month_letter (m - 1) 2 → whole ≡ named_date_text (record { year = y; month = m; day = d }) ++ tail
named-joined whole u v w x tail y m d n a b c e f g h i j k l = cc

pub named-field : IsField named_date_places 0 (λ (date : CivilDate) (to : ℕ). IsDate date × (to ≡ leap_code date.year)) named_date_text
named-field = record {
  writes = λ date to g rest tail.
      let y = date.year in
      let m = date.month - 1 in
      let d = date.day in
      let must = wants_leap (d - 28) m in
      let yf = year-field must in
      let up : m + 1 ≡ date.month = omega (arith, g.0.some_month) in
      let len : d ≤ month_length y (m + 1) = omega (arith, g.0.day_most, ap (month_length y) up) in
      let longest = leap-longest y (m + 1) in
      let shortest = month_length-least y (m + 1) in
      let least : 28 + (d - 28) ≤ days_of_month true (m + 1) = omega (arith, len, longest, shortest) in
      let gy : GoesYear must date.year to = record { some_year = g.0.some_year; year_most = g.0.year_most; leap = must-leap y m d (omega (arith, g.0.month_most)) len; code = g.1 } in
      number-writes 1 NamedDay 0 d (d - 28) (omega (arith, g.0.day_most, length-most y date.month)) (named-day d g.0.some_day (omega (arith, g.0.day_most, length-most y date.month))) (Byte 47 4 ∷ NameFirst ∷ NameSecond ∷ NameThird ∷ Byte 47 2 ∷ (year_places ++ rest)) (47 ∷ month_name date.month ++ 47 ∷ four y ++ tail)
      ∙ byte-writes 47 4 (d - 28) (NameFirst ∷ NameSecond ∷ NameThird ∷ Byte 47 2 ∷ (year_places ++ rest)) (month_name date.month ++ 47 ∷ four y ++ tail)
      ∙ name-writes (d - 28) m must (omega (arith, g.0.month_most)) (name-goes (d - 28) m least) (Byte 47 2 ∷ (year_places ++ rest)) (47 ∷ four y ++ tail)
      ∙ byte-writes 47 2 must (year_places ++ rest) (four y ++ tail)
      ∙ yf.writes date.year to gy rest tail;
  reads = λ rest whole h.
      let a = number-reads 1 NamedDay 0 (Byte 47 4 ∷ NameFirst ∷ NameSecond ∷ NameThird ∷ Byte 47 2 ∷ (year_places ++ rest)) whole h in
      let ag = cond_some (leb 1 a.0 && leb a.0 31) (a.0 - 28) a.1 a.4 in
      let aw = within 1 a.0 31 ag.0 in
      let b = byte-reads 47 4 a.1 (NameFirst ∷ NameSecond ∷ NameThird ∷ Byte 47 2 ∷ (year_places ++ rest)) a.2 a.6 in
      let c = name-reads a.1 (Byte 47 2 ∷ (year_places ++ rest)) b.0 b.2 in
      let cw = name-went (a.0 - 28) c.0 c.1 (ap (λ (x : ℕ). after_name x c.0) ag.1 ∙ c.4) in
      let d = byte-reads 47 2 c.1 (year_places ++ rest) c.2 c.6 in
      let yf = year-field c.1 in
      let e = yf.reads rest d.0 d.2 in
      let len = short-enough e.0 c.0 a.0 c.1 (omega (arith, cw.0)) cw.1 e.3.leap in
      let back : c.0 ≡ c.0 + 1 - 1 = omega arith in (
        record { year = e.0; month = c.0 + 1; day = a.0 },
        e.1,
        e.2,
        (
          record {
            some_year = e.3.some_year;
            year_most = e.3.year_most;
            some_month = omega arith;
            month_most = omega (arith, c.3);
            some_day = aw.0;
            day_most = len;
          },
          e.3.code,
        ),
        named-joined whole a.2 b.0 c.2 d.0 e.2 e.0 (c.0 + 1) a.0 0 (month_letter c.0 0) (month_letter c.0 1) (month_letter c.0 2) a.5 b.1 c.5 d.1 e.4 (ap (λ (x : ℕ). month_letter x 0) back) (ap (λ (x : ℕ). month_letter x 1) back) (ap (λ (x : ℕ). month_letter x 2) back),
        e.5,
      );
}

-- the memory after a date of each form
abbrev pub date_exit : DateForm → CivilDate → ℕ
date_exit Iso date = 0
date_exit Named date = leap_code date.year

pub date-field : (form : DateForm) → IsField (date_places form) 0 (λ (date : CivilDate) (to : ℕ). IsDate date × (to ≡ date_exit form date)) (date_text form)
date-field Iso = iso-field
date-field Named = named-field
