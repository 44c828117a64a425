-- The letters of the table are letters of ASCII.
use Rattle.std.proofs.Common.{◌≡◌, ℕ, ◌≤◌, ◌<◌, Bool, true, false, cond, ◌&&◌, eqb, leb, List, [], ◌∷◌, Some, refl, sym, ap, ◌∙◌, arith, inl, inr}
use Rattle.std.specs.List.{list_all, list_any}
use Rattle.std.proofs.lemmas.Bool.{eqb-true, leb-true, cases_Bool, and_parts, or_cases}
use Rattle.apache_front.specs.declared.table.Row.{Row}
use Rattle.apache_front.specs.Table.{Entry, table, row_in, row_of}
use Rattle.lf_spelling.specs.Texts.{is_digit}
use Rattle.lf_spelling.specs.RunLaws.{apart}
use Rattle.apache_front.specs.Directive.{is_flag}

-- the letters of the table are between `A` and `z`
unfoldable pub is_lettered : ℕ → Bool
is_lettered b = leb 65 b && leb b 122

any_lettered : (letters : List ℕ) (letter : ℕ) → list_all is_lettered letters ≡ true → list_any (λ l. eqb letter l) letters ≡ true → is_lettered letter ≡ true
any_lettered [] letter all any = absurd cc
any_lettered (l ∷ letters) letter all any =
    let both = and_parts (is_lettered l) (list_all is_lettered letters) all in
    elim (or_cases (eqb letter l) (list_any (λ l. eqb letter l) letters) any) [
      | inl e ↦ ap is_lettered (eqb-true letter l e) ∙ both.0
      | inr more ↦ any_lettered letters letter both.1 more
    ]

row_lettered : (entries : List Entry) (letter : ℕ) (row : Row) → list_all (λ e. list_all is_lettered e.letters) entries ≡ true → row_in entries letter ≡ Some row → is_lettered letter ≡ true
row_lettered [] letter row all is = absurd cc
row_lettered (e ∷ entries) letter row all is =
    let both = and_parts (list_all is_lettered e.letters) (list_all (λ e. list_all is_lettered e.letters) entries) all in
    elim (cases_Bool (list_any (λ l. eqb letter l) e.letters)) [
      | inl any ↦ any_lettered e.letters letter both.0 any
      | inr none ↦ row_lettered entries letter row both.1 (sym (ap (λ v. cond v (Some e.row) (row_in entries letter)) none) ∙ is)
    ]

pub table_lettered : (letter : ℕ) (row : Row) → row_of letter ≡ Some row → is_lettered letter ≡ true
unfolding is_lettered
table_lettered letter row is = row_lettered table letter row refl is

-- a letter of the table is ASCII
pub letter_low : (letter : ℕ) (row : Row) → row_of letter ≡ Some row → letter < 128
unfolding is_lettered
letter_low letter row is = let high : letter ≤ 122 = leb-true letter 122 (and_parts (leb 65 letter) (leb letter 122) (table_lettered letter row is)).1 in omega arith

not_digit : (b : ℕ) → is_lettered b ≡ true → is_digit b ≡ false
unfolding is_lettered
not_digit b h =
    let low : 65 ≤ b = leb-true 65 b (and_parts (leb 65 b) (leb b 122) h).0 in
    elim (cases_Bool (is_digit b)) [ inl d ↦ (let high : b ≤ 57 = leb-true b 57 (and_parts (leb 48 b) (leb b 57) d).1 in absurd (omega arith)) | inr d ↦ d ]

pub lettered_no : (b : ℕ) → (leb 65 b && leb b 122) ≡ false → is_lettered b ≡ false
unfolding is_lettered
lettered_no b h = h

pub not_flag : (b : ℕ) → is_lettered b ≡ true → is_flag b ≡ false
not_flag b h = let d = not_digit b h in let c : eqb b 44 ≡ false = apart is_lettered b 44 h (lettered_no 44 refl) in rw (d, c) refl
