-- The names of the table: letters and digits, at least one, and none is `o`.
use Rattle.std.proofs.Common.{◌≡◌, ℕ, ◌<◌, ◌≤◌, Bool, true, false, cond, not, ◌&&◌, ◌||◌, leb, List, [], ◌∷◌, ◌++◌, Some, refl, sym, ap, subst, ◌∙◌, arith, inl, inr}
use Rattle.std.specs.Prelude.{codes, All}
use Rattle.std.specs.List.{list_all, list_any}
use Rattle.std.specs.Str.{bytes_eq, IsUtf8}
use Rattle.std.proofs.lemmas.Str.{IsUtf8-from_ascii}
use Rattle.std.proofs.lemmas.Str.Ascii.{IsAscii-from_all}
use Rattle.std.proofs.lemmas.Bool.{cases_Bool, and_parts, or_cases, not-true, leb-true}
use Rattle.std.proofs.lemmas.Slice.Eq.{bytes_eq-Decides}
use Rattle.std.proofs.lemmas.List.Elements.{All-nil, All-cons}
use Rattle.haproxy_front.specs.declared.table.Row.{Row}
use Rattle.haproxy_front.specs.Names.{is_alphanumeric}
use Rattle.lf_spelling.specs.Texts.{is_nothing}
use Rattle.haproxy_front.specs.Table.{Entry, table, row_in, row_of}

-- letters and digits, at least one, and not `o`
unfoldable pub is_good : List ℕ → Bool
is_good name = not (is_nothing name) && list_all is_alphanumeric name && not (bytes_eq name (codes "o"))

any_good : (p : List ℕ → Bool) (words : List (List ℕ)) (name : List ℕ) → list_all p words ≡ true → list_any (λ own. bytes_eq name own) words ≡ true → p name ≡ true
any_good p [] name all any = absurd cc
any_good p (word ∷ words) name all any =
    let both = and_parts (p word) (list_all p words) all in
    elim (or_cases (bytes_eq name word) (list_any (λ own. bytes_eq name own) words) any) [
      | inl e ↦ subst (λ (n : List ℕ). p n ≡ true) (sym ((bytes_eq-Decides name word).0 e)) both.0
      | inr more ↦ any_good p words name both.1 more
    ]

row_good : (p : List ℕ → Bool) (entries : List Entry) (name : List ℕ) (row : Row) → list_all (λ e. list_all p e.names) entries ≡ true → row_in entries name ≡ Some row → p name ≡ true
row_good p [] name row all is = absurd cc
row_good p (e ∷ entries) name row all is =
    let both = and_parts (list_all p e.names) (list_all (λ e. list_all p e.names) entries) all in
    elim (cases_Bool (list_any (λ own. bytes_eq name own) e.names)) [
      | inl any ↦ any_good p e.names name both.0 any
      | inr none ↦ row_good p entries name row both.1 (sym (ap (λ v. cond v (Some e.row) (row_in entries name)) none) ∙ is)
    ]

-- What a name of the table is.
pub record IsName (name : List ℕ) : Type 0 where
  pub some : is_nothing name ≡ false
  pub letters : list_all is_alphanumeric name ≡ true
  pub no_change : bytes_eq name (codes "o") ≡ false

pub table_named : (name : List ℕ) (row : Row) → row_of name ≡ Some row → IsName name
unfolding is_good
table_named name row is =
    let good : is_good name ≡ true = row_good is_good table name row refl is in
    let two = and_parts (not (is_nothing name) && list_all is_alphanumeric name) (not (bytes_eq name (codes "o"))) good in
    let one = and_parts (not (is_nothing name)) (list_all is_alphanumeric name) two.0 in
    record { some = not-true (is_nothing name) one.0; letters = one.1; no_change = not-true (bytes_eq name (codes "o")) two.1 }

low_letter : (b : ℕ) → is_alphanumeric b ≡ true → b < 128
low_letter b h = elim (or_cases (leb 48 b && leb b 57 || leb 65 b && leb b 90) (leb 97 b && leb b 122) h) [
  | inl e ↦ elim (or_cases (leb 48 b && leb b 57) (leb 65 b && leb b 90) e) [
    | inl d ↦ (let high : b ≤ 57 = leb-true b 57 (and_parts (leb 48 b) (leb b 57) d).1 in omega arith)
    | inr d ↦ (let high : b ≤ 90 = leb-true b 90 (and_parts (leb 65 b) (leb b 90) d).1 in omega arith)
  ]
  | inr e ↦ (let high : b ≤ 122 = leb-true b 122 (and_parts (leb 97 b) (leb b 122) e).1 in omega arith)
]

all_low : (text : List ℕ) → list_all is_alphanumeric text ≡ true → All (λ b. b < 128) text
all_low [] h = All-nil (λ b. b < 128)
all_low (b ∷ text) h =
    let both = and_parts (is_alphanumeric b) (list_all is_alphanumeric text) h in
    All-cons (λ b. b < 128) b text (low_letter b both.0) (all_low text both.1)

-- Letters and digits are text.
pub name_text : (text : List ℕ) → list_all is_alphanumeric text ≡ true → IsUtf8 text
name_text text h = IsUtf8-from_ascii text (IsAscii-from_all text (all_low text h))
