-- No line of a list of fields holds a carriage return.
use Rattle.std.proofs.Common.{◌≡◌, ◌≢◌, ℕ, zero, suc, ◌+◌, ◌/◌, ◌%◌, ◌≤◌, Bool, true, false, ltb, eqb, List, [], ◌∷◌, ◌++◌, refl, sym, subst, ◌∙◌, arith, inl, inr}
use Rattle.std.specs.Prelude.{ℤ, pos, negsuc, All}
use Rattle.std.proofs.lemmas.Bool.{cond_both}
use Rattle.std.proofs.lemmas.List.Elements.{All-nil, All-cons, All-head, All-tail, All-append, All-weaker}
use Rattle.lf_limits.specs.Limits.{most_length}
use Rattle.lf_core.specs.declared.class.Class.{Class}
use Rattle.lf_core.specs.declared.class.TheConstants.Class as classes
use Rattle.lf_core.specs.declared.values.Value.{Value}
use Rattle.lf_core.specs.declared.values.Value.TheVariants.{Missing, Num, Text, Day as a_day, Clock as a_clock}
use Rattle.lf_core.specs.Class.{is_letter}
use Rattle.lf_number.specs.Numbers.{digit_letter, digits, number_text, num_text}
use Rattle.lf_core.specs.Choices.{below}
use Rattle.lf_number.specs.Digits.{ten, quotient-less, digits-one, digits-more}
use Rattle.lf_layout.specs.Calendar.{civil_date}
use Rattle.lf_layout.specs.Texts.{two, four}
use Rattle.lf_layout.specs.Layouts.{day_text, time_text}
use Rattle.lf_escape.specs.Codes.{coded}
use Rattle.lf_escape.specs.Codings.{coding_word}
use Rattle.lf_escape.specs.declared.coding.Coding.{Coding}
use Rattle.lf_escape.specs.declared.coding.Coding.TheVariants.{Raw, PlusSpace, Doubled}
use Rattle.lf_format.specs.CommonKinds.{zero_fits, one_fits, texts}
use Rattle.lf_format.specs.Kinds.{HoldsKind, plain_text}
use Rattle.lf_format.specs.Slots.{Holds, coded_text, in_quotes, slot_text}
use Rattle.lf_format.specs.Lines.{IsRecordOf, line_text}
use Rattle.lf_format.specs.declared.slot.Slot.{Slot as OneSlot}
use Rattle.lf_format.specs.declared.format.Piece.{Piece}
use Rattle.lf_format.specs.declared.format.Piece.TheVariants as piece
use Rattle.lf_spelling.specs.Items.{Item, text_of, given_of, Stand}
use Rattle.lf_spelling.specs.Pieces.{with_literal, pieces_of}
use Rattle.lf_spelling.specs.Spelling.{SpellsPieces}
use Rattle.lf_spelling.specs.declared.item_reader.Given.{Given}
use Rattle.lf_spelling.specs.declared.item_reader.Given.TheVariants.{Nothing, Byte, Slot, Spaced, Braced}
use Rattle.w3c_front.specs.declared.front.Fields.{Fields}
use Rattle.w3c_front.specs.declared.front.Place.{Place}
use Rattle.w3c_front.specs.declared.front.Place.TheVariants.{Start, First, Later}
use Rattle.w3c_front.specs.declared.table.Sort.{Sort}
use Rattle.w3c_front.specs.declared.table.Sort.TheVariants.{Day, Clock, Decimal, Count, Cached, Status, Visible, Word, Comment, Bare, Spaced as Words, PortNumber, SystemCode}
use Rattle.w3c_front.specs.Table.{kind_of, code_of, is_quoted}
use Rattle.w3c_front.specs.Identifier.{slot_of}
use Rattle.w3c_front.specs.Items.{given_of as field_given, IsItem, blanks, heads, field}
use Rattle.w3c_front.specs.Reading.{item_is}

-- a text without a carriage return, as a record, from which the text can be read
pub record Free (text : List ℕ) : Type 0 where
  pub all : All (λ b. b ≢ 13) text

none : Free []
none = record { all = All-nil (λ b. b ≢ 13) }

first : (b : ℕ) (text : List ℕ) → b ≢ 13 → Free text → Free (b ∷ text)
first b text h more = record { all = All-cons (λ b. b ≢ 13) b text h more.all }

both : (a b : List ℕ) → Free a → Free b → Free (a ++ b)
both a b h k = record { all = All-append (λ b. b ≢ 13) a b h.all k.all }

-- ---- plain texts

digit_free : (n : ℕ) → 48 + n ≢ 13
digit_free n = λ e. omega (arith, e)

two_free : (n : ℕ) → Free (two n)
two_free n = first (48 + n / 10) ((48 + n % 10) ∷ []) (digit_free (n / 10)) (first (48 + n % 10) [] (digit_free (n % 10)) none)

-- two numbers with a byte between them
pair_free : (b n m : ℕ) → b ≢ 13 → Free (two n ++ b ∷ two m)
pair_free b n m h = both (two n) (b ∷ two m) (two_free n) (first b (two m) h (two_free m))

day_free : (v : Value) → Free (day_text v)
day_free (a_day day) =
    let date = civil_date day in
    both (four date.year) (45 ∷ two date.month ++ 45 ∷ two date.day) (both (two (date.year / 100)) (two (date.year % 100)) (two_free (date.year / 100)) (two_free (date.year % 100)))
    (first 45 (two date.month ++ 45 ∷ two date.day) (λ e. omega (arith, e)) (pair_free 45 date.month date.day (λ e. omega (arith, e))))
day_free v = none

clock_free : (v : Value) → Free (time_text v)
clock_free (a_clock second) =
    both (two (second / 3600)) (58 ∷ two (second / 60 % 60) ++ 58 ∷ two (second % 60)) (two_free (second / 3600))
    (first 58 (two (second / 60 % 60) ++ 58 ∷ two (second % 60)) (λ e. omega (arith, e)) (pair_free 58 (second / 60 % 60) (second % 60) (λ e. omega (arith, e))))
clock_free v = none

letter_free : (d : ℕ) → digit_letter d ≢ 13
unfolding digit_letter
letter_free d = cond_both (ltb d 10) (48 + d) (55 + d) (λ b. b ≢ 13) (λ t e. omega (arith, e)) (λ f e. omega (arith, e))

one_digit : (d : ℕ) → Free (digit_letter d ∷ [])
one_digit d = first (digit_letter d) [] (letter_free d) none

digits_free : (k n : ℕ) → n ≤ k → Free (digits 10 n)
digits_free zero n h = rw (digits-one 10 ten n (omega (arith, h))) (one_digit n)
digits_free (suc k) n h = elim (below n 10) [
  | inl t ↦ rw (digits-one 10 ten n t.1) (one_digit n)
  | inr t ↦ rw (digits-more 10 ten n t.1) (both (digits 10 (n / 10)) (digit_letter (n % 10) ∷ []) (digits_free k (n / 10) (quotient-less 10 ten k n h)) (one_digit (n % 10)))
]

number_free : (n : ℤ) → Free (number_text n)
number_free (pos n) = digits_free n n (omega arith)
number_free (negsuc n) = first 45 (digits 10 (suc n)) (λ e. omega (arith, e)) (digits_free (suc n) (suc n) (omega arith))

num_free : (v : Value) → Free (num_text number_text v)
num_free (Num n) = number_free n
num_free v = none

member_free : (set : Class) → is_letter set 13 ≡ false → (b : ℕ) → is_letter set b ≡ true → b ≢ 13
member_free set out b h = λ e. let in_it : is_letter set 13 ≡ true = subst (λ (n : ℕ). is_letter set n ≡ true) e h in let clash : true ≡ false = sym in_it ∙ out in absurd cc

text_free : (set : Class) (min : ℕ) (fits : min ≤ most_length) → is_letter set 13 ≡ false → (v : Value) → HoldsKind (texts set min fits) v → Free (plain_text (texts set min fits) v)
text_free set min fits out (Text text) h = record { all = All-weaker (λ letter. is_letter set letter ≡ true) (λ b. b ≢ 13) (member_free set out) text h.0 }
text_free set min fits out v h = absurd h

plain_free : (sort : Sort) (v : Value) → HoldsKind (kind_of sort) v → Free (plain_text (kind_of sort) v)
plain_free Day v h = day_free v
plain_free Clock v h = clock_free v
plain_free Decimal v h = text_free classes.DECIMAL 1 one_fits refl v h
plain_free Count v h = num_free v
plain_free Cached v h = num_free v
plain_free Status v h = num_free v
plain_free Visible v h = text_free classes.VISIBLE 1 one_fits refl v h
plain_free Word v h = text_free classes.WORD 1 one_fits refl v h
plain_free Comment v h = text_free classes.HEADER 0 zero_fits refl v h
plain_free Bare v h = text_free classes.IIS_WORD 1 one_fits refl v h
plain_free Words v h = text_free classes.SPACED 1 one_fits refl v h
plain_free PortNumber v h = num_free v
plain_free SystemCode v h = num_free v

-- ---- what slots print

-- the word of each other letter has none
abbrev KeepsFree : Coding → Type 0
KeepsFree code = (b : ℕ) → b ≢ 13 → Free (coding_word code b)

raw_free : KeepsFree Raw
raw_free b h = first b [] h none

plus_free : KeepsFree PlusSpace
plus_free b h = cond_both (eqb b 32) 43 b (λ c. Free (c ∷ [])) (λ t. first 43 [] (λ e. omega (arith, e)) none) (λ f. first b [] h none)

doubled_free : KeepsFree Doubled
doubled_free b h = cond_both (eqb b 34) (34 ∷ 34 ∷ []) (b ∷ []) Free (λ t. first 34 (34 ∷ []) (λ e. omega (arith, e)) (first 34 [] (λ e. omega (arith, e)) none)) (λ f. first b [] h none)

word_free : (sort : Sort) → KeepsFree (code_of sort)
word_free Comment = doubled_free
word_free Bare = plus_free
word_free Words = plus_free
word_free Day = raw_free
word_free Clock = raw_free
word_free Decimal = raw_free
word_free Count = raw_free
word_free Cached = raw_free
word_free Status = raw_free
word_free Visible = raw_free
word_free Word = raw_free
word_free PortNumber = raw_free
word_free SystemCode = raw_free

coded_free : (sort : Sort) (text : List ℕ) → All (λ b. b ≢ 13) text → Free (coded (coding_word (code_of sort)) text)
coded_free sort [] h = none
coded_free sort (b ∷ text) h =
    both (coding_word (code_of sort) b) (coded (coding_word (code_of sort)) text) (word_free sort b (All-head (λ b. b ≢ 13) b text h)) (coded_free sort text (All-tail (λ b. b ≢ 13) b text h))

quoted_free : (quoted : Bool) (text : List ℕ) → Free text → Free (in_quotes quoted text)
quoted_free true text h = first 34 (text ++ 34 ∷ []) (λ e. omega (arith, e)) (both text (34 ∷ []) h (first 34 [] (λ e. omega (arith, e)) none))
quoted_free false text h = h

slot_free : (name : List ℕ) (sort : Sort) (v : Value) → Holds (slot_of name sort) v → Free (slot_text (slot_of name sort) v)
slot_free name sort Missing h = first 45 [] (λ e. omega (arith, e)) none
slot_free name sort v h = quoted_free (is_quoted sort) (coded_text (slot_of name sort) v) (coded_free sort (plain_text (kind_of sort) v) (plain_free sort v h.0).all)

-- ---- pieces

-- The slot is a field's.
abbrev IsField : OneSlot → Type 0
IsField slot = (name : List ℕ) × (sort : Sort) × (slot ≡ slot_of name sort)

abbrev IsGood : Piece → Type 0
IsGood (piece.Literal text) = Free text
IsGood (piece.Slot slot) = IsField slot

AllGood : List Piece → Type 0
AllGood [] = Unit {0}
AllGood (one ∷ pieces) = IsGood one × AllGood pieces

abbrev GivesGood : Given → Type 0
GivesGood Nothing = Unit {0}
GivesGood (Byte b) = b ≢ 13
GivesGood (Slot slot) = IsField slot
GivesGood (Spaced slot) = IsField slot
GivesGood (Braced slot) = IsField slot

AllGiven : List Given → Type 0
AllGiven [] = Unit {0}
AllGiven (one ∷ given) = GivesGood one × AllGiven given

literal_good : (b : ℕ) (pieces : List Piece) → b ≢ 13 → AllGood pieces → AllGood (with_literal (b ∷ []) pieces)
unfolding AllGood
literal_good b [] h good = (first b [] h none, tt)
literal_good b (piece.Literal more ∷ pieces) h good = (first b more h good.0, good.1)
literal_good b (piece.Slot slot ∷ pieces) h good = (first b [] h none, good)

pieces_good : (given : List Given) → AllGiven given → AllGood (pieces_of given)
unfolding AllGood AllGiven
pieces_good [] h = tt
pieces_good (Nothing ∷ given) h = pieces_good given h.1
pieces_good (Byte b ∷ given) h = literal_good b (pieces_of given) h.0 (pieces_good given h.1)
pieces_good (Slot slot ∷ given) h = (h.0, pieces_good given h.1)
pieces_good (Spaced slot ∷ given) h = (first 32 [] (λ e. omega (arith, e)) none, (h.0, pieces_good given h.1))
pieces_good (Braced slot ∷ given) h = (first 123 [] (λ e. omega (arith, e)) none, (h.0, literal_good 125 (pieces_of given) (λ e. omega (arith, e)) (pieces_good given h.1)))

field_gives : (place : Place) (name : List ℕ) (sort : Sort) → GivesGood (field_given place (slot_of name sort))
field_gives Start name sort = (name, sort, refl)
field_gives First name sort = (name, sort, refl)
field_gives Later name sort = (name, sort, refl)

item_gives : (state : Fields) (item : Item Fields) (after : List ℕ) → IsItem state item after → GivesGood item.given
item_gives state item after (blanks bytes h e) = subst (λ (x : Item Fields). GivesGood x.given) (sym e) tt
item_gives state item after (heads is e) = subst (λ (x : Item Fields). GivesGood x.given) (sym e) tt
item_gives state item after (field name sort h head is e) = subst (λ (x : Item Fields). GivesGood x.given) (sym e) (field_gives state.place name sort)

items_give : (state : Fields) (items : List (Item Fields)) (rest : List ℕ) → Stand item_is state items rest → AllGiven (given_of items)
unfolding AllGiven
items_give state [] rest h = tt
items_give state (item ∷ items) rest h = (item_gives state item (text_of items ++ rest) h.0, items_give item.state items rest h.1)

line_free : (pieces : List Piece) (rec : List Value) → AllGood pieces → IsRecordOf pieces rec → Free (line_text pieces rec)
unfolding AllGood
line_free [] rec good held = none
line_free (piece.Literal bytes ∷ pieces) rec good held = both bytes (line_text pieces rec) good.0 (line_free pieces rec good.1 held)
line_free (piece.Slot slot ∷ pieces) [] good held = none
line_free (piece.Slot slot ∷ pieces) (v ∷ rec) good held =
    let here : Free (slot_text slot v) =
    subst (λ (s : OneSlot). Holds s v → Free (slot_text s v)) (sym good.0.2) (slot_free good.0.0 good.0.1 v) held.0 in
    both (slot_text slot v) (line_text pieces rec) here (line_free pieces rec good.1 held.1)

pub no_return : (start : Fields) (text : List ℕ) (pieces : List Piece) (rec : List Value) → SpellsPieces item_is start text pieces → IsRecordOf pieces rec → All (λ b. b ≢ 13) (line_text pieces rec)
no_return start text pieces rec h held =
    let good : AllGood pieces = subst AllGood (sym h.pieces_are) (pieces_good (given_of h.items) (items_give start h.items [] h.whole.stand)) in
    (line_free pieces rec good held).all
