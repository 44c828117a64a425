-- Each piece has one whole run for each value that it holds, over its text.
use Rattle.std.proofs.Common.{◌≡◌, ◌≢◌, ℕ, ◌⊎◌, inl, inr, List, [], ◌∷◌, Bool, true, false, cond, refl, sym, ap, subst, ◌∙◌, All}
use Rattle.std.proofs.lemmas.List.Elements.{All-head, All-tail}
use Rattle.lf_core.specs.declared.values.Value.{Value}
use Rattle.lf_core.specs.declared.values.Value.TheVariants.{Missing}
use Rattle.lf_escape.specs.Codings.{coding_takes, coding_laws}
use Rattle.lf_format.specs.Kinds.{HoldsKind, plain_text, kind_laws}
use Rattle.lf_format.specs.Slots.{holds_missing, IsNotAbsence, Holds, missing_text, slot_text}
use Rattle.lf_format.specs.Keeps.{KeepsPiece, EachKept, TakesPlain}
use Rattle.lf_format.specs.declared.kind.Kind.{Kind}
use Rattle.lf_format.specs.declared.kind.Kind.TheVariants as kinds
use Rattle.lf_format.specs.declared.slot.Slot.{Slot as ASlot}
use Rattle.lf_format.specs.declared.slot.Absent.{Absent}
use Rattle.lf_format.specs.declared.slot.Absent.TheVariants.{No, Dash, DashTwo, Blank}
use Rattle.lf_format.specs.declared.format.Piece.{Piece}
use Rattle.lf_format.specs.declared.format.Piece.TheVariants.{Literal, Slot}
use Rattle.lf_machine.specs.Parts.{IsWhole}
use Rattle.lf_machine.proofs.RowRuns.{IsExact, AllExact}
use Rattle.lf_machine.specs.Letters.{AllTaken}
use Rattle.lf_machine.specs.Unquoted.{Said, nothing, letters, HoldsSaid, said_text, said_run, plain_part}
use Rattle.lf_machine.proofs.PlainRuns.{said-sound, said-complete, said-apart}
use Rattle.lf_machine.proofs.QuotedRuns.{quoted-sound, quoted-complete, quoted-apart}
use Rattle.lf_machine.proofs.LiteralRuns.{literal-sound, literal-complete}
use Rattle.lf_machine.specs.Pieces.{machine_of, is_blank, is_one, dash_of, blank_of, said_of, piece_row}
use Rattle.lf_machine.specs.Quoted.{HoldsQuoted, quoted_text, quoted_run, framed_part}

pub missing-said : (a : Absent) (p : Bool) → holds_missing a p ≡ true → (dash_of a p ≡ true) ⊎ (blank_of a p ≡ true)
missing-said No p h = cc
missing-said Dash true h = cc
missing-said Dash false h = inl refl
missing-said DashTwo true h = cc
missing-said DashTwo false h = inl refl
missing-said Blank true h = cc
missing-said Blank false h = inr refl

said-missing : (a : Absent) (p : Bool) → (dash_of a p ≡ true) ⊎ (blank_of a p ≡ true) → holds_missing a p ≡ true
said-missing a true h = elim h [ inl d ↦ cc | inr d ↦ cc ]
said-missing No false h = elim h [ inl d ↦ d | inr d ↦ d ]
said-missing Dash false h = refl
said-missing DashTwo false h = refl
said-missing Blank false h = refl

pub one-absence : (a : Absent) (p : Bool) → dash_of a p ≡ true → blank_of a p ≡ true → ⊥
one-absence a true d b = cc
one-absence No false d b = cc
one-absence Dash false d b = cc
one-absence DashTwo false d b = cc
one-absence Blank false d b = cc

pub blank-apart : (a : Absent) (p : Bool) → blank_of a p ≡ true → is_blank a ≡ true
blank-apart a true h = cc
blank-apart a false h = h

pub apart-said : (a : Absent) (plain : List ℕ) → IsNotAbsence a false plain → (is_one a ≡ true → plain ≢ 45 ∷ []) × (is_blank a ≡ true → plain ≢ [])
apart-said No plain h = (λ t e. cc, λ t e. cc)
apart-said Dash plain h = (λ t e. h e, λ t e. cc)
apart-said DashTwo plain h = (λ t e. cc, λ t e. cc)
apart-said Blank plain h = (λ t e. cc, λ t e. h e)

said-apart_plain : (a : Absent) (plain : List ℕ) → (is_one a ≡ true → plain ≢ 45 ∷ []) → (is_blank a ≡ true → plain ≢ []) → IsNotAbsence a false plain
said-apart_plain No plain d b = tt
said-apart_plain Dash plain d b = d refl
said-apart_plain DashTwo plain d b = tt
said-apart_plain Blank plain d b = b refl

pub apart-quoted : (a : Absent) (plain : List ℕ) → IsNotAbsence a true plain → (is_blank a ≡ true → plain ≢ [])
apart-quoted No plain h = λ t e. cc
apart-quoted Dash plain h = λ t e. cc
apart-quoted DashTwo plain h = λ t e. cc
apart-quoted Blank plain h = λ t e. h e

quoted-apart_plain : (a : Absent) (plain : List ℕ) → (is_blank a ≡ true → plain ≢ []) → IsNotAbsence a true plain
quoted-apart_plain No plain b = tt
quoted-apart_plain Dash plain b = tt
quoted-apart_plain DashTwo plain b = tt
quoted-apart_plain Blank plain b = b refl

-- the text of absence
pub missing-unquoted_text : (a : Absent) (p : Bool) → holds_missing a p ≡ true → missing_text a false ≡ cond (dash_of a p) (45 ∷ []) []
missing-unquoted_text No true h = refl
missing-unquoted_text No false h = refl
missing-unquoted_text Dash true h = cc
missing-unquoted_text Dash false h = refl
missing-unquoted_text DashTwo true h = cc
missing-unquoted_text DashTwo false h = refl
missing-unquoted_text Blank true h = refl
missing-unquoted_text Blank false h = refl

missing-quoted_text : (a : Absent) (p : Bool) → holds_missing a p ≡ true → missing_text a true ≡ cond (dash_of a p) (45 ∷ []) (34 ∷ 34 ∷ [])
missing-quoted_text No true h = cc
missing-quoted_text No false h = cc
missing-quoted_text Dash true h = cc
missing-quoted_text Dash false h = refl
missing-quoted_text DashTwo true h = cc
missing-quoted_text DashTwo false h = refl
missing-quoted_text Blank true h = refl
missing-quoted_text Blank false h = refl

kind-never : (k : Kind) → HoldsKind k Missing → ⊥
kind-never (kinds.Num d) h = h
kind-never (kinds.DashZero d) h = h
kind-never (kinds.Fixed3 d) h = h
kind-never (kinds.Padded d) h = h
kind-never (kinds.Words d) h = h
kind-never (kinds.Text d) h = h
kind-never (kinds.Query d) h = h
kind-never (kinds.Clf d) h = h
kind-never (kinds.Iso d) h = h
kind-never (kinds.IsoMillis d) h = h
kind-never (kinds.Ha d) h = h
kind-never (kinds.Date d) h = h
kind-never (kinds.Clock d) h = h

module _ (s : ASlot) where
  all-taken : (cs : List ℕ) → All (λ letter. coding_takes s.code letter ≡ true) cs → AllTaken (machine_of s) cs
  all-taken [] h = tt
  all-taken (c ∷ cs) h = (All-head (λ letter. coding_takes s.code letter ≡ true) c cs h, all-taken cs (All-tail (λ letter. coding_takes s.code letter ≡ true) c cs h))

  -- the letters of a held value are those that the slot's machine reads
  held-said : TakesPlain s.kind s.code → (v : Value) → HoldsKind s.kind v → (is_one s.absent ≡ true → plain_text s.kind v ≢ 45 ∷ []) × (is_blank s.absent ≡ true → plain_text s.kind v ≢ []) → HoldsSaid (machine_of s) (letters (plain_text s.kind v))
  held-said t v h a = let l = kind_laws s.kind in (all-taken (plain_text s.kind v) (t v h), l.complete v h, a.0, a.1)

  held-quoted : TakesPlain s.kind s.code → (v : Value) → HoldsKind s.kind v → (is_blank s.absent ≡ true → plain_text s.kind v ≢ []) → HoldsQuoted (machine_of s) (letters (plain_text s.kind v))
  held-quoted t v h a = let l = kind_laws s.kind in (all-taken (plain_text s.kind v) (t v h), l.complete v h, λ t e. cc, a)

  abbrev pub bare : ASlot
  bare = record s { quoted = false }

  abbrev pub framed : ASlot
  framed = record s { quoted = true }

  pub bare-said : TakesPlain s.kind s.code → (v : Value) → Holds bare v → HoldsSaid (machine_of s) (said_of s.kind v)
  bare-said t Missing h = missing-said s.absent s.present h
  bare-said t v h = held-said t v h.0 (apart-said s.absent (plain_text s.kind v) h.1)

  pub bare-text : (v : Value) → Holds bare v → slot_text bare v ≡ said_text (machine_of s) (said_of s.kind v)
  bare-text Missing h = missing-unquoted_text s.absent s.present h
  bare-text v h = refl

  -- what is said is a held value's
  bare-letters : (v : Value) (cs : List ℕ) → HoldsKind s.kind v → plain_text s.kind v ≡ cs → HoldsSaid (machine_of s) (letters cs) → (u : Value) × Holds bare u × (letters cs ≡ said_of s.kind u)
  bare-letters Missing cs h e d = absurd (kind-never s.kind h)
  bare-letters v cs h e d = (v, (h, said-apart_plain s.absent (plain_text s.kind v) (λ t z. d.2 t (sym e ∙ z)) (λ t z. d.3 t (sym e ∙ z))), ap letters (sym e))

  said-bare : (u : Said) → HoldsSaid (machine_of s) u → (v : Value) × Holds bare v × (u ≡ said_of s.kind v)
  said-bare nothing h = (Missing, said-missing s.absent s.present h, refl)
  said-bare (letters cs) h = let l = kind_laws s.kind in let f = l.sound cs h.1 in bare-letters f.0 cs f.1 f.2 h

  pub framed-said : TakesPlain s.kind s.code → (v : Value) → Holds framed v → HoldsQuoted (machine_of s) (said_of s.kind v)
  framed-said t Missing h = missing-said s.absent s.present h
  framed-said t v h = held-quoted t v h.0 (apart-quoted s.absent (plain_text s.kind v) h.1)

  pub framed-text : (v : Value) → Holds framed v → slot_text framed v ≡ quoted_text (machine_of s) (said_of s.kind v)
  framed-text Missing h = missing-quoted_text s.absent s.present h
  framed-text v h = refl

  framed-letters : (v : Value) (cs : List ℕ) → HoldsKind s.kind v → plain_text s.kind v ≡ cs → HoldsQuoted (machine_of s) (letters cs) → (u : Value) × Holds framed u × (letters cs ≡ said_of s.kind u)
  framed-letters Missing cs h e d = absurd (kind-never s.kind h)
  framed-letters v cs h e d = (v, (h, quoted-apart_plain s.absent (plain_text s.kind v) (λ t z. d.3 t (sym e ∙ z))), ap letters (sym e))

  said-framed : (u : Said) → HoldsQuoted (machine_of s) u → (v : Value) × Holds framed v × (u ≡ said_of s.kind v)
  said-framed nothing h = (Missing, said-missing s.absent s.present h, refl)
  said-framed (letters cs) h = let l = kind_laws s.kind in let f = l.sound cs h.1 in framed-letters f.0 cs f.1 f.2 h

unsaid : (cs : List ℕ) → nothing ≡ letters cs → ⊥
unsaid cs e = cc

same-plain : (k : Kind) (v u : Value) → HoldsKind k v → HoldsKind k u → letters (plain_text k v) ≡ letters (plain_text k u) → v ≡ u
same-plain k v u h g e = let p : plain_text k v ≡ plain_text k u = cc in let l = kind_laws k in l.distinct v u h g p

-- two held values that say one thing are one
pub said-same : (s : ASlot) (v u : Value) → Holds s v → Holds s u → said_of s.kind v ≡ said_of s.kind u → v ≡ u
said-same s Missing Missing h g e = refl
said-same s Missing u h g e = absurd (unsaid (plain_text s.kind u) e)
said-same s v Missing h g e = absurd (unsaid (plain_text s.kind v) (sym e))
said-same s v u h g e = same-plain s.kind v u h.0 g.0 e

abbrev pub Exact : Piece → Type 0
Exact p = IsExact piece_row p

literal-exact : (bytes : List ℕ) → Exact (Literal bytes)
literal-exact bytes = record {
  sound = λ w r h. let g = literal-sound bytes w r h in (Missing, refl, g.0, g.1);
  complete = λ v h. literal-complete bytes;
  apart = λ v u h g e. h ∙ sym g;
}

slot-exact : (quoted : Bool) (s : ASlot) → TakesPlain s.kind s.code → Exact (Slot (record s { quoted = quoted }))
slot-exact false s t = record {
  sound = λ w r h.
      let g = said-sound (machine_of s) (coding_laws s.code).dash (one-absence s.absent s.present) (blank-apart s.absent s.present) w r h in
      let f = said-bare s g.0 g.1 in
      (f.0, f.1, g.2 ∙ ap (said_text (machine_of s)) f.2 ∙ sym (bare-text s f.0 f.1), g.3 ∙ ap (said_run (machine_of s)) f.2);
  complete = λ v h.
      let g = said-complete (machine_of s) (coding_laws s.code).dash (one-absence s.absent s.present) (blank-apart s.absent s.present) (said_of s.kind v) (bare-said s t v h) in
      subst (λ (x : List ℕ). IsWhole (plain_part (machine_of s)) x (said_run (machine_of s) (said_of s.kind v)))
      (sym (bare-text s v h)) g;
  apart = λ v u h g e.
      said-same (bare s) v u h g
      (said-apart (machine_of s) (coding_laws s.code).dash (one-absence s.absent s.present) (blank-apart s.absent s.present) (said_of s.kind v) (said_of s.kind u) (bare-said s t v h) (bare-said s t u g) e);
}
slot-exact true s t = record {
  sound = λ w r h.
      let g = quoted-sound (machine_of s) (one-absence s.absent s.present) (blank-apart s.absent s.present) w r h in
      let f = said-framed s g.0 g.1 in
      (f.0, f.1, g.2 ∙ ap (quoted_text (machine_of s)) f.2 ∙ sym (framed-text s f.0 f.1), g.3 ∙ ap (quoted_run (machine_of s)) f.2);
  complete = λ v h.
      let g = quoted-complete (machine_of s) (one-absence s.absent s.present) (blank-apart s.absent s.present) (said_of s.kind v) (framed-said s t v h) in
      subst (λ (x : List ℕ). IsWhole (framed_part (machine_of s)) x (quoted_run (machine_of s) (said_of s.kind v)))
      (sym (framed-text s v h)) g;
  apart = λ v u h g e.
      said-same (framed s) v u h g
      (quoted-apart (machine_of s) (one-absence s.absent s.present) (blank-apart s.absent s.present) (said_of s.kind v) (said_of s.kind u) (framed-said s t v h) (framed-said s t u g) e);
}

pub piece-exact : (p : Piece) → KeepsPiece p → Exact p
piece-exact (Literal bytes) t = literal-exact bytes
piece-exact (Slot s) t = slot-exact s.quoted s t.takes

pub all-exact : (ps : List Piece) → EachKept ps → AllExact piece_row ps
all-exact [] t = tt
all-exact (p ∷ ps) t = (piece-exact p t.0, all-exact ps t.1)
