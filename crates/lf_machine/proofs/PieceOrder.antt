-- Of two runs of a piece the lesser is the lesser value's.
use Rattle.std.proofs.Common.{◌≡◌, ℕ, inl, inr, List, [], ◌∷◌, ◌++◌, Bool, true, false, cond, refl, sym, ap, subst, ◌∙◌, arith}
use Rattle.lf_core.specs.declared.values.Value.{Value}
use Rattle.lf_escape.specs.Codes.{IsCode}
use Rattle.lf_escape.specs.Codings.{coding_takes, coding_word, coding_laws}
use Rattle.lf_core.specs.declared.values.Value.TheVariants.{Missing}
use Rattle.lf_format.specs.Kinds.{kind_machine, plain_text}
use Rattle.lf_format.specs.Slots.{Holds}
use Rattle.lf_format.specs.declared.slot.Slot.{Slot as ASlot}
use Rattle.lf_format.specs.Lines.{IsRecordOf, line_text}
use Rattle.lf_format.specs.Keeps.{KeepsPiece, EachKept, TakesPlain}
use Rattle.lf_format.specs.declared.format.Piece.{Piece}
use Rattle.lf_format.specs.declared.format.Piece.TheVariants.{Literal, Slot}
use Rattle.lf_machine.specs.RecordOrder.{IsTextLess, IsValueLess, IsRecordLess}
use Rattle.lf_machine.specs.Paths.{Step, Before}
use Rattle.lf_machine.specs.Letters.{At, letters_run}
use Rattle.lf_machine.specs.Unquoted.{Said, nothing, letters, Within, start_run, dashed, HoldsSaid, said_run}
use Rattle.lf_machine.specs.Quoted.{opening, closing, HoldsQuoted, quoted_run}
use Rattle.lf_machine.specs.Literal.{literal_run}
use Rattle.lf_machine.proofs.RowRuns.{IsOrdered, AllOrdered, RowLess, row-order}
use Rattle.lf_machine.specs.Pieces.{machine_of, dash_of, said_of, piece_row}
use Rattle.lf_machine.proofs.PieceRuns.{one-absence, blank-apart, missing-unquoted_text, bare-said, bare-text, framed-said, framed-text, all-exact}
use Rattle.lf_machine.proofs.SlotOrder.{SaidLess, letters-low, low-wrapped, low-closed, quoted-order, never-before}
use Rattle.lf_machine.proofs.PlainOrder.{plain-order}
use Rattle.lf_machine.specs.Records.{spread, record_steps}
use Rattle.lf_machine.proofs.RecordLaws.{spread-filled, spread-text}
use Rattle.lf_machine.proofs.Joins.{AllLow}

-- of two values in one place of a line, the lesser
abbrev pub PieceLess : Piece → Value → Value → Type 0
PieceLess (Literal bytes) v u = ⊥
PieceLess (Slot s) v u = SaidLess (dash_of s.absent s.present) (said_of s.kind v) (said_of s.kind u)

-- what is less by what a slot says is less
said-value_less : (s : ASlot) (v u : Value) → Holds s v → Holds s u → PieceLess (Slot s) v u → IsValueLess s v u
said-value_less s Missing Missing h g l = absurd l
said-value_less s Missing u h g l =
    let e = missing-unquoted_text s.absent s.present h in
    elim l [
      | inl k ↦ inl (subst (λ (t : List ℕ). IsTextLess t (plain_text s.kind u)) (sym e) k)
      | inr k ↦ inr (e ∙ k, refl, λ z. cc)
    ]
said-value_less s v Missing h g l =
    inl (subst (λ (t : List ℕ). IsTextLess (plain_text s.kind v) t) (sym (missing-unquoted_text s.absent s.present g)) l)
said-value_less s v u h g l = inl l

abbrev Ordered : Piece → Type 0
Ordered = IsOrdered piece_row PieceLess

low-cond : (b : Bool) (xs ys : List (Step Within)) → AllLow 259 xs → AllLow 259 ys → AllLow 259 (cond b xs ys)
low-cond true xs ys h g = h
low-cond false xs ys h g = g

literal-low : (bytes : List ℕ) → AllLow 259 (literal_run bytes)
literal-low [] = tt
literal-low (b ∷ bytes) = (omega arith, literal-low bytes)

literal-ordered : (bytes : List ℕ) → Ordered (Literal bytes)
literal-ordered bytes = record {
  low = λ v h. literal-low bytes;
  order = λ v u x y h g e b. never-before (literal_run bytes) b;
}

module _ (s : ASlot) where
  start-low : (ks : List (Step At)) → AllLow 259 ks → AllLow 259 (start_run (machine_of s) ks)
  start-low [] h = tt
  start-low (k ∷ ks) h = (h.0, low-wrapped (machine_of s) ks h.1)

  pub plain-low : (v : Said) → HoldsSaid (machine_of s) v → AllLow 259 (said_run (machine_of s) v)
  plain-low nothing h = low-cond (dash_of s.absent s.present) (dashed ∷ []) [] (omega arith, tt) tt
  plain-low (letters cs) h = let c : IsCode (coding_takes s.code) (coding_word s.code) = coding_laws s.code in start-low (letters_run (machine_of s) (kind_machine s.kind).first cs) (letters-low (machine_of s) c.bytes cs (kind_machine s.kind).first h.0 h.1)

  pub quote-low : (v : Said) → HoldsQuoted (machine_of s) v → AllLow 259 (quoted_run (machine_of s) v)
  quote-low nothing h = low-cond (dash_of s.absent s.present) (dashed ∷ []) (opening ∷ closing ∷ []) (omega arith, tt) (omega arith, (omega arith, tt))
  quote-low (letters cs) h = let c : IsCode (coding_takes s.code) (coding_word s.code) = coding_laws s.code in (omega arith, low-closed (machine_of s) (letters_run (machine_of s) (kind_machine s.kind).first cs) (letters-low (machine_of s) c.bytes cs (kind_machine s.kind).first h.0 h.1))

slot-ordered : (quoted : Bool) (s : ASlot) → TakesPlain s.kind s.code → Ordered (Slot (record s { quoted = quoted }))
slot-ordered false s t = record {
  low = λ v h. plain-low s (said_of s.kind v) (bare-said s t v h);
  order = λ v u x y h g e b.
      plain-order (machine_of s) (coding_laws s.code).prefix_free (coding_laws s.code).dash_alone (one-absence s.absent s.present) (blank-apart s.absent s.present)
      (said_of s.kind v) (said_of s.kind u) x y (bare-said s t v h) (bare-said s t u g)
      (ap (λ (w : List ℕ). w ++ x) (sym (bare-text s v h)) ∙ e ∙ ap (λ (w : List ℕ). w ++ y) (bare-text s u g)) b;
}
slot-ordered true s t = record {
  low = λ v h. quote-low s (said_of s.kind v) (framed-said s t v h);
  order = λ v u x y h g e b.
      quoted-order (machine_of s) (coding_laws s.code).prefix_free (one-absence s.absent s.present) (blank-apart s.absent s.present)
      (said_of s.kind v) (said_of s.kind u) x y (framed-said s t v h) (framed-said s t u g)
      (ap (λ (w : List ℕ). w ++ x) (sym (framed-text s v h)) ∙ e ∙ ap (λ (w : List ℕ). w ++ y) (framed-text s u g)) b;
}

piece-ordered : (p : Piece) → KeepsPiece p → Ordered p
piece-ordered (Literal bytes) t = literal-ordered bytes
piece-ordered (Slot s) t = slot-ordered s.quoted s t.takes

pub all-ordered : (ps : List Piece) → EachKept ps → AllOrdered piece_row PieceLess ps
all-ordered [] t = tt
all-ordered (p ∷ ps) t = (piece-ordered p t.0, all-ordered ps t.1)

spread-less : (ps : List Piece) (rec other : List Value) → IsRecordOf ps rec → IsRecordOf ps other → RowLess piece_row PieceLess ps (spread ps rec) (spread ps other) → IsRecordLess ps rec other
spread-less [] rec other h g l = l
spread-less (Literal bytes ∷ ps) rec other h g l = elim l [ inl f ↦ absurd f | inr f ↦ spread-less ps rec other h g f.1 ]
spread-less (Slot s ∷ ps) [] other h g l = absurd h
spread-less (Slot s ∷ ps) (v ∷ rec) [] h g l = absurd g
spread-less (Slot s ∷ ps) (v ∷ rec) (u ∷ other) h g l = elim l [ inl f ↦ inl (said-value_less s v u h.0 g.0 f) | inr f ↦ inr (f.0, spread-less ps rec other h.1 g.1 f.1) ]

-- of two records that print one line, the one whose steps are before the other's is less
pub steps-order : (ps : List Piece) → EachKept ps → (rec other : List Value) → IsRecordOf ps rec → IsRecordOf ps other → line_text ps rec ≡ line_text ps other → Before (record_steps ps rec) (record_steps ps other) → IsRecordLess ps rec other
steps-order ps t rec other h g e b =
    spread-less ps rec other h g
    (row-order piece_row PieceLess ps (all-exact ps t) (all-ordered ps t) (spread ps rec) (spread ps other) (spread-filled ps rec h) (spread-filled ps other g)
    (spread-text ps rec h ∙ e ∙ sym (spread-text ps other g)) b)
