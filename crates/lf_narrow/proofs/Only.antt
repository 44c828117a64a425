-- What is so is what is answered.
use Rattle.std.proofs.Common.{◌≡◌, ℕ, inl, inr, Bool, ◌⊎◌, List, refl, sym, ap, ◌∙◌}
use Rattle.std.specs.Prelude.{Result, Ok, Err}
use Rattle.lf_syntax.specs.Cuts.{cuts}
use Rattle.lf_format.specs.Shape.{Shape}
use Rattle.lf_format.specs.declared.format.LineEnd.{LineEnd}
use Rattle.lf_format.specs.declared.format.Piece.{Piece}
use Rattle.lf_narrow.specs.declared.fault.NarrowFault.{NarrowFault}
use Rattle.lf_narrow.specs.declared.fault.NarrowFault.TheVariants.{Syntax, NoSlot, WrongKind, Empty, OutOfMemory}
use Rattle.lf_narrow.specs.Narrowed.{Narrows, NarrowsTo, IsFaulty, HasOneAnswer, IsSo}
use Rattle.lf_narrow.proofs.Unique.{answer_one}
use Rattle.lf_narrow.proofs.Answered.{Decides, some_answer}
use Rattle.lf_narrow.specs.Narrowing.{term, narrowing}

pub same_pieces : (a b : List Piece) → ◌≡◌ {A = Result (List Piece) NarrowFault} (Ok a) (Ok b) → a ≡ b
same_pieces a b e = cc

same_fault : (f g : NarrowFault) → ◌≡◌ {A = Result (List Piece) NarrowFault} (Err f) (Err g) → f ≡ g
same_fault f g e = cc

pub apart : (a : List Piece) (f : NarrowFault) → ◌≡◌ {A = Result (List Piece) NarrowFault} (Ok a) (Err f) → ⊥
apart a f e = cc

module _ (format : Shape) (text : List ℕ) where
  pub one_format : (one other : Shape) → NarrowsTo format text one → NarrowsTo format text other → one ≡ other
  one_format one other h e =
      let pieces = same_pieces one.pieces other.pieces (answer_one text (cuts 59 text) format.pieces (Ok one.pieces) (Ok other.pieces) h.pieces e.pieces) in
      let end = h.end_is ∙ sym e.end_is in
      let notes = h.notes_is ∙ sym e.notes_is in
      let made : List Piece → LineEnd → Bool → Shape = λ p l n. record { pieces = p; end = l; notes = n } in
      ap (λ (p : List Piece). made p one.end one.notes) pieces
      ∙ ap (λ (l : LineEnd). made other.pieces l one.notes) end
      ∙ ap (λ (n : Bool). made other.pieces other.end n) notes

  pub format_or_fault : (one : Shape) (f : NarrowFault) → NarrowsTo format text one → IsFaulty format text f → ⊥
  format_or_fault one f h e = apart one.pieces f (answer_one text (cuts 59 text) format.pieces (Ok one.pieces) (Err f) h.pieces e)

  so_or_memory : (f : NarrowFault) → IsSo (IsFaulty format text) f → (f ≡ OutOfMemory) ⊎ IsFaulty format text f
  so_or_memory (Syntax n) h = inr h
  so_or_memory (NoSlot n) h = inr h
  so_or_memory (WrongKind n) h = inr h
  so_or_memory (Empty n) h = inr h
  so_or_memory OutOfMemory h = inl refl

  pub memory_only : (one : Shape) (f : NarrowFault) → IsSo (IsFaulty format text) f → NarrowsTo format text one → f ≡ OutOfMemory
  memory_only one f h e = elim (so_or_memory f h) [ inl memory ↦ memory | inr faulty ↦ absurd (format_or_fault one f e faulty) ]

  pub one_fault : (f g : NarrowFault) → IsSo (IsFaulty format text) f → IsFaulty format text g → (f ≡ g) ⊎ (f ≡ OutOfMemory)
  one_fault f g h e = elim (so_or_memory f h) [
    | inl memory ↦ inr memory
    | inr faulty ↦ inl (same_fault f g (answer_one text (cuts 59 text) format.pieces (Err f) (Err g) faulty e))
  ]

  fault_one : (f g : NarrowFault) → IsFaulty format text f → IsFaulty format text g → f ≡ g
  fault_one f g h e = same_fault f g (answer_one text (cuts 59 text) format.pieces (Err f) (Err g) h e)

  by_answer : (answer : Result (List Piece) NarrowFault) → Narrows text (cuts 59 text) format.pieces answer → ((narrowed : Shape) × NarrowsTo format text narrowed) ⊎ ((fault : NarrowFault) × IsFaulty format text fault)
  by_answer (Ok pieces) h = inl (record { pieces = pieces; end = format.end; notes = format.notes }, record { pieces = h; end_is = refl; notes_is = refl })
  by_answer (Err fault) h = inr (fault, h)

  -- ONE ANSWER
  pub one_of_both : Decides term → Decides narrowing → HasOneAnswer format text
  one_of_both terms texts =
      let answer = some_answer terms texts text format.pieces in
      record { some = by_answer answer.0 answer.1; one_format = one_format; one_fault = fault_one; not_both = format_or_fault }
