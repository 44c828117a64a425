-- The answers exclude one another, and each has one content.
use Rattle.std.proofs.Common.{◌≡◌, ℕ, ◌≤◌, ◌⊎◌, inl, inr, List, ◌∷◌, Option, None, Some, refl, sym, ap, ◌∙◌, subst, arith}
use Rattle.lf_core.specs.declared.values.Value.{Value}
use Rattle.lf_format.specs.Lines.{IsReadable, IsConfused}
use Rattle.lf_format.specs.Shape.{Shape}
use Rattle.lf_format.specs.Size.{size_of}
use Rattle.lf_format.specs.declared.format.Piece.{Piece}
use Rattle.lf_compile.specs.Accepted.{HasNoNote, IsTooLarge, IsRefusedNote, IsCauseOf, IsAnswer}
use Rattle.lf_compile.specs.Confused.{IsLeastRecord, IsSecondRecord, IsLeastConfused}
use Rattle.lf_compile.specs.Notes.{IsLeastNote}
use Rattle.lf_limits.specs.Limits.{most_size}
use Rattle.lf_compile.specs.declared.refused.Confusion.{Confusion}
use Rattle.lf_compile.specs.declared.refused.Refused.{Refused}
use Rattle.lf_compile.specs.declared.refused.Refused.TheVariants.{TooLarge, Hash, Ambiguous, OutOfMemory}
use Rattle.lf_compile.proofs.Least.{one_record, one_line}

not_large : (format : Shape) (size : ℕ) → size_of format.pieces ≤ most_size → IsTooLarge format size → ⊥
not_large format size within large = let e = large.is in let over = large.over in omega (arith, e, over, within)

not_note : (format : Shape) (rec : List Value) → HasNoNote format → IsRefusedNote format rec → ⊥
not_note format rec apart note = apart note.notes (rec, note.least.rest, note.least.on_line.prints)

confused_by : (pieces : List Piece) (line : List ℕ) (first second : List Value) → IsLeastConfused pieces line first second → IsConfused pieces first second line
confused_by pieces line first second least = record {
  left = least.on_first.prints;
  right = least.on_second.prints;
  differ = λ e. least.on_second.differs (sym e);
}

not_confused : (pieces : List Piece) (line : List ℕ) (first second : List Value) → IsReadable pieces → IsLeastConfused pieces line first second → ⊥
not_confused pieces line first second readable least = readable first second line (confused_by pieces line first second least)

-- There is one least record of a line.
one_least : (pieces : List Piece) (line other : List ℕ) (rec also : List Value) → line ≡ other → IsLeastRecord pieces line rec → IsLeastRecord pieces other also → rec ≡ also
one_least pieces line other rec also e one two =
    let same : IsLeastRecord pieces line also = subst (λ (bytes : List ℕ). IsLeastRecord pieces bytes also) (sym e) two in
    one_record pieces rec also (one.least also same.prints) (same.least rec one.prints)

-- There is one least note.
one_note : (pieces : List Piece) (rec also : List Value) → IsLeastNote pieces rec → IsLeastNote pieces also → rec ≡ also
one_note pieces rec also one two =
    let e = one_line (35 ∷ one.rest) (35 ∷ two.rest) (one.least also two.rest two.on_line.prints) (two.least rec one.rest one.on_line.prints) in
    one_least pieces (35 ∷ one.rest) (35 ∷ two.rest) rec also e one.on_line two.on_line

-- There is one second record of a line.
one_second : (pieces : List Piece) (line other : List ℕ) (first again rec also : List Value) → line ≡ other → first ≡ again → IsSecondRecord pieces line first rec → IsSecondRecord pieces other again also → rec ≡ also
one_second pieces line other first again rec also e f one two =
    let there : IsSecondRecord pieces line again also = subst (λ (bytes : List ℕ). IsSecondRecord pieces bytes again also) (sym e) two in
    let same : IsSecondRecord pieces line first also = subst (λ (r : List Value). IsSecondRecord pieces line r also) (sym f) there in
    one_record pieces rec also (one.least also same.prints same.differs) (same.least rec one.prints one.differs)

-- There is one least confusion.
one_confusion : (pieces : List Piece) (one two : Confusion) → IsLeastConfused pieces one.line one.first one.second → IsLeastConfused pieces two.line two.first two.second → one ≡ two
one_confusion pieces one two h g =
    let e = one_line one.line two.line (h.least two.line (two.first, two.second, confused_by pieces two.line two.first two.second g)) (g.least one.line (one.first, one.second, confused_by pieces one.line one.first one.second h)) in
    let f = one_least pieces one.line two.line one.first two.first e h.on_first g.on_first in
    let s = one_second pieces one.line two.line one.first two.first one.second two.second e f h.on_second g.on_second in
    ap (λ (line : List ℕ). record { line = line; first = one.first; second = one.second }) e
    ∙ ap (λ (first : List Value). record { line = two.line; first = first; second = one.second }) f
    ∙ ap (λ (second : List Value). record { line = two.line; first = two.first; second = second }) s

-- Each format has one answer at most.
pub answers_are_one : (format : Shape) (one two : Option Refused) → IsAnswer format one → IsAnswer format two → one ≡ two
answers_are_one format (Some OutOfMemory) two h g = absurd (h.1 refl)
answers_are_one format None (Some OutOfMemory) h g = absurd (g.1 refl)
answers_are_one format (Some (TooLarge size)) (Some OutOfMemory) h g = absurd (g.1 refl)
answers_are_one format (Some (Hash rec)) (Some OutOfMemory) h g = absurd (g.1 refl)
answers_are_one format (Some (Ambiguous confusion)) (Some OutOfMemory) h g = absurd (g.1 refl)
answers_are_one format None None h g = refl
answers_are_one format None (Some (TooLarge size)) h g = absurd (not_large format size h.within g.0)
answers_are_one format None (Some (Hash rec)) h g = absurd (not_note format rec h.apart g.0)
answers_are_one format None (Some (Ambiguous c)) h g = absurd (not_confused format.pieces c.line c.first c.second h.readable g.0.least)
answers_are_one format (Some (TooLarge size)) None h g = absurd (not_large format size g.within h.0)
answers_are_one format (Some (TooLarge size)) (Some (TooLarge other)) h g = ap (λ (n : ℕ). Some (TooLarge n)) (h.0.is ∙ sym g.0.is)
answers_are_one format (Some (TooLarge size)) (Some (Hash rec)) h g = absurd (not_large format size g.0.within h.0)
answers_are_one format (Some (TooLarge size)) (Some (Ambiguous c)) h g = absurd (not_large format size g.0.within h.0)
answers_are_one format (Some (Hash rec)) None h g = absurd (not_note format rec g.apart h.0)
answers_are_one format (Some (Hash rec)) (Some (TooLarge size)) h g = absurd (not_large format size h.0.within g.0)
answers_are_one format (Some (Hash rec)) (Some (Hash also)) h g = ap (λ (r : List Value). Some (Hash r)) (one_note format.pieces rec also h.0.least g.0.least)
answers_are_one format (Some (Hash rec)) (Some (Ambiguous c)) h g = absurd (not_note format rec g.0.apart h.0)
answers_are_one format (Some (Ambiguous c)) None h g = absurd (not_confused format.pieces c.line c.first c.second g.readable h.0.least)
answers_are_one format (Some (Ambiguous c)) (Some (TooLarge size)) h g = absurd (not_large format size h.0.within g.0)
answers_are_one format (Some (Ambiguous c)) (Some (Hash rec)) h g = absurd (not_note format rec h.0.apart g.0)
answers_are_one format (Some (Ambiguous c)) (Some (Ambiguous d)) h g = ap (λ (x : Confusion). Some (Ambiguous x)) (one_confusion format.pieces c d h.0.least g.0.least)

-- The cause that is told is the answer, unless memory ran out.
pub told_cause : (format : Shape) (answer : Option Refused) (cause : Refused) → IsAnswer format answer → IsCauseOf format cause → (answer ≡ Some cause) ⊎ (cause ≡ OutOfMemory)
told_cause format answer OutOfMemory h told = inr refl
told_cause format answer (TooLarge size) h told = inl (answers_are_one format answer (Some (TooLarge size)) h (told, λ e. cc))
told_cause format answer (Hash rec) h told = inl (answers_are_one format answer (Some (Hash rec)) h (told, λ e. cc))
told_cause format answer (Ambiguous c) h told = inl (answers_are_one format answer (Some (Ambiguous c)) h (told, λ e. cc))
