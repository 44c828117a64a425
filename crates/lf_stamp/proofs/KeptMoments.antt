-- Moments that are kept.
use Rattle.std.proofs.Common.{◌≡◌, Bool, true, false, not, ◌&&◌, eqb, refl, ℕ, List, ◌++◌, length, take, drop, ◌-◌, sym, ap, subst, ◌∙◌, arith}
use Rattle.std.proofs.lemmas.List.{length-append}
use Rattle.std.proofs.Math.Seq.{take-append_seam}
use Rattle.std.proofs.Math.Bool.{beq}
use Rattle.std.proofs.lemmas.Bool.{and_parts, eqb-true, false≢true, not-false}
use denote.Enum.Bare.{sameb}
use Rattle.lf_layout.specs.contracts.layout.DateForm.{the_type as form_type}
use Rattle.lf_layout.specs.contracts.layout.Zone.{the_type as zone_type}
use Rattle.lf_layout.specs.declared.layout.DateForm.{DateForm}
use Rattle.lf_layout.specs.declared.layout.DateForm.TheVariants.{Iso, Named}
use Rattle.lf_layout.specs.declared.layout.Layout.{Layout}
use Rattle.lf_layout.specs.declared.layout.Zone.{Zone}
use Rattle.lf_layout.specs.declared.layout.Zone.TheVariants.{Absent, Zulu, Compact, Colon}
use Rattle.lf_stamp.specs.Fields.{moment_of}
use Rattle.lf_stamp.specs.Moments.{IsKept, ReadsMoment}
use Rattle.lf_stamp.specs.declared.stamp.Stamp.{Stamp}

-- What is kept is read again.
pub reads-kept : (kept layout : Layout) (s : Stamp) (text json line left old new : List ℕ) → IsKept kept s text json → kept ≡ layout → line ≡ text ++ left → new ≡ old ++ json → ReadsMoment layout line left old new
reads-kept kept layout s text json line left old new k same parts added =
    let here = subst (λ (l : Layout). IsKept l s text json) same k in
    record {
      moment = moment_of s;
      shown = here.shown;
      written = parts ∙ ap (λ (t : List ℕ). t ++ left) here.written;
      added = added ∙ ap (λ (t : List ℕ). old ++ t) here.told;
    }

-- What stands before the rest of a text.
pub front-is : (text front left written : List ℕ) (n : ℕ) → n ≡ length text - length left → front ≡ take n text → text ≡ written ++ left → front ≡ written
front-is text front left written n many cut parts =
    let long = ap (λ (t : List ℕ). length t) parts ∙ length-append written left in
    let same : n ≡ length written = omega (arith, many, long) in
    cut ∙ ap (λ (k : ℕ). take k text) same ∙ ap (λ (t : List ℕ). take (length written) t) parts ∙ take-append_seam written left

same-form : (x y : DateForm) → sameb form_type x y ≡ true → x ≡ y
same-form Iso Iso h = refl
same-form Iso Named h = absurd (false≢true h)
same-form Named Iso h = absurd (false≢true h)
same-form Named Named h = refl

same-zone : (x y : Zone) → sameb zone_type x y ≡ true → x ≡ y
same-zone Absent Absent h = refl
same-zone Absent Zulu h = absurd (false≢true h)
same-zone Absent Compact h = absurd (false≢true h)
same-zone Absent Colon h = absurd (false≢true h)
same-zone Zulu Absent h = absurd (false≢true h)
same-zone Zulu Zulu h = refl
same-zone Zulu Compact h = absurd (false≢true h)
same-zone Zulu Colon h = absurd (false≢true h)
same-zone Compact Absent h = absurd (false≢true h)
same-zone Compact Zulu h = absurd (false≢true h)
same-zone Compact Compact h = refl
same-zone Compact Colon h = absurd (false≢true h)
same-zone Colon Absent h = absurd (false≢true h)
same-zone Colon Zulu h = absurd (false≢true h)
same-zone Colon Compact h = absurd (false≢true h)
same-zone Colon Colon h = refl

same-bool : (x y : Bool) → beq x y ≡ true → x ≡ y
same-bool true true h = refl
same-bool true false h = absurd (false≢true h)
same-bool false true h = absurd (false≢true h)
same-bool false false h = refl

-- What the code's test of two layouts says.
pub same-layout : (a b : Layout) → false ≡ not (beq a.bracketed b.bracketed && (sameb form_type a.date b.date && (eqb a.between b.between && (beq a.millis b.millis && sameb zone_type a.zone b.zone)))) → a ≡ b
same-layout a b e =
    let one = and_parts _ _ (not-false _ (sym e)) in
    let two = and_parts _ _ one.1 in
    let three = and_parts _ _ two.1 in
    let four = and_parts _ _ three.1 in
    let bracketed = same-bool a.bracketed b.bracketed one.0 in
    let date = same-form a.date b.date two.0 in
    let between = eqb-true a.between b.between three.0 in
    let millis = same-bool a.millis b.millis four.0 in
    let zone = same-zone a.zone b.zone four.1 in
    λ i. record { bracketed = bracketed i; date = date i; between = between i; millis = millis i; zone = zone i }
