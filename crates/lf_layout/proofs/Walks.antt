-- A walk along places, a letter each.
use Rattle.std.proofs.Common.{◌≡◌, ℕ, ◌+◌, ◌≤◌, List, [], ◌∷◌, Some, true, sym, arith}
use Rattle.std.proofs.lemmas.Bool.Decides.{nat_tests}
use Rattle.std.proofs.lemmas.Bool.{and_parts}
use Rattle.lf_core.specs.Domain.{accepts}
use Rattle.lf_layout.specs.Places.{IsPlaced, IsReadableFrom, place_exits, after_place, next_point, is_last, is_byte, all_bytes, is_chained}
use Rattle.lf_layout.specs.PlaceLaws.{run, accepts-run, entry-first, place-stays}
use Rattle.lf_layout.specs.declared.place.Place.{Place}

-- fewer memories before the places go too
narrower : (places : List Place) (entry fewer : ℕ) → fewer ≤ entry → is_chained entry places ≡ true → is_chained fewer places ≡ true
narrower [] entry fewer l h = grind (arith, nat_tests, h)
narrower (place ∷ places) entry fewer l h =
    let f = entry-first entry place places h in
    grind (arith, nat_tests, f.0, f.1)

-- after a letter of the first place the others may be read
pub reads-on : (place : Place) (places : List Place) (memory letter after : ℕ) → IsReadableFrom memory (place ∷ places) → after_place place memory letter ≡ Some after → IsReadableFrom after places
reads-on place places memory letter after is e =
    let f = entry-first (memory + 1) place places is.chained in
    let d = and_parts (is_byte place) (all_bytes places) is.bytes in
    let s = place-stays place memory letter after (omega (arith, f.0)) d.0 e in
    record {
      bytes = d.1;
      chained = narrower places (place_exits place) (after + 1) (omega (arith, s.1)) f.1;
      few = omega (arith, is.few);
    }

-- what they read is what their machine accepts
pub reads-accepted : (places : List Place) (text : List ℕ) → IsPlaced places → run places 0 text ≡ accepts (next_point places) (is_last places) 0 text
reads-accepted places text is = sym (accepts-run places 1 0 text is.bytes is.chained (omega arith))
