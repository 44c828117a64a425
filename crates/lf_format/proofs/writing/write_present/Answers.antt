use Rattle.std.proofs.Common.{◌≡◌, ◌++◌, ◌∷◌, [], List, ℕ, Bool, true, refl, ap}
use Rattle.lf_format.specs.Slots.{coded_text, in_quotes}
use Rattle.lf_format.proofs.Adding.{on-err, adds-first, adds-more}
use Rattle.lf_format.proofs.writing.write_present.Goals as goal

quoted-is : (quoted : Bool) (text : List ℕ) → quoted ≡ true → in_quotes quoted text ≡ (34 ∷ []) ++ (text ++ 34 ∷ [])
quoted-is quoted text q = ap (λ (b : Bool). in_quotes b text) q

pub returns-in_err-write_coded-clause-err : goal.returns-in_err-write_coded-clause-err
returns-in_err-write_coded-clause-err c =
    let slot = c.args.slot.now in
    let text = coded_text slot c.args.value.now in
    let old = c.args.into.now in
    let mid = c.push.new.self in
    on-err c.from_residual-in_err-write_coded.result
    (adds-more old mid c.write_coded-2.new.into (34 ∷ []) (text ++ 34 ∷ []) (in_quotes slot.quoted text) c.in_ok-push.ensures.ok (quoted-is slot.quoted text c.if-not-slot.false)
    (adds-first mid c.write_coded-2.new.into text (34 ∷ []) (text ++ 34 ∷ []) refl c.in_err-write_coded.ensures.err))
