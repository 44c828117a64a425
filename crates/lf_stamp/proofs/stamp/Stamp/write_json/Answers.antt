use Rattle.std.proofs.Common.{◌≡◌, ◌++◌, ◌∷◌, [], List, ℕ, subst}
use Rattle.std.specs.Prelude.{OnOk}
use Rattle.lf_time.specs.TimeLayouts.{json_layout}
use Rattle.lf_stamp.proofs.FieldTexts.{moment-text}
use Rattle.lf_stamp.proofs.stamp.Stamp.write_json.Goals as goal

pub returns-clause-ok : goal.returns-clause-ok
returns-clause-ok c =
    let old = c.args.into.now in
    subst (λ (t : List ℕ). OnOk c.write_fields.result (c.write_fields.new.into ≡ old ++ 34 ∷ (t ++ 34 ∷ []))) (moment-text json_layout c.args.self.now c.requires) c.write_fields.ensures.ok
