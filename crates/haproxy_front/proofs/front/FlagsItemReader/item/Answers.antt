use Rattle.std.proofs.Common.{◌≡◌, ◌+◌, ℕ, List, ◌∷◌, Ok, sym, ap, refl, subst, ◌∙◌, arith}
use Rattle.lf_spelling.specs.ItemReaders.{GivesItem}
use Rattle.lf_spelling.specs.declared.item_reader.Given.TheVariants.{Byte}
use Rattle.lf_spelling.specs.declared.item_reader.Taken.{Taken}
use Rattle.lf_spelling.specs.RunLaws.{run_taken}
use Rattle.haproxy_front.specs.Items.{is_space}
use Rattle.haproxy_front.specs.Reading.{reading}
use Rattle.haproxy_front.proofs.Cuts.{spaces_taken}
use Rattle.haproxy_front.proofs.front.FlagsItemReader.item.Goals as goal

pub overflow_add-result : goal.overflow_add-result
overflow_add-result c = omega (arith, (run_taken is_space c.in-Some.after.now c.space_run.result c.space_run.ensures).2, c.in-Some.ensures.cases.1)

pub returns-in-32 : goal.returns-in-32
returns-in-32 c =
    let is : c.args.rest.now ≡ 32 ∷ c.in-Some.after.now = c.in-Some.ensures.cases.0 ∙ ap (λ (n : ℕ). n ∷ c.in-Some.after.now) c.in-32.is in
    let taken : Taken = record { given = Byte 32; len = 1 + c.space_run.result } in
    subst (λ (t : List ℕ). GivesItem (reading c.args.self.now t) c.args.self.now t (Ok (record { given = Byte 32; len = 1 + c.space_run.result }))) (sym is) (spaces_taken c.args.self.now c.in-Some.after.now c.space_run.result (record { given = Byte 32; len = 1 + c.space_run.result }) c.space_run.ensures refl refl)
