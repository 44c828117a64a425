use Rattle.std.proofs.Common.{refl, sym, subst}
use Rattle.std.specs.Prelude.{IfOk}
use Rattle.lf_app.specs.declared.commands.Command.TheVariants.{Lines, Show}
use Rattle.lf_app.specs.declared.commands.Job.TheVariants as jobs
use Rattle.lf_app.specs.declared.commands.Purpose.{Purpose}
use Rattle.lf_app.specs.Commands.{AsksOf}
use Rattle.lf_app.proofs.commands.ask.Goals as goal

pub returns-in-Check : goal.returns-in-Check
returns-in-Check c = subst (λ (p : Purpose). IfOk c.ask_check.result (AsksOf p c.args.format)) (sym c.in-Check.is) c.ask_check.ensures

pub returns-in-Read : goal.returns-in-Read
returns-in-Read c = subst (λ (p : Purpose). IfOk c.ask_read.result (AsksOf p c.args.format)) (sym c.in-Read.is) c.ask_read.ensures

pub returns-in-Write : goal.returns-in-Write
returns-in-Write c = subst (λ (p : Purpose). AsksOf p c.args.format (Lines (jobs.Write c.args.format))) (sym c.in-Write.is) refl

pub returns-in-Show : goal.returns-in-Show
returns-in-Show c = subst (λ (p : Purpose). AsksOf p c.args.format (Show c.args.format)) (sym c.in-Show.is) refl

pub returns-in-Generate : goal.returns-in-Generate
returns-in-Generate c = subst (λ (p : Purpose). IfOk c.ask_generate.result (AsksOf p c.args.format)) (sym c.in-Generate.is) c.ask_generate.ensures
