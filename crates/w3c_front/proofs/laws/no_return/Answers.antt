use Rattle.w3c_front.specs.declared.table.Language.TheVariants.{Draft, Iis}
use Rattle.w3c_front.specs.Reading.{start}
use Rattle.w3c_front.proofs.Returns as returns
use Rattle.w3c_front.proofs.laws.no_return.Goals as goal

pub returns-clause-draft : goal.returns-clause-draft
returns-clause-draft c = λ text format rec spells held. returns.no_return (start Draft) text format.pieces rec spells.pieces held

pub returns-clause-iis : goal.returns-clause-iis
returns-clause-iis c = λ text format rec spells held. returns.no_return (start Iis) text format.pieces rec spells.pieces held
