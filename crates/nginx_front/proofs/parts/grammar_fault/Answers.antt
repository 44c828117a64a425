use Rattle.nginx_front.proofs.PartsLaws.{spelled_some, fault_some}
use Rattle.nginx_front.proofs.parts.grammar_fault.Goals as goal

pub returns-in-None : goal.returns-in-None
returns-in-None c = spelled_some c.args.text.now _ c.in_ok-place_by.field-0 c.requires.good c.in_ok-grammar.ensures c.in_ok-place_by.ensures c.in-None.is

pub returns : goal.returns
returns c = fault_some c.args.text.now _ c.in_ok-place_by.field-0 c.in-Some.at c.in_ok-leaves-in-Some.field-0.0 c.in_ok-leaves-in-Some.field-0.1 c.requires.good c.in_ok-grammar.ensures c.in_ok-place_by.ensures c.in-Some.is c.in_ok-leaves-in-Some.ensures
