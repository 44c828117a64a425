use Rattle.nginx_front.proofs.WholeLaws.{each_answer, one_directive}
use Rattle.nginx_front.proofs.PartsLaws.{parts_read, read_spelled}
use Rattle.nginx_front.proofs.directive.one_directive_answer.Goals as goal

pub returns-clause-one : goal.returns-clause-one
returns-clause-one c = λ text. one_directive (each_answer c.one_answer.ensures c.one_answer-2.ensures c.one_answer-3.ensures) text

pub returns-clause-parts : goal.returns-clause-parts
returns-clause-parts c = λ text escape given. (parts_read text escape given, read_spelled text escape given)
