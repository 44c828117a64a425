use Rattle.nginx_front.proofs.front.parse.Goals as goal

pub returns-clause-faulty : goal.returns-clause-faulty
returns-clause-faulty c = rw c.as_bytes.ensures.value at c.parse_bytes.ensures.faulty

pub returns-clause-only_faulty : goal.returns-clause-only_faulty
returns-clause-only_faulty c = rw c.as_bytes.ensures.value at c.parse_bytes.ensures.only_faulty
