use Rattle.w3c_front.proofs.front.parse_iis.Goals as goal

pub returns-clause-faulty : goal.returns-clause-faulty
returns-clause-faulty c = rw (c.as_bytes.ensures.value, c.start-fields.ensures) at c.read_text.ensures.faulty

pub returns-clause-only_faulty : goal.returns-clause-only_faulty
returns-clause-only_faulty c = rw (c.as_bytes.ensures.value, c.start-fields.ensures) at c.read_text.ensures.only_faulty
