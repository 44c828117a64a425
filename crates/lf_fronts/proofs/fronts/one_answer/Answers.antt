use Rattle.lf_fronts.proofs.FrontLaws.{answer_of}
use Rattle.lf_fronts.proofs.fronts.one_answer.Goals as goal

pub returns : goal.returns
returns c = answer_of (record {
  of_apache = c.one_answer.ensures;
  of_nginx = c.one_answer-2.ensures;
  of_json = c.one_answer-3.ensures;
  of_none = c.one_answer-4.ensures;
  of_directive = c.one_directive_answer.ensures.one;
  of_haproxy = c.one_answer-5.ensures;
  of_envoy = c.one_answer-6.ensures;
  of_draft = c.one_draft_answer.ensures;
  of_iis = c.one_iis_answer.ensures;
})
