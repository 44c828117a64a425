use Rattle.lf_fronts.proofs.fronts.parse.Goals as goal

pub returns-in-Apache-clause-faulty : goal.returns-in-Apache-clause-faulty
returns-in-Apache-clause-faulty c = rw c.in-Apache.is c.parse.ensures.faulty

pub returns-in-Apache-clause-only_faulty : goal.returns-in-Apache-clause-only_faulty
returns-in-Apache-clause-only_faulty c = rw c.in-Apache.is c.parse.ensures.only_faulty

pub returns-in-Nginx-clause-faulty : goal.returns-in-Nginx-clause-faulty
returns-in-Nginx-clause-faulty c = rw c.in-Nginx.is c.parse-in-Nginx.ensures.faulty

pub returns-in-Nginx-clause-only_faulty : goal.returns-in-Nginx-clause-only_faulty
returns-in-Nginx-clause-only_faulty c = rw c.in-Nginx.is c.parse-in-Nginx.ensures.only_faulty

pub returns-in-NginxJson-clause-faulty : goal.returns-in-NginxJson-clause-faulty
returns-in-NginxJson-clause-faulty c = rw c.in-NginxJson.is c.parse-in-NginxJson.ensures.faulty

pub returns-in-NginxJson-clause-only_faulty : goal.returns-in-NginxJson-clause-only_faulty
returns-in-NginxJson-clause-only_faulty c = rw c.in-NginxJson.is c.parse-in-NginxJson.ensures.only_faulty

pub returns-in-NginxNone-clause-faulty : goal.returns-in-NginxNone-clause-faulty
returns-in-NginxNone-clause-faulty c = rw c.in-NginxNone.is c.parse-in-NginxNone.ensures.faulty

pub returns-in-NginxNone-clause-only_faulty : goal.returns-in-NginxNone-clause-only_faulty
returns-in-NginxNone-clause-only_faulty c = rw c.in-NginxNone.is c.parse-in-NginxNone.ensures.only_faulty

pub returns-in-NginxDirective-clause-faulty : goal.returns-in-NginxDirective-clause-faulty
returns-in-NginxDirective-clause-faulty c = rw c.in-NginxDirective.is c.parse_directive.ensures.faulty

pub returns-in-NginxDirective-clause-only_faulty : goal.returns-in-NginxDirective-clause-only_faulty
returns-in-NginxDirective-clause-only_faulty c = rw c.in-NginxDirective.is c.parse_directive.ensures.only_faulty

pub returns-in-Haproxy-clause-faulty : goal.returns-in-Haproxy-clause-faulty
returns-in-Haproxy-clause-faulty c = rw c.in-Haproxy.is c.parse-in-Haproxy.ensures.faulty

pub returns-in-Haproxy-clause-only_faulty : goal.returns-in-Haproxy-clause-only_faulty
returns-in-Haproxy-clause-only_faulty c = rw c.in-Haproxy.is c.parse-in-Haproxy.ensures.only_faulty

pub returns-in-Envoy-clause-faulty : goal.returns-in-Envoy-clause-faulty
returns-in-Envoy-clause-faulty c = rw c.in-Envoy.is c.parse-in-Envoy.ensures.faulty

pub returns-in-Envoy-clause-only_faulty : goal.returns-in-Envoy-clause-only_faulty
returns-in-Envoy-clause-only_faulty c = rw c.in-Envoy.is c.parse-in-Envoy.ensures.only_faulty

pub returns-in-W3c-clause-faulty : goal.returns-in-W3c-clause-faulty
returns-in-W3c-clause-faulty c = rw c.in-W3c.is c.parse_draft.ensures.faulty

pub returns-in-W3c-clause-only_faulty : goal.returns-in-W3c-clause-only_faulty
returns-in-W3c-clause-only_faulty c = rw c.in-W3c.is c.parse_draft.ensures.only_faulty

pub returns-in-Iis-clause-faulty : goal.returns-in-Iis-clause-faulty
returns-in-Iis-clause-faulty c = rw c.in-Iis.is c.parse_iis.ensures.faulty

pub returns-in-Iis-clause-only_faulty : goal.returns-in-Iis-clause-only_faulty
returns-in-Iis-clause-only_faulty c = rw c.in-Iis.is c.parse_iis.ensures.only_faulty
