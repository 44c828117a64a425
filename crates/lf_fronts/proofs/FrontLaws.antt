-- Each front's texts have one answer.
use Rattle.std.proofs.Common.{ℕ, List}
use Rattle.lf_words.specs.declared.command.Front.{Front}
use Rattle.lf_words.specs.declared.command.Front.TheVariants.{Apache, Nginx, NginxJson, NginxNone, NginxDirective, Haproxy, Envoy, W3c, Iis}
use Rattle.nginx_front.specs.declared.table.Escape.TheVariants as escape
use Rattle.apache_front.specs.Apache as apache
use Rattle.nginx_front.specs.Nginx as nginx
use Rattle.nginx_front.specs.Whole as directive
use Rattle.haproxy_front.specs.HaProxy as haproxy
use Rattle.envoy_front.specs.Envoy as envoy
use Rattle.w3c_front.specs.W3c as fields
use Rattle.lf_fronts.specs.Fronts.{HasOneAnswer}

-- What each front says of its texts.
pub record EachAnswer : Type 0 where
  pub of_apache : (text : List ℕ) → apache.HasOneAnswer text
  pub of_nginx : (text : List ℕ) → nginx.HasOneAnswer escape.Default text
  pub of_json : (text : List ℕ) → nginx.HasOneAnswer escape.Json text
  pub of_none : (text : List ℕ) → nginx.HasOneAnswer escape.Off text
  pub of_directive : (text : List ℕ) → directive.HasOneDirectiveAnswer text
  pub of_haproxy : (text : List ℕ) → haproxy.HasOneAnswer text
  pub of_envoy : (text : List ℕ) → envoy.HasOneAnswer text
  pub of_draft : (text : List ℕ) → fields.HasOneDraftAnswer text
  pub of_iis : (text : List ℕ) → fields.HasOneIisAnswer text

pub answer_of : EachAnswer → (front : Front) (text : List ℕ) → HasOneAnswer front text
answer_of each Apache text = let one = each.of_apache text in record { some = one.some; one_format = one.one_format; one_fault = one.one_fault; not_both = one.not_both }
answer_of each Nginx text = let one = each.of_nginx text in record { some = one.some; one_format = one.one_format; one_fault = one.one_fault; not_both = one.not_both }
answer_of each NginxJson text = let one = each.of_json text in record { some = one.some; one_format = one.one_format; one_fault = one.one_fault; not_both = one.not_both }
answer_of each NginxNone text = let one = each.of_none text in record { some = one.some; one_format = one.one_format; one_fault = one.one_fault; not_both = one.not_both }
answer_of each NginxDirective text = let one = each.of_directive text in record { some = one.some; one_format = one.one_format; one_fault = one.one_fault; not_both = one.not_both }
answer_of each Haproxy text = let one = each.of_haproxy text in record { some = one.some; one_format = one.one_format; one_fault = one.one_fault; not_both = one.not_both }
answer_of each Envoy text = let one = each.of_envoy text in record { some = one.some; one_format = one.one_format; one_fault = one.one_fault; not_both = one.not_both }
answer_of each W3c text = let one = each.of_draft text in record { some = one.some; one_format = one.one_format; one_fault = one.one_fault; not_both = one.not_both }
answer_of each Iis text = let one = each.of_iis text in record { some = one.some; one_format = one.one_format; one_fault = one.one_fault; not_both = one.not_both }
