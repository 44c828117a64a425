use Rattle.std.proofs.Common.{sym, ap, ◌∙◌}
use Rattle.lf_core.specs.declared.class.Class.{Class}
use Rattle.haproxy_front.specs.declared.table.Sort.{Sort}
use Rattle.lf_format.specs.CommonKinds.{zero_fits, one_fits, texts}
use Rattle.haproxy_front.specs.Slots.{two_fits, four_fits, kind_of}
use Rattle.haproxy_front.proofs.slots.kind_of.Goals as goal

pub returns-in-Visible : goal.returns-in-Visible
returns-in-Visible c = c.texts.ensures one_fits ∙ ap (λ (s : Sort). kind_of s c.args.flags) (sym c.in-Visible.is)

pub returns-in-Proxy : goal.returns-in-Proxy
returns-in-Proxy c = c.texts-in-Proxy.ensures one_fits ∙ ap (λ (s : Sort). kind_of s c.args.flags) (sym c.in-Proxy.is)

pub returns-in-Path : goal.returns-in-Path
returns-in-Path c = c.texts-in-Path.ensures one_fits ∙ ap (λ (k : Class). texts k 1 one_fits) c.path_class.ensures ∙ ap (λ (s : Sort). kind_of s c.args.flags) (sym c.in-Path.is)

pub returns-in-Cookie : goal.returns-in-Cookie
returns-in-Cookie c = c.texts-in-Cookie.ensures one_fits ∙ ap (λ (k : Class). texts k 1 one_fits) c.header_word.ensures ∙ ap (λ (s : Sort). kind_of s c.args.flags) (sym c.in-Cookie.is)

pub returns-in-Query : goal.returns-in-Query
returns-in-Query c = c.texts-in-Query.ensures zero_fits ∙ ap (λ (k : Class). texts k 0 zero_fits) c.path_class-in-Query.ensures ∙ ap (λ (s : Sort). kind_of s c.args.flags) (sym c.in-Query.is)

pub returns-in-Request : goal.returns-in-Request
returns-in-Request c = c.texts-in-Request.ensures zero_fits ∙ ap (λ (k : Class). texts k 0 zero_fits) c.request_class.ensures ∙ ap (λ (s : Sort). kind_of s c.args.flags) (sym c.in-Request.is)

pub returns-in-Retries : goal.returns-in-Retries
returns-in-Retries c = c.texts-in-Retries.ensures one_fits ∙ ap (λ (s : Sort). kind_of s c.args.flags) (sym c.in-Retries.is)

pub returns-in-Captures : goal.returns-in-Captures
returns-in-Captures c = c.texts-in-Captures.ensures zero_fits ∙ ap (λ (s : Sort). kind_of s c.args.flags) (sym c.in-Captures.is)

pub returns-in-Ending : goal.returns-in-Ending
returns-in-Ending c = c.bounded_texts.ensures two_fits two_fits ∙ ap (λ (s : Sort). kind_of s c.args.flags) (sym c.in-Ending.is)

pub returns-in-CookieEnding : goal.returns-in-CookieEnding
returns-in-CookieEnding c = c.bounded_texts-in-CookieEnding.ensures four_fits four_fits ∙ ap (λ (s : Sort). kind_of s c.args.flags) (sym c.in-CookieEnding.is)
