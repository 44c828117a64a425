-- Formats as each front spells them.
use Rattle.std.specs.Prelude.{◌≡◌, ℕ, List, ◌⊎◌}
use Rattle.lf_format.specs.Shape.{Shape}
use Rattle.lf_spelling.specs.declared.fault.Cause.{Cause}
use Rattle.lf_words.specs.declared.command.Front.{Front}
use Rattle.lf_words.specs.declared.command.Front.TheVariants.{Apache, Nginx, NginxJson, NginxNone, NginxDirective, Haproxy, Envoy, W3c, Iis}
use Rattle.nginx_front.specs.declared.table.Escape.TheVariants as escape
use Rattle.apache_front.specs.Apache as apache
use Rattle.nginx_front.specs.Nginx as nginx
use Rattle.nginx_front.specs.Whole as directive
use Rattle.haproxy_front.specs.HaProxy as haproxy
use Rattle.envoy_front.specs.Envoy as envoy
use Rattle.w3c_front.specs.W3c as fields

-- The text spells the format in the front's language.
abbrev pub Spells : Front → List ℕ → Shape → Type 0
Spells Apache text format = apache.Spells text format
Spells Nginx text format = nginx.Spells escape.Default text format
Spells NginxJson text format = nginx.Spells escape.Json text format
Spells NginxNone text format = nginx.Spells escape.Off text format
Spells NginxDirective text format = directive.SpellsDirective text format
Spells Haproxy text format = haproxy.Spells text format
Spells Envoy text format = envoy.Spells text format
Spells W3c text format = fields.SpellsDraft text format
Spells Iis text format = fields.SpellsIis text format

-- This is the text's first fault in the front's language.
abbrev pub IsFaulty : Front → List ℕ → ℕ → Cause → Type 0
IsFaulty Apache text place cause = apache.IsFaulty text place cause
IsFaulty Nginx text place cause = nginx.IsFaulty escape.Default text place cause
IsFaulty NginxJson text place cause = nginx.IsFaulty escape.Json text place cause
IsFaulty NginxNone text place cause = nginx.IsFaulty escape.Off text place cause
IsFaulty NginxDirective text place cause = directive.FaultyDirective text place cause
IsFaulty Haproxy text place cause = haproxy.IsFaulty text place cause
IsFaulty Envoy text place cause = envoy.IsFaulty text place cause
IsFaulty W3c text place cause = fields.IsFaultyDraft text place cause
IsFaulty Iis text place cause = fields.IsFaultyIis text place cause

-- The text spells one format, or it has one first fault.
pub record HasOneAnswer (front : Front) (text : List ℕ) : Type 0 where
  pub some : ((format : Shape) × Spells front text format) ⊎ ((place : ℕ) × (cause : Cause) × IsFaulty front text place cause)
  pub one_format : (a b : Shape) → Spells front text a → Spells front text b → a ≡ b
  pub one_fault : (p q : ℕ) (a b : Cause) → IsFaulty front text p a → IsFaulty front text q b → (p ≡ q) × (a ≡ b)
  pub not_both : (format : Shape) (place : ℕ) (cause : Cause) → Spells front text format → IsFaulty front text place cause → ⊥
