-- An item of bytes gives a byte, if it gives one.
use Rattle.std.proofs.Common.{◌≡◌, ℕ, Bool, true, false, List, [], ◌∷◌, Option, Some, None, refl, sym, ◌∙◌, ap, subst}
use Rattle.std.specs.Prelude.{◌==◌, if◌then◌else◌}
use Rattle.lf_format.specs.declared.slot.Slot.{Slot}
use Rattle.lf_spelling.specs.Items.{Item}
use Rattle.lf_spelling.specs.declared.item_reader.Given.{Given}
use Rattle.lf_spelling.specs.declared.item_reader.Given.TheVariants.{Byte}
use Rattle.apache_front.specs.Items as apache
use Rattle.nginx_front.specs.Items as nginx
use Rattle.nginx_front.specs.declared.table.Escape.{Escape}
use Rattle.haproxy_front.specs.Items as haproxy
use Rattle.haproxy_front.specs.Slots as slots
use Rattle.haproxy_front.specs.declared.flags.Flags.{Flags}
use Rattle.haproxy_front.specs.declared.table.Sort.{Sort}
use Rattle.haproxy_front.specs.declared.table.Sort.TheVariants as sort
use Rattle.envoy_front.specs.Items as envoy
use Rattle.w3c_front.specs.Items as fields
use Rattle.w3c_front.specs.PlaceLaws.{given_at}
use Rattle.lf_fronts.specs.Keeps.{is_byte}
use Rattle.lf_fronts.proofs.ByteLaws.{AreBytes, and_left, gives_byte}

-- A byte that stands for itself.
itself : (b : ℕ) (bytes : List ℕ) (given : Given) → bytes ≡ b ∷ [] → given ≡ Byte b → AreBytes bytes → gives_byte given ≡ true
itself b bytes given eb eg all = ap gives_byte eg ∙ and_left (is_byte b) true (subst AreBytes eb all)

abbrev is_byte_in : Option ℕ → Bool
is_byte_in None = true
is_byte_in (Some b) = is_byte b

escaped_by : (a b c : Bool) → is_byte_in (if a then Some 34 else if b then Some 92 else if c then Some 9 else None) ≡ true
escaped_by true b c = refl
escaped_by false true c = refl
escaped_by false false true = refl
escaped_by false false false = refl

pub of_apache : (bytes : List ℕ) (given : Given) (after : List ℕ) → apache.IsItem bytes given after → AreBytes bytes → gives_byte given ≡ true
of_apache bytes given after (apache.plain b h eb eg) all = itself b bytes given eb eg all
of_apache bytes given after (apache.escape c b e eb eg) all = ap gives_byte eg ∙ sym (ap is_byte_in e) ∙ escaped_by (c == 34) (c == 92) (c == 116)
of_apache bytes given after (apache.backslash h eb eg) all = ap gives_byte eg
of_apache bytes given after (apache.percent eb eg) all = ap gives_byte eg
of_apache bytes given after (apache.directive d row h eb eg) all = ap gives_byte eg

pub of_nginx : (escape : Escape) (bytes : List ℕ) (given : Given) (after : List ℕ) → nginx.IsItem escape bytes given after → AreBytes bytes → gives_byte given ≡ true
of_nginx escape bytes given after (nginx.plain b h eb eg) all = itself b bytes given eb eg all
of_nginx escape bytes given after (nginx.bare name h stop eb eg) all = ap gives_byte eg
of_nginx escape bytes given after (nginx.braced name h eb eg) all = ap gives_byte eg

of_sort : (s : Sort) (slot : Slot) → gives_byte (slots.given_of s slot) ≡ true
of_sort sort.Captures slot = refl
of_sort _ slot = refl

pub of_haproxy : (held : Flags) (bytes : List ℕ) (given : Given) (next : Flags) (after : List ℕ) → haproxy.IsItem held bytes given next after → AreBytes bytes → gives_byte given ≡ true
of_haproxy held bytes given next after (haproxy.plain b h eb eg en) all = itself b bytes given eb eg all
of_haproxy held bytes given next after (haproxy.spaces more h stop eb eg en) all = ap gives_byte eg
of_haproxy held bytes given next after (haproxy.percent eb eg en) all = ap gives_byte eg
of_haproxy held bytes given next after (haproxy.change flags h stop eb eg en) all = ap gives_byte eg
of_haproxy held bytes given next after (haproxy.value flags name row h is stop eb eg en) all = ap gives_byte eg ∙ of_sort row.sort _

pub of_envoy : (bytes : List ℕ) (given : Given) → envoy.IsItem bytes given → AreBytes bytes → gives_byte given ≡ true
of_envoy bytes given (envoy.plain b h eb eg) all = itself b bytes given eb eg all
of_envoy bytes given (envoy.percent eb eg) all = ap gives_byte eg
of_envoy bytes given (envoy.command c s h eb eg) all = ap gives_byte eg

pub of_fields : (state : _) (item : Item _) (after : List ℕ) → fields.IsItem state item after → AreBytes item.bytes → gives_byte item.given ≡ true
of_fields state item after (fields.blanks bytes run e) all = ap (λ (i : Item _). gives_byte i.given) e
of_fields state item after (fields.heads start e) all = ap (λ (i : Item _). gives_byte i.given) e
of_fields state item after (fields.field name s run h is e) all = ap (λ (i : Item _). gives_byte i.given) e ∙ given_at (λ (g : Given). gives_byte g ≡ true) state.place _ refl refl
