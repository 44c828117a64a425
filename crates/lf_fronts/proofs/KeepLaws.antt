-- What a text spells keeps what a format keeps.
use Rattle.std.proofs.Common.{◌≡◌, ℕ, ◌≤◌, ◌-◌, Bool, true, false, List, length, take, arith, refl}
use Rattle.std.specs.Prelude.{if◌then◌else◌}
use Rattle.std.specs.Str.{IsUtf8}
use Rattle.std.specs.Io.BufRead.{strip_last, ends_with_byte}
use Rattle.std.proofs.lemmas.List.{length-take}
use Rattle.lf_limits.specs.Limits.{most_text_bytes}
use Rattle.lf_format.specs.Shape.{Shape}
use Rattle.lf_format.specs.declared.format.LineEnd.{LineEnd}
use Rattle.lf_spelling.specs.Items.{Item, Reading}
use Rattle.lf_spelling.specs.ItemReaders.{ReadsItems}
use Rattle.lf_spelling.specs.Spelling as spelling
use Rattle.lf_spelling.specs.declared.fault.Cause.{Cause}
use Rattle.lf_spelling.proofs.KeepsLaws.{keeps_format}
use Rattle.lf_words.specs.declared.command.Front.{Front}
use Rattle.lf_words.specs.declared.command.Front.TheVariants.{Apache, Nginx, NginxJson, NginxNone, NginxDirective, Haproxy, Envoy, W3c, Iis}
use Rattle.apache_front.specs.Laws as apache
use Rattle.nginx_front.specs.Laws as nginx
use Rattle.nginx_front.specs.Nginx.{Spells as SpellsNginx}
use Rattle.nginx_front.specs.declared.table.Escape.{Escape}
use Rattle.nginx_front.specs.Whole.{bytes_of}
use Rattle.nginx_front.proofs.TextKept.{joined_text, joined_len}
use Rattle.haproxy_front.specs.Laws as haproxy
use Rattle.envoy_front.specs.Laws as envoy
use Rattle.envoy_front.specs.Envoy.{without_end}
use Rattle.w3c_front.specs.Laws as fields
use Rattle.lf_fronts.specs.Fronts.{Spells}
use Rattle.lf_fronts.specs.Keeps.{IsFormat}
use Rattle.lf_fronts.proofs.ByteLaws.{AreBytes, gives_byte, spelled_bytes, bytes_take, text_bytes}
use Rattle.lf_fronts.proofs.ItemBytes.{of_apache, of_nginx, of_haproxy, of_envoy, of_fields}

module _ {S : Type 0} (reading : S → List ℕ → Reading S) (item_is : S → Item S → List ℕ → Type 0) (fault_is : S → List ℕ → Cause → Type 0) (laws : ReadsItems reading item_is fault_is) (item_gives : (state : S) (item : Item S) (after : List ℕ) → item_is state item after → AreBytes item.bytes → gives_byte item.given ≡ true) where
  kept : (start : S) (end : LineEnd) (notes : Bool) (text : List ℕ) (format : Shape) → AreBytes text → length text ≤ most_text_bytes → spelling.Spells item_is start end notes text format → IsFormat format
  kept start end notes text format all short h = record {
    keeps = keeps_format reading item_is fault_is laws start text format.pieces short h.pieces;
    bytes = spelled_bytes item_is item_gives start text format.pieces all h.pieces;
  }

of_escape : (escape : Escape) (text : List ℕ) (format : Shape) → AreBytes text → length text ≤ most_text_bytes → SpellsNginx escape text format → IsFormat format
of_escape escape text format all short h = kept _ _ _ nginx.laws (λ state item after is. of_nginx state.escape item.bytes item.given after is.is) _ _ _ text format all short h

-- The text without a line feed at its end.
ended : (t : Bool) (n : ℕ) (text : List ℕ) → AreBytes text → length text ≤ most_text_bytes → AreBytes (if t then take n text else text) × (length (if t then take n text else text) ≤ most_text_bytes)
ended true n text all short = (bytes_take n text all, omega (arith, length-take n text, short))
ended false n text all short = (all, short)

pub keeps_of : (front : Front) (text : List ℕ) (format : Shape) → IsUtf8 text → length text ≤ most_text_bytes → Spells front text format → IsFormat format
keeps_of Apache text format utf8 short h = kept _ _ _ apache.laws (λ state item after is. of_apache item.bytes item.given after is) _ _ _ text format (text_bytes text utf8) short h
keeps_of Nginx text format utf8 short h = of_escape _ text format (text_bytes text utf8) short h
keeps_of NginxJson text format utf8 short h = of_escape _ text format (text_bytes text utf8) short h
keeps_of NginxNone text format utf8 short h = of_escape _ text format (text_bytes text utf8) short h
keeps_of NginxDirective text format utf8 short h =
    let bytes = bytes_of h.given in
    let len : length bytes ≤ length text = joined_len text h.escape h.given bytes h.is refl in
    of_escape h.escape bytes format (text_bytes bytes (joined_text text h.escape h.given bytes h.is refl utf8)) (omega (arith, short, len)) h.spells
keeps_of Haproxy text format utf8 short h = kept _ _ _ haproxy.laws (λ state item after is. of_haproxy state item.bytes item.given item.state after is) _ _ _ text format (text_bytes text utf8) short h
keeps_of Envoy text format utf8 short h =
    let cut = ended (ends_with_byte 10 text) (length text - 1) text (text_bytes text utf8) short in
    kept _ _ _ envoy.laws (λ state item after is. of_envoy item.bytes item.given is) _ _ _ (without_end text) format cut.0 cut.1 h
keeps_of W3c text format utf8 short h = kept _ _ _ fields.laws of_fields _ _ _ text format (text_bytes text utf8) short h
keeps_of Iis text format utf8 short h = kept _ _ _ fields.laws of_fields _ _ _ text format (text_bytes text utf8) short h
