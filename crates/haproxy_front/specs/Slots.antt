-- What a name gives under the flags that hold for it.
use Rattle.std.specs.Prelude.{ℕ, pos, negsuc, ◌≤◌, ◌&&◌, Bool, true, false, List, ◌∷◌, if◌then◌else◌}
use Rattle.std.specs.Int.Signed.{≤ℤ_refl}
use Rattle.std.proofs.Common.{arith}
use Rattle.lf_limits.specs.Limits.{most_length}
use Rattle.lf_core.specs.declared.class.Class.{Class}
use Rattle.lf_core.specs.declared.class.TheConstants.Class as classes
use Rattle.lf_format.specs.declared.kind.Kind.{Kind}
use Rattle.lf_format.specs.declared.kind.Kind.TheVariants as kind
use Rattle.lf_number.specs.declared.padded.Radix.TheVariants.{Sixteen}
use Rattle.lf_escape.specs.declared.coding.Coding.{Coding}
use Rattle.lf_escape.specs.declared.coding.Coding.TheVariants.{Raw, HaHash, HaCapture, HaEscape}
use Rattle.lf_format.specs.declared.slot.Absent.{Absent}
use Rattle.lf_format.specs.declared.slot.Absent.TheVariants.{Blank}
use Rattle.lf_format.specs.declared.slot.Slot.{Slot as OneSlot}
use Rattle.lf_spelling.specs.declared.item_reader.Given.{Given}
use Rattle.lf_spelling.specs.declared.item_reader.Given.TheVariants.{Slot, Braced}
use Rattle.lf_format.specs.CommonKinds.{zero_fits, one_fits, texts, bounded_texts, numbers, padded}
use Rattle.haproxy_front.specs.declared.flags.Flags.{Flags}
use Rattle.haproxy_front.specs.declared.table.Sort.{Sort}
use Rattle.haproxy_front.specs.declared.table.Sort.TheVariants.{Visible, Proxy, Path, Cookie, Query, Request, Ending, CookieEnding, Retries, Captures, Port, Serial, Status, Timer, Size, Count, Time}
use Rattle.haproxy_front.specs.declared.table.Row.{Row}
use Rattle.haproxy_front.specs.Letters.{header_word}

-- whether quotes and escapes act on the values
abbrev pub is_flagged : Sort → Bool
is_flagged Visible = true
is_flagged Proxy = true
is_flagged Path = true
is_flagged Cookie = true
is_flagged Query = true
is_flagged Request = true
is_flagged _ = false

-- the letters of a path: with escapes those alone that a header may hold
abbrev pub path_letters : Flags → Class
path_letters flags = if flags.escapes then header_word else classes.NO_SPACE

-- the letters of a request line, in the same way
abbrev pub request_letters : Flags → Class
request_letters flags = if flags.escapes then classes.HEADER else classes.ANY

-- the numbers from 0 up, with the flag X in hexadecimal digits
abbrev pub flagged_numbers : Flags → ℕ → Kind
flagged_numbers flags most = if flags.hexadecimal then padded Sixteen 4 (pos 0) (pos most) (≤ℤ_refl (pos 0)) else numbers (pos 0) (pos most)

pub two_fits : 2 ≤ most_length
two_fits = omega arith

pub four_fits : 4 ≤ most_length
four_fits = omega arith

-- the kind that a sort of values is
abbrev pub kind_of : Sort → Flags → Kind
kind_of Visible flags = texts classes.VISIBLE 1 one_fits
kind_of Proxy flags = texts classes.PROXY 1 one_fits
kind_of Path flags = texts (path_letters flags) 1 one_fits
kind_of Cookie flags = texts header_word 1 one_fits
kind_of Query flags = texts (path_letters flags) 0 zero_fits
kind_of Request flags = texts (request_letters flags) 0 zero_fits
kind_of Ending flags = bounded_texts classes.VISIBLE 2 2 two_fits two_fits
kind_of CookieEnding flags = bounded_texts classes.VISIBLE 4 4 four_fits four_fits
kind_of Retries flags = texts classes.COUNTS 1 one_fits
kind_of Captures flags = texts classes.ANY 0 zero_fits
kind_of Port flags = flagged_numbers flags 65535
kind_of Serial flags = flagged_numbers flags 4294967295
kind_of Status flags = numbers (negsuc 0) (pos 999)
kind_of Timer flags = numbers (negsuc 0) (pos 2147483647)
kind_of Size flags = numbers (pos 0) (pos 9223372036854775807)
kind_of Count flags = numbers (pos 0) (pos 4294967295)
kind_of Time flags = kind.Ha (record {})

-- the code where no escapes act
abbrev pub plain_code : Sort → Coding
plain_code Visible = HaHash
plain_code Proxy = HaHash
plain_code Path = HaHash
plain_code Query = HaHash
plain_code Request = HaHash
plain_code Ending = HaHash
plain_code CookieEnding = HaHash
plain_code Retries = HaHash
plain_code Captures = HaCapture
plain_code _ = Raw

-- the code of a sort of values
abbrev pub code_of : Sort → Flags → Coding
code_of sort flags = if is_flagged sort && flags.escapes then HaEscape else plain_code sort

-- whether the values stand in quotes
abbrev pub is_quoted : Sort → Flags → Bool
is_quoted sort flags = is_flagged sort && flags.quotes

-- how absence is printed: as nothing in quotes, and as the row says without
abbrev pub absence_of : Row → Flags → Absent
absence_of row flags = if is_quoted row.sort flags then Blank else row.absent

-- The slot's name is a percent sign and the name.
abbrev pub slot_of : List ℕ → Row → Flags → OneSlot
slot_of name row flags = record { name = 37 ∷ name; kind = kind_of row.sort flags; code = code_of row.sort flags; absent = absence_of row flags; present = false; quoted = is_quoted row.sort flags }

-- captures stand in braces
abbrev pub given_of : Sort → OneSlot → Given
given_of Captures slot = Braced slot
given_of _ slot = Slot slot
