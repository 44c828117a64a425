-- The slot of each row keeps what a format's slots keep.
use Rattle.std.proofs.Common.{◌≡◌, ℕ, Bool, true, List, refl}
use Rattle.lf_format.specs.declared.slot.Absent.{Absent}
use Rattle.lf_format.specs.Keeps.{KeepsSlot}
use Rattle.lf_format.specs.KeptSlots.{all_bytes, keeps_slot, each_flag, each_absence}
use Rattle.lf_format.specs.KeptSlotLaws.{slot_keeps, at_flag, at_absence}
use Rattle.haproxy_front.specs.declared.flags.Flags.{Flags}
use Rattle.haproxy_front.specs.declared.table.Sort.{Sort}
use Rattle.haproxy_front.specs.declared.table.Sort.TheVariants.{Visible, Proxy, Path, Cookie, Query, Request, Ending, CookieEnding, Retries, Captures, Port, Serial, Status, Timer, Size, Count, Time}
use Rattle.haproxy_front.specs.declared.table.Row.{Row}
use Rattle.haproxy_front.specs.Slots.{slot_of}

-- whether the slot of a row under these flags keeps it
abbrev passes : List ℕ → Sort → Absent → Bool → Bool → Bool → Bool
passes name sort absent quotes escapes hexadecimal = keeps_slot (slot_of name (record { sort = sort; absent = absent }) (record { quotes = quotes; escapes = escapes; hexadecimal = hexadecimal }))

sort_passes : (name : List ℕ) (sort : Sort) → each_absence (λ absent. each_flag (λ quotes. each_flag (λ escapes. each_flag (passes name sort absent quotes escapes)))) ≡ true
unfolding all_bytes
sort_passes name Visible = refl
sort_passes name Proxy = refl
sort_passes name Path = refl
sort_passes name Cookie = refl
sort_passes name Query = refl
sort_passes name Request = refl
sort_passes name Ending = refl
sort_passes name CookieEnding = refl
sort_passes name Retries = refl
sort_passes name Captures = refl
sort_passes name Port = refl
sort_passes name Serial = refl
sort_passes name Status = refl
sort_passes name Timer = refl
sort_passes name Size = refl
sort_passes name Count = refl
sort_passes name Time = refl

pub row_keeps : (name : List ℕ) (row : Row) (flags : Flags) → KeepsSlot (slot_of name row flags)
row_keeps name row flags =
    let by_row = at_absence (λ absent. each_flag (λ quotes. each_flag (λ escapes. each_flag (passes name row.sort absent quotes escapes)))) (sort_passes name row.sort) row.absent in
    let by_quotes = at_flag (λ quotes. each_flag (λ escapes. each_flag (passes name row.sort row.absent quotes escapes))) by_row flags.quotes in
    let by_escapes = at_flag (λ escapes. each_flag (passes name row.sort row.absent flags.quotes escapes)) by_quotes flags.escapes in
    slot_keeps (slot_of name row flags) (at_flag (passes name row.sort row.absent flags.quotes flags.escapes) by_escapes flags.hexadecimal)
