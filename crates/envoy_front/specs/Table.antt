-- The commands: the arguments and lengths that they take, what the slot holds, and how it prints that nothing is there.
use Rattle.std.specs.Prelude.{ℕ, pos, ◌==◌, ◌&&◌, ◌||◌, not, Bool, true, false, List, [], ◌∷◌, Option, Some, None, codes, if◌then◌else◌}
use Rattle.std.specs.List.{list_all}
use Rattle.std.specs.Str.{bytes_eq}
use Rattle.lf_core.specs.declared.class.Class.{Class}
use Rattle.lf_core.specs.declared.class.TheConstants.Class as classes
use Rattle.lf_format.specs.declared.kind.Kind.{Kind}
use Rattle.lf_format.specs.declared.kind.Kind.TheVariants as kind
use Rattle.lf_format.specs.declared.slot.Absent.{Absent}
use Rattle.lf_format.specs.declared.slot.Absent.TheVariants.{No, Dash}
use Rattle.lf_format.specs.CommonKinds.{zero_fits, one_fits, texts, bounded_texts, numbers}
use Rattle.lf_spelling.specs.Numbers.{greatest}
use Rattle.lf_spelling.specs.Runs.{run, past}
use Rattle.lf_spelling.specs.Texts.{is_nothing, begins_with}
use Rattle.lf_spelling.specs.Enclosed.{is_not}
use Rattle.envoy_front.specs.Length.{is_length, number_of, number_fits}
use Rattle.envoy_front.specs.declared.table.Sort.{Sort}
use Rattle.envoy_front.specs.declared.table.Sort.TheVariants.{Header, Data, Visible, Reason, Status, Count, Start}

-- ---- the commands

-- the value of a header
abbrev pub is_header : List ℕ → Bool
is_header name = bytes_eq name (codes "REQ") || bytes_eq name (codes "RESP") || bytes_eq name (codes "TRAILER")

-- what filters have noted
abbrev pub is_data : List ℕ → Bool
is_data name = bytes_eq name (codes "DYNAMIC_METADATA") || bytes_eq name (codes "FILTER_STATE")

-- names and addresses of the two ends
abbrev pub is_address : List ℕ → Bool
is_address name =
    bytes_eq name (codes "UPSTREAM_HOST") || bytes_eq name (codes "UPSTREAM_CLUSTER") || bytes_eq name (codes "UPSTREAM_LOCAL_ADDRESS") || bytes_eq name (codes "DOWNSTREAM_LOCAL_ADDRESS")
    || bytes_eq name (codes "DOWNSTREAM_REMOTE_ADDRESS") || bytes_eq name (codes "DOWNSTREAM_REMOTE_ADDRESS_WITHOUT_PORT")

-- other words about the connection
abbrev pub is_word : List ℕ → Bool
is_word name =
    bytes_eq name (codes "PROTOCOL") || bytes_eq name (codes "RESPONSE_FLAGS") || bytes_eq name (codes "RESPONSE_CODE_DETAILS") || bytes_eq name (codes "REQUESTED_SERVER_NAME")
    || bytes_eq name (codes "ROUTE_NAME") || bytes_eq name (codes "HOSTNAME")

-- numbers of bytes, of milliseconds and of the connection
abbrev pub is_count : List ℕ → Bool
is_count name =
    bytes_eq name (codes "BYTES_RECEIVED") || bytes_eq name (codes "BYTES_SENT") || bytes_eq name (codes "DURATION") || bytes_eq name (codes "REQUEST_DURATION")
    || bytes_eq name (codes "RESPONSE_DURATION") || bytes_eq name (codes "RESPONSE_TX_DURATION") || bytes_eq name (codes "CONNECTION_ID")

-- the sort of values of a command
abbrev pub sort_of : List ℕ → Option Sort
sort_of name =
    if is_header name then Some Header else
    if is_data name then Some Data else
    if is_address name || is_word name then Some Visible else
    if bytes_eq name (codes "UPSTREAM_TRANSPORT_FAILURE_REASON") then Some Reason else
    if bytes_eq name (codes "RESPONSE_CODE") then Some Status else
    if is_count name then Some Count else
    if bytes_eq name (codes "START_TIME") then Some Start else
    None

-- ---- arguments

-- a header's name: bytes but `?`
abbrev pub is_in_name : ℕ → Bool
is_in_name b = is_not 63 b

-- the first name and what follows it are the names of headers: one alone, or two with `?` between them
abbrev pub are_names : List ℕ → List ℕ → Bool
are_names first [] = not (is_nothing first)
are_names first (mark ∷ second) = not (is_nothing first) && not (is_nothing second) && list_all is_in_name second

-- the last of the names: what follows the `?`, or the whole argument where there is none
abbrev pub last_of : List ℕ → List ℕ → List ℕ
last_of argument [] = argument
last_of argument (mark ∷ second) = second

-- the last name of an argument
abbrev pub last_name : List ℕ → List ℕ
last_name argument = last_of argument (past is_in_name argument)

-- an argument isn't empty and holds no line feed
abbrev pub is_argument : List ℕ → Bool
is_argument argument = not (is_nothing argument) && list_all (λ b. not (b == 10)) argument

-- whether commands of the sort have an argument
abbrev pub has_argument : Sort → Bool
has_argument Header = true
has_argument Data = true
has_argument _ = false

-- whether the sort has such arguments: for a header, `X` or `X?Y`
abbrev pub is_argument_of : Sort → List ℕ → Bool
is_argument_of Header argument = are_names (run is_in_name argument) (past is_in_name argument)
is_argument_of Data argument = true
is_argument_of _ argument = false

-- whether a command of the sort takes the argument, or takes none where none stands
abbrev pub takes : Sort → Option (List ℕ) → Bool
takes sort None = not (has_argument sort)
takes sort (Some argument) = is_argument argument && is_argument_of sort argument

-- whether a command of the sort takes the length, or none where none stands
abbrev pub takes_length : Sort → Option (List ℕ) → Bool
takes_length sort None = true
takes_length sort (Some digits) = has_argument sort && is_length digits

-- ---- what the slot holds

-- the letters of a header's values: visible ones where the last name begins with `:`
abbrev pub letters_of : Option (List ℕ) → Class
letters_of None = classes.HEADER
letters_of (Some argument) = if begins_with 58 (last_name argument) then classes.VISIBLE else classes.HEADER

-- texts of the class, of at most so many letters where a length stands
abbrev pub sized : Class → Option (List ℕ) → Kind
sized class None = texts class 0 zero_fits
sized class (Some digits) = bounded_texts class 0 (number_of digits) zero_fits (number_fits digits)

-- the kind that a sort of values is
abbrev pub kind_of : Sort → Option (List ℕ) → Option (List ℕ) → Kind
kind_of Header argument length = sized (letters_of argument) length
kind_of Data argument length = sized classes.HEADER length
kind_of Visible argument length = texts classes.VISIBLE 1 one_fits
kind_of Reason argument length = texts classes.HEADER 1 one_fits
kind_of Status argument length = numbers (pos 0) (pos 999)
kind_of Count argument length = numbers (pos 0) (pos greatest)
kind_of Start argument length = kind.IsoMillis (record {})

-- a missing value is a dash, and the time is never missing
abbrev pub absence : Sort → Absent
absence Start = No
absence _ = Dash
