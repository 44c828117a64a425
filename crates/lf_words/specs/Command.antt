-- The command lines: the words of each command.
use Rattle.std.specs.Prelude.{◌≡◌, ℕ, ◌≤◌, ◌⊎◌, List, [], ◌∷◌, Option, None, Some, Bool, true, false, cond, ◌||◌, ◌&&◌, length, codes, decimal, leb}
use Rattle.std.specs.List.{list_all}
use Rattle.std.specs.Option.{ForSome}
use Rattle.std.specs.Str.{IsUtf8, bytes_eq, is_utf8}
use Rattle.lf_limits.specs.Limits.{most_jobs, most_records, most_word_bytes}
use Rattle.lf_words.specs.declared.command.Command.{Command}
use Rattle.lf_words.specs.declared.command.Side.{Side}
use Rattle.lf_words.specs.declared.command.Verb.{Verb}
use Rattle.lf_words.specs.declared.command.Verb.TheVariants.{Check, Read, Write, Translate, Show, Gen}
use Rattle.lf_words.specs.declared.command.Front.{Front}
use Rattle.lf_words.specs.declared.command.Front.TheVariants.{Apache, Nginx, NginxJson, NginxNone, NginxDirective, Haproxy, Envoy, W3c, Iis}

-- the word of a verb
abbrev pub verb_text : Verb → List ℕ
verb_text Check = codes "check"
verb_text Read = codes "read"
verb_text Write = codes "write"
verb_text Translate = codes "translate"
verb_text Show = codes "show"
verb_text Gen = codes "gen"

-- the word of a front
abbrev pub front_text : Front → List ℕ
front_text Apache = codes "apache"
front_text Nginx = codes "nginx"
front_text NginxJson = codes "nginx-json"
front_text NginxNone = codes "nginx-none"
front_text NginxDirective = codes "nginx-directive"
front_text Haproxy = codes "haproxy"
front_text Envoy = codes "envoy"
front_text W3c = codes "w3c"
front_text Iis = codes "iis"

-- the option that narrows the source
abbrev pub is_narrow : List ℕ → Bool
is_narrow name = bytes_eq name (codes "--narrow")

-- the option that narrows the target
abbrev pub is_narrow_to : List ℕ → Bool
is_narrow_to name = bytes_eq name (codes "--narrow-to")

-- the option that says how many jobs there are
abbrev pub is_jobs : List ℕ → Bool
is_jobs name = bytes_eq name (codes "--jobs")

-- the option that says whether absence and a lone dash are one value or two
abbrev pub is_dash : List ℕ → Bool
is_dash name = bytes_eq name (codes "--dash")

-- The verb has an option of this name.
abbrev pub has_option : Verb → List ℕ → Bool
has_option Check name = is_narrow name || is_dash name
has_option Read name = is_narrow name || is_dash name || is_jobs name
has_option Write name = is_narrow name || is_dash name
has_option Translate name = is_narrow name || is_narrow_to name || is_dash name || is_jobs name
has_option Show name = is_narrow name || is_dash name
has_option Gen name = is_narrow name || is_dash name || is_jobs name

-- An option that stands in a command line.
pub record Given : Type 0 where
  pub name : List ℕ
  pub value : List ℕ

-- the words of options: each a name, and its value in the next word
abbrev pub option_words : List Given → List (List ℕ)
option_words [] = []
option_words (option ∷ options) = option.name ∷ option.value ∷ option_words options

-- the value that is given under the name
abbrev pub value_of : List ℕ → List Given → Option (List ℕ)
value_of name [] = None
value_of name (option ∷ options) = cond (bytes_eq option.name name) (Some option.value) (value_of name options)

-- Each is an option of the verb, and none of them is given twice.
abbrev pub AreOptionsOf : Verb → List Given → Type 0
AreOptionsOf verb [] = Unit {0}
AreOptionsOf verb (option ∷ options) =
    (has_option verb option.name ≡ true) × (value_of option.name options ≡ None) × AreOptionsOf verb options

-- The text is the number's own decimal digits, so without needless zeros, and the number is at most `most`.
abbrev pub IsNumber : ℕ → List ℕ → ℕ → Type 0
IsNumber most text n = (n ≤ most) × (text ≡ decimal n)

-- The number of jobs that the option says: 1 where it isn't given, and else one from 1 to the most.
abbrev pub IsJobs : Option (List ℕ) → ℕ → Type 0
IsJobs None jobs = jobs ≡ 1
IsJobs (Some text) jobs = (1 ≤ jobs) × IsNumber most_jobs text jobs

-- the word that says whether absence and a lone dash are two values
abbrev pub dash_text : Bool → List ℕ
dash_text true = codes "two"
dash_text false = codes "one"

-- Whether the option says that absence and a lone dash are two values: where it isn't given, they are one.
abbrev pub IsDash : Option (List ℕ) → Bool → Type 0
IsDash None two = two ≡ false
IsDash (Some text) two = text ≡ dash_text two

-- The options say how the source is narrowed, how many jobs there are, and whether a lone dash is a value of its own.
pub record Says (verb : Verb) (options : List Given) (c : Command) : Type 0 where
  pub known : AreOptionsOf verb options
  pub narrow : c.source.narrow ≡ value_of (codes "--narrow") options
  pub jobs : IsJobs (value_of (codes "--jobs") options) c.jobs
  pub dash : IsDash (value_of (codes "--dash") options) c.two

-- The words after the verb where they are FRONT FORMAT and options.
pub record IsPlain (words : List (List ℕ)) (c : Command) : Type 0 where
  pub options : List Given
  pub spelled : words ≡ front_text c.source.front ∷ c.source.format ∷ option_words options
  pub says : Says c.verb options c
  pub target : c.target ≡ None
  pub map : c.map ≡ None
  pub seed : c.seed ≡ 0
  pub count : c.count ≡ 0

-- The words after the verb where they are FRONT FORMAT FRONT FORMAT MAP and options.
pub record IsTranslate (words : List (List ℕ)) (c : Command) : Type 0 where
  pub options : List Given
  pub to : Side
  pub by : List ℕ
  pub spelled : words ≡
      front_text c.source.front ∷ c.source.format ∷ front_text to.front ∷ to.format ∷ by ∷ option_words options
  pub says : Says c.verb options c
  pub narrow_to : to.narrow ≡ value_of (codes "--narrow-to") options
  pub target : c.target ≡ Some to
  pub map : c.map ≡ Some by
  pub seed : c.seed ≡ 0
  pub count : c.count ≡ 0

-- The words after the verb where they are FRONT FORMAT SEED COUNT and options.
pub record IsGen (words : List (List ℕ)) (c : Command) : Type 0 where
  pub options : List Given
  pub seed_text : List ℕ
  pub count_text : List ℕ
  pub spelled : words ≡ front_text c.source.front ∷ c.source.format ∷ seed_text ∷ count_text ∷ option_words options
  pub says : Says c.verb options c
  pub target : c.target ≡ None
  pub map : c.map ≡ None
  pub seed : IsNumber 0xffff_ffff_ffff_ffff seed_text c.seed
  pub count : IsNumber most_records count_text c.count

-- The words after the verb, in the form that the verb has.
abbrev pub IsTail : Verb → List (List ℕ) → Command → Type 0
IsTail Check words c = IsPlain words c
IsTail Read words c = IsPlain words c
IsTail Write words c = IsPlain words c
IsTail Translate words c = IsTranslate words c
IsTail Show words c = IsPlain words c
IsTail Gen words c = IsGen words c

-- A word is a text that isn't over the limit.
abbrev pub is_word : List ℕ → Bool
is_word word = is_utf8 word && leb (length word) most_word_bytes

-- The same as a fact.
pub record IsWord (word : List ℕ) : Type 0 where
  pub text : IsUtf8 word
  pub short : length word ≤ most_word_bytes

-- The words are this command.
pub record IsCommand (words : List (List ℕ)) (c : Command) : Type 0 where
  pub tail : List (List ℕ)
  pub spelled : words ≡ verb_text c.verb ∷ tail
  pub each : list_all is_word words ≡ true
  pub follows : IsTail c.verb tail c

-- The words are no command.
abbrev pub IsBad : List (List ℕ) → Type 0
IsBad words = (c : Command) → IsCommand words c → ⊥

-- The words are one command, or they are bad.
abbrev pub IsOneCommandOrBad : List (List ℕ) → Type 0
IsOneCommandOrBad words =
    ((c : Command) × IsCommand words c × ((d : Command) → IsCommand words d → d ≡ c)) ⊎ IsBad words

-- The command has a target and a map, and their texts are words.
pub record HasTarget (c : Command) : Type 0 where
  pub to : Side
  pub by : List ℕ
  pub target : c.target ≡ Some to
  pub map : c.map ≡ Some by
  pub format : IsWord to.format
  pub narrow : ForSome {T = List ℕ} to.narrow IsWord
  pub text : IsWord by
