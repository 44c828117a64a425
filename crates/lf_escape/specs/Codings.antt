-- The code of a slot, by its member. Each says the letters that it takes and their words in Plain, Apache, Nginx or HaProxy.
use Rattle.std.specs.Prelude.{ℕ, Bool, List}
use Rattle.lf_escape.specs.Codes.{IsCode, byte_takes, line_takes}
use Rattle.lf_escape.specs.Plain.{raw_word, plus_word, doubled_word, raw_prefixes, plus_prefixes, doubled_prefixes}
use Rattle.lf_escape.specs.Apache.{apache_word, apache_prefixes}
use Rattle.lf_escape.specs.Nginx.{nginx_word, json_word, nginx_prefixes, json_prefixes}
use Rattle.lf_escape.specs.HaProxy.{hash_word, capture_word, escape_word, hash_prefixes, capture_prefixes, escape_prefixes}
use Rattle.lf_escape.specs.CodeLaws.{raw_code, plus_code, doubled_code, apache_code, nginx_code, json_code, hash_code, capture_code, escape_code}
use Rattle.lf_escape.specs.declared.coding.Coding.{Coding}
use Rattle.lf_escape.specs.declared.coding.Coding.TheVariants.{Raw, ApacheHex, NginxHex, NginxJson, HaHash, HaCapture, HaEscape, PlusSpace, Doubled}

-- The code takes the letter.
abbrev pub coding_takes : Coding → ℕ → Bool
coding_takes Raw = line_takes
coding_takes ApacheHex = byte_takes
coding_takes NginxHex = byte_takes
coding_takes NginxJson = byte_takes
coding_takes HaHash = byte_takes
coding_takes HaCapture = byte_takes
coding_takes HaEscape = line_takes
coding_takes PlusSpace = line_takes
coding_takes Doubled = line_takes

-- the word of a letter
abbrev pub coding_word : Coding → ℕ → List ℕ
coding_word Raw = raw_word
coding_word ApacheHex = apache_word
coding_word NginxHex = nginx_word
coding_word NginxJson = json_word
coding_word HaHash = hash_word
coding_word HaCapture = capture_word
coding_word HaEscape = escape_word
coding_word PlusSpace = plus_word
coding_word Doubled = doubled_word

-- How many proper prefixes the words of a code have, the empty one counted.
abbrev pub prefixes_of : Coding → ℕ
prefixes_of Raw = raw_prefixes
prefixes_of ApacheHex = apache_prefixes
prefixes_of NginxHex = nginx_prefixes
prefixes_of NginxJson = json_prefixes
prefixes_of HaHash = hash_prefixes
prefixes_of HaCapture = capture_prefixes
prefixes_of HaEscape = escape_prefixes
prefixes_of PlusSpace = plus_prefixes
prefixes_of Doubled = doubled_prefixes

pub coding_laws : (c : Coding) → IsCode (coding_takes c) (coding_word c)
coding_laws Raw = raw_code.laws
coding_laws ApacheHex = apache_code.laws
coding_laws NginxHex = nginx_code.laws
coding_laws NginxJson = json_code.laws
coding_laws HaHash = hash_code.laws
coding_laws HaCapture = capture_code.laws
coding_laws HaEscape = escape_code.laws
coding_laws PlusSpace = plus_code
coding_laws Doubled = doubled_code.laws
