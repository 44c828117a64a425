-- How many proper prefixes the tables of the codes have.
use Rattle.std.proofs.Common.{◌≡◌, ◌<◌, length, refl, arith}
use Rattle.lf_escape.specs.Codings.{prefixes_of}
use Rattle.lf_escape.specs.declared.coding.Coding.{Coding}
use Rattle.lf_escape.specs.declared.coding.Coding.TheVariants.{Raw, ApacheHex, NginxHex, NginxJson, HaHash, HaCapture, HaEscape, PlusSpace, Doubled}
use Rattle.lf_code_table.specs.Table.{table_of, prefix_table}

-- the table of a code has as many texts as the code's factor says
pub prefix-count : (code : Coding) → length (table_of code) ≡ prefixes_of code
unfolding prefix_table
prefix-count Raw = refl
prefix-count ApacheHex = refl
prefix-count NginxHex = refl
prefix-count NginxJson = refl
prefix-count HaHash = refl
prefix-count HaCapture = refl
prefix-count HaEscape = refl
prefix-count PlusSpace = refl
prefix-count Doubled = refl

count-range : (code : Coding) → (0 < prefixes_of code) × (prefixes_of code < 256)
count-range Raw = (omega arith, omega arith)
count-range ApacheHex = (omega arith, omega arith)
count-range NginxHex = (omega arith, omega arith)
count-range NginxJson = (omega arith, omega arith)
count-range HaHash = (omega arith, omega arith)
count-range HaCapture = (omega arith, omega arith)
count-range HaEscape = (omega arith, omega arith)
count-range PlusSpace = (omega arith, omega arith)
count-range Doubled = (omega arith, omega arith)

pub table-range : (code : Coding) → (0 < length (table_of code)) × (length (table_of code) < 256)
table-range code =
    let e = prefix-count code in
    let r = count-range code in
    (omega (arith, e, r.0), omega (arith, e, r.1))
