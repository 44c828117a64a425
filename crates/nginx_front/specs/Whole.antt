-- What a whole directive spells.
use Rattle.std.specs.Prelude.{◌≡◌, ℕ, ◌-◌, ◌==◌, Result, Ok, Err, List, [], ◌∷◌, ◌⊎◌, if◌then◌else◌}
use Rattle.lf_format.specs.Shape.{Shape}
use Rattle.lf_spelling.specs.declared.fault.Cause.{Cause}
use Rattle.lf_spelling.specs.declared.fault.FormatFault.{FormatFault}
use Rattle.lf_spelling.specs.declared.fault.FormatFault.TheVariants as fault
use Rattle.nginx_front.specs.declared.table.Escape.{Escape}
use Rattle.nginx_front.specs.declared.strings.Placed.{Placed}
use Rattle.nginx_front.specs.declared.parts.Said.{Said}
use Rattle.nginx_front.specs.Nginx.{Spells, IsFaulty}
use Rattle.nginx_front.specs.Parts.{IsSpelled, FaultyParts}

-- the bytes without their places
abbrev pub bytes_of : List Placed → List ℕ
bytes_of [] = []
bytes_of (one ∷ given) = one.byte ∷ bytes_of given

-- the place in the directive that gave a byte of the joined text
abbrev pub place_of : List Placed → ℕ → ℕ
place_of [] at = 0
place_of (one ∷ given) at = if at == 0 then one.place else place_of given (at - 1)

-- The directive spells what its joined strings spell under its escape.
pub record SpellsDirective (text : List ℕ) (format : Shape) : Type 0 where
  pub escape : Escape
  pub given : List Placed
  pub is : IsSpelled text escape given
  pub spells : Spells escape (bytes_of given) format

-- The first fault of a directive: in its own parts, or in its joined strings, at the place of the byte that gave the faulty one.
pub data FaultyDirective (text : List ℕ) (place : ℕ) (cause : Cause) : Type 0 where
  in_parts : FaultyParts text place cause → FaultyDirective text place cause
  in_strings : (escape : Escape) (given : List Placed) (at : ℕ) → IsSpelled text escape given → IsFaulty escape (bytes_of given) at cause → place ≡ place_of given at → FaultyDirective text place cause

-- Each directive spells one format, or it has one first fault.
pub record HasOneDirectiveAnswer (text : List ℕ) : Type 0 where
  pub some : ((format : Shape) × SpellsDirective text format) ⊎ ((place : ℕ) × (cause : Cause) × FaultyDirective text place cause)
  pub one_format : (a b : Shape) → SpellsDirective text a → SpellsDirective text b → a ≡ b
  pub one_fault : (p q : ℕ) (a b : Cause) → FaultyDirective text p a → FaultyDirective text q b → (p ≡ q) × (a ≡ b)
  pub not_both : (format : Shape) (place : ℕ) (cause : Cause) → SpellsDirective text format → FaultyDirective text place cause → ⊥

-- What reading a directive answers.
abbrev pub GivesSaid : List ℕ → Result Said FormatFault → Type 0
GivesSaid text (Ok said) = IsSpelled text said.escape said.given.items
GivesSaid text (Err (fault.At place cause)) = FaultyParts text place cause
GivesSaid text (Err fault.OutOfMemory) = Unit {0}
