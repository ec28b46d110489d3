-- The places of tokens, and of faults at them.
use Rattle.std.specs.Prelude.{◌≡◌, ℕ, List, length, Option, None, Some, slice_get}
use Rattle.shade_base.specs.declared.place.Place.{Place}
use Rattle.shade_base.specs.Lines.{place_of}
use Rattle.shade_lex.specs.declared.token.Token.{Token}
use Rattle.shade_cursor.specs.declared.fault.Refusal.{Refusal}
use Rattle.shade_cursor.specs.declared.fault.Refusal.TheVariants as refusal
use Rattle.shade_cursor.specs.declared.fault.SyntaxFault.{SyntaxFault}
use Rattle.shade_cursor.specs.declared.fault.SyntaxFault.TheVariants as fault

abbrev pub place_by : List ℕ → Option Token → Place
place_by text None = place_of text (length text)
place_by text (Some token) = token.place

-- the place of a token, or the end of the text behind the last
abbrev pub place_at : List ℕ → List Token → ℕ → Place
place_at text tokens k = place_by text (slice_get tokens k)

-- a place is that of a token of which something is true, or the end of the text if it is true of the end of the tokens
pub record IsPlaceOf (text : List ℕ) (tokens : List Token) (is : ℕ → Type 0) (place : Place) : Type 0 where
  pub token : ℕ
  pub stands : place ≡ place_at text tokens token
  pub fact : is token

-- the fault that a refusal is, in a text
abbrev pub fault_of : List ℕ → List Token → Refusal → SyntaxFault
fault_of text tokens (refusal.Unexpected at) = fault.Unexpected (place_at text tokens at)
fault_of text tokens (refusal.TooDeep at) = fault.TooDeep (place_at text tokens at)
fault_of text tokens refusal.NoMemory = fault.NoMemory
