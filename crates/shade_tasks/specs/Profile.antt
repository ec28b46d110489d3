-- Rule: what is out of the profile by itself: `discard`, `override`, `enable`, and each name of a `requires` but that of pointers into all spaces.
-- (WGSL, "Directives", "override Declarations", "Discard Statement", "Language Extensions".)
use Rattle.std.specs.Prelude.{ℕ, List, Option, None, Some, codes, slice_get, Ok, Err, if◌then◌else◌}
use Rattle.std.specs.Str.{bytes_eq}
use Rattle.shade_base.specs.declared.place.Place.{Place}
use Rattle.shade_known.specs.declared.known.Found.TheVariants as found
use Rattle.shade_known.specs.declared.fault.TypingFault.TheVariants as fault
use Rattle.shade_typing.specs.Values.{Answer}

abbrev pub out : Place → List ℕ → Answer
out place word = Err (fault.OutOfProfile place word)

-- a name of a `requires`
abbrev pub required : Option (List ℕ) → Place → Answer
required None place = Ok found.Nothing
required (Some text) place = if bytes_eq text (codes "unrestricted_pointer_parameters") then Ok found.Nothing else out place text

-- an `enable` is told by its first name
abbrev pub enabled : Option (List ℕ) → Place → Answer
enabled None place = Ok found.Nothing
enabled (Some text) place = out place text

abbrev pub text_by : List (List ℕ) → Option ℕ → Option (List ℕ)
text_by names None = None
text_by names (Some n) = slice_get names n
