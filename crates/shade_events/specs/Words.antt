-- The words that make a function an entry (WGSL, "Entry Points"), that name an attribute whose arguments are not looked up ("Attributes"), and
-- that severities are ("Diagnostics").
use Rattle.std.specs.Prelude.{ℕ, Bool, true, false, List, [], ◌∷◌, Option, Some, None, codes, slice_get, if◌then◌else◌}
use Rattle.std.specs.Str.{bytes_eq}
use Rattle.shade_base.specs.declared.severity.Severity.{Severity}
use Rattle.shade_base.specs.declared.severity.Severity.TheVariants as severity
use Rattle.shade_ast.specs.Lexemes.{named_in}

abbrev pub is_word : List (List ℕ) → List ℕ → Bool
is_word [] text = false
is_word (word ∷ words) text = if bytes_eq text word then true else is_word words text

-- ---- names by their numbers

abbrev pub is_text : List (List ℕ) → Option (List ℕ) → Bool
is_text words None = false
is_text words (Some text) = is_word words text

-- whether the name with a number is one of some words
abbrev pub is_one_of : List (List ℕ) → List (List ℕ) → ℕ → Bool
is_one_of words names name = is_text words (slice_get names name)

-- a function with one of these attributes is an entry
abbrev pub entry_words : List (List ℕ)
entry_words = codes "compute" ∷ codes "workgroup_size" ∷ []

abbrev pub builtin_words : List (List ℕ)
builtin_words = codes "builtin" ∷ []

-- ---- severities

abbrev pub severities : List (List ℕ × Severity)
severities = (codes "error", severity.Error) ∷ ((codes "warning", severity.Warning) ∷ ((codes "info", severity.Info) ∷ ((codes "off", severity.Off) ∷ [])))

abbrev pub severity_by : Option (List ℕ) → Option Severity
severity_by None = None
severity_by (Some text) = named_in severities text

-- the severity that the name with a number is
abbrev pub severity_named : List (List ℕ) → ℕ → Option Severity
severity_named names name = severity_by (slice_get names name)
