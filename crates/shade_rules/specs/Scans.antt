-- On the way to the proof: what is looked for in a call, by what is known of its callee.
use Rattle.std.specs.Prelude.{◌≡◌, ℕ, ◌<◌, nat_lt, ◌==◌, Bool, true, false, ◌&&◌, ◌||◌, if◌then◌else◌, List, Option, None, Some, slice_get, IfSome, IfNone}
use Rattle.shade_core.specs.declared.statement.Argument.{Argument}
use Rattle.shade_core.specs.declared.statement.Argument.TheVariants.{Pointer}
use Rattle.shade_core.specs.declared.statement.Base.{Base}
use Rattle.shade_core.specs.declared.statement.Base.TheVariants.{Local, Module, Pointee}
use Rattle.shade_rules.specs.declared.aliasing.AliasOther.{AliasOther}
use Rattle.shade_rules.specs.declared.aliasing.AliasOther.TheVariants as other
use Rattle.shade_rules.specs.declared.aliasing.AliasPair.{AliasPair}
use Rattle.shade_rules.specs.declared.usage.Row.{Row}
use Rattle.shade_rules.specs.declared.usage.Seen.{Seen}
use Rattle.shade_rules.specs.declared.usage.Seen.TheVariants.{Parameter, Variable}
use Rattle.shade_rules.specs.declared.usage.UsageKind.TheVariants.{Read, Write}
use Rattle.shade_rules.specs.Aliases.{Clash, HasNone, IsFirstOf, OtherBefore}
use Rattle.shade_rules.specs.Sets.{has}

abbrev pub touches : Row → Seen → Bool
touches row seen = has row Read seen || has row Write seen

abbrev pub conflicts : Row → Seen → Seen → Bool
conflicts row one two = (has row Write one && touches row two) || (touches row one && has row Write two)

-- as a relation
abbrev pub Known : Row → Seen → Seen → Type 0
Known row one two = conflicts row one two ≡ true

abbrev pub KnownBy : Option Row → Seen → Seen → Type 0
KnownBy None one two = ⊥
KnownBy (Some row) one two = Known row one two

-- by what is known of a function
abbrev pub KnownAt : List Row → ℕ → Seen → Seen → Type 0
KnownAt rows g one two = KnownBy (slice_get rows g) one two

abbrev pub same_base : Base → Base → Bool
same_base (Local x) (Local y) = x == y
same_base (Module r) (Module s) = r == s
same_base (Pointee i) (Pointee j) = i == j
same_base _ _ = false

-- whether an argument begins at a variable, and the callee conflicts on it and parameter i
abbrev pub is_alias : Row → ℕ → Base → ℕ → Argument → Bool
is_alias row i base j (Pointer view) = same_base base view.base && conflicts row (Parameter i) (Parameter j)
is_alias row i base j _ = false

-- the variable of the module that an argument begins at, where the callee conflicts on the two
abbrev pub own_variable : Row → ℕ → Base → Option AliasOther
own_variable row i (Module r) = if conflicts row (Parameter i) (Variable r) then Some (other.Variable r) else None
own_variable row i _ = None

abbrev pub is_later : Row → ℕ → Base → ℕ → Argument → Bool
is_later row i base j arg = nat_lt i j && is_alias row i base j arg

-- a later argument that is an alias
pub record IsLater (row : Row) (args : List Argument) (i : ℕ) (base : Base) (j : ℕ) : Type 0 where
  pub arg : Argument
  pub at : slice_get args j ≡ Some arg
  pub is : is_later row i base j arg ≡ true

-- the first of them, if there is one
pub record IsFirstLater (row : Row) (args : List Argument) (i : ℕ) (base : Base) (found : Option ℕ) : Type 0 where
  pub some : IfSome found (λ j. IsLater row args i base j × ((k : ℕ) → k < j → IsLater row args i base k → ⊥))
  pub none : IfNone found ((k : ℕ) → IsLater row args i base k → ⊥)

-- the first alias of an argument, if there is one
pub record IsFirstFor (row : Row) (args : List Argument) (i : ℕ) (found : Option AliasOther) : Type 0 where
  pub some : IfSome found (λ o. Clash (Known row) args i o × ((p : AliasOther) → OtherBefore p o → Clash (Known row) args i p → ⊥))
  pub none : IfNone found ((o : AliasOther) → Clash (Known row) args i o → ⊥)

-- the first alias of a call, if there is one
pub record IsFirstAmong (Conflicts : Seen → Seen → Type 0) (args : List Argument) (found : Option AliasPair) : Type 0 where
  pub some : IfSome found (λ pair. IsFirstOf Conflicts args pair.first pair.second)
  pub none : IfNone found (HasNone Conflicts args)
