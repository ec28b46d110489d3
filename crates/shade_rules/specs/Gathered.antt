-- On the way to the proof: what statements use, by what is known of the functions that they call.
use Rattle.std.specs.Prelude.{◌≡◌, ◌<◌, ◌⊎◌, ◌↔◌, Contains, length, ℕ, List, Option, None, Some, slice_get}
use Rattle.shade_core.specs.declared.statement.Argument.{Argument}
use Rattle.shade_core.specs.declared.statement.Argument.TheVariants as argument
use Rattle.shade_core.specs.declared.statement.Base.{Base}
use Rattle.shade_core.specs.declared.module.CoreFunction.{CoreFunction}
use Rattle.shade_core.specs.Code.{code_of}
use Rattle.shade_core.specs.Standing.{Standing, Head, does, calls, statements}
use Rattle.shade_rules.specs.declared.usage.Row.{Row}
use Rattle.shade_rules.specs.declared.usage.Seen.{Seen}
use Rattle.shade_rules.specs.declared.usage.Seen.TheVariants.{Parameter, Variable}
use Rattle.shade_rules.specs.declared.usage.SeenSet.{SeenSet}
use Rattle.shade_rules.specs.declared.usage.UsageKind.{UsageKind}
use Rattle.shade_rules.specs.Sets.{HasSeen, HasUsage}
use Rattle.shade_rules.specs.Usages.{Usage, usage, act_usages, seen_of, Uses}

-- of each function, what it uses
abbrev pub Rows : Type 0
Rows = List Row

abbrev pub HasBy : Option Row → Usage → Type 0
HasBy None u = ⊥
HasBy (Some row) u = HasUsage row u

-- what is known of a function
abbrev pub HasAt : Rows → ℕ → Usage → Type 0
HasAt rows k u = HasBy (slice_get rows k) u

abbrev pub IsVariable : Seen → Type 0
IsVariable (Variable r) = Unit {0}
IsVariable (Parameter i) = ⊥

-- what a function does with variables of the module
abbrev pub SeesVariable : SeenSet → Seen → Type 0
SeesVariable set seen = IsVariable seen × HasSeen set seen

abbrev pub HasVariable : Row → Usage → Type 0
HasVariable row u = IsVariable u.target × HasUsage row u

-- used through a parameter, at the variable that is handed over for it
abbrev pub IsHanded : (Usage → Type 0) → ℕ → Base → Usage → Type 0
IsHanded Known j base u = (seen_of base ≡ Some u.target) × Known (usage u.kind (Parameter j))

-- the same of a read alone, or of a write
abbrev pub IsHandedAs : Row → UsageKind → ℕ → Base → Usage → Type 0
IsHandedAs callee kind j base u = (u.kind ≡ kind) × IsHanded (HasUsage callee) j base u

abbrev pub ByArgument : (Usage → Type 0) → ℕ → Argument → Usage → Type 0
ByArgument Known j (argument.Pointer view) u = IsHanded Known j view.base u
ByArgument Known j (argument.Plain operand) u = ⊥

-- by one of the first arguments of a call
pub record ByArguments (Known : Usage → Type 0) (args : List Argument) (n : ℕ) (u : Usage) : Type 0 where
  pub number : ℕ
  pub before : number < n
  pub arg : Argument
  pub at : slice_get args number ≡ Some arg
  pub gives : ByArgument Known number arg u

abbrev pub ByAllArguments : (Usage → Type 0) → List Argument → Usage → Type 0
ByAllArguments Known args u = ByArguments Known args (length args) u

-- by its arguments, or as a variable of the module
abbrev pub CallGives : (Usage → Type 0) → List Argument → Usage → Type 0
CallGives Known args u = ByAllArguments Known args u ⊎ (IsVariable u.target × Known u)

abbrev pub HeadGives : (ℕ → Usage → Type 0) → Head → Usage → Type 0
HeadGives Known (does act) u = Contains (act_usages act) u
HeadGives Known (calls g args) u = CallGives (Known g) args u
HeadGives Known _ u = ⊥

abbrev pub ListGives : (ℕ → Usage → Type 0) → List Standing → Usage → Type 0
ListGives Known list u = (s : Standing) × Contains list s × HeadGives Known s.head u

abbrev pub FunctionGives : (ℕ → Usage → Type 0) → CoreFunction → Usage → Type 0
FunctionGives Known f u = ListGives Known (statements (code_of f.body)) u

-- exactly what statements use, by what is known of the functions that they call
abbrev pub IsRowOf : Rows → List Standing → Row → Type 0
IsRowOf rows list row = (u : Usage) → HasUsage row u ↔ ListGives (HasAt rows) list u

-- so many functions of which nothing is known
pub record IsUnknown (count : ℕ) (rows : Rows) : Type 0 where
  pub long : length rows ≡ count
  pub empty : (k : ℕ) (u : Usage) → HasAt rows k u → ⊥

-- exactly what each function uses
abbrev pub AreUsages : List CoreFunction → Rows → Type 0
AreUsages functions rows = (k : ℕ) (u : Usage) → HasAt rows k u ↔ Uses functions k u
