-- The rule on aliases, and the first call that breaks it. (This project's rule, after WGSL, "Alias Analysis".)
use Rattle.std.specs.Prelude.{◌≡◌, ◌⊎◌, ℕ, ◌<◌, List, All, take, Some, slice_get}
use Rattle.shade_base.specs.declared.place.Place.{Place}
use Rattle.shade_core.specs.declared.statement.Argument.{Argument}
use Rattle.shade_core.specs.declared.statement.Argument.TheVariants.{Pointer}
use Rattle.shade_core.specs.declared.statement.Base.TheVariants.{Module}
use Rattle.shade_core.specs.declared.statement.View.{View}
use Rattle.shade_core.specs.declared.module.CoreFunction.{CoreFunction}
use Rattle.shade_core.specs.Code.{code_of}
use Rattle.shade_core.specs.Places.{list_places}
use Rattle.shade_core.specs.Standing.{Standing, calls, statements}
use Rattle.shade_rules.specs.declared.aliasing.AliasOther.{AliasOther}
use Rattle.shade_rules.specs.declared.aliasing.AliasOther.TheVariants as other
use Rattle.shade_rules.specs.declared.aliasing.AliasFault.{AliasFault}
use Rattle.shade_rules.specs.declared.aliasing.AliasFault.TheVariants.{Alias, NoMemory}
use Rattle.shade_rules.specs.declared.usage.Seen.{Seen}
use Rattle.shade_rules.specs.declared.usage.Seen.TheVariants.{Parameter, Variable}
use Rattle.shade_rules.specs.declared.usage.UsageKind.TheVariants.{Read, Write}
use Rattle.shade_rules.specs.Usages.{Uses, usage}

-- a function reads or writes something
abbrev pub Touches : List CoreFunction → ℕ → Seen → Type 0
Touches functions g seen = Uses functions g (usage Read seen) ⊎ Uses functions g (usage Write seen)

-- a function writes one of two things, and reads or writes the other
abbrev pub Conflict : List CoreFunction → ℕ → Seen → Seen → Type 0
Conflict functions g one two = (Uses functions g (usage Write one) × Touches functions g two) ⊎ (Touches functions g one × Uses functions g (usage Write two))

-- An argument of a call is an alias of a later one that begins at the same variable, or of the variable of the module that it begins at, where
-- the callee conflicts on the two.
pub data Clash (Conflicts : Seen → Seen → Type 0) (args : List Argument) (i : ℕ) : AliasOther → Type 0 where
  argument : {j : ℕ} {view later : View} → i < j → slice_get args i ≡ Some (Pointer view) → slice_get args j ≡ Some (Pointer later) → view.base ≡ later.base → Conflicts (Parameter i) (Parameter j) → Clash Conflicts args i (other.Argument j)
  variable : {r : ℕ} {view : View} → slice_get args i ≡ Some (Pointer view) → view.base ≡ Module r → Conflicts (Parameter i) (Variable r) → Clash Conflicts args i (other.Variable r)

-- arguments before variables, and each by number
abbrev pub OtherBefore : AliasOther → AliasOther → Type 0
OtherBefore (other.Argument j) (other.Argument k) = j < k
OtherBefore (other.Argument j) (other.Variable r) = Unit {0}
OtherBefore (other.Variable r) (other.Argument j) = ⊥
OtherBefore (other.Variable r) (other.Variable s) = r < s

-- the first alias of a call: by the lesser argument, then by the other
pub record IsFirstOf (Conflicts : Seen → Seen → Type 0) (args : List Argument) (i : ℕ) (what : AliasOther) : Type 0 where
  pub clash : Clash Conflicts args i what
  pub lesser : (k : ℕ) (o : AliasOther) → k < i → Clash Conflicts args k o → ⊥
  pub before : (o : AliasOther) → OtherBefore o what → Clash Conflicts args i o → ⊥

-- a call without one
abbrev pub HasNone : (Seen → Seen → Type 0) → List Argument → Type 0
HasNone Conflicts args = (i : ℕ) (o : AliasOther) → Clash Conflicts args i o → ⊥

-- a statement that is no call with an alias
abbrev pub HasNoAlias : List CoreFunction → Standing → Type 0
HasNoAlias functions s = (g : ℕ) (args : List Argument) → s.head ≡ calls g args → HasNone (Conflict functions g) args

-- a function without one
abbrev pub AreFree : List CoreFunction → CoreFunction → Type 0
AreFree functions f = All (HasNoAlias functions) (statements (code_of f.body))

-- The first call of a function with an alias.
pub record IsFirstAliasIn (functions : List CoreFunction) (function : CoreFunction) (fault : AliasFault) : Type 0 where
  pub number : ℕ
  pub statement : Standing
  pub at : slice_get (statements (code_of function.body)) number ≡ Some statement
  pub before : All (HasNoAlias functions) (take number (statements (code_of function.body)))
  pub callee : ℕ
  pub args : List Argument
  pub is_call : statement.head ≡ calls callee args
  pub first : ℕ
  pub second : AliasOther
  pub clash : IsFirstOf (Conflict functions callee) args first second
  pub place : Place
  pub stands : slice_get (list_places function.body) number ≡ Some place
  pub is : fault ≡ Alias place first second

-- The first alias of a module: that of its first function that has one.
pub record IsFirstAlias (functions : List CoreFunction) (fault : AliasFault) : Type 0 where
  pub number : ℕ
  pub function : CoreFunction
  pub at : slice_get functions number ≡ Some function
  pub before : All (AreFree functions) (take number functions)
  pub first : IsFirstAliasIn functions function fault

-- a module is refused for its first alias, or memory ran out
abbrev pub IsRefused : List CoreFunction → AliasFault → Type 0
IsRefused functions fault = (fault ≡ NoMemory) ⊎ IsFirstAlias functions fault
