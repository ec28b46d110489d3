-- The shape of a module: what every layer behind the front end may take for granted.
use Rattle.std.specs.Prelude.{◌≡◌, ℕ, ◌+◌, ◌<◌, ◌^◌, Bool, true, false, List, [], ◌∷◌, Option, None, Some, map, length, slice_get, slice_index, All, IsTrue, if◌then◌else◌}
use Rattle.std.specs.List.{flat_map}
use Rattle.shade_values.specs.declared.types.Space.{Space}
use Rattle.shade_values.specs.declared.types.Space.TheVariants as space
use Rattle.shade_values.specs.declared.types.Access.{Access}
use Rattle.shade_values.specs.declared.types.ShadeType.{ShadeType}
use Rattle.shade_values.specs.declared.types.ShadeType.TheVariants as type
use Rattle.shade_values.specs.declared.types.TypeId.{TypeId}
use Rattle.shade_values.specs.Table.{Table}
use Rattle.shade_values.specs.Shape.{Shape, shape_of}
use Rattle.shade_core.specs.declared.module.CoreParam.{CoreParam}
use Rattle.shade_core.specs.declared.module.CoreParam.TheVariants.{Plain, Pointer, Input}
use Rattle.shade_core.specs.declared.module.Root.{Root}
use Rattle.shade_core.specs.declared.module.CoreFunction.{CoreFunction}
use Rattle.shade_core.specs.declared.module.CoreModule.{CoreModule}
use Rattle.shade_core.specs.declared.statement.CoreStatement.{CoreStatement}
use Rattle.shade_core.specs.Code.{Return, code_of}
use Rattle.shade_core.specs.Standing.{Case, Head, jumps, switches, head_of, statements, are_numbered}
use Rattle.shade_core.specs.Types.{is_data, is_buffer, type_at, spelled, NamesHeld, IsTable}
use Rattle.shade_core.specs.Roots.{access_fits, IsRoot}
use Rattle.shade_core.specs.Views.{ValueTypes}
use Rattle.shade_core.specs.Fits.{IsTyped}
use Rattle.shade_core.specs.Scopes.{in_scope}
use Rattle.shade_core.specs.Chains.{LeadsBy}
use Rattle.shade_core.specs.Limits.{KeepsLimits}

-- no two places of a list have one thing
abbrev pub AllDiffer : {A : Type 0} → List A → Type 0
AllDiffer {A} xs = (i j : ℕ) (x : A) → slice_get xs i ≡ Some x → slice_get xs j ≡ Some x → i ≡ j

-- ---- what a function takes and gives

-- what a pointer may point to: runtime-sized arrays are in storage memory alone
abbrev pub space_points : Space → Shape → Bool
space_points space.Storage shape = is_buffer shape
space_points _ shape = is_data shape

-- the type of a pointer parameter
pub record IsPointer (t : Table) (in_space : Space) (id : TypeId) : Type 0 where
  pub pointee : TypeId
  pub access : Access
  pub at : type_at t id ≡ Some (type.Pointer in_space pointee access)
  pub fits : IsTrue (access_fits in_space access)
  pub takes : IsTrue (space_points in_space (shape_of t pointee))

-- an entry has inputs alone, and no other function has one
abbrev pub MayTake : Table → Option (List ℕ) → CoreParam → Type 0
MayTake t (Some size) (Input which) = Unit {0}
MayTake t (Some size) _ = ⊥
MayTake t None (Plain id) = NamesHeld t id
MayTake t None (Pointer in_space id) = IsPointer t in_space id
MayTake t None (Input which) = ⊥

abbrev pub MayGive : Table → Option (List ℕ) → Option TypeId → Type 0
MayGive t entry None = Unit {0}
MayGive t None (Some id) = NamesHeld t id
MayGive t (Some size) (Some id) = ⊥

-- no direction of a workgroup has 0 lanes
abbrev pub HasLanes : Option (List ℕ) → Type 0
HasLanes None = Unit {0}
HasLanes (Some size) = (i : ℕ) → i < 3 → 0 < slice_index size i

pub record IsSignature (t : Table) (f : CoreFunction) : Type 0 where
  pub params : All (MayTake t f.entry) f.params
  pub locals : All (NamesHeld t) f.locals
  pub result : MayGive t f.entry f.result
  pub lanes : HasLanes f.entry

-- ---- what a function does

abbrev pub fallbacks : List Case → ℕ
fallbacks [] = 0
fallbacks (case ∷ cases) = if case.fallback then fallbacks cases + 1 else fallbacks cases

-- a switch has exactly one fallback, no key twice, and fewer than 2 ^ 32 parts
pub record IsSwitch (cases : List Case) : Type 0 where
  pub one : fallbacks cases ≡ 1
  pub keys : AllDiffer (flat_map (λ case. case.keys) cases)
  pub few : length cases < 2 ^ 32

abbrev pub SwitchIs : Head → Type 0
SwitchIs (switches selector cases) = IsSwitch cases
SwitchIs _ = Unit {0}

abbrev pub is_return : Head → Bool
is_return (jumps (Return value)) = true
is_return _ = false

-- the last statement of a list is a Return
abbrev pub ends_with_return : List CoreStatement → Bool
ends_with_return [] = false
ends_with_return (s ∷ []) = is_return (head_of s.act)
ends_with_return (s ∷ rest) = ends_with_return rest

-- a function without a result ends with a Return
abbrev pub Ends : Option TypeId → List CoreStatement → Type 0
Ends None body = IsTrue (ends_with_return body)
Ends (Some id) body = Unit {0}

pub record IsBody (shader : CoreModule) (f : CoreFunction) (values : ValueTypes) : Type 0 where
  pub numbered : IsTrue (are_numbered 0 (statements (code_of f.body)))
  pub scoped : IsTrue (in_scope [] (code_of f.body))
  pub typed : IsTyped shader f (statements (code_of f.body)) values
  pub switches : All (λ s. SwitchIs s.head) (statements (code_of f.body))
  pub ends : Ends f.result f.body

-- ---- a module

pub record HasShape (shader : CoreModule) : Type 0 where
  pub few_roots : length shader.roots < 2 ^ 32
  pub few_functions : length shader.functions < 2 ^ 32
  pub root_names : AllDiffer (map (λ root. root.name) shader.roots)
  pub function_names : AllDiffer (map (λ f. f.name) shader.functions)
  pub table : IsTable shader.types
  pub roots : All (IsRoot shader.types) shader.roots
  pub signatures : All (IsSignature shader.types) shader.functions
  -- by function number, the types of the values of its statements
  pub values : ℕ → ValueTypes
  pub bodies : (k : ℕ) (f : CoreFunction) → slice_get shader.functions k ≡ Some f → IsBody shader f (values k)
  pub acyclic : (k : ℕ) → ¬ LeadsBy shader k k
  pub limits : KeepsLimits shader values
