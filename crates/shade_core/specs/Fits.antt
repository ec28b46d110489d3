-- Which types a statement takes, and the type of the value that it gives.
use Rattle.std.specs.Prelude.{◌≡◌, ℕ, ℤ, ◌⊎◌, List, [], ◌∷◌, ◌++◌, true, false, Option, None, Some, slice_get, Contains, All, IsTrue}
use Rattle.std.specs.Option.{option_to_list}
use Rattle.shade_base.specs.declared.severity.Severity.{Severity}
use Rattle.shade_values.specs.declared.op.Op.{Op}
use Rattle.shade_values.specs.declared.types.Scalar.{Scalar}
use Rattle.shade_values.specs.declared.types.Scalar.TheVariants as scalar
use Rattle.shade_values.specs.declared.types.Space.{Space}
use Rattle.shade_values.specs.declared.types.Space.TheVariants as space
use Rattle.shade_values.specs.declared.types.Access.{Access}
use Rattle.shade_values.specs.declared.types.Access.TheVariants.{ReadWrite}
use Rattle.shade_values.specs.declared.types.ShadeType.{ShadeType}
use Rattle.shade_values.specs.declared.types.ShadeType.TheVariants as type
use Rattle.shade_values.specs.declared.types.TypeId.{TypeId}
use Rattle.shade_values.specs.declared.value.Leaf.{Leaf}
use Rattle.shade_values.specs.Numbers.{wrapped}
use Rattle.shade_values.specs.Table.{Table}
use Rattle.shade_values.specs.Takes.{Takes}
use Rattle.shade_core.specs.declared.module.CoreParam.{CoreParam}
use Rattle.shade_core.specs.declared.module.CoreParam.TheVariants as parameter
use Rattle.shade_core.specs.declared.module.CoreFunction.{CoreFunction}
use Rattle.shade_core.specs.declared.module.CoreModule.{CoreModule}
use Rattle.shade_core.specs.declared.statement.Operand.{Operand}
use Rattle.shade_core.specs.declared.statement.Argument.{Argument}
use Rattle.shade_core.specs.declared.statement.Argument.TheVariants as argument
use Rattle.shade_core.specs.declared.statement.View.{View}
use Rattle.shade_core.specs.Code.{Plain, Set, Load, Declare, Store, Atomic, Barrier, UniformLoad, Length, Jump, Break, Continue, Return}
use Rattle.shade_core.specs.Atomics.{is_atomic}
use Rattle.shade_core.specs.Standing.{Case, Head, does, jumps, calls, branches, switches, loops, Standing}
use Rattle.shade_core.specs.Types.{type_at, IsHeld, IsConstructible}
use Rattle.shade_core.specs.Views.{ValueTypes, OperandIs, OperandsAre, PointsTo, Origin, ViewIs, IsIndex}

-- what may be loaded: a place that holds a value
abbrev pub Loads : CoreModule → CoreFunction → ValueTypes → View → Origin → Type 0
Loads shader f values view o = ViewIs shader f values view o × IsConstructible shader.types o.type

-- an operation on values, of types that a row of its table takes; the table of types holds what it gives
abbrev pub SetFits : CoreModule → CoreFunction → ValueTypes → Op → List Operand → ShadeType → Type 0
SetFits shader f values op args ty =
    (types : List ShadeType) × OperandsAre shader f values args types
    × (is_atomic op ≡ false) × Takes shader.types op types (Some ty) × IsHeld shader.types ty

-- an atomic operation, of a pointer to the atomic and of its values
abbrev pub AtomicFits : CoreModule → CoreFunction → ValueTypes → Op → View → List Operand → Option ShadeType → Type 0
AtomicFits shader f values op view args result =
    (o : Origin) × (id : TypeId) × (types : List ShadeType)
    × ViewIs shader f values view o × (type_at shader.types id ≡ Some o.type) × OperandsAre shader f values args types
    × (is_atomic op ≡ true) × Takes shader.types op (type.Pointer o.space id o.access ∷ types) result
    × All (Contains shader.types.types) (option_to_list result)

-- the value of a Declare, of the type of its local
abbrev pub DeclareFits : CoreModule → CoreFunction → ValueTypes → Option TypeId → Option Operand → Type 0
DeclareFits shader f values None value = ⊥
DeclareFits shader f values (Some id) None = Unit {0}
DeclareFits shader f values (Some id) (Some value) = (ty : ShadeType) × (type_at shader.types id ≡ Some ty) × OperandIs shader f values value ty

-- a value of the type of the place, which may be written
abbrev pub StoreFits : CoreModule → CoreFunction → ValueTypes → View → Operand → Type 0
StoreFits shader f values view value =
    (o : Origin) × Loads shader f values view o × (o.access ≡ ReadWrite) × OperandIs shader f values value o.type

abbrev pub IsBarrierSpace : Space → Type 0
IsBarrierSpace in_space = (in_space ≡ space.Workgroup) ⊎ (in_space ≡ space.Storage)

-- an argument for a parameter: a value of its type, or a view of the space, the access and the type that its pointer has
abbrev pub ArgumentFits : CoreModule → CoreFunction → ValueTypes → Argument → CoreParam → Type 0
ArgumentFits shader f values (argument.Plain operand) (parameter.Plain id) = (ty : ShadeType) × (type_at shader.types id ≡ Some ty) × OperandIs shader f values operand ty
ArgumentFits shader f values (argument.Pointer view) (parameter.Pointer in_space id) = (o : Origin) × ViewIs shader f values view o × PointsTo shader.types (type_at shader.types id) o
ArgumentFits shader f values _ _ = ⊥

abbrev pub ArgumentsFit : CoreModule → CoreFunction → ValueTypes → List Argument → List CoreParam → Type 0
ArgumentsFit shader f values [] [] = Unit {0}
ArgumentsFit shader f values (arg ∷ args) (param ∷ params) = ArgumentFits shader f values arg param × ArgumentsFit shader f values args params
ArgumentsFit shader f values _ _ = ⊥

-- the type of a function's result, if it has one
abbrev pub ResultIs : Table → Option TypeId → Option ShadeType → Type 0
ResultIs t None result = result ≡ None
ResultIs t (Some id) result = (ty : ShadeType) × (type_at t id ≡ Some ty) × (result ≡ Some ty)

-- a call of a function that is no entry
abbrev pub CallFits : CoreModule → CoreFunction → ValueTypes → ℕ → List Argument → Option ShadeType → Type 0
CallFits shader f values number args result =
    (g : CoreFunction) × (slice_get shader.functions number ≡ Some g) × (g.entry ≡ None) × ArgumentsFit shader f values args g.params × ResultIs shader.types g.result result

-- a Return has a value of the result's type exactly where there is a result
abbrev pub ReturnFits : CoreModule → CoreFunction → ValueTypes → Option Operand → Option TypeId → Type 0
ReturnFits shader f values None None = Unit {0}
ReturnFits shader f values (Some value) (Some id) = (ty : ShadeType) × (type_at shader.types id ≡ Some ty) × OperandIs shader f values value ty
ReturnFits shader f values _ _ = ⊥

-- a number of the scalar's range
abbrev pub IsKey : Scalar → ℤ → Type 0
IsKey s key = wrapped s key ≡ key

-- a selector is i32 or u32, and each key is one of its numbers
abbrev pub SwitchFits : CoreModule → CoreFunction → ValueTypes → Operand → List Case → Type 0
SwitchFits shader f values selector cases =
    (s : Scalar) × OperandIs shader f values selector (type.Plain s) × IsIndex (type.Plain s) × All (λ case. All (IsKey s) case.keys) cases

-- what a statement without parts takes, and the type of its value
abbrev pub PlainFits : CoreModule → CoreFunction → ValueTypes → Plain → Option ShadeType → Type 0
PlainFits shader f values (Set op args) result = (ty : ShadeType) × SetFits shader f values op args ty × (result ≡ Some ty)
PlainFits shader f values (Load view) result = (o : Origin) × Loads shader f values view o × (result ≡ Some o.type)
PlainFits shader f values (Declare local value) result = DeclareFits shader f values (slice_get f.locals local) value × (result ≡ None)
PlainFits shader f values (Store view value) result = StoreFits shader f values view value × (result ≡ None)
PlainFits shader f values (Atomic op view args) result = AtomicFits shader f values op view args result
PlainFits shader f values (Barrier in_space severity) result = IsBarrierSpace in_space × (result ≡ None)
PlainFits shader f values (UniformLoad view severity) result = (o : Origin) × Loads shader f values view o × (o.space ≡ space.Workgroup) × (result ≡ Some o.type)
PlainFits shader f values (Length view) result =
    (o : Origin) × (element : TypeId) × ViewIs shader f values view o × (o.type ≡ type.RuntimeArray element)
    × Contains shader.types.types (type.Plain scalar.U32) × (result ≡ Some (type.Plain scalar.U32))

abbrev pub JumpFits : CoreModule → CoreFunction → ValueTypes → Jump → Type 0
JumpFits shader f values Break = Unit {0}
JumpFits shader f values Continue = Unit {0}
JumpFits shader f values (Return value) = ReturnFits shader f values value f.result

-- what a statement takes by the types of the values before it, and the type of its own value
abbrev pub Fits : CoreModule → CoreFunction → ValueTypes → Head → Option ShadeType → Type 0
Fits shader f values (does act) result = PlainFits shader f values act result
Fits shader f values (jumps act) result = JumpFits shader f values act × (result ≡ None)
Fits shader f values (calls number args) result = CallFits shader f values number args result
Fits shader f values (branches cond) result = OperandIs shader f values cond (type.Plain scalar.Bool) × (result ≡ None)
Fits shader f values (switches selector cases) result = SwitchFits shader f values selector cases × (result ≡ None)
Fits shader f values (loops leave) result = result ≡ None

-- each statement takes the values of those before it; all is the type of each value, by number
abbrev pub AllFit : CoreModule → CoreFunction → ValueTypes → List Standing → ValueTypes → Type 0
AllFit shader f before [] all = before ≡ all
AllFit shader f before (s ∷ statements) all = (result : Option ShadeType) × Fits shader f before s.head result × AllFit shader f (before ++ result ∷ []) statements all

-- a leave operand is read at the end of its loop, so it may be a value of the loop's parts
abbrev pub LeaveFits : CoreModule → CoreFunction → ValueTypes → Head → Type 0
LeaveFits shader f values (loops (Some leave)) = OperandIs shader f values leave (type.Plain scalar.Bool)
LeaveFits shader f values _ = Unit {0}

-- the types of a function's values, with which all its statements fit
pub record IsTyped (shader : CoreModule) (f : CoreFunction) (statements : List Standing) (values : ValueTypes) : Type 0 where
  pub fit : AllFit shader f [] statements values
  pub leave : All (λ s. LeaveFits shader f values s.head) statements
