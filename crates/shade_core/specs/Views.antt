-- The types of operands and of what views name. (WGSL, "Memory View Types" and "Composite Value Decomposition Expressions".)
use Rattle.std.specs.Prelude.{◌≡◌, ℕ, ◌⊎◌, List, [], ◌∷◌, Option, None, Some, slice_get, Contains, IsTrue}
use Rattle.shade_values.specs.declared.types.Scalar.{Scalar}
use Rattle.shade_values.specs.declared.types.Scalar.TheVariants as scalar
use Rattle.shade_values.specs.declared.types.Space.{Space}
use Rattle.shade_values.specs.declared.types.Space.TheVariants as space
use Rattle.shade_values.specs.declared.types.Access.{Access}
use Rattle.shade_values.specs.declared.types.Access.TheVariants.{Read, ReadWrite}
use Rattle.shade_values.specs.declared.types.ShadeType.{ShadeType}
use Rattle.shade_values.specs.declared.types.ShadeType.TheVariants as type
use Rattle.shade_values.specs.declared.types.TypeId.{TypeId}
use Rattle.shade_values.specs.Table.{Table}
use Rattle.shade_values.specs.Takes.{MemberOf, ElementOf}
use Rattle.shade_values.specs.Typed.{IsValueOf}
use Rattle.shade_core.specs.declared.module.BuiltinInput.{BuiltinInput}
use Rattle.shade_core.specs.declared.module.BuiltinInput.TheVariants.{LocalId, LocalIndex, GlobalId, GroupId, GroupCount}
use Rattle.shade_core.specs.declared.module.CoreParam.{CoreParam}
use Rattle.shade_core.specs.declared.module.CoreParam.TheVariants as parameter
use Rattle.shade_core.specs.declared.module.CoreFunction.{CoreFunction}
use Rattle.shade_core.specs.declared.module.CoreModule.{CoreModule}
use Rattle.shade_core.specs.declared.module.Root.{Root}
use Rattle.shade_core.specs.declared.statement.Operand.{Operand}
use Rattle.shade_core.specs.declared.statement.Operand.TheVariants.{Constant, Param, Temp}
use Rattle.shade_core.specs.declared.statement.Base.{Base}
use Rattle.shade_core.specs.declared.statement.Base.TheVariants.{Local, Module, Pointee}
use Rattle.shade_core.specs.declared.statement.ViewStep.{ViewStep}
use Rattle.shade_core.specs.declared.statement.ViewStep.TheVariants.{Member, Index}
use Rattle.shade_core.specs.declared.statement.View.{View}
use Rattle.shade_core.specs.Types.{type_at, spelled, IsHeld}

-- by statement number, the type of the value that it gives, if it gives one
abbrev pub ValueTypes : Type 0
ValueTypes = List (Option ShadeType)

-- the index is a scalar, and the other inputs have a part for each direction
abbrev pub input_type : BuiltinInput → ShadeType
input_type LocalIndex = type.Plain scalar.U32
input_type LocalId = type.Vector 3 scalar.U32
input_type GlobalId = type.Vector 3 scalar.U32
input_type GroupId = type.Vector 3 scalar.U32
input_type GroupCount = type.Vector 3 scalar.U32

-- a parameter that is a value
abbrev pub ParamIs : Table → CoreParam → ShadeType → Type 0
ParamIs t (parameter.Plain id) ty = type_at t id ≡ Some ty
ParamIs t (parameter.Input which) ty = (input_type which ≡ ty)
ParamIs t (parameter.Pointer in_space id) ty = ⊥

abbrev pub SomeParamIs : Table → Option CoreParam → ShadeType → Type 0
SomeParamIs t None ty = ⊥
SomeParamIs t (Some p) ty = ParamIs t p ty

-- what an operand is, and its type
abbrev pub OperandHas : CoreModule → CoreFunction → ValueTypes → Operand → ShadeType → Type 0
OperandHas shader f values (Constant id value) ty = (type_at shader.types id ≡ Some ty) × IsValueOf (spelled shader.types ty) value
OperandHas shader f values (Param i) ty = SomeParamIs shader.types (slice_get f.params i) ty
OperandHas shader f values (Temp n) ty = slice_get values n ≡ Some (Some ty)

-- an operand of a type, which the table holds
pub record OperandIs (shader : CoreModule) (f : CoreFunction) (values : ValueTypes) (operand : Operand) (ty : ShadeType) : Type 0 where
  pub has : OperandHas shader f values operand ty
  pub held : IsHeld shader.types ty

abbrev pub OperandsAre : CoreModule → CoreFunction → ValueTypes → List Operand → List ShadeType → Type 0
OperandsAre shader f values [] [] = Unit {0}
OperandsAre shader f values (operand ∷ operands) (ty ∷ types) = OperandIs shader f values operand ty × OperandsAre shader f values operands types
OperandsAre shader f values _ _ = ⊥

-- ---- views

-- where a view begins: the space, the access and the type
pub record Origin : Type 0 where
  pub space : Space
  pub access : Access
  pub type : ShadeType

abbrev pub LocalIs : Table → Option TypeId → Origin → Type 0
LocalIs t None o = ⊥
LocalIs t (Some id) o = (type_at t id ≡ Some o.type) × (o.space ≡ space.Function) × (o.access ≡ ReadWrite)

abbrev pub RootIs : Table → Option Root → Origin → Type 0
RootIs t None o = ⊥
RootIs t (Some root) o = (type_at t root.ty ≡ Some o.type) × (o.space ≡ root.space) × (o.access ≡ root.access)

-- what a pointer type leads to
abbrev pub PointsTo : Table → Option ShadeType → Origin → Type 0
PointsTo t (Some (type.Pointer in_space id access)) o = (type_at t id ≡ Some o.type) × (o.space ≡ in_space) × (o.access ≡ access)
PointsTo t _ o = ⊥

abbrev pub PointeeIs : Table → Option CoreParam → Origin → Type 0
PointeeIs t (Some (parameter.Pointer in_space id)) o = PointsTo t (type_at t id) o
PointeeIs t _ o = ⊥

abbrev pub BeginsAt : CoreModule → CoreFunction → Base → Origin → Type 0
BeginsAt shader f (Local i) o = LocalIs shader.types (slice_get f.locals i) o
BeginsAt shader f (Module i) o = RootIs shader.types (slice_get shader.roots i) o
BeginsAt shader f (Pointee i) o = PointeeIs shader.types (slice_get f.params i) o

-- an element of an array, runtime-sized too, or of a vector
abbrev pub PartOf : Table → ShadeType → ShadeType → Type 0
PartOf t (type.RuntimeArray element) result = type_at t element ≡ Some result
PartOf t from result = ElementOf t from result

-- an index is i32 or u32
abbrev pub IsIndex : ShadeType → Type 0
IsIndex ty = (ty ≡ type.Plain scalar.I32) ⊎ (ty ≡ type.Plain scalar.U32)

abbrev pub LeadsTo : CoreModule → CoreFunction → ValueTypes → ViewStep → ShadeType → ShadeType → Type 0
LeadsTo shader f values (Member k) from to = MemberOf shader.types k from to
LeadsTo shader f values (Index at) from to = (ty : ShadeType) × OperandIs shader f values at ty × IsIndex ty × PartOf shader.types from to

-- a step to a part, whose type the table holds
abbrev pub StepIs : CoreModule → CoreFunction → ValueTypes → ViewStep → ShadeType → ShadeType → Type 0
StepIs shader f values step from to = LeadsTo shader f values step from to × Contains shader.types.types to

abbrev pub StepsLead : CoreModule → CoreFunction → ValueTypes → List ViewStep → ShadeType → ShadeType → Type 0
StepsLead shader f values [] from to = from ≡ to
StepsLead shader f values (step ∷ steps) from to = (mid : ShadeType) × StepIs shader f values step from mid × StepsLead shader f values steps mid to

-- what a view names: a place of a space, with an access and a type
pub record ViewIs (shader : CoreModule) (f : CoreFunction) (values : ValueTypes) (view : View) (o : Origin) : Type 0 where
  pub begin : ShadeType
  pub base : BeginsAt shader f view.base (record { space = o.space; access = o.access; type = begin })
  pub steps : StepsLead shader f values view.steps begin o.type
