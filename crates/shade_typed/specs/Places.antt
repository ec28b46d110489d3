-- What is asked of the operands and the views of a statement, by what is known there.
use Rattle.std.specs.Prelude.{◌≡◌, ℕ, List, Option, Some, option_map, Contains, IfSome}
use Rattle.shade_values.specs.declared.types.ShadeType.{ShadeType}
use Rattle.shade_values.specs.declared.types.TypeId.{TypeId}
use Rattle.shade_values.specs.Table.{Table}
use Rattle.shade_values.specs.Takes.{MemberOf, ElementOf}
use Rattle.shade_core.specs.declared.module.CoreParam.{CoreParam}
use Rattle.shade_core.specs.declared.statement.Operand.{Operand}
use Rattle.shade_core.specs.declared.statement.View.{View}
use Rattle.shade_core.specs.declared.statement.Base.{Base}
use Rattle.shade_core.specs.declared.statement.ViewStep.{ViewStep}
use Rattle.shade_core.specs.declared.statement.Argument.{Argument}
use Rattle.shade_core.specs.Fits.{ArgumentFits, ArgumentsFit, Loads}
use Rattle.shade_core.specs.Types.{IsHeld, type_at}
use Rattle.shade_core.specs.Views.{BeginsAt, OperandIs, OperandsAre, Origin, PartOf, ParamIs, StepIs, StepsLead, ViewIs}
use Rattle.shade_typed.specs.declared.places.Place.{Place}
use Rattle.shade_typed.specs.Contexts.{ContextView}

-- ---- by what is known

abbrev pub HasType : ContextView → Operand → ShadeType → Type 0
HasType c operand ty = OperandIs c.shader c.function c.values operand ty

abbrev pub HaveTypes : ContextView → List Operand → List ShadeType → Type 0
HaveTypes c operands types = OperandsAre c.shader c.function c.values operands types

-- an operand of a type that is wanted, if one is
abbrev pub HasWanted : ContextView → Operand → Option ShadeType → Type 0
HasWanted c operand wanted = (ty : ShadeType) × (wanted ≡ Some ty) × HasType c operand ty

abbrev pub Begins : ContextView → Base → Origin → Type 0
Begins c base o = BeginsAt c.shader c.function base o

abbrev pub Steps : ContextView → ViewStep → ShadeType → ShadeType → Type 0
Steps c step from to = StepIs c.shader c.function c.values step from to

abbrev pub Lead : ContextView → List ViewStep → ShadeType → ShadeType → Type 0
Lead c steps from to = StepsLead c.shader c.function c.values steps from to

abbrev pub Names : ContextView → View → Origin → Type 0
Names c view o = ViewIs c.shader c.function c.values view o

-- a view of a value
abbrev pub NamesValue : ContextView → View → Origin → Type 0
NamesValue c view o = Loads c.shader c.function c.values view o

abbrev pub Suits : ContextView → Argument → CoreParam → Type 0
Suits c argument param = ArgumentFits c.shader c.function c.values argument param

abbrev pub AllSuit : ContextView → List Argument → List CoreParam → Type 0
AllSuit c arguments params = ArgumentsFit c.shader c.function c.values arguments params

-- ---- types

-- the type at an id, whose values a shader may hold
abbrev pub IsHeldAt : Table → TypeId → ShadeType → Type 0
IsHeldAt t id ty = (type_at t id ≡ Some ty) × IsHeld t ty

-- a parameter that is a value, of a type that the table has
abbrev pub IsParam : Table → CoreParam → ShadeType → Type 0
IsParam t param ty = ParamIs t param ty × IsHeld t ty

-- a part that the table has
abbrev pub HasMember : Table → ShadeType → ℕ → ShadeType → Type 0
HasMember t from k to = MemberOf t k from to × Contains t.types to

abbrev pub HasElement : Table → ShadeType → ShadeType → Type 0
HasElement t from to = ElementOf t from to × Contains t.types to

abbrev pub HasPart : Table → ShadeType → ShadeType → Type 0
HasPart t from to = PartOf t from to × Contains t.types to

-- ---- places

abbrev pub origin_of : Place → Origin
origin_of place = record { space = place.space; access = place.access; type = place.at.ty }

abbrev pub origin_in : Option Place → Option Origin
origin_in found = option_map origin_of found

abbrev pub PlaceStands : Table → Option Place → Type 0
PlaceStands t found = IfSome found (λ place. type_at t place.at.id ≡ Some place.at.ty)
