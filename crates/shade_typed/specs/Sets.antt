-- What statements without parts take, by what is known there.
use Rattle.std.specs.Prelude.{◌≡◌, ℕ, false, List, [], ◌∷◌, map, Option, Some, All, Contains, option_map, slice_get}
use Rattle.std.specs.Option.{option_to_list}
use Rattle.shade_values.specs.declared.types.ShadeType.{ShadeType}
use Rattle.shade_values.specs.declared.types.TypeId.{TypeId}
use Rattle.shade_values.specs.declared.op.Op.{Op}
use Rattle.shade_values.specs.Table.{Table, members_at}
use Rattle.shade_values.specs.Takes.{Indexed, Made, Names, NamesAll, Swizzled, Takes}
use Rattle.shade_core.specs.Atomics.{is_atomic}
use Rattle.shade_core.specs.Code.{Plain}
use Rattle.shade_core.specs.Fits.{Fits, PlainFits, LeaveFits}
use Rattle.shade_core.specs.Standing.{Head}
use Rattle.shade_core.specs.Types.{IsHeld}
use Rattle.shade_overload.specs.declared.builtin.Builtin.{Builtin}
use Rattle.shade_typed.specs.declared.rule.Rule.{Rule}
use Rattle.shade_typed.specs.Contexts.{ContextView}
use Rattle.shade_typed.specs.Rules.{OneMember, RowTakes, RuleTakes}

-- ---- by what is known

abbrev pub FitsPlain : ContextView → Plain → Option ShadeType → Type 0
FitsPlain c act result = PlainFits c.shader c.function c.values act result

abbrev pub FitsHead : ContextView → Head → Option ShadeType → Type 0
FitsHead c head result = Fits c.shader c.function c.values head result

abbrev pub MayLeave : ContextView → Head → Type 0
MayLeave c head = LeaveFits c.shader c.function c.values head

-- ---- operations on values

-- what an operation on values gives of some types
abbrev pub Gives : Table → Op → List ShadeType → ShadeType → Type 0
Gives t op args ty = (is_atomic op ≡ false) × Takes t op args (Some ty) × IsHeld t ty

-- there is just one type
abbrev pub IsOne : List ShadeType → ShadeType → Type 0
IsOne types ty = types ≡ ty ∷ []

-- a value that a row gives
abbrev pub RowValue : Table → Builtin → List ShadeType → ShadeType → Type 0
RowValue t b args ty = RowTakes t b args (Some ty)

-- what a rule gives, which the table has
abbrev pub RuleGives : Table → Rule → List ShadeType → ShadeType → Type 0
RuleGives t rule args ty = RuleTakes t rule args ty × Contains t.types ty

abbrev pub MakesOf : Table → TypeId → List ShadeType → ShadeType → Type 0
MakesOf t id args ty = Made t id args (Some ty) × Contains t.types ty

abbrev pub MemberGives : Table → ℕ → List ShadeType → ShadeType → Type 0
MemberGives t k args ty = OneMember t k args ty × Contains t.types ty

abbrev pub IndexGives : Table → List ShadeType → ShadeType → Type 0
IndexGives t args ty = Indexed t args (Some ty) × Contains t.types ty

abbrev pub SwizzleGives : Table → ℕ → List ℕ → List ShadeType → ShadeType → Type 0
SwizzleGives t n letters args ty = Swizzled n letters args (Some ty) × Contains t.types ty

-- the types of the members of a struct
abbrev pub AreMembersOf : Table → ℕ → List ShadeType → Type 0
AreMembersOf t number args = NamesAll t (map (λ m. m.1) (members_at t.structs number)) args

-- the member at a place has a type
abbrev pub IsMemberAt : Table → List (List ℕ × TypeId) → ℕ → ShadeType → Type 0
IsMemberAt t members place ty = (id : TypeId) × (option_map (λ m. m.1) (slice_get members place) ≡ Some id) × Names t id ty

-- ---- results

-- what is given, if a value is, which the table has
abbrev pub IsGiven : Table → Option ShadeType → Option ShadeType → Type 0
IsGiven t wanted result = (wanted ≡ result) × All (Contains t.types) (option_to_list result)
