-- Rule: what is found of a node is known from then on in place of what was known of it, and of no other node anything else. Its type has an
-- id, new or not. Where nothing is found, all stays as it was: a node of which more is asked keeps what it is.
use Rattle.std.specs.Prelude.{◌≡◌, ℕ, List, Option, Some, slice_get, slice_set, Contains}
use Rattle.shade_base.specs.declared.place.Place.{Place}
use Rattle.shade_values.specs.declared.types.ShadeType.{ShadeType}
use Rattle.shade_values.specs.declared.types.TypeId.{TypeId}
use Rattle.shade_values.specs.Table.{Table, with_type}
use Rattle.shade_values.specs.Shape.{spell, shapes}
use Rattle.shade_values.specs.Layouts.{IsLarge}
use Rattle.shade_values.specs.Sound.{Grows, IsOf}
use Rattle.shade_known.specs.declared.known.What.{What}
use Rattle.shade_known.specs.declared.known.What.TheVariants as what
use Rattle.shade_known.specs.declared.known.Found.{Found}
use Rattle.shade_known.specs.declared.known.Found.TheVariants as found
use Rattle.shade_known.specs.declared.known.Known.{Known}
use Rattle.shade_known.specs.declared.fault.TypingFault.{TypingFault}
use Rattle.shade_known.specs.declared.fault.TypingFault.TheVariants as fault
use Rattle.shade_known.specs.declared.fault.TypeRule.TheVariants as rule

-- the one id of a type: a table that has the type stays as it is, and one that lacks it gets it behind all others
pub record IsIdOf (old new : Table) (ty : ShadeType) (id : TypeId) : Type 0 where
  pub names : slice_get new.types id.0 ≡ Some ty
  pub only : (n : ℕ) → slice_get new.types n ≡ Some ty → n ≡ id.0
  pub grows : Grows old new
  pub known : Contains old.types ty → new ≡ old
  pub added : ¬ Contains old.types ty → new ≡ with_type old ty

abbrev pub with_fact : List (Option What) → ℕ → What → List (Option What)
with_fact facts node w = slice_set facts node (Some w)

abbrev pub Keeps : Known → ℕ → Found → Known → Type 0
Keeps old node (found.Value ty op value) new =
    (id : TypeId) × IsIdOf old.types new.types ty id × (new.facts ≡ with_fact old.facts node (what.Value id op value))
Keeps old node (found.Reference ty space access part value) new =
    (id : TypeId) × IsIdOf old.types new.types ty id × (new.facts ≡ with_fact old.facts node (what.Reference id space access part value))
Keeps old node (found.Type ty bad) new = (id : TypeId) × IsIdOf old.types new.types ty id × (new.facts ≡ with_fact old.facts node (what.Type id bad))
Keeps old node (found.Known w) new = new ≡ record { types = old.types; facts = with_fact old.facts node w }
Keeps old node found.Nothing new = new ≡ old

-- what it says of the type that is found
abbrev pub OfFound : (ShadeType → Type 0) → Type 0 → Found → Type 0
OfFound P Else (found.Value ty op value) = P ty
OfFound P Else (found.Reference ty space access part value) = P ty
OfFound P Else (found.Type ty bad) = P ty
OfFound P Else (found.Known w) = Else
OfFound P Else found.Nothing = Else

-- what the type that is found is made of is in the table
abbrev pub IsFoundOf : Table → Found → Type 0
IsFoundOf t f = OfFound (IsOf t) (Unit {0}) f

-- a type of too many bytes
abbrev pub IsLargeIn : Table → ShadeType → Type 0
IsLargeIn t ty = IsLarge (spell t.structs (shapes t) ty)

abbrev pub IsFoundLarge : Table → Found → Type 0
IsFoundLarge t f = OfFound (IsLargeIn t) ⊥ f

-- why a type gets no id: it has too many bytes, or there is no memory
abbrev pub IsUnkept : Place → Type 0 → TypingFault → Type 0
IsUnkept place Large (fault.Rule at broken) = (fault.Rule at broken ≡ fault.Rule place rule.Size) × Large
IsUnkept place Large (fault.OutOfProfile at word) = ⊥
IsUnkept place Large (fault.Constant f) = ⊥
IsUnkept place Large fault.NoMemory = Unit {0}
