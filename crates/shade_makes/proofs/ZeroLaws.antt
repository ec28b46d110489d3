-- Zero values of the types of a table, by what the types are made of.
use Rattle.std.proofs.Common.{◌≡◌, ℕ, ◌≤◌, List, [], ◌∷◌, length, map, Some, slice_get, Result, IfOk, refl, sym, ap, ◌∙◌, arith}
use Rattle.std.proofs.lemmas.List.{get_or_past}
use Rattle.std.proofs.lemmas.Result.{IfOk-weaker}
use Rattle.shade_values.specs.declared.types.ShadeType.{ShadeType}
use Rattle.shade_values.specs.declared.types.TypeId.{TypeId}
use Rattle.shade_values.specs.declared.value.Value.{Value}
use Rattle.shade_values.specs.Parts.{no_value}
use Rattle.shade_values.specs.Shape.{Shape, pointer, shape_at, member_shapes, spell, shapes, shape_of}
use Rattle.shade_values.specs.Sound.{IsSound}
use Rattle.shade_values.specs.Table.{Table}
use Rattle.shade_values.proofs.ShapeLaws.{length-shapes, shape_is}
use Rattle.shade_makes.specs.Zeros.{zero_of, zeros_of}

-- of the type at an id
pub zero_at : (t : Table) → IsSound t → (id : TypeId) (ty : ShadeType) → slice_get t.types id.0 ≡ Some ty → zero_of (spell t.structs (shapes t) ty) ≡ zero_of (shape_of t id)
zero_at t sound id ty at = sym (ap zero_of (shape_is t sound.over id.0 ty at))

-- of what a call makes of the type at an id
pub zero_made : {E : Type 0} (t : Table) → IsSound t → (id : TypeId) (ty : ShadeType) → slice_get t.types id.0 ≡ Some ty → (r : Result Value E)
    → IfOk r (λ v. v ≡ zero_of (spell t.structs (shapes t) ty)) → IfOk r (λ v. v ≡ zero_of (shape_of t id))
zero_made t sound id ty at r made =
    IfOk-weaker r (λ v. v ≡ zero_of (spell t.structs (shapes t) ty)) (λ v. v ≡ zero_of (shape_of t id)) (λ v e. e ∙ zero_at t sound id ty at) made

-- where the table ends before it
pub zero_past : (t : Table) (id : TypeId) → length t.types ≤ id.0 → no_value ≡ zero_of (shape_of t id)
zero_past t id past = sym (ap zero_of (get_or_past (shapes t) id.0 pointer (omega (arith, length-shapes t, past))))

-- of the members of a struct
pub zeros_each : (known : List Shape) (ms : List (List ℕ × TypeId)) → map (λ m. zero_of (shape_at known m.1)) ms ≡ zeros_of (member_shapes known ms)
zeros_each known [] = refl
zeros_each known (m ∷ ms) = ap (λ vs. zero_of (shape_at known m.1) ∷ vs) (zeros_each known ms)
