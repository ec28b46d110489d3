-- What a table of types is asked, from what is kept of its types.
use Rattle.std.proofs.Common.{◌≡◌, refl, sym, ap, subst, ◌∙◌, ℕ, ◌+◌, ◌<◌, ◌≤◌, List, length, map, get_or, take, Some, inl, inr, arith}
use Rattle.std.specs.Prelude.{◌↔◌, min, slice_get, All, Contains, IsTrue}
use Rattle.std.proofs.lemmas.Bool.{cases_lt}
use Rattle.std.proofs.lemmas.List.{length-map}
use Rattle.std.proofs.lemmas.List.Elements.{All-from_get_or, All-get_or}
use Rattle.std.proofs.lemmas.Option.{slice_get-get_or, slice_get_within, get_or_from_slice_get}
use Rattle.shade_values.specs.declared.types.Scalar.{Scalar}
use Rattle.shade_values.specs.declared.types.Scalar.TheVariants as scalar
use Rattle.shade_values.specs.declared.types.ShadeType.{ShadeType}
use Rattle.shade_values.specs.declared.types.ShadeType.TheVariants as type
use Rattle.shade_values.specs.declared.types.TypeId.{TypeId}
use Rattle.shade_values.specs.Table.{Table}
use Rattle.shade_values.specs.Shape.{shape_at, shapes}
use Rattle.shade_values.specs.Sound.{IsSound}
use Rattle.shade_values.proofs.ShapeLaws.{length-shapes, shape_is}
use Rattle.shade_core.specs.Types.{nesting, type_at, spelled}
use Rattle.shade_shape.specs.Depths.{depth_of}
use Rattle.shade_shape.specs.Tables.{AreNested, HasScalar, HasScalars}
use Rattle.shade_shape.proofs.DepthLaws.{depth_at}

-- what is kept of the type at an id
kept_depth : (t : Table) → IsSound t → (depths : List ℕ) → depths ≡ map depth_of (shapes t) → (id : TypeId) (ty : ShadeType) → type_at t id ≡ Some ty
    → get_or depths id.0 0 ≡ min 256 (nesting (spelled t ty))
kept_depth t sound depths are id ty at =
    ap (λ ds. get_or ds id.0 0) are ∙ (depth_at (shapes t) id ∙ ap (λ s. min 256 (nesting s)) (shape_is t sound.over id.0 ty at))

as_many : (t : Table) (depths : List ℕ) → depths ≡ map depth_of (shapes t) → length depths ≡ length t.types
as_many t depths are = ap length are ∙ (length-map (shapes t) depth_of ∙ length-shapes t)

pub nested_tells : (t : Table) → IsSound t → (depths : List ℕ) → depths ≡ map depth_of (shapes t) → All (λ d. d < 256) depths ↔ AreNested t
nested_tells t sound depths are = (
  λ all id ty at.
      let within : id.0 < length depths = omega (arith, as_many t depths are, slice_get_within t.types id.0 ty at) in
      omega (arith, All-get_or (λ d. d < 256) depths id.0 0 within all, kept_depth t sound depths are id ty at),
  λ nested. All-from_get_or (λ d. d < 256) depths 0 (λ i lt.
      let id : TypeId = record { 0 = i } in
      let at : type_at t id ≡ Some (get_or t.types i (type.Plain scalar.Bool)) = slice_get-get_or t.types i (type.Plain scalar.Bool) (omega (arith, lt, as_many t depths are)) in
      omega (arith, nested id _ at, kept_depth t sound depths are id _ at)),
)

-- all scalars
pub each_scalar : (t : Table) → HasScalar t scalar.Bool → HasScalar t scalar.I32 → HasScalar t scalar.U32 → HasScalar t scalar.Abstract → HasScalars t
each_scalar t b i u a scalar.Bool = b
each_scalar t b i u a scalar.I32 = i
each_scalar t b i u a scalar.U32 = u
each_scalar t b i u a scalar.Abstract = a

-- a type at one of the first places, and at none of them
pub found_at : (types : List ShadeType) (n : ℕ) (x ty : ShadeType) → slice_get types n ≡ Some x → x ≡ ty → Contains types ty
found_at types n x ty at e = (n, slice_get_within types n x at, get_or_from_slice_get types n x ty at ∙ e)

pub none_more : (types : List ShadeType) (n : ℕ) (x ty : ShadeType) → slice_get types n ≡ Some x → (x ≡ ty → ⊥) → ((k : ℕ) → k < n → slice_get types k ≡ Some ty → ⊥) → (k : ℕ) → k < n + 1 → slice_get types k ≡ Some ty → ⊥
none_more types n x ty at other none k lt here = by_place (omega (arith, lt))
  where
    by_place : k ≤ n → ⊥
    by_place le = elim (cases_lt k n) [
      | inl below ↦ none k below here
      | inr above ↦
          let same : k ≡ n = omega (arith, le, above) in
          other (let e : Some x ≡ Some ty = sym at ∙ (ap (slice_get types) (sym same) ∙ here) in cc)
    ]

pub none_all : (types : List ShadeType) (n : ℕ) (ty : ShadeType) → length types ≤ n → ((k : ℕ) → k < n → slice_get types k ≡ Some ty → ⊥) → Contains types ty → ⊥
none_all types n ty le none has = none has.0 (omega (arith, has.1, le)) (slice_get-get_or types has.0 ty has.1 ∙ ap Some has.2)
