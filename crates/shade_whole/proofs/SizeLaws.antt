-- The bytes of values, by the ids of their types; the types of locals.
use Rattle.std.proofs.Common.{◌≡◌, sym, ap, subst, ◌∙◌, ℕ, ◌+◌, ◌<◌, List, [], ◌∷◌, ◌++◌, length, get_or, drop, map, Option, None, Some, arith}
use Rattle.std.specs.Prelude.{All, sum}
use Rattle.std.specs.List.{flat_map}
use Rattle.std.specs.Option.{option_to_list}
use Rattle.std.proofs.lemmas.List.Concat.{flat_map-cons}
use Rattle.std.proofs.lemmas.List.Sums.{sum_by-cons}
use Rattle.std.proofs.lemmas.List.Elements.{All-weaker}
use Rattle.std.proofs.lemmas.Option.{slice_get-get_or, slice_get_within}
use Rattle.shade_values.specs.declared.types.Scalar.TheVariants as scalar
use Rattle.shade_values.specs.declared.types.ShadeType.{ShadeType}
use Rattle.shade_values.specs.declared.types.ShadeType.TheVariants as type
use Rattle.shade_values.specs.declared.types.TypeId.{TypeId}
use Rattle.shade_values.specs.Layouts.{layout}
use Rattle.shade_values.specs.Sound.{IsSound}
use Rattle.shade_values.specs.Table.{Table}
use Rattle.shade_values.proofs.ShapeLaws.{shape_is}
use Rattle.shade_core.specs.declared.module.CoreFunction.{CoreFunction}
use Rattle.shade_core.specs.HasShape.{IsSignature}
use Rattle.shade_core.specs.Limits.{size_at, size_of, value_bytes}
use Rattle.shade_core.specs.Types.{NamesHeld, type_at}
use Rattle.shade_core.specs.Views.{ValueTypes}
use Rattle.shade_core.proofs.CodeLaws.{drop_here}
use Rattle.shade_typed.specs.Contexts.{IdStands, value_type, value_types}

-- of one value, if there is one
abbrev pub maybe_bytes : Table → Option ShadeType → ℕ
maybe_bytes t v = sum (map (size_of t) (option_to_list v))

one : (n : ℕ) → sum (n ∷ []) ≡ n
one n = sum_by-cons (λ x. x) n [] ∙ omega arith

first_bytes : (t : Table) (v : Option ShadeType) (vs : ValueTypes) → value_bytes t (v ∷ vs) ≡ maybe_bytes t v + value_bytes t vs
first_bytes t v vs = ap (λ types. sum (map (size_of t) types)) (flat_map-cons option_to_list v vs) ∙ by_value v
  where
    by_value : (v : Option ShadeType) → sum (map (size_of t) (option_to_list v ++ flat_map option_to_list vs)) ≡ maybe_bytes t v + value_bytes t vs
    by_value None = let e : value_bytes t vs ≡ 0 + value_bytes t vs = omega arith in e
    by_value (Some ty) = sum_by-cons (λ x. x) (size_of t ty) (map (size_of t) (flat_map option_to_list vs)) ∙ ap (λ n. n + value_bytes t vs) (sym (one (size_of t ty)))

-- of the type at an id
pub held_size : (t : Table) (id : TypeId) → IsSound t → id.0 < length t.types → size_at t id ≡ maybe_bytes t (type_at t id)
held_size t id sound lt =
    let ty = get_or t.types id.0 (type.Plain scalar.Bool) in
    let at : type_at t id ≡ Some ty = slice_get-get_or t.types id.0 (type.Plain scalar.Bool) lt in
    ap (λ s. (layout s).size) (shape_is t sound.over id.0 ty at) ∙ (sym (one (size_of t ty)) ∙ ap (maybe_bytes t) (sym at))

-- one more value
pub bytes_more : (t : Table) (ids : List (Option TypeId)) (i : ℕ) (id : Option TypeId) (bytes now new all : ℕ) → i < length ids → id ≡ get_or ids i id → now ≡ maybe_bytes t (value_type t id) → new ≡ bytes + now
    → bytes + value_bytes t (value_types t (drop i ids)) ≡ all → new + value_bytes t (value_types t (drop (i + 1) ids)) ≡ all
bytes_more t ids i id bytes now new all lt is here sum_is before =
    let front : value_bytes t (value_types t (drop i ids)) ≡ maybe_bytes t (value_type t id) + value_bytes t (value_types t (drop (i + 1) ids)) =
    ap (λ xs. value_bytes t (value_types t xs)) (drop_here ids i id lt is) ∙ first_bytes t (value_type t id) (value_types t (drop (i + 1) ids)) in
    omega (arith, here, sum_is, before, front)

pub id_bytes : (t : Table) (id : TypeId) (maybe : Option TypeId) (size : ℕ) → IsSound t → maybe ≡ Some id → IdStands t maybe → size ≡ size_at t id → size ≡ maybe_bytes t (value_type t maybe)
id_bytes t id maybe size sound is stands e = e ∙ (held_size t id sound (subst (IdStands t) is stands) ∙ ap (λ m. maybe_bytes t (value_type t m)) (sym is))

-- locals have types of the table
pub known_locals : (t : Table) (f : CoreFunction) → IsSignature t f → All (λ id. id.0 < length t.types) f.locals
known_locals t f s = All-weaker (NamesHeld t) (λ id. id.0 < length t.types) (λ id h. slice_get_within t.types id.0 h.0 h.1) f.locals s.locals
