-- What is kept of a type's depth is the depth of its shape.
use Rattle.std.proofs.Common.{◌≡◌, refl, sym, ap, ◌∙◌, ℕ, ◌+◌, ◌<◌, ◌≤◌, add-one, List, [], ◌∷◌, ◌++◌, length, map, fold, take, Some, arith}
use Rattle.std.specs.Prelude.{min, max, slice_get}
use Rattle.std.proofs.lemmas.List.{map-append, take_all}
use Rattle.std.proofs.lemmas.List.Sums.{fold-append}
use Rattle.std.proofs.lemmas.Option.{get_or_from_slice_get}
use Rattle.std.proofs.Math.Seq.{take-suc}
use Rattle.std.proofs.Math.ListN.{get_or-map as get_or-map_same}
use Rattle.shade_values.specs.declared.types.ShadeType.{ShadeType}
use Rattle.shade_values.specs.declared.types.ShadeType.TheVariants as type
use Rattle.shade_values.specs.declared.types.TypeId.{TypeId}
use Rattle.shade_values.specs.Table.{Table, StructView, members_at}
use Rattle.shade_values.specs.Shape.{Shape, pointer, shape_at, member_shapes, spell, with_spelling, shapes}
use Rattle.shade_core.specs.Types.{nesting, nestings}
use Rattle.shade_shape.specs.Depths.{depth_of, depth_in, deepest, depth_by}

kept_next : (x : ℕ) → min 256 (x + 1) ≡ min 256 (min 256 x + 1)
kept_next x = omega arith

kept_max : (x y : ℕ) → min 256 (max x y) ≡ max (min 256 x) (min 256 y)
kept_max x y = omega arith

pub depth_at : (known : List Shape) (id : TypeId) → depth_in (map depth_of known) id ≡ depth_of (shape_at known id)
depth_at known id = get_or-map_same depth_of known id.0 pointer

depth_members : (known : List Shape) (ms : List (List ℕ × TypeId)) → min 256 (nestings (member_shapes known ms)) ≡ deepest (map depth_of known) ms
depth_members known [] = refl
depth_members known (m ∷ ms) =
    kept_max (nesting (shape_at known m.1)) (nestings (member_shapes known ms)) ∙ (λ i. max (sym (depth_at known m.1) i) (depth_members known ms i))

pub depth_spell : (structs : List StructView) (known : List Shape) (ty : ShadeType) → depth_of (spell structs known ty) ≡ depth_by (map depth_of known) structs ty
depth_spell structs known (type.Plain s) = refl
depth_spell structs known (type.Vector parts s) = refl
depth_spell structs known (type.Array element count) = kept_next (nesting (shape_at known element)) ∙ ap (λ d. min 256 (d + 1)) (sym (depth_at known element))
depth_spell structs known (type.RuntimeArray element) = kept_next (nesting (shape_at known element)) ∙ ap (λ d. min 256 (d + 1)) (sym (depth_at known element))
depth_spell structs known (type.Atomic s) = refl
depth_spell structs known (type.Struct number) =
    kept_next (nestings (member_shapes known (members_at structs number))) ∙ ap (λ d. min 256 (d + 1)) (depth_members known (members_at structs number))
depth_spell structs known (type.Exchanged s) = refl
depth_spell structs known (type.Pointer in_space pointee access) = refl

-- one more type
pub depths_step : (t : Table) (n : ℕ) (ty : ShadeType) (depths new : List ℕ) → n < length t.types → slice_get t.types n ≡ Some ty → depths ≡ map depth_of (fold (with_spelling t.structs) [] (take n t.types))
    → new ≡ depths ++ depth_by depths t.structs ty ∷ [] → new ≡ map depth_of (fold (with_spelling t.structs) [] (take (n + 1) t.types))
depths_step t n ty depths new lt at are is =
    let known = fold (with_spelling t.structs) [] (take n t.types) in
    let front : take (n + 1) t.types ≡ take n t.types ++ ty ∷ [] = ap (λ k. take k t.types) (add-one n) ∙ (take-suc t.types n ty lt ∙ ap (λ x. take n t.types ++ x ∷ []) (get_or_from_slice_get t.types n ty ty at)) in
    let spelled : fold (with_spelling t.structs) [] (take (n + 1) t.types) ≡ known ++ spell t.structs known ty ∷ [] =
    ap (fold (with_spelling t.structs) []) front ∙ fold-append (with_spelling t.structs) [] (take n t.types) (ty ∷ []) in
    is ∙ (ap (λ f. f ++ depth_by f t.structs ty ∷ []) are ∙ (ap (λ x. map depth_of known ++ x ∷ []) (sym (depth_spell t.structs known ty))
    ∙ (sym (map-append depth_of known (spell t.structs known ty ∷ [])) ∙ ap (map depth_of) (sym spelled))))

pub depths_end : (t : Table) (n : ℕ) (depths : List ℕ) → length t.types ≤ n → depths ≡ map depth_of (fold (with_spelling t.structs) [] (take n t.types)) → depths ≡ map depth_of (shapes t)
depths_end t n depths le are = are ∙ ap (λ x. map depth_of (fold (with_spelling t.structs) [] x)) (take_all n t.types le)
