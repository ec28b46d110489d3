-- The shapes of a table's types.
use Rattle.std.proofs.Common.{◌≡◌, refl, sym, ap, subst, ◌∙◌, ℕ, zero, suc, ◌+◌, ◌<◌, false, ◌&&◌, List, [], ◌∷◌, ◌++◌, length, map, fold, Some, slice_get, get_or, arith, add-zero, zero-add, length-append, append_assoc, append-nil}
use Rattle.std.specs.List.{list_all}
use Rattle.std.proofs.lemmas.List.{get_or-map, get_or_default, get_or_append_left, get_or_at, length-map}
use Rattle.std.proofs.lemmas.List.Sums.{fold-append}
use Rattle.std.proofs.Math.ListN.{get_or-map as get_or-map_same}
use Rattle.shade_values.specs.declared.types.ShadeType.{ShadeType}
use Rattle.shade_values.specs.declared.types.ShadeType.TheVariants.{Plain, Vector, Array, RuntimeArray, Atomic, Struct, Exchanged, Pointer}
use Rattle.shade_values.specs.declared.types.TypeId.{TypeId}
use Rattle.shade_values.specs.declared.entry.Entry.{Entry}
use Rattle.shade_values.specs.Table.{Table, StructView, members_at, no_struct, with_type, with_struct}
use Rattle.shade_values.specs.Shape.{Shape, array, runtime_array, pointer, structure, member, shape_at, member_shapes, spell, with_spelling, shapes}
use Rattle.shade_values.specs.Layouts.{layout, layouts, is_loadable, are_loadable, bytes, array_layout, struct_layout}
use Rattle.shade_values.specs.Sound.{IsOver, AreKnown}
use Rattle.shade_values.specs.Kept.{IsKept, table_of, types_of, layout_in, load_in, layout_by, loads_by}

length-spelled : (structs : List StructView) (known : List Shape) (types : List ShadeType) → length (fold (with_spelling structs) known types) ≡ length known + length types
length-spelled structs known [] = sym (add-zero _)
length-spelled structs known (ty ∷ types) =
    length-spelled structs (with_spelling structs known ty) types ∙ (omega (arith, length-append known (spell structs known ty ∷ [])))

-- one shape for each type
pub length-shapes : (t : Table) → length (shapes t) ≡ length t.types
length-shapes t = length-spelled t.structs [] t.types ∙ (omega arith)

-- a new type is spelled by the shapes before it
pub shapes-with_type : (t : Table) (ty : ShadeType) → shapes (with_type t ty) ≡ shapes t ++ spell t.structs (shapes t) ty ∷ []
shapes-with_type t ty = fold-append (with_spelling t.structs) [] t.types (ty ∷ [])

-- what an entry keeps
pub kept_layout : (entries : List Entry) (structs : List StructView) (id : TypeId) (e : Entry) → IsKept entries structs → id.0 < length (types_of entries) → e ≡ get_or entries id.0 e
    → e.layout ≡ layout (shape_at (shapes (table_of entries structs)) id)
kept_layout entries structs id e kept h is =
    ap (λ x. x.layout) is
    ∙ sym (get_or-map (λ x. x.layout) entries id.0 e (bytes 0 1) (rw length-map at h))
    ∙ ap (λ ls. get_or ls id.0 (bytes 0 1)) kept.laid_out
    ∙ get_or-map_same layout (shapes (table_of entries structs)) id.0 pointer

pub kept_load : (entries : List Entry) (structs : List StructView) (id : TypeId) (e : Entry) → IsKept entries structs → id.0 < length (types_of entries) → e ≡ get_or entries id.0 e
    → e.loadable ≡ is_loadable (shape_at (shapes (table_of entries structs)) id)
kept_load entries structs id e kept h is =
    ap (λ x. x.loadable) is
    ∙ sym (get_or-map (λ x. x.loadable) entries id.0 e false (rw length-map at h))
    ∙ ap (λ ls. get_or ls id.0 false) kept.loads
    ∙ get_or-map_same is_loadable (shapes (table_of entries structs)) id.0 pointer

-- the layout of a type from those of the types before it
layouts_members : (known : List Shape) (ms : List (List ℕ × TypeId)) → layouts (member_shapes known ms) ≡ map (λ m. layout_in (map layout known) m.1) ms
layouts_members known [] = refl
layouts_members known (m ∷ ms) = rw (layouts_members known ms) (ap (λ l. l ∷ map (λ x. layout_in (map layout known) x.1) ms) (sym (get_or-map_same layout known m.1.0 pointer)))

pub layout-structure : (known : List Shape) (ms : List (List ℕ × TypeId)) → layout (structure (member_shapes known ms)) ≡ struct_layout (map (λ m. layout_in (map layout known) m.1) ms)
layout-structure known ms = ap struct_layout (layouts_members known ms)

pub layout-spell : (structs : List StructView) (known : List Shape) (ty : ShadeType) → layout (spell structs known ty) ≡ layout_by (map layout known) structs ty
layout-spell structs known (Plain scalar) = refl
layout-spell structs known (Vector parts scalar) = refl
layout-spell structs known (Array element count) = ap (array_layout count) (sym (get_or-map_same layout known element.0 pointer))
layout-spell structs known (RuntimeArray element) = ap (array_layout 1) (sym (get_or-map_same layout known element.0 pointer))
layout-spell structs known (Atomic scalar) = refl
layout-spell structs known (Struct number) = layout-structure known (members_at structs number)
layout-spell structs known (Exchanged scalar) = refl
layout-spell structs known (Pointer space pointee access) = refl

pub are_loadable-members : (known : List Shape) (ms : List (List ℕ × TypeId)) → are_loadable (member_shapes known ms) ≡ list_all (λ m. load_in (map is_loadable known) m.1) ms
are_loadable-members known [] = refl
are_loadable-members known (m ∷ ms) = rw (are_loadable-members known ms) (ap (λ b. b && list_all (λ x. load_in (map is_loadable known) x.1) ms) (sym (get_or-map_same is_loadable known m.1.0 pointer)))

pub is_loadable-spell : (structs : List StructView) (known : List Shape) (ty : ShadeType) → is_loadable (spell structs known ty) ≡ loads_by (map is_loadable known) structs ty
is_loadable-spell structs known (Plain scalar) = refl
is_loadable-spell structs known (Vector parts scalar) = refl
is_loadable-spell structs known (Array element count) = sym (get_or-map_same is_loadable known element.0 pointer)
is_loadable-spell structs known (RuntimeArray element) = refl
is_loadable-spell structs known (Atomic scalar) = refl
is_loadable-spell structs known (Struct number) = are_loadable-members known (members_at structs number)
is_loadable-spell structs known (Exchanged scalar) = refl
is_loadable-spell structs known (Pointer space pointee access) = refl

-- a struct that stands in the list
pub members_found : (structs : List StructView) (number : ℕ) (s : StructView) → number < length structs → s ≡ get_or structs number s → s.members ≡ members_at structs number
members_found structs number s h is = ap (λ x. x.members) (is ∙ get_or_default structs number s no_struct h)

members_front : (structs : List StructView) (s : StructView) (number : ℕ) → number < length structs → members_at (structs ++ s ∷ []) number ≡ members_at structs number
members_front structs s number h = ap (λ x. x.members) (get_or_append_left structs (s ∷ []) no_struct number h)

-- a struct more changes no type over the structs before
pub over_more : (structs : List StructView) (s : StructView) (n : ℕ) (ty : ShadeType) → IsOver n structs ty → IsOver n (structs ++ s ∷ []) ty
over_more structs s n (Plain scalar) h = h
over_more structs s n (Vector parts scalar) h = h
over_more structs s n (Array element count) h = h
over_more structs s n (RuntimeArray element) h = h
over_more structs s n (Atomic scalar) h = h
over_more structs s n (Struct number) h = (
  omega (arith, length-append structs (s ∷ [])),
  subst (λ ms. 0 < length ms) (sym (members_front structs s number h.0)) h.1,
  subst (AreKnown n) (sym (members_front structs s number h.0)) h.2,
)
over_more structs s n (Exchanged scalar) h = h
over_more structs s n (Pointer space pointee access) h = h

spell_more : (structs : List StructView) (s : StructView) (n : ℕ) (known : List Shape) (ty : ShadeType) → IsOver n structs ty → spell (structs ++ s ∷ []) known ty ≡ spell structs known ty
spell_more structs s n known (Plain scalar) h = refl
spell_more structs s n known (Vector parts scalar) h = refl
spell_more structs s n known (Array element count) h = refl
spell_more structs s n known (RuntimeArray element) h = refl
spell_more structs s n known (Atomic scalar) h = refl
spell_more structs s n known (Struct number) h = ap (λ ms. structure (member_shapes known ms)) (members_front structs s number h.0)
spell_more structs s n known (Exchanged scalar) h = refl
spell_more structs s n known (Pointer space pointee access) h = refl

spelled_more : (structs : List StructView) (s : StructView) (known : List Shape) (types : List ShadeType) → ((n : ℕ) (ty : ShadeType) → slice_get types n ≡ Some ty → (m : ℕ) × IsOver m structs ty)
    → fold (with_spelling (structs ++ s ∷ [])) known types ≡ fold (with_spelling structs) known types
spelled_more structs s known [] over = refl
spelled_more structs s known (ty ∷ types) over =
    ap (λ x. fold (with_spelling (structs ++ s ∷ [])) (known ++ x ∷ []) types) (spell_more structs s (over 0 ty refl).0 known ty (over 0 ty refl).1)
    ∙ spelled_more structs s (with_spelling structs known ty) types (λ n x e. over (suc n) x e)

-- a new struct is spelled by the shapes before it
pub shapes-with_struct : (t : Table) (name : List ℕ) (ms : List (List ℕ × TypeId)) → ((n : ℕ) (ty : ShadeType) → slice_get t.types n ≡ Some ty → IsOver n t.structs ty)
    → shapes (with_struct t name ms) ≡ shapes t ++ structure (member_shapes (shapes t) ms) ∷ []
shapes-with_struct t name ms over =
    let s : StructView = record { name = name; members = ms } in
    let before : fold (with_spelling (t.structs ++ s ∷ [])) [] t.types ≡ shapes t = spelled_more t.structs s [] t.types (λ n ty e. (n, over n ty e)) in
    let here : members_at (t.structs ++ s ∷ []) (length t.structs) ≡ ms = ap (λ x. x.members) (get_or_at t.structs s [] no_struct (length t.structs) refl) in
    fold-append (with_spelling (t.structs ++ s ∷ [])) [] t.types (Struct (length t.structs) ∷ [])
    ∙ ap (λ known. known ++ structure (member_shapes known (members_at (t.structs ++ s ∷ []) (length t.structs))) ∷ []) before
    ∙ ap (λ x. shapes t ++ structure (member_shapes (shapes t) x) ∷ []) here

-- each type is spelled by the shapes of its table: what stands at an id is what the type there spells
above : (structs : List StructView) (known : List Shape) (types : List ShadeType) → (more : List Shape) × (fold (with_spelling structs) known types ≡ known ++ more)
above structs known [] = ([], sym (append-nil known))
above structs known (ty ∷ types) =
    let rest = above structs (with_spelling structs known ty) types in
    (spell structs known ty ∷ rest.0, rest.1 ∙ append_assoc known (spell structs known ty ∷ []) rest.0)

members_stay : (known more : List Shape) (ms : List (List ℕ × TypeId)) → AreKnown (length known) ms → member_shapes (known ++ more) ms ≡ member_shapes known ms
members_stay known more [] h = refl
members_stay known more (m ∷ ms) h =
    rw (members_stay known more ms (λ k d lt. h (suc k) d (omega arith)))
    (ap (λ x. member x (member_shapes known ms)) (get_or_append_left known more pointer m.1.0 (h 0 m (omega arith))))

spell_stays : (structs : List StructView) (known more : List Shape) (ty : ShadeType) → IsOver (length known) structs ty → spell structs (known ++ more) ty ≡ spell structs known ty
spell_stays structs known more (Plain scalar) h = refl
spell_stays structs known more (Vector parts scalar) h = refl
spell_stays structs known more (Array element count) h = ap (λ x. array x count) (get_or_append_left known more pointer element.0 h.0)
spell_stays structs known more (RuntimeArray element) h = ap runtime_array (get_or_append_left known more pointer element.0 h)
spell_stays structs known more (Atomic scalar) h = refl
spell_stays structs known more (Struct number) h = ap structure (members_stay known more (members_at structs number) h.2)
spell_stays structs known more (Exchanged scalar) h = refl
spell_stays structs known more (Pointer space pointee access) h = refl

at_place : (structs : List StructView) (known : List Shape) (types : List ShadeType)
    → ((n : ℕ) (ty : ShadeType) → slice_get types n ≡ Some ty → IsOver (length known + n) structs ty)
    → (n : ℕ) (ty : ShadeType) → slice_get types n ≡ Some ty
    → get_or (fold (with_spelling structs) known types) (length known + n) pointer ≡ spell structs (fold (with_spelling structs) known types) ty
at_place structs known [] over n ty e = absurd (cc)
at_place structs known (x ∷ types) over zero ty e =
    let same : x ≡ ty = cc in
    let rest = above structs (with_spelling structs known x) types in
    let all : fold (with_spelling structs) known (x ∷ types) ≡ known ++ (spell structs known x ∷ rest.0) =
    rest.1 ∙ append_assoc known (spell structs known x ∷ []) rest.0 in
    let fits : IsOver (length known) structs x = subst (λ k. IsOver k structs x) (add-zero (length known)) (over 0 x refl) in
    rw (all, ← same)
    (get_or_at known (spell structs known x) rest.0 pointer (length known + 0) (sym (add-zero (length known)))
    ∙ sym (spell_stays structs known (spell structs known x ∷ rest.0) x fits))
at_place structs known (x ∷ types) over (suc n) ty e =
    let long : (k : ℕ) → length (with_spelling structs known x) + k ≡ length known + suc k = λ k. omega (arith, length-append known (spell structs known x ∷ [])) in
    subst (λ k. get_or (fold (with_spelling structs) known (x ∷ types)) k pointer ≡ spell structs (fold (with_spelling structs) known (x ∷ types)) ty) (long n)
    (at_place structs (with_spelling structs known x) types (λ k y found. subst (λ j. IsOver j structs y) (sym (long k)) (over (suc k) y found)) n ty e)

-- what stands at an id is what the type there spells
pub shape_is : (t : Table) → ((n : ℕ) (ty : ShadeType) → slice_get t.types n ≡ Some ty → IsOver n t.structs ty)
    → (n : ℕ) (ty : ShadeType) → slice_get t.types n ≡ Some ty → get_or (shapes t) n pointer ≡ spell t.structs (shapes t) ty
shape_is t over n ty e =
    subst (λ k. get_or (shapes t) k pointer ≡ spell t.structs (shapes t) ty) (zero-add n)
    (at_place t.structs [] t.types (λ k y found. subst (λ j. IsOver j t.structs y) (sym (zero-add k)) (over k y found)) n ty e)
