-- The values of a type, one layer at a time.
use Rattle.std.proofs.Common.{◌≡◌, refl, sym, ap, subst, ◌∙◌, ℕ, zero, suc, ◌+◌, ◌<◌, ◌≤◌, Bool, true, false, List, [], ◌∷◌, length, get_or, take, drop, map, Option, Some, None, inl, inr, arith}
use Rattle.std.specs.Prelude.{◌↔◌, All, IfNone, IfSome, IsTrue, option_map, slice_get}
use Rattle.std.proofs.Math.ListN.{get_or-eq_default}
use Rattle.std.proofs.lemmas.Bool.{cases_lt}
use Rattle.std.proofs.lemmas.List.{get_or_default, drop_all}
use Rattle.std.proofs.lemmas.List.Elements.{All-nil, All-cons, All-head, All-tail, All-map, All-weaker, All-get_or, All-more}
use Rattle.std.proofs.lemmas.Option.{get_or_from_slice_get, slice_get_within, slice_get-get_or}
use Rattle.shade_values.specs.declared.types.Scalar.{Scalar}
use Rattle.shade_values.specs.declared.types.Scalar.TheVariants as scalar
use Rattle.shade_values.specs.declared.types.ShadeType.{ShadeType}
use Rattle.shade_values.specs.declared.types.ShadeType.TheVariants as type
use Rattle.shade_values.specs.declared.types.TypeId.{TypeId}
use Rattle.shade_values.specs.declared.value.Leaf.{Leaf}
use Rattle.shade_values.specs.declared.value.Value.{Value, Value-F, out-Value}
use Rattle.shade_values.specs.declared.value.Value.TheOpen as opened
use Rattle.shade_values.specs.declared.value.Value.TheVariants as value
use Rattle.shade_values.specs.declared.value.Value.TheViews.{outs-One, outs-Many}
use Rattle.shade_values.specs.Parts.{own_leaf, leaf_in, parts_of, parts_in}
use Rattle.shade_values.specs.Shape.{Shape, plain, vector, array, structure, exchanged, pointer, Shapes, no_member, member, shape_at, shape_of, shapes, member_shapes}
use Rattle.shade_values.specs.Sound.{IsSound}
use Rattle.shade_values.specs.Table.{Table}
use Rattle.shade_values.specs.Typed.{IsLeafOf, IsValueOf, AreValuesOf}
use Rattle.shade_values.proofs.ShapeLaws.{length-shapes, shape_is}
use Rattle.shade_core.specs.Types.{type_at, spelled}
use Rattle.shade_core.proofs.CodeLaws.{drop_here}
use Rattle.shade_shape.specs.Values.{AreExchanged, HasStruct}

-- ---- a leaf, or parts

one_same : (x y : Leaf) → value.One x ≡ value.One y → x ≡ y
one_same x y e = sym (ap leaf_in (outs-One x)) ∙ (ap own_leaf e ∙ ap leaf_in (outs-One y))

many_same : (xs ys : List Value) → value.Many xs ≡ value.Many ys → xs ≡ ys
many_same xs ys e = sym (ap parts_in (outs-Many xs)) ∙ (ap parts_of e ∙ ap parts_in (outs-Many ys))

abbrev has_parts : Value-F Value → Bool
has_parts (opened.One leaf) = false
has_parts (opened.Many parts) = true

pub one_not_many : (x : Leaf) (ps : List Value) → value.One x ≡ value.Many ps → ⊥
one_not_many x ps e = let f : false ≡ true = sym (ap has_parts (outs-One x)) ∙ (ap (λ v. has_parts (out-Value v)) e ∙ ap has_parts (outs-Many ps)) in cc

-- ---- scalars

pub scalar_one : (s : Scalar) (x : Leaf) (v : Value) → v ≡ value.One x → IsLeafOf s x ↔ IsValueOf (plain s) v
scalar_one s x v e = (λ h. (x, h, e), λ h. subst (IsLeafOf s) (one_same h.0 x (sym h.2 ∙ e)) h.1)

pub scalar_many : (s : Scalar) (ps : List Value) (v : Value) → v ≡ value.Many ps → IsValueOf (plain s) v → ⊥
scalar_many s ps v e h = one_not_many h.0 ps (sym h.2 ∙ e)

-- ---- vectors

abbrev Leaves : Scalar → List Value → Type 0
Leaves s ps = (leaves : List Leaf) × (length leaves ≡ length ps) × All (IsLeafOf s) leaves × (ps ≡ map value.One leaves)

leaves_of_scalars : (s : Scalar) (ps : List Value) → All (IsValueOf (plain s)) ps → Leaves s ps
leaves_of_scalars s [] all = ([], refl, All-nil (IsLeafOf s), refl)
leaves_of_scalars s (p ∷ ps) all =
    let one = All-head (IsValueOf (plain s)) p ps all in
    let more = leaves_of_scalars s ps (All-tail (IsValueOf (plain s)) p ps all) in
    (one.0 ∷ more.0, omega (arith, more.1), All-cons (IsLeafOf s) one.0 more.0 one.1 more.2, λ i. one.2 i ∷ more.3 i)

scalars_of_leaves : (s : Scalar) (leaves : List Leaf) → All (IsLeafOf s) leaves → All (IsValueOf (plain s)) (map value.One leaves)
scalars_of_leaves s leaves all =
    All-map (IsValueOf (plain s)) value.One leaves (All-weaker (IsLeafOf s) (λ y. IsValueOf (plain s) (value.One y)) (λ y h. (y, h, refl)) leaves all)

pub vector_many : (n : ℕ) (s : Scalar) (ps : List Value) (v : Value) → v ≡ value.Many ps → ((length ps ≡ n) × All (IsValueOf (plain s)) ps) ↔ IsValueOf (vector n s) v
vector_many n s ps v e = (
  λ h. (let l = leaves_of_scalars s ps h.1 in (l.0, l.1 ∙ h.0, l.2, e ∙ ap value.Many l.3)),
  λ h. (let same : ps ≡ map value.One h.0 = many_same ps (map value.One h.0) (sym e ∙ h.3) in
      (ap length same ∙ (length_ones h.0 ∙ h.1), subst (All (IsValueOf (plain s))) (sym same) (scalars_of_leaves s h.0 h.2))),
)
  where
    length_ones : (leaves : List Leaf) → length (map value.One leaves) ≡ length leaves
    length_ones [] = refl
    length_ones (x ∷ leaves) = omega (arith, length_ones leaves)

pub vector_one : (n : ℕ) (s : Scalar) (x : Leaf) (v : Value) → v ≡ value.One x → IsValueOf (vector n s) v → ⊥
vector_one n s x v e h = one_not_many x (map value.One h.0) (sym e ∙ h.3)

-- ---- results of an exchange

pub exchanged_many : (s : Scalar) (ps : List Value) (v : Value) → v ≡ value.Many ps → AreExchanged s ps ↔ IsValueOf (exchanged s) v
exchanged_many s ps v e = (
  λ h. (h.0, h.1, h.2, h.3, e ∙ ap value.Many h.4),
  λ h. (h.0, h.1, h.2, h.3, many_same ps _ (sym e ∙ h.4)),
)

pub exchanged_one : (s : Scalar) (x : Leaf) (v : Value) → v ≡ value.One x → IsValueOf (exchanged s) v → ⊥
exchanged_one s x v e h = one_not_many x _ (sym e ∙ h.4)

-- two values, and what each is
pub pair_is : (s : Scalar) (ps : List Value) (a b : Value) → length ps ≡ 2 → a ≡ get_or ps 0 a → b ≡ get_or ps 1 b → IsValueOf (plain s) a → IsValueOf (plain scalar.Bool) b → AreExchanged s ps
pair_is s [] a b l ea eb ha hb = absurd (omega (arith, l))
pair_is s (p ∷ []) a b l ea eb ha hb = absurd (omega (arith, l))
pair_is s (p ∷ q ∷ []) a b l ea eb ha hb =
    (ha.0, hb.0, ha.1, hb.1, λ i. (sym ea ∙ ha.2) i ∷ (sym eb ∙ hb.2) i ∷ [])
pair_is s (p ∷ q ∷ r ∷ ps) a b l ea eb ha hb = absurd (omega (arith, l))

pub pair_long : (s : Scalar) (ps : List Value) → AreExchanged s ps → length ps ≡ 2
pair_long s ps h = ap length h.4

pub pair_first : (s : Scalar) (ps : List Value) (a : Value) → a ≡ get_or ps 0 a → AreExchanged s ps → IsValueOf (plain s) a
pair_first s ps a is h = (h.0, h.2, is ∙ ap (λ xs. get_or xs 0 a) h.4)

pub pair_second : (s : Scalar) (ps : List Value) (b : Value) → b ≡ get_or ps 1 b → AreExchanged s ps → IsValueOf (plain scalar.Bool) b
pair_second s ps b is h = (h.1, h.3, is ∙ ap (λ xs. get_or xs 1 b) h.4)

-- ---- what stands at an id

pub spelled_some : (t : Table) → IsSound t → (id : TypeId) (r : Option ShadeType) → r ≡ type_at t id → IfSome r (λ ty. shape_of t id ≡ spelled t ty)
spelled_some t sound id None e = tt
spelled_some t sound id (Some ty) e = shape_is t sound.over id.0 ty (sym e)

pub spelled_none : (t : Table) (id : TypeId) (r : Option ShadeType) → r ≡ type_at t id → IfNone r (shape_of t id ≡ pointer)
spelled_none t id (Some ty) e = tt
spelled_none t id None e = elim (cases_lt id.0 (length t.types)) [
  | inl lt ↦ absurd (let f : None ≡ Some (get_or t.types id.0 (type.Plain scalar.Bool)) = e ∙ slice_get-get_or t.types id.0 (type.Plain scalar.Bool) lt in cc)
  | inr le ↦ get_or-eq_default (shapes t) pointer (omega (arith, le, length-shapes t))
]

pub spelled_known : (t : Table) → IsSound t → (id : TypeId) (r : Option ShadeType) → r ≡ type_at t id → IfSome r (HasStruct t)
spelled_known t sound id None e = tt
spelled_known t sound id (Some ty) e = λ n is. (sound.over id.0 (type.Struct n) (sym e ∙ ap Some is)).0

-- no value is of a pointer's shape
pub none_at : (shape : Shape) (v : Value) → shape ≡ pointer → IsValueOf shape v → ⊥
none_at shape v e h = subst (λ s. IsValueOf s v) e h

pub array_many : (element : Shape) (n : ℕ) (ps : List Value) (v : Value) (b : Bool) → v ≡ value.Many ps → IsTrue b ↔ ((length ps ≡ n) × All (IsValueOf element) ps) → IsTrue b ↔ IsValueOf (array element n) v
array_many element n ps v b e h = (
  λ t. (let w = h.0 t in (ps, w.0, w.1, e)),
  λ w. (let same : ps ≡ w.0 = many_same ps w.0 (sym e ∙ w.3) in h.1 (ap length same ∙ w.1, subst (All (IsValueOf element)) (sym same) w.2)),
)

pub array_one : (element : Shape) (n : ℕ) (x : Leaf) (v : Value) → v ≡ value.One x → IsValueOf (array element n) v → ⊥
array_one element n x v e h = one_not_many x h.0 (sym e ∙ h.3)

pub struct_many : (ms : Shapes) (ps : List Value) (v : Value) (b : Bool) → v ≡ value.Many ps → IsTrue b ↔ AreValuesOf ms ps → IsTrue b ↔ IsValueOf (structure ms) v
struct_many ms ps v b e h = (
  λ t. (ps, h.0 t, e),
  λ w. h.1 (subst (AreValuesOf ms) (sym (many_same ps w.0 (sym e ∙ w.2))) w.1),
)

pub struct_one : (ms : Shapes) (x : Leaf) (v : Value) → v ≡ value.One x → IsValueOf (structure ms) v → ⊥
struct_one ms x v e h = one_not_many x h.0 (sym e ∙ h.2)

-- ---- members, one after another

abbrev Members : List Shape → List (List ℕ × TypeId) → List Value → ℕ → Type 0
Members known ms ps i = AreValuesOf (member_shapes known (drop i ms)) (drop i ps)

-- the member at a place, and those behind it
at_place : (known : List Shape) (ms : List (List ℕ × TypeId)) (i : ℕ) (id : TypeId) → option_map (λ m. m.1) (slice_get ms i) ≡ Some id
    → member_shapes known (drop i ms) ≡ member (shape_at known id) (member_shapes known (drop (i + 1) ms))
at_place known ms i id at = by_found (slice_get ms i) refl at
  where
    by_found : (r : Option (List ℕ × TypeId)) → slice_get ms i ≡ r → option_map (λ m. m.1) r ≡ Some id → member_shapes known (drop i ms) ≡ member (shape_at known id) (member_shapes known (drop (i + 1) ms))
    by_found None e h = absurd (let f : None ≡ Some id = h in cc)
    by_found (Some m) e h =
        let same : m.1 ≡ id = (let f : Some m.1 ≡ Some id = h in cc) in
        ap (member_shapes known) (drop_here ms i m (slice_get_within ms i m e) (sym (get_or_from_slice_get ms i m m e))) ∙ ap (λ x. member (shape_at known x) (member_shapes known (drop (i + 1) ms))) same

first_of : (m : Shape) (ms : Shapes) (p : Value) (ps : List Value) → AreValuesOf (member m ms) (p ∷ ps) → IsValueOf m p × AreValuesOf ms ps
first_of m ms p ps h =
    let head : p ≡ h.0 = ap (λ xs. get_or xs 0 p) h.4 in
    let tail : ps ≡ h.1 = ap (drop 1) h.4 in (subst (IsValueOf m) (sym head) h.2, subst (AreValuesOf ms) (sym tail) h.3)

pub member_first : (known : List Shape) (ms : List (List ℕ × TypeId)) (ps : List Value) (i : ℕ) (p : Value) (id : TypeId) → i < length ps → p ≡ get_or ps i p → option_map (λ m. m.1) (slice_get ms i) ≡ Some id
    → Members known ms ps i → IsValueOf (shape_at known id) p × Members known ms ps (i + 1)
member_first known ms ps i p id lt is at h =
    first_of (shape_at known id) (member_shapes known (drop (i + 1) ms)) p (drop (i + 1) ps)
    (subst (λ l. AreValuesOf (member (shape_at known id) (member_shapes known (drop (i + 1) ms))) l) (drop_here ps i p lt is) (subst (λ s. AreValuesOf s (drop i ps)) (at_place known ms i id at) h))

pub member_back : (known : List Shape) (ms : List (List ℕ × TypeId)) (ps : List Value) (i : ℕ) (p : Value) (id : TypeId) → i < length ps → p ≡ get_or ps i p → option_map (λ m. m.1) (slice_get ms i) ≡ Some id
    → IsValueOf (shape_at known id) p → Members known ms ps (i + 1) → Members known ms ps i
member_back known ms ps i p id lt is at one more =
    subst (λ s. AreValuesOf s (drop i ps)) (sym (at_place known ms i id at))
    (subst (λ l. AreValuesOf (member (shape_at known id) (member_shapes known (drop (i + 1) ms))) l) (sym (drop_here ps i p lt is)) (p, drop (i + 1) ps, one, more, refl))

-- the member and the value at a place that is counted apart
pub member_next : (known : List Shape) (ms : List (List ℕ × TypeId)) (ps : List Value) (place i : ℕ) (p : Value) (id : TypeId) → place ≡ i → i < length ps → p ≡ get_or ps i p → Some id ≡ option_map (λ m. m.1) (slice_get ms place)
    → Members known ms ps place ↔ (IsValueOf (shape_at known id) p × Members known ms ps (place + 1))
member_next known ms ps place i p id e lt is at =
    let here : place < length ps = omega (arith, e, lt) in
    let same : p ≡ get_or ps place p = is ∙ ap (λ k. get_or ps k p) (sym e) in
    (λ h. member_first known ms ps place p id here same (sym at) h, λ w. member_back known ms ps place p id here same (sym at) w.0 w.1)

-- no member is left, and no value
pub members_end : (known : List Shape) (ms : List (List ℕ × TypeId)) (ps : List Value) (i : ℕ) → length ps ≤ i → length ms ≡ length ps → Members known ms ps i
members_end known ms ps i le e = subst (λ l. AreValuesOf (member_shapes known (drop i ms)) l) (sym (drop_all i ps le)) (subst (λ m. AreValuesOf (member_shapes known m) []) (sym (drop_all i ms (omega (arith, e, le)))) refl)

-- as many values as members
pub members_long : (known : List Shape) (ms : List (List ℕ × TypeId)) (ps : List Value) → AreValuesOf (member_shapes known ms) ps → length ms ≡ length ps
members_long known [] ps h = ap length (sym h)
members_long known (m ∷ ms) ps h = (let more = members_long known ms h.1 h.3 in omega (arith, more, ap length h.4))

-- a member is there at each value
pub member_there : (ms : List (List ℕ × TypeId)) (i : ℕ) → i < length ms → option_map (λ m. m.1) (slice_get ms i) ≡ None → ⊥
member_there ms i lt none =
    let at : slice_get ms i ≡ Some (get_or ms i ([], (record { 0 = 0 }))) = slice_get-get_or ms i ([], (record { 0 = 0 })) lt in
    let f : None ≡ Some (get_or ms i ([], (record { 0 = 0 }))).1 = sym none ∙ ap (option_map (λ m. m.1)) at in cc

-- ---- all of a list, by the item of a loop

pub all_at : {A : Type 0} (P : A → Type 0) (xs : List A) (i : ℕ) (x : A) → i < length xs → x ≡ get_or xs i x → All P xs → P x
all_at P xs i x lt is all = subst P (sym is) (All-get_or P xs i x lt all)

pub all_with : {A : Type 0} (P : A → Type 0) (xs : List A) (i : ℕ) (x : A) → i < length xs → x ≡ get_or xs i x → All P (take i xs) → P x → All P (take (i + 1) xs)
all_with P xs i x lt is all one = All-more P xs i x lt all (subst P is one)
