-- The parts of a value of a type, and how they are written.
use Rattle.std.proofs.Common.{◌≡◌, ◌≢◌, ℕ, zero, suc, ◌+◌, ◌<◌, ◌≤◌, ◌⊎◌, inl, inr, Bool, true, false, List, [], ◌∷◌, map, length, get_or, set, refl, sym, ap, subst, ◌∙◌, arith, below_more, get_or-set_other, get_or-set_same}
use Rattle.std.proofs.lemmas.Bool.{false≢true}
use Rattle.std.proofs.lemmas.List.{get_or-map, length-map, get_or_read}
use Rattle.shade_values.specs.declared.types.Scalar.{Scalar}
use Rattle.shade_values.specs.declared.types.ShadeType.{ShadeType}
use Rattle.shade_values.specs.declared.types.ShadeType.TheVariants as type
use Rattle.shade_values.specs.declared.types.TypeId.{TypeId}
use Rattle.shade_values.specs.declared.value.Leaf.{Leaf}
use Rattle.shade_values.specs.declared.value.Value.{Value, Value-F, out-Value}
use Rattle.shade_values.specs.declared.value.Value.TheOpen.{One, Many}
use Rattle.shade_values.specs.declared.value.Value.TheVariants as value
use Rattle.shade_values.specs.declared.value.Value.TheViews.{outs-One, outs-Many}
use Rattle.shade_values.specs.Layouts.{layout, offset_after}
use Rattle.shade_values.specs.Parts.{no_leaf, no_value, own_leaf, parts_of, parts_in}
use Rattle.shade_values.specs.Shape.{Shape, plain, vector, array, runtime_array, atomic, structure, exchanged, pointer, Shapes, no_member, member, shape_at, member_shapes, spell, shapes, shape_of}
use Rattle.shade_values.specs.Sound.{IsSound}
use Rattle.shade_values.specs.Table.{Table, StructView}
use Rattle.shade_values.specs.Typed.{IsLeafOf, IsValueOf, AreValuesOf}
use Rattle.shade_values.proofs.ShapeLaws.{shape_is}
use Rattle.shade_words.specs.Lays.{Lay, leaf, row, fields, Fields, no_field, field, size, IsLay, leaf_of, word_of, AreFit, IsFit, IsConcrete, AreConcrete}
use Rattle.shade_words.specs.PartShapes.{member_at, part_shape, member_id, ArePartsOf}
use Rattle.shade_words.specs.Types.{lay_of, fields_of, lay, type_of, HasParts}
use Rattle.shade_words.specs.Ways.{part_lay, part_offset, part_count, field_lay, field_count}
use Rattle.shade_words.specs.Written.{Written}
use Rattle.shade_words.proofs.CopyLaws.{Filled, filled_more, still_fit}
use Rattle.shade_words.proofs.Layouts.{part_ends}
use Rattle.shade_words.proofs.TypeLaws.{lay_lies}
use Rattle.shade_words.proofs.LeafLaws.{own_one}
use Rattle.shade_words.proofs.WordLaws.{leaf_back, word_fits, type_there}

-- ---- a scalar or a composite

abbrev one_in : Value-F Value → Bool
one_in (One l) = true
one_in (Many parts) = false

one_not_many : (l : Leaf) (parts : List Value) → value.One l ≢ value.Many parts
one_not_many l parts e = false≢true (sym (ap one_in (sym (outs-One l)) ∙ (ap (λ v. one_in (out-Value v)) e ∙ ap one_in (outs-Many parts))))

many_same : (xs ys : List Value) → value.Many xs ≡ value.Many ys → xs ≡ ys
many_same xs ys e = ap parts_in (sym (outs-Many xs)) ∙ (ap parts_of e ∙ ap parts_in (outs-Many ys))

one_same : (x y : Leaf) → value.One x ≡ value.One y → x ≡ y
one_same x y e = sym (own_one x) ∙ (ap own_leaf e ∙ own_one y)

-- ---- parts

members_lays : (ms : Shapes) (end k : ℕ) → lay_of (member_at ms k) ≡ field_lay (fields_of end ms) k
members_lays no_member end k = refl
members_lays (member m ms) end zero = refl
members_lays (member m ms) end (suc k) = members_lays ms (offset_after end (layout m) + (layout m).size) k

pub part_lays : (s : Shape) (k : ℕ) → k < part_count (lay_of s) → lay_of (part_shape s k) ≡ part_lay (lay_of s) k
part_lays (plain s) k lt = absurd (omega (arith, lt))
part_lays (vector n s) k lt = refl
part_lays (array element n) k lt = refl
part_lays (runtime_array element) k lt = refl
part_lays (atomic s) k lt = absurd (omega (arith, lt))
part_lays (structure members) k lt = members_lays members 0 k
part_lays (exchanged s) zero lt = refl
part_lays (exchanged s) (suc zero) lt = refl
part_lays (exchanged s) (suc (suc k)) lt = absurd (omega (arith, lt))
part_lays pointer k lt = absurd (omega (arith, lt))

fields_concrete : (fs : Fields) (k : ℕ) → k < field_count fs → AreConcrete fs → IsConcrete (field_lay fs k)
fields_concrete no_field k lt h = absurd (omega (arith, lt))
fields_concrete (field offset l fs) zero lt h = h.0
fields_concrete (field offset l fs) (suc k) lt h = fields_concrete fs k (omega (arith, lt)) h.1

pub part_concrete : (l : Lay) (k : ℕ) → k < part_count l → IsConcrete l → IsConcrete (part_lay l k)
part_concrete (leaf s) k lt h = absurd (omega (arith, lt))
part_concrete (row e n stride) k lt h = h
part_concrete (fields words fs) k lt h = fields_concrete fs k lt h

members_count : (ms : Shapes) (end : ℕ) (parts : List Value) → AreValuesOf ms parts → length parts ≡ field_count (fields_of end ms)
members_count no_member end parts e = ap length e
members_count (member m ms) end parts (first, rest, here, later, e) =
    ap length e ∙ ap suc (members_count ms (offset_after end (layout m) + (layout m).size) rest later)

members_typed : (ms : Shapes) (parts : List Value) → AreValuesOf ms parts → (k : ℕ) → k < length parts → IsValueOf (member_at ms k) (get_or parts k no_value)
members_typed no_member parts e k lt = absurd (omega (arith, lt, ap length e))
members_typed (member m ms) parts (first, rest, here, later, e) zero lt = subst (λ l. IsValueOf m (get_or l 0 no_value)) (sym e) here
members_typed (member m ms) parts (first, rest, here, later, e) (suc k) lt =
    let less : k < length rest = omega (arith, lt, ap length e) in
    subst (λ l. IsValueOf (member_at ms k) (get_or l (suc k) no_value)) (sym e) (members_typed ms rest later k less)

pub parts_typed : (s : Shape) (parts : List Value) → IsValueOf s (value.Many parts) → ArePartsOf s parts
parts_typed (plain s) parts (l, ok, e) = absurd (one_not_many l parts (sym e))
parts_typed (vector n s) parts (ls, long, all, e) =
    let same : parts ≡ map value.One ls = many_same parts (map value.One ls) e in
    record {
      composite = tt;
      count = ap length same ∙ (length-map ls value.One ∙ long);
      typed = λ k lt. let here : k < length ls = omega (arith, lt, ap length same, length-map ls value.One) in
          (get_or ls k no_leaf, all k no_leaf here, ap (λ l. get_or l k no_value) same ∙ get_or-map value.One ls k no_leaf no_value here);
    }
parts_typed (array element n) parts (vs, long, all, e) =
    let same : vs ≡ parts = sym (many_same parts vs e) in
    record {
      composite = tt;
      count = ap length (sym same) ∙ long;
      typed = λ k lt. subst (λ l. IsValueOf element (get_or l k no_value)) same (all k no_value (omega (arith, lt, ap length same)));
    }
parts_typed (runtime_array element) parts h = absurd h
parts_typed (atomic s) parts (l, ok, e) = absurd (one_not_many l parts (sym e))
parts_typed (structure members) parts (vs, all, e) =
    let typed : AreValuesOf members parts = subst (AreValuesOf members) (sym (many_same parts vs e)) all in
    record {
      composite = tt;
      count = members_count members 0 parts typed;
      typed = members_typed members parts typed;
    }
parts_typed (exchanged s) parts (old, flag, h, g, e) =
    let same : parts ≡ value.One old ∷ value.One flag ∷ [] = many_same parts (value.One old ∷ value.One flag ∷ []) e in
    record {
      composite = tt;
      count = ap length same;
      typed = λ k lt. subst (λ l. IsValueOf (part_shape (exchanged s) k) (get_or l k no_value)) (sym same) (both k (omega (arith, lt, ap length same)));
    }
  where
    both : (k : ℕ) → k < 2 → IsValueOf (part_shape (exchanged s) k) (get_or (value.One old ∷ value.One flag ∷ []) k no_value)
    both zero lt = (old, h, refl)
    both (suc zero) lt = (flag, g, refl)
    both (suc (suc k)) lt = absurd (omega (arith, lt))
parts_typed pointer parts h = absurd h

-- ---- a scalar that is written

-- the scalar of a shape that one leaf is a value of
pub record IsOne (s : Shape) (l : Leaf) : Type 0 where
  pub scalar : Scalar
  pub lies : lay_of s ≡ leaf scalar
  pub typed : IsLeafOf scalar l

pub one_typed : (s : Shape) (l : Leaf) → IsValueOf s (value.One l) → IsOne s l
one_typed (plain s) l (x, ok, e) = record { scalar = s; lies = refl; typed = subst (IsLeafOf s) (sym (one_same l x e)) ok }
one_typed (vector n s) l (ls, long, all, e) = absurd (one_not_many l _ e)
one_typed (array element n) l (vs, long, all, e) = absurd (one_not_many l vs e)
one_typed (runtime_array element) l h = absurd h
one_typed (atomic s) l (x, ok, e) = record { scalar = s; lies = refl; typed = subst (IsLeafOf s) (sym (one_same l x e)) ok }
one_typed (structure members) l (vs, all, e) = absurd (one_not_many l vs e)
one_typed (exchanged s) l (old, flag, h, g, e) = absurd (one_not_many l _ e)
one_typed pointer l h = absurd h

module _ (s : Shape) (l : Leaf) (h : IsValueOf s (value.One l)) (old : List ℕ) (at x : ℕ) (is : x ≡ word_of l) (within : at + size (lay_of s) ≤ length old) where
  stands : get_or (set old at x) at 0 ≡ word_of l
  stands = get_or-set_same old at x 0 (omega (arith, within, ap size (one_typed s l h).lies)) ∙ is

  pub one_written : IsConcrete (lay_of s) → Written (lay_of s) (value.One l) old (set old at x) at
  one_written concrete =
      let o = one_typed s l h in
      subst (λ y. Written y (value.One l) old (set old at x) at) (sym o.lies) (record {
        value = ap value.One (ap (leaf_of o.scalar) stands ∙ leaf_back o.scalar l (subst IsConcrete o.lies concrete) o.typed);
        padding = λ i lt none. absurd (none (omega (arith, lt)));
        others = λ j side. get_or-set_other old at j x 0 (other j side);
      })
    where
      other : (j : ℕ) → (j < at) ⊎ (at + 1 ≤ j) → j ≢ at
      other j (inl lt) = omega (arith, lt)
      other j (inr le) = omega (arith, le)

  pub one_fit : AreFit (lay_of s) (λ j. get_or (set old at x) j 0) at
  one_fit =
      let o = one_typed s l h in
      subst (λ y. AreFit y (λ j. get_or (set old at x) j 0) at) (sym o.lies) (subst (IsFit o.scalar) (sym stands) (word_fits o.scalar l o.typed))

-- ---- the types of parts

pub member_named : (known : List Shape) (ms : List (List ℕ × TypeId)) (k : ℕ) → k < length ms → shape_at known (member_id ms k) ≡ member_at (member_shapes known ms) k
member_named known [] k lt = absurd (omega (arith, lt))
member_named known (m ∷ ms) zero lt = refl
member_named known (m ∷ ms) (suc k) lt = member_named known ms k (omega (arith, lt))

-- a part that is a composite is of an array or a struct
pub has_parts_of : (structs : List StructView) (known : List Shape) (ty : ShadeType) (k : ℕ) (parts : List Value) → IsValueOf (part_shape (spell structs known ty) k) (value.Many parts) → HasParts ty
has_parts_of structs known (type.Plain s) k parts h = absurd h
has_parts_of structs known (type.Vector n s) k parts (l, ok, e) = absurd (one_not_many l parts (sym e))
has_parts_of structs known (type.Array element n) k parts h = tt
has_parts_of structs known (type.RuntimeArray element) k parts h = tt
has_parts_of structs known (type.Atomic s) k parts h = absurd h
has_parts_of structs known (type.Struct number) k parts h = tt
has_parts_of structs known (type.Exchanged s) zero parts (l, ok, e) = absurd (one_not_many l parts (sym e))
has_parts_of structs known (type.Exchanged s) (suc k) parts (l, ok, e) = absurd (one_not_many l parts (sym e))
has_parts_of structs known (type.Pointer space pointee access) k parts h = absurd h

pub shape_there : (t : Table) → IsSound t → (id : TypeId) → id.0 < length t.types → shape_of t id ≡ spell t.structs (shapes t) (type_of t id)
shape_there t sound id known = shape_is t sound.over id.0 (type_of t id) (type_there t id known)

pub part_has : (t : Table) → IsSound t → (id : TypeId) → id.0 < length t.types → (k : ℕ) (parts : List Value) → IsValueOf (part_shape (shape_of t id) k) (value.Many parts) → HasParts (type_of t id)
part_has t sound id known k parts h =
    has_parts_of t.structs (shapes t) (type_of t id) k parts (subst (λ s. IsValueOf (part_shape s k) (value.Many parts)) (shape_there t sound id known) h)

-- ---- a part of a composite

module _ (t : Table) (sound : IsSound t) (ty : TypeId) (k : ℕ) (there : k < part_count (lay t ty)) where
  lying : IsLay (lay t ty)
  lying = (lay_lies t sound ty).lies

  pub same_lay : lay_of (part_shape (shape_of t ty) k) ≡ part_lay (lay t ty) k
  same_lay = part_lays (shape_of t ty) k there

  pub part_is_concrete : IsConcrete (lay t ty) → IsConcrete (lay_of (part_shape (shape_of t ty) k))
  part_is_concrete h = subst IsConcrete (sym same_lay) (part_concrete (lay t ty) k there h)

  -- it lies in the whole
  pub part_fits : part_offset (lay t ty) k + size (lay_of (part_shape (shape_of t ty) k)) ≤ size (lay t ty)
  part_fits = omega (arith, part_ends (lay t ty) k lying there, ap size same_lay)

  pub as_part : (v u : Value) (old new : List ℕ) (first offset : ℕ) → Written (lay_of (part_shape (shape_of t ty) k)) v old new (first + offset) → u ≡ v → offset ≡ part_offset (lay t ty) k
      → Written (part_lay (lay t ty) k) u old new (first + part_offset (lay t ty) k)
  as_part v u old new first offset w is here =
      subst (λ o. Written (part_lay (lay t ty) k) u old new (first + o)) here
      (subst (λ l. Written l u old new (first + offset)) same_lay (subst (λ x. Written (lay_of (part_shape (shape_of t ty) k)) x old new (first + offset)) (sym is) w))

  pub as_part_fit : (new : List ℕ) (first offset : ℕ) → AreFit (lay_of (part_shape (shape_of t ty) k)) (λ j. get_or new j 0) (first + offset) → offset ≡ part_offset (lay t ty) k
      → AreFit (part_lay (lay t ty) k) (λ j. get_or new j 0) (first + part_offset (lay t ty) k)
  as_part_fit new first offset fit here =
      subst (λ o. AreFit (part_lay (lay t ty) k) (λ j. get_or new j 0) (first + o)) here
      (subst (λ l. AreFit l (λ j. get_or new j 0) (first + offset)) same_lay fit)

  pub one_more : (parts : List Value) (v : Value) (old cur new : List ℕ) (first : ℕ) → Filled (lay t ty) parts k old cur first
      → Written (part_lay (lay t ty) k) v cur new (first + part_offset (lay t ty) k) → v ≡ get_or parts k no_value → Filled (lay t ty) parts (k + 1) old new first
  one_more parts v old cur new first p w is = filled_more (lay t ty) parts v k old cur new first lying there p w is

  pub one_more_fit : (v : Value) (cur new : List ℕ) (first : ℕ) → Written (part_lay (lay t ty) k) v cur new (first + part_offset (lay t ty) k)
      → AreFit (part_lay (lay t ty) k) (λ j. get_or new j 0) (first + part_offset (lay t ty) k)
      → ((i : ℕ) → i < k → AreFit (part_lay (lay t ty) i) (λ j. get_or cur j 0) (first + part_offset (lay t ty) i))
      → (i : ℕ) → i < k + 1 → AreFit (part_lay (lay t ty) i) (λ j. get_or new j 0) (first + part_offset (lay t ty) i)
  one_more_fit v cur new first w fit before =
      below_more (λ i. AreFit (part_lay (lay t ty) i) (λ j. get_or new j 0) (first + part_offset (lay t ty) i)) k
      (λ i less. still_fit (lay t ty) lying k there cur new first w.others i less (before i less)) fit

-- the item that a walk over the parts comes to
pub item_there : (items parts : List Value) (i k : ℕ) (x : Value) → items ≡ parts → k ≡ i → i < length items → x ≡ get_or items i x → x ≡ get_or parts k no_value
item_there items parts i k x same at lt is = get_or_read items i x lt is no_value ∙ (ap (λ l. get_or l i no_value) same ∙ ap (λ j. get_or parts j no_value) (sym at))
