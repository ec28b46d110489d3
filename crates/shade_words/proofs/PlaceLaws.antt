-- The parts of the values of a type, and the words that hold scalars, as the code tells them.
use Rattle.std.proofs.Common.{◌≡◌, ◌≢◌, ℕ, zero, suc, ◌+◌, ◌*◌, ◌/◌, ◌%◌, ◌<◌, ◌≤◌, ◌⊎◌, inl, inr, List, [], length, Some, slice_get, refl, sym, ap, subst, ◌∙◌, arith}
use Rattle.std.specs.Prelude.{◌↔◌, Option, None, IfSome, IfNone, IsTrue, nat_eq, nat_lt}
use Rattle.std.proofs.lemmas.Bool.Decides.{nat_tests}
use Rattle.std.proofs.lemmas.Nat.{mod-mul-add}
use Rattle.std.proofs.lemmas.Option.{get_or_from_slice_get, slice_get-get_or}
use Rattle.shade_values.specs.declared.types.Scalar.{Scalar}
use Rattle.shade_values.specs.declared.types.Scalar.TheVariants as scalar
use Rattle.shade_values.specs.declared.types.ShadeType.{ShadeType}
use Rattle.shade_values.specs.declared.types.ShadeType.TheVariants.{Plain, Vector, Array, RuntimeArray, Atomic, Struct, Exchanged, Pointer}
use Rattle.shade_values.specs.declared.types.TypeId.{TypeId}
use Rattle.shade_values.specs.Table.{Table, StructView, members_at}
use Rattle.shade_values.specs.Shape.{Shape, shape_at, member_shapes, spell, shapes, shape_of}
use Rattle.shade_values.specs.Layouts.{layout, layouts, stride_of, end_after, greatest_size}
use Rattle.shade_values.specs.Sound.{IsSound, AreKnown}
use Rattle.shade_values.proofs.ShapeLaws.{shape_is}
use Rattle.shade_words.specs.Lays.{Lay, leaf, row, fields, IsLay, Ascends, Covers, AnyCovers}
use Rattle.shade_words.specs.Ways.{part_offset, part_count}
use Rattle.shade_words.specs.Types.{lay_of, lay, type_of, members_lay, IsStruct, HasElements, HasParts}
use Rattle.shade_words.specs.declared.members.PartWord.{PartWord}
use Rattle.shade_values.specs.declared.types.Space.{Space}
use Rattle.shade_values.specs.declared.types.Access.{Access}
use Rattle.shade_words.proofs.Layouts.{covers_within}
use Rattle.shade_words.proofs.TypeLaws.{rounded_up, lies_at, lay_lies, lay_is}

-- ---- offsets

pub vector_offset : (t : Table) → IsSound t → (id : TypeId) (n k : ℕ) (s : Scalar) → slice_get t.types id.0 ≡ Some (Vector n s) → k ≡ part_offset (lay t id) k
vector_offset t sound id n k s e = (let times : k ≡ k * 1 = omega arith in times ∙ ap (λ l. part_offset l k) (sym (lay_is t sound id (Vector n s) e)))

two_offset : (s : Scalar) (k : ℕ) → k < 2 → k ≡ part_offset (lay_of (spell [] [] (Exchanged s))) k
two_offset s zero lt = refl
two_offset s (suc zero) lt = refl
two_offset s (suc (suc k)) lt = absurd (omega (arith, lt))

pub exchanged_offset : (t : Table) → IsSound t → (id : TypeId) (k : ℕ) (s : Scalar) → slice_get t.types id.0 ≡ Some (Exchanged s) → k < part_count (lay t id) → k ≡ part_offset (lay t id) k
exchanged_offset t sound id k s e lt =
    let same = lay_is t sound id (Exchanged s) e in
    two_offset s k (subst (λ l. k < part_count l) same lt) ∙ ap (λ l. part_offset l k) (sym same)

-- the distance of two elements, in words
pub array_stride : (t : Table) → IsSound t → (id element : TypeId) (n : ℕ) → slice_get t.types id.0 ≡ Some (Array element n) → lay t id ≡ row (lay t element) n ((layout (shape_of t id)).stride / 4)
array_stride t sound id element n e =
    lay_is t sound id (Array element n) e ∙ ap (λ x. row (lay t element) n ((layout x).stride / 4)) (sym (shape_is t sound.over id.0 (Array element n) e))

pub runtime_stride : (t : Table) → IsSound t → (id element : TypeId) → slice_get t.types id.0 ≡ Some (RuntimeArray element) → lay t id ≡ row (lay t element) 1 ((layout (shape_of t id)).stride / 4)
runtime_stride t sound id element e =
    lay_is t sound id (RuntimeArray element) e ∙ ap (λ x. row (lay t element) 1 ((layout x).stride / 4)) (sym (shape_is t sound.over id.0 (RuntimeArray element) e))

pub array_offset : (t : Table) → IsSound t → (id element : TypeId) (n k : ℕ) → slice_get t.types id.0 ≡ Some (Array element n) → k * ((layout (shape_of t id)).stride / 4) ≡ part_offset (lay t id) k
array_offset t sound id element n k e = ap (λ l. part_offset l k) (sym (array_stride t sound id element n e))

pub struct_lay : (t : Table) → IsSound t → (id : TypeId) (number : ℕ) → slice_get t.types id.0 ≡ Some (Struct number)
    → lay t id ≡ fields ((layout (spell t.structs (shapes t) (Struct number))).size / 4) (members_lay t number)
struct_lay t sound id number e = lay_is t sound id (Struct number) e

pub struct_offset : (t : Table) → IsSound t → (id : TypeId) (number k : ℕ) → slice_get t.types id.0 ≡ Some (Struct number) → part_offset (fields 0 (members_lay t number)) k ≡ part_offset (lay t id) k
struct_offset t sound id number k e = ap (λ l. part_offset l k) (sym (struct_lay t sound id number e))

-- a type with at most one part, which begins where the whole does
other_offset : (structs : List StructView) (known : List Shape) (ty : ShadeType) (k : ℕ)
    → ((n : ℕ) (s : Scalar) → ty ≢ Vector n s) → ((s : Scalar) → ty ≢ Exchanged s) → ((e : TypeId) (n : ℕ) → ty ≢ Array e n) → ((n : ℕ) → ty ≢ Struct n)
    → k < part_count (lay_of (spell structs known ty)) → 0 ≡ part_offset (lay_of (spell structs known ty)) k
other_offset structs known (Plain s) k v x a m lt = absurd (omega (arith, lt))
other_offset structs known (Vector n s) k v x a m lt = absurd (v n s refl)
other_offset structs known (Array e n) k v x a m lt = absurd (a e n refl)
other_offset structs known (RuntimeArray e) k v x a m lt = once k lt
  where
    once : (j : ℕ) → j < 1 → 0 ≡ j * (stride_of (layout (shape_at known e)) / 4)
    once zero less = omega arith
    once (suc j) less = absurd (omega (arith, less))
other_offset structs known (Atomic s) k v x a m lt = absurd (omega (arith, lt))
other_offset structs known (Struct n) k v x a m lt = absurd (m n refl)
other_offset structs known (Exchanged s) k v x a m lt = absurd (x s refl)
other_offset structs known (Pointer space pointee access) k v x a m lt = absurd (omega (arith, lt))

pub no_offset : (t : Table) → IsSound t → (id : TypeId) (ty : ShadeType) (k : ℕ) → slice_get t.types id.0 ≡ Some ty
    → ((n : ℕ) (s : Scalar) → ty ≢ Vector n s) → ((s : Scalar) → ty ≢ Exchanged s) → ((e : TypeId) (n : ℕ) → ty ≢ Array e n) → ((n : ℕ) → ty ≢ Struct n)
    → k < part_count (lay t id) → 0 ≡ part_offset (lay t id) k
no_offset t sound id ty k e v x a m lt =
    let same = lay_is t sound id ty e in
    other_offset t.structs (shapes t) ty k v x a m (subst (λ l. k < part_count l) same lt) ∙ ap (λ l. part_offset l k) (sym same)

-- ---- structs

-- ids below a number are below a greater one
known_more : (m n : ℕ) (ms : List (List ℕ × TypeId)) → m ≤ n → AreKnown m ms → AreKnown n ms
known_more m n ms le known = λ k d lt. omega (arith, le, known k d lt)

-- the struct that a type of the table is
pub struct_is : (t : Table) → IsSound t → (id : TypeId) (number : ℕ) → id.0 < length t.types → slice_get t.types id.0 ≡ Some (Struct number) → (layout (shape_of t id)).size ≤ greatest_size → IsStruct t number
struct_is t sound id number known e small =
    let over = sound.over id.0 (Struct number) e in
    let same : (layout (shape_of t id)).size ≡ (layout (spell t.structs (shapes t) (Struct number))).size = ap (λ x. (layout x).size) (shape_is t sound.over id.0 (Struct number) e) in
    record {
      sound = sound;
      known = over.0;
      members = known_more id.0 (length t.types) (members_at t.structs number) (omega (arith, known)) over.2;
      small = omega (arith, small, same, rounded_up (end_after 0 (layouts (member_shapes (shapes t) (members_at t.structs number)))) (layout (spell t.structs (shapes t) (Struct number))).align);
    }

-- the members of each struct lie one behind the other
pub members_ascend_all : (t : Table) → IsSound t → (number : ℕ) → number < length t.structs → (words : ℕ) × Ascends 0 words (members_lay t number)
members_ascend_all t sound number known =
    let there = sound.stand number known in
    let found : slice_get t.types there.0 ≡ Some (Struct number) = slice_get-get_or t.types there.0 (Struct number) there.1 ∙ ap (λ x. Some x) there.2 in (
      (layout (spell t.structs (shapes t) (Struct number))).size / 4,
      subst (λ x. IsLay (lay_of x)) (shape_is t sound.over there.0 (Struct number) found) (lies_at t sound there.0).lies,
    )

-- ---- words that are covered

pub vector_covers : (n i : ℕ) (s : Scalar) → (i < n) ↔ Covers (row (leaf s) n 1) i
vector_covers n i s = (λ lt. (i, 0, lt, omega arith, refl), λ c. omega (arith, c.2, c.3, c.4))

pub exchanged_covers : (i : ℕ) (s : Scalar) → (i < 2) ↔ Covers (lay_of (spell [] [] (Exchanged s))) i
exchanged_covers i s = (there i, back)
  where
    there : (j : ℕ) → j < 2 → Covers (lay_of (spell [] [] (Exchanged s))) j
    there zero lt = inl (0, refl, refl)
    there (suc zero) lt = inr (inl (0, refl, refl))
    there (suc (suc j)) lt = absurd (omega (arith, lt))

    back : Covers (lay_of (spell [] [] (Exchanged s))) i → i < 2
    back (inl (j, is, c)) = omega (arith, is, c)
    back (inr (inl (j, is, c))) = omega (arith, is, c)
    back (inr (inr c)) = absurd c

-- a word of element k, as the whole says
pub row_covers : (e : Lay) (n stride word k j : ℕ) → IsLay (row e n stride) → k < n → word ≡ k * stride + j → j < stride → Covers e j ↔ Covers (row e n stride) word
row_covers e n stride word k j ok lt is less = (λ c. (k, j, lt, is, c), back)
  where
    back : Covers (row e n stride) word → Covers e j
    back (m, i, low, at, c) =
        let short : i < stride = omega (arith, covers_within e i ok.0 c, ok.1) in
        let same : i ≡ j = sym (mod-mul-add m stride i short) ∙ (ap (λ x. x % stride) (sym at ∙ is) ∙ mod-mul-add k stride j less) in
        subst (Covers e) same c

pub row_covers_none : (e : Lay) (n stride word : ℕ) → IsLay (row e n stride) → ((k j : ℕ) → k < n → j < stride → word ≢ k * stride + j) → ¬ Covers (row e n stride) word
row_covers_none e n stride word ok none (k, j, lt, is, c) = none k j lt (omega (arith, covers_within e j ok.0 c, ok.1)) is

-- ---- types that stand in the table

pub type_is : (t : Table) (id : TypeId) (ty : ShadeType) → slice_get t.types id.0 ≡ Some ty → type_of t id ≡ ty
type_is t id ty e = get_or_from_slice_get t.types id.0 ty (Plain scalar.Bool) e

pub no_elements : (ty : ShadeType) → HasElements ty → ((n : ℕ) (s : Scalar) → ty ≢ Vector n s) → ((e : TypeId) (n : ℕ) → ty ≢ Array e n) → ⊥
no_elements (Vector n s) h v a = v n s refl
no_elements (Array e n) h v a = a e n refl
no_elements (Plain s) h v a = h
no_elements (RuntimeArray e) h v a = h
no_elements (Atomic s) h v a = h
no_elements (Struct n) h v a = h
no_elements (Exchanged s) h v a = h
no_elements (Pointer space pointee access) h v a = h

pub no_parts : (ty : ShadeType) → HasParts ty → ((e : TypeId) (n : ℕ) → ty ≢ Array e n) → ((e : TypeId) → ty ≢ RuntimeArray e) → ((n : ℕ) → ty ≢ Struct n) → ⊥
no_parts (Vector n s) h a r m = h
no_parts (Array e n) h a r m = a e n refl
no_parts (Plain s) h a r m = h
no_parts (RuntimeArray e) h a r m = r e refl
no_parts (Atomic s) h a r m = h
no_parts (Struct n) h a r m = m n refl
no_parts (Exchanged s) h a r m = h
no_parts (Pointer space pointee access) h a r m = h

-- ---- a word of an element or a member

module _ (t : Table) (sound : IsSound t) (id element : TypeId) (n word : ℕ) (names : slice_get t.types id.0 ≡ Some (Array element n)) (stride : ℕ) where
  pub array_below : (r : Option PartWord) → IfSome r (λ p. (p.ty ≡ element) × ((k : ℕ) × (k < n) × (word ≡ k * stride + p.word) × (p.word < stride))) → IfSome r (λ p. p.ty.0 < id.0)
  array_below (Some p) h = (let e : p.ty.0 ≡ element.0 = ap (λ x. x.0) h.0 in omega (arith, e, (sound.over id.0 (Array element n) names).0))
  array_below None h = tt

  module _ (is : stride ≡ (layout (shape_of t id)).stride / 4) where
    lies : lay t id ≡ row (lay t element) n stride
    lies = array_stride t sound id element n names ∙ ap (row (lay t element) n) (sym is)

    fine : IsLay (row (lay t element) n stride)
    fine = subst IsLay lies (lay_lies t sound id).lies

    pub array_some : (r : Option PartWord) → IfSome r (λ p. (p.ty ≡ element) × ((k : ℕ) × (k < n) × (word ≡ k * stride + p.word) × (p.word < stride))) → IfSome r (λ p. Covers (lay t p.ty) p.word ↔ Covers (lay t id) word)
    array_some (Some p) h =
        let both = row_covers (lay t element) n stride word h.1.0 p.word fine h.1.1 h.1.2 h.1.3 in
        let same : lay t p.ty ≡ lay t element = ap (lay t) h.0 in
        (λ c. subst (λ l. Covers l word) (sym lies) (both.0 (subst (λ l. Covers l p.word) same c)), λ c. subst (λ l. Covers l p.word) (sym same) (both.1 (subst (λ l. Covers l word) lies c)))
    array_some None h = tt

    pub array_none : (r : Option PartWord) → IfNone r ((k j : ℕ) → k < n → j < stride → word ≢ k * stride + j) → IfNone r (¬ Covers (lay t id) word)
    array_none (Some p) h = tt
    array_none None h = λ c. row_covers_none (lay t element) n stride word fine h (subst (λ l. Covers l word) lies c)

module _ (t : Table) (sound : IsSound t) (id element : TypeId) (word : ℕ) (names : slice_get t.types id.0 ≡ Some (RuntimeArray element)) (stride : ℕ) where
  pub runtime_below : (r : Option PartWord) → IfSome r (λ p. (p.ty ≡ element) × ((k : ℕ) × (k < 1) × (word ≡ k * stride + p.word) × (p.word < stride))) → IfSome r (λ p. p.ty.0 < id.0)
  runtime_below (Some p) h = (let e : p.ty.0 ≡ element.0 = ap (λ x. x.0) h.0 in omega (arith, e, sound.over id.0 (RuntimeArray element) names))
  runtime_below None h = tt

  module _ (is : stride ≡ (layout (shape_of t id)).stride / 4) where
    once : lay t id ≡ row (lay t element) 1 stride
    once = runtime_stride t sound id element names ∙ ap (row (lay t element) 1) (sym is)

    well : IsLay (row (lay t element) 1 stride)
    well = subst IsLay once (lay_lies t sound id).lies

    pub runtime_some : (r : Option PartWord) → IfSome r (λ p. (p.ty ≡ element) × ((k : ℕ) × (k < 1) × (word ≡ k * stride + p.word) × (p.word < stride))) → IfSome r (λ p. Covers (lay t p.ty) p.word ↔ Covers (lay t id) word)
    runtime_some (Some p) h =
        let both = row_covers (lay t element) 1 stride word h.1.0 p.word well h.1.1 h.1.2 h.1.3 in
        let same : lay t p.ty ≡ lay t element = ap (lay t) h.0 in
        (λ c. subst (λ l. Covers l word) (sym once) (both.0 (subst (λ l. Covers l p.word) same c)), λ c. subst (λ l. Covers l p.word) (sym same) (both.1 (subst (λ l. Covers l word) once c)))
    runtime_some None h = tt

    pub runtime_none : (r : Option PartWord) → IfNone r ((k j : ℕ) → k < 1 → j < stride → word ≢ k * stride + j) → IfNone r (¬ Covers (lay t id) word)
    runtime_none (Some p) h = tt
    runtime_none None h = λ c. row_covers_none (lay t element) 1 stride word well h (subst (λ l. Covers l word) once c)

module _ (t : Table) (sound : IsSound t) (id : TypeId) (number word : ℕ) (names : slice_get t.types id.0 ≡ Some (Struct number)) where
  pub struct_some : (r : Option PartWord) → IfSome r (λ p. Covers (lay t p.ty) p.word ↔ AnyCovers (members_lay t number) word) → IfSome r (λ p. Covers (lay t p.ty) p.word ↔ Covers (lay t id) word)
  struct_some (Some p) h =
      (λ c. subst (λ l. Covers l word) (sym (struct_lay t sound id number names)) (h.0 c), λ c. h.1 (subst (λ l. Covers l word) (struct_lay t sound id number names) c))
  struct_some None h = tt

  pub struct_none : (r : Option PartWord) → IfNone r (¬ AnyCovers (members_lay t number) word) → IfNone r (¬ Covers (lay t id) word)
  struct_none (Some p) h = tt
  struct_none None h = λ c. h (subst (λ l. Covers l word) (struct_lay t sound id number names) c)

-- ---- types without parts of their own

pub leaf_covers : (t : Table) → IsSound t → (id : TypeId) (s : Scalar) (word : ℕ) → (slice_get t.types id.0 ≡ Some (Plain s)) ⊎ (slice_get t.types id.0 ≡ Some (Atomic s)) → (word ≡ 0) ↔ Covers (lay t id) word
leaf_covers t sound id s word (inl e) =
    (λ h. subst (λ l. Covers l word) (sym (lay_is t sound id (Plain s) e)) h, λ c. subst (λ l. Covers l word) (lay_is t sound id (Plain s) e) c)
leaf_covers t sound id s word (inr e) =
    (λ h. subst (λ l. Covers l word) (sym (lay_is t sound id (Atomic s) e)) h, λ c. subst (λ l. Covers l word) (lay_is t sound id (Atomic s) e) c)

pub vector_word : (t : Table) → IsSound t → (id : TypeId) (n word : ℕ) (s : Scalar) → slice_get t.types id.0 ≡ Some (Vector n s) → (word < n) ↔ Covers (lay t id) word
vector_word t sound id n word s e =
    let both = vector_covers n word s in
    (λ h. subst (λ l. Covers l word) (sym (lay_is t sound id (Vector n s) e)) (both.0 h), λ c. both.1 (subst (λ l. Covers l word) (lay_is t sound id (Vector n s) e) c))

pub exchanged_word : (t : Table) → IsSound t → (id : TypeId) (word : ℕ) (s : Scalar) → slice_get t.types id.0 ≡ Some (Exchanged s) → (word < 2) ↔ Covers (lay t id) word
exchanged_word t sound id word s e =
    let both = exchanged_covers word s in
    (λ h. subst (λ l. Covers l word) (sym (lay_is t sound id (Exchanged s) e)) (both.0 h), λ c. both.1 (subst (λ l. Covers l word) (lay_is t sound id (Exchanged s) e) c))

pub pointer_word : (t : Table) → IsSound t → (id : TypeId) (word : ℕ) (space : Space) (pointee : TypeId) (access : Access) → slice_get t.types id.0 ≡ Some (Pointer space pointee access) → ¬ Covers (lay t id) word
pointer_word t sound id word space pointee access e c = subst (λ l. Covers l word) (lay_is t sound id (Pointer space pointee access) e) c

-- a test that is so exactly where something holds
pub by_eq : (a b : ℕ) (P : Type 0) → (a ≡ b) ↔ P → IsTrue (nat_eq a b) ↔ P
by_eq a b P h = (λ x. h.0 (grind (arith, nat_tests)), λ p. (let e : a ≡ b = h.1 p in grind (arith, nat_tests)))

pub by_less : (a b : ℕ) (P : Type 0) → (a < b) ↔ P → IsTrue (nat_lt a b) ↔ P
by_less a b P h = (λ x. h.0 (grind (arith, nat_tests)), λ p. (let e : a < b = h.1 p in grind (arith, nat_tests)))
