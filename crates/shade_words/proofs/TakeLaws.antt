-- What an operation's types say of the words of its arguments and of its result.
use Rattle.std.proofs.Common.{◌≡◌, ℕ, zero, suc, ◌+◌, ◌<◌, inl, inr, List, [], ◌∷◌, Some, map, length, replicate, slice_get, get_or, refl, sym, ap, subst, ◌∙◌, arith}
use Rattle.std.specs.Prelude.{All}
use Rattle.std.proofs.lemmas.List.{length-map, length-replicate}
use Rattle.std.proofs.lemmas.Option.{slice_get_within, get_or_from_slice_get}
use Rattle.shade_values.specs.declared.types.Scalar.{Scalar}
use Rattle.shade_values.specs.declared.types.ShadeType.{ShadeType}
use Rattle.shade_values.specs.declared.types.ShadeType.TheVariants as type
use Rattle.shade_values.specs.declared.types.TypeId.{TypeId}
use Rattle.shade_values.specs.declared.op.Op.TheVariants.{Make, Member, Index}
use Rattle.shade_values.specs.Table.{Table, members_at}
use Rattle.shade_values.specs.Shape.{Shape, member_shapes, shape_at, spell, shapes}
use Rattle.shade_values.specs.Layouts.{layout, offset_after}
use Rattle.shade_values.specs.Apply.{Apply}
use Rattle.shade_values.specs.Numbers.{nearest}
use Rattle.shade_values.specs.Parts.{part_at, parts_of, own_leaf, lane}
use Rattle.shade_values.specs.Sound.{IsSound}
use Rattle.shade_values.specs.Takes.{Names, NamesAll, PartsOf, MemberOf, ElementOf}
use Rattle.shade_words.specs.declared.span.WordSpan.{WordSpan}
use Rattle.shade_words.specs.Forms.{IsFormed}
use Rattle.shade_words.specs.Lays.{leaf, decode, leaf_of}
use Rattle.shade_words.specs.Ways.{part_lay, part_count, field_lay, field_count, IsComposite}
use Rattle.shade_words.specs.Types.{lay_of, fields_of, lay, type_of, HasElements}
use Rattle.shade_words.specs.Spans.{IsSpan, CanApply, CanMake, types_of, values_of, value_of}
use Rattle.shade_words.proofs.Layouts.{count_is}
use Rattle.shade_words.proofs.LeafLaws.{own_one, lane_one}
use Rattle.shade_words.proofs.TypeLaws.{lay_is}
use Rattle.shade_words.proofs.WordLaws.{lay_there}
use Rattle.shade_words.proofs.MemberLaws.{count_members}

some_same : (r x : ShadeType) → Some r ≡ Some x → r ≡ x
some_same r x e = cc

-- the layout of a type is told by the type
pub lay_named : (t : Table) → IsSound t → (a b : TypeId) (ty : ShadeType) → a.0 < length t.types → type_of t a ≡ ty → Names t b ty → lay t a ≡ lay t b
lay_named t sound a b ty known is names =
    lay_there t sound a known ∙ (ap (λ x. lay_of (spell t.structs (shapes t) x)) is ∙ sym (lay_is t sound b ty names))

lay_typed : (t : Table) → IsSound t → (a : TypeId) (ty : ShadeType) → a.0 < length t.types → type_of t a ≡ ty → lay t a ≡ lay_of (spell t.structs (shapes t) ty)
lay_typed t sound a ty known is = lay_there t sound a known ∙ ap (λ x. lay_of (spell t.structs (shapes t) x)) is

-- ---- members

member_there : (known : List Shape) (ms : List (List ℕ × TypeId)) (end k : ℕ) (name : List ℕ) (id : TypeId) → slice_get ms k ≡ Some (name, id)
    → (k < field_count (fields_of end (member_shapes known ms))) × (field_lay (fields_of end (member_shapes known ms)) k ≡ lay_of (shape_at known id))
member_there known [] end k name id e = absurd (cc)
member_there known (m ∷ ms) end zero name id e = (omega arith, ap (λ x. lay_of (shape_at known x.1)) (pair m (name, id) e))
  where
    pair : (a b : List ℕ × TypeId) → Some a ≡ Some b → a ≡ b
    pair a b h = cc
member_there known (m ∷ ms) end (suc k) name id e =
    let later = member_there known ms (offset_after end (layout (shape_at known m.1)) + (layout (shape_at known m.1)).size) k name id e in
    (omega (arith, later.0), later.1)

-- part k of a type
pub record IsPart (t : Table) (base part : TypeId) (k : ℕ) : Type 0 where
  pub there : k < part_count (lay t base)
  pub same : lay t part ≡ part_lay (lay t base) k

part_of_type : (t : Table) → IsSound t → (k : ℕ) (base ty : ShadeType) → MemberOf t k base ty
    → (k < part_count (lay_of (spell t.structs (shapes t) base))) × (lay_of (spell t.structs (shapes t) ty) ≡ part_lay (lay_of (spell t.structs (shapes t) base)) k)
part_of_type t sound k (type.Plain s) ty h = absurd h
part_of_type t sound k (type.Vector n s) ty h = (h.0, ap (λ x. lay_of (spell t.structs (shapes t) x)) h.1)
part_of_type t sound k (type.Array element n) ty h = absurd h
part_of_type t sound k (type.RuntimeArray element) ty h = absurd h
part_of_type t sound k (type.Atomic s) ty h = absurd h
part_of_type t sound k (type.Struct number) ty (name, id, found, names) =
    let p = member_there (shapes t) (members_at t.structs number) 0 k name id found in
    (p.0, sym (lay_is t sound id ty names) ∙ sym p.1)
part_of_type t sound k (type.Exchanged s) ty (inl h) = (
  omega (arith, h.0),
  ap (λ x. lay_of (spell t.structs (shapes t) x)) h.1 ∙ ap (part_lay (lay_of (spell t.structs (shapes t) (type.Exchanged s)))) (sym h.0),
)
part_of_type t sound k (type.Exchanged s) ty (inr h) = (
  omega (arith, h.0),
  ap (λ x. lay_of (spell t.structs (shapes t) x)) h.1 ∙ ap (part_lay (lay_of (spell t.structs (shapes t) (type.Exchanged s)))) (sym h.0),
)
part_of_type t sound k (type.Pointer space pointee access) ty h = absurd h

-- the one argument of an operation
one_type : (t : Table) (args : List WordSpan) (base : ShadeType) → types_of t args ≡ base ∷ [] → (a : WordSpan) × (args ≡ a ∷ []) × (type_of t a.ty ≡ base)
one_type t [] base e = absurd (cc)
one_type t (a ∷ []) base e = (a, refl, ap (λ l. get_or l 0 base) e)
one_type t (a ∷ b ∷ args) base e = absurd (cc)

two_types : (t : Table) (args : List WordSpan) (x y : ShadeType) → types_of t args ≡ x ∷ y ∷ []
    → (a : WordSpan) × (b : WordSpan) × (args ≡ a ∷ b ∷ []) × (type_of t a.ty ≡ x) × (type_of t b.ty ≡ y)
two_types t [] x y e = absurd (cc)
two_types t (a ∷ []) x y e = absurd (cc)
two_types t (a ∷ b ∷ []) x y e = (a, b, refl, ap (λ l. get_or l 0 x) e, ap (λ l. get_or l 1 y) e)
two_types t (a ∷ b ∷ c ∷ args) x y e = absurd (cc)

-- what Member takes
pub record OneArg (t : Table) (args : List WordSpan) (result : WordSpan) (k : ℕ) : Type 0 where
  pub arg : WordSpan
  pub is : args ≡ arg ∷ []
  pub part : IsPart t arg.ty result.ty k

pub member_takes : (t : Table) → IsSound t → (k : ℕ) (args : List WordSpan) (long : ℕ) (result : WordSpan) → CanApply t (Member k) args long result → OneArg t args result k
member_takes t sound k args long result can =
    let base = can.takes.0 in
    let ty = can.takes.1 in
    let of = can.takes.2 in
    let e = can.takes.3 in
    let is = can.takes.4 in
    let one = one_type t args base e in
    let known : one.0.ty.0 < length t.types = (subst (All (IsSpan t long)) one.1 can.spans 0 one.0 (omega arith)).known in
    let p = part_of_type t sound k base ty of in
    let there = lay_typed t sound one.0.ty base known one.2 in
    let here = lay_typed t sound result.ty ty can.place.known (some_same (type_of t result.ty) ty is) in
    record {
      arg = one.0;
      is = one.1;
      part = record {
        there = subst (λ l. k < part_count l) (sym there) p.0;
        same = here ∙ (p.1 ∙ ap (λ l. part_lay l k) (sym there));
      };
    }

-- ---- elements

element_of_type : (t : Table) → IsSound t → (k : ℕ) (base ty : ShadeType) → ElementOf t base ty
    → HasElements base × (lay_of (spell t.structs (shapes t) ty) ≡ part_lay (lay_of (spell t.structs (shapes t) base)) k)
element_of_type t sound k (type.Plain s) ty h = absurd h
element_of_type t sound k (type.Vector n s) ty h = (tt, ap (λ x. lay_of (spell t.structs (shapes t) x)) h)
element_of_type t sound k (type.Array element n) ty h = (tt, sym (lay_is t sound element ty h))
element_of_type t sound k (type.RuntimeArray element) ty h = absurd h
element_of_type t sound k (type.Atomic s) ty h = absurd h
element_of_type t sound k (type.Struct number) ty h = absurd h
element_of_type t sound k (type.Exchanged s) ty h = absurd h
element_of_type t sound k (type.Pointer space pointee access) ty h = absurd h

-- what Index takes
pub record TwoArgs (t : Table) (args : List WordSpan) (result : WordSpan) : Type 0 where
  pub base : WordSpan
  pub index : WordSpan
  pub is : args ≡ base ∷ index ∷ []
  pub elements : HasElements (type_of t base.ty)
  pub formed : IsFormed (type_of t index.ty)
  pub scalar : Scalar
  pub plain : lay t index.ty ≡ leaf scalar
  pub same : (k : ℕ) → lay t result.ty ≡ part_lay (lay t base.ty) k

pub index_takes : (t : Table) → IsSound t → (args : List WordSpan) (long : ℕ) (result : WordSpan) → CanApply t Index args long result → TwoArgs t args result
index_takes t sound args long result can =
    let base = can.takes.0 in
    let s = can.takes.1 in
    let ty = can.takes.2 in
    let of = can.takes.4 in
    let e = can.takes.5 in
    let is = can.takes.6 in
    let two = two_types t args base (type.Plain s) e in
    let spans = subst (All (IsSpan t long)) two.2 can.spans in
    let first : two.0.ty.0 < length t.types = (spans 0 two.0 (omega arith)).known in
    let second : two.1.ty.0 < length t.types = (spans 1 two.0 (omega arith)).known in
    let there = lay_typed t sound two.0.ty base first two.3 in
    let here = lay_typed t sound result.ty ty can.place.known (some_same (type_of t result.ty) ty is) in
    record {
      base = two.0;
      index = two.1;
      is = two.2;
      elements = subst HasElements (sym two.3) (element_of_type t sound 0 base ty of).0;
      formed = subst IsFormed (sym two.4) tt;
      scalar = s;
      plain = lay_typed t sound two.1.ty (type.Plain s) second two.4;
      same = λ k. here ∙ ((element_of_type t sound k base ty of).1 ∙ ap (λ l. part_lay l k) (sym there));
    }

-- ---- parts of a new value

types_long : (t : Table) (args : List WordSpan) → length (types_of t args) ≡ length args
types_long t args = length-map args (λ a. type_of t a.ty)

type_at : (t : Table) (args : List WordSpan) (tys : List ShadeType) (k : ℕ) (a : WordSpan) → types_of t args ≡ tys → slice_get args k ≡ Some a → slice_get tys k ≡ Some (type_of t a.ty)
type_at t args tys k a e found = subst (λ l. slice_get l k ≡ Some (type_of t a.ty)) e (mapped args k found)
  where
    mapped : (spans : List WordSpan) (n : ℕ) → slice_get spans n ≡ Some a → slice_get (types_of t spans) n ≡ Some (type_of t a.ty)
    mapped [] n h = absurd (cc)
    mapped (b ∷ spans) zero h = ap (λ x. Some (type_of t x.ty)) (one b a h)
      where
        one : (x y : WordSpan) → Some x ≡ Some y → x ≡ y
        one x y p = cc
    mapped (b ∷ spans) (suc n) h = mapped spans n h

all_named : (t : Table) (ids : List TypeId) (tys : List ShadeType) (k : ℕ) (ty : ShadeType) → NamesAll t ids tys → slice_get tys k ≡ Some ty → (id : TypeId) × (slice_get ids k ≡ Some id) × Names t id ty
all_named t [] [] k ty h e = absurd (cc)
all_named t [] (x ∷ tys) k ty h e = absurd h
all_named t (id ∷ ids) [] k ty h e = absurd h
all_named t (id ∷ ids) (x ∷ tys) zero ty h e = (id, refl, subst (Names t id) (some_same x ty e) h.0)
all_named t (id ∷ ids) (x ∷ tys) (suc k) ty h e = all_named t ids tys k ty h.1 e

named_long : (t : Table) (ids : List TypeId) (tys : List ShadeType) → NamesAll t ids tys → length tys ≡ length ids
named_long t [] [] h = refl
named_long t [] (x ∷ tys) h = absurd h
named_long t (id ∷ ids) [] h = absurd h
named_long t (id ∷ ids) (x ∷ tys) h = ap suc (named_long t ids tys h.1)

members_named : (known : List Shape) (ms : List (List ℕ × TypeId)) (end k : ℕ) (id : TypeId) → slice_get (map (λ m. m.1) ms) k ≡ Some id
    → field_lay (fields_of end (member_shapes known ms)) k ≡ lay_of (shape_at known id)
members_named known [] end k id e = absurd (cc)
members_named known (m ∷ ms) end zero id e = ap (λ x. lay_of (shape_at known x)) (one m.1 id e)
  where
    one : (x y : TypeId) → Some x ≡ Some y → x ≡ y
    one x y p = cc
members_named known (m ∷ ms) end (suc k) id e =
    members_named known ms (offset_after end (layout (shape_at known m.1)) + (layout (shape_at known m.1)).size) k id e

replicate_at : (n : ℕ) (x y : ShadeType) (k : ℕ) → slice_get (replicate n x) k ≡ Some y → x ≡ y
replicate_at zero x y k e = absurd (cc)
replicate_at (suc n) x y zero e = some_same x y e
replicate_at (suc n) x y (suc k) e = replicate_at n x y k e

-- the parts of a new array or struct
parts_of_type : (t : Table) → IsSound t → (ty : ShadeType) (tys : List ShadeType) → PartsOf t ty tys
    → IsComposite (lay_of (spell t.structs (shapes t) ty))
    × (length tys ≡ part_count (lay_of (spell t.structs (shapes t) ty)))
    × ((k : ℕ) (x : ShadeType) → slice_get tys k ≡ Some x → lay_of (spell t.structs (shapes t) x) ≡ part_lay (lay_of (spell t.structs (shapes t) ty)) k)
parts_of_type t sound (type.Plain s) tys h = absurd h
parts_of_type t sound (type.Vector n s) tys h = absurd h
parts_of_type t sound (type.Array element n) tys (ty, names, e) = (
  tt,
  ap length e ∙ length-replicate n ty,
  λ k x found. ap (λ y. lay_of (spell t.structs (shapes t) y)) (sym (replicate_at n ty x k (subst (λ l. slice_get l k ≡ Some x) e found))) ∙ sym (lay_is t sound element ty names),
)
parts_of_type t sound (type.RuntimeArray element) tys h = absurd h
parts_of_type t sound (type.Atomic s) tys h = absurd h
parts_of_type t sound (type.Struct number) tys h = (
  tt,
  named_long t (map (λ m. m.1) (members_at t.structs number)) tys h ∙ (length-map (members_at t.structs number) (λ m. m.1) ∙ sym (count_members (shapes t) (members_at t.structs number) 0)),
  λ k x found. let p = all_named t (map (λ m. m.1) (members_at t.structs number)) tys k x h found in
      sym (lay_is t sound p.0 x p.2) ∙ sym (members_named (shapes t) (members_at t.structs number) 0 k p.0 p.1),
)
parts_of_type t sound (type.Exchanged s) tys h = absurd h
parts_of_type t sound (type.Pointer space pointee access) tys h = absurd h

pub make_takes : (t : Table) → IsSound t → (id : TypeId) (args : List WordSpan) (long : ℕ) (result : WordSpan) → CanApply t (Make id) args long result → CanMake t args long result
make_takes t sound id args long result can =
    let ty = can.takes.0 in
    let of = can.takes.2 in
    let is = can.takes.3 in
    let p = parts_of_type t sound ty (types_of t args) of in
    let there = lay_typed t sound result.ty ty can.place.known (some_same (type_of t result.ty) ty is) in
    record {
      spans = can.spans;
      place = can.place;
      apart = can.apart;
      composite = subst IsComposite (sym there) p.0;
      count = sym (types_long t args) ∙ (p.1 ∙ ap part_count (sym there));
      parts = λ k a found.
          let known : a.ty.0 < length t.types = subst (λ x. x.ty.0 < length t.types) (get_or_from_slice_get args k a a found) (can.spans k a (slice_get_within args k a found)).known in
          lay_there t sound a.ty known ∙ (p.2 k (type_of t a.ty) (type_at t args (types_of t args) k a refl found) ∙ ap (λ l. part_lay l k) (sym there));
    }

-- the element that an index names
pub element_told : (t : Table) (w : ℕ → ℕ) (args : List WordSpan) (result : WordSpan) → TwoArgs t args result → (d : WordSpan) (k : ℕ)
    → k ≡ nearest (lane 0 (value_of t w (get_or args 1 d))).number (part_count (lay t (get_or args 0 d).ty))
    → part_at (value_of t w (get_or args 0 d)) k ≡ Apply Index (values_of t w args)
element_told t w args result two d k is =
    let a = two.base in
    let i = two.index in
    let here : k ≡ nearest (lane 0 (value_of t w i)).number (part_count (lay t a.ty)) =
    subst (λ l. k ≡ nearest (lane 0 (value_of t w (get_or l 1 d))).number (part_count (lay t (get_or l 0 d).ty))) two.is is in
    let own : lane 0 (value_of t w i) ≡ own_leaf (value_of t w i) =
    subst (λ l. lane 0 (decode l w i.first) ≡ own_leaf (decode l w i.first)) (sym two.plain) (lane_one 0 (leaf_of two.scalar (w i.first)) ∙ sym (own_one (leaf_of two.scalar (w i.first)))) in
    let told : k ≡ nearest (own_leaf (value_of t w i)).number (length (parts_of (value_of t w a))) =
    here ∙ (ap (λ x. nearest x.number (part_count (lay t a.ty))) own ∙ ap (nearest (own_leaf (value_of t w i)).number) (sym (count_is (lay t a.ty) w a.first))) in
    subst (λ l. part_at (value_of t w (get_or l 0 d)) k ≡ Apply Index (values_of t w l)) (sym two.is) (ap (part_at (value_of t w a)) told)
