-- What becomes of types, case by case, and that it is one thing.
use Rattle.std.proofs.Common.{◌≡◌, ◌≢◌, refl, sym, ap, subst, ◌∙◌, ℕ, suc, ◌≤◌, Option, Some, None, List, arith, inl, inr}
use Rattle.std.specs.Prelude.{◌↔◌, IsTrue, Bool, false, slice_get}
use Rattle.shade_values.specs.declared.types.Scalar.{Scalar}
use Rattle.shade_values.specs.declared.types.Scalar.TheVariants as scalar
use Rattle.shade_values.specs.declared.types.ShadeType.{ShadeType}
use Rattle.shade_values.specs.declared.types.ShadeType.TheVariants as type
use Rattle.shade_values.specs.declared.types.TypeId.{TypeId}
use Rattle.shade_values.specs.Table.{Table, StructView}
use Rattle.shade_values.specs.Takes.{Names, IsConcrete}
use Rattle.shade_values.specs.Sound.{IsOver}
use Rattle.shade_known.specs.declared.convert.Conversion.{Conversion}
use Rattle.shade_known.specs.declared.convert.Conversion.TheVariants as conversion
use Rattle.shade_known.specs.Conversions.{Converts, stays, scalars, vectors, arrays, IsScalarConversion, IsConversion, in_arrays}

-- elements of two arrays, of which one becomes the other
pub record AreElements (t : Table) (e f : TypeId) (s : Scalar) : Type 0 where
  pub from : ShadeType
  pub to : ShadeType
  pub first : Names t e from
  pub second : Names t f to
  pub becomes : Converts t from to (Some s)

module _ (t : Table) where
  -- what there is where one type becomes another
  abbrev pub Cases : ShadeType → ShadeType → Option Scalar → Type 0
  Cases from to None = from ≡ to
  Cases (type.Plain x) (type.Plain y) (Some s) = (x ≡ scalar.Abstract) × (y ≡ s) × IsConcrete s
  Cases (type.Vector m x) (type.Vector n y) (Some s) = (m ≡ n) × (x ≡ scalar.Abstract) × (y ≡ s) × IsConcrete s
  Cases (type.Array e m) (type.Array f n) (Some s) =
      (m ≡ n) × AreElements t e f s
  Cases from to (Some s) = ⊥

  pub cases : {from to : ShadeType} {o : Option Scalar} → Converts t from to o → Cases from to o
  cases (stays ty) = refl
  cases (scalars s h) = (refl, refl, h)
  cases (vectors n s h) = (refl, refl, refl, h)
  cases (arrays n s e f from to p q h) = (refl, record { from = from; to = to; first = p; second = q; becomes = h })

  -- what is concrete is not AbstractInt
  not_abstract : (s : Scalar) → IsConcrete s → ¬ (s ≡ scalar.Abstract)
  not_abstract s (inl p) q = absurd (cc)
  not_abstract s (inr p) q = absurd (cc)

  some_one : {A : Type 0} {x y : A} → Some x ≡ Some y → x ≡ y
  some_one p = cc

  -- a type becomes itself in no way but staying
  pub itself : {from to : ShadeType} {o : Option Scalar} → Converts t from to o → from ≡ to → o ≡ None
  itself (stays ty) e = refl
  itself (scalars s h) e = absurd (not_abstract s h (cc))
  itself (vectors n s h) e = absurd (not_abstract s h (cc))
  itself (arrays n s e f from to p q h) same =
      let ids : e ≡ f = cc in
      let there : slice_get t.types e.0 ≡ Some to = ap (λ (z : TypeId). slice_get t.types z.0) ids ∙ q in
      itself h (some_one (sym p ∙ there))

  none_some : {A B : Type 0} {x : A} → Some x ≡ None → B
  none_some e = absurd (cc)

  -- it becomes one thing
  pub becomes_one : {from to : ShadeType} {o : Option Scalar} → Converts t from to o → (p : Option Scalar) → Converts t from to p → o ≡ p
  becomes_one (stays ty) p g = sym (itself g refl)
  becomes_one (scalars s h) None g = none_some (itself (scalars s h) (cases g))
  becomes_one (scalars s h) (Some q) g = ap Some (cases g).1
  becomes_one (vectors n s h) None g = none_some (itself (vectors n s h) (cases g))
  becomes_one (vectors n s h) (Some q) g = ap Some (cases g).2
  becomes_one (arrays n s e f from to a b h) None g = none_some (itself (arrays n s e f from to a b h) (cases g))
  becomes_one (arrays n s e f from to a b h) (Some q) g =
      let w = (cases g).1 in
      let same_from : w.from ≡ from = some_one (sym w.first ∙ a) in
      let same_to : w.to ≡ to = some_one (sym w.second ∙ b) in
      becomes_one h (Some q) (subst (λ z. Converts t z to (Some q)) same_from (subst (λ z. Converts t w.from z (Some q)) same_to w.becomes))

  no_converts : (from to : ShadeType) → from ≢ to → ((s : Scalar) → ¬ Converts t from to (Some s)) → (o : Option Scalar) → ¬ Converts t from to o
  no_converts from to differ never None c = differ (cases c)
  no_converts from to differ never (Some s) c = never s c

  -- ---- what is told of two types

  pub same_types : (from to : ShadeType) → from ≡ to → IsConversion t from to conversion.Stays
  same_types from to e = subst (λ z. Converts t from z None) e (stays from)

  pub unlike_scalars : (x y : Scalar) (r : Conversion) → type.Plain x ≢ type.Plain y → IsScalarConversion x y r → IsConversion t (type.Plain x) (type.Plain y) r
  unlike_scalars x y conversion.Cannot differ h =
      no_converts (type.Plain x) (type.Plain y) differ (λ s c. h ((cases c).0, subst IsConcrete (sym (cases c).1) (cases c).2))
  unlike_scalars x y conversion.Stays differ h = absurd h
  unlike_scalars x y (conversion.Becomes s) differ h =
      subst (λ z. Converts t (type.Plain z) (type.Plain y) (Some s)) (sym h.0) (subst (λ z. Converts t (type.Plain scalar.Abstract) (type.Plain z) (Some s)) (sym h.1) (scalars s h.2))

  pub unlike_vectors : (n : ℕ) (x y : Scalar) (r : Conversion) → type.Vector n x ≢ type.Vector n y → IsScalarConversion x y r → IsConversion t (type.Vector n x) (type.Vector n y) r
  unlike_vectors n x y conversion.Cannot differ h =
      no_converts (type.Vector n x) (type.Vector n y) differ (λ s c. h ((cases c).1, subst IsConcrete (sym (cases c).2) (cases c).3))
  unlike_vectors n x y conversion.Stays differ h = absurd h
  unlike_vectors n x y (conversion.Becomes s) differ h =
      subst (λ z. Converts t (type.Vector n z) (type.Vector n y) (Some s)) (sym h.0)
      (subst (λ z. Converts t (type.Vector n scalar.Abstract) (type.Vector n z) (Some s)) (sym h.1) (vectors n s h.2))

  pub longer_vectors : (m n : ℕ) (x y : Scalar) → m ≢ n → IsConversion t (type.Vector m x) (type.Vector n y) conversion.Cannot
  longer_vectors m n x y differ = no_converts (type.Vector m x) (type.Vector n y) (λ e. differ (cc)) (λ s c. differ (cases c).0)

  pub longer_arrays : (e f : TypeId) (m n : ℕ) → m ≢ n → IsConversion t (type.Array e m) (type.Array f n) conversion.Cannot
  longer_arrays e f m n differ = no_converts (type.Array e m) (type.Array f n) (λ same. differ (cc)) (λ s c. differ (cases c).0)

  module _ (e f : TypeId) (n : ℕ) (differ : type.Array e n ≢ type.Array f n) where
    cannot_by : ((from to : ShadeType) (s : Scalar) → Names t e from → Names t f to → ¬ Converts t from to (Some s)) → IsConversion t (type.Array e n) (type.Array f n) conversion.Cannot
    cannot_by never = no_converts (type.Array e n) (type.Array f n) differ (λ s c. (let w = (cases c).1 in never w.from w.to s w.first w.second w.becomes))

    pub no_first : None ≡ slice_get t.types e.0 → IsConversion t (type.Array e n) (type.Array f n) conversion.Cannot
    no_first is = cannot_by (λ from to s p q c. none_some (sym (is ∙ p)))

    pub no_second : None ≡ slice_get t.types f.0 → IsConversion t (type.Array e n) (type.Array f n) conversion.Cannot
    no_second is = cannot_by (λ from to s p q c. none_some (sym (is ∙ q)))

    pub of_elements : (from to : ShadeType) (r : Conversion) → Some from ≡ slice_get t.types e.0 → Some to ≡ slice_get t.types f.0
        → IsConversion t from to r → IsConversion t (type.Array e n) (type.Array f n) (in_arrays r)
    of_elements from to (conversion.Becomes s) p q h = arrays n s e f from to (sym p) (sym q) h
    of_elements from to conversion.Stays p q h =
        cannot_by (λ a b s u v c. none_some (itself c (some_one (sym u ∙ sym p) ∙ cases h ∙ some_one (q ∙ v))))
    of_elements from to conversion.Cannot p q h =
        cannot_by (λ a b s u v c. h (Some s) (subst (λ z. Converts t z to (Some s)) (some_one (sym u ∙ sym p)) (subst (λ z. Converts t a z (Some s)) (some_one (sym v ∙ sym q)) c)))

  -- types of unlike kinds, and types that are made of nothing
  abbrev pub Unlike : ShadeType → ShadeType → Type 0
  Unlike (type.Plain x) (type.Plain y) = ⊥
  Unlike (type.Vector m x) (type.Vector n y) = ⊥
  Unlike (type.Array e m) (type.Array f n) = ⊥
  Unlike from to = Unit {0}

  no_way : (from to : ShadeType) (s : Scalar) → Unlike from to → Cases from to (Some s) → ⊥
  no_way (type.Plain x) (type.Plain y) s u c = u
  no_way (type.Vector m x) (type.Vector n y) s u c = u
  no_way (type.Array e m) (type.Array f n) s u c = u
  no_way from to s u c = c

  pub unlike_kinds : (from to : ShadeType) → from ≢ to → Unlike from to → IsConversion t from to conversion.Cannot
  unlike_kinds from to differ u = no_converts from to differ (λ s c. no_way from to s u (cases c))

-- ---- how far types lead down

-- above the id of each type of which it is made, if it is an array
abbrev pub rank : ShadeType → ℕ
rank (type.Array e n) = suc e.0
rank ty = 0

pub rank_over : (n : ℕ) (structs : List StructView) (ty : ShadeType) → IsOver n structs ty → rank ty ≤ n
rank_over n structs (type.Plain s) h = omega arith
rank_over n structs (type.Vector k s) h = omega arith
rank_over n structs (type.Array e k) h = omega (arith, h.0)
rank_over n structs (type.RuntimeArray e) h = omega arith
rank_over n structs (type.Atomic s) h = omega arith
rank_over n structs (type.Struct k) h = omega arith
rank_over n structs (type.Exchanged s) h = omega arith
rank_over n structs (type.Pointer sp e access) h = omega arith

pub unlike : {b : Bool} {from to : ShadeType} → IsTrue b ↔ (from ≡ to) → b ≡ false → from ≢ to
unlike same differ e = absurd (let so = same.1 e in cc (so, differ))

module _ (t : Table) (from to : ShadeType) where
  differ_as : (a b : ShadeType) → from ≡ a → to ≡ b → from ≢ to → a ≢ b
  differ_as a b p q differ e = differ (p ∙ e ∙ sym q)

  as_types : (a b : ShadeType) (r : Conversion) → from ≡ a → to ≡ b → IsConversion t a b r → IsConversion t from to r
  as_types a b r p q h = subst (λ z. IsConversion t z to r) (sym p) (subst (λ z. IsConversion t a z r) (sym q) h)

  pub scalars_become : (x y : Scalar) (r : Conversion) → from ≡ type.Plain x → to ≡ type.Plain y → from ≢ to → IsScalarConversion x y r → IsConversion t from to r
  scalars_become x y r p q differ h =
      as_types (type.Plain x) (type.Plain y) r p q (unlike_scalars t x y r (differ_as (type.Plain x) (type.Plain y) p q differ) h)

  pub vectors_become : (m n : ℕ) (x y : Scalar) (r : Conversion) → from ≡ type.Vector m x → to ≡ type.Vector n y → m ≡ n → from ≢ to → IsScalarConversion x y r → IsConversion t from to r
  vectors_become m n x y r p q same differ h =
      let at : from ≡ type.Vector n x = p ∙ ap (λ z. type.Vector z x) same in
      as_types (type.Vector n x) (type.Vector n y) r at q (unlike_vectors t n x y r (differ_as (type.Vector n x) (type.Vector n y) at q differ) h)

  pub arrays_become : (e f : TypeId) (m n : ℕ) (a b : ShadeType) (r all : Conversion) → from ≡ type.Array e m → to ≡ type.Array f n → m ≡ n → from ≢ to
      → Some a ≡ slice_get t.types e.0 → Some b ≡ slice_get t.types f.0 → IsConversion t a b r → all ≡ in_arrays r → IsConversion t from to all
  arrays_become e f m n a b r all p q same differ first second h is =
      let at : from ≡ type.Array e n = p ∙ ap (λ z. type.Array e z) same in
      subst (λ z. IsConversion t from to z) (sym is)
      (as_types (type.Array e n) (type.Array f n) (in_arrays r) at q (of_elements t e f n (differ_as (type.Array e n) (type.Array f n) at q differ) a b r first second h))

  -- what is no scalar, no vector and no array becomes nothing else
  unlike_others : (a : ShadeType) → ((x : Scalar) → a ≢ type.Plain x) → ((n : ℕ) (x : Scalar) → a ≢ type.Vector n x) → ((e : TypeId) (n : ℕ) → a ≢ type.Array e n) → Unlike t a to
  unlike_others (type.Plain x) p v a = absurd (p x refl)
  unlike_others (type.Vector n x) p v a = absurd (v n x refl)
  unlike_others (type.Array e n) p v a = absurd (a e n refl)
  unlike_others (type.RuntimeArray e) p v a = tt
  unlike_others (type.Atomic s) p v a = tt
  unlike_others (type.Struct k) p v a = tt
  unlike_others (type.Exchanged s) p v a = tt
  unlike_others (type.Pointer sp e access) p v a = tt

  pub others_become : ((x : Scalar) → from ≢ type.Plain x) → ((n : ℕ) (x : Scalar) → from ≢ type.Vector n x) → ((e : TypeId) (n : ℕ) → from ≢ type.Array e n)
      → from ≢ to → IsConversion t from to conversion.Cannot
  others_become p v a differ = unlike_kinds t from to differ (unlike_others from p v a)
