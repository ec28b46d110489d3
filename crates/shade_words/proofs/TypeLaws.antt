-- How the values of a table's types lie in words: as the layout in bytes says, with parts that do not meet.
use Rattle.std.proofs.Common.{◌≡◌, ℕ, zero, suc, ◌+◌, ◌*◌, ◌/◌, ◌%◌, ◌<◌, ◌≤◌, ◌⊎◌, inl, inr, max, List, [], ◌∷◌, ◌++◌, fold, Some, slice_get, get_or, refl, sym, ap, subst, ◌∙◌, arith}
use Rattle.std.specs.Int.{next_multiple_of}
use Rattle.shade_values.specs.declared.types.ShadeType.{ShadeType}
use Rattle.shade_values.specs.declared.types.ShadeType.TheVariants.{Plain, Vector, Array, RuntimeArray, Atomic, Struct, Exchanged, Pointer}
use Rattle.shade_values.specs.declared.types.TypeId.{TypeId}
use Rattle.shade_values.specs.Table.{Table, StructView, members_at}
use Rattle.shade_values.specs.Shape.{Shape, plain, vector, array, runtime_array, atomic, structure, exchanged, pointer, Shapes, no_member, member, member_shapes, spell, with_spelling, shapes, shape_of}
use Rattle.shade_values.specs.Layouts.{layout, layouts, stride_of, offset_after, end_after, greatest_align}
use Rattle.shade_values.specs.Sound.{IsSound, IsOver}
use Rattle.shade_values.proofs.ShapeLaws.{shape_is}
use Rattle.shade_words.specs.Lays.{size, IsLay, Ascends}
use Rattle.shade_words.specs.Types.{lay_of, fields_of, lay}

-- ---- alignments

abbrev pub IsAlign : ℕ → Type 0
IsAlign a = (a ≡ 1) ⊎ (a ≡ 4) ⊎ (a ≡ 8) ⊎ (a ≡ 16)

pub le_or : (a b : ℕ) → (a ≤ b) ⊎ (b ≤ a)
le_or zero b = inl (omega arith)
le_or (suc a) zero = inr (omega arith)
le_or (suc a) (suc b) = elim (le_or a b) [ inl h ↦ inl (omega (arith, h)) | inr h ↦ inr (omega (arith, h)) ]

pub lt_or : (a b : ℕ) → (a < b) ⊎ (b ≤ a)
lt_or a zero = inr (omega arith)
lt_or zero (suc b) = inl (omega arith)
lt_or (suc a) (suc b) = elim (lt_or a b) [ inl h ↦ inl (omega (arith, h)) | inr h ↦ inr (omega (arith, h)) ]

max_or : (P : ℕ → Type 0) (a b : ℕ) → P a → P b → P (max a b)
max_or P a b p q = elim (le_or a b) as (λ _. P (max a b)) [
  | inl h ↦ (let e : b ≡ max a b = omega (arith, h) in subst P e q)
  | inr h ↦ (let e : a ≡ max a b = omega (arith, h) in subst P e p)
]

-- a number that was rounded up is a multiple of four where it was, and no less
rounded : (x a : ℕ) → IsAlign a → x % 4 ≡ 0 → next_multiple_of x a % 4 ≡ 0
rounded x a (inl e) four = subst (λ b. next_multiple_of x b % 4 ≡ 0) (sym e) (omega (arith, four))
rounded x a (inr (inl e)) four = subst (λ b. next_multiple_of x b % 4 ≡ 0) (sym e) (omega (arith, four))
rounded x a (inr (inr (inl e))) four = subst (λ b. next_multiple_of x b % 4 ≡ 0) (sym e) (omega (arith, four))
rounded x a (inr (inr (inr e))) four = subst (λ b. next_multiple_of x b % 4 ≡ 0) (sym e) (omega (arith, four))

pub rounded_up : (x a : ℕ) → x ≤ next_multiple_of x a
rounded_up x a = omega arith

pub few : (n : ℕ) → 2 ≤ n → n ≤ 4 → (n ≡ 2) ⊎ (n ≡ 3) ⊎ (n ≡ 4)
few zero lo hi = absurd (omega (arith, lo))
few (suc zero) lo hi = absurd (omega (arith, lo))
few (suc (suc zero)) lo hi = inl refl
few (suc (suc (suc zero))) lo hi = inr (inl refl)
few (suc (suc (suc (suc zero)))) lo hi = inr (inr refl)
few (suc (suc (suc (suc (suc n))))) lo hi = absurd (omega (arith, hi))

quarter : (n s : ℕ) → s % 4 ≡ 0 → (n * s % 4 ≡ 0) × (n * (s / 4) ≡ n * s / 4)
quarter n s four =
    let whole : s ≡ 4 * (s / 4) = omega (arith, four) in
    let times : n * s ≡ 4 * (n * (s / 4)) = ap (λ x. n * x) whole ∙ (omega arith) in
    (omega (arith, times), omega (arith, times))

-- ---- shapes

-- vectors of 2 to 4 parts
abbrev mutual
  pub IsShape : Shape → Type 0
  IsShape (plain s) = Unit {0}
  IsShape (vector n s) = (2 ≤ n) × (n ≤ 4)
  IsShape (array element n) = IsShape element
  IsShape (runtime_array element) = IsShape element
  IsShape (atomic s) = Unit {0}
  IsShape (structure members) = AreShapes members
  IsShape (exchanged s) = Unit {0}
  IsShape pointer = Unit {0}

  pub AreShapes : Shapes → Type 0
  AreShapes no_member = Unit {0}
  AreShapes (member m ms) = IsShape m × AreShapes ms

-- what holds of how a shape lies
pub record Lies (s : Shape) : Type 0 where
  pub align : IsAlign (layout s).align
  pub whole : (layout s).size % 4 ≡ 0
  pub words : size (lay_of s) ≡ (layout s).size / 4
  pub lies : IsLay (lay_of s)

record AreLying (ms : Shapes) (end : ℕ) : Type 0 where
  pub align : IsAlign (greatest_align (layouts ms))
  pub whole : end_after end (layouts ms) % 4 ≡ 0
  pub lie : (words : ℕ) → end_after end (layouts ms) / 4 ≤ words → Ascends (end / 4) words (fields_of end ms)

vector_lies : (n : ℕ) (s : _) → (n ≡ 2) ⊎ (n ≡ 3) ⊎ (n ≡ 4) → Lies (vector n s)
vector_lies n s (inl e) = subst (λ m. Lies (vector m s)) (sym e) (record { align = inr (inr (inl refl)); whole = refl; words = refl; lies = (tt, omega arith) })
vector_lies n s (inr (inl e)) = subst (λ m. Lies (vector m s)) (sym e) (record { align = inr (inr (inr refl)); whole = refl; words = refl; lies = (tt, omega arith) })
vector_lies n s (inr (inr e)) = subst (λ m. Lies (vector m s)) (sym e) (record { align = inr (inr (inr refl)); whole = refl; words = refl; lies = (tt, omega arith) })

row_lies : (element : Shape) (n : ℕ) → Lies element
    → (n * stride_of (layout element) % 4 ≡ 0) × (n * (stride_of (layout element) / 4) ≡ n * stride_of (layout element) / 4) × (size (lay_of element) ≤ stride_of (layout element) / 4)
row_lies element n h =
    let four = rounded (layout element).size (layout element).align h.align h.whole in
    let q = quarter n (stride_of (layout element)) four in
    (q.0, q.1, omega (arith, h.words, rounded_up (layout element).size (layout element).align))

mutual
  pub lies_in : (s : Shape) → IsShape s → Lies s
  lies_in (plain s) ok = record { align = inr (inl refl); whole = refl; words = refl; lies = tt }
  lies_in (vector n s) ok = vector_lies n s (few n ok.0 ok.1)
  lies_in (array element n) ok =
      let h = lies_in element ok in
      let r = row_lies element n h in
      record { align = h.align; whole = r.0; words = r.1; lies = (h.lies, r.2) }
  lies_in (runtime_array element) ok =
      let h = lies_in element ok in
      let r = row_lies element 1 h in
      record { align = h.align; whole = r.0; words = r.1; lies = (h.lies, r.2) }
  lies_in (atomic s) ok = record { align = inr (inl refl); whole = refl; words = refl; lies = tt }
  lies_in (structure members) ok =
      let h = members_lie members ok 0 (omega arith) in
      record {
        align = h.align;
        whole = rounded (end_after 0 (layouts members)) (greatest_align (layouts members)) h.align h.whole;
        words = refl;
        lies = h.lie (next_multiple_of (end_after 0 (layouts members)) (greatest_align (layouts members)) / 4)
            (omega (arith, rounded_up (end_after 0 (layouts members)) (greatest_align (layouts members))));
      }
  lies_in (exchanged s) ok = record { align = inr (inl refl); whole = refl; words = refl; lies = (tt, omega arith, (tt, omega arith, omega arith)) }
  lies_in pointer ok = record { align = inl refl; whole = refl; words = refl; lies = omega arith }

  members_lie : (ms : Shapes) → AreShapes ms → (end : ℕ) → end % 4 ≡ 0 → AreLying ms end
  members_lie no_member ok end four = record { align = inl refl; whole = four; lie = λ words h. h }
  members_lie (member m ms) ok end four =
      let h = lies_in m ok.0 in
      let at = offset_after end (layout m) in
      let at_four : at % 4 ≡ 0 = rounded end (layout m).align h.align four in
      let later = members_lie ms ok.1 (at + (layout m).size) (omega (arith, at_four, h.whole)) in
      record {
        align = max_or IsAlign (layout m).align (greatest_align (layouts ms)) h.align later.align;
        whole = later.whole;
        lie = λ words bound.
            let here : end / 4 ≤ at / 4 = omega (arith, rounded_up end (layout m).align) in
            let next : (at + (layout m).size) / 4 ≡ at / 4 + size (lay_of m) = omega (arith, at_four, h.whole, h.words) in
            (h.lies, here, subst (λ from. Ascends from words (fields_of (at + (layout m).size) ms)) next (later.lie words bound));
      }

-- ---- the shapes of a table

push_shape : (known : List Shape) (x : Shape) → ((n : ℕ) → IsShape (get_or known n pointer)) → IsShape x → (n : ℕ) → IsShape (get_or (known ++ x ∷ []) n pointer)
push_shape [] x h ok zero = ok
push_shape [] x h ok (suc n) = tt
push_shape (y ∷ known) x h ok zero = h 0
push_shape (y ∷ known) x h ok (suc n) = push_shape known x (λ m. h (suc m)) ok n

members_shape : (known : List Shape) (ms : List (List ℕ × TypeId)) → ((n : ℕ) → IsShape (get_or known n pointer)) → AreShapes (member_shapes known ms)
members_shape known [] h = tt
members_shape known (m ∷ ms) h = (h m.1.0, members_shape known ms h)

spelled_shape : (structs : List StructView) (known : List Shape) (ty : ShadeType) (n : ℕ) → ((n : ℕ) → IsShape (get_or known n pointer)) → IsOver n structs ty → IsShape (spell structs known ty)
spelled_shape structs known (Plain s) n h over = tt
spelled_shape structs known (Vector parts s) n h over = over
spelled_shape structs known (Array element count) n h over = h element.0
spelled_shape structs known (RuntimeArray element) n h over = h element.0
spelled_shape structs known (Atomic s) n h over = tt
spelled_shape structs known (Struct number) n h over = members_shape known (members_at structs number) h
spelled_shape structs known (Exchanged s) n h over = tt
spelled_shape structs known (Pointer space pointee access) n h over = tt

all_shapes : (structs : List StructView) (known : List Shape) (types : List ShadeType) → ((n : ℕ) → IsShape (get_or known n pointer))
    → ((n : ℕ) (ty : ShadeType) → slice_get types n ≡ Some ty → (m : ℕ) × IsOver m structs ty) → (n : ℕ) → IsShape (get_or (fold (with_spelling structs) known types) n pointer)
all_shapes structs known [] h over = h
all_shapes structs known (ty ∷ types) h over =
    let here = over 0 ty refl in
    all_shapes structs (with_spelling structs known ty) types (push_shape known (spell structs known ty) h (spelled_shape structs known ty here.0 h here.1)) (λ n x e. over (suc n) x e)

-- how the type with an id lies
pub lies_at : (t : Table) → IsSound t → (n : ℕ) → Lies (get_or (shapes t) n pointer)
lies_at t sound n = lies_in (get_or (shapes t) n pointer) (all_shapes t.structs [] t.types (λ n. tt) (λ n ty e. (n, sound.over n ty e)) n)

pub lay_lies : (t : Table) → IsSound t → (id : TypeId) → Lies (shape_of t id)
lay_lies t sound id = lies_at t sound id.0

pub lay_is : (t : Table) → IsSound t → (id : TypeId) (ty : ShadeType) → slice_get t.types id.0 ≡ Some ty → lay t id ≡ lay_of (spell t.structs (shapes t) ty)
lay_is t sound id ty e = ap lay_of (shape_is t sound.over id.0 ty e)
