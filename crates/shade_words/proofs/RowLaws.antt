-- Scalars and vectors that are written part by part: what is read, and what then stands there.
use Rattle.std.proofs.Common.{◌≡◌, ◌≢◌, ℕ, zero, suc, ◌+◌, ◌<◌, ◌≤◌, ◌⊎◌, inl, inr, false, List, [], ◌∷◌, Option, Some, None, length, get_or, set, refl, sym, ap, subst, ◌∙◌, arith, below_more, get_or-set_other, get_or-set_same}
use Rattle.std.specs.Prelude.{All}
use Rattle.shade_values.specs.declared.types.Scalar.{Scalar}
use Rattle.shade_values.specs.declared.types.Scalar.TheVariants as scalar
use Rattle.shade_values.specs.declared.types.ShadeType.{ShadeType}
use Rattle.shade_values.specs.declared.types.ShadeType.TheVariants as type
use Rattle.shade_values.specs.declared.value.Value.{Value}
use Rattle.shade_values.specs.declared.op.Op.{Op}
use Rattle.shade_values.specs.declared.op.Op.TheVariants.{Dot}
use Rattle.shade_values.specs.Apply.{Apply}
use Rattle.shade_values.specs.Parts.{lane}
use Rattle.shade_values.specs.Sound.{IsSound, IsOver}
use Rattle.shade_values.specs.Table.{Table, StructView}
use Rattle.shade_values.specs.Takes.{Takes}
use Rattle.shade_words.specs.declared.span.WordSpan.{WordSpan}
use Rattle.shade_words.specs.Forms.{IsFormed, form_shape, count_of, part_leaf, moves, HasLetters}
use Rattle.shade_words.specs.Lays.{size, decode, word_of, Covers, AreFit, IsConcrete}
use Rattle.shade_words.specs.Types.{lay_of, lay, type_of, HasElements}
use Rattle.shade_words.specs.Spans.{IsSpan, AreApart, AreRead, IsRead, IsHeld, CanApply, types_of, value_of, values_of}
use Rattle.shade_words.specs.Written.{Written}
use Rattle.shade_words.proofs.CopyLaws.{kept_value}
use Rattle.shade_words.proofs.LeafLaws.{Leafwise, AreTyped, AreFormed}
use Rattle.shade_words.proofs.SpecialLaws.{IsVector, AreVectors}
use Rattle.shade_words.proofs.OpLaws.{leafwise, AreHeld}
use Rattle.shade_words.proofs.TypeLaws.{lay_lies}
use Rattle.shade_words.proofs.WordLaws.{type_there, value_typed, lay_formed, parts_written, parts_fit}

-- ---- the arguments

all_held : (t : Table) (args : List WordSpan) → All (λ a. IsHeld (type_of t a.ty)) args → AreHeld (types_of t args)
all_held t [] h = tt
all_held t (a ∷ args) h = (h 0 a (omega arith), all_held t args (λ k d lt. h (suc k) d (omega (arith, lt))))

vector_over : (n : ℕ) (structs : List StructView) (ty : ShadeType) → IsOver n structs ty → IsVector ty
vector_over n structs (type.Vector parts s) over = over.0
vector_over n structs _ over = tt

all_vectors : (t : Table) → IsSound t → (long : ℕ) (args : List WordSpan) → All (IsSpan t long) args → AreVectors (types_of t args)
all_vectors t sound long [] h = tt
all_vectors t sound long (a ∷ args) h = (
  vector_over a.ty.0 t.structs (type_of t a.ty) (sound.over a.ty.0 (type_of t a.ty) (type_there t a.ty (h 0 a (omega arith)).known)),
  all_vectors t sound long args (λ k d lt. h (suc k) d (omega (arith, lt))),
)

all_formed : (t : Table) (args : List WordSpan) → AreFormed (types_of t args) → All (λ a. IsFormed (type_of t a.ty)) args
all_formed t [] h k d lt = absurd (omega (arith, lt))
all_formed t (a ∷ args) h zero d lt = h.0
all_formed t (a ∷ args) h (suc k) d lt = all_formed t args h.1 k d (omega (arith, lt))

all_typed : (t : Table) → IsSound t → (long : ℕ) (args : List WordSpan) → All (IsSpan t long) args → AreFormed (types_of t args) → (w : ℕ → ℕ) → AreTyped (types_of t args) (values_of t w args)
all_typed t sound long [] spans h w = tt
all_typed t sound long (a ∷ args) spans h w = (
  value_typed t sound a.ty (spans 0 a (omega arith)).known h.0 w a.first,
  all_typed t sound long args (λ k d lt. spans (suc k) d (omega (arith, lt))) h.1 w,
)

dot_elements : (t : Table) (args : List WordSpan) (n : ℕ) (s : Scalar) (tys : List ShadeType) → types_of t args ≡ type.Vector n s ∷ tys → (d : WordSpan) → HasElements (type_of t (get_or args 0 d).ty)
dot_elements t [] n s tys e d = absurd (cc)
dot_elements t (a ∷ args) n s tys e d = subst HasElements (sym (ap (λ l. get_or l 0 (type.Vector n s)) e)) tt

pub reads : (t : Table) (op : Op) (args : List WordSpan) (r : Option ShadeType) → Takes t op (types_of t args) r → IsRead t op args
reads t Dot [] r h = tt
reads t Dot (a ∷ []) r h = tt
reads t Dot (a ∷ b ∷ []) r h = dot_elements t (a ∷ b ∷ []) h.0 h.1 (type.Vector h.0 h.1 ∷ []) h.3 a
reads t Dot (a ∷ b ∷ c ∷ args) r h = tt
reads t _ args r h = tt

module _ (t : Table) (sound : IsSound t) (op : Op) (args : List WordSpan) (long : ℕ) (result : WordSpan) (can : CanApply t op args long result) (still : moves op ≡ false) (picked : HasLetters op) where
  pub of_leaves : Leafwise op (types_of t args) (type_of t result.ty)
  of_leaves = leafwise t op (types_of t args) (type_of t result.ty) still picked (all_held t args can.held) (all_vectors t sound long args can.spans) can.takes

  pub are_read : AreRead t long args
  are_read = record { placed = can.spans; formed = all_formed t args of_leaves.formed_args }

  typed_args : (w : ℕ → ℕ) → AreTyped (types_of t args) (values_of t w args)
  typed_args w = all_typed t sound long args can.spans of_leaves.formed_args w

  result_lies : lay t result.ty ≡ lay_of (form_shape of_leaves.form of_leaves.scalar)
  result_lies = lay_formed t sound result.ty can.place.known of_leaves.form of_leaves.scalar of_leaves.is

-- ---- what stays while the result is written

pub values_kept : (t : Table) → IsSound t → (long : ℕ) (args : List WordSpan) (result : WordSpan) (old new : List ℕ) → All (IsSpan t long) args → All (λ a. AreApart a result) args
    → ((j : ℕ) → (j < result.first) ⊎ (result.first + result.count ≤ j) → get_or new j 0 ≡ get_or old j 0) → values_of t (λ j. get_or new j 0) args ≡ values_of t (λ j. get_or old j 0) args
values_kept t sound long [] result old new spans apart others = refl
values_kept t sound long (a ∷ args) result old new spans apart others =
    let here : value_of t (λ j. get_or new j 0) a ≡ value_of t (λ j. get_or old j 0) a =
    kept_value (lay t a.ty) old new a.first result.first result.count (lay_lies t sound a.ty).lies others
    (subst (λ n. (a.first + n ≤ result.first) ⊎ (result.first + result.count ≤ a.first)) (spans 0 a (omega arith)).sized (apart 0 a (omega arith))) in
    let later = values_kept t sound long args result old new (λ k d lt. spans (suc k) d (omega (arith, lt))) (λ k d lt. apart (suc k) d (omega (arith, lt))) others in
    λ i. here i ∷ later i

-- the parts below number i are written
pub record Parting (op : Op) (vs : List Value) (old new : List ℕ) (to count i : ℕ) : Type 0 where
  pub made : (j : ℕ) → j < i → get_or new (to + j) 0 ≡ word_of (part_leaf op vs j)
  pub others : (j : ℕ) → (j < to) ⊎ (to + count ≤ j) → get_or new j 0 ≡ get_or old j 0

pub parting_begins : (op : Op) (vs : List Value) (old : List ℕ) (to count : ℕ) → Parting op vs old old to count 0
parting_begins op vs old to count = record { made = λ j lt. absurd (omega (arith, lt)); others = λ j side. refl }

pub parting_more : (op : Op) (vs : List Value) (old cur : List ℕ) (to count i x : ℕ) → Parting op vs old cur to count i → i < count → length cur ≡ length old → to + count ≤ length old
    → x ≡ word_of (part_leaf op vs i) → Parting op vs old (set cur (to + i) x) to count (i + 1)
parting_more op vs old cur to count i x p lt same within is = record {
  made = below_more (λ j. get_or (set cur (to + i) x) (to + j) 0 ≡ word_of (part_leaf op vs j)) i
      (λ j h. get_or-set_other cur (to + i) (to + j) x 0 (omega (arith, h)) ∙ p.made j h)
      (get_or-set_same cur (to + i) x 0 (omega (arith, lt, same, within)) ∙ is);
  others = λ j out. elim out [
    | inl h ↦ get_or-set_other cur (to + i) j x 0 (omega (arith, h)) ∙ p.others j (inl h)
    | inr h ↦ get_or-set_other cur (to + i) j x 0 (omega (arith, h, lt)) ∙ p.others j (inr h)
  ];
}

-- ---- what stands there in the end

formed_size : (f : Option ℕ) (s : Scalar) → size (lay_of (form_shape f s)) ≡ count_of f
formed_size None s = refl
formed_size (Some n) s = omega arith

formed_covers : (f : Option ℕ) (s : Scalar) (i : ℕ) → i < count_of f → Covers (lay_of (form_shape f s)) i
formed_covers None s i lt = omega (arith, lt)
formed_covers (Some n) s i lt = (i, 0, lt, omega arith, refl)

formed_concrete : (f : Option ℕ) (s : Scalar) → IsConcrete (lay_of (form_shape f s)) → s ≢ scalar.Abstract
formed_concrete None s h = h
formed_concrete (Some n) s h = h

module _ (t : Table) (sound : IsSound t) (op : Op) (args : List WordSpan) (result : WordSpan) (old new : List ℕ) (can : CanApply t op args (length old) result) (still : moves op ≡ false) (picked : HasLetters op)
    (p : Parting op (values_of t (λ j. get_or old j 0) args) old new result.first (size (lay t result.ty)) (size (lay t result.ty))) where
  abbrev leaves : Leafwise op (types_of t args) (type_of t result.ty)
  leaves = of_leaves t sound op args (length old) result can still picked

  lies : lay t result.ty ≡ lay_of (form_shape leaves.form leaves.scalar)
  lies = result_lies t sound op args (length old) result can still picked

  count : size (lay t result.ty) ≡ count_of leaves.form
  count = ap size lies ∙ formed_size leaves.form leaves.scalar

  words : (k : ℕ) → k < count_of leaves.form → get_or new (result.first + k) 0 ≡ word_of (lane k (Apply op (values_of t (λ j. get_or old j 0) args)))
  words k lt =
      p.made k (omega (arith, lt, count))
      ∙ ap word_of (sym (leaves.part (values_of t (λ j. get_or old j 0) args) (typed_args t sound op args (length old) result can still picked (λ j. get_or old j 0)) k lt))

  pub leaves_written : Written (lay t result.ty) (Apply op (values_of t (λ j. get_or old j 0) args)) old new result.first
  leaves_written = record {
    value = ap (λ l. decode l (λ j. get_or new j 0) result.first) lies
        ∙ parts_written leaves.form leaves.scalar (Apply op (values_of t (λ j. get_or old j 0) args)) (λ j. get_or new j 0) result.first
        (formed_concrete leaves.form leaves.scalar (subst IsConcrete lies can.concrete))
        (leaves.typed (values_of t (λ j. get_or old j 0) args) (typed_args t sound op args (length old) result can still picked (λ j. get_or old j 0))) words;
    padding = λ i lt none. absurd (none (subst (λ l. Covers l i) (sym lies) (formed_covers leaves.form leaves.scalar i (omega (arith, lt, count)))));
    others = p.others;
  }

  pub leaves_fit : AreFit (lay t result.ty) (λ j. get_or new j 0) result.first
  leaves_fit =
      subst (λ l. AreFit l (λ j. get_or new j 0) result.first) (sym lies)
      (parts_fit leaves.form leaves.scalar (Apply op (values_of t (λ j. get_or old j 0) args)) (λ j. get_or new j 0) result.first
      (leaves.typed (values_of t (λ j. get_or old j 0) args) (typed_args t sound op args (length old) result can still picked (λ j. get_or old j 0))) words)
