-- The parts of a scalar or a vector, as the code reads them.
use Rattle.std.proofs.Common.{◌≡◌, ◌≢◌, ℕ, zero, suc, ◌+◌, ◌-◌, ◌*◌, ◌<◌, ◌≤◌, Bool, true, false, ◌&&◌, List, [], ◌∷◌, Some, None, map, length, slice_get, get_or, drop, refl, sym, ap, subst, ◌∙◌, arith, add-one, drop-cons}
use Rattle.std.specs.Prelude.{◌||◌}
use Rattle.std.specs.List.{list_all, list_any, flat_map}
use Rattle.std.proofs.lemmas.List.{get_or-map, get_or_append_left, get_or-append_right, get_or_past}
use Rattle.std.proofs.lemmas.List.FromFn.{length-map-range_with_len}
use Rattle.shade_values.specs.declared.types.Scalar.{Scalar}
use Rattle.shade_values.specs.declared.types.ShadeType.{ShadeType}
use Rattle.shade_values.specs.declared.types.ShadeType.TheVariants as type
use Rattle.shade_values.specs.declared.types.TypeId.{TypeId}
use Rattle.shade_values.specs.declared.value.Leaf.{Leaf}
use Rattle.shade_values.specs.declared.value.Value.{Value, Value-F, out-Value}
use Rattle.shade_values.specs.declared.value.Value.TheOpen.{One, Many}
use Rattle.shade_values.specs.declared.value.Value.TheViews.{outs-Many}
use Rattle.shade_values.specs.Parts.{no_leaf, no_value, own_leaf, lane, lane_in, leaves_of, leaves_in}
use Rattle.shade_values.specs.Sound.{IsSound}
use Rattle.shade_values.specs.Table.{Table}
use Rattle.shade_words.specs.declared.span.WordSpan.{WordSpan}
use Rattle.shade_words.specs.Forms.{IsFormed}
use Rattle.shade_words.specs.Lays.{leaf, size, decode, leaf_of}
use Rattle.shade_words.specs.Types.{lay, type_of}
use Rattle.shade_words.specs.Spans.{values_of, value_of}
use Rattle.shade_words.proofs.Layouts.{row_part}
use Rattle.shade_words.proofs.LeafLaws.{lane_one, own_one, IsTyped}
use Rattle.shade_words.proofs.SpecialLaws.{leaves_long}
use Rattle.shade_words.proofs.TypeLaws.{lay_is}
use Rattle.shade_words.proofs.WordLaws.{value_typed, lay_formed}

-- ---- one part

module _ (t : Table) (sound : IsSound t) (id : TypeId) (s : Scalar) where
  pub plain_size : slice_get t.types id.0 ≡ Some (type.Plain s) → size (lay t id) ≡ 1
  plain_size e = ap size (lay_is t sound id (type.Plain s) e)

  pub plain_part : slice_get t.types id.0 ≡ Some (type.Plain s) → (w : ℕ → ℕ) (at k : ℕ) → leaf_of s (w at) ≡ lane k (decode (lay t id) w at)
  plain_part e w at k = sym (ap (λ l. lane k (decode l w at)) (lay_is t sound id (type.Plain s) e) ∙ lane_one k (leaf_of s (w at)))

  pub vector_size : (n : ℕ) → slice_get t.types id.0 ≡ Some (type.Vector n s) → size (lay t id) ≡ n
  vector_size n e = (let times : n * 1 ≡ n = omega arith in ap size (lay_is t sound id (type.Vector n s) e) ∙ times)

  pub vector_part : (n : ℕ) → slice_get t.types id.0 ≡ Some (type.Vector n s) → (w : ℕ → ℕ) (at k : ℕ) → k < n → leaf_of s (w (at + k)) ≡ lane k (decode (lay t id) w at)
  vector_part n e w at k lt =
      let times : at + k * 1 ≡ at + k = omega arith in
      sym (ap (λ l. lane k (decode l w at)) (lay_is t sound id (type.Vector n s) e)
      ∙ (ap (lane_in k) (outs-Many _)
      ∙ (ap own_leaf (row_part (leaf s) n 1 w at k no_value lt) ∙ (own_one (leaf_of s (w (at + k * 1))) ∙ ap (λ j. leaf_of s (w j)) times))))

  pub vector_past : (n : ℕ) → slice_get t.types id.0 ≡ Some (type.Vector n s) → (w : ℕ → ℕ) (at k : ℕ) → n ≤ k → no_leaf ≡ lane k (decode (lay t id) w at)
  vector_past n e w at k le =
      sym (ap (λ l. lane k (decode l w at)) (lay_is t sound id (type.Vector n s) e)
      ∙ (ap (lane_in k) (outs-Many _)
      ∙ (ap own_leaf (get_or_past (map (λ j. decode (leaf s) w (at + j * 1)) _) k no_value (omega (arith, le, length-map-range_with_len (λ j. decode (leaf s) w (at + j * 1)) 0 n)))
      ∙ own_one no_leaf)))

pub not_formed : (ty : ShadeType) → IsFormed ty → ((s : Scalar) → ty ≢ type.Plain s) → ((n : ℕ) (s : Scalar) → ty ≢ type.Vector n s) → ⊥
not_formed (type.Plain s) h p v = p s refl
not_formed (type.Vector n s) h p v = v n s refl
not_formed (type.Array e n) h p v = h
not_formed (type.RuntimeArray e) h p v = h
not_formed (type.Atomic s) h p v = h
not_formed (type.Struct n) h p v = h
not_formed (type.Exchanged s) h p v = h
not_formed (type.Pointer space pointee access) h p v = h

-- ---- all parts

leaf_in_is : (x : Value-F Value) (k : ℕ) → k < length (leaves_in x) → get_or (leaves_in x) k no_leaf ≡ lane_in k x
leaf_in_is (One l) zero lt = refl
leaf_in_is (One l) (suc k) lt = absurd (omega (arith, lt))
leaf_in_is (Many parts) k lt = get_or-map own_leaf parts k no_value no_leaf (omega (arith, lt, length_own parts))
  where
    length_own : (vs : List Value) → length (map own_leaf vs) ≡ length vs
    length_own [] = refl
    length_own (v ∷ vs) = ap suc (length_own vs)

pub leaf_there : (v : Value) (k : ℕ) → k < length (leaves_of v) → get_or (leaves_of v) k no_leaf ≡ lane k v
leaf_there v k lt = leaf_in_is (out-Value v) k lt

formed_long : (t : Table) → IsSound t → (id : TypeId) → id.0 < length t.types → (ty : ShadeType) → type_of t id ≡ ty → IsFormed ty → (w : ℕ → ℕ) (at : ℕ) → length (leaves_of (decode (lay t id) w at)) ≡ size (lay t id)
formed_long t sound id known (type.Plain s) is ok w at =
    leaves_long None s (decode (lay t id) w at) (subst (λ x. IsTyped x (decode (lay t id) w at)) is (value_typed t sound id known (subst IsFormed (sym is) tt) w at))
    ∙ sym (ap size (lay_formed t sound id known None s is))
formed_long t sound id known (type.Vector n s) is ok w at =
    let times : n ≡ n * 1 = omega arith in
    leaves_long (Some n) s (decode (lay t id) w at) (subst (λ x. IsTyped x (decode (lay t id) w at)) is (value_typed t sound id known (subst IsFormed (sym is) tt) w at))
    ∙ (times ∙ sym (ap size (lay_formed t sound id known (Some n) s is)))
formed_long t sound id known (type.Array e n) is ok w at = absurd ok
formed_long t sound id known (type.RuntimeArray e) is ok w at = absurd ok
formed_long t sound id known (type.Atomic s) is ok w at = absurd ok
formed_long t sound id known (type.Struct n) is ok w at = absurd ok
formed_long t sound id known (type.Exchanged s) is ok w at = absurd ok
formed_long t sound id known (type.Pointer space pointee access) is ok w at = absurd ok

-- how many leaves a scalar or a vector has
pub leaves_count : (t : Table) → IsSound t → (id : TypeId) → id.0 < length t.types → IsFormed (type_of t id) → (w : ℕ → ℕ) (at : ℕ) → length (leaves_of (decode (lay t id) w at)) ≡ size (lay t id)
leaves_count t sound id known ok w at = formed_long t sound id known (type_of t id) refl ok w at

-- ---- whether all pass a test, or some

pub all_pass : (p : Leaf → Bool) (xs : List Leaf) → ((j : ℕ) → j < length xs → p (get_or xs j no_leaf) ≡ true) → true ≡ list_all p xs
all_pass p [] h = refl
all_pass p (x ∷ xs) h = all_pass p xs (λ j lt. h (suc j) (omega (arith, lt))) ∙ ap (λ b. b && list_all p xs) (sym (h 0 (omega arith)))

pub one_fails : (p : Leaf → Bool) (xs : List Leaf) (j : ℕ) → j < length xs → p (get_or xs j no_leaf) ≡ false → false ≡ list_all p xs
one_fails p [] j lt h = absurd (omega (arith, lt))
one_fails p (x ∷ xs) zero lt h = ap (λ b. b && list_all p xs) (sym h)
one_fails p (x ∷ xs) (suc j) lt h = none (p x) ∙ ap (λ b. p x && b) (one_fails p xs j (omega (arith, lt)) h)
  where
    none : (b : Bool) → false ≡ (b && false)
    none true = refl
    none false = refl

pub one_passes : (p : Leaf → Bool) (xs : List Leaf) (j : ℕ) → j < length xs → p (get_or xs j no_leaf) ≡ true → true ≡ list_any p xs
one_passes p [] j lt h = absurd (omega (arith, lt))
one_passes p (x ∷ xs) zero lt h = ap (λ b. b || list_any p xs) (sym h)
one_passes p (x ∷ xs) (suc j) lt h = some (p x) ∙ ap (λ b. p x || b) (one_passes p xs j (omega (arith, lt)) h)
  where
    some : (b : Bool) → true ≡ (b || true)
    some true = refl
    some false = refl

pub all_fail : (p : Leaf → Bool) (xs : List Leaf) → ((j : ℕ) → j < length xs → p (get_or xs j no_leaf) ≡ false) → false ≡ list_any p xs
all_fail p [] h = refl
all_fail p (x ∷ xs) h = all_fail p xs (λ j lt. h (suc j) (omega (arith, lt))) ∙ ap (λ b. b || list_any p xs) (sym (h 0 (omega arith)))

-- ---- the parts of several values, one after another

next_span : (args : List WordSpan) (i : ℕ) (d : WordSpan) → i < length args → drop i args ≡ get_or args i d ∷ drop (i + 1) args
next_span args i d h = rw add-one (drop-cons args i d h)

module _ (t : Table) (w : ℕ → ℕ) (args : List WordSpan) (i : ℕ) (d : WordSpan) (lt : i < length args) (left : ℕ) where
  pub leaf_here : left < length (leaves_of (value_of t w (get_or args i d))) → get_or (flat_map leaves_of (values_of t w (drop i args))) left no_leaf ≡ lane left (value_of t w (get_or args i d))
  leaf_here less =
      ap (λ l. get_or (flat_map leaves_of (values_of t w l)) left no_leaf) (next_span args i d lt)
      ∙ (get_or_append_left (leaves_of (value_of t w (get_or args i d))) (flat_map leaves_of (values_of t w (drop (i + 1) args))) no_leaf left less ∙ leaf_there (value_of t w (get_or args i d)) left less)

  pub leaf_later : (n : ℕ) → length (leaves_of (value_of t w (get_or args i d))) ≡ n → n ≤ left
      → get_or (flat_map leaves_of (values_of t w (drop (i + 1) args))) (left - n) no_leaf ≡ get_or (flat_map leaves_of (values_of t w (drop i args))) left no_leaf
  leaf_later n long le =
      sym (ap (λ l. get_or (flat_map leaves_of (values_of t w l)) left no_leaf) (next_span args i d lt)
      ∙ get_or-append_right (leaves_of (value_of t w (get_or args i d))) (flat_map leaves_of (values_of t w (drop (i + 1) args))) n left no_leaf long le)

past_all : (args : List WordSpan) (i : ℕ) → length args ≤ i → drop i args ≡ []
past_all [] zero h = refl
past_all [] (suc i) h = refl
past_all (a ∷ args) zero h = absurd (omega (arith, h))
past_all (a ∷ args) (suc i) h = past_all args i (omega (arith, h))

pub leaf_past : (t : Table) (w : ℕ → ℕ) (args : List WordSpan) (i left : ℕ) → length args ≤ i → no_leaf ≡ get_or (flat_map leaves_of (values_of t w (drop i args))) left no_leaf
leaf_past t w args i left le = sym (ap (λ l. get_or (flat_map leaves_of (values_of t w l)) left no_leaf) (past_all args i le))
