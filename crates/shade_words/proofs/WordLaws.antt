-- A scalar in its range is told by its word, and a scalar or a vector by the words of its parts.
use Rattle.std.proofs.Common.{◌≡◌, ◌≢◌, ℕ, ◌+◌, ◌-◌, ◌*◌, ◌%◌, ◌^◌, ◌<◌, List, [], ◌∷◌, Option, Some, None, map, length, get_or, Some, slice_get, refl, sym, ap, subst, ◌∙◌, arith, ℤ, pos, negsuc, w32}
use Rattle.std.specs.Int.{int_wrap, cast_signed}
use Rattle.std.specs.List.{range_with_len}
use Rattle.std.proofs.lemmas.Bool.Decides.{nat_tests}
use Rattle.std.proofs.lemmas.List.{get_or-map, length-map}
use Rattle.std.proofs.lemmas.List.FromFn.{get_or-map-range_with_len, length-map-range_with_len}
use Rattle.std.proofs.lemmas.Option.{slice_get-get_or}
use Rattle.shade_values.specs.declared.types.Scalar.{Scalar}
use Rattle.shade_values.specs.declared.types.Scalar.TheVariants as scalar
use Rattle.shade_values.specs.declared.types.ShadeType.{ShadeType}
use Rattle.shade_values.specs.declared.types.ShadeType.TheVariants as type
use Rattle.shade_values.specs.declared.types.TypeId.{TypeId}
use Rattle.shade_values.specs.declared.value.Leaf.{Leaf}
use Rattle.shade_values.specs.declared.value.Value.{Value}
use Rattle.shade_values.specs.declared.value.Value.TheVariants as value
use Rattle.shade_values.specs.Numbers.{modulo, word, wrapped}
use Rattle.shade_values.specs.Parts.{no_leaf, no_value, lane}
use Rattle.shade_values.specs.Shape.{Shape, spell, shapes}
use Rattle.shade_values.specs.Table.{Table, StructView}
use Rattle.shade_values.specs.Takes.{formed}
use Rattle.shade_values.specs.Sound.{IsSound}
use Rattle.shade_values.specs.Typed.{IsLeafOf, IsValueOf}
use Rattle.shade_values.proofs.NumberLaws.{leaf_is}
use Rattle.shade_values.proofs.RangeLaws.{wrapped_twice}
use Rattle.shade_words.specs.Lays.{leaf, row, decode, leaf_of, word_of, IsFit, AreFit}
use Rattle.shade_words.specs.Types.{lay_of, lay, type_of}
use Rattle.shade_words.specs.Forms.{IsFormed, form_shape, count_of}
use Rattle.shade_words.proofs.Layouts.{decode_parts}
use Rattle.shade_words.proofs.TypeLaws.{lay_is}
use Rattle.shade_words.proofs.LeafLaws.{lane_one, lane_many, lane_typed, IsTyped}

-- ---- a leaf in its range is told by its word

word_small : (n : ℕ) → n < 2 ^ 32 → word (pos n) ≡ n
word_small n h = omega (arith, h)

word_less : (z : ℤ) → word z < 2 ^ 32
word_less (pos a) = omega arith
word_less (negsuc a) = omega arith

bit_less : (z : ℤ) → modulo 2 z < 2
bit_less (pos a) = omega arith
bit_less (negsuc a) = omega arith

bit_small : (n : ℕ) → n < 2 → modulo 2 (pos (word (pos n))) ≡ n
bit_small n h = omega (arith, h)

flip : (n : ℕ) → n < 2 ^ 32 → (2 ^ 32 - 1 - n) % 2 ^ 32 ≡ 2 ^ 32 - 1 - n % 2 ^ 32
flip n h = omega arith

signed_word : (n : ℕ) → n < 2 ^ 32 → word (cast_signed w32 n) ≡ n
signed_word n h = grind (arith, nat_tests, flip n h)

signed_by_word : (z : ℤ) → int_wrap w32 z ≡ cast_signed w32 (word z)
unfolding int_wrap
signed_by_word z = refl

back : (s : Scalar) → s ≢ scalar.Abstract → (z : ℤ) → wrapped s (pos (word (wrapped s z))) ≡ wrapped s z
back scalar.Bool ok z = ap pos (bit_small (modulo 2 z) (bit_less z))
back scalar.U32 ok z = ap pos (word_small (word (pos (word z))) (word_less (pos (word z))) ∙ word_small (word z) (word_less z))
back scalar.I32 ok z =
    signed_by_word (pos (word (int_wrap w32 z)))
    ∙ (ap (cast_signed w32) (word_small (word (int_wrap w32 z)) (word_less (int_wrap w32 z)) ∙ (ap word (signed_by_word z) ∙ signed_word (word z) (word_less z)))
    ∙ sym (signed_by_word z))
back scalar.Abstract ok z = absurd (ok refl)

pub leaf_back : (s : Scalar) (l : Leaf) → s ≢ scalar.Abstract → IsLeafOf s l → leaf_of s (word_of l) ≡ l
leaf_back s l ok h =
    let ranged : wrapped s l.number ≡ l.number = subst (λ x. wrapped x l.number ≡ l.number) h.0 h.1 in
    let told : wrapped s (pos (word l.number)) ≡ l.number = subst (λ x. wrapped s (pos (word x)) ≡ x) ranged (back s ok l.number) in
    ap (λ n. record { scalar = s; number = n }) told ∙ sym (leaf_is l s l.number h.0 refl)

word_modulo : (w : ℕ) → word (pos w) ≡ w % 2 ^ 32
word_modulo w = omega arith

-- a word is told, as far as 32 bits go, by the scalar that it is, where the scalar has it
pub back_word : (s : Scalar) (w : ℕ) → s ≢ scalar.Abstract → IsFit s w → word_of (leaf_of s w) ≡ w % 2 ^ 32
back_word scalar.Bool w ok fit = omega (arith, fit)
back_word scalar.U32 w ok fit = word_small (word (pos w)) (word_less (pos w)) ∙ word_modulo w
back_word scalar.I32 w ok fit = ap word (signed_by_word (pos w)) ∙ (signed_word (word (pos w)) (word_less (pos w)) ∙ word_modulo w)
back_word scalar.Abstract w ok fit = absurd (ok refl)

pub word_fits : (s : Scalar) (l : Leaf) → IsLeafOf s l → IsFit s (word_of l)
word_fits scalar.Bool l h =
    let ranged : wrapped scalar.Bool l.number ≡ l.number = subst (λ x. wrapped x l.number ≡ l.number) h.0 h.1 in
    subst (λ z. word z < 2) ranged (omega (arith, bit_less l.number))
word_fits scalar.I32 l h = tt
word_fits scalar.U32 l h = tt
word_fits scalar.Abstract l h = tt

pub leaf_typed : (s : Scalar) (w : ℕ) → IsLeafOf s (leaf_of s w)
leaf_typed s w = (refl, wrapped_twice s (pos w))

-- ---- what stands in the words of a scalar or a vector

decoded_typed : (structs : List StructView) (known : List Shape) (ty : ShadeType) → IsFormed ty → (w : ℕ → ℕ) (at : ℕ) → IsTyped ty (decode (lay_of (spell structs known ty)) w at)
decoded_typed structs known (type.Plain s) ok w at = (leaf_of s (w at), leaf_typed s (w at), refl)
decoded_typed structs known (type.Vector n s) ok w at = (
  map (λ k. leaf_of s (w (at + k * 1))) (range_with_len 0 n),
  length-map-range_with_len (λ k. leaf_of s (w (at + k * 1))) 0 n,
  λ k d lt. let here : k < n = omega (arith, lt, length-map-range_with_len (λ k. leaf_of s (w (at + k * 1))) 0 n) in
      subst (IsLeafOf s) (sym (get_or-map-range_with_len (λ k. leaf_of s (w (at + k * 1))) 0 n k k d here (omega arith))) (leaf_typed s (w (at + k * 1))),
  ap value.Many (twice (range_with_len 0 n)),
)
  where
    twice : (ks : List ℕ) → map (λ k. value.One (leaf_of s (w (at + k * 1)))) ks ≡ map value.One (map (λ k. leaf_of s (w (at + k * 1))) ks)
    twice [] = refl
    twice (k ∷ ks) = ap (λ l. value.One (leaf_of s (w (at + k * 1))) ∷ l) (twice ks)
decoded_typed structs known (type.Array element count) ok w at = absurd ok
decoded_typed structs known (type.RuntimeArray element) ok w at = absurd ok
decoded_typed structs known (type.Atomic s) ok w at = absurd ok
decoded_typed structs known (type.Struct number) ok w at = absurd ok
decoded_typed structs known (type.Exchanged s) ok w at = absurd ok
decoded_typed structs known (type.Pointer space pointee access) ok w at = absurd ok

-- the type that stands at an id
pub type_there : (t : Table) (id : TypeId) → id.0 < length t.types → slice_get t.types id.0 ≡ Some (type_of t id)
type_there t id known = slice_get-get_or t.types id.0 (type.Plain scalar.Bool) known

pub lay_there : (t : Table) → IsSound t → (id : TypeId) → id.0 < length t.types → lay t id ≡ lay_of (spell t.structs (shapes t) (type_of t id))
lay_there t sound id known = lay_is t sound id (type_of t id) (type_there t id known)

pub value_typed : (t : Table) → IsSound t → (id : TypeId) → id.0 < length t.types → IsFormed (type_of t id) → (w : ℕ → ℕ) (at : ℕ) → IsTyped (type_of t id) (decode (lay t id) w at)
value_typed t sound id known ok w at =
    subst (λ l. IsTyped (type_of t id) (decode l w at)) (sym (lay_there t sound id known)) (decoded_typed t.structs (shapes t) (type_of t id) ok w at)

pub lay_formed : (t : Table) → IsSound t → (id : TypeId) → id.0 < length t.types → (f : Option ℕ) (s : Scalar) → type_of t id ≡ formed f s → lay t id ≡ lay_of (form_shape f s)
lay_formed t sound id known None s is = lay_there t sound id known ∙ ap (λ ty. lay_of (spell t.structs (shapes t) ty)) is
lay_formed t sound id known (Some n) s is = lay_there t sound id known ∙ ap (λ ty. lay_of (spell t.structs (shapes t) ty)) is

-- ---- words that were made part by part

pub parts_written : (f : Option ℕ) (s : Scalar) (v : Value) (w : ℕ → ℕ) (at : ℕ) → s ≢ scalar.Abstract → IsValueOf (form_shape f s) v
    → ((k : ℕ) → k < count_of f → w (at + k) ≡ word_of (lane k v)) → decode (lay_of (form_shape f s)) w at ≡ v
parts_written None s v w at ok (l, typed, is) h =
    let e : at ≡ at + 0 = omega arith in
    let here : w at ≡ word_of l = ap w e ∙ (h 0 (omega arith) ∙ ap word_of (ap (lane 0) is ∙ lane_one 0 l)) in
    ap value.One (ap (leaf_of s) here ∙ leaf_back s l ok typed) ∙ sym is
parts_written (Some n) s v w at ok (ls, long, all, is) h =
    decode_parts (row (leaf s) n 1) w at (map value.One ls) tt (length-map ls value.One ∙ long)
    (λ k lt. let here : k < length ls = omega (arith, lt, long) in
    let e : at + k * 1 ≡ at + k = omega arith in
    let word : w (at + k * 1) ≡ word_of (get_or ls k no_leaf) = ap w e ∙ (h k lt ∙ ap word_of (ap (lane k) is ∙ lane_many k ls here)) in
    ap value.One (ap (leaf_of s) word ∙ leaf_back s (get_or ls k no_leaf) ok (all k no_leaf here))
    ∙ sym (get_or-map value.One ls k no_leaf no_value here))
    ∙ sym is

pub parts_fit : (f : Option ℕ) (s : Scalar) (v : Value) (w : ℕ → ℕ) (at : ℕ) → IsValueOf (form_shape f s) v
    → ((k : ℕ) → k < count_of f → w (at + k) ≡ word_of (lane k v)) → AreFit (lay_of (form_shape f s)) w at
parts_fit None s v w at typed h =
    let e : at + 0 ≡ at = omega arith in
    subst (λ j. IsFit s (w j)) e (subst (IsFit s) (sym (h 0 (omega arith))) (word_fits s (lane 0 v) (lane_typed None s v typed 0 (omega arith))))
parts_fit (Some n) s v w at typed h =
    λ k lt. let e : at + k ≡ at + k * 1 = omega arith in
    subst (λ j. IsFit s (w j)) e (subst (IsFit s) (sym (h k lt)) (word_fits s (lane k v) (lane_typed (Some n) s v typed k lt)))
