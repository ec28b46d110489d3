-- Reading and writing a part of a value is reading and writing the part's words.
use Rattle.std.proofs.Common.{◌≡◌, ◌≢◌, ℕ, zero, suc, ◌+◌, ◌<◌, ◌≤◌, ◌⊎◌, inl, inr, List, [], ◌∷◌, length, get_or, set, sym, ap, ◌∙◌, arith}
use Rattle.shade_values.specs.declared.value.Value.{Value}
use Rattle.shade_values.specs.declared.value.Value.TheVariants as value
use Rattle.shade_values.specs.Parts.{no_value, parts_of, part_at}
use Rattle.shade_words.specs.Lays.{Lay, size, IsLay, decode}
use Rattle.shade_words.specs.Ways.{value_at, value_put, part_lay, part_offset, part_count, way_lay, way_offset, IsWay}
use Rattle.shade_words.proofs.Layouts.{decode_same, covers_within, part_ends, parts_apart, part_lies, part_is, count_is, whole_is, has_parts, all_same}

pub at_way : (l : Lay) (ks : List ℕ) (w : ℕ → ℕ) (at : ℕ) → IsWay l ks → decode (way_lay l ks) w (at + way_offset l ks) ≡ value_at (decode l w at) ks
at_way l [] w at ok = (let e : at + 0 ≡ at = omega arith in ap (decode l w) e)
at_way l (k ∷ ks) w at ok =
    let e : at + (part_offset l k + way_offset (part_lay l k) ks) ≡ at + part_offset l k + way_offset (part_lay l k) ks = omega arith in
    ap (decode (way_lay (part_lay l k) ks) w) e
    ∙ (at_way (part_lay l k) ks w (at + part_offset l k) ok.1 ∙ ap (λ v. value_at v ks) (sym (part_is l w at k ok.0)))

-- where a way ends lies in the whole
pub way_ends : (l : Lay) (ks : List ℕ) → IsLay l → IsWay l ks → way_offset l ks + size (way_lay l ks) ≤ size l
way_ends l [] lay ok = omega arith
way_ends l (k ∷ ks) lay ok = omega (arith, part_ends l k lay ok.0, way_ends (part_lay l k) ks (part_lies l k lay) ok.1)

-- ---- a write

one_set : (xs ys : List Value) (k : ℕ) (y : Value) → length xs ≡ length ys → k < length xs → ((i : ℕ) → i ≢ k → i < length xs → get_or xs i no_value ≡ get_or ys i no_value) → get_or xs k no_value ≡ y → xs ≡ set ys k y
one_set [] ys k y e lt others here = absurd (omega (arith, lt))
one_set (x ∷ xs) [] k y e lt others here = absurd (omega (arith, e))
one_set (x ∷ xs) (z ∷ ys) zero y e lt others here =
    let rest = all_same xs ys (omega (arith, e)) (λ i l. others (suc i) (omega arith) (omega (arith, l))) in
    λ j. here j ∷ rest j
one_set (x ∷ xs) (z ∷ ys) (suc k) y e lt others here =
    let first = others 0 (omega arith) (omega arith) in
    let rest = one_set xs ys k y (omega (arith, e)) (omega (arith, lt)) (λ i ne l. others (suc i) (omega (arith, ne)) (omega (arith, l))) here in
    λ j. first j ∷ rest j

-- two numbers that are not the same
pub sides : (m n : ℕ) → m ≢ n → (m < n) ⊎ (n < m)
sides m zero ne = inr (omega (arith, ne))
sides zero (suc n) ne = inl (omega arith)
sides (suc m) (suc n) ne = elim (sides m n (omega (arith, ne))) [ inl h ↦ inl (omega (arith, h)) | inr h ↦ inr (omega (arith, h)) ]

pub put_way : (l : Lay) (ks : List ℕ) → IsLay l → IsWay l ks → (u v : ℕ → ℕ) (at : ℕ) (x : Value)
    → ((j : ℕ) → (j < at + way_offset l ks) ⊎ (at + way_offset l ks + size (way_lay l ks) ≤ j) → v j ≡ u j)
    → decode (way_lay l ks) v (at + way_offset l ks) ≡ x → decode l v at ≡ value_put (decode l u at) ks x
put_way l [] lay way u v at x others here = (let e : at ≡ at + 0 = omega arith in ap (decode l v) e ∙ here)
put_way l (k ∷ ks) lay way u v at x others here =
    let moved : at + (part_offset l k + way_offset (part_lay l k) ks) ≡ at + part_offset l k + way_offset (part_lay l k) ks = omega arith in
    let inner : decode (part_lay l k) v (at + part_offset l k) ≡ value_put (decode (part_lay l k) u (at + part_offset l k)) ks x =
    put_way (part_lay l k) ks (part_lies l k lay) way.1 u v (at + part_offset l k) x
    (λ j side. others j (elim side [ inl h ↦ inl (omega (arith, h)) | inr h ↦ inr (omega (arith, h)) ]))
    (ap (decode (way_lay (part_lay l k) ks) v) (sym moved) ∙ here) in
    whole_is l v at (has_parts l k way.0)
    ∙ ap value.Many (one_set (parts_of (decode l v at)) (parts_of (decode l u at)) k (value_put (part_at (decode l u at) k) ks x)
    (count_is l v at ∙ sym (count_is l u at))
    (omega (arith, way.0, count_is l v at))
    (λ i ne li. part_is l v at i (omega (arith, li, count_is l v at)) ∙ (other i (sides i k ne) (omega (arith, li, count_is l v at)) ∙ sym (part_is l u at i (omega (arith, li, count_is l v at)))))
    (part_is l v at k way.0 ∙ (inner ∙ ap (λ p. value_put p ks x) (sym (part_is l u at k way.0)))))
  where
    other : (i : ℕ) → (i < k) ⊎ (k < i) → i < part_count l → decode (part_lay l i) v (at + part_offset l i) ≡ decode (part_lay l i) u (at + part_offset l i)
    other i (inl h) li = decode_same (part_lay l i) v u (at + part_offset l i) (at + part_offset l i)
        (λ j c. others (at + part_offset l i + j) (inl (omega (arith, covers_within (part_lay l i) j (part_lies l i lay) c, parts_apart l i k lay h way.0))))
    other i (inr h) li = decode_same (part_lay l i) v u (at + part_offset l i) (at + part_offset l i)
        (λ j c. others (at + part_offset l i + j) (inr (omega (arith, parts_apart l k i lay h li, way_ends (part_lay l k) ks (part_lies l k lay) way.1))))
