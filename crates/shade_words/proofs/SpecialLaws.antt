-- Operations over the parts of a vector, and those that make one.
use Rattle.std.proofs.Common.{◌≡◌, ℕ, zero, suc, ◌<◌, ◌≤◌, inl, inr, List, [], ◌∷◌, Option, Some, None, map, length, get_or, take, replicate, refl, sym, ap, subst, ◌∙◌, arith, pos, length-append, length-take, get_or-take}
use Rattle.std.specs.Int.{int_wrap}
use Rattle.std.specs.List.{flat_map}
use Rattle.std.proofs.lemmas.List.{get_or-map, length-map}
use Rattle.shade_values.specs.declared.types.Scalar.{Scalar}
use Rattle.shade_values.specs.declared.types.Scalar.TheVariants as scalar
use Rattle.shade_values.specs.declared.types.ShadeType.{ShadeType}
use Rattle.shade_values.specs.declared.types.ShadeType.TheVariants as type
use Rattle.shade_values.specs.declared.value.Leaf.{Leaf}
use Rattle.shade_values.specs.declared.value.Value.{Value, out-Value}
use Rattle.shade_values.specs.declared.value.Value.TheVariants as value
use Rattle.shade_values.specs.declared.value.Value.TheViews.{outs-One, outs-Many}
use Rattle.shade_values.specs.declared.op.Op.TheVariants.{Vector, All as AllOf, Any, Dot, Swizzle}
use Rattle.shade_values.specs.Operations.{converted}
use Rattle.shade_values.specs.Parts.{no_leaf, no_value, own_leaf, lane, lane_in, leaves_of, leaves_in}
use Rattle.shade_values.specs.Apply.{Apply, dot, converted_part, vector_of_one, vector_parts}
use Rattle.shade_values.specs.Shape.{plain, vector}
use Rattle.shade_values.specs.Takes.{Row, IsBool, formed, one, truth_of, IsInteger, PartsAdd, VectorOf, Swizzled}
use Rattle.shade_values.specs.Typed.{IsLeafOf, IsValueOf}
use Rattle.shade_values.proofs.RangeLaws.{wrapped_twice, truth_ranged, converted_ranged}
use Rattle.shade_words.specs.Forms.{IsFormed, form_shape, count_of, vector_leaf, part_leaf}
use Rattle.shade_words.proofs.LeafLaws.{Leafwise, own_one, lane_one, lane_many, lane_typed, IsTyped, AreTyped, AreFormed}

pub some_is : (r x : ShadeType) → Some r ≡ Some x → r ≡ x
some_is r x e = cc

-- vectors of two parts or more
abbrev pub IsVector : ShadeType → Type 0
IsVector (type.Vector n s) = 2 ≤ n
IsVector _ = Unit {0}

abbrev pub AreVectors : List ShadeType → Type 0
AreVectors [] = Unit {0}
AreVectors (ty ∷ tys) = IsVector ty × AreVectors tys

formed_one : (f : Option ℕ) (s : Scalar) → IsFormed (formed f s)
formed_one None s = tt
formed_one (Some n) s = tt

-- ---- whether all parts are true, or some

pub all_leafwise : (tys : List ShadeType) (r : ShadeType) → Row IsBool one truth_of tys (Some r) → Leafwise AllOf tys r
all_leafwise tys r (f, s, fits, e, is) = subst (λ x. Leafwise AllOf x r) (sym e) (record {
  form = None;
  scalar = scalar.Bool;
  is = some_is r (type.Plain scalar.Bool) is;
  formed_args = (formed_one f s, tt);
  typed = all_typed;
  part = all_part;
})
  where
    all_typed : (args : List Value) → AreTyped (formed f s ∷ []) args → IsValueOf (plain scalar.Bool) (Apply AllOf args)
    all_typed [] h = absurd h
    all_typed (v ∷ []) h = (_, (refl, truth_ranged _), refl)
    all_typed (v ∷ w ∷ vs) h = absurd h.1

    all_part : (args : List Value) → AreTyped (formed f s ∷ []) args → (k : ℕ) → k < 1 → lane k (Apply AllOf args) ≡ part_leaf AllOf args k
    all_part [] h k lt = absurd h
    all_part (v ∷ []) h k lt = lane_one k _
    all_part (v ∷ w ∷ vs) h k lt = absurd h.1

pub any_leafwise : (tys : List ShadeType) (r : ShadeType) → Row IsBool one truth_of tys (Some r) → Leafwise Any tys r
any_leafwise tys r (f, s, fits, e, is) = subst (λ x. Leafwise Any x r) (sym e) (record {
  form = None;
  scalar = scalar.Bool;
  is = some_is r (type.Plain scalar.Bool) is;
  formed_args = (formed_one f s, tt);
  typed = any_typed;
  part = any_part;
})
  where
    any_typed : (args : List Value) → AreTyped (formed f s ∷ []) args → IsValueOf (plain scalar.Bool) (Apply Any args)
    any_typed [] h = absurd h
    any_typed (v ∷ []) h = (_, (refl, truth_ranged _), refl)
    any_typed (v ∷ w ∷ vs) h = absurd h.1

    any_part : (args : List Value) → AreTyped (formed f s ∷ []) args → (k : ℕ) → k < 1 → lane k (Apply Any args) ≡ part_leaf Any args k
    any_part [] h k lt = absurd h
    any_part (v ∷ []) h k lt = lane_one k _
    any_part (v ∷ w ∷ vs) h k lt = absurd h.1

-- ---- the product of two vectors

pub dot_leafwise : (tys : List ShadeType) (r : ShadeType) → AreVectors tys
    → ((n : ℕ) × (s : Scalar) × IsInteger s × (tys ≡ type.Vector n s ∷ type.Vector n s ∷ []) × (Some r ≡ Some (type.Plain s))) → Leafwise Dot tys r
dot_leafwise tys r vectors (n, s, fits, e, is) = subst (λ x. Leafwise Dot x r) (sym e) (record {
  form = None;
  scalar = s;
  is = some_is r (type.Plain s) is;
  formed_args = (tt, (tt, tt));
  typed = dot_typed;
  part = dot_part;
})
  where
    two : 2 ≤ n
    two = (subst AreVectors e vectors).0

    dot_typed : (args : List Value) → AreTyped (type.Vector n s ∷ type.Vector n s ∷ []) args → IsValueOf (plain s) (Apply Dot args)
    dot_typed [] h = absurd h
    dot_typed (a ∷ []) h = absurd h.1
    dot_typed (a ∷ b ∷ []) h = (dot a b, ((lane_typed (Some n) s a h.0 0 (omega (arith, two))).0, wrapped_twice (lane 0 a).scalar _), refl)
    dot_typed (a ∷ b ∷ c ∷ vs) h = absurd h.1.1

    dot_part : (args : List Value) → AreTyped (type.Vector n s ∷ type.Vector n s ∷ []) args → (k : ℕ) → k < 1 → lane k (Apply Dot args) ≡ part_leaf Dot args k
    dot_part [] h k lt = absurd h
    dot_part (a ∷ []) h k lt = absurd h.1
    dot_part (a ∷ b ∷ []) h k lt = lane_one k (dot a b)
    dot_part (a ∷ b ∷ c ∷ vs) h k lt = absurd h.1.1

-- ---- some parts of a vector

-- a vector of scalars that a function gives for some numbers
picked_twice : (g : ℕ → Leaf) (ks : List ℕ) → map (λ k. value.One (g k)) ks ≡ map value.One (map g ks)
picked_twice g [] = refl
picked_twice g (k ∷ ks) = ap (λ l. value.One (g k) ∷ l) (picked_twice g ks)

pub swizzle_leafwise : (n : ℕ) (letters : List ℕ) (tys : List ShadeType) (r : ShadeType) → length letters ≡ 4 → Swizzled n letters tys (Some r) → Leafwise (Swizzle n letters) tys r
swizzle_leafwise n letters tys r enough (m, s, lo, hi, all, e, is) = subst (λ x. Leafwise (Swizzle n letters) x r) (sym e) (record {
  form = Some n;
  scalar = s;
  is = some_is r (type.Vector n s) is;
  formed_args = (tt, tt);
  typed = typed;
  part = part;
})
  where
    long : length (take n letters) ≡ n
    long = length-take n letters ∙ (omega (arith, enough, hi))

    typed : (args : List Value) → AreTyped (type.Vector m s ∷ []) args → IsValueOf (vector n s) (Apply (Swizzle n letters) args)
    typed [] h = absurd h
    typed (v ∷ []) h = (
      map (λ k. lane k v) (take n letters),
      length-map (take n letters) (λ k. lane k v) ∙ long,
      λ k d lt. let here : k < length (take n letters) = omega (arith, lt, length-map (take n letters) (λ k. lane k v)) in
          subst (IsLeafOf s) (sym (get_or-map (λ k. lane k v) (take n letters) k 0 d here))
          (lane_typed (Some m) s v h.0 (get_or (take n letters) k 0) (all k 0 here)),
      ap value.Many (picked_twice (λ k. lane k v) (take n letters)),
    )
    typed (v ∷ w ∷ vs) h = absurd h.1

    part : (args : List Value) → AreTyped (type.Vector m s ∷ []) args → (k : ℕ) → k < n → lane k (Apply (Swizzle n letters) args) ≡ part_leaf (Swizzle n letters) args k
    part [] h k lt = absurd h
    part (v ∷ []) h k lt =
        ap (lane_in k) (outs-Many _)
        ∙ (ap own_leaf (get_or-map (λ j. value.One (lane j v)) (take n letters) k 0 no_value (omega (arith, lt, long)))
        ∙ (own_one _ ∙ ap (λ j. lane j v) (get_or-take n letters k 0 lt)))
    part (v ∷ w ∷ vs) h k lt = absurd h.1

-- ---- a vector of its parts

-- what the parts of the arguments are, one after another, before each is converted
record Spread (n : ℕ) (s : Scalar) (args : List Value) : Type 0 where
  pub leaves : List Leaf
  pub long : length leaves ≡ n
  pub parts : vector_parts n s args ≡ map (converted_part s) leaves
  pub part : (k : ℕ) → k < n → vector_leaf s args k ≡ converted s (get_or leaves k no_leaf)

converted_zero : (s : Scalar) → converted s (record { scalar = s; number = pos 0 }) ≡ record { scalar = s; number = pos 0 }
unfolding int_wrap
converted_zero scalar.Bool = refl
converted_zero scalar.I32 = refl
converted_zero scalar.U32 = refl
converted_zero scalar.Abstract = refl

copies : (n : ℕ) (s : Scalar) (l : Leaf) → replicate n (converted_part s l) ≡ map (converted_part s) (replicate n l)
copies zero s l = refl
copies (suc n) s l = ap (λ x. converted_part s l ∷ x) (copies n s l)

long_copies : (n : ℕ) (l : Leaf) → length (replicate n l) ≡ n
long_copies zero l = refl
long_copies (suc n) l = ap suc (long_copies n l)

copy_at : (n : ℕ) (l d : Leaf) (k : ℕ) → k < n → get_or (replicate n l) k d ≡ l
copy_at zero l d k lt = absurd (omega (arith, lt))
copy_at (suc n) l d zero lt = refl
copy_at (suc n) l d (suc k) lt = copy_at n l d k (omega (arith, lt))

spread_none : (n : ℕ) (s : Scalar) → Spread n s []
spread_none n s =
    let nothing : Leaf = record { scalar = s; number = pos 0 } in
    record {
      leaves = replicate n nothing;
      long = long_copies n nothing;
      parts = ap (λ l. replicate n (value.One l)) (sym (converted_zero s)) ∙ copies n s nothing;
      part = λ k lt. sym (ap (converted s) (copy_at n nothing no_leaf k lt) ∙ converted_zero s);
    }

spread_scalar : (n : ℕ) (s x : Scalar) (v : Value) → IsValueOf (plain x) v → Spread n s (v ∷ [])
spread_scalar n s x v (leaf, ok, is) = record {
  leaves = replicate n leaf;
  long = long_copies n leaf;
  parts = ap (λ w. vector_of_one n s (out-Value w)) is ∙ (ap (vector_of_one n s) (outs-One leaf) ∙ copies n s leaf);
  part = λ k lt. ap (converted s) (ap (lane k) is ∙ lane_one k leaf) ∙ sym (ap (converted s) (copy_at n leaf no_leaf k lt));
}

own_parts : (s : Scalar) (ls : List Leaf) → map (λ v. converted_part s (own_leaf v)) (map value.One ls) ≡ map (converted_part s) ls
own_parts s [] = refl
own_parts s (l ∷ ls) =
    let here : converted_part s (own_leaf (value.One l)) ≡ converted_part s l = ap (converted_part s) (own_one l) in
    let later = own_parts s ls in
    λ i. here i ∷ later i

spread_vector : (n : ℕ) (s x : Scalar) (v : Value) → IsValueOf (vector n x) v → Spread n s (v ∷ [])
spread_vector n s x v (leaves, long, all, is) = record {
  leaves = leaves;
  long = long;
  parts = ap (λ w. vector_of_one n s (out-Value w)) is ∙ (ap (vector_of_one n s) (outs-Many _) ∙ own_parts s leaves);
  part = λ k lt. ap (converted s) (ap (lane k) is ∙ lane_many k leaves (omega (arith, lt, long)));
}

-- how many parts an argument has
pub leaves_long : (f : Option ℕ) (s : Scalar) (v : Value) → IsValueOf (form_shape f s) v → length (leaves_of v) ≡ count_of f
leaves_long None s v (leaf, ok, is) = ap (λ w. length (leaves_of w)) is ∙ ap (λ w. length (leaves_in w)) (outs-One leaf)
leaves_long (Some n) s v (leaves, long, all, is) =
    ap (λ w. length (leaves_of w)) is
    ∙ (ap (λ w. length (leaves_in w)) (outs-Many _) ∙ (length-map (map value.One leaves) own_leaf ∙ (length-map leaves value.One ∙ long)))

add_long : (s : Scalar) (tys : List ShadeType) (n : ℕ) (args : List Value) → PartsAdd s tys n → AreTyped tys args → length (flat_map leaves_of args) ≡ n
add_long s [] n [] adds h = sym adds
add_long s [] n (v ∷ vs) adds h = absurd h
add_long s (ty ∷ tys) n [] adds h = absurd h
add_long s (ty ∷ tys) n (v ∷ vs) (m, rest, side, more, total) h =
    let here : length (leaves_of v) ≡ m = elim side as (λ _. length (leaves_of v) ≡ m) [
      | inl p ↦ leaves_long None s v (subst (λ x. IsTyped x v) p.0 h.0) ∙ sym p.1
      | inr p ↦ leaves_long (Some m) s v (subst (λ x. IsTyped x v) p h.0)
    ] in
    let later = add_long s tys rest vs more h.1 in
    omega (arith, length-append (leaves_of v) (flat_map leaves_of vs), here, later, total)

spread_many : (n : ℕ) (s : Scalar) (v w : Value) (vs : List Value) → length (flat_map leaves_of (v ∷ w ∷ vs)) ≡ n → Spread n s (v ∷ w ∷ vs)
spread_many n s v w vs long = record {
  leaves = flat_map leaves_of (v ∷ w ∷ vs);
  long = long;
  parts = refl;
  part = λ k lt. refl;
}

spread_added : (n : ℕ) (s : Scalar) (tys : List ShadeType) (args : List Value) → 2 ≤ n → PartsAdd s tys n → AreTyped tys args → Spread n s args
spread_added n s [] [] lo adds h = spread_none n s
spread_added n s [] (v ∷ vs) lo adds h = absurd h
spread_added n s (ty ∷ tys) [] lo adds h = absurd h
spread_added n s (ty ∷ []) (v ∷ []) lo (m, rest, inl p, more, total) h = absurd (omega (arith, lo, p.1, more, total))
spread_added n s (ty ∷ []) (v ∷ []) lo (m, rest, inr p, more, total) h =
    let same : m ≡ n = omega (arith, more, total) in
    spread_vector n s s v (subst (λ x. IsValueOf (vector x s) v) same (subst (λ x. IsTyped x v) p h.0))
spread_added n s (ty ∷ x ∷ tys) (v ∷ []) lo adds h = absurd h.1
spread_added n s tys (v ∷ w ∷ vs) lo adds h = spread_many n s v w vs (add_long s tys n (v ∷ w ∷ vs) adds h)

spread_one : (n : ℕ) (s : Scalar) (ty : ShadeType) (args : List Value) → ((v : Value) → IsTyped ty v → Spread n s (v ∷ [])) → AreTyped (ty ∷ []) args → Spread n s args
spread_one n s ty [] each h = absurd h
spread_one n s ty (v ∷ []) each h = each v h.0
spread_one n s ty (v ∷ w ∷ vs) each h = absurd h.1

spread_nothing : (n : ℕ) (s : Scalar) (args : List Value) → AreTyped [] args → Spread n s args
spread_nothing n s [] h = spread_none n s
spread_nothing n s (v ∷ vs) h = absurd h

converted_typed : (s : Scalar) (l : Leaf) → IsLeafOf s (converted s l)
converted_typed scalar.Bool l = (refl, converted_ranged scalar.Bool l)
converted_typed scalar.I32 l = (refl, converted_ranged scalar.I32 l)
converted_typed scalar.U32 l = (refl, converted_ranged scalar.U32 l)
converted_typed scalar.Abstract l = (refl, converted_ranged scalar.Abstract l)

converted_twice : (s : Scalar) (ls : List Leaf) → map (converted_part s) ls ≡ map value.One (map (converted s) ls)
converted_twice s [] = refl
converted_twice s (l ∷ ls) = ap (λ x. converted_part s l ∷ x) (converted_twice s ls)

spread_typed : (n : ℕ) (s : Scalar) (args : List Value) → Spread n s args → IsValueOf (vector n s) (Apply (Vector n s) args)
spread_typed n s args h = (
  map (converted s) h.leaves,
  length-map h.leaves (converted s) ∙ h.long,
  λ k d lt. let here : k < length h.leaves = omega (arith, lt, length-map h.leaves (converted s)) in
      subst (IsLeafOf s) (sym (get_or-map (converted s) h.leaves k no_leaf d here)) (converted_typed s (get_or h.leaves k no_leaf)),
  ap value.Many (h.parts ∙ converted_twice s h.leaves),
)

spread_part : (n : ℕ) (s : Scalar) (args : List Value) → Spread n s args → (k : ℕ) → k < n → lane k (Apply (Vector n s) args) ≡ part_leaf (Vector n s) args k
spread_part n s args h k lt =
    ap (lane_in k) (outs-Many _)
    ∙ (ap (λ l. own_leaf (get_or l k no_value)) h.parts
    ∙ (ap own_leaf (get_or-map (converted_part s) h.leaves k no_leaf no_value (omega (arith, lt, h.long))) ∙ (own_one _ ∙ sym (h.part k lt))))

all_added : (s : Scalar) (tys : List ShadeType) (n : ℕ) → PartsAdd s tys n → AreFormed tys
all_added s [] n adds = tt
all_added s (ty ∷ tys) n (m, rest, inl p, more, total) = (subst IsFormed (sym p.0) tt, all_added s tys rest more)
all_added s (ty ∷ tys) n (m, rest, inr p, more, total) = (subst IsFormed (sym p) tt, all_added s tys rest more)

made_vector : (n : ℕ) (s : Scalar) (tys : List ShadeType) (r : ShadeType) → r ≡ type.Vector n s → AreFormed tys → ((args : List Value) → AreTyped tys args → Spread n s args) → Leafwise (Vector n s) tys r
made_vector n s tys r is args_formed spread = record {
  form = Some n;
  scalar = s;
  is = is;
  formed_args = args_formed;
  typed = λ args h. spread_typed n s args (spread args h);
  part = λ args h k lt. spread_part n s args (spread args h) k lt;
}

pub vector_leafwise : (n : ℕ) (s : Scalar) (tys : List ShadeType) (r : ShadeType) → VectorOf n s tys (Some r) → Leafwise (Vector n s) tys r
vector_leafwise n s tys r (lo, hi, is, inl e) =
    subst (λ x. Leafwise (Vector n s) x r) (sym e) (made_vector n s [] r (some_is r (type.Vector n s) is) tt (spread_nothing n s))
vector_leafwise n s tys r (lo, hi, is, inr (inl e)) =
    subst (λ x. Leafwise (Vector n s) x r) (sym e) (made_vector n s (type.Plain s ∷ []) r (some_is r (type.Vector n s) is) (tt, tt) (λ args. spread_one n s (type.Plain s) args (spread_scalar n s s)))
vector_leafwise n s tys r (lo, hi, is, inr (inr (inl adds))) =
    made_vector n s tys r (some_is r (type.Vector n s) is) (all_added s tys n adds) (λ args. spread_added n s tys args lo adds)
vector_leafwise n s tys r (lo, hi, is, inr (inr (inr (x, ok, e)))) =
    subst (λ y. Leafwise (Vector n s) y r) (sym e) (made_vector n s (type.Vector n x ∷ []) r (some_is r (type.Vector n s) is) (tt, tt) (λ args. spread_one n s (type.Vector n x) args (spread_vector n s x)))
