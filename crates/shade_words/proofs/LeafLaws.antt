-- Operations whose result is a scalar or a vector: the result has its type, and its parts are those that are computed.
use Rattle.std.proofs.Common.{◌≡◌, ℕ, ◌<◌, ◌⊎◌, inl, inr, List, [], ◌∷◌, Option, Some, None, map, length, get_or, refl, sym, ap, subst, ◌∙◌, arith}
use Rattle.std.specs.List.{range_with_len}
use Rattle.std.proofs.lemmas.List.{get_or-map, length-map}
use Rattle.std.proofs.lemmas.List.FromFn.{get_or-map-range_with_len, length-map-range_with_len}
use Rattle.shade_values.specs.declared.types.Scalar.{Scalar}
use Rattle.shade_values.specs.declared.types.ShadeType.{ShadeType}
use Rattle.shade_values.specs.declared.types.ShadeType.TheVariants as type
use Rattle.shade_values.specs.declared.value.Leaf.{Leaf}
use Rattle.shade_values.specs.declared.value.Value.{Value}
use Rattle.shade_values.specs.declared.value.Value.TheVariants as value
use Rattle.shade_values.specs.declared.value.Value.TheViews.{outs-One, outs-Many}
use Rattle.shade_values.specs.declared.op.Op.{Op}
use Rattle.shade_values.specs.Operations.{unary, binary, ternary, quaternary}
use Rattle.shade_values.specs.Parts.{no_leaf, no_value, own_leaf, leaf_in, lane, lane_in, lanes, lanes_in}
use Rattle.shade_values.specs.Apply.{Apply, by_parts, over_lanes, at_lane}
use Rattle.shade_values.specs.Shape.{plain, vector}
use Rattle.shade_values.specs.Takes.{formed}
use Rattle.shade_values.specs.Typed.{IsLeafOf, IsValueOf}
use Rattle.shade_words.specs.Forms.{IsFormed, form_shape, count_of, part_leaf}

-- ---- the parts of a scalar or a vector

pub own_one : (l : Leaf) → own_leaf (value.One l) ≡ l
own_one l = ap leaf_in (outs-One l)

pub lane_one : (k : ℕ) (l : Leaf) → lane k (value.One l) ≡ l
lane_one k l = ap (lane_in k) (outs-One l)

pub lane_many : (k : ℕ) (ls : List Leaf) → k < length ls → lane k (value.Many (map value.One ls)) ≡ get_or ls k no_leaf
lane_many k ls lt =
    ap (lane_in k) (outs-Many _)
    ∙ (ap own_leaf (get_or-map value.One ls k no_leaf no_value lt) ∙ own_one (get_or ls k no_leaf))

-- each part of a value of a type is of the type's scalar
pub lane_typed : (f : Option ℕ) (s : Scalar) (v : Value) → IsValueOf (form_shape f s) v → (k : ℕ) → k < count_of f → IsLeafOf s (lane k v)
lane_typed None s v (leaf, ok, is) k lt = subst (IsLeafOf s) (sym (ap (lane k) is ∙ lane_one k leaf)) ok
lane_typed (Some n) s v (leaves, long, all, is) k lt =
    let here : k < length leaves = omega (arith, lt, long) in
    subst (IsLeafOf s) (sym (ap (lane k) is ∙ lane_many k leaves here)) (all k no_leaf here)

abbrev pub joined : Option ℕ → Option ℕ → Option ℕ
joined None m = m
joined (Some n) m = Some n

pub joined_none : (m : Option ℕ) → joined m None ≡ m
joined_none None = refl
joined_none (Some n) = refl

pub joined_self : (m : Option ℕ) → joined m m ≡ m
joined_self None = refl
joined_self (Some n) = refl

lanes_more : (f : Option ℕ) (s : Scalar) (v : Value) (vs : List Value) → IsValueOf (form_shape f s) v → lanes (v ∷ vs) ≡ joined f (lanes vs)
lanes_more None s v vs (leaf, ok, is) = ap (λ x. lanes (x ∷ vs)) is ∙ ap (λ x. lanes_in x (lanes vs)) (outs-One leaf)
lanes_more (Some n) s v vs (leaves, long, all, is) =
    ap (λ x. lanes (x ∷ vs)) is ∙ (ap (λ x. lanes_in x (lanes vs)) (outs-Many _) ∙ ap Some (length-map leaves value.One ∙ long))

-- ---- operands, each a form and a scalar

-- values of some types
abbrev pub IsTyped : ShadeType → Value → Type 0
IsTyped (type.Plain s) v = IsValueOf (plain s) v
IsTyped (type.Vector n s) v = IsValueOf (vector n s) v
IsTyped _ v = ⊥

abbrev pub AreTyped : List ShadeType → List Value → Type 0
AreTyped [] [] = Unit {0}
AreTyped (ty ∷ tys) (v ∷ vs) = IsTyped ty v × AreTyped tys vs
AreTyped _ _ = ⊥

abbrev pub AreFormed : List ShadeType → Type 0
AreFormed [] = Unit {0}
AreFormed (ty ∷ tys) = IsFormed ty × AreFormed tys

pub formed_typed : (f : Option ℕ) (s : Scalar) (v : Value) → IsTyped (formed f s) v → IsValueOf (form_shape f s) v
formed_typed None s v h = h
formed_typed (Some n) s v h = h

abbrev pub operand_types : List (Option ℕ × Scalar) → List ShadeType
operand_types [] = []
operand_types (o ∷ os) = formed o.0 o.1 ∷ operand_types os

operands_formed : (os : List (Option ℕ × Scalar)) → AreFormed (operand_types os)
operands_formed [] = tt
operands_formed (o ∷ os) = (one o.0, operands_formed os)
  where
    one : (f : Option ℕ) → IsFormed (formed f o.1)
    one None = tt
    one (Some n) = tt

abbrev pub form_of : List (Option ℕ × Scalar) → Option ℕ
form_of [] = None
form_of (o ∷ os) = joined o.0 (form_of os)

-- each is a scalar, or has as many parts as the result
abbrev pub AgreeOn : Option ℕ → List (Option ℕ × Scalar) → Type 0
AgreeOn f [] = Unit {0}
AgreeOn f (o ∷ os) = ((o.0 ≡ None) ⊎ (o.0 ≡ f)) × AgreeOn f os

abbrev pub AreLeaves : List (Option ℕ × Scalar) → List Leaf → Type 0
AreLeaves [] [] = Unit {0}
AreLeaves (o ∷ os) (l ∷ ls) = IsLeafOf o.1 l × AreLeaves os ls
AreLeaves _ _ = ⊥

-- the operation on scalars
abbrev pub over : Op → List Leaf → Leaf
over op (a ∷ []) = unary op a
over op (a ∷ b ∷ []) = binary op a b
over op (a ∷ b ∷ c ∷ []) = ternary op a b c
over op (a ∷ b ∷ c ∷ d ∷ []) = quaternary op a b c d
over op _ = no_leaf

at_lane_is : (op : Op) (args : List Value) (k : ℕ) → at_lane op args k ≡ over op (map (lane k) args)
at_lane_is op [] k = refl
at_lane_is op (a ∷ []) k = refl
at_lane_is op (a ∷ b ∷ []) k = refl
at_lane_is op (a ∷ b ∷ c ∷ []) k = refl
at_lane_is op (a ∷ b ∷ c ∷ d ∷ []) k = refl
at_lane_is op (a ∷ b ∷ c ∷ d ∷ e ∷ vs) k = refl

form_lanes : (os : List (Option ℕ × Scalar)) (args : List Value) → AreTyped (operand_types os) args → lanes args ≡ form_of os
form_lanes [] [] h = refl
form_lanes [] (v ∷ vs) h = absurd h
form_lanes (o ∷ os) [] h = absurd h
form_lanes (o ∷ os) (v ∷ vs) h = lanes_more o.0 o.1 v vs (formed_typed o.0 o.1 v h.0) ∙ ap (joined o.0) (form_lanes os vs h.1)

one_lane : (f g : Option ℕ) (s : Scalar) (v : Value) → (g ≡ None) ⊎ (g ≡ f) → IsValueOf (form_shape g s) v → (k : ℕ) → k < count_of f → IsLeafOf s (lane k v)
one_lane f g s v (inl e) h k lt = lane_scalar (subst (λ x. IsValueOf (form_shape x s) v) e h)
  where
    lane_scalar : IsValueOf (plain s) v → IsLeafOf s (lane k v)
    lane_scalar (leaf, ok, is) = subst (IsLeafOf s) (sym (ap (lane k) is ∙ lane_one k leaf)) ok
one_lane f g s v (inr e) h k lt = lane_typed f s v (subst (λ x. IsValueOf (form_shape x s) v) e h) k lt

form_leaves : (os : List (Option ℕ × Scalar)) (args : List Value) (f : Option ℕ) (k : ℕ) → AgreeOn f os → AreTyped (operand_types os) args → k < count_of f → AreLeaves os (map (lane k) args)
form_leaves [] [] f k agree h lt = tt
form_leaves [] (v ∷ vs) f k agree h lt = absurd h
form_leaves (o ∷ os) [] f k agree h lt = absurd h
form_leaves (o ∷ os) (v ∷ vs) f k agree h lt = (one_lane f o.0 o.1 v agree.0 (formed_typed o.0 o.1 v h.0) k lt, form_leaves os vs f k agree.1 h.1 lt)

-- ---- the result

-- what is made of the parts that an operation gives
pub over_typed : (op : Op) (args : List Value) (f : Option ℕ) (s : Scalar) → ((k : ℕ) → k < count_of f → IsLeafOf s (at_lane op args k)) → IsValueOf (form_shape f s) (over_lanes op args f)
over_typed op args None s h = (at_lane op args 0, h 0 (omega arith), refl)
over_typed op args (Some n) s h = (
  map (at_lane op args) (range_with_len 0 n),
  length-map-range_with_len (at_lane op args) 0 n,
  λ k d lt. let here : k < n = omega (arith, lt, length-map-range_with_len (at_lane op args) 0 n) in
      subst (IsLeafOf s) (sym (get_or-map-range_with_len (at_lane op args) 0 n k k d here (omega arith))) (h k here),
  ap value.Many (twice (range_with_len 0 n)),
)
  where
    twice : (ks : List ℕ) → map (λ k. value.One (at_lane op args k)) ks ≡ map value.One (map (at_lane op args) ks)
    twice [] = refl
    twice (k ∷ ks) = ap (λ l. value.One (at_lane op args k) ∷ l) (twice ks)

pub lane_over : (op : Op) (args : List Value) (f : Option ℕ) (k : ℕ) → k < count_of f → lane k (over_lanes op args f) ≡ at_lane op args k
lane_over op args None k lt = (let e : 0 ≡ k = omega (arith, lt) in lane_one k (at_lane op args 0) ∙ ap (at_lane op args) e)
lane_over op args (Some n) k lt =
    ap (lane_in k) (outs-Many _)
    ∙ (ap own_leaf (get_or-map-range_with_len (λ k. value.One (at_lane op args k)) 0 n k k no_value lt (omega arith)) ∙ own_one (at_lane op args k))

-- an operation whose result is a scalar or a vector, at some types
pub record Leafwise (op : Op) (tys : List ShadeType) (r : ShadeType) : Type 0 where
  pub form : Option ℕ
  pub scalar : Scalar
  pub is : r ≡ formed form scalar
  pub formed_args : AreFormed tys
  pub typed : (args : List Value) → AreTyped tys args → IsValueOf (form_shape form scalar) (Apply op args)
  pub part : (args : List Value) → AreTyped tys args → (k : ℕ) → k < count_of form → lane k (Apply op args) ≡ part_leaf op args k

-- one that goes part by part
pub by_operands : (op : Op) (os : List (Option ℕ × Scalar)) (f : Option ℕ) (s : Scalar) (r : ShadeType) → form_of os ≡ f → AgreeOn f os → ((ls : List Leaf) → AreLeaves os ls → IsLeafOf s (over op ls))
    → ((args : List Value) → Apply op args ≡ by_parts op args) → ((args : List Value) (k : ℕ) → part_leaf op args k ≡ at_lane op args k) → r ≡ formed f s → Leafwise op (operand_types os) r
by_operands op os f s r forms agree each apply_is part_is is = record {
  form = f;
  scalar = s;
  is = is;
  formed_args = operands_formed os;
  typed = λ args h.
      let all : Apply op args ≡ over_lanes op args f = apply_is args ∙ ap (over_lanes op args) (form_lanes os args h ∙ forms) in
      subst (IsValueOf (form_shape f s)) (sym all)
      (over_typed op args f s (λ k lt. subst (IsLeafOf s) (sym (at_lane_is op args k)) (each (map (lane k) args) (form_leaves os args f k agree h lt))));
  part = λ args h k lt.
      ap (lane k) (apply_is args ∙ ap (over_lanes op args) (form_lanes os args h ∙ forms))
      ∙ (lane_over op args f k lt ∙ sym (part_is args k));
}
