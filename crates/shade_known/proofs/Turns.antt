-- One operand, one parameter or one value after another.
use Rattle.std.proofs.Common.{◌≡◌, refl, sym, ap, ◌∙◌, ℕ, zero, suc, ◌+◌, ◌<◌, ◌≤◌, Bool, true, false, List, [], ◌∷◌, ◌++◌, length, get_or, drop, map, Option, Some, None, append_assoc, append-nil, add-one, drop-cons, inl, inr, arith}
use Rattle.std.specs.Prelude.{◌||◌, slice_get, if◌then◌else◌}
use Rattle.std.specs.List.{list_any}
use Rattle.std.proofs.Math.ListN.{drop_of_length-le}
use Rattle.std.proofs.lemmas.List.Elements.{All-weaker}
use Rattle.std.proofs.lemmas.Option.{slice_get_within, slice_get-get_or, slice_get_cases}
use Rattle.shade_base.specs.declared.place.Place.{Place}
use Rattle.shade_values.specs.declared.types.Scalar.{Scalar}
use Rattle.shade_values.specs.declared.types.ShadeType.{ShadeType}
use Rattle.shade_values.specs.declared.types.ShadeType.TheVariants as type
use Rattle.shade_values.specs.declared.types.TypeId.{TypeId}
use Rattle.shade_values.specs.declared.value.Value.{Value}
use Rattle.shade_values.specs.Table.{StructView, members_at}
use Rattle.shade_values.specs.Sound.{IsOver, AreKnown}
use Rattle.shade_evaluate.specs.Evaluate.{first_asked}
use Rattle.shade_known.specs.declared.known.Operand.{Operand}
use Rattle.shade_known.specs.declared.known.What.{What}
use Rattle.shade_known.specs.Lookups.{value_of_node, values_of, joined_values}
use Rattle.shade_known.specs.Conversions.{cut, cut_all}
use Rattle.shade_known.specs.Operates.{is_fit, first_unfit}

pub drop_at : {A : Type 0} (xs : List A) (i : ℕ) (d : A) → i < length xs → drop i xs ≡ get_or xs i d ∷ drop (i + 1) xs
drop_at xs i d lt = rw add-one (drop-cons xs i d lt)

pub drop_here : {A : Type 0} (xs : List A) (i : ℕ) (x : A) → i < length xs → x ≡ get_or xs i x → drop i xs ≡ x ∷ drop (i + 1) xs
drop_here xs i x lt is = drop_at xs i x lt ∙ ap (λ y. y ∷ drop (i + 1) xs) (sym is)

drop_suc : {A : Type 0} (i : ℕ) (xs : List A) → drop 1 (drop i xs) ≡ drop (suc i) xs
drop_suc zero xs = refl
drop_suc (suc i) [] = refl
drop_suc (suc i) (x ∷ xs) = drop_suc i xs

pub drop_next : {A : Type 0} (i : ℕ) (xs : List A) → drop 1 (drop i xs) ≡ drop (i + 1) xs
drop_next i xs = rw add-one (drop_suc i xs)

pub drop_some : {A : Type 0} (xs : List A) (i : ℕ) (x : A) → Some x ≡ slice_get xs i → drop i xs ≡ x ∷ drop (i + 1) xs
drop_some xs i x is =
    let lt : i < length xs = slice_get_within xs i x (sym is) in
    let same : Some x ≡ Some (get_or xs i x) = is ∙ slice_get-get_or xs i x lt in
    drop_here xs i x lt cc

pub drop_none : {A : Type 0} (xs : List A) (i : ℕ) → None ≡ slice_get xs i → drop i xs ≡ []
drop_none xs i is =
    elim (slice_get_cases xs i).1 as (λ _. drop i xs ≡ []) [
      | inl w ↦ (let bad : None ≡ Some w.0 = is ∙ w.2 in cc)
      | inr w ↦ drop_of_length-le xs w.0
    ]

-- ---- parameters, one after another

module _ {B : Type 0} (f : ShadeType → B) (ps : List ShadeType) (i : ℕ) where
  pub map_turn : (ty : ShadeType) (b : B) (made : List B) {more all : List B}
      → Some ty ≡ slice_get ps i → b ≡ f ty → more ≡ made ++ b ∷ [] → made ++ map f (drop i ps) ≡ all → more ++ map f (drop (i + 1) ps) ≡ all
  map_turn ty b made is b_is grown h =
      ap (λ z. z ++ map f (drop (i + 1) ps)) grown ∙ append_assoc made (b ∷ []) (map f (drop (i + 1) ps))
      ∙ ap (λ z. made ++ z ∷ map f (drop (i + 1) ps)) b_is ∙ ap (λ z. made ++ map f z) (sym (drop_some ps i ty is)) ∙ h

  pub map_none : (made : List B) {all : List B} → None ≡ slice_get ps i → made ++ map f (drop i ps) ≡ all → made ≡ all
  map_none made is h = sym (append-nil made) ∙ ap (λ z. made ++ map f z) (sym (drop_none ps i is)) ∙ h

module _ (f : ShadeType → Bool) (ps : List ShadeType) (i : ℕ) where
  pub any_here : (ty : ShadeType) (b : Bool) {all : Bool} → Some ty ≡ slice_get ps i → b ≡ f ty → b ≡ true → list_any f (drop i ps) ≡ all → true ≡ all
  any_here ty b is e b_is h = ap (λ z. z || list_any f (drop (i + 1) ps)) (sym b_is ∙ e) ∙ ap (list_any f) (sym (drop_some ps i ty is)) ∙ h

  pub any_turn : (ty : ShadeType) (b : Bool) {all : Bool} → Some ty ≡ slice_get ps i → b ≡ f ty → b ≡ false → list_any f (drop i ps) ≡ all → list_any f (drop (i + 1) ps) ≡ all
  any_turn ty b is e b_is h = ap (λ z. z || list_any f (drop (i + 1) ps)) (sym b_is ∙ e) ∙ ap (list_any f) (sym (drop_some ps i ty is)) ∙ h

  pub any_none : {all : Bool} → None ≡ slice_get ps i → list_any f (drop i ps) ≡ all → false ≡ all
  any_none is h = ap (list_any f) (sym (drop_none ps i is)) ∙ h

-- ---- the values of operands

abbrev pub with_front : List Value → Option (List Value) → Option (List Value)
with_front vs None = None
with_front vs (Some others) = Some (vs ++ others)

front_step : (vs : List Value) (v : Value) (r : Option (List Value)) → with_front vs (joined_values (Some v) r) ≡ with_front (vs ++ v ∷ []) r
front_step vs v None = refl
front_step vs v (Some others) = ap Some (sym (append_assoc vs (v ∷ []) others))

module _ (facts : List (Option What)) (os : List Operand) (i : ℕ) (d : Operand) (vs : List Value) (lt : i < length os) where
  pub values_turn : (v : Value) {more : List Value} {all : Option (List Value)} → Some v ≡ value_of_node facts (get_or os i d).node → more ≡ vs ++ v ∷ []
      → with_front vs (values_of facts (drop i os)) ≡ all → with_front more (values_of facts (drop (i + 1) os)) ≡ all
  values_turn v value grown h =
      ap (λ z. with_front z (values_of facts (drop (i + 1) os))) grown
      ∙ sym (front_step vs v (values_of facts (drop (i + 1) os)))
      ∙ ap (λ z. with_front vs (joined_values z (values_of facts (drop (i + 1) os)))) value
      ∙ ap (λ z. with_front vs (values_of facts z)) (sym (drop_at os i d lt)) ∙ h

  pub values_none : {all : Option (List Value)} → None ≡ value_of_node facts (get_or os i d).node → with_front vs (values_of facts (drop i os)) ≡ all → None ≡ all
  values_none value h =
      ap (λ z. with_front vs (joined_values z (values_of facts (drop (i + 1) os)))) value
      ∙ ap (λ z. with_front vs (values_of facts z)) (sym (drop_at os i d lt)) ∙ h

-- ---- operands that do not fit

module _ (facts : List (Option What)) (os : List Operand) (types : List ShadeType) (i : ℕ) where
  unfit_end : (os : List Operand) → first_unfit facts os [] ≡ None
  unfit_end [] = refl
  unfit_end (o ∷ os) = refl

  pub unfit_none : {all : Option Place} → None ≡ slice_get types i → first_unfit facts (drop i os) (drop i types) ≡ all → None ≡ all
  unfit_none is h = sym (unfit_end (drop i os)) ∙ ap (first_unfit facts (drop i os)) (sym (drop_none types i is)) ∙ h

  module _ (d : Operand) (ty : ShadeType) (v : Option Value) (b : Bool) (lt : i < length os) (is : Some ty ≡ slice_get types i)
      (value : v ≡ value_of_node facts (get_or os i d).node) (fit : b ≡ is_fit v ty) where
    unfit_at : first_unfit facts (drop i os) (drop i types) ≡ (if b then first_unfit facts (drop (i + 1) os) (drop (i + 1) types) else Some (get_or os i d).place)
    unfit_at =
        ap (λ z. first_unfit facts z (drop i types)) (drop_at os i d lt)
        ∙ ap (λ z. first_unfit facts (get_or os i d ∷ drop (i + 1) os) z) (drop_some types i ty is)
        ∙ ap (λ z. if is_fit z ty then first_unfit facts (drop (i + 1) os) (drop (i + 1) types) else Some (get_or os i d).place) (sym value)
        ∙ ap (λ z. if z then first_unfit facts (drop (i + 1) os) (drop (i + 1) types) else Some (get_or os i d).place) (sym fit)

    pub unfit_here : {all : Option Place} → b ≡ false → first_unfit facts (drop i os) (drop i types) ≡ all → Some (get_or os i d).place ≡ all
    unfit_here b_is h = ap (λ z. if z then first_unfit facts (drop (i + 1) os) (drop (i + 1) types) else Some (get_or os i d).place) (sym b_is) ∙ sym unfit_at ∙ h

    pub unfit_turn : {all : Option Place} → b ≡ true → first_unfit facts (drop i os) (drop i types) ≡ all → first_unfit facts (drop (i + 1) os) (drop (i + 1) types) ≡ all
    unfit_turn b_is h = ap (λ z. if z then first_unfit facts (drop (i + 1) os) (drop (i + 1) types) else Some (get_or os i d).place) (sym b_is) ∙ sym unfit_at ∙ h

-- ---- values that are cut

pub cut_turn : (to : List (Option Scalar)) (values : List Value) (i : ℕ) (v : Value) (asks : Option Scalar) (made : List Value) {more all : List Value}
    → i < length values → v ≡ get_or values i v → asks ≡ first_asked (drop i to) → more ≡ made ++ cut asks v ∷ []
    → made ++ cut_all (drop i to) (drop i values) ≡ all → more ++ cut_all (drop (i + 1) to) (drop (i + 1) values) ≡ all
cut_turn to values i v asks made lt is asks_is grown h =
    let rest = cut_all (drop (i + 1) to) (drop (i + 1) values) in
    ap (λ z. z ++ rest) grown
    ∙ append_assoc made (cut asks v ∷ []) rest
    ∙ ap (λ z. made ++ cut z v ∷ rest) asks_is
    ∙ ap (λ z. made ++ cut (first_asked (drop i to)) v ∷ cut_all z (drop (i + 1) values)) (sym (drop_next i to))
    ∙ ap (λ z. made ++ cut_all (drop i to) z) (sym (drop_here values i v lt is)) ∙ h

-- ---- types of a longer table

known_more : (m n : ℕ) (ms : List (List ℕ × TypeId)) → m ≤ n → AreKnown m ms → AreKnown n ms
known_more m n ms le h = All-weaker (λ (x : List ℕ × TypeId). x.1.0 < m) (λ (x : List ℕ × TypeId). x.1.0 < n) (λ x p. omega (arith, p)) ms h

pub over_more : (m n : ℕ) (structs : List StructView) (ty : ShadeType) → m ≤ n → IsOver m structs ty → IsOver n structs ty
over_more m n structs (type.Plain s) le h = h
over_more m n structs (type.Vector k s) le h = h
over_more m n structs (type.Array id k) le h = (omega (arith, h.0), h.1)
over_more m n structs (type.RuntimeArray id) le h = omega (arith, h)
over_more m n structs (type.Atomic s) le h = h
over_more m n structs (type.Struct k) le h = (h.0, h.1, known_more m n (members_at structs k) le h.2)
over_more m n structs (type.Exchanged s) le h = h
over_more m n structs (type.Pointer sp id access) le h = omega (arith, h)
