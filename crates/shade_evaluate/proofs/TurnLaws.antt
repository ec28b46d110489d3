-- One operand after another.
use Rattle.std.proofs.Common.{◌≡◌, refl, sym, ap, ◌∙◌, ℕ, zero, suc, ◌+◌, ◌<◌, ◌≤◌, Bool, true, false, List, [], ◌∷◌, ◌++◌, length, get_or, take, drop, set, Option, Some, None, append_assoc, append-nil, add-one, drop-cons, inl, inr, arith}
use Rattle.std.specs.Prelude.{slice_get, if◌then◌else◌}
use Rattle.std.proofs.Math.ListN.{drop_of_length-le}
use Rattle.std.proofs.lemmas.List.{take_more_set, drop-set-lt, length-set}
use Rattle.std.proofs.lemmas.Option.{slice_get_within, slice_get-get_or, slice_get_cases}
use Rattle.shade_base.specs.declared.place.Place.{Place}
use Rattle.shade_values.specs.declared.types.Scalar.{Scalar}
use Rattle.shade_values.specs.declared.value.Value.{Value}
use Rattle.shade_values.specs.declared.op.Op.{Op}
use Rattle.shade_evaluate.specs.Evaluate.{target, meets, asked, first_asked, asked_all, first_unfit}

drop_at : {A : Type 0} (xs : List A) (i : ℕ) (d : A) → i < length xs → drop i xs ≡ get_or xs i d ∷ drop (i + 1) xs
drop_at xs i d lt = rw add-one (drop-cons xs i d lt)

drop_here : {A : Type 0} (xs : List A) (i : ℕ) (x : A) → i < length xs → x ≡ get_or xs i x → drop i xs ≡ x ∷ drop (i + 1) xs
drop_here xs i x lt is = drop_at xs i x lt ∙ ap (λ y. y ∷ drop (i + 1) xs) (sym is)

drop_suc : {A : Type 0} (i : ℕ) (xs : List A) → drop 1 (drop i xs) ≡ drop (suc i) xs
drop_suc zero xs = refl
drop_suc (suc i) [] = refl
drop_suc (suc i) (x ∷ xs) = drop_suc i xs

drop_next : {A : Type 0} (i : ℕ) (xs : List A) → drop 1 (drop i xs) ≡ drop (i + 1) xs
drop_next i xs = rw add-one (drop_suc i xs)

drop_some : {A : Type 0} (xs : List A) (i : ℕ) (x : A) → Some x ≡ slice_get xs i → drop i xs ≡ x ∷ drop (i + 1) xs
drop_some xs i x is =
    let lt : i < length xs = slice_get_within xs i x (sym is) in
    let same : Some x ≡ Some (get_or xs i x) = is ∙ slice_get-get_or xs i x lt in
    drop_here xs i x lt cc

drop_none : {A : Type 0} (xs : List A) (i : ℕ) → None ≡ slice_get xs i → drop i xs ≡ []
drop_none xs i is =
    elim (slice_get_cases xs i).1 as (λ _. drop i xs ≡ []) [
      | inl w ↦ (let bad : None ≡ Some w.0 = is ∙ w.2 in cc)
      | inr w ↦ drop_of_length-le xs w.0
    ]

-- ---- the first operand that does not fit

unfit_end : (op : Op) (to : List (Option Scalar)) (values : List Value) → first_unfit op to values [] ≡ None
unfit_end op to [] = refl
unfit_end op to (v ∷ values) = refl

module _ (op : Op) (to : List (Option Scalar)) (values : List Value) (places : List Place) (i : ℕ) where
  pub unfit_none : {all : Option Place} → None ≡ slice_get places i → first_unfit op (drop i to) (drop i values) (drop i places) ≡ all → None ≡ all
  unfit_none is h = sym (unfit_end op (drop i to) (drop i values)) ∙ ap (first_unfit op (drop i to) (drop i values)) (sym (drop_none places i is)) ∙ h

  unfit_at : (v : Value) (place : Place) → i < length values → v ≡ get_or values i v → Some place ≡ slice_get places i
      → first_unfit op (drop i to) (drop i values) (drop i places)
      ≡ (if meets (target op (first_asked (drop i to))) v then first_unfit op (drop (i + 1) to) (drop (i + 1) values) (drop (i + 1) places) else Some place)
  unfit_at v place lt is here =
      ap (λ z. first_unfit op (drop i to) z (drop i places)) (drop_here values i v lt is)
      ∙ ap (first_unfit op (drop i to) (v ∷ drop (i + 1) values)) (drop_some places i place here)
      ∙ ap (λ z. if meets (target op (first_asked (drop i to))) v then first_unfit op z (drop (i + 1) values) (drop (i + 1) places) else Some place) (drop_next i to)

  module _ (v : Value) (place : Place) (t asked_of : Option Scalar) (b : Bool) (lt : i < length values) (is : v ≡ get_or values i v) (here : Some place ≡ slice_get places i)
      (asks : asked_of ≡ first_asked (drop i to)) (targets : t ≡ target op asked_of) (fit : b ≡ meets t v) where
    tested : meets (target op (first_asked (drop i to))) v ≡ b
    tested = ap (λ z. meets (target op z) v) (sym asks) ∙ ap (λ z. meets z v) (sym targets) ∙ sym fit

    pub unfit_here : {all : Option Place} → b ≡ false → first_unfit op (drop i to) (drop i values) (drop i places) ≡ all → Some place ≡ all
    unfit_here bad h =
        ap (λ z. if z then first_unfit op (drop (i + 1) to) (drop (i + 1) values) (drop (i + 1) places) else Some place) (sym (tested ∙ bad))
        ∙ sym (unfit_at v place lt is here) ∙ h

    pub unfit_turn : {all : Option Place} → b ≡ true → first_unfit op (drop i to) (drop i values) (drop i places) ≡ all
        → first_unfit op (drop (i + 1) to) (drop (i + 1) values) (drop (i + 1) places) ≡ all
    unfit_turn good h =
        ap (λ z. if z then first_unfit op (drop (i + 1) to) (drop (i + 1) values) (drop (i + 1) places) else Some place) (sym (tested ∙ good))
        ∙ sym (unfit_at v place lt is here) ∙ h

-- ---- operands that convert in their places

module _ (now : List Value) (i : ℕ) (d : Value) (t : Option Scalar) {new : List Value} (grown : new ≡ set now i (asked t (get_or now i d))) where
  pub same_length : length new ≡ length now
  same_length = ap length grown ∙ length-set now i _

  pub asked_turn : (op : Op) (to : List (Option Scalar)) (asked_of : Option Scalar) {all : List Value}
      → i < length now → asked_of ≡ first_asked (drop i to) → t ≡ target op asked_of
      → take i now ++ asked_all op (drop i to) (drop i now) ≡ all → take (i + 1) new ++ asked_all op (drop (i + 1) to) (drop (i + 1) new) ≡ all
  asked_turn op to asked_of lt asks targets h =
      let v = get_or now i d in
      let y = asked t v in
      let y_is : y ≡ asked (target op (first_asked (drop i to))) v = ap (λ z. asked z v) (targets ∙ ap (target op) asks) in
      let rest = asked_all op (drop (i + 1) to) (drop (i + 1) now) in
      ap (λ z. take (i + 1) z ++ asked_all op (drop (i + 1) to) (drop (i + 1) z)) grown
      ∙ ap (λ z. z ++ asked_all op (drop (i + 1) to) (drop (i + 1) (set now i y))) (take_more_set now i y lt)
      ∙ ap (λ z. (take i now ++ y ∷ []) ++ asked_all op (drop (i + 1) to) z) (drop-set-lt (i + 1) now i y (omega arith))
      ∙ append_assoc (take i now) (y ∷ []) rest
      ∙ ap (λ z. take i now ++ z ∷ rest) y_is
      ∙ ap (λ z. take i now ++ asked (target op (first_asked (drop i to))) v ∷ asked_all op z (drop (i + 1) now)) (sym (drop_next i to))
      ∙ ap (λ z. take i now ++ asked_all op (drop i to) z) (sym (drop_at now i d lt))
      ∙ h
