-- Values that are all known, one by one.
use Rattle.std.proofs.Common.{◌≡◌, refl, sym, ap, ◌∙◌, Bool, true, false, ℕ, ◌+◌, ◌<◌, ◌≤◌, List, [], ◌∷◌, ◌++◌, length, get_or, map, drop, Option, None, Some, append_assoc}
use Rattle.std.proofs.lemmas.List.{append-nil}
use Rattle.std.proofs.Math.ListN.{drop_of_length-le}
use Rattle.std.specs.Prelude.{is_some, if◌then◌else◌}
use Rattle.std.specs.Option.{option_map, option_to_list}
use Rattle.std.specs.List.{list_all, flat_map}
use Rattle.shade_values.specs.declared.value.Value.{Value}
use Rattle.shade_core.specs.declared.statement.Operand.{Operand}
use Rattle.shade_core.proofs.CodeLaws.{drop_here}
use Rattle.shade_lane.specs.Lane.{all_known}

-- some values before those of what is left
abbrev pub after : List Value → List (Option Value) → Option (List Value)
after values left = option_map (λ vs. values ++ vs) (all_known left)

-- one more value
after_one : (values : List Value) (v : Value) (left : List (Option Value)) → after (values ++ v ∷ []) left ≡ after values (Some v ∷ left)
after_one values v left = by (list_all is_some left)
  where
    by : (b : Bool) → option_map (λ vs. (values ++ v ∷ []) ++ vs) (if b then Some (flat_map option_to_list left) else None) ≡ option_map (λ vs. values ++ vs) (if b then Some (v ∷ flat_map option_to_list left) else None)
    by true = ap Some (append_assoc values (v ∷ []) (flat_map option_to_list left))
    by false = refl

pub known_next : (f : Operand → Option Value) (args : List Operand) (i : ℕ) (x : Operand) (values values' : List Value) (v : Value) (all : Option (List Value))
    → i < length args → x ≡ get_or args i x → f x ≡ Some v → values' ≡ values ++ v ∷ [] → after values (map f (drop i args)) ≡ all → after values' (map f (drop (i + 1) args)) ≡ all
known_next f args i x values values' v all lt is found more h =
    ap (λ vs. after vs (map f (drop (i + 1) args))) more
    ∙ (after_one values v (map f (drop (i + 1) args))
    ∙ (ap (λ o. after values (o ∷ map f (drop (i + 1) args))) (sym found) ∙ (ap (λ xs. after values (map f xs)) (sym (drop_here args i x lt is)) ∙ h)))

-- one that is not known
pub known_never : (f : Operand → Option Value) (args : List Operand) (i : ℕ) (x : Operand) (values : List Value) (all : Option (List Value))
    → i < length args → x ≡ get_or args i x → f x ≡ None → after values (map f (drop i args)) ≡ all → None ≡ all
known_never f args i x values all lt is none h =
    ap (λ o. after values (o ∷ map f (drop (i + 1) args))) (sym none) ∙ (ap (λ xs. after values (map f xs)) (sym (drop_here args i x lt is)) ∙ h)

-- no more
pub known_end : (f : Operand → Option Value) (args : List Operand) (i : ℕ) (values : List Value) (all : Option (List Value)) → length args ≤ i → after values (map f (drop i args)) ≡ all → Some values ≡ all
known_end f args i values all past h =
    ap Some (sym (append-nil values)) ∙ (ap (λ xs. after values (map f xs)) (sym (drop_of_length-le args past)) ∙ h)
