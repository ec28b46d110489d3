-- The arguments of a call in turn: what stands where one has a fault, and where all have values; and faults that are handed on.
use Rattle.std.proofs.Common.{◌≡◌, refl, sym, ap, subst, ◌∙◌, ℕ, ◌+◌, ◌<◌, ◌⊎◌, inl, inr, List, [], ◌∷◌, ◌++◌, length, get_or, drop, map, Option, Result, Ok, Err, append_assoc, add-one, drop-cons}
use Rattle.std.specs.Prelude.{IsErrAnd}
use Rattle.shade_base.specs.declared.place.Place.{Place}
use Rattle.shade_ast.specs.declared.expr.Expr.{Expr}
use Rattle.shade_values.specs.declared.types.Scalar.{Scalar}
use Rattle.shade_values.specs.declared.value.Value.{Value}
use Rattle.shade_values.specs.declared.op.Op.{Op}
use Rattle.shade_evaluate.specs.declared.fault.ConstFault.{ConstFault}
use Rattle.shade_evaluate.specs.Evaluate.{evaluated}
use Rattle.shade_const.specs.declared.fact.Fact.{Fact}
use Rattle.shade_const.specs.declared.held.Held.{Held}
use Rattle.shade_const.specs.Held.{IsHeld, IsAllAnswer}
use Rattle.shade_const.specs.Constant.{Part, joined, and_then, of_operands, values_of, part_of, constant_of}

-- ---- faults that are handed on

pub on_right : {P A B : Type 0} → (A → B) → P ⊎ A → P ⊎ B
on_right f (inl p) = inl p
on_right f (inr a) = inr (f a)

pub held_back : (a : Result Value ConstFault) (f : ConstFault) (r : Result Held ConstFault) → IsErrAnd r (λ x. x ≡ f) → IsHeld a (Err f) → IsHeld a r
held_back a f (Ok held) is h = absurd is
held_back a f (Err x) is h = subst (λ (z : ConstFault). IsHeld a (Err z)) (sym is) h

pub all_back : (a : Result (List Value) ConstFault) (f : ConstFault) (r : Result (List Value) ConstFault) → IsErrAnd r (λ x. x ≡ f) → IsAllAnswer a (Err f) → IsAllAnswer a r
all_back a f (Ok values) is h = absurd is
all_back a f (Err x) is h = subst (λ (z : ConstFault). IsAllAnswer a (Err z)) (sym is) h

-- ---- an operation on all

module _ (op : Op) (to : List (Option Scalar)) (at : Place) (facts : List (Option Fact)) (parts : List Part) where
  pub all_fault : (f : ConstFault) → values_of parts facts ≡ Err f → of_operands op to parts at facts ≡ Err f
  all_fault f e = ap (λ x. and_then x (λ values. evaluated op to values (map (λ p. p.place) parts) at)) e

  pub all_evaluated : (values : List Value) (places : List Place) → values_of parts facts ≡ Ok values → places ≡ map (λ p. p.place) parts
      → evaluated op to values places at ≡ of_operands op to parts at facts
  all_evaluated values places e here =
      ap (λ p. evaluated op to values p at) here ∙ sym (ap (λ x. and_then x (λ vs. evaluated op to vs (map (λ p. p.place) parts) at)) e)

-- ---- one argument after another

-- the values so far, and then the others
abbrev pub behind : List Value → Result (List Value) ConstFault → Result (List Value) ConstFault
behind values (Err f) = Err f
behind values (Ok others) = Ok (values ++ others)

behind_step : (values : List Value) (v : Value) (r : Result (List Value) ConstFault) → behind values (joined (Ok v) r) ≡ behind (values ++ v ∷ []) r
behind_step values v (Err f) = refl
behind_step values v (Ok others) = ap Ok (sym (append_assoc values (v ∷ []) others))

pub behind_none : (r : Result (List Value) ConstFault) → behind [] r ≡ r
behind_none (Err f) = refl
behind_none (Ok others) = refl

drop_here : {A : Type 0} (xs : List A) (i : ℕ) (x : A) → i < length xs → x ≡ get_or xs i x → drop i xs ≡ x ∷ drop (i + 1) xs
drop_here xs i x lt is = rw add-one (drop-cons xs i x lt) ∙ ap (λ y. y ∷ drop (i + 1) xs) (sym is)

module _ (facts : List (Option Fact)) (exprs : List Expr) (i : ℕ) (e : Expr) (lt : i < length exprs) (is : e ≡ get_or exprs i e) (values : List Value) where
  pub value_turn : (v : Value) {more : List Value} {all : Result (List Value) ConstFault} → constant_of facts e ≡ Ok v → more ≡ values ++ v ∷ []
      → behind values (values_of (map part_of (drop i exprs)) facts) ≡ all → behind more (values_of (map part_of (drop (i + 1) exprs)) facts) ≡ all
  value_turn v here grown h =
      ap (λ z. behind z (values_of (map part_of (drop (i + 1) exprs)) facts)) grown
      ∙ sym (behind_step values v (values_of (map part_of (drop (i + 1) exprs)) facts))
      ∙ ap (λ z. behind values (joined z (values_of (map part_of (drop (i + 1) exprs)) facts))) (sym here)
      ∙ ap (λ z. behind values (values_of (map part_of z) facts)) (sym (drop_here exprs i e lt is)) ∙ h

  pub value_fault : (f : ConstFault) {all : Result (List Value) ConstFault} → behind values (values_of (map part_of (drop i exprs)) facts) ≡ all
      → constant_of facts e ≡ Err f → all ≡ Err f
  value_fault f h here =
      sym h ∙ ap (λ z. behind values (values_of (map part_of z) facts)) (drop_here exprs i e lt is)
      ∙ ap (λ z. behind values (joined z (values_of (map part_of (drop (i + 1) exprs)) facts))) here
