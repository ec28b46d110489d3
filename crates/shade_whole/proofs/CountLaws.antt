-- What the shape of a module gives of calls and of numbers.
use Rattle.std.proofs.Common.{◌≡◌, refl, sym, ap, ◌∙◌, ℕ, ◌+◌, ◌<◌, ◌≤◌, Bool, true, false, ◌&&◌, List, [], ◌∷◌, ◌++◌, length, Option, Some, suc, inl, inr, arith, true≢false}
use Rattle.std.specs.Prelude.{◌==◌, slice_get}
use Rattle.std.specs.List.{list_all}
use Rattle.std.proofs.lemmas.Bool.{le-leb}
use Rattle.std.proofs.lemmas.Bool.Decides.{eqb_tells}
use Rattle.shade_values.specs.declared.types.ShadeType.{ShadeType}
use Rattle.shade_core.specs.declared.module.CoreFunction.{CoreFunction}
use Rattle.shade_core.specs.declared.module.CoreModule.{CoreModule}
use Rattle.shade_core.specs.declared.module.CoreParam.{CoreParam}
use Rattle.shade_core.specs.declared.statement.Argument.{Argument}
use Rattle.shade_core.specs.Code.{Code, done, plain, jump, call, branch, switch, loop, no_part, part, code_of}
use Rattle.shade_core.specs.Standing.{Standing, Head, calls, statements, are_numbered}
use Rattle.shade_core.specs.Views.{ValueTypes}
use Rattle.shade_core.specs.Fits.{Fits, AllFit, ArgumentsFit}
use Rattle.shade_core.specs.HasShape.{HasShape}
use Rattle.shade_flow.specs.Counted.{is_small, are_few, are_counted}
use Rattle.shade_rules.specs.Few.{takes_few, calls_take_few}
use Rattle.shade_whole.specs.Laws.{CallsHaveOrder, FunctionsAreCounted}

and_one : (a b : Bool) → (a && b) ≡ true → a ≡ true
and_one true b e = refl
and_one false b e = e

and_two : (a b : Bool) → (a && b) ≡ true → b ≡ true
and_two true b e = e
and_two false b e = absurd (true≢false (sym e))

and_both : (a b : Bool) → a ≡ true → b ≡ true → (a && b) ≡ true
and_both a b e f = ap (λ x. x && b) e ∙ f

-- ---- statements with small numbers, and calls of few arguments

record IsSmall (s : Standing) : Type 0 where
  pub number : is_small s.number ≡ true
  pub arguments : takes_few s.head ≡ true

abbrev AreSmall : List Standing → Type 0
AreSmall [] = Unit {0}
AreSmall (s ∷ list) = IsSmall s × AreSmall list

one_list : (xs ys : List Standing) → AreSmall (xs ++ ys) → AreSmall xs
one_list [] ys h = tt
one_list (x ∷ xs) ys h = (h.0, one_list xs ys h.1)

other_list : (xs ys : List Standing) → AreSmall (xs ++ ys) → AreSmall ys
other_list [] ys h = h
other_list (x ∷ xs) ys h = other_list xs ys h.1

counted_by : (c : Code) → AreSmall (statements c) → are_counted c ≡ true
counted_by done h = refl
counted_by (plain n act rest) h = and_both (is_small n) (are_counted rest) h.0.number (counted_by rest h.1)
counted_by (jump n act rest) h = and_both (is_small n) (are_counted rest) h.0.number (counted_by rest h.1)
counted_by (call n g args rest) h =
    and_both (is_small n) (are_few args && are_counted rest) h.0.number (and_both (are_few args) (are_counted rest) h.0.arguments (counted_by rest h.1))
counted_by (branch n cond one two rest) h =
    let parts = one_list (statements one ++ statements two) (statements rest) h.1 in
    and_both (is_small n) (are_counted one && (are_counted two && are_counted rest)) h.0.number
    (and_both (are_counted one) (are_counted two && are_counted rest) (counted_by one (one_list (statements one) (statements two) parts))
    (and_both (are_counted two) (are_counted rest) (counted_by two (other_list (statements one) (statements two) parts))
    (counted_by rest (other_list (statements one ++ statements two) (statements rest) h.1))))
counted_by (switch n selector parts rest) h =
    and_both (is_small n) (are_counted parts && are_counted rest) h.0.number
    (and_both (are_counted parts) (are_counted rest) (counted_by parts (one_list (statements parts) (statements rest) h.1))
    (counted_by rest (other_list (statements parts) (statements rest) h.1)))
counted_by (loop n body continuing leave rest) h =
    let parts = one_list (statements body ++ statements continuing) (statements rest) h.1 in
    and_both (is_small n) (are_counted body && (are_counted continuing && are_counted rest)) h.0.number
    (and_both (are_counted body) (are_counted continuing && are_counted rest) (counted_by body (one_list (statements body) (statements continuing) parts))
    (and_both (are_counted continuing) (are_counted rest) (counted_by continuing (other_list (statements body) (statements continuing) parts))
    (counted_by rest (other_list (statements body ++ statements continuing) (statements rest) h.1))))
counted_by no_part h = refl
counted_by (part n which keys fallback body others) h =
    and_both (are_counted body) (are_counted others) (counted_by body (one_list (statements body) (statements others) h)) (counted_by others (other_list (statements body) (statements others) h))

-- ---- what the shape gives

module _ (shader : CoreModule) (shape : HasShape shader) (f : CoreFunction) where
  as_long : (values : ValueTypes) (args : List Argument) (params : List CoreParam) → ArgumentsFit shader f values args params → length args ≡ length params
  as_long values [] [] h = refl
  as_long values (arg ∷ args) (param ∷ params) h = omega (arith, as_long values args params h.1)
  as_long values (arg ∷ args) [] h = absurd h
  as_long values [] (param ∷ params) h = absurd h

  few_arguments : (values : ValueTypes) (head : Head) (result : Option ShadeType) → Fits shader f values head result → takes_few head ≡ true
  few_arguments values (calls g args) result fits =
      let most : length fits.0.params ≤ 255 = (shape.limits.functions g fits.0 fits.1).params in
      le-leb (length args) 4294967295 (omega (arith, most, as_long values args fits.0.params fits.3))
  few_arguments values _ result fits = refl

  all_take_few : (before all : ValueTypes) (list : List Standing) → AllFit shader f before list all → list_all (λ s. takes_few s.head) list ≡ true
  all_take_few before all [] fit = refl
  all_take_few before all (s ∷ list) fit =
      and_both (takes_few s.head) (list_all (λ (r : Standing). takes_few r.head) list) (few_arguments before s.head fit.0 fit.1) (all_take_few (before ++ fit.0 ∷ []) all list fit.2)

  small_number : (n m : ℕ) → (m == n) ≡ true → n < 2147483647 → is_small m ≡ true
  small_number n m e lt = elim (eqb_tells m n) [
    | inl s ↦ le-leb m 2147483646 (omega (arith, s.1, lt))
    | inr d ↦ absurd (true≢false (sym e ∙ d.0))
  ]

  all_small : (n : ℕ) (before all : ValueTypes) (list : List Standing) → are_numbered n list ≡ true → n + length list < 2147483648 → AllFit shader f before list all → AreSmall list
  all_small n before all [] numbered few fit = tt
  all_small n before all (s ∷ list) numbered few fit = (
    record {
      number = small_number n s.number (and_one (s.number == n) (are_numbered (n + 1) list) numbered) (omega (arith, few));
      arguments = few_arguments before s.head fit.0 fit.1;
    },
    all_small (n + 1) (before ++ fit.0 ∷ []) all list (and_two (s.number == n) (are_numbered (n + 1) list) numbered) (omega (arith, few)) fit.2,
  )

each_function : (p : CoreFunction → Bool) (list : List CoreFunction) → ((k : ℕ) (f : CoreFunction) → slice_get list k ≡ Some f → p f ≡ true) → list_all p list ≡ true
each_function p [] h = refl
each_function p (f ∷ list) h = and_both (p f) (list_all p list) (h 0 f refl) (each_function p list (λ k g at. h (suc k) g at))

pub ordered : CallsHaveOrder
ordered shader shape = record {
  few = shape.few_functions;
  few_arguments = each_function calls_take_few shader.functions takes;
  acyclic = shape.acyclic;
}
  where
    takes : (k : ℕ) (f : CoreFunction) → slice_get shader.functions k ≡ Some f → calls_take_few f ≡ true
    takes k f at = let body = shape.bodies k f at in all_take_few shader shape f [] (shape.values k) (statements (code_of f.body)) body.typed.fit

pub counted : FunctionsAreCounted
counted shader shape k f at few =
    let body = shape.bodies k f at in
    let most : length f.params ≤ 255 = (shape.limits.functions k f at).params in
    let within : length (statements (code_of f.body)) < 2147483648 = few in
    and_both (are_few f.params) (are_counted (code_of f.body))
    (le-leb (length f.params) 4294967295 (omega (arith, most)))
    (counted_by (code_of f.body) (all_small shader shape f 0 [] (shape.values k) (statements (code_of f.body)) body.numbered (omega (arith, within)) body.typed.fit))
