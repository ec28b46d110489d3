-- The first fault of statements, of a function and of a module.
use Rattle.std.proofs.Common.{◌≡◌, refl, sym, ap, ap₂, subst, ◌∙◌, ℕ, zero, suc, ◌+◌, ◌<◌, ◌≤◌, inl, inr, true, false, List, [], ◌∷◌, ◌++◌, length, get_or, take, map, Option, None, Some, IsSome, arith}
use Rattle.std.specs.Prelude.{All, slice_get}
use Rattle.std.specs.Option.{option_map}
use Rattle.std.proofs.lemmas.Bool.{cases_lt}
use Rattle.std.proofs.lemmas.List.{take-map, take_all, map_more}
use Rattle.std.proofs.lemmas.List.Elements.{All-map, All-more, All-get_or, All-head, All-tail}
use Rattle.std.proofs.lemmas.Option.{slice_get-map, slice_get-get_or, slice_get_within, get_or_from_slice_get}
use Rattle.shade_base.specs.declared.place.Place.{Place}
use Rattle.shade_core.specs.declared.behaviour.Behaviour.{Behaviour}
use Rattle.shade_core.specs.declared.control.ControlFault.{ControlFault}
use Rattle.shade_core.specs.declared.module.CoreFunction.{CoreFunction}
use Rattle.shade_core.specs.Code.{code_of}
use Rattle.shade_core.specs.Behaviour.{behaviour, body_behaviours}
use Rattle.shade_core.specs.Control.{body_faults, HasNoBehaviourFault}
use Rattle.shade_core.specs.Places.{list_places}
use Rattle.shade_rules.specs.declared.fault.BehaviourFault.{BehaviourFault}
use Rattle.shade_rules.specs.declared.fault.BehaviourFault.TheVariants.{NoReturn}
use Rattle.shade_rules.specs.declared.statements.Finding.{Finding}
use Rattle.shade_rules.specs.Faults.{told, IsNone, IsFirst, IsFirstIn, at_statement, at_end, IsFirstFault}
use Rattle.shade_rules.specs.Findings.{fault_of, place_of}
use Rattle.shade_rules.specs.Laws.{OneFault}

false_true : {A : Type 0} → false ≡ true → A
false_true e = let no_one : ⊥ = cc e in absurd no_one

-- ---- statements

-- what stands at a place of what is found
at_place : {A : Type 0} (f : Finding → A) (found : List Finding) (i : ℕ) (d : Finding) → i < length found → slice_get (map f found) i ≡ Some (f (get_or found i d))
at_place f found i d lt = slice_get-map f found i ∙ ap (λ (o : Option Finding). option_map f o) (slice_get-get_or found i d lt)

-- none before, and one here
pub first_here : (found : List Finding) (i : ℕ) (d : Finding) (what : ControlFault) (fault : BehaviourFault) → i < length found → All (λ f. IsNone (fault_of f)) (take i found) → fault_of (get_or found i d) ≡ Some what
    → fault ≡ told what (place_of (get_or found i d)) → IsFirst (map fault_of found) (map place_of found) fault
first_here found i d what fault lt before has is = record {
  number = i;
  what = what;
  place = place_of (get_or found i d);
  at = at_place fault_of found i d lt ∙ ap Some has;
  before = subst (All IsNone) (sym (take-map fault_of i found)) (All-map IsNone fault_of (take i found) before);
  stands = at_place place_of found i d lt;
  is = is;
}

-- none before, and none here
pub none_here : (found : List Finding) (i : ℕ) (d : Finding) → i < length found → All (λ f. IsNone (fault_of f)) (take i found) → fault_of (get_or found i d) ≡ None → All (λ f. IsNone (fault_of f)) (take (i + 1) found)
none_here found i d lt before has = All-more (λ f. IsNone (fault_of f)) found i d lt before has

-- none in all
pub none_found : (found : List Finding) (i : ℕ) → length found ≤ i → All (λ f. IsNone (fault_of f)) (take i found) → All IsNone (map fault_of found)
none_found found i past none = All-map IsNone fault_of found (subst (All (λ f. IsNone (fault_of f))) (take_all i found past) none)

-- ---- a law: the first is one

-- what holds of all before a place holds of each that stands there
taken : {X : Type 0} (P : X → Type 0) (xs : List X) (i n : ℕ) (x : X) → i < n → slice_get xs i ≡ Some x → All P (take n xs) → P x
taken P [] i n x lt at all = let no_one : ⊥ = cc at in absurd no_one
taken P (y ∷ xs) i zero x lt at all = absurd (omega (arith, lt))
taken P (y ∷ xs) zero (suc n) x lt at all = let same : y ≡ x = cc in subst P same (All-head P y (take n xs) all)
taken P (y ∷ xs) (suc i) (suc n) x lt at all = taken P xs i n x (omega (arith, lt)) at (All-tail P y (take n xs) all)

-- two places, of which each is behind all that have something
pub one_place : {X : Type 0} (P : X → Type 0) (xs : List X) (i j : ℕ) (x y : X) → slice_get xs i ≡ Some x → slice_get xs j ≡ Some y → All P (take i xs) → All P (take j xs) → (P x → ⊥) → (P y → ⊥) → i ≡ j
one_place P xs i j x y at other before before_other has has_other =
    elim (cases_lt i j) [
      | inl lt ↦ absurd (has (taken P xs i j x lt at before_other))
      | inr le ↦ elim (cases_lt j i) [ inl lt ↦ absurd (has_other (taken P xs j i y lt other before)) | inr ge ↦ omega (arith, le, ge) ]
    ]

pub same_at : {X : Type 0} (xs : List X) (i j : ℕ) (x y : X) → slice_get xs i ≡ Some x → slice_get xs j ≡ Some y → i ≡ j → x ≡ y
same_at xs i j x y at other same = let e : Some x ≡ Some y = sym at ∙ (ap (slice_get xs) same ∙ other) in some_one e
  where
    some_one : {X : Type 0} {x y : X} → Some x ≡ Some y → x ≡ y
    some_one e = cc

is_some_fault : (what : ControlFault) → IsNone (Some what) → ⊥
is_some_fault what e = cc e

first_is_one : (faults : List (Option ControlFault)) (places : List Place) (fault other : BehaviourFault) → IsFirst faults places fault → IsFirst faults places other → fault ≡ other
first_is_one faults places fault other a b =
    let same : a.number ≡ b.number = one_place IsNone faults a.number b.number (Some a.what) (Some b.what) a.at b.at a.before b.before (is_some_fault a.what) (is_some_fault b.what) in
    let what : Some a.what ≡ Some b.what = same_at faults a.number b.number (Some a.what) (Some b.what) a.at b.at same in
    let one : a.what ≡ b.what = cc in
    let place : a.place ≡ b.place = same_at places a.number b.number a.place b.place a.stands b.stands same in
    a.is ∙ (ap₂ told one place ∙ sym b.is)

-- a function with a first fault among its statements has not none
first_not_none : (faults : List (Option ControlFault)) (places : List Place) (fault : BehaviourFault) → IsFirst faults places fault → All IsNone faults → ⊥
first_not_none faults places fault a none =
    let within : a.number < length faults = slice_get_within faults a.number (Some a.what) a.at in
    is_some_fault a.what (subst IsNone (get_or_from_slice_get faults a.number (Some a.what) (Some a.what) a.at) (All-get_or IsNone faults a.number (Some a.what) within none))

first_in_is_one : (function : CoreFunction) (fault other : BehaviourFault) → IsFirstIn function fault → IsFirstIn function other → fault ≡ other
first_in_is_one function fault other (at_statement a) (at_statement b) = first_is_one (body_faults function) (list_places function.body) fault other a b
first_in_is_one function fault other (at_statement a) (at_end none gives next) = absurd (first_not_none (body_faults function) (list_places function.body) fault a none)
first_in_is_one function fault other (at_end none gives next) (at_statement b) = absurd (first_not_none (body_faults function) (list_places function.body) other b none)
first_in_is_one function fault other (at_end none gives next) (at_end none_ gives_ next_) = refl

-- one that has a fault has not none
first_in_not_none : (function : CoreFunction) (fault : BehaviourFault) → IsFirstIn function fault → HasNoBehaviourFault function → ⊥
first_in_not_none function fault (at_statement a) h = first_not_none (body_faults function) (list_places function.body) fault a h.control
first_in_not_none function fault (at_end none gives next) h = false_true (sym (h.returns gives) ∙ next)

pub one_fault : OneFault
one_fault = record {
  one = λ functions fault other a b.
      (let same : a.number ≡ b.number =
      one_place HasNoBehaviourFault functions a.number b.number a.function b.function a.at b.at a.before b.before (first_in_not_none a.function fault a.first) (first_in_not_none b.function other b.first) in
      let function : a.function ≡ b.function = same_at functions a.number b.number a.function b.function a.at b.at same in
      first_in_is_one b.function fault other (subst (λ (f : CoreFunction). IsFirstIn f fault) function a.first) b.first);
  none = λ functions fault none a.
      (let within : a.number < length functions = slice_get_within functions a.number a.function a.at in
      first_in_not_none a.function fault a.first (subst HasNoBehaviourFault (get_or_from_slice_get functions a.number a.function a.function a.at) (All-get_or HasNoBehaviourFault functions a.number a.function within none)));
}

-- ---- functions one after another

-- none before, and this is the first of a function
pub first_function : (functions : List CoreFunction) (i : ℕ) (f : CoreFunction) (fault : BehaviourFault) → i < length functions → f ≡ get_or functions i f → All HasNoBehaviourFault (take i functions) → IsFirstIn f fault → IsFirstFault functions fault
first_function functions i f fault lt is before first = record {
  number = i;
  function = f;
  at = slice_get-get_or functions i f lt ∙ ap Some (sym is);
  before = before;
  first = first;
}

-- a row more
pub row_more : (functions : List CoreFunction) (i : ℕ) (f : CoreFunction) (rows more : List (List Behaviour)) (row : List Behaviour) → i < length functions → f ≡ get_or functions i f → rows ≡ map body_behaviours (take i functions)
    → more ≡ rows ++ row ∷ [] → row ≡ body_behaviours f → more ≡ map body_behaviours (take (i + 1) functions)
row_more functions i f rows more row lt is before m e =
    m ∙ (ap₂ (λ l y. l ++ y ∷ []) before (e ∙ ap body_behaviours is) ∙ sym (map_more body_behaviours functions i f lt))

-- none before, and none in this function
pub no_function : (functions : List CoreFunction) (i : ℕ) (f : CoreFunction) → i < length functions → f ≡ get_or functions i f → All HasNoBehaviourFault (take i functions) → HasNoBehaviourFault f → All HasNoBehaviourFault (take (i + 1) functions)
no_function functions i f lt is before none = All-more HasNoBehaviourFault functions i f lt before (subst HasNoBehaviourFault is none)

pub none_in_all : (functions : List CoreFunction) (i : ℕ) → length functions ≤ i → All HasNoBehaviourFault (take i functions) → All HasNoBehaviourFault functions
none_in_all functions i past none = subst (All HasNoBehaviourFault) (take_all i functions past) none

-- ---- what is found of a function

module _ (function : CoreFunction) (found : List Finding) (faults_are : map fault_of found ≡ body_faults function) (places_are : map place_of found ≡ list_places function.body) where
  pub statement_fault : (fault : BehaviourFault) → IsFirst (map fault_of found) (map place_of found) fault → IsFirstIn function fault
  statement_fault fault h = at_statement (subst (λ (fs : List (Option ControlFault)). IsFirst fs (list_places function.body) fault) faults_are (subst (λ (ps : List Place). IsFirst (map fault_of found) ps fault) places_are h))

  pub end_fault : All IsNone (map fault_of found) → IsSome function.result → (behaviour (code_of function.body)).next ≡ true → IsFirstIn function (NoReturn function.place)
  end_fault none gives next = at_end (subst (All IsNone) faults_are none) gives next

  pub no_fault : All IsNone (map fault_of found) → (IsSome function.result → (behaviour (code_of function.body)).next ≡ false) → HasNoBehaviourFault function
  no_fault none returns = record { control = subst (All IsNone) faults_are none; returns = returns }
