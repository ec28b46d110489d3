-- What is told of a value is told of what asks for it.
use Rattle.std.proofs.Common.{◌≡◌, refl, sym, ap, subst, ◌∙◌, List, ℕ, false, Option, Some, None, Result, Ok, Err, IfOk, IfSome}
use Rattle.shade_base.specs.declared.place.Place.{Place}
use Rattle.shade_values.specs.declared.types.Access.{Access}
use Rattle.shade_values.specs.declared.types.ShadeType.{ShadeType}
use Rattle.shade_values.specs.declared.types.Space.{Space}
use Rattle.shade_values.specs.declared.types.TypeId.{TypeId}
use Rattle.shade_values.specs.declared.value.Value.{Value}
use Rattle.shade_values.specs.Sound.{IsOf}
use Rattle.shade_values.specs.Table.{Table}
use Rattle.shade_known.specs.declared.known.Known.{Known}
use Rattle.shade_known.specs.declared.known.Operand.{Operand}
use Rattle.shade_known.specs.declared.fault.TypeRule.{TypeRule}
use Rattle.shade_known.specs.declared.fault.TypingFault.{TypingFault}
use Rattle.shade_known.specs.declared.fault.TypingFault.TheVariants as fault
use Rattle.shade_known.specs.Answers.{Answers}
use Rattle.shade_known.specs.Conversions.{ConvertsTo}
use Rattle.shade_known.specs.Keeps.{IsFoundOf}
use Rattle.shade_known.proofs.Answering.{answers_by}
use Rattle.shade_steps.specs.declared.step.VarParts.{VarParts}
use Rattle.shade_typing.specs.Values.{Answer}
use Rattle.shade_declarations.specs.Bindings.{bound_found, IsBound}
use Rattle.shade_declarations.specs.Variables.{begins, broken_rule, Converted, fault_by, judged, memory_found, memory_of, OfType, space_in, access_in, unless_broken}

abbrev Becomes : Type 0
Becomes = Result (Option Value) TypingFault

-- want of memory leads to want of memory
module _ (Gives : Becomes → Type 0) (make : Becomes → Answer) (none : make (Err fault.NoMemory) ≡ Err fault.NoMemory) where
  abbrev Made : Answer → Type 0
  Made r = (c : Becomes) × Gives c × (r ≡ make c)

  made : (c : Becomes) → Answers Gives c → Answers Made (make c)
  made (Ok v) h = answers_by Made (make (Ok v)) (Ok v, h, refl)
  made (Err (fault.Rule place broken)) h = answers_by Made (make (Err (fault.Rule place broken))) (Err (fault.Rule place broken), h, refl)
  made (Err (fault.OutOfProfile place word)) h = answers_by Made (make (Err (fault.OutOfProfile place word))) (Err (fault.OutOfProfile place word), h, refl)
  made (Err (fault.Constant f)) h = answers_by Made (make (Err (fault.Constant f))) (Err (fault.Constant f), h, refl)
  made (Err fault.NoMemory) h = subst (Answers Made) (sym none) tt

  made_by : (c : Becomes) (r : Answer) → Answers Gives c → r ≡ make c → Answers Made r
  made_by c r h is = subst (Answers Made) (sym is) (made c h)

-- ---- `let`

bound_is_of : (t : Table) (ty : ShadeType) (c : Becomes) → IsOf t ty → IfOk (bound_found ty c) (λ f. IsFoundOf t f)
bound_is_of t ty (Ok v) h = h
bound_is_of t ty (Err f) h = tt

pub bound_of_type : (t : Table) (ty : ShadeType) (c : Becomes) (r : Answer) → IsOf t ty → r ≡ bound_found ty c → IfOk r (λ f. IsFoundOf t f)
bound_of_type t ty c r h is = subst (λ z. IfOk z (λ f. IsFoundOf t f)) (sym is) (bound_is_of t ty c h)

pub bound_so : (k : Known) (value : Operand) (to : Option ShadeType) (ty : ShadeType) (c : Becomes) (r : Answer) → to ≡ Some ty
    → Answers (ConvertsTo k false value ty) c → r ≡ bound_found ty c → Answers (IsBound k to value) r
bound_so k value to ty c r at h is =
    subst (λ z. Answers (IsBound k z value) r) (sym at) (made_by (ConvertsTo k false value ty) (bound_found ty) refl c r h is)

pub given_is_of : (t : Table) (to : Option ShadeType) (ty : ShadeType) → to ≡ Some ty → IfSome to (λ z. IsOf t z) → IsOf t ty
given_is_of t to ty at h = subst (λ z. IfSome z (λ s. IsOf t s)) at h

-- ---- variables

module _ (k : Known) (names : List (List ℕ)) (v : VarParts) (id : TypeId) (ty : ShadeType) where
  pub variable_so : (b : Option TypeRule) (c : Becomes) (r : Answer) → Answers (Converted k v.value ty) c → b ≡ broken_rule k names v id ty → r ≡ judged b k v ty c
      → Answers (OfType k names v id (Some ty)) r
  variable_so b c r h broken is =
      made_by (Converted k v.value ty) (judged (broken_rule k names v id ty) k v ty) refl c r h (is ∙ ap (λ z. judged z k v ty c) broken)

module _ (t : Table) (ty : ShadeType) (of : IsOf t ty) where
  found_of : (s : Option Space) (a : Access) (v : Option Value) → IsFoundOf t (memory_found s a ty v)
  found_of None a v = tt
  found_of (Some s) a v = of

  unbroken_is_of : (b : Option TypeRule) (place : Place) (r : Answer) → IfOk r (λ f. IsFoundOf t f) → IfOk (unless_broken b place r) (λ f. IsFoundOf t f)
  unbroken_is_of None place r h = h
  unbroken_is_of (Some broken) place r h = tt

  fault_is_of : (b : Option TypeRule) (place : Place) (f : TypingFault) → IfOk (fault_by b place f) (λ f. IsFoundOf t f)
  fault_is_of b place (fault.Rule at first) = tt
  fault_is_of b place (fault.OutOfProfile at word) = unbroken_is_of b place (Err (fault.OutOfProfile at word)) tt
  fault_is_of b place (fault.Constant f) = unbroken_is_of b place (Err (fault.Constant f)) tt
  fault_is_of b place fault.NoMemory = tt

  judged_is_of : (b : Option TypeRule) (k : Known) (v : VarParts) (c : Becomes) → IfOk (judged b k v ty c) (λ f. IsFoundOf t f)
  judged_is_of b k v (Ok value) =
      unbroken_is_of b v.place (Ok (memory_of k v ty value)) (found_of (space_in k v) (access_in k v) (begins v.level value))
  judged_is_of b k v (Err f) = fault_is_of b v.place f

  pub variable_of_type : (b : Option TypeRule) (k : Known) (v : VarParts) (c : Becomes) (r : Answer) → r ≡ judged b k v ty c → IfOk r (λ f. IsFoundOf t f)
  variable_of_type b k v c r is = subst (λ z. IfOk z (λ f. IsFoundOf t f)) (sym is) (judged_is_of b k v c)
