-- Functions that have too many nodes for a graph.
use Rattle.std.proofs.Common.{◌≡◌, sym, subst, ◌∙◌, ℕ, ◌+◌, ◌≤◌, List, length, Some, inl, inr, arith}
use Rattle.std.specs.Prelude.{slice_get, Result, Ok, Err, IfErr, IsErrAnd}
use Rattle.std.proofs.lemmas.Bool.{cases_lt}
use Rattle.std.proofs.lemmas.Option.{slice_get_within}
use Rattle.shade_core.specs.declared.module.CoreFunction.{CoreFunction}
use Rattle.shade_graph.specs.declared.fault.GraphFault.{GraphFault}
use Rattle.shade_graph.specs.declared.fault.GraphFault.TheVariants.{TooManyNodes, NoMemory}
use Rattle.shade_graph.specs.Limits.{HasTooManyNodes, Refuses}
use Rattle.shade_graph.proofs.Members.{some_same}
use Rattle.shade_verdict.specs.Violations.{HasLargeFunction, IsRefused}
use Rattle.shade_verdict.specs.Found.{AreSmall}

-- the next function is small too
pub one_more : (functions : List CoreFunction) (k : ℕ) (f : CoreFunction) → slice_get functions k ≡ Some f → (HasTooManyNodes f → ⊥) → AreSmall functions k → AreSmall functions (k + 1)
one_more functions k f at small early number g lt at_number more = elim (cases_lt number k) [
  | inl below ↦ early number g below at_number more
  | inr above ↦ (let same : number ≡ k = omega (arith, lt, above) in
      let here : slice_get functions k ≡ Some g = subst (λ (n : ℕ). slice_get functions n ≡ Some g) same at_number in
      small (subst (λ (h : CoreFunction). HasTooManyNodes h) (some_same f g (sym at ∙ here)) more))
]

pub none_large : (functions : List CoreFunction) (k : ℕ) → length functions ≤ k → AreSmall functions k → HasLargeFunction functions → ⊥
none_large functions k le small large =
    let within = slice_get_within functions large.number large.function large.numbered in small large.number large.function (omega (arith, within, le)) large.numbered large.many

pub one_large : (functions : List CoreFunction) (k : ℕ) (f : CoreFunction) → slice_get functions k ≡ Some f → (fault : GraphFault) → Refuses f fault → IsRefused functions fault
one_large functions k f at TooManyNodes many = record { number = k; function = f; numbered = at; many = many }
one_large functions k f at NoMemory h = tt

-- an error that is passed along
pub errs : {T : Type 0} (r : Result T GraphFault) (fault : GraphFault) (Q : GraphFault → Type 0) → IsErrAnd r (λ e. e ≡ fault) → Q fault → IfErr r Q
errs (Ok t) fault Q is q = tt
errs (Err e) fault Q is q = subst Q (sym is) q
