-- One more step.
use Rattle.std.proofs.Common.{◌≡◌, sym, ap, subst, ◌∙◌, ℕ, ◌+◌, ◌<◌, ◌≤◌, false, List, [], ◌∷◌, length, get_or, drop, Option, Result, Ok, Err, add-one, drop-cons, arith}
use Rattle.std.specs.Prelude.{IsErrAnd}
use Rattle.std.proofs.Math.ListN.{drop_of_length-le}
use Rattle.shade_scope.specs.declared.scoped.Meaning.{Meaning}
use Rattle.shade_known.specs.declared.known.Found.{Found}
use Rattle.shade_known.specs.declared.known.Known.{Known}
use Rattle.shade_known.specs.declared.fault.TypingFault.{TypingFault}
use Rattle.shade_known.specs.declared.fault.TypingFault.TheVariants as fault
use Rattle.shade_known.specs.declared.fault.TypeRule.TheVariants as rule
use Rattle.shade_known.specs.Answers.{Answers}
use Rattle.shade_known.specs.Keeps.{Keeps, IsFoundLarge, IsUnkept}
use Rattle.shade_steps.specs.declared.step.Step.{Step}
use Rattle.shade_tasks.specs.Rules.{Rule, is_asked}
use Rattle.shade_tasks.specs.Takes.{size_place, Takes, ends, leaves, goes_on, fails, too_large, Begins, stops, one_more, Taken}

drop_here : {A : Type 0} (xs : List A) (i : ℕ) (x : A) → i < length xs → x ≡ get_or xs i x → drop i xs ≡ x ∷ drop (i + 1) xs
drop_here xs i x lt is = rw add-one (drop-cons xs i x lt) ∙ ap (λ y. y ∷ drop (i + 1) xs) (sym is)

-- what the steps from a place on give is what all give
pub record Leads (uses : List (Option Meaning)) (names : List (List ℕ)) (steps : List Step) (old : Known) (i : ℕ) (now : Known) : Type 0 where
  pub takes : (last : Known) (r : Result (List Step) TypingFault) → Takes uses names (drop i steps) now last r → Takes uses names steps old last r
  pub begins : (last : Known) → Begins uses names (drop i steps) now last → Begins uses names steps old last

module _ (uses : List (Option Meaning)) (names : List (List ℕ)) (steps : List Step) (old : Known) (i : ℕ) (now : Known) (s : Step) (leads : Leads uses names steps old i now) (lt : i < length steps) (is : s ≡ get_or steps i s) where
  here : drop i steps ≡ s ∷ drop (i + 1) steps
  here = drop_here steps i s lt is

  from_here : (last : Known) (r : Result (List Step) TypingFault) → Takes uses names (s ∷ drop (i + 1) steps) now last r → Takes uses names steps old last r
  from_here last r t = leads.takes last r (subst (λ l. Takes uses names l now last r) (sym here) t)

  begins_here : (last : Known) → Begins uses names (s ∷ drop (i + 1) steps) now last → Begins uses names steps old last
  begins_here last b = leads.begins last (subst (λ l. Begins uses names l now last) (sym here) b)

  pub leads_on : (f : Found) (next : Known) → Rule uses names now s (Ok f) → ¬ IsFoundLarge now.types f → Keeps now s.node f next → Leads uses names steps old (i + 1) next
  leads_on f next rule small keeps = record {
    takes = λ last r rest. from_here last r (goes_on f rule small keeps rest);
    begins = λ last rest. begins_here last (one_more f rule small keeps rest);
  }

  pub leads_left : is_asked now s.task ≡ false → Taken uses names steps old now (Ok i)
  leads_left not =
      let few : i ≤ length steps = omega (arith, lt) in
      (few, leads.takes now (Ok (drop i steps)) (subst (λ l. Takes uses names l now now (Ok l)) (sym here) (leaves not)))

  pub leads_fault : (e : TypingFault) → Answers (Rule uses names now s) (Err e) → Taken uses names steps old now (Err e)
  leads_fault (fault.Rule place broken) h = from_here now (Err (fault.Rule place broken)) (fails (fault.Rule place broken) h)
  leads_fault (fault.OutOfProfile place word) h = from_here now (Err (fault.OutOfProfile place word)) (fails (fault.OutOfProfile place word) h)
  leads_fault (fault.Constant c) h = from_here now (Err (fault.Constant c)) (fails (fault.Constant c) h)
  leads_fault fault.NoMemory h = leads.begins now stops

  large_here : (f : Found) (e : TypingFault) → Rule uses names now s (Ok f)
      → IsUnkept (size_place s.task s.place) (IsFoundLarge now.types f) e → Taken uses names steps old now (Err e)
  large_here f (fault.Rule place broken) h u =
      subst (λ (e : TypingFault). Takes uses names steps old now (Err e)) (sym u.0) (from_here now (Err (fault.Rule (size_place s.task s.place) rule.Size)) (too_large f h u.1))
  large_here f (fault.OutOfProfile place word) h u = absurd u
  large_here f (fault.Constant c) h u = absurd u
  large_here f fault.NoMemory h u = leads.begins now stops

  pub leads_large : (new : Known) (f : Found) (e : TypingFault) → new ≡ now → Rule uses names now s (Ok f)
      → IsUnkept (size_place s.task s.place) (IsFoundLarge now.types f) e → Taken uses names steps old new (Err e)
  leads_large new f e same h u = subst (λ k. Taken uses names steps old k (Err e)) (sym same) (large_here f e h u)

pub taken_back : (r : Result ℕ TypingFault) (e : TypingFault) (uses : List (Option Meaning)) (names : List (List ℕ)) (steps : List Step) (old new : Known)
    → IsErrAnd r (λ x. x ≡ e) → Taken uses names steps old new (Err e) → Taken uses names steps old new r
taken_back (Ok n) e uses names steps old new is h = absurd is
taken_back (Err x) e uses names steps old new is h = subst (λ (z : TypingFault). Taken uses names steps old new (Err z)) (sym is) h

-- no step is left
pub leads_end : (uses : List (Option Meaning)) (names : List (List ℕ)) (steps : List Step) (old : Known) (i : ℕ) (now : Known)
    → Leads uses names steps old i now → length steps ≤ i → Taken uses names steps old now (Ok (length steps))
leads_end uses names steps old i now leads past =
    let none : drop i steps ≡ [] = drop_of_length-le steps past in
    let all : drop (length steps) steps ≡ [] = drop_of_length-le steps (omega arith) in
    let few : length steps ≤ length steps = omega arith in (
      few,
      leads.takes now (Ok (drop (length steps) steps)) (subst (λ l. Takes uses names l now now (Ok (drop (length steps) steps))) (sym none)
          (subst (λ l. Takes uses names [] now now (Ok l)) (sym all) ends)),
    )
