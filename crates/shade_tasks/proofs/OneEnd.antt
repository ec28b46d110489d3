-- Steps that are taken from what is known end in one way.
use Rattle.std.proofs.Common.{◌≡◌, refl, sym, ap, subst, ◌∙◌, ℕ, Bool, true, false, List, [], ◌∷◌, Option, None, Some, is_some, Result, Ok, Err}
use Rattle.shade_base.specs.declared.place.Place.{Place}
use Rattle.shade_overload.specs.declared.builtin.Builtin.{Builtin}
use Rattle.shade_scope.specs.declared.scoped.Meaning.{Meaning}
use Rattle.shade_known.specs.declared.known.Found.{Found}
use Rattle.shade_known.specs.declared.known.Known.{Known}
use Rattle.shade_known.specs.declared.known.Operand.{Operand}
use Rattle.shade_known.specs.declared.fault.TypingFault.{TypingFault}
use Rattle.shade_known.specs.declared.fault.TypingFault.TheVariants as fault
use Rattle.shade_known.specs.declared.fault.TypeRule.TheVariants as rule
use Rattle.shade_known.specs.Keeps.{Keeps, IsFoundLarge}
use Rattle.shade_known.specs.Laws.{KeepsInOneWay}
use Rattle.shade_known.specs.Lookups.{what_in, is_idle}
use Rattle.shade_steps.specs.declared.step.Step.{Step}
use Rattle.shade_steps.specs.declared.step.Task.{Task}
use Rattle.shade_steps.specs.declared.step.Task.TheVariants as task
use Rattle.shade_typing.specs.Values.{Answer}
use Rattle.shade_calls.specs.Calls.{row_of}
use Rattle.shade_tasks.specs.Rules.{IsCall, RuleOf, Rule, is_asked}
use Rattle.shade_tasks.specs.Takes.{size_place, Takes, ends, leaves, goes_on, fails, too_large}
use Rattle.shade_tasks.specs.Laws.{StepsFindOneThing, TakesEndInOneWay}

abbrev Ends : Type 0
Ends = Result (List Step) TypingFault

module _ (uses : List (Option Meaning)) (names : List (List ℕ)) where
  -- ---- what has a rule is asked

  call_asked : (b : Option Builtin) (k : Known) (idle : Bool) (os : List Operand) (place : Place) (r : Answer) → IsCall b k idle os place r → is_some b ≡ true
  call_asked None k idle os place r p = absurd p
  call_asked (Some b) k idle os place r p = refl

  module _ (k : Known) where
    rule_asked : (node : ℕ) (place : Place) (idle : Bool) (t : Task) (r : Answer) → RuleOf uses names k node place idle t r → is_asked k t ≡ true
    rule_asked node place idle task.IsValue r p = refl
    rule_asked node place idle task.IsOperand r p = refl
    rule_asked node place idle (task.Decides operator left) r p = refl
    rule_asked node place idle (task.Number value suffix) r p = refl
    rule_asked node place idle (task.Truth b) r p = refl
    rule_asked node place idle (task.Name name) r p = refl
    rule_asked node place idle (task.Template name arguments) r p = refl
    rule_asked node place idle (task.Argument list name at) r p = refl
    rule_asked node place idle (task.Paren inner) r p = refl
    rule_asked node place idle (task.Prefix operator operand) r p = refl
    rule_asked node place idle (task.Infix left operator at right) r p = refl
    rule_asked node place idle (task.Member whole dot member) r p = refl
    rule_asked node place idle (task.Index whole bracket index) r p = refl
    rule_asked node place idle task.Condition r p = refl
    rule_asked node place idle (task.Asserts keyword) r p = refl
    rule_asked node place idle task.Target r p = refl
    rule_asked node place idle (task.Assigns value) r p = refl
    rule_asked node place idle (task.Compound operator at value) r p = refl
    rule_asked node place idle (task.Increment at) r p = refl
    rule_asked node place idle (task.Decrement at) r p = refl
    rule_asked node place idle (task.IsType wanted) r p = refl
    rule_asked node place idle (task.Alias ty) r p = refl
    rule_asked node place idle task.Result r p = refl
    rule_asked node place idle (task.Constant ty value) r p = refl
    rule_asked node place idle (task.Returns function value) r p = refl
    rule_asked node place idle task.Discards r p = refl
    rule_asked node place idle task.Override r p = refl
    rule_asked node place idle (task.Requires name) r p = refl
    rule_asked node place idle (task.Enables first) r p = refl
    rule_asked node place idle (task.Call callee arguments) r p = call_asked (row_of k.types (what_in k.facts callee.node)) k idle arguments place r p
    rule_asked node place idle t r p = absurd p

  asked : (k : Known) (s : Step) (r : Answer) → Rule uses names k s r → is_asked k s.task ≡ true
  asked k s r p = rule_asked k s.node s.place (is_idle k.facts s.under) s.task r p

  -- ---- the first of some steps

  data First (s : Step) (others : List Step) (k last : Known) (r : Ends) : Type 0 where
    left : is_asked k s.task ≡ false → last ≡ k → r ≡ Ok (s ∷ others) → First s others k last r
    on : (f : Found) (next : Known) → Rule uses names k s (Ok f) → ¬ IsFoundLarge k.types f → Keeps k s.node f next → Takes uses names others next last r
        → First s others k last r
    failed : (e : TypingFault) → Rule uses names k s (Err e) → last ≡ k → r ≡ Err e → First s others k last r
    large : (f : Found) → Rule uses names k s (Ok f) → IsFoundLarge k.types f → last ≡ k
        → r ≡ Err (fault.Rule (size_place s.task s.place) rule.Size) → First s others k last r

  abbrev Cases : List Step → Known → Known → Ends → Type 0
  Cases [] k last r = (last ≡ k) × (r ≡ Ok [])
  Cases (s ∷ others) k last r = First s others k last r

  cases : {steps : List Step} {k last : Known} {r : Ends} → Takes uses names steps k last r → Cases steps k last r
  cases ends = (refl, refl)
  cases (leaves not) = left not refl refl
  cases (goes_on {next = next} f h small keeps rest) = on f next h small keeps rest
  cases (fails e h) = failed e h refl refl
  cases (too_large f h big) = large f h big refl refl

  module _ (one : StepsFindOneThing) (keeps_one : KeepsInOneWay) where
    found_one : (k : Known) (s : Step) (f g : Found) → Rule uses names k s (Ok f) → Rule uses names k s (Ok g) → f ≡ g
    found_one k s f g p q = let e : ◌≡◌ {A = Answer} (Ok f) (Ok g) = one uses names k s (Ok f) (Ok g) p q in cc

    fault_one : (k : Known) (s : Step) (e f : TypingFault) → Rule uses names k s (Err e) → Rule uses names k s (Err f) → e ≡ f
    fault_one k s e f p q = let h : ◌≡◌ {A = Answer} (Err e) (Err f) = one uses names k s (Err e) (Err f) p q in cc

    unlike : (k : Known) (s : Step) (f : Found) (e : TypingFault) → Rule uses names k s (Ok f) → Rule uses names k s (Err e) → ⊥
    unlike k s f e p q = let h : ◌≡◌ {A = Answer} (Ok f) (Err e) = one uses names k s (Ok f) (Err e) p q in cc

    unasked : (k : Known) (s : Step) (r : Answer) → is_asked k s.task ≡ false → Rule uses names k s r → ⊥
    unasked k s r not p = let h : true ≡ false = sym (asked k s r p) ∙ not in cc

    small_one : (k : Known) (s : Step) (f g : Found) → Rule uses names k s (Ok f) → Rule uses names k s (Ok g) → IsFoundLarge k.types g → IsFoundLarge k.types f
    small_one k s f g p q big = subst (IsFoundLarge k.types) (sym (found_one k s f g p q)) big

    alike : {new other k : Known} {r t e : Ends} → new ≡ k → other ≡ k → r ≡ e → t ≡ e → (new ≡ other) × (r ≡ t)
    alike a b c d = (a ∙ sym b, c ∙ sym d)

    -- the rest of the steps ends in one way
    abbrev IsOneEnd : List Step → Type 0
    IsOneEnd steps = (k new other : Known) (r t : Ends) → Takes uses names steps k new r → Takes uses names steps k other t → (new ≡ other) × (r ≡ t)

    first_one : (s : Step) (others : List Step) (k new other : Known) (r t : Ends) → IsOneEnd others → First s others k new r → First s others k other t
        → (new ≡ other) × (r ≡ t)
    first_one s others k new other r t rests (left not a b) (left also c d) = alike a c b d
    first_one s others k new other r t rests (left not a b) (on f next h small keeps rest) = absurd (unasked k s (Ok f) not h)
    first_one s others k new other r t rests (left not a b) (failed e h c d) = absurd (unasked k s (Err e) not h)
    first_one s others k new other r t rests (left not a b) (large f h big c d) = absurd (unasked k s (Ok f) not h)
    first_one s others k new other r t rests (on f next h small keeps rest) (left not c d) = absurd (unasked k s (Ok f) not h)
    first_one s others k new other r t rests (on f next h small keeps rest) (on g after i few kept tail) =
        let same : next ≡ after = keeps_one k s.node g next after (subst (λ x. Keeps k s.node x next) (found_one k s f g h i) keeps) kept in
        rests after new other r t (subst (λ x. Takes uses names others x new r) same rest) tail
    first_one s others k new other r t rests (on f next h small keeps rest) (failed e i c d) = absurd (unlike k s f e h i)
    first_one s others k new other r t rests (on f next h small keeps rest) (large g i big c d) = absurd (small (small_one k s f g h i big))
    first_one s others k new other r t rests (failed e h a b) (left not c d) = absurd (unasked k s (Err e) not h)
    first_one s others k new other r t rests (failed e h a b) (on g after i few kept tail) = absurd (unlike k s g e i h)
    first_one s others k new other r t rests (failed e h a b) (failed f i c d) = (a ∙ sym c, b ∙ ap Err (fault_one k s e f h i) ∙ sym d)
    first_one s others k new other r t rests (failed e h a b) (large g i big c d) = absurd (unlike k s g e i h)
    first_one s others k new other r t rests (large f h big a b) (left not c d) = absurd (unasked k s (Ok f) not h)
    first_one s others k new other r t rests (large f h big a b) (on g after i few kept tail) = absurd (few (small_one k s g f i h big))
    first_one s others k new other r t rests (large f h big a b) (failed e i c d) = absurd (unlike k s f e h i)
    first_one s others k new other r t rests (large f h big a b) (large g i also c d) = alike a c b d

    pub one_end : (steps : List Step) → IsOneEnd steps
    one_end [] k new other r t p q = let a : (new ≡ k) × (r ≡ Ok []) = cases p in let b : (other ≡ k) × (t ≡ Ok []) = cases q in alike a.0 b.0 a.1 b.1
    one_end (s ∷ others) k new other r t p q = first_one s others k new other r t (one_end others) (cases p) (cases q)

pub takes_end_in_one_way : StepsFindOneThing → KeepsInOneWay → TakesEndInOneWay
takes_end_in_one_way one keeps_one uses names steps old new other r t p q = one_end uses names one keeps_one steps old new other r t p q
