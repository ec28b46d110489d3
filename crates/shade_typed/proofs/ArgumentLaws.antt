-- Arguments of calls.
use Rattle.std.proofs.Common.{◌≡◌, refl, sym, ap, subst, ◌∙◌, ℕ, ◌+◌, ◌<◌, ◌≤◌, List, [], ◌∷◌, length, get_or, drop, Some, None, true, false, Bool, arith}
use Rattle.std.specs.Prelude.{◌↔◌, IsTrue}
use Rattle.std.proofs.lemmas.List.{drop_all, get_or_default}
use Rattle.shade_values.specs.declared.types.Space.{Space}
use Rattle.shade_values.specs.declared.types.TypeId.{TypeId}
use Rattle.shade_core.proofs.CodeLaws.{drop_here}
use Rattle.shade_core.specs.declared.module.CoreParam.{CoreParam}
use Rattle.shade_core.specs.declared.module.CoreParam.TheVariants as parameter
use Rattle.shade_core.specs.declared.statement.Argument.{Argument}
use Rattle.shade_core.specs.declared.statement.Argument.TheVariants as argument
use Rattle.shade_core.specs.declared.statement.View.{View}
use Rattle.shade_core.specs.Types.{type_at}
use Rattle.shade_core.specs.Views.{Origin, PointsTo}
use Rattle.shade_typed.specs.Answers.{Answers}
use Rattle.shade_typed.specs.Contexts.{ContextView}
use Rattle.shade_typed.specs.Places.{AllSuit, Names, Suits}
use Rattle.shade_typed.proofs.AnswerLaws.{holds, nowhere, only}

pub unpointed : (c : ContextView) (view : View) (in_space : Space) (id : TypeId) → Answers (PointsTo c.shader.types (type_at c.shader.types id)) None → Suits c (argument.Pointer view) (parameter.Pointer in_space id) → ⊥
unpointed c view in_space id h s = nowhere (PointsTo c.shader.types (type_at c.shader.types id)) s.0 h s.2

pub unnamed : (c : ContextView) (view : View) (in_space : Space) (id : TypeId) → Answers (Names c view) None → Suits c (argument.Pointer view) (parameter.Pointer in_space id) → ⊥
unnamed c view in_space id h s = nowhere (Names c view) s.0 h s.1

pub alike : (c : ContextView) (view : View) (in_space : Space) (id : TypeId) (wanted found : Origin) (b : Bool) → Answers (PointsTo c.shader.types (type_at c.shader.types id)) (Some wanted) → Answers (Names c view) (Some found) → IsTrue b ↔ (found ≡ wanted)
    → IsTrue b ↔ Suits c (argument.Pointer view) (parameter.Pointer in_space id)
alike c view in_space id wanted found b points names same = (
  λ t. (found, holds (Names c view) found names, subst (PointsTo c.shader.types (type_at c.shader.types id)) (sym (same.0 t)) (holds (PointsTo c.shader.types (type_at c.shader.types id)) wanted points)),
  λ s. same.1 (only (Names c view) found s.0 names s.1 ∙ sym (only (PointsTo c.shader.types (type_at c.shader.types id)) wanted s.0 points s.2)),
)

-- ---- one after another

abbrev pub SuitFrom : ContextView → List Argument → List CoreParam → ℕ → Type 0
SuitFrom c arguments params i = AllSuit c arguments params ↔ AllSuit c (drop i arguments) (drop i params)

pub suit_first : (c : ContextView) (arguments : List Argument) (params : List CoreParam) → SuitFrom c arguments params 0
suit_first c arguments params = (λ h. h, λ h. h)

one_suits : (c : ContextView) (arguments : List Argument) (params : List CoreParam) (i : ℕ) (a : Argument) (p : CoreParam) → i < length arguments → a ≡ get_or arguments i a → i < length params → p ≡ get_or params i p
    → AllSuit c (drop i arguments) (drop i params) ↔ (Suits c a p × AllSuit c (drop (i + 1) arguments) (drop (i + 1) params))
one_suits c arguments params i a p lt is under at =
    let here = drop_here arguments i a lt is in
    let there = drop_here params i p under at in (
      λ h. subst (λ l. AllSuit c (a ∷ drop (i + 1) arguments) l) there (subst (λ l. AllSuit c l (drop i params)) here h),
      λ w. subst (λ l. AllSuit c l (drop i params)) (sym here) (subst (λ l. AllSuit c (a ∷ drop (i + 1) arguments) l) (sym there) w),
    )

pub suit_more : (c : ContextView) (arguments : List Argument) (params : List CoreParam) (i : ℕ) (a : Argument) (p : CoreParam) → i < length arguments → a ≡ get_or arguments i a → i < length params → p ≡ get_or params i p → Suits c a p
    → SuitFrom c arguments params i → SuitFrom c arguments params (i + 1)
suit_more c arguments params i a p lt is under at suits so_far =
    let one = one_suits c arguments params i a p lt is under at in
    (λ h. (one.0 (so_far.0 h)).1, λ w. so_far.1 (one.1 (suits, w)))

pub suit_none : (c : ContextView) (arguments : List Argument) (params : List CoreParam) (i : ℕ) (a : Argument) (p : CoreParam) → i < length arguments → a ≡ get_or arguments i a → i < length params → p ≡ get_or params i p → ¬ Suits c a p
    → SuitFrom c arguments params i → ¬ AllSuit c arguments params
suit_none c arguments params i a p lt is under at unlike so_far h = unlike ((one_suits c arguments params i a p lt is under at).0 (so_far.0 h)).0

-- with the place counted apart
pub suit_next : (c : ContextView) (arguments : List Argument) (params : List CoreParam) (place i : ℕ) (a : Argument) (d : CoreParam) (b : Bool) → place ≡ i → i < length arguments → a ≡ get_or arguments i a → length arguments ≡ length params
    → IsTrue b ↔ Suits c a (get_or params place d) → b ≡ true → SuitFrom c arguments params place → SuitFrom c arguments params (place + 1)
suit_next c arguments params place i a d b e lt is long tells true_is so_far =
    let under : place < length params = omega (arith, e, lt, long) in
    suit_more c arguments params place a (get_or params place d) (omega (arith, e, lt)) (is ∙ ap (λ k. get_or arguments k a) (sym e)) under (get_or_default params place d (get_or params place d) under) (tells.0 true_is) so_far

pub suit_stop : (c : ContextView) (arguments : List Argument) (params : List CoreParam) (place i : ℕ) (a : Argument) (d : CoreParam) (b : Bool) → place ≡ i → i < length arguments → a ≡ get_or arguments i a → length arguments ≡ length params
    → IsTrue b ↔ Suits c a (get_or params place d) → b ≡ false → SuitFrom c arguments params place → ¬ AllSuit c arguments params
suit_stop c arguments params place i a d b e lt is long tells false_is so_far =
    let under : place < length params = omega (arith, e, lt, long) in
    suit_none c arguments params place a (get_or params place d) (omega (arith, e, lt)) (is ∙ ap (λ k. get_or arguments k a) (sym e)) under (get_or_default params place d (get_or params place d) under)
    (λ h. let f : false ≡ true = sym false_is ∙ tells.1 h in cc) so_far

pub suit_all : (c : ContextView) (arguments : List Argument) (params : List CoreParam) (i : ℕ) → length arguments ≤ i → length params ≤ i → SuitFrom c arguments params i → AllSuit c arguments params
suit_all c arguments params i le few so_far = so_far.1 (subst (λ l. AllSuit c l (drop i params)) (sym (drop_all i arguments le)) (subst (λ l. AllSuit c [] l) (sym (drop_all i params few)) tt))

pub suit_long : (c : ContextView) (arguments : List Argument) (params : List CoreParam) → AllSuit c arguments params → length arguments ≡ length params
suit_long c [] [] h = refl
suit_long c [] (p ∷ params) h = absurd h
suit_long c (a ∷ arguments) [] h = absurd h
suit_long c (a ∷ arguments) (p ∷ params) h = (let more = suit_long c arguments params h.1 in omega (arith, more))
