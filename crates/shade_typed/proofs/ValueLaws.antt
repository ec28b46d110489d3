-- The types of values, one statement after another.
use Rattle.std.proofs.Common.{◌≡◌, refl, sym, ap, subst, ◌∙◌, Bool, true, false, ℕ, ◌+◌, ◌<◌, ◌≤◌, List, [], ◌∷◌, ◌++◌, length, get_or, take, drop, map, Option, Some, None, arith}
use Rattle.std.specs.Prelude.{◌↔◌, All}
use Rattle.std.specs.Borrow.{Bor}
use Rattle.std.proofs.lemmas.List.{drop_all, get_or-map, length-map, take_all}
use Rattle.std.proofs.lemmas.List.Elements.{All-get_or, All-more}
use Rattle.shade_values.specs.declared.types.ShadeType.{ShadeType}
use Rattle.shade_core.proofs.CodeLaws.{drop_here}
use Rattle.shade_core.specs.Fits.{AllFit, IsTyped}
use Rattle.shade_core.specs.declared.statement.CoreStatement.{CoreStatement}
use Rattle.shade_core.specs.Views.{ValueTypes}
use Rattle.shade_typed.specs.Answers.{Answers}
use Rattle.shade_values.specs.declared.types.TypeId.{TypeId}
use Rattle.shade_core.specs.declared.module.CoreFunction.{CoreFunction}
use Rattle.shade_core.specs.declared.module.CoreModule.{CoreModule}
use Rattle.shade_core.specs.Standing.{Head, Standing, by_itself}
use Rattle.shade_typed.specs.Contexts.{ContextView, value_types}
use Rattle.shade_typed.specs.Sets.{FitsHead, MayLeave}
use Rattle.shade_typed.specs.Values.{IsSameFunction, kept_values}
use Rattle.shade_typed.proofs.AnswerLaws.{answers_none, holds, nowhere, only, some_same}

-- ---- statements that are lent

abbrev Lent : Type 0
Lent = List (Bor CoreStatement)

abbrev pub standings : Lent → List Standing
standings listed = map (λ s. by_itself s.now) listed

pub as_many : (listed : Lent) (i : ℕ) → i < length listed → i < length (standings listed)
as_many listed i lt = omega (arith, lt, length-map listed (λ s. by_itself s.now))

pub item_at : (listed : Lent) (i : ℕ) (x : Bor CoreStatement) (e : Standing) → i < length listed → x ≡ get_or listed i x → get_or (standings listed) i e ≡ by_itself x.now
item_at listed i x e lt is = get_or-map (λ s. by_itself s.now) listed i x e lt ∙ ap (λ s. by_itself s.now) (sym is)

abbrev pub MayLeaveBy : ContextView → Standing → Type 0
MayLeaveBy c s = MayLeave c s.head

pub leave_more : (c : ContextView) (listed : Lent) (i : ℕ) (x : Bor CoreStatement) → i < length listed → x ≡ get_or listed i x → MayLeaveBy c (by_itself x.now) → All (MayLeaveBy c) (take i (standings listed)) → All (MayLeaveBy c) (take (i + 1) (standings listed))
leave_more c listed i x lt is one so_far =
    All-more (MayLeaveBy c) (standings listed) i (by_itself x.now) (as_many listed i lt) so_far (subst (MayLeaveBy c) (sym (item_at listed i x (by_itself x.now) lt is)) one)

pub leave_none : (c : ContextView) (listed : Lent) (i : ℕ) (x : Bor CoreStatement) → i < length listed → x ≡ get_or listed i x → ¬ MayLeaveBy c (by_itself x.now) → ¬ All (MayLeaveBy c) (standings listed)
leave_none c listed i x lt is none all =
    none (subst (MayLeaveBy c) (item_at listed i x (by_itself x.now) lt is) (All-get_or (MayLeaveBy c) (standings listed) i (by_itself x.now) (as_many listed i lt) all))

pub leave_all : (c : ContextView) (listed : Lent) (i : ℕ) → length listed ≤ i → All (MayLeaveBy c) (take i (standings listed)) → All (MayLeaveBy c) (standings listed)
leave_all c listed i le so_far = subst (All (MayLeaveBy c)) (take_all i (standings listed) (omega (arith, le, length-map listed (λ s. by_itself s.now)))) so_far

-- ---- statements that fit

abbrev pub AllTaken : ContextView → List Standing → ValueTypes → Type 0
AllTaken c statements all = AllFit c.shader c.function c.values statements all

-- all statements fit where those from a place on do, behind the values that were kept
abbrev pub FitFrom : ContextView → ContextView → List Standing → ℕ → Type 0
FitFrom old new statements i = (all : ValueTypes) → AllTaken old statements all ↔ AllFit old.shader old.function new.values (drop i statements) all

pub fit_first : (c : ContextView) (statements : List Standing) → FitFrom c c statements 0
fit_first c statements all = (λ h. h, λ h. h)

abbrev pub with_values : ContextView → ValueTypes → ContextView
with_values c values = record { shader = c.shader; function = c.function; values = values }

-- what a statement gives, asked of the function that was there before
pub as_old : (old new : ContextView) (h : Head) (fit : Option (Option ShadeType)) → IsSameFunction old new → Answers (FitsHead new h) fit → Answers (FitsHead (with_values old new.values) h) fit
as_old old new h fit same answer =
    subst (λ (n : ContextView). Answers (FitsHead n h) fit) (λ i. record { shader = same.shader i; function = same.function i; values = new.values }) answer

pub many_all : (listed : Lent) (i : ℕ) → length listed ≤ i → length (standings listed) ≤ i
many_all listed i le = omega (arith, le, length-map listed (λ s. by_itself s.now))

pub fit_more : (old new next : ContextView) (statements : List Standing) (i : ℕ) (s : Standing) (value : Option ShadeType) → i < length statements → s ≡ get_or statements i s → next.values ≡ new.values ++ value ∷ []
    → Answers (FitsHead (with_values old new.values) s.head) (Some value) → FitFrom old new statements i → FitFrom old next statements (i + 1)
fit_more old new next statements i s value lt is grows one so_far all =
    let here = drop_here statements i s lt is in (
      λ h. (
          let w = subst (λ l. AllFit old.shader old.function new.values l all) here ((so_far all).0 h) in
          let same : value ≡ w.0 = only (FitsHead (with_values old new.values) s.head) value w.0 one w.1 in
          subst (λ vs. AllFit old.shader old.function vs (drop (i + 1) statements) all) (ap (λ x. new.values ++ x ∷ []) (sym same) ∙ sym grows) w.2
          ),
      λ h. (so_far all).1 (subst (λ l. AllFit old.shader old.function new.values l all) (sym here)
          (value, holds (FitsHead (with_values old new.values) s.head) value one, subst (λ vs. AllFit old.shader old.function vs (drop (i + 1) statements) all) grows h)),
    )

pub fit_none : (old new : ContextView) (statements : List Standing) (i : ℕ) (s : Standing) → i < length statements → s ≡ get_or statements i s → Answers (FitsHead (with_values old new.values) s.head) None → FitFrom old new statements i
    → Answers (AllTaken old statements) None
fit_none old new statements i s lt is none so_far =
    answers_none (AllTaken old statements) (λ all h.
    let w = subst (λ l. AllFit old.shader old.function new.values l all) (drop_here statements i s lt is) ((so_far all).0 h) in
    nowhere (FitsHead (with_values old new.values) s.head) w.0 none w.1)

pub fit_all : (old new : ContextView) (statements : List Standing) (i : ℕ) → length statements ≤ i → FitFrom old new statements i → Answers (AllTaken old statements) (Some new.values)
fit_all old new statements i le so_far all = (
  λ h. ap Some (subst (λ l. AllFit old.shader old.function new.values l all) (drop_all i statements le) ((so_far all).0 h)),
  λ e. (so_far all).1 (subst (λ l. AllFit old.shader old.function new.values l all) (sym (drop_all i statements le)) (some_same new.values all e)),
)

-- ---- a function

-- from no values on
abbrev pub AllTyped : ContextView → List Standing → ValueTypes → Type 0
AllTyped c statements values = IsTyped c.shader c.function statements values

pub untaken : (c : ContextView) (statements : List Standing) → c.values ≡ [] → Answers (AllTaken c statements) None → Answers (AllTyped c statements) None
untaken c statements empty none = answers_none (AllTyped c statements) (λ values h. nowhere (AllTaken c statements) values none (subst (λ vs. AllFit c.shader c.function vs statements values) (sym empty) h.fit))

pub unleft : (c new : ContextView) (statements : List Standing) → c.values ≡ [] → new.shader ≡ c.shader → new.function ≡ c.function → Answers (AllTaken c statements) (Some new.values) → ¬ All (λ s. MayLeave new s.head) statements → Answers (AllTyped c statements) None
unleft c new statements empty shader function taken other = answers_none (AllTyped c statements) (λ values h.
    let same : new.values ≡ values = only (AllTaken c statements) new.values values taken (subst (λ vs. AllFit c.shader c.function vs statements values) (sym empty) h.fit) in
    other (subst (λ (n : ContextView). All (λ s. MayLeave n s.head) statements) (λ i. record { shader = sym shader i; function = sym function i; values = sym same i }) h.leave))

pub typed : (c new : ContextView) (statements : List Standing) → c.values ≡ [] → new.shader ≡ c.shader → new.function ≡ c.function → Answers (AllTaken c statements) (Some new.values) → All (λ s. MayLeave new s.head) statements → Answers (AllTyped c statements) (Some new.values)
typed c new statements empty shader function taken leave values = (
  λ h. ap Some (only (AllTaken c statements) new.values values taken (subst (λ vs. AllFit c.shader c.function vs statements values) (sym empty) h.fit)),
  λ e. (
      let same : new.values ≡ values = some_same new.values values e in
      record {
        fit = subst (λ vs. AllFit c.shader c.function vs statements values) empty (subst (AllTaken c statements) same (holds (AllTaken c statements) new.values taken));
        leave = subst (λ (n : ContextView). All (λ s. MayLeave n s.head) statements) (λ i. record { shader = shader i; function = function i; values = same i }) leave;
      }
      ),
)

-- ---- a function, from its beginning on

abbrev begun : CoreModule → CoreFunction → ContextView
begun shader f = record { shader = shader; function = f; values = [] }

pub no_types : (shader : CoreModule) (f : CoreFunction) (old : ContextView) (listed all : List Standing) (b : Bool) (values : ValueTypes) → old ≡ begun shader f → listed ≡ all → b ≡ false → Answers (AllTaken old listed) (kept_values b values)
    → Answers (IsTyped shader f all) None
no_types shader f old listed all b values is lists stops taken =
    untaken (begun shader f) all refl
    (subst (λ l. Answers (AllTaken (begun shader f) l) None) lists (subst (λ (c : ContextView). Answers (AllTaken c listed) None) is (subst (λ x. Answers (AllTaken old listed) (kept_values x values)) stops taken)))

taken_all : (shader : CoreModule) (f : CoreFunction) (old : ContextView) (listed all : List Standing) (b : Bool) (values : ValueTypes) → old ≡ begun shader f → listed ≡ all → b ≡ true → Answers (AllTaken old listed) (kept_values b values)
    → Answers (AllTaken (begun shader f) all) (Some values)
taken_all shader f old listed all b values is lists goes taken =
    subst (λ l. Answers (AllTaken (begun shader f) l) (Some values)) lists (subst (λ (c : ContextView). Answers (AllTaken c listed) (Some values)) is (subst (λ x. Answers (AllTaken old listed) (kept_values x values)) goes taken))

pub no_leave : (shader : CoreModule) (f : CoreFunction) (old new : ContextView) (listed again all : List Standing) (b : Bool) → old ≡ begun shader f → listed ≡ all → again ≡ all → IsSameFunction old new → b ≡ true
    → Answers (AllTaken old listed) (kept_values b new.values) → ¬ All (λ s. MayLeave new s.head) again → Answers (IsTyped shader f all) None
no_leave shader f old new listed again all b is lists relists same goes taken other =
    unleft (begun shader f) new all refl (same.shader ∙ ap (λ c. c.shader) is) (same.function ∙ ap (λ c. c.function) is) (taken_all shader f old listed all b new.values is lists goes taken)
    (λ h. other (subst (All (λ s. MayLeave new s.head)) (sym relists) h))

pub all_types : (shader : CoreModule) (f : CoreFunction) (old new : ContextView) (listed again all : List Standing) (b : Bool) (ids : List (Option TypeId)) → old ≡ begun shader f → listed ≡ all → again ≡ all → IsSameFunction old new → b ≡ true
    → Answers (AllTaken old listed) (kept_values b new.values) → All (λ s. MayLeave new s.head) again → value_types new.shader.types ids ≡ new.values → Answers (IsTyped shader f all) (Some (value_types shader.types ids))
all_types shader f old new listed again all b ids is lists relists same goes taken leave known =
    let own : new.shader ≡ shader = same.shader ∙ ap (λ c. c.shader) is in
    subst (λ values. Answers (AllTyped (begun shader f) all) (Some values)) (sym (subst (λ m. value_types m.types ids ≡ new.values) own known))
    (typed (begun shader f) new all refl own (same.function ∙ ap (λ c. c.function) is) (taken_all shader f old listed all b new.values is lists goes taken) (subst (All (λ s. MayLeave new s.head)) relists leave))
