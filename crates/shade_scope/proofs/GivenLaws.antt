-- What is kept of the filters of a range tells the clashes.
use Rattle.std.proofs.Common.{◌≡◌, refl, sym, ap, subst, ◌∙◌, ℕ, ◌+◌, ◌<◌, Bool, true, false, List, [], ◌∷◌, ◌++◌, length, get_or, drop, Option, Some, None, arith, true≢false}
use Rattle.std.proofs.lemmas.Bool.Decides.{nat_tests}
use Rattle.std.specs.BTreeMap.{BTreeMap, Updates, get}
use Rattle.std.specs.declared.cmp.Ordering.{Ordering}
use Rattle.std.specs.Ordering.{is_eq, nat_cmp, ordering_then}
use Rattle.std.specs.declared.cmp.Ordering.TheVariants.{Less, Equal, Greater}
use Rattle.std.specs.List.{list_any}
use Rattle.std.specs.Prelude.{◌&&◌, ◌||◌, ◌==◌, not, if◌then◌else◌}
use Rattle.shade_base.specs.declared.severity.Severity.{Severity}
use Rattle.shade_events.specs.declared.event.Event.{Event}
use Rattle.shade_events.specs.declared.event.Event.TheVariants as event
use Rattle.shade_events.specs.declared.filters.Filter.{Filter}
use Rattle.shade_events.specs.declared.filters.RuleName.{RuleName}
use Rattle.shade_events.specs.declared.filters.RuleName.TheVariants as named_rule
use Rattle.shade_scope.specs.declared.conflicts.Given.{Given}
use Rattle.shade_scope.specs.declared.conflicts.Given.TheVariants as given
use Rattle.shade_scope.specs.declared.fault.ScopeFault.{ScopeFault}
use Rattle.shade_scope.specs.declared.fault.ScopeFault.TheVariants as fault
use Rattle.shade_scope.specs.Conflicts.{conflict_of, conflicts, is_clash, is_same_rule, rank, with_filter}
use Rattle.shade_scope.specs.Faults.{earlier, least_of}
use Rattle.shade_scope.specs.Given.{Key, Keeps, conflict_by, differs, key_cmp, joined, key, summary, taken}
use Rattle.shade_scope.proofs.FaultLaws.{least_turn}
use Rattle.shade_scope.proofs.TurnLaws.{drop_next}

or_false : (a : Bool) → a ≡ (a || false)
or_false true = refl
or_false false = refl

or_assoc : (a b c : Bool) → ((a || b) || c) ≡ (a || (b || c))
or_assoc true b c = refl
or_assoc false b c = refl

or_same : (a : Bool) → a ≡ (a || a)
or_same true = refl
or_same false = refl

-- ---- what is kept of a rule's filters tells whether one more clashes

same_of : (m n : ℕ) → (m == n) ≡ true → m ≡ n
same_of m n e = grind (arith, nat_tests)

apart : (l m n : ℕ) → (l == m) ≡ false → (l == n) ≡ true → (m == n) ≡ true → ⊥
apart l m n e f g = true≢false (sym (grind (arith, nat_tests)) ∙ e)

unlike : (a b : Bool) (l m n : ℕ) → (l == m) ≡ false → (l == n) ≡ a → (m == n) ≡ b → true ≡ (not a || not b)
unlike true true l m n e f g = absurd (apart l m n e f g)
unlike true false l m n e f g = refl
unlike false b l m n e f g = refl

one_by : (b : Bool) (first more severity : Severity) → (rank first == rank more) ≡ b
    → differs (Some (if b then given.One first else given.Several)) severity ≡ (not (rank first == rank severity) || not (rank more == rank severity))
one_by true first more severity e =
    or_same (not (rank first == rank severity)) ∙ ap (λ r. not (rank first == rank severity) || not (r == rank severity)) (same_of (rank first) (rank more) e)
one_by false first more severity e = unlike (rank first == rank severity) (rank more == rank severity) (rank first) (rank more) (rank severity) e refl refl

joined_differs : (o : Option Given) (more severity : Severity) → differs (Some (joined o more)) severity ≡ (differs o severity || not (rank more == rank severity))
joined_differs None more severity = refl
joined_differs (Some (given.One first)) more severity = one_by (rank first == rank more) first more severity refl
joined_differs (Some given.Several) more severity = refl

taken_by : (b : Bool) (o : Option Given) (more severity : Severity)
    → differs (if b then Some (joined o more) else o) severity ≡ (differs o severity || (b && not (rank more == rank severity)))
taken_by true o more severity = joined_differs o more severity
taken_by false o more severity = or_false (differs o severity)

pub tells : (f : Filter) (o : Option Given) (fs : List Filter) → differs (summary f.rule o fs) f.severity ≡ (differs o f.severity || list_any (λ g. is_clash g f) fs)
tells f o [] = or_false (differs o f.severity)
tells f o (g ∷ gs) =
    tells f (taken f.rule o g) gs
    ∙ ap (λ b. b || list_any (λ h. is_clash h f) gs) (taken_by (is_same_rule g.rule f.rule) o g.severity f.severity)
    ∙ or_assoc (differs o f.severity) (is_clash g f) (list_any (λ h. is_clash h f) gs)

summary_more : (rule : RuleName) (o : Option Given) (fs : List Filter) (f : Filter) → summary rule o (fs ++ f ∷ []) ≡ taken rule (summary rule o fs) f
summary_more rule o [] f = refl
summary_more rule o (g ∷ gs) f = summary_more rule (taken rule o g) gs f

-- ---- one key a rule

eq_same : (m n : ℕ) → is_eq (nat_cmp m n) ≡ (m == n)
eq_same m n = grind (arith, nat_tests)

then_same : (o p : Ordering) → is_eq (ordering_then o p) ≡ (is_eq o && is_eq p)
then_same Less p = refl
then_same Equal p = refl
then_same Greater p = refl

key_same : (p q : RuleName) → is_eq (key_cmp (key p) (key q)) ≡ is_same_rule p q
key_same (named_rule.Plain a) (named_rule.Plain b) = eq_same a b
key_same (named_rule.Plain a) (named_rule.Scoped c d) = refl
key_same (named_rule.Scoped a b) (named_rule.Plain c) = refl
key_same (named_rule.Scoped a b) (named_rule.Scoped c d) = then_same (nat_cmp a c) (nat_cmp b d) ∙ (λ i. eq_same a c i && eq_same b d i)

both_of : (a b : Bool) → (a && b) ≡ true → (a ≡ true) × (b ≡ true)
both_of true true e = (refl, refl)
both_of true false e = absurd (true≢false (sym e))
both_of false b e = absurd (true≢false (sym e))

rule_of : (p q : RuleName) → is_same_rule p q ≡ true → p ≡ q
rule_of (named_rule.Plain a) (named_rule.Plain b) e = ap named_rule.Plain (same_of a b e)
rule_of (named_rule.Plain a) (named_rule.Scoped c d) e = absurd (true≢false (sym e))
rule_of (named_rule.Scoped a b) (named_rule.Plain c) e = absurd (true≢false (sym e))
rule_of (named_rule.Scoped a b) (named_rule.Scoped c d) e =
    let parts : ((a == c) ≡ true) × ((b == d) ≡ true) = both_of (a == c) (b == d) e in
    ap (λ n. named_rule.Scoped n b) (same_of a c parts.0) ∙ ap (named_rule.Scoped c) (same_of b d parts.1)

-- what is kept is what the filters of the range give
pub record Agrees (rules : BTreeMap Key Given) (before : List Filter) : Type 0 where
  pub at : (rule : RuleName) → get key_cmp rules (key rule) ≡ summary rule None before

-- one more filter was put in
pub filter_kept : (old new : BTreeMap Key Given) (e : Event) (f : Filter) (before : Option Given) (made : Given) (k : Key)
    → e ≡ event.Filters f → before ≡ get key_cmp old (key f.rule) → made ≡ joined before f.severity → k ≡ key f.rule → Updates key_cmp old new k (Some made) → Keeps old new e
filter_kept old new e f before made k is is_before is_made is_k put =
    let here : Updates key_cmp old new (key f.rule) (Some made) = subst (λ (x : Key). Updates key_cmp old new x (Some made)) is_k put in
    let all : Keeps old new (event.Filters f) = subst (λ (g : Given). Updates key_cmp old new (key f.rule) (Some g)) (is_made ∙ ap (λ o. joined o f.severity) is_before) here in
    subst (λ (x : Event). Keeps old new x) (sym is) all

empty_get : (rules : BTreeMap Key Given) (k : Key) → rules.entries ≡ [] → get key_cmp rules k ≡ None
empty_get rules k e = search

pub none_kept : (rules : BTreeMap Key Given) → rules.entries ≡ [] → Agrees rules []
none_kept rules e = record { at = λ rule. empty_get rules (key rule) e }

one_kept : (b : Bool) (old : BTreeMap Key Given) (before : List Filter) (f : Filter) (rule : RuleName) → Agrees old before → is_same_rule f.rule rule ≡ b
    → (if b then Some (joined (get key_cmp old (key f.rule)) f.severity) else get key_cmp old (key rule)) ≡ (if b then Some (joined (summary rule None before) f.severity) else summary rule None before)
one_kept true old before f rule h e = ap (λ o. Some (joined o f.severity)) (h.at f.rule ∙ ap (λ r. summary r None before) (rule_of f.rule rule e))
one_kept false old before f rule h e = h.at rule

pub more_kept : (old new : BTreeMap Key Given) (before : List Filter) (e : Event) → Keeps old new e → Agrees old before → Agrees new (with_filter before e)
more_kept old new before event.Covers k h = none_kept new k
more_kept old new before (event.Filters f) k h = record {
  at = λ rule.
      k.0 (key rule)
      ∙ ap (λ b. if b then Some (joined (get key_cmp old (key f.rule)) f.severity) else get key_cmp old (key rule)) (key_same f.rule rule)
      ∙ one_kept (is_same_rule f.rule rule) old before f rule h refl ∙ sym (summary_more rule None before f);
}
more_kept old new before event.Opens k h = subst (λ m. Agrees m before) (sym k) h
more_kept old new before event.Closes k h = subst (λ m. Agrees m before) (sym k) h
more_kept old new before (event.Declares n entry) k h = subst (λ m. Agrees m before) (sym k) h
more_kept old new before (event.Uses n called) k h = subst (λ m. Agrees m before) (sym k) h
more_kept old new before (event.Enters node) k h = subst (λ m. Agrees m before) (sym k) h
more_kept old new before (event.LacksSeverity place) k h = subst (λ m. Agrees m before) (sym k) h
more_kept old new before event.Uncovers k h = subst (λ m. Agrees m before) (sym k) h
more_kept old new before (event.Node node) k h = subst (λ m. Agrees m before) (sym k) h
more_kept old new before event.Loops k h = subst (λ m. Agrees m before) (sym k) h
more_kept old new before (event.Continues place) k h = subst (λ m. Agrees m before) (sym k) h
more_kept old new before event.Turns k h = subst (λ m. Agrees m before) (sym k) h
more_kept old new before event.LoopEnds k h = subst (λ m. Agrees m before) (sym k) h

told_same : (rules : BTreeMap Key Given) (before : List Filter) (e : Event) → Agrees rules before → conflict_by rules e ≡ conflict_of before e
told_same rules before (event.Filters f) h =
    ap (λ b. if b then fault.Conflict f.place ∷ [] else []) (ap (λ o. differs o f.severity) (h.at f.rule) ∙ tells f None before)
told_same rules before event.Covers h = refl
told_same rules before event.Opens h = refl
told_same rules before event.Closes h = refl
told_same rules before (event.Declares n entry) h = refl
told_same rules before (event.Uses n called) h = refl
told_same rules before (event.Enters node) h = refl
told_same rules before (event.LacksSeverity place) h = refl
told_same rules before event.Uncovers h = refl
told_same rules before (event.Node node) h = refl
told_same rules before event.Loops h = refl
told_same rules before (event.Continues place) h = refl
told_same rules before event.Turns h = refl
told_same rules before event.LoopEnds h = refl

-- ---- one more event

-- after so many events
pub record AreKept (events : List Event) (i : ℕ) (rules : BTreeMap Key Given) (least : Option ScopeFault) : Type 0 where
  pub before : List Filter
  pub agrees : Agrees rules before
  pub first : earlier least (least_of (conflicts before (drop i events))) ≡ least_of (conflicts [] events)

pub begun : (events : List Event) (rules : BTreeMap Key Given) → rules.entries ≡ [] → AreKept events 0 rules None
begun events rules e = record { before = []; agrees = none_kept rules e; first = refl }

pub conflicts_turn : (events : List Event) (i : ℕ) (d : Event) → i < length events → (old new : BTreeMap Key Given) (least f later : Option ScopeFault)
    → f ≡ least_of (conflict_by old (get_or events i d)) → later ≡ earlier least f → Keeps old new (get_or events i d)
    → AreKept events i old least → AreKept events (i + 1) new later
conflicts_turn events i d lt old new least f later is_f is_later keeps h =
    let e : Event = get_or events i d in
    record {
      before = with_filter h.before e;
      agrees = more_kept old new h.before e keeps h.agrees;
      first = least_turn least f later (conflict_of h.before e) (conflicts (with_filter h.before e) (drop (i + 1) events)) (is_f ∙ ap least_of (told_same old h.before e h.agrees)) is_later
          (ap (λ es. earlier least (least_of (conflicts h.before es))) (sym (drop_next events i d lt)) ∙ h.first);
    }
