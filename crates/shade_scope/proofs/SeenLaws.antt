-- What is kept of a context goes with it, and tells the first of its faults.
use Rattle.std.proofs.Common.{◌≡◌, refl, sym, ap, ◌∙◌, ℕ, Bool, true, false, List, [], ◌∷◌, ◌++◌, map, Option, Some, None, arith, true≢false}
use Rattle.std.proofs.lemmas.Bool.Decides.{nat_tests}
use Rattle.std.specs.List.{flat_map}
use Rattle.std.specs.Prelude.{◌&&◌, ◌==◌, ◌+◌, ◌*◌, nat_le, nat_lt, if◌then◌else◌}
use Rattle.shade_base.specs.declared.place.Place.{Place}
use Rattle.shade_ast.specs.declared.expr.Named.{Named}
use Rattle.shade_events.specs.declared.event.Event.{Event}
use Rattle.shade_events.specs.declared.event.Event.TheVariants as event
use Rattle.shade_scope.specs.declared.bound.Bound.{Bound}
use Rattle.shade_scope.specs.declared.fault.ScopeFault.{ScopeFault}
use Rattle.shade_scope.specs.declared.fault.ScopeFault.TheVariants as fault
use Rattle.shade_scope.specs.InForce.{Loop, Context, without_last, on_last}
use Rattle.shade_scope.specs.Scopes as rule
use Rattle.shade_scope.specs.Seen as kept
use Rattle.shade_scope.specs.Faults.{earlier, least_of}
use Rattle.shade_scope.proofs.FaultLaws.{earlier_none, least_more}

-- ---- events

on_mapped : {A B : Type 0} → (h : A → B) (f : A → A) (g : B → B) → ((a : A) → h (f a) ≡ g (h a)) → (xs : List A) → map h (on_last f xs) ≡ on_last g (map h xs)
on_mapped h f g same [] = refl
on_mapped h f g same (x ∷ []) = ap (λ b. b ∷ []) (same x)
on_mapped h f g same (x ∷ y ∷ zs) = ap (λ l. h x ∷ l) (on_mapped h f g same (y ∷ zs))

without_mapped : {A B : Type 0} → (h : A → B) (xs : List A) → map h (without_last xs) ≡ without_last (map h xs)
without_mapped h [] = refl
without_mapped h (x ∷ []) = refl
without_mapped h (x ∷ y ∷ zs) = ap (λ l. h x ∷ l) (without_mapped h (y ∷ zs))

more_mapped : {A B : Type 0} → (h : A → B) (xs : List A) (x : A) → map h (xs ++ x ∷ []) ≡ map h xs ++ h x ∷ []
more_mapped h [] x = refl
more_mapped h (y ∷ ys) x = ap (λ l. h y ∷ l) (more_mapped h ys x)

pub next_seen : (c : Context) (e : Event) → kept.next (kept.seen c) e ≡ kept.seen (rule.after c e)
next_seen c event.Opens = refl
next_seen c event.Closes = refl
next_seen c (event.Declares n entry) = refl
next_seen c (event.Enters node) = refl
next_seen c event.Loops = ap (kept.with_loops (kept.seen c)) (sym (more_mapped kept.seen_loop c.loops (rule.begun (rule.depth c.scopes))))
next_seen c (event.Continues place) = ap (kept.with_loops (kept.seen c)) (sym (on_mapped kept.seen_loop (rule.continued place) (kept.continued place) (λ l. refl) c.loops))
next_seen c event.Turns = ap (kept.with_loops (kept.seen c)) (sym (on_mapped kept.seen_loop rule.turned kept.turned (λ l. refl) c.loops))
next_seen c event.LoopEnds = ap (kept.with_loops (kept.seen c)) (sym (without_mapped kept.seen_loop c.loops))
next_seen c (event.Uses n called) = refl
next_seen c event.Covers = refl
next_seen c (event.Filters f) = refl
next_seen c (event.LacksSeverity place) = refl
next_seen c event.Uncovers = refl
next_seen c (event.Node node) = refl

-- ---- the first `continue`

key_le : (m n : ℕ) → nat_le m n ≡ true → nat_le (8 * m + 4) (8 * n + 4) ≡ true
key_le m n e = grind (arith, nat_tests)

key_gt : (m n : ℕ) → nat_le m n ≡ false → nat_le (8 * m + 4) (8 * n + 4) ≡ false
key_gt m n e = grind (arith, nat_tests)

lower : (m n d : ℕ) → nat_le m n ≡ true → nat_lt m d ≡ false → nat_lt n d ≡ true → ⊥
lower m n d le not lt = true≢false (sym lt ∙ grind (arith, nat_tests))

higher : (m n d : ℕ) → nat_le m n ≡ false → nat_lt m d ≡ true → nat_lt n d ≡ false → ⊥
higher m n d gt lt not = true≢false (sym lt ∙ grind (arith, nat_tests))

abbrev told_if : Bool → Place → List ScopeFault
told_if b p = if b then fault.ContinueSkips p ∷ [] else []

chosen : (x y z : Bool) (p q d : Place) → nat_le p.offset q.offset ≡ x → nat_lt p.offset d.offset ≡ y → nat_lt q.offset d.offset ≡ z
    → least_of (kept.before (Some (if x then p else q)) d) ≡ earlier (least_of (told_if y p)) (least_of (told_if z q))
chosen true true true p q d ex ey ez = rw (ey, key_le p.offset q.offset ex) refl
chosen true true false p q d ex ey ez = rw (ey) refl
chosen true false true p q d ex ey ez = absurd (lower p.offset q.offset d.offset ex ey ez)
chosen true false false p q d ex ey ez = rw (ey) refl
chosen false true true p q d ex ey ez = rw (ez, key_gt p.offset q.offset ex) refl
chosen false true false p q d ex ey ez = absurd (higher p.offset q.offset d.offset ex ey ez)
chosen false false true p q d ex ey ez = rw (ez) refl
chosen false false false p q d ex ey ez = rw (ez) refl

one_more : (o : Option Place) (p d : Place) → least_of (kept.before (kept.first_of o p) d) ≡ earlier (least_of (rule.skipping d p)) (least_of (kept.before o d))
one_more None p d = sym (earlier_none (least_of (rule.skipping d p)))
one_more (Some q) p d = chosen (nat_le p.offset q.offset) (nat_lt p.offset d.offset) (nat_lt q.offset d.offset) p q d refl refl refl

first_same : (d : Place) (ps : List Place) → least_of (kept.before (kept.first_in ps) d) ≡ least_of (flat_map (rule.skipping d) ps)
first_same d [] = refl
first_same d (p ∷ ps) =
    one_more (kept.first_in ps) p d ∙ ap (earlier (least_of (rule.skipping d p))) (first_same d ps) ∙ sym (least_more (rule.skipping d p) (flat_map (rule.skipping d) ps))

-- ---- the faults of an event

same_if : (x : Bool) (b : Bound) (l : Loop)
    → least_of (if x then kept.before (kept.first_in l.continues) b.place else []) ≡ least_of (if x then flat_map (rule.skipping b.place) l.continues else [])
same_if true b l = first_same b.place l.continues
same_if false b l = refl

loops_same : (b : Bound) (ls : List Loop) → least_of (flat_map (kept.skip b) (map kept.seen_loop ls)) ≡ least_of (flat_map (rule.skips b) ls)
loops_same b [] = refl
loops_same b (l ∷ ls) =
    least_more (kept.skip b (kept.seen_loop l)) (flat_map (kept.skip b) (map kept.seen_loop ls))
    ∙ ap (λ o. earlier o (least_of (flat_map (kept.skip b) (map kept.seen_loop ls)))) (same_if (l.turning && (l.depth == b.depth)) b l)
    ∙ ap (earlier (least_of (rule.skips b l))) (loops_same b ls)
    ∙ sym (least_more (rule.skips b l) (flat_map (rule.skips b) ls))

use_same : (names : List (List ℕ)) (c : Context) (n : Named) (called : Bool) (o : Option Bound)
    → least_of (kept.use_faults names (kept.seen c) n called o) ≡ least_of (rule.use_faults names c n called o)
use_same names c n called None = refl
use_same names c n called (Some b) =
    least_more (rule.called_entry (called && b.entry) n.place) (flat_map (kept.skip b) (map kept.seen_loop c.loops))
    ∙ ap (earlier (least_of (rule.called_entry (called && b.entry) n.place))) (loops_same b c.loops)
    ∙ sym (least_more (rule.called_entry (called && b.entry) n.place) (flat_map (rule.skips b) c.loops))

pub faults_seen : (names : List (List ℕ)) (c : Context) (e : Event) → least_of (kept.faults names (kept.seen c) e) ≡ least_of (rule.faults_of names c e)
faults_seen names c event.Opens = refl
faults_seen names c event.Closes = refl
faults_seen names c (event.Declares n entry) = refl
faults_seen names c (event.Enters node) = refl
faults_seen names c event.Loops = refl
faults_seen names c (event.Continues place) = refl
faults_seen names c event.Turns = refl
faults_seen names c event.LoopEnds = refl
faults_seen names c (event.Uses n called) = use_same names c n called (rule.found c.scopes n.name)
faults_seen names c event.Covers = refl
faults_seen names c (event.Filters f) = refl
faults_seen names c (event.LacksSeverity place) = refl
faults_seen names c event.Uncovers = refl
faults_seen names c (event.Node node) = refl
