-- The first of faults is one of them, and none of them comes before it.
use Rattle.std.proofs.Common.{◌≡◌, refl, sym, ap, subst, ◌∙◌, ℕ, ◌≤◌, Bool, true, false, List, [], ◌∷◌, Option, Some, None, inl, inr, arith}
use Rattle.std.proofs.lemmas.Bool.Decides.{nat_tests}
use Rattle.std.proofs.lemmas.List.Elements.{Contains-append_left, Contains-append_right, Contains-append_cases, Contains-push, Contains-push_cases}
use Rattle.std.specs.Prelude.{◌⊎◌, Contains, Result, Ok, Err, IsErrAnd, nat_le, if◌then◌else◌}
use Rattle.shade_ast.specs.declared.tree.Decl.{Decl}
use Rattle.shade_ast.specs.declared.tree.Tree.{Tree}
use Rattle.shade_events.specs.declared.event.Event.{Event}
use Rattle.shade_scope.specs.declared.fault.ScopeFault.{ScopeFault}
use Rattle.shade_scope.specs.declared.fault.ScopeFault.TheVariants as fault
use Rattle.shade_scope.specs.declared.scoped.Scoped.{Scoped}
use Rattle.shade_scope.specs.Faults.{key, earlier, least_of, IsLeast}
use Rattle.shade_scope.specs.Resolved.{IsFault, IsRefused, IsResolved, tree_conflicts, tree_links, tree_told}
use Rattle.shade_scope.specs.Conflicts.{conflicts}
use Rattle.shade_events.specs.Events.{tree_events}
use Rattle.shade_scope.specs.Scopes.{links, start, told}
use Rattle.shade_scope.specs.Cycles.{IsCycle, heads_of}
use Rattle.shade_scope.proofs.CycleLaws.{least_as}

below : (m n : ℕ) → nat_le m n ≡ true → m ≤ n
below m n e = grind (arith, nat_tests)

beyond : (m n : ℕ) → nat_le m n ≡ false → n ≤ m
beyond m n e = grind (arith, nat_tests)

module _ (P Q : ScopeFault → Type 0) where
  neither : ((f : ScopeFault) → P f → ⊥) → ((f : ScopeFault) → Q f → ⊥) → (f : ScopeFault) → P f ⊎ Q f → ⊥
  neither p q f (inl x) = p f x
  neither p q f (inr y) = q f y

  low : (n : ℕ) → ((f : ScopeFault) → P f → n ≤ key f) → ((f : ScopeFault) → Q f → n ≤ key f) → (f : ScopeFault) → P f ⊎ Q f → n ≤ key f
  low n p q f (inl x) = p f x
  low n p q f (inr y) = q f y

  chosen : (b : Bool) (f g : ScopeFault) → nat_le (key f) (key g) ≡ b → IsLeast P (Some f) → IsLeast Q (Some g) → IsLeast (λ h. P h ⊎ Q h) (if b then Some f else Some g)
  chosen true f g e l m = (inl l.0, low (key f) l.1 (λ h y. omega (arith, below (key f) (key g) e, m.1 h y)))
  chosen false f g e l m = (inr m.0, low (key g) (λ h x. omega (arith, beyond (key f) (key g) e, l.1 h x)) m.1)

  pub both : (a b : Option ScopeFault) → IsLeast P a → IsLeast Q b → IsLeast (λ f. P f ⊎ Q f) (earlier a b)
  both None None l m = neither l m
  both None (Some g) l m = (inr m.0, low (key g) (λ f x. absurd (l f x)) m.1)
  both (Some f) None l m = (inl l.0, low (key f) l.1 (λ g y. absurd (m g y)))
  both (Some f) (Some g) l m = chosen (nat_le (key f) (key g)) f g refl l m

empty : (f : ScopeFault) → Contains [] f → ⊥
empty f c = omega (arith, c.1)

one_by : (f g : ScopeFault) → Contains [] g ⊎ (f ≡ g) → key f ≤ key g
one_by f g (inl c) = absurd (empty g c)
one_by f g (inr e) = subst (λ (x : ScopeFault). key f ≤ key x) e (omega arith)

one : (f : ScopeFault) → IsLeast (Contains (f ∷ [])) (Some f)
one f = (Contains-push [] f, λ g c. one_by f g (Contains-push_cases [] f g c))

joined : (f : ScopeFault) (fs : List ScopeFault) (g : ScopeFault) → Contains (f ∷ []) g ⊎ Contains fs g → Contains (f ∷ fs) g
joined f fs g (inl x) = Contains-append_left (f ∷ []) fs g x
joined f fs g (inr y) = Contains-append_right (f ∷ []) fs g y

pub least_is : (fs : List ScopeFault) → IsLeast (Contains fs) (least_of fs)
least_is [] = empty
least_is (f ∷ fs) =
    least_as (λ g. Contains (f ∷ []) g ⊎ Contains fs g) (Contains (f ∷ fs)) (earlier (Some f) (least_of fs)) (joined f fs) (Contains-append_cases (f ∷ []) fs)
    (both (Contains (f ∷ [])) (Contains fs) (Some f) (least_of fs) (one f) (least_is fs))

-- ---- the answer

pub answer : (t : Tree) (events : List Event) (a b c ab new : Option ScopeFault) (ls : List (ℕ × ℕ)) (ds : List Decl) → events ≡ tree_events t
    → a ≡ least_of (told t.names start events) → b ≡ least_of (conflicts [] events) → ls ≡ links start events → ds ≡ t.decls → IsLeast (IsCycle ls (heads_of ds)) c
    → ab ≡ earlier a b → new ≡ earlier ab c → IsLeast (IsFault t) new
answer t events a b c ab new ls ds es is_a is_b is_ls is_ds l is_ab is_new =
    let a_is : a ≡ least_of (tree_told t) = is_a ∙ ap (λ e. least_of (told t.names start e)) es in
    let b_is : b ≡ least_of (tree_conflicts t) = is_b ∙ ap (λ e. least_of (conflicts [] e)) es in
    let first : IsLeast (Contains (tree_told t)) a = subst (IsLeast (Contains (tree_told t))) (sym a_is) (least_is (tree_told t)) in
    let second : IsLeast (Contains (tree_conflicts t)) b = subst (IsLeast (Contains (tree_conflicts t))) (sym b_is) (least_is (tree_conflicts t)) in
    let third : IsLeast (IsCycle (tree_links t) (heads_of t.decls)) c =
    subst (λ (z : List Decl). IsLeast (IsCycle (tree_links t) (heads_of z)) c) is_ds (subst (λ (z : List (ℕ × ℕ)). IsLeast (IsCycle z (heads_of ds)) c) (is_ls ∙ ap (links start) es) l) in
    let single : ScopeFault → Type 0 = λ f. Contains (tree_told t) f ⊎ Contains (tree_conflicts t) f in
    let joint : IsLeast single ab = subst (IsLeast single) (sym is_ab) (both (Contains (tree_told t)) (Contains (tree_conflicts t)) a b first second) in
    subst (IsLeast (IsFault t)) (sym is_new) (both single (IsCycle (tree_links t) (heads_of t.decls)) ab c joint third)

pub refused : (t : Tree) (f : ScopeFault) → IsLeast (IsFault t) (Some f) → IsRefused t f
refused t fault.NoMemory l = tt
refused t (fault.Unknown place) l = l
refused t (fault.Twice place) l = l
refused t (fault.Cycle place) l = l
refused t (fault.EntryCalled place) l = l
refused t (fault.ContinueSkips place) l = l
refused t (fault.BadSeverity place) l = l
refused t (fault.Conflict place) l = l

pub answered : (t : Tree) (r : Result Scoped ScopeFault) (f : ScopeFault) → IsErrAnd r (λ x. x ≡ f) → IsRefused t f → IsResolved t r
answered t (Ok s) f e l = absurd e
answered t (Err x) f e l = subst (IsRefused t) (sym e) l
