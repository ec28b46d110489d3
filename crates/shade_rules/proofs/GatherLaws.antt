-- What is gathered of statements, one after another.
use Rattle.std.proofs.Common.{◌≡◌, refl, sym, ap, subst, ◌∙◌, ℕ, zero, suc, ◌+◌, ◌<◌, ◌≤◌, true, false, List, [], ◌∷◌, ◌++◌, length, get_or, take, map, Option, None, Some, inl, inr, arith}
use Rattle.std.specs.Prelude.{◌⊎◌, ◌↔◌, Contains, slice_get}
use Rattle.std.proofs.lemmas.Bool.Decides.{eqb_tells}
use Rattle.std.proofs.lemmas.List.{take_all, take_more, length-map}
use Rattle.std.proofs.lemmas.List.Elements.{Contains-append_left, Contains-append_right, Contains-append_cases}
use Rattle.std.proofs.lemmas.Option.{slice_get-get_or, slice_get_within}
use Rattle.shade_core.specs.declared.statement.Argument.{Argument}
use Rattle.shade_core.specs.declared.statement.Argument.TheVariants as argument
use Rattle.shade_core.specs.declared.statement.Base.{Base}
use Rattle.shade_core.specs.declared.statement.Operand.{Operand}
use Rattle.shade_core.specs.Standing.{Standing}
use Rattle.shade_rules.specs.declared.usage.Row.{Row}
use Rattle.shade_rules.specs.declared.usage.Seen.{Seen}
use Rattle.shade_rules.specs.declared.usage.Seen.TheVariants.{Parameter}
use Rattle.shade_rules.specs.declared.usage.UsageKind.{UsageKind}
use Rattle.shade_rules.specs.declared.usage.UsageKind.TheVariants.{Read, Write}
use Rattle.shade_rules.specs.Gathered.{Rows, HasBy, HasAt, HasVariable, IsHanded, IsHandedAs, ByArgument, ByArguments, ByAllArguments, CallGives, HeadGives, ListGives}
use Rattle.shade_rules.specs.Sets.{Adds, HasUsage, has}
use Rattle.shade_rules.specs.Usages.{Usage, usage, usage_by, usage_at, seen_of}
use Rattle.shade_rules.proofs.GainLaws.{gains_both, gains_then, gains_as, gains_nothing}
use Rattle.shade_rules.proofs.UsageLaws.{none_in, cases_of, first_of}

-- ---- a variable

usage_some : (kind : UsageKind) (o : Option Seen) (u : Usage) → Contains (usage_by kind o) u → (u.kind ≡ kind) × (o ≡ Some u.target)
usage_some kind None u h = absurd (none_in u h)
usage_some kind (Some seen) u h = elim (cases_of (usage kind seen) [] u h) [
  | inl e ↦ (ap (λ (w : Usage). w.kind) (sym e), ap (λ (w : Usage). Some w.target) e)
  | inr none ↦ absurd (none_in u none)
]

usage_has : (kind : UsageKind) (o : Option Seen) (u : Usage) → u.kind ≡ kind → o ≡ Some u.target → Contains (usage_by kind o) u
usage_has kind o u e same =
    let is : usage kind u.target ≡ u = (λ i. record { kind = sym e i; target = u.target }) in
    subst (λ (p : Option Seen). Contains (usage_by kind p) u) (sym same) (subst (λ (v : Usage). Contains (usage kind u.target ∷ []) v) is (first_of (usage kind u.target) []))

module _ (old new : Row) (kind : UsageKind) (base : Base) where
  pub added_one : (seen : Seen) → Some seen ≡ seen_of base → Adds old new (λ u. u ≡ usage kind seen) → Adds old new (Contains (usage_at kind base))
  added_one seen is g = gains_as (HasUsage old) (HasUsage new) (λ u. u ≡ usage kind seen) (Contains (usage_at kind base)) g there back
    where
      there : (u : Usage) → u ≡ usage kind seen → Contains (usage_at kind base) u
      there u e = usage_has kind (seen_of base) u (ap (λ (w : Usage). w.kind) e) (sym is ∙ ap (λ (w : Usage). Some w.target) (sym e))

      back : (u : Usage) → Contains (usage_at kind base) u → u ≡ usage kind seen
      back u h =
          let both : (u.kind ≡ kind) × (seen_of base ≡ Some u.target) = usage_some kind (seen_of base) u h in
          let target : u.target ≡ seen = one_there u.target seen (sym both.1 ∙ sym is) in
          λ i. record { kind = both.0 i; target = target i }
        where
          one_there : (s t : Seen) → Some s ≡ Some t → s ≡ t
          one_there s t e = cc

pub added_none : (row : Row) (kind : UsageKind) (base : Base) → None ≡ seen_of base → Adds row row (Contains (usage_at kind base))
added_none row kind base is = gains_nothing (HasUsage row) (Contains (usage_at kind base)) none
  where
    none : (u : Usage) → Contains (usage_at kind base) u → ⊥
    none u h = let both : (u.kind ≡ kind) × (seen_of base ≡ Some u.target) = usage_some kind (seen_of base) u h in let e : None ≡ Some u.target = is ∙ both.1 in cc e

pub added_both : (old mid new : Row) (xs ys : List Usage) → Adds old mid (Contains xs) → Adds mid new (Contains ys) → Adds old new (Contains (xs ++ ys))
added_both old mid new xs ys g h =
    gains_both (HasUsage old) (HasUsage mid) (HasUsage new) (Contains xs) (Contains ys) (Contains (xs ++ ys)) g h (λ u c. Contains-append_cases xs ys u c) (λ u a. Contains-append_left xs ys u a) (λ u b. Contains-append_right xs ys u b)

-- ---- an argument

module _ (callee : Row) (kind : UsageKind) (number : ℕ) (base : Base) where
  pub handed_as : (old new : Row) → has callee kind (Parameter number) ≡ true → Adds old new (Contains (usage_at kind base)) → Adds old new (IsHandedAs callee kind number base)
  handed_as old new used g = gains_as (HasUsage old) (HasUsage new) (Contains (usage_at kind base)) (IsHandedAs callee kind number base) g there back
    where
      there : (u : Usage) → Contains (usage_at kind base) u → IsHandedAs callee kind number base u
      there u h =
          let both : (u.kind ≡ kind) × (seen_of base ≡ Some u.target) = usage_some kind (seen_of base) u h in
          (both.0, (both.1, subst (λ (k : UsageKind). has callee k (Parameter number) ≡ true) (sym both.0) used))

      back : (u : Usage) → IsHandedAs callee kind number base u → Contains (usage_at kind base) u
      back u h = usage_has kind (seen_of base) u h.0 h.1.0

  pub handed_none : (row : Row) → has callee kind (Parameter number) ≡ false → Adds row row (IsHandedAs callee kind number base)
  handed_none row not_ = gains_nothing (HasUsage row) (IsHandedAs callee kind number base) none
    where
      none : (u : Usage) → IsHandedAs callee kind number base u → ⊥
      none u h = let used : has callee kind (Parameter number) ≡ true = subst (λ (k : UsageKind). has callee k (Parameter number) ≡ true) h.0 h.1.1 in cc (not_, used)

kinds : (kind : UsageKind) → (kind ≡ Read) ⊎ (kind ≡ Write)
kinds Read = inl refl
kinds Write = inr refl

pub handed_both : (callee old mid new : Row) (number : ℕ) (base : Base) → Adds old mid (IsHandedAs callee Read number base) → Adds mid new (IsHandedAs callee Write number base)
    → Adds old new (IsHanded (HasUsage callee) number base)
handed_both callee old mid new number base g h =
    gains_both (HasUsage old) (HasUsage mid) (HasUsage new) (IsHandedAs callee Read number base) (IsHandedAs callee Write number base) (IsHanded (HasUsage callee) number base) g h
    (λ u c. elim (kinds u.kind) [ inl e ↦ inl (e, c) | inr e ↦ inr (e, c) ]) (λ u a. a.1) (λ u b. b.1)

pub plain_gives : (callee row : Row) (number : ℕ) (operand : Operand) → Adds row row (ByArgument (HasUsage callee) number (argument.Plain operand))
plain_gives callee row number operand = gains_nothing (HasUsage row) (ByArgument (HasUsage callee) number (argument.Plain operand)) (λ u h. h)

-- ---- arguments one after another

module _ (callee : Row) (args : List Argument) where
  pub arguments_first : (row : Row) → Adds row row (ByArguments (HasUsage callee) args 0)
  arguments_first row = gains_nothing (HasUsage row) (ByArguments (HasUsage callee) args 0) (λ u h. (let lt : h.number < 0 = h.before in omega (arith, lt)))

  pub arguments_more : (old mid new : Row) (n number : ℕ) (x : Argument) → number ≡ n → n < length args → x ≡ get_or args n x → Adds old mid (ByArguments (HasUsage callee) args n)
      → Adds mid new (ByArgument (HasUsage callee) number x) → Adds old new (ByArguments (HasUsage callee) args (n + 1))
  arguments_more old mid new n number x place lt is g h =
      gains_both (HasUsage old) (HasUsage mid) (HasUsage new) (ByArguments (HasUsage callee) args n) (ByArgument (HasUsage callee) number x) (ByArguments (HasUsage callee) args (n + 1)) g h split before here
    where
      at : slice_get args n ≡ Some x
      at = slice_get-get_or args n x lt ∙ ap Some (sym is)

      one_there : (a b : Argument) → Some a ≡ Some b → a ≡ b
      one_there a b e = cc

      split : (u : Usage) → ByArguments (HasUsage callee) args (n + 1) u → ByArguments (HasUsage callee) args n u ⊎ ByArgument (HasUsage callee) number x u
      split u c = elim (eqb_tells c.number n) [
        | inl s ↦
            let arg : c.arg ≡ x = one_there c.arg x (sym c.at ∙ (ap (slice_get args) s.1 ∙ at)) in
            inr (subst (λ (a : Argument). ByArgument (HasUsage callee) number a u) arg (subst (λ (m : ℕ). ByArgument (HasUsage callee) m c.arg u) (s.1 ∙ sym place) c.gives))
        | inr o ↦ inl (record { number = c.number; before = (let b : c.number < n + 1 = c.before in omega (arith, b, o.1)); arg = c.arg; at = c.at; gives = c.gives })
      ]

      before : (u : Usage) → ByArguments (HasUsage callee) args n u → ByArguments (HasUsage callee) args (n + 1) u
      before u c = record { number = c.number; before = (let b : c.number < n = c.before in omega (arith, b)); arg = c.arg; at = c.at; gives = c.gives }

      here : (u : Usage) → ByArgument (HasUsage callee) number x u → ByArguments (HasUsage callee) args (n + 1) u
      here u c = record { number = n; before = omega arith; arg = x; at = at; gives = subst (λ (m : ℕ). ByArgument (HasUsage callee) m x u) place c }

  pub arguments_all : (old new : Row) (n : ℕ) → length args ≤ n → Adds old new (ByArguments (HasUsage callee) args n) → Adds old new (ByAllArguments (HasUsage callee) args)
  arguments_all old new n past g = gains_as (HasUsage old) (HasUsage new) (ByArguments (HasUsage callee) args n) (ByAllArguments (HasUsage callee) args) g there back
    where
      there : (u : Usage) → ByArguments (HasUsage callee) args n u → ByAllArguments (HasUsage callee) args u
      there u c = record { number = c.number; before = slice_get_within args c.number c.arg c.at; arg = c.arg; at = c.at; gives = c.gives }

      back : (u : Usage) → ByAllArguments (HasUsage callee) args u → ByArguments (HasUsage callee) args n u
      back u c = record { number = c.number; before = (let b : c.number < length args = c.before in omega (arith, b, past)); arg = c.arg; at = c.at; gives = c.gives }

-- ---- a call

-- of a callee that is not there nothing is known
pub call_none : (rows : Rows) (g : ℕ) (args : List Argument) (row : Row) → slice_get rows g ≡ None → Adds row row (CallGives (HasAt rows g) args)
call_none rows g args row e =
    subst (λ (o : Option Row). Adds row row (CallGives (HasBy o) args)) (sym e) (gains_nothing (HasUsage row) (CallGives (HasBy None) args) none)
  where
    by_argument : (j : ℕ) (arg : Argument) (u : Usage) → ByArgument (HasBy None) j arg u → ⊥
    by_argument j (argument.Plain operand) u h = h
    by_argument j (argument.Pointer view) u h = h.1

    none : (u : Usage) → CallGives (HasBy None) args u → ⊥
    none u (inl h) = by_argument h.number h.arg u h.gives
    none u (inr h) = h.1

pub call_some : (rows : Rows) (g : ℕ) (args : List Argument) (callee old mid new : Row) → slice_get rows g ≡ Some callee → Adds old mid (ByAllArguments (HasUsage callee) args)
    → Adds mid new (HasVariable callee) → Adds old new (CallGives (HasAt rows g) args)
call_some rows g args callee old mid new e g_ h =
    subst (λ (o : Option Row). Adds old new (CallGives (HasBy o) args)) (sym e)
    (gains_then (HasUsage old) (HasUsage mid) (HasUsage new) (ByAllArguments (HasUsage callee) args) (HasVariable callee) g_ h)

-- ---- statements one after another

module _ (Known : ℕ → Usage → Type 0) (list : List Standing) where
  pub list_first : (row : Row) → ((u : Usage) → HasUsage row u → ⊥) → (u : Usage) → HasUsage row u ↔ ListGives Known (take 0 list) u
  list_first row none u = (λ h. absurd (none u h), λ h. absurd (none_in h.0 h.1))

  pub list_more : (old new : Row) (n : ℕ) (s : Standing) → n < length list → s ≡ get_or list n s → ((u : Usage) → HasUsage old u ↔ ListGives Known (take n list) u) → Adds old new (HeadGives Known s.head)
      → (u : Usage) → HasUsage new u ↔ ListGives Known (take (n + 1) list) u
  list_more old new n s lt is before g u = (
    λ h. elim (g.from u h) [
      | inl o ↦ let r : ListGives Known (take n list) u = (before u).0 o in (r.0, subst (λ (l : List Standing). Contains l r.0) (sym more) (Contains-append_left (take n list) (s ∷ []) r.0 r.1), r.2)
      | inr m ↦ (s, subst (λ (l : List Standing). Contains l s) (sym more) (Contains-append_right (take n list) (s ∷ []) s (first_of s [])), m)
    ],
    λ h. elim (Contains-append_cases (take n list) (s ∷ []) h.0 (subst (λ (l : List Standing). Contains l h.0) more h.1)) [
      | inl o ↦ g.keeps u ((before u).1 (h.0, o, h.2))
      | inr m ↦ elim (cases_of s [] h.0 m) [
        | inl e ↦ g.adds u (subst (λ (x : Standing). HeadGives Known x.head u) (sym e) h.2)
        | inr none ↦ absurd (none_in h.0 none)
      ]
    ],
  )
    where
      more : take (n + 1) list ≡ take n list ++ s ∷ []
      more = take_more list n s lt ∙ ap (λ (x : Standing). take n list ++ x ∷ []) (sym is)

-- the same over what the statements are seen of
module _ {X : Type 0} (f : X → Standing) (Known : ℕ → Usage → Type 0) (listed : List X) where
  pub listed_more : (old new : Row) (n : ℕ) (x : X) → n < length listed → x ≡ get_or listed n x → ((u : Usage) → HasUsage old u ↔ ListGives Known (take n (map f listed)) u) → Adds old new (HeadGives Known (f x).head)
      → (u : Usage) → HasUsage new u ↔ ListGives Known (take (n + 1) (map f listed)) u
  listed_more old new n x lt is before g = list_more Known (map f listed) old new n (f x) within item before g
    where
      within : n < length (map f listed)
      within = let long : length (map f listed) ≡ length listed = length-map listed f in omega (arith, lt, long)

      item : f x ≡ get_or (map f listed) n (f x)
      item = ap f is ∙ mapped listed n
        where
          mapped : (xs : List X) (k : ℕ) → f (get_or xs k x) ≡ get_or (map f xs) k (f x)
          mapped [] k = refl
          mapped (y ∷ xs) zero = refl
          mapped (y ∷ xs) (suc k) = mapped xs k

  pub listed_all : (row : Row) (n : ℕ) → length listed ≤ n → ((u : Usage) → HasUsage row u ↔ ListGives Known (take n (map f listed)) u) → (u : Usage) → HasUsage row u ↔ ListGives Known (map f listed) u
  listed_all row n past h u =
      let all : take n (map f listed) ≡ map f listed = take_all n (map f listed) (let long : length (map f listed) ≡ length listed = length-map listed f in omega (arith, past, long)) in
      subst (λ (l : List Standing). HasUsage row u ↔ ListGives Known l u) all (h u)
