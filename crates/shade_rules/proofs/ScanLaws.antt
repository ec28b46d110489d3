-- What is looked for in a call is found, and is what the rule on aliases says.
use Rattle.std.proofs.Common.{◌≡◌, refl, sym, ap, subst, ◌∙◌, ℕ, ◌+◌, ◌<◌, ◌≤◌, Bool, true, false, ◌&&◌, ◌||◌, List, length, get_or, Option, None, Some, inl, inr, arith}
use Rattle.std.specs.Prelude.{◌⊎◌, ◌↔◌, nat_lt, slice_get, if◌then◌else◌}
use Rattle.std.proofs.lemmas.Bool.{eqb-true, eq-eqb, cases_lt}
use Rattle.std.proofs.lemmas.Bool.Decides.{nat_tests}
use Rattle.std.proofs.lemmas.Option.{slice_get-get_or, slice_get_within}
use Rattle.shade_core.specs.declared.statement.Operand.{Operand}
use Rattle.shade_core.specs.declared.statement.Argument.{Argument}
use Rattle.shade_core.specs.declared.statement.Argument.TheVariants.{Plain, Pointer}
use Rattle.shade_core.specs.declared.statement.Base.{Base}
use Rattle.shade_core.specs.declared.statement.Base.TheVariants.{Local, Module, Pointee}
use Rattle.shade_core.specs.declared.statement.View.{View}
use Rattle.shade_core.specs.declared.module.CoreFunction.{CoreFunction}
use Rattle.shade_rules.specs.declared.aliasing.AliasOther.{AliasOther}
use Rattle.shade_rules.specs.declared.aliasing.AliasOther.TheVariants as other
use Rattle.shade_rules.specs.declared.aliasing.AliasPair.{AliasPair}
use Rattle.shade_rules.specs.declared.usage.Row.{Row}
use Rattle.shade_rules.specs.declared.usage.Seen.{Seen}
use Rattle.shade_rules.specs.declared.usage.Seen.TheVariants.{Parameter, Variable}
use Rattle.shade_rules.specs.declared.usage.UsageKind.TheVariants.{Read, Write}
use Rattle.shade_rules.specs.Aliases.{Touches, Conflict, Clash, argument, variable, OtherBefore, IsFirstOf, HasNone}
use Rattle.shade_rules.specs.Gathered.{Rows, HasBy, AreUsages}
use Rattle.shade_rules.specs.Scans.{touches, conflicts, Known, KnownBy, KnownAt, same_base, is_alias, own_variable, is_later, IsLater, IsFirstLater, IsFirstFor, IsFirstAmong}
use Rattle.shade_rules.specs.Sets.{HasUsage, has}
use Rattle.shade_rules.specs.Usages.{Usage, usage, Uses}
use Rattle.shade_rules.proofs.FewLaws.{both}
use Rattle.shade_rules.proofs.NumberLaws.{false_true}

both_true : (a b : Bool) → a ≡ true → b ≡ true → (a && b) ≡ true
both_true a b e g = ap (λ x. x && b) e ∙ g

either : (a b : Bool) → (a || b) ≡ true → (a ≡ true) ⊎ (b ≡ true)
either true b e = inl refl
either false b e = inr e

left_true : (a b : Bool) → a ≡ true → (a || b) ≡ true
left_true a b e = ap (λ x. x || b) e

right_true : (a b : Bool) → b ≡ true → (a || b) ≡ true
right_true true b e = refl
right_true false b e = e

is_less : (i j : ℕ) → nat_lt i j ≡ true → i < j
is_less i j e = grind (arith, nat_tests)

less_is : (i j : ℕ) → i < j → nat_lt i j ≡ true
less_is i j lt = grind (arith, nat_tests)

-- ---- bases

base_same : (a b : Base) → same_base a b ≡ true → a ≡ b
base_same (Local x) (Local y) e = ap Local (eqb-true x y e)
base_same (Module r) (Module s) e = ap Module (eqb-true r s e)
base_same (Pointee i) (Pointee j) e = ap Pointee (eqb-true i j e)
base_same (Local x) (Module s) e = false_true e
base_same (Local x) (Pointee j) e = false_true e
base_same (Module r) (Local y) e = false_true e
base_same (Module r) (Pointee j) e = false_true e
base_same (Pointee i) (Local y) e = false_true e
base_same (Pointee i) (Module s) e = false_true e

base_self : (a : Base) → same_base a a ≡ true
base_self (Local x) = eq-eqb x x refl
base_self (Module r) = eq-eqb r r refl
base_self (Pointee i) = eq-eqb i i refl

-- ---- a row, and what its function uses

module _ (functions : List CoreFunction) (g : ℕ) (row : Row) (are : (u : Usage) → HasUsage row u ↔ Uses functions g u) where
  touched : (seen : Seen) → touches row seen ≡ true → Touches functions g seen
  touched seen e = elim (either (has row Read seen) (has row Write seen) e) [
    | inl reads ↦ inl ((are (usage Read seen)).0 reads)
    | inr writes ↦ inr ((are (usage Write seen)).0 writes)
  ]

  in_touched : (seen : Seen) → Touches functions g seen → touches row seen ≡ true
  in_touched seen (inl reads) = left_true (has row Read seen) (has row Write seen) ((are (usage Read seen)).1 reads)
  in_touched seen (inr writes) = right_true (has row Read seen) (has row Write seen) ((are (usage Write seen)).1 writes)

  conflict_in : (one two : Seen) → Known row one two → Conflict functions g one two
  conflict_in one two e = elim (either (has row Write one && touches row two) (touches row one && has row Write two) e) [
    | inl first_ ↦
        let h : (has row Write one ≡ true) × (touches row two ≡ true) = both (has row Write one) (touches row two) first_ in
        inl ((are (usage Write one)).0 h.0, touched two h.1)
    | inr second_ ↦
        let h : (touches row one ≡ true) × (has row Write two ≡ true) = both (touches row one) (has row Write two) second_ in
        inr (touched one h.0, (are (usage Write two)).0 h.1)
  ]

  known_in : (one two : Seen) → Conflict functions g one two → Known row one two
  known_in one two (inl h) =
      left_true (has row Write one && touches row two) (touches row one && has row Write two) (both_true (has row Write one) (touches row two) ((are (usage Write one)).1 h.0) (in_touched two h.1))
  known_in one two (inr h) =
      right_true (has row Write one && touches row two) (touches row one && has row Write two) (both_true (touches row one) (has row Write two) (in_touched one h.0) ((are (usage Write two)).1 h.1))

module _ (functions : List CoreFunction) (rows : Rows) (are : AreUsages functions rows) (g : ℕ) where
  row_uses : (o : Option Row) → slice_get rows g ≡ o → (u : Usage) → HasBy o u ↔ Uses functions g u
  row_uses o e u = subst (λ (p : Option Row). HasBy p u ↔ Uses functions g u) e (are g u)

  pub conflict_of : (one two : Seen) → KnownAt rows g one two → Conflict functions g one two
  conflict_of one two h = by (slice_get rows g) refl h
    where
      by : (o : Option Row) → slice_get rows g ≡ o → KnownBy o one two → Conflict functions g one two
      by None e h = absurd h
      by (Some row) e h = conflict_in functions g row (row_uses (Some row) e) one two h

  pub known_of : (one two : Seen) → Conflict functions g one two → KnownAt rows g one two
  known_of one two h = by (slice_get rows g) refl
    where
      none : slice_get rows g ≡ None → Conflict functions g one two → ⊥
      none e (inl h) = (row_uses None e (usage Write one)).1 h.0
      none e (inr h) = (row_uses None e (usage Write two)).1 h.1

      by : (o : Option Row) → slice_get rows g ≡ o → KnownBy o one two
      by None e = none e h
      by (Some row) e = known_in functions g row (row_uses (Some row) e) one two h

-- of a callee that is not there no conflict is known
pub known_nowhere : (rows : Rows) (g : ℕ) (args : List Argument) → slice_get rows g ≡ None → IsFirstAmong (KnownAt rows g) args None
known_nowhere rows g args e = subst (λ (o : Option Row). IsFirstAmong (KnownBy o) args None) (sym e) (record { some = tt; none = λ i o x. none i o x })
  where
    none : (i : ℕ) (o : AliasOther) → Clash (KnownBy None) args i o → ⊥
    none i o (argument lt at there same h) = h
    none i o (variable at same h) = h

pub known_there : (rows : Rows) (g : ℕ) (args : List Argument) (row : Row) (found : Option AliasPair) → slice_get rows g ≡ Some row → IsFirstAmong (Known row) args found → IsFirstAmong (KnownAt rows g) args found
known_there rows g args row found e h = subst (λ (o : Option Row). IsFirstAmong (KnownBy o) args found) (sym e) h

-- ---- one relation for another

clash_map : (C D : Seen → Seen → Type 0) (args : List Argument) (i : ℕ) (o : AliasOther) → ((a b : Seen) → C a b → D a b) → Clash C args i o → Clash D args i o
clash_map C D args i o f (argument {j = j} lt at there same h) = argument lt at there same (f (Parameter i) (Parameter j) h)
clash_map C D args i o f (variable {r = r} at same h) = variable at same (f (Parameter i) (Variable r) h)

pub first_map : (C D : Seen → Seen → Type 0) (args : List Argument) (i : ℕ) (o : AliasOther) → ((a b : Seen) → C a b → D a b) → ((a b : Seen) → D a b → C a b) → IsFirstOf C args i o → IsFirstOf D args i o
first_map C D args i o f g h = record {
  clash = clash_map C D args i o f h.clash;
  lesser = λ k p lt x. h.lesser k p lt (clash_map D C args k p g x);
  before = λ p lt x. h.before p lt (clash_map D C args i p g x);
}

pub none_map : (C D : Seen → Seen → Type 0) (args : List Argument) → ((a b : Seen) → D a b → C a b) → HasNone C args → HasNone D args
none_map C D args g h i o x = h i o (clash_map D C args i o g x)

-- ---- later arguments

one_there : {A : Type 0} (x y : A) → Some x ≡ Some y → x ≡ y
one_there x y e = cc

-- what stands at a place
pub item_at : {A : Type 0} (xs : List A) (n i : ℕ) (x : A) → n ≡ i → i < length xs → x ≡ get_or xs i x → slice_get xs n ≡ Some x
item_at xs n i x same lt is = ap (slice_get xs) same ∙ (slice_get-get_or xs i x lt ∙ ap Some (sym is))

module _ (row : Row) (args : List Argument) (i : ℕ) (base : Base) where
  -- none of the first arguments is an alias
  abbrev pub NoneBefore : ℕ → Type 0
  NoneBefore n = (k : ℕ) → k < n → IsLater row args i base k → ⊥

  pub none_first : NoneBefore 0
  none_first k lt h = omega (arith, lt)

  pub none_next : (n : ℕ) (arg : Argument) → NoneBefore n → slice_get args n ≡ Some arg → is_later row i base n arg ≡ false → NoneBefore (n + 1)
  none_next n arg before at not_ k lt h = elim (cases_lt k n) [
    | inl less ↦ before k less h
    | inr more ↦
        let same : k ≡ n = omega (arith, lt, more) in
        let arg_same : h.arg ≡ arg = one_there h.arg arg (sym h.at ∙ (ap (slice_get args) same ∙ at)) in
        let is : is_later row i base n arg ≡ true = subst (λ (a : Argument). is_later row i base n a ≡ true) arg_same (subst (λ (m : ℕ). is_later row i base m h.arg ≡ true) same h.is) in
        false_true (sym not_ ∙ is)
  ]

  -- the first argument that is one
  pub later_here : (n : ℕ) (arg : Argument) → NoneBefore n → slice_get args n ≡ Some arg → is_later row i base n arg ≡ true → IsFirstLater row args i base (Some n)
  later_here n arg before at is = record { some = (record { arg = arg; at = at; is = is }, before); none = tt }

  pub none_after : (n : ℕ) → length args ≤ n → NoneBefore n → (k : ℕ) → IsLater row args i base k → ⊥
  none_after n past before k h = let lt : k < length args = slice_get_within args k h.arg h.at in before k (omega (arith, lt, past)) h

  pub no_later : (n : ℕ) → length args ≤ n → NoneBefore n → IsFirstLater row args i base None
  no_later n past before = record { some = tt; none = none_after n past before }

-- ---- the aliases of one argument

module _ (row : Row) (args : List Argument) (i : ℕ) (view : View) (at : slice_get args i ≡ Some (Pointer view)) where
  view_is : (v : View) → slice_get args i ≡ Some (Pointer v) → v ≡ view
  view_is v e = let s : Some (Pointer v) ≡ Some (Pointer view) = sym e ∙ at in cc

  later_clash : (j : ℕ) → IsLater row args i view.base j → Clash (Known row) args i (other.Argument j)
  later_clash j h = by h.arg h.at parts.1
    where
      parts : (nat_lt i j ≡ true) × (is_alias row i view.base j h.arg ≡ true)
      parts = both (nat_lt i j) (is_alias row i view.base j h.arg) h.is

      by : (arg : Argument) → slice_get args j ≡ Some arg → is_alias row i view.base j arg ≡ true → Clash (Known row) args i (other.Argument j)
      by (Plain operand) there e = false_true e
      by (Pointer later) there e =
          let s : (same_base view.base later.base ≡ true) × (conflicts row (Parameter i) (Parameter j) ≡ true) = both (same_base view.base later.base) (conflicts row (Parameter i) (Parameter j)) e in
          argument (is_less i j parts.0) at there (base_same view.base later.base s.0) s.1

  clash_later : (j : ℕ) → Clash (Known row) args i (other.Argument j) → IsLater row args i view.base j
  clash_later j (argument {view = v} {later = later} lt here there same h) =
      let one : v ≡ view = view_is v here in
      record {
        arg = Pointer later;
        at = there;
        is = both_true (nat_lt i j) (is_alias row i view.base j (Pointer later)) (less_is i j lt)
            (both_true (same_base view.base later.base) (conflicts row (Parameter i) (Parameter j))
            (subst (λ (b : Base). same_base view.base b ≡ true) (ap (λ (x : View). x.base) (sym one) ∙ same) (base_self view.base)) h);
      }

  -- the variable
  own_clash : (r : ℕ) → Clash (Known row) args i (other.Variable r) → own_variable row i view.base ≡ Some (other.Variable r)
  own_clash r (variable {view = v} here same h) =
      ap (own_variable row i) (ap (λ (x : View). x.base) (sym (view_is v here)) ∙ same) ∙ ap (λ b. if b then Some (other.Variable r) else None) h

  clash_own : (o : AliasOther) → own_variable row i view.base ≡ Some o → Clash (Known row) args i o
  clash_own o e = by view.base refl e
    where
      taken : (b : Bool) (r : ℕ) → conflicts row (Parameter i) (Variable r) ≡ b → view.base ≡ Module r → (if b then Some (other.Variable r) else None) ≡ Some o → Clash (Known row) args i o
      taken true r known same s = subst (λ (p : AliasOther). Clash (Known row) args i p) (one_there (other.Variable r) o s) (variable at same known)
      taken false r known same s = let no_one : ⊥ = cc s in absurd no_one

      by : (base : Base) → view.base ≡ base → own_variable row i base ≡ Some o → Clash (Known row) args i o
      by (Local x) same s = let no_one : ⊥ = cc s in absurd no_one
      by (Pointee p) same s = let no_one : ⊥ = cc s in absurd no_one
      by (Module r) same s = taken (conflicts row (Parameter i) (Variable r)) r refl same s

  -- a later argument comes first
  pub first_is_later : (j : ℕ) → IsFirstLater row args i view.base (Some j) → IsFirstFor row args i (Some (other.Argument j))
  first_is_later j h = record {
    some = (later_clash j h.some.0, λ p before x. earlier p before x);
    none = tt;
  }
    where
      earlier : (p : AliasOther) → OtherBefore p (other.Argument j) → Clash (Known row) args i p → ⊥
      earlier (other.Argument k) before x = h.some.1 k before (clash_later k x)
      earlier (other.Variable r) before x = before

  none_later : IsFirstLater row args i view.base None → (k : ℕ) → Clash (Known row) args i (other.Argument k) → ⊥
  none_later h k x = h.none k (clash_later k x)

  pub first_is_own : (found : Option AliasOther) → IsFirstLater row args i view.base None → found ≡ own_variable row i view.base → IsFirstFor row args i found
  first_is_own None h e = record { some = tt; none = λ o x. none o x }
    where
      none : (o : AliasOther) → Clash (Known row) args i o → ⊥
      none (other.Argument k) x = none_later h k x
      none (other.Variable r) x = let s : None ≡ Some (other.Variable r) = e ∙ own_clash r x in cc
  first_is_own (Some o) h e = record { some = (clash_own o (sym e), λ p before x. earlier p before x); none = tt }
    where
      -- there is one variable alone
      earlier : (p : AliasOther) → OtherBefore p o → Clash (Known row) args i p → ⊥
      earlier (other.Argument k) before x = none_later h k x
      earlier (other.Variable r) before x =
          let same : o ≡ other.Variable r = one_there o (other.Variable r) (e ∙ own_clash r x) in
          let less : r < r = subst (λ (q : AliasOther). OtherBefore (other.Variable r) q) same before in
          omega (arith, less)

-- ---- arguments one after another

-- an argument that is no pointer has no alias
pub plain_for : (row : Row) (args : List Argument) (i : ℕ) (operand : Operand) → slice_get args i ≡ Some (Plain operand) → IsFirstFor row args i None
plain_for row args i operand at = record { some = tt; none = λ o x. none o x }
  where
    none : (o : AliasOther) → Clash (Known row) args i o → ⊥
    none o (argument {view = v} less here there same h) = let s : Some (Pointer v) ≡ Some (Plain operand) = sym here ∙ at in cc
    none o (variable {view = v} here same h) = let s : Some (Pointer v) ≡ Some (Plain operand) = sym here ∙ at in cc

-- a clash is of an argument that is there
clash_within : (C : Seen → Seen → Type 0) (args : List Argument) (i : ℕ) (o : AliasOther) → Clash C args i o → i < length args
clash_within C args i o (argument {view = v} lt here there same h) = slice_get_within args i (Pointer v) here
clash_within C args i o (variable {view = v} here same h) = slice_get_within args i (Pointer v) here

module _ (row : Row) (args : List Argument) where
  abbrev pub NoClash : ℕ → Type 0
  NoClash n = (k : ℕ) (o : AliasOther) → k < n → Clash (Known row) args k o → ⊥

  pub no_clash_first : NoClash 0
  no_clash_first k o lt x = omega (arith, lt)

  pub no_clash_next : (n : ℕ) (found : Option AliasOther) → NoClash n → IsFirstFor row args n found → found ≡ None → NoClash (n + 1)
  no_clash_next n found before h e k o lt x = elim (cases_lt k n) [
    | inl less ↦ before k o less x
    | inr more ↦
        let same : k ≡ n = omega (arith, lt, more) in
        let none : IsFirstFor row args n None = subst (IsFirstFor row args n) e h in
        none.none o (subst (λ (m : ℕ). Clash (Known row) args m o) same x)
  ]

  pub clash_here : (n : ℕ) (o : AliasOther) → NoClash n → IsFirstFor row args n (Some o) → IsFirstOf (Known row) args n o
  clash_here n o before h = record { clash = h.some.0; lesser = λ k p lt x. before k p lt x; before = h.some.1 }

  pub no_clash_all : (n : ℕ) → length args ≤ n → NoClash n → HasNone (Known row) args
  no_clash_all n past before i o x = let lt : i < length args = clash_within (Known row) args i o x in before i o (omega (arith, lt, past)) x

  -- the first argument that has an alias
  pub alias_here : (n : ℕ) (o : AliasOther) (found : Option AliasOther) → NoClash n → IsFirstFor row args n found → found ≡ Some o → IsFirstAmong (Known row) args (Some (record { first = n; second = o }))
  alias_here n o found before h e = record { some = clash_here n o before (subst (IsFirstFor row args n) e h); none = tt }

  pub alias_nowhere : (n : ℕ) → length args ≤ n → NoClash n → IsFirstAmong (Known row) args None
  alias_nowhere n past before = record { some = tt; none = no_clash_all n past before }
