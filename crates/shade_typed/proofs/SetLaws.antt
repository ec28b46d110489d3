-- What operations on values take.
use Rattle.std.proofs.Common.{◌≡◌, refl, sym, ap, subst, ◌∙◌, ℕ, zero, suc, ◌+◌, ◌<◌, ◌≤◌, Bool, true, false, List, [], ◌∷◌, length, get_or, take, drop, map, Option, Some, None, arith}
use Rattle.std.specs.Prelude.{◌↔◌, All, Contains, IsTrue, option_map, replicate, slice_get}
use Rattle.std.proofs.lemmas.List.{drop_all, get_or_default, length-replicate}
use Rattle.std.proofs.lemmas.List.Elements.{All-head, All-replicate, All-tail}
use Rattle.std.proofs.lemmas.Option.{get_or_from_slice_get, slice_get-get_or, slice_get_within}
use Rattle.shade_values.specs.declared.types.Scalar.{Scalar}
use Rattle.shade_values.specs.declared.types.Scalar.TheVariants as scalar
use Rattle.shade_values.specs.declared.types.ShadeType.{ShadeType}
use Rattle.shade_values.specs.declared.types.ShadeType.TheVariants as type
use Rattle.shade_values.specs.declared.types.TypeId.{TypeId}
use Rattle.shade_values.specs.declared.op.Op.{Op}
use Rattle.shade_values.specs.Sound.{IsSound}
use Rattle.shade_values.specs.Table.{Table}
use Rattle.shade_values.specs.Takes.{ElementOf, IsInteger, MemberOf, Names as NamesType, NamesAll, PartsOf}
use Rattle.shade_overload.specs.declared.builtin.Builtin.{Builtin}
use Rattle.shade_core.proofs.CodeLaws.{drop_here}
use Rattle.shade_core.specs.declared.statement.Operand.{Operand}
use Rattle.shade_core.specs.Code.{Set}
use Rattle.shade_core.specs.Types.{IsConstructible, IsHeld, NamesHeld, type_at}
use Rattle.shade_typed.specs.declared.rule.Rule.TheVariants as rule
use Rattle.shade_typed.specs.Answers.{Answers}
use Rattle.shade_typed.specs.Contexts.{ContextView, IsThere}
use Rattle.shade_typed.specs.Places.{HasElement, HasMember, HaveTypes}
use Rattle.shade_typed.specs.Rules.{RowTakes, rule_of}
use Rattle.shade_typed.specs.Sets.{FitsPlain, IsMemberAt, IsOne, Gives, IndexGives, MakesOf, MemberGives, RowValue, RuleGives, SwizzleGives}
use Rattle.shade_typed.specs.Simple.{is_simple}
use Rattle.shade_typed.proofs.AnswerLaws.{answers_as, answers_none, answers_one, holds, nowhere, only, some_same, none_some}
use Rattle.shade_typed.proofs.ContextLaws.{there}
use Rattle.shade_typed.proofs.RuleLaws.{alike}

-- ---- rows

pub no_row : (t : Table) (b : Builtin) (args : List ShadeType) → Answers (RowTakes t b args) None → Answers (RowValue t b args) None
no_row t b args none = answers_none (RowValue t b args) (λ ty h. nowhere (RowTakes t b args) (Some ty) none h)

pub row_value : (t : Table) (b : Builtin) (args : List ShadeType) (r : Option ShadeType) → Answers (RowTakes t b args) (Some r) → Answers (RowValue t b args) r
row_value t b args r row ty = (λ h. only (RowTakes t b args) r (Some ty) row h, λ e. subst (RowTakes t b args) e (holds (RowTakes t b args) r row))

pub no_value : (t : Table) (b : Builtin) (args : List ShadeType) → Answers (RowValue t b args) None → Answers (RuleGives t (rule.Row b) args) None
no_value t b args none = answers_none (RuleGives t (rule.Row b) args) (λ ty h. nowhere (RowValue t b args) ty none h.0.0)

pub other_value : (t : Table) (b : Builtin) (args : List ShadeType) (found : ShadeType) → Answers (RowValue t b args) (Some found) → is_simple found ≡ false → Answers (RuleGives t (rule.Row b) args) None
other_value t b args found row plain = answers_none (RuleGives t (rule.Row b) args) (λ ty h.
    let same : found ≡ ty = only (RowValue t b args) found ty row h.0.0 in
    let f : false ≡ true = sym plain ∙ (ap is_simple same ∙ h.0.1) in cc)

pub row_gives : (t : Table) (b : Builtin) (args : List ShadeType) (found : ShadeType) (r : Option ShadeType) → Answers (RowValue t b args) (Some found) → IsTrue (is_simple found) → Answers (IsThere t found) r → Answers (RuleGives t (rule.Row b) args) r
row_gives t b args found r row simple h =
    answers_as (IsThere t found) (RuleGives t (rule.Row b) args) r (λ ty. (
      λ w. ((subst (RowValue t b args) (sym w.0) (holds (RowValue t b args) found row), subst (λ x. IsTrue (is_simple x)) (sym w.0) simple), w.1),
      λ g. (sym (only (RowValue t b args) found ty row g.0.0), g.1),
    )) h

-- ---- arrays

pub all_alike : (ty : ShadeType) (types : List ShadeType) (count : ℕ) → length types ≡ count → All (λ other. other ≡ ty) types → types ≡ replicate count ty
all_alike ty [] zero l all = refl
all_alike ty [] (suc count) l all = absurd (omega (arith, l))
all_alike ty (x ∷ types) zero l all = absurd (omega (arith, l))
all_alike ty (x ∷ types) (suc count) l all =
    λ i. All-head (λ other. other ≡ ty) x types all i ∷ all_alike ty types count (omega (arith, l)) (All-tail (λ other. other ≡ ty) x types all) i

pub elements_long : (ty : ShadeType) (types : List ShadeType) (count : ℕ) → types ≡ replicate count ty → length types ≡ count
elements_long ty types count e = ap length e ∙ length-replicate count ty

pub elements_alike : (ty : ShadeType) (types : List ShadeType) (count : ℕ) → types ≡ replicate count ty → All (λ other. other ≡ ty) types
elements_alike ty types count e = subst (All (λ other. other ≡ ty)) (sym e) (All-replicate (λ other. other ≡ ty) count ty refl)

pub elements_as : (t : Table) (element : TypeId) (count : ℕ) (types : List ShadeType) (own : ShadeType) (b : Bool) → type_at t element ≡ Some own → length types ≡ count → IsTrue b ↔ All (λ other. other ≡ own) types
    → IsTrue b ↔ ((ty : ShadeType) × NamesType t element ty × (types ≡ replicate count ty))
elements_as t element count types own b at long h = (
  λ e. (own, at, all_alike own types count long (h.0 e)),
  λ w. h.1 (elements_alike own types count (w.2 ∙ ap (replicate count) (some_same w.0 own (sym w.1 ∙ at)))),
)

-- ---- structs

abbrev pub ids_of : List (List ℕ × TypeId) → List TypeId
ids_of members = map (λ m. m.1) members

abbrev pub NamedFrom : Table → List (List ℕ × TypeId) → List ShadeType → ℕ → Type 0
NamedFrom t members types i = NamesAll t (ids_of members) types ↔ NamesAll t (ids_of (drop i members)) (drop i types)

ids_here : (members : List (List ℕ × TypeId)) (i : ℕ) (id : TypeId) → option_map (λ m. m.1) (slice_get members i) ≡ Some id → ids_of (drop i members) ≡ id ∷ ids_of (drop (i + 1) members)
ids_here members i id at = by_found (slice_get members i) refl at
  where
    by_found : (r : Option (List ℕ × TypeId)) → slice_get members i ≡ r → option_map (λ m. m.1) r ≡ Some id → ids_of (drop i members) ≡ id ∷ ids_of (drop (i + 1) members)
    by_found None e h = absurd (none_some id h)
    by_found (Some m) e h =
        ap ids_of (drop_here members i m (slice_get_within members i m e) (sym (get_or_from_slice_get members i m m e))) ∙ ap (λ x. x ∷ ids_of (drop (i + 1) members)) (some_same m.1 id h)

one_named : (t : Table) (members : List (List ℕ × TypeId)) (types : List ShadeType) (i : ℕ) (id : TypeId) (d : ShadeType) → option_map (λ m. m.1) (slice_get members i) ≡ Some id → i < length types
    → NamesAll t (ids_of (drop i members)) (drop i types) ↔ (NamesType t id (get_or types i d) × NamesAll t (ids_of (drop (i + 1) members)) (drop (i + 1) types))
one_named t members types i id d at under =
    let here = ids_here members i id at in
    let there = drop_here types i (get_or types i d) under (get_or_default types i d (get_or types i d) under) in (
      λ h. subst (λ l. NamesAll t (id ∷ ids_of (drop (i + 1) members)) l) there (subst (λ l. NamesAll t l (drop i types)) here h),
      λ w. subst (λ l. NamesAll t l (drop i types)) (sym here) (subst (λ l. NamesAll t (id ∷ ids_of (drop (i + 1) members)) l) (sym there) w),
    )

pub named_more : (t : Table) (members : List (List ℕ × TypeId)) (types : List ShadeType) (i : ℕ) (d : ShadeType) → i < length types → IsMemberAt t members i (get_or types i d) → NamedFrom t members types i → NamedFrom t members types (i + 1)
named_more t members types i d under names so_far =
    let one = one_named t members types i names.0 d names.1 under in
    (λ h. (one.0 (so_far.0 h)).1, λ w. so_far.1 (one.1 (names.2, w)))

pub named_none : (t : Table) (members : List (List ℕ × TypeId)) (types : List ShadeType) (i : ℕ) (d : ShadeType) (b : Bool) → i < length members → i < length types → IsTrue b ↔ IsMemberAt t members i (get_or types i d) → b ≡ false → NamedFrom t members types i
    → ¬ NamesAll t (ids_of members) types
named_none t members types i d b lt under tells unlike so_far h = by_found (slice_get members i) refl
  where
    by_found : (r : Option (List ℕ × TypeId)) → slice_get members i ≡ r → ⊥
    by_found None e = none_some (get_or members i ([], record { 0 = 0 })) (sym e ∙ slice_get-get_or members i ([], record { 0 = 0 }) lt)
    by_found (Some m) e =
        let at : option_map (λ x. x.1) (slice_get members i) ≡ Some m.1 = ap (option_map (λ x. x.1)) e in
        let f : false ≡ true = sym unlike ∙ tells.1 (m.1, at, ((one_named t members types i m.1 d at under).0 (so_far.0 h)).0) in cc

pub named_first : (t : Table) (members : List (List ℕ × TypeId)) (types : List ShadeType) → NamedFrom t members types 0
named_first t members types = (λ h. h, λ h. h)

pub named_all : (t : Table) (members : List (List ℕ × TypeId)) (types : List ShadeType) (i : ℕ) → length members ≤ i → length types ≤ i → NamedFrom t members types i → NamesAll t (ids_of members) types
named_all t members types i le few so_far =
    so_far.1 (subst (λ l. NamesAll t (ids_of l) (drop i types)) (sym (drop_all i members le)) (subst (λ l. NamesAll t [] l) (sym (drop_all i types few)) tt))

pub named_long : (t : Table) (members : List (List ℕ × TypeId)) (types : List ShadeType) → NamesAll t (ids_of members) types → length members ≡ length types
named_long t [] [] h = refl
named_long t [] (ty ∷ types) h = absurd h
named_long t (m ∷ members) [] h = absurd h
named_long t (m ∷ members) (ty ∷ types) h = (let more = named_long t members types h.1 in omega (arith, more))

-- ---- what is made

pub no_made : (t : Table) (id : TypeId) (args : List ShadeType) → type_at t id ≡ None → Answers (MakesOf t id args) None
no_made t id args none = answers_none (MakesOf t id args) (λ ty h. none_some h.0.0 (sym none ∙ h.0.1))

pub other_parts : (t : Table) (id : TypeId) (args : List ShadeType) (own : ShadeType) → type_at t id ≡ Some own → ¬ PartsOf t own args → Answers (MakesOf t id args) None
other_parts t id args own at unlike = answers_none (MakesOf t id args) (λ ty h. unlike (subst (λ x. PartsOf t x args) (sym (some_same own h.0.0 (sym at ∙ h.0.1))) h.0.2))

pub made : (t : Table) (id : TypeId) (args : List ShadeType) (own : ShadeType) → type_at t id ≡ Some own → PartsOf t own args → Answers (MakesOf t id args) (Some own)
made t id args own at parts =
    answers_one (MakesOf t id args) own ((own, at, parts, refl), there t id own at) (λ ty h. some_same own h.0.0 (sym at ∙ h.0.1) ∙ sym (some_same ty h.0.0 h.0.3))

-- ---- members, elements, swizzles

-- just one type, and just two
pub one_as : (args : List ShadeType) (d : ShadeType) → 1 ≤ length args → length args < 2 → Answers (IsOne args) (Some (get_or args 0 d))
one_as [] d many few = absurd (omega (arith, many))
one_as (x ∷ []) d many few = answers_one (IsOne (x ∷ [])) x refl (λ ty h. ap (λ l. get_or l 0 x) h)
one_as (x ∷ y ∷ args) d many few = absurd (omega (arith, few))

pair_is : (args : List ShadeType) (d e : ShadeType) → 2 ≤ length args → length args < 3 → args ≡ get_or args 0 d ∷ get_or args 1 e ∷ []
pair_is [] d e many few = absurd (omega (arith, many))
pair_is (x ∷ []) d e many few = absurd (omega (arith, many))
pair_is (x ∷ y ∷ []) d e many few = refl
pair_is (x ∷ y ∷ z ∷ args) d e many few = absurd (omega (arith, few))

pub one_member : (t : Table) (k : ℕ) (args : List ShadeType) (whole : ShadeType) (r : Option ShadeType) → args ≡ whole ∷ [] → Answers (HasMember t whole k) r → Answers (MemberGives t k args) r
one_member t k args whole r e h =
    answers_as (HasMember t whole k) (MemberGives t k args) r (λ ty. (
      λ w. ((whole, ty, w.0, e, refl), w.1),
      λ g. (
          let lists : whole ∷ [] ≡ g.0.0 ∷ [] = sym e ∙ g.0.3 in
          let same : whole ≡ g.0.0 = ap (λ l. get_or l 0 whole) lists in
          (subst (λ x. MemberOf t k x ty) (sym same) (subst (MemberOf t k g.0.0) (sym (some_same ty g.0.1 g.0.4)) g.0.2), g.1)
          ),
    )) h

pub one_held : (t : Table) (args : List ShadeType) (whole : ShadeType) → All (IsHeld t) args → args ≡ whole ∷ [] → Contains t.types whole
one_held t args whole held e = (All-head (IsHeld t) whole [] (subst (All (IsHeld t)) e held)).held

-- other than one value
pub not_one : (t : Table) (k : ℕ) (args : List ShadeType) → ((whole : ShadeType) → args ≡ whole ∷ [] → ⊥) → Answers (MemberGives t k args) None
not_one t k args none = answers_none (MemberGives t k args) (λ ty g. none g.0.0 g.0.3)

pub not_pair : (t : Table) (args : List ShadeType) → ((whole : ShadeType) (s : Scalar) → args ≡ whole ∷ type.Plain s ∷ [] → ⊥) → Answers (IndexGives t args) None
not_pair t args none = answers_none (IndexGives t args) (λ ty g. none g.0.0 g.0.1 g.0.5)

pub by_truth : (t : Table) (args : List ShadeType) (whole : ShadeType) (s : Scalar) → args ≡ whole ∷ type.Plain s ∷ [] → s ≡ scalar.Bool → Answers (IndexGives t args) None
by_truth t args whole s e truth = answers_none (IndexGives t args) (λ ty g.
    let lists : whole ∷ type.Plain s ∷ [] ≡ g.0.0 ∷ type.Plain g.0.1 ∷ [] = sym e ∙ g.0.5 in
    let second : type.Plain s ≡ type.Plain g.0.1 = ap (λ l. get_or l 1 whole) lists in
    let same : s ≡ g.0.1 = cc in
    g.0.3 (sym same ∙ truth))

pub indexed : (t : Table) (args : List ShadeType) (whole : ShadeType) (s : Scalar) (r : Option ShadeType) → args ≡ whole ∷ type.Plain s ∷ [] → IsInteger s → Answers (HasElement t whole) r → Answers (IndexGives t args) r
indexed t args whole s r e whole_number h =
    answers_as (HasElement t whole) (IndexGives t args) r (λ ty. (
      λ w. ((whole, s, ty, whole_number, w.0, e, refl), w.1),
      λ g. (
          let lists : whole ∷ type.Plain s ∷ [] ≡ g.0.0 ∷ type.Plain g.0.1 ∷ [] = sym e ∙ g.0.5 in
          let same : whole ≡ g.0.0 = ap (λ l. get_or l 0 whole) lists in
          (subst (λ x. ElementOf t x ty) (sym same) (subst (ElementOf t g.0.0) (sym (some_same ty g.0.2 g.0.6)) g.0.4), g.1)
          ),
    )) h

pub indexed_at : (t : Table) (args : List ShadeType) (d e : ShadeType) (s : Scalar) (r : Option ShadeType) → 2 ≤ length args → length args < 3 → get_or args 1 e ≡ type.Plain s → IsInteger s → Answers (HasElement t (get_or args 0 d)) r → Answers (IndexGives t args) r
indexed_at t args d e s r many few is number h = indexed t args (get_or args 0 d) s r (pair_is args d e many few ∙ ap (λ x. get_or args 0 d ∷ x ∷ []) is) number h

pub not_vector : (t : Table) (n : ℕ) (letters : List ℕ) (args : List ShadeType) → ((m : ℕ) (s : Scalar) → args ≡ type.Vector m s ∷ [] → ⊥) → Answers (SwizzleGives t n letters args) None
not_vector t n letters args none = answers_none (SwizzleGives t n letters args) (λ ty g. none g.0.0 g.0.1 g.0.5)

pub other_count : (t : Table) (n : ℕ) (letters : List ℕ) (args : List ShadeType) → ((2 ≤ n) × (n ≤ 4) → ⊥) → Answers (SwizzleGives t n letters args) None
other_count t n letters args none = answers_none (SwizzleGives t n letters args) (λ ty g. none (g.0.2, g.0.3))

same_vector : (args : List ShadeType) (m : ℕ) (s : Scalar) (k : ℕ) (x : Scalar) → args ≡ type.Vector m s ∷ [] → args ≡ type.Vector k x ∷ [] → (m ≡ k) × (s ≡ x)
same_vector args m s k x e g =
    let first : type.Vector m s ≡ type.Vector k x = ap (λ l. get_or l 0 (type.Vector m s)) (sym e ∙ g) in (cc, cc)

pub past_parts : (t : Table) (n : ℕ) (letters : List ℕ) (args : List ShadeType) (m : ℕ) (s : Scalar) → args ≡ type.Vector m s ∷ [] → ¬ All (λ k. k < m) (take n letters) → Answers (SwizzleGives t n letters args) None
past_parts t n letters args m s e unlike = answers_none (SwizzleGives t n letters args) (λ ty g.
    unlike (subst (λ count. All (λ k. k < count) (take n letters)) (sym (same_vector args m s g.0.0 g.0.1 e g.0.5).0) g.0.4))

pub swizzled : (t : Table) (n : ℕ) (letters : List ℕ) (args : List ShadeType) (m : ℕ) (s : Scalar) (r : Option ShadeType) → args ≡ type.Vector m s ∷ [] → 2 ≤ n → n ≤ 4 → All (λ k. k < m) (take n letters) → Answers (IsThere t (type.Vector n s)) r
    → Answers (SwizzleGives t n letters args) r
swizzled t n letters args m s r e many few below h =
    answers_as (IsThere t (type.Vector n s)) (SwizzleGives t n letters args) r (λ ty. (
      λ w. ((m, s, many, few, below, e, ap Some w.0), w.1),
      λ g. (some_same ty (type.Vector n g.0.1) g.0.6 ∙ ap (type.Vector n) (sym (same_vector args m s g.0.0 g.0.1 e g.0.5).1), g.1),
    )) h

-- ---- operations

pub no_rule : (t : Table) (o : Op) (args : List ShadeType) → IsSound t → All (IsHeld t) args → Answers (RuleGives t (rule_of o) args) None → Answers (Gives t o args) None
no_rule t o args sound held none =
    answers_none (Gives t o args) (λ ty g. nowhere (RuleGives t (rule_of o) args) ty none ((alike t o args ty sound held g.2).0 (g.0, g.1), g.2.held))

pub unheld_rule : (t : Table) (o : Op) (args : List ShadeType) (found : ShadeType) (id : TypeId) → IsSound t → All (IsHeld t) args → Answers (RuleGives t (rule_of o) args) (Some found) → type_at t id ≡ Some found → ¬ NamesHeld t id → Answers (Gives t o args) None
unheld_rule t o args found id sound held gives at none =
    answers_none (Gives t o args) (λ ty g.
    let same : found ≡ ty = only (RuleGives t (rule_of o) args) found ty gives ((alike t o args ty sound held g.2).0 (g.0, g.1), g.2.held) in
    none (found, at, subst (IsConstructible t) (sym same) g.2.constructible))

pub rule_held : (t : Table) (o : Op) (args : List ShadeType) (found : ShadeType) (id : TypeId) → IsSound t → All (IsHeld t) args → Answers (RuleGives t (rule_of o) args) (Some found) → type_at t id ≡ Some found → NamesHeld t id → Answers (Gives t o args) (Some found)
rule_held t o args found id sound held gives at names =
    let own : IsHeld t found = record { held = there t id found at; constructible = subst (IsConstructible t) (some_same names.0 found (sym names.1 ∙ at)) names.2 } in
    let taken = (alike t o args found sound held own).1 (holds (RuleGives t (rule_of o) args) found gives).0 in
    answers_one (Gives t o args) found (taken.0, taken.1, own) (λ ty g. only (RuleGives t (rule_of o) args) found ty gives ((alike t o args ty sound held g.2).0 (g.0, g.1), g.2.held))

-- ---- the statement

pub no_operands : (c : ContextView) (o : Op) (operands : List Operand) → Answers (HaveTypes c operands) None → Answers (FitsPlain c (Set o operands)) None
no_operands c o operands none = answers_none (FitsPlain c (Set o operands)) (λ r h. nowhere (HaveTypes c operands) h.1.0 none h.1.1)

pub no_result : (c : ContextView) (o : Op) (operands : List Operand) (types : List ShadeType) → Answers (HaveTypes c operands) (Some types) → Answers (Gives c.shader.types o types) None → Answers (FitsPlain c (Set o operands)) None
no_result c o operands types have none = answers_none (FitsPlain c (Set o operands)) (λ r h.
    let same : types ≡ h.1.0 = only (HaveTypes c operands) types h.1.0 have h.1.1 in
    nowhere (Gives c.shader.types o types) h.0 none (subst (λ l. Gives c.shader.types o l h.0) (sym same) (h.1.2, h.1.3, h.1.4)))

pub set_gives : (c : ContextView) (o : Op) (operands : List Operand) (types : List ShadeType) (ty : ShadeType) → Answers (HaveTypes c operands) (Some types) → Answers (Gives c.shader.types o types) (Some ty) → Answers (FitsPlain c (Set o operands)) (Some (Some ty))
set_gives c o operands types ty have gives =
    let g = holds (Gives c.shader.types o types) ty gives in
    answers_one (FitsPlain c (Set o operands)) (Some ty) (ty, (types, holds (HaveTypes c operands) types have, g.0, g.1, g.2), refl)
    (λ r h.
    let same : types ≡ h.1.0 = only (HaveTypes c operands) types h.1.0 have h.1.1 in
    ap Some (only (Gives c.shader.types o types) ty h.0 gives (subst (λ l. Gives c.shader.types o l h.0) (sym same) (h.1.2, h.1.3, h.1.4))) ∙ sym h.2)
