-- The statements of the functions of a module, one function after another.
use Rattle.std.proofs.Common.{◌≡◌, refl, sym, ap, subst, ◌∙◌, ℕ, ◌+◌, ◌<◌, ◌≤◌, List, [], ◌∷◌, ◌++◌, length, get_or, take, map, Option, Some, None, inl, inr, arith, length-append}
use Rattle.std.specs.Prelude.{All, min, slice_get}
use Rattle.std.specs.Borrow.{Bor}
use Rattle.std.proofs.lemmas.Bool.{cases_lt}
use Rattle.std.proofs.lemmas.List.{take_all, length-map, get_or-map, get_or_append_left, get_or_push}
use Rattle.std.proofs.lemmas.List.Elements.{All-get_or, All-more}
use Rattle.std.proofs.lemmas.Option.{slice_get_within, slice_get_read}
use Rattle.shade_values.specs.declared.types.TypeId.{TypeId}
use Rattle.shade_values.specs.Table.{Table}
use Rattle.shade_core.specs.declared.module.CoreFunction.{CoreFunction}
use Rattle.shade_core.specs.declared.module.CoreModule.{CoreModule}
use Rattle.shade_core.specs.Code.{code_of}
use Rattle.shade_core.specs.Fits.{IsTyped}
use Rattle.shade_core.specs.declared.statement.Act.{Act}
use Rattle.shade_core.specs.declared.statement.Act.TheVariants.{Switch, outs-Switch}
use Rattle.shade_core.specs.declared.statement.CoreStatement.{CoreStatement}
use Rattle.shade_core.specs.declared.statement.Operand.{Operand}
use Rattle.shade_core.specs.declared.statement.SwitchPart.{SwitchPart}
use Rattle.shade_core.specs.HasShape.{IsBody, SwitchIs}
use Rattle.shade_core.specs.Limits.{local_bytes, value_bytes}
use Rattle.shade_core.specs.Standing.{Standing, switches, act_head, by_itself, case_of, head_of, statements}
use Rattle.shade_core.specs.Views.{ValueTypes}
use Rattle.shade_typed.specs.Answers.{Answers}
use Rattle.shade_typed.specs.Contexts.{value_types}
use Rattle.shade_whole.specs.Bodies.{AreBodies, AreKept, IsFramed, IsKept, kept_bytes}

-- ---- answers

some_same : {A : Type 0} (x y : A) → Some x ≡ Some y → x ≡ y
some_same x y e = cc

none_some : {A : Type 0} (x : A) → None ≡ Some x → ⊥
none_some x e = cc

holds : {A : Type 0} (P : A → Type 0) (x : A) → Answers P (Some x) → P x
holds P x h = (h x).1 refl

only : {A : Type 0} (P : A → Type 0) (x y : A) → Answers P (Some x) → P y → x ≡ y
only P x y h p = some_same x y ((h y).0 p)

nowhere : {A : Type 0} (P : A → Type 0) (x : A) → Answers P None → P x → ⊥
nowhere P x h p = none_some x ((h x).0 p)

-- ---- one function

abbrev Types : CoreModule → CoreFunction → ValueTypes → Type 0
Types shader f values = IsTyped shader f (statements (code_of f.body)) values

pub unframed : (shader : CoreModule) (f : CoreFunction) → ¬ IsFramed f → IsKept shader f None
unframed shader f none values body = none (record { numbered = body.numbered; scoped = body.scoped; switches = body.switches; ends = body.ends })

pub untyped : (shader : CoreModule) (f : CoreFunction) → Answers (Types shader f) None → IsKept shader f None
untyped shader f none values body = nowhere (Types shader f) values none body.typed

pub kept : (shader : CoreModule) (f : CoreFunction) (values : ValueTypes) (bytes : ℕ) → IsFramed f → Answers (Types shader f) (Some values) → bytes ≡ kept_bytes shader f values → IsKept shader f (Some bytes)
kept shader f values bytes framed typed e = (
  values,
  record { numbered = framed.numbered; scoped = framed.scoped; typed = holds (Types shader f) values typed; switches = framed.switches; ends = framed.ends },
  e,
  λ other body. only (Types shader f) values other typed body.typed,
)

-- what is kept, by the ids of the types
pub same_kept : (shader : CoreModule) (t : Table) (f : CoreFunction) (lent ids : List (Option TypeId)) → t ≡ shader.types → lent ≡ ids
    → min 4294967295 (local_bytes t f + value_bytes t (value_types t lent)) ≡ kept_bytes shader f (value_types shader.types ids)
same_kept shader t f lent ids same is = λ i. min 4294967295 (local_bytes (same i) f + value_bytes (same i) (value_types (same i) (is i)))

-- ---- switches among statements that are lent

pub switch_head : (a : Act) (selector : Operand) (parts : List SwitchPart) → a ≡ Switch selector parts → head_of a ≡ switches selector (map case_of parts)
switch_head a selector parts is = ap head_of is ∙ ap act_head (outs-Switch selector parts)

abbrev Lent : Type 0
Lent = List (Bor CoreStatement)

abbrev pub standings : Lent → List Standing
standings listed = map (λ s. by_itself s.now) listed

abbrev pub IsSwitchBy : Standing → Type 0
IsSwitchBy s = SwitchIs s.head

as_many : (listed : Lent) (i : ℕ) → i < length listed → i < length (standings listed)
as_many listed i lt = omega (arith, lt, length-map listed (λ s. by_itself s.now))

item_at : (listed : Lent) (i : ℕ) (x : Bor CoreStatement) (e : Standing) → i < length listed → x ≡ get_or listed i x → get_or (standings listed) i e ≡ by_itself x.now
item_at listed i x e lt is = get_or-map (λ s. by_itself s.now) listed i x e lt ∙ ap (λ s. by_itself s.now) (sym is)

pub switches_more : (listed : Lent) (i : ℕ) (x : Bor CoreStatement) → i < length listed → x ≡ get_or listed i x → SwitchIs (head_of x.now.act) → All IsSwitchBy (take i (standings listed)) → All IsSwitchBy (take (i + 1) (standings listed))
switches_more listed i x lt is one so_far = All-more IsSwitchBy (standings listed) i (by_itself x.now) (as_many listed i lt) so_far (subst IsSwitchBy (sym (item_at listed i x (by_itself x.now) lt is)) one)

pub switches_none : (listed : Lent) (i : ℕ) (x : Bor CoreStatement) → i < length listed → x ≡ get_or listed i x → ¬ SwitchIs (head_of x.now.act) → ¬ All IsSwitchBy (standings listed)
switches_none listed i x lt is none all = none (subst IsSwitchBy (item_at listed i x (by_itself x.now) lt is) (All-get_or IsSwitchBy (standings listed) i (by_itself x.now) (as_many listed i lt) all))

pub switches_all : (listed : Lent) (i : ℕ) → length listed ≤ i → All IsSwitchBy (take i (standings listed)) → All IsSwitchBy (standings listed)
switches_all listed i le so_far = subst (All IsSwitchBy) (take_all i (standings listed) (omega (arith, le, length-map listed (λ s. by_itself s.now)))) so_far

-- ---- all functions

-- what was kept of the first functions
pub record KeptSoFar (shader : CoreModule) (bytes : List ℕ) (i : ℕ) : Type 0 where
  pub long : length bytes ≡ i
  pub lists : List ValueTypes
  pub as_long : length lists ≡ i
  pub bodies : (k : ℕ) (f : CoreFunction) → k < i → slice_get shader.functions k ≡ Some f → IsBody shader f (get_or lists k [])
  pub each : (k : ℕ) (f : CoreFunction) → k < i → slice_get shader.functions k ≡ Some f → (others : ValueTypes) → IsBody shader f others → get_or bytes k 0 ≡ kept_bytes shader f others

pub kept_first : (shader : CoreModule) → KeptSoFar shader [] 0
kept_first shader = record {
  long = refl;
  lists = [];
  as_long = refl;
  bodies = λ k f lt. absurd (omega (arith, lt));
  each = λ k f lt. absurd (omega (arith, lt));
}

last_of : {A : Type 0} (xs : List A) (x d : A) (k : ℕ) → k ≡ length xs → get_or (xs ++ x ∷ []) k d ≡ x
last_of xs x d k e = get_or_push xs x d k (sym e)

pub kept_more : (shader : CoreModule) (bytes : List ℕ) (i : ℕ) (f : CoreFunction) (b : ℕ) → slice_get shader.functions i ≡ Some f → IsKept shader f (Some b) → KeptSoFar shader bytes i → KeptSoFar shader (bytes ++ b ∷ []) (i + 1)
kept_more shader bytes i f b at one before = record {
  long = omega (arith, before.long, length-append bytes (b ∷ []));
  lists = before.lists ++ one.0 ∷ [];
  as_long = omega (arith, before.as_long, length-append before.lists (one.0 ∷ []));
  bodies = λ k g lt here. elim (cases_lt k i) [
    | inl earlier ↦ subst (IsBody shader g) (sym (get_or_append_left before.lists (one.0 ∷ []) [] k (omega (arith, earlier, before.as_long)))) (before.bodies k g earlier here)
    | inr late ↦
        let place : k ≡ i = omega (arith, lt, late) in
        let same : f ≡ g = some_same f g (sym at ∙ (ap (slice_get shader.functions) (sym place) ∙ here)) in
        subst (IsBody shader g) (sym (last_of before.lists one.0 [] k (omega (arith, place, before.as_long)))) (subst (λ h. IsBody shader h one.0) same one.1)
  ];
  each = λ k g lt here others body. elim (cases_lt k i) [
    | inl earlier ↦ get_or_append_left bytes (b ∷ []) 0 k (omega (arith, earlier, before.long)) ∙ before.each k g earlier here others body
    | inr late ↦
        let place : k ≡ i = omega (arith, lt, late) in
        let same : f ≡ g = some_same f g (sym at ∙ (ap (slice_get shader.functions) (sym place) ∙ here)) in
        let alike : one.0 ≡ others = one.3 others (subst (λ h. IsBody shader h others) (sym same) body) in
        last_of bytes b 0 k (omega (arith, place, before.long)) ∙ (one.2 ∙ λ j. kept_bytes shader (same j) (alike j))
  ];
}

kept_nowhere : (shader : CoreModule) (i : ℕ) (f : CoreFunction) → slice_get shader.functions i ≡ Some f → IsKept shader f None → (values : ℕ → ValueTypes) → ¬ AreBodies shader values
kept_nowhere shader i f at none values bodies = none (values i) (bodies i f at)

-- the function at a place of a list of functions that is lent
at_place : (shader : CoreModule) (functions : List CoreFunction) (i : ℕ) (f : CoreFunction) → functions ≡ shader.functions → i < length functions → f ≡ get_or functions i f → slice_get shader.functions i ≡ Some f
at_place shader functions i f same lt is = ap (λ fs. slice_get fs i) (sym same) ∙ slice_get_read functions (length functions) i f refl lt is

pub kept_step : (shader : CoreModule) (functions : List CoreFunction) (bytes longer : List ℕ) (i : ℕ) (f : CoreFunction) (b : ℕ) → functions ≡ shader.functions → i < length functions → f ≡ get_or functions i f
    → IsKept shader f (Some b) → longer ≡ bytes ++ b ∷ [] → KeptSoFar shader bytes i → KeptSoFar shader longer (i + 1)
kept_step shader functions bytes longer i f b same lt is one push_is before =
    subst (λ list. KeptSoFar shader list (i + 1)) (sym push_is) (kept_more shader bytes i f b (at_place shader functions i f same lt is) one before)

pub kept_never : (shader : CoreModule) (functions : List CoreFunction) (i : ℕ) (f : CoreFunction) → functions ≡ shader.functions → i < length functions → f ≡ get_or functions i f
    → IsKept shader f None → (values : ℕ → ValueTypes) → ¬ AreBodies shader values
kept_never shader functions i f same lt is none = kept_nowhere shader i f (at_place shader functions i f same lt is) none

pub kept_all : (shader : CoreModule) (bytes : List ℕ) (i : ℕ) → i ≡ length shader.functions → KeptSoFar shader bytes i → AreKept shader bytes
kept_all shader bytes i e so_far = record {
  long = so_far.long ∙ e;
  values = λ k. get_or so_far.lists k [];
  bodies = λ k f at. so_far.bodies k f (omega (arith, e, slice_get_within shader.functions k f at)) at;
  each = λ others bodies k f at. sym (so_far.each k f (omega (arith, e, slice_get_within shader.functions k f at)) at (others k) (bodies k f at));
}
