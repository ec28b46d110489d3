-- What statements take and give.
use Rattle.std.proofs.Common.{◌≡◌, refl, sym, ap, subst, ◌∙◌, Bool, true, false, ℕ, ◌+◌, ◌<◌, ◌≤◌, List, length, get_or, take, map, Option, Some, None, arith}
use Rattle.std.specs.Prelude.{◌↔◌, All, Contains, IfOk, IsTrue, Result, slice_get}
use Rattle.std.proofs.lemmas.List.{get_or-map, length-map, take_all}
use Rattle.std.proofs.lemmas.List.Elements.{All-get_or, All-more}
use Rattle.shade_base.specs.declared.severity.Severity.{Severity}
use Rattle.shade_values.specs.declared.types.Access.TheVariants.{ReadWrite}
use Rattle.shade_values.specs.declared.types.Scalar.{Scalar}
use Rattle.shade_values.specs.declared.types.Scalar.TheVariants as scalar
use Rattle.shade_values.specs.declared.op.Op.{Op}
use Rattle.shade_values.specs.declared.types.Space.{Space}
use Rattle.shade_values.specs.declared.types.Space.TheVariants as space
use Rattle.shade_values.specs.declared.types.ShadeType.{ShadeType}
use Rattle.shade_values.specs.declared.types.ShadeType.TheVariants as type
use Rattle.shade_values.specs.declared.types.TypeId.{TypeId}
use Rattle.shade_values.specs.Table.{Table}
use Rattle.shade_core.specs.declared.module.CoreFunction.{CoreFunction}
use Rattle.shade_core.specs.declared.statement.Argument.{Argument}
use Rattle.shade_core.specs.declared.statement.Operand.{Operand}
use Rattle.shade_core.specs.declared.statement.View.{View}
use Rattle.shade_core.specs.Code.{Atomic, Barrier, Break, Continue, Declare, Length, Load, Return, Set, Store, UniformLoad}
use Rattle.shade_core.specs.Fits.{DeclareFits, IsKey, ResultIs, ReturnFits}
use Rattle.shade_core.specs.declared.statement.SwitchPart.{SwitchPart}
use Rattle.shade_core.specs.declared.statement.Act.{Act, Act-F, out-Act}
use Rattle.shade_core.specs.declared.statement.Act.TheOpen as act
use Rattle.shade_core.specs.declared.statement.Act.TheVariants as variant
use Rattle.shade_core.specs.declared.statement.CoreStatement.{CoreStatement}
use Rattle.shade_core.specs.Standing.{Case, Head, act_head, branches, calls, case_of, does, head_of, jumps, loops, switches}
use Rattle.shade_core.specs.Types.{type_at}
use Rattle.shade_core.specs.Views.{IsIndex, Origin}
use Rattle.shade_typed.specs.Answers.{Answers}
use Rattle.shade_typed.specs.declared.context.Typed.{Typed}
use Rattle.shade_typed.specs.Contexts.{ContextView, IsThere, fit_in}
use Rattle.shade_typed.specs.Fitting.{Calls, Declares, GivesNothing, Returns, Stores, Switches}
use Rattle.shade_typed.specs.Places.{AllSuit, HasType, HasWanted, Names, NamesValue}
use Rattle.shade_typed.specs.Sets.{FitsHead, FitsPlain}
use Rattle.shade_typed.proofs.AnswerLaws.{answers_as, answers_none, answers_one, holds, nowhere, only, some_same, none_some}

-- ---- loads

pub no_load : (c : ContextView) (view : View) → Answers (NamesValue c view) None → Answers (FitsPlain c (Load view)) None
no_load c view none = answers_none (FitsPlain c (Load view)) (λ r h. nowhere (NamesValue c view) h.0 none h.1)

pub load : (c : ContextView) (view : View) (o : Origin) → Answers (NamesValue c view) (Some o) → Answers (FitsPlain c (Load view)) (Some (Some o.type))
load c view o names =
    answers_one (FitsPlain c (Load view)) (Some o.type) (o, holds (NamesValue c view) o names, refl)
    (λ r h. ap (λ p. Some p.type) (only (NamesValue c view) o h.0 names h.1) ∙ sym h.2)

pub no_uniform : (c : ContextView) (view : View) → Answers (NamesValue c view) None → (severity : Severity) → Answers (FitsPlain c (UniformLoad view severity)) None
no_uniform c view none severity = answers_none (FitsPlain c (UniformLoad view severity)) (λ r h. nowhere (NamesValue c view) h.0 none h.1)

pub other_memory : (c : ContextView) (view : View) (o : Origin) → Answers (NamesValue c view) (Some o) → ¬ (o.space ≡ space.Workgroup) → (severity : Severity) → Answers (FitsPlain c (UniformLoad view severity)) None
other_memory c view o names other severity =
    answers_none (FitsPlain c (UniformLoad view severity)) (λ r h. other (ap (λ p. p.space) (only (NamesValue c view) o h.0 names h.1) ∙ h.2))

pub uniform : (c : ContextView) (view : View) (o : Origin) → Answers (NamesValue c view) (Some o) → o.space ≡ space.Workgroup → (severity : Severity) → Answers (FitsPlain c (UniformLoad view severity)) (Some (Some o.type))
uniform c view o names shared severity =
    answers_one (FitsPlain c (UniformLoad view severity)) (Some o.type) (o, holds (NamesValue c view) o names, shared, refl)
    (λ r h. ap (λ p. Some p.type) (only (NamesValue c view) o h.0 names h.1) ∙ sym h.3)

-- ---- lengths

pub no_length : (c : ContextView) (view : View) → Answers (Names c view) None → Answers (FitsPlain c (Length view)) None
no_length c view none = answers_none (FitsPlain c (Length view)) (λ r h. nowhere (Names c view) h.0 none h.2)

pub not_endless : (c : ContextView) (view : View) (o : Origin) → Answers (Names c view) (Some o) → ((element : TypeId) → o.type ≡ type.RuntimeArray element → ⊥) → Answers (FitsPlain c (Length view)) None
not_endless c view o names other = answers_none (FitsPlain c (Length view)) (λ r h. other h.1 (ap (λ p. p.type) (only (Names c view) o h.0 names h.2) ∙ h.3))

pub no_number : (c : ContextView) (view : View) → Answers (IsThere c.shader.types (type.Plain scalar.U32)) None → Answers (FitsPlain c (Length view)) None
no_number c view none = answers_none (FitsPlain c (Length view)) (λ r h. nowhere (IsThere c.shader.types (type.Plain scalar.U32)) (type.Plain scalar.U32) none (refl, h.4))

pub length_is : (c : ContextView) (view : View) (o : Origin) (element : TypeId) (found : ShadeType) → Answers (Names c view) (Some o) → o.type ≡ type.RuntimeArray element → Answers (IsThere c.shader.types (type.Plain scalar.U32)) (Some found)
    → Answers (FitsPlain c (Length view)) (Some (Some found))
length_is c view o element found names endless there =
    let h = holds (IsThere c.shader.types (type.Plain scalar.U32)) found there in
    answers_one (FitsPlain c (Length view)) (Some found) (o, element, holds (Names c view) o names, endless, subst (Contains c.shader.types.types) h.0 h.1, ap Some h.0) (λ r w. ap Some h.0 ∙ sym w.5)

-- ---- declarations

pub undeclared : (c : ContextView) (n : ℕ) (value : Option Operand) → slice_get c.function.locals n ≡ None → ¬ Declares c n value
undeclared c n value none h = subst (λ l. DeclareFits c.shader c.function c.values l value) none h

pub declared_zero : (c : ContextView) (n : ℕ) (id : TypeId) (value : Option Operand) → slice_get c.function.locals n ≡ Some id → value ≡ None → Declares c n value
declared_zero c n id value at none = subst (λ l. DeclareFits c.shader c.function c.values l value) (sym at) (subst (DeclareFits c.shader c.function c.values (Some id)) (sym none) tt)

pub declared_as : (c : ContextView) (n : ℕ) (id : TypeId) (value : Option Operand) (operand : Operand) (b : Bool) → slice_get c.function.locals n ≡ Some id → value ≡ Some operand → IsTrue b ↔ HasWanted c operand (type_at c.shader.types id) → IsTrue b ↔ Declares c n value
declared_as c n id value operand b at is h = subst (λ l. IsTrue b ↔ DeclareFits c.shader c.function c.values l value) (sym at) (subst (λ v. IsTrue b ↔ DeclareFits c.shader c.function c.values (Some id) v) (sym is) h)

-- ---- stores

pub no_store : (c : ContextView) (view : View) (value : Operand) → Answers (NamesValue c view) None → ¬ Stores c view value
no_store c view value none h = nowhere (NamesValue c view) h.0 none h.1

pub read_only : (c : ContextView) (view : View) (value : Operand) (o : Origin) → Answers (NamesValue c view) (Some o) → ¬ (o.access ≡ ReadWrite) → ¬ Stores c view value
read_only c view value o names other h = other (ap (λ p. p.access) (only (NamesValue c view) o h.0 names h.1) ∙ h.2)

pub store_as : (c : ContextView) (view : View) (value : Operand) (o : Origin) (b : Bool) → Answers (NamesValue c view) (Some o) → o.access ≡ ReadWrite → IsTrue b ↔ HasType c value o.type → IsTrue b ↔ Stores c view value
store_as c view value o b names writes h = (
  λ t. (o, holds (NamesValue c view) o names, writes, h.0 t),
  λ s. h.1 (subst (λ p. HasType c value p.type) (sym (only (NamesValue c view) o s.0 names s.1)) s.3),
)

-- ---- returns

pub returned_none : (c : ContextView) (value : Option Operand) (b : Bool) → c.function.result ≡ None → IsTrue b ↔ (value ≡ None) → IsTrue b ↔ Returns c value
returned_none c None b none h = subst (λ r. IsTrue b ↔ ReturnFits c.shader c.function c.values None r) (sym none) (λ t. tt, λ w. h.1 refl)
returned_none c (Some operand) b none h = subst (λ r. IsTrue b ↔ ReturnFits c.shader c.function c.values (Some operand) r) (sym none) (λ t. none_some operand (sym (h.0 t)), λ w. absurd w)

pub returned_empty : (c : ContextView) (id : TypeId) (value : Option Operand) → c.function.result ≡ Some id → value ≡ None → ¬ Returns c value
returned_empty c id value is none h = subst (λ v. ReturnFits c.shader c.function c.values v (Some id)) none (subst (ReturnFits c.shader c.function c.values value) is h)

pub returned_as : (c : ContextView) (id : TypeId) (value : Option Operand) (operand : Operand) (b : Bool) → c.function.result ≡ Some id → value ≡ Some operand → IsTrue b ↔ HasWanted c operand (type_at c.shader.types id) → IsTrue b ↔ Returns c value
returned_as c id value operand b is e h = subst (λ r. IsTrue b ↔ ReturnFits c.shader c.function c.values value r) (sym is) (subst (λ v. IsTrue b ↔ ReturnFits c.shader c.function c.values v (Some id)) (sym e) h)

-- ---- switches

pub no_selector : (c : ContextView) (selector : Operand) (cases : List Case) → Answers (HasType c selector) None → ¬ Switches c selector cases
no_selector c selector cases none h = nowhere (HasType c selector) (type.Plain h.0) none h.1

pub other_selector : (c : ContextView) (selector : Operand) (cases : List Case) (ty : ShadeType) → Answers (HasType c selector) (Some ty) → ((s : Scalar) → ty ≡ type.Plain s → ⊥) → ¬ Switches c selector cases
other_selector c selector cases ty is other h = other h.0 (only (HasType c selector) ty (type.Plain h.0) is h.1)

plain_same : (s x : Scalar) → type.Plain s ≡ type.Plain x → s ≡ x
plain_same s x e = cc

pub no_index : (c : ContextView) (selector : Operand) (cases : List Case) (ty : ShadeType) → Answers (HasType c selector) (Some ty) → ¬ IsIndex ty → ¬ Switches c selector cases
no_index c selector cases ty is unlike h = unlike (subst IsIndex (sym (only (HasType c selector) ty (type.Plain h.0) is h.1)) h.2)

pub switch_as : (c : ContextView) (selector : Operand) (cases : List Case) (s : Scalar) (b : Bool) → Answers (HasType c selector) (Some (type.Plain s)) → IsIndex (type.Plain s) → IsTrue b ↔ All (λ case. All (IsKey s) case.keys) cases → IsTrue b ↔ Switches c selector cases
switch_as c selector cases s b is index h = (
  λ t. (s, holds (HasType c selector) (type.Plain s) is, index, h.0 t),
  λ w. h.1 (subst (λ x. All (λ case. All (IsKey x) case.keys) cases) (sym (plain_same s w.0 (only (HasType c selector) (type.Plain s) (type.Plain w.0) is w.1))) w.3),
)

-- the keys of a part, among those of all
part_at : (parts : List SwitchPart) (i : ℕ) (p : SwitchPart) (e : Case) → i < length parts → p ≡ get_or parts i p → get_or (map case_of parts) i e ≡ case_of p
part_at parts i p e lt is = get_or-map case_of parts i p e lt ∙ ap case_of (sym is)

abbrev HasKeys : Scalar → Case → Type 0
HasKeys s case = All (IsKey s) case.keys

pub keys_more : (s : Scalar) (parts : List SwitchPart) (i : ℕ) (p : SwitchPart) → i < length parts → p ≡ get_or parts i p → HasKeys s (case_of p) → All (HasKeys s) (take i (map case_of parts)) → All (HasKeys s) (take (i + 1) (map case_of parts))
keys_more s parts i p lt is keys so_far =
    All-more (HasKeys s) (map case_of parts) i (case_of p) (omega (arith, lt, length-map parts case_of)) so_far (subst (HasKeys s) (sym (part_at parts i p (case_of p) lt is)) keys)

pub keys_none : (s : Scalar) (parts : List SwitchPart) (i : ℕ) (p : SwitchPart) → i < length parts → p ≡ get_or parts i p → ¬ HasKeys s (case_of p) → ¬ All (HasKeys s) (map case_of parts)
keys_none s parts i p lt is none all =
    none (subst (HasKeys s) (part_at parts i p (case_of p) lt is) (All-get_or (HasKeys s) (map case_of parts) i (case_of p) (omega (arith, lt, length-map parts case_of)) all))

pub keys_all : (s : Scalar) (parts : List SwitchPart) (i : ℕ) → length parts ≤ i → All (HasKeys s) (take i (map case_of parts)) → All (HasKeys s) (map case_of parts)
keys_all s parts i le so_far = subst (All (HasKeys s)) (take_all i (map case_of parts) (omega (arith, le, length-map parts case_of))) so_far

-- ---- calls

pub no_callee : (c : ContextView) (n : ℕ) (arguments : List Argument) → slice_get c.shader.functions n ≡ None → Answers (Calls c n arguments) None
no_callee c n arguments none = answers_none (Calls c n arguments) (λ r h. none_some h.0 (sym none ∙ h.1))

pub entry_called : (c : ContextView) (n : ℕ) (arguments : List Argument) (g : CoreFunction) → slice_get c.shader.functions n ≡ Some g → ¬ (g.entry ≡ None) → Answers (Calls c n arguments) None
entry_called c n arguments g at entry = answers_none (Calls c n arguments) (λ r h. entry (ap (λ f. f.entry) (some_same g h.0 (sym at ∙ h.1)) ∙ h.2))

pub unsuited : (c : ContextView) (n : ℕ) (arguments : List Argument) (g : CoreFunction) → slice_get c.shader.functions n ≡ Some g → ¬ AllSuit c arguments g.params → Answers (Calls c n arguments) None
unsuited c n arguments g at unlike = answers_none (Calls c n arguments) (λ r h. unlike (subst (λ f. AllSuit c arguments f.params) (sym (some_same g h.0 (sym at ∙ h.1))) h.3))

pub call_gives : (c : ContextView) (n : ℕ) (arguments : List Argument) (g : CoreFunction) (fit : Option (Option ShadeType)) → slice_get c.shader.functions n ≡ Some g → g.entry ≡ None → AllSuit c arguments g.params → Answers (ResultIs c.shader.types g.result) fit
    → Answers (Calls c n arguments) fit
call_gives c n arguments g fit at plain suit result =
    answers_as (ResultIs c.shader.types g.result) (Calls c n arguments) fit (λ r. (
      λ w. (g, at, plain, suit, w),
      λ h. subst (λ f. ResultIs c.shader.types f.result r) (sym (some_same g h.0 (sym at ∙ h.1))) h.4,
    )) result

pub gives_none : (t : Table) (id : Option TypeId) → id ≡ None → Answers (ResultIs t id) (Some None)
gives_none t id e = subst (λ i. Answers (ResultIs t i) (Some None)) (sym e) (λ r. (λ h. ap Some (sym h), λ s. sym (some_same None r s)))

pub gives_unknown : (t : Table) (id : Option TypeId) (own : TypeId) → id ≡ Some own → type_at t own ≡ None → Answers (ResultIs t id) None
gives_unknown t id own e none = subst (λ i. Answers (ResultIs t i) None) (sym e) (answers_none (ResultIs t (Some own)) (λ r h. none_some h.0 (sym none ∙ h.1)))

pub gives_type : (t : Table) (id : Option TypeId) (own : TypeId) (ty : ShadeType) → id ≡ Some own → type_at t own ≡ Some ty → Answers (ResultIs t id) (Some (Some ty))
gives_type t id own ty e at =
    subst (λ i. Answers (ResultIs t i) (Some (Some ty))) (sym e)
    (answers_one (ResultIs t (Some own)) (Some ty) (ty, at, refl) (λ r h. ap Some (some_same ty h.0 (sym at ∙ h.1)) ∙ sym h.2))

-- ---- statements without a value

pub nothing_given : (b : Bool) → b ≡ true → Answers (GivesNothing b) (Some None)
nothing_given b e r = (λ h. ap Some (sym h.1), λ s. (e, sym (some_same None r s)))

pub nothing_stands : (b : Bool) → b ≡ false → Answers (GivesNothing b) None
nothing_stands b e = answers_none (GivesNothing b) (λ r h. let f : true ≡ false = sym h.0 ∙ e in cc)

pub nothing_as : (b : Bool) (P : Type 0) (fit : Option (Option ShadeType)) → IsTrue b ↔ P → Answers (GivesNothing b) fit → Answers (λ r. P × (r ≡ None)) fit
nothing_as b P fit same h = answers_as (GivesNothing b) (λ r. P × (r ≡ None)) fit (λ r. (λ g. (same.0 g.0, g.1), λ p. (same.1 p.0, p.1))) h

-- ---- a statement by itself

head : (a : Act) (y : Act-F Act CoreStatement SwitchPart) → out-Act a ≡ y → head_of a ≡ act_head y
head a y e = ap act_head e

pub head_Set : (a : Act) (op : Op) (args : List Operand) → a ≡ variant.Set op args → head_of a ≡ does (Set op args)
head_Set a op args e = head a (act.Set op args) (ap out-Act e ∙ variant.outs-Set op args)

pub head_Load : (a : Act) (view : View) → a ≡ variant.Load view → head_of a ≡ does (Load view)
head_Load a view e = head a (act.Load view) (ap out-Act e ∙ variant.outs-Load view)

pub head_Declare : (a : Act) (local : ℕ) (value : Option Operand) → a ≡ variant.Declare local value → head_of a ≡ does (Declare local value)
head_Declare a local value e = head a (act.Declare local value) (ap out-Act e ∙ variant.outs-Declare local value)

pub head_Store : (a : Act) (view : View) (value : Operand) → a ≡ variant.Store view value → head_of a ≡ does (Store view value)
head_Store a view value e = head a (act.Store view value) (ap out-Act e ∙ variant.outs-Store view value)

pub head_Atomic : (a : Act) (op : Op) (view : View) (args : List Operand) → a ≡ variant.Atomic op view args → head_of a ≡ does (Atomic op view args)
head_Atomic a op view args e = head a (act.Atomic op view args) (ap out-Act e ∙ variant.outs-Atomic op view args)

pub head_Call : (a : Act) (n : ℕ) (args : List Argument) → a ≡ variant.Call n args → head_of a ≡ calls n args
head_Call a n args e = head a (act.Call n args) (ap out-Act e ∙ variant.outs-Call n args)

pub head_Barrier : (a : Act) (in_space : Space) (severity : Severity) → a ≡ variant.Barrier in_space severity → head_of a ≡ does (Barrier in_space severity)
head_Barrier a in_space severity e = head a (act.Barrier in_space severity) (ap out-Act e ∙ variant.outs-Barrier in_space severity)

pub head_UniformLoad : (a : Act) (view : View) (severity : Severity) → a ≡ variant.UniformLoad view severity → head_of a ≡ does (UniformLoad view severity)
head_UniformLoad a view severity e = head a (act.UniformLoad view severity) (ap out-Act e ∙ variant.outs-UniformLoad view severity)

pub head_Length : (a : Act) (view : View) → a ≡ variant.Length view → head_of a ≡ does (Length view)
head_Length a view e = head a (act.Length view) (ap out-Act e ∙ variant.outs-Length view)

pub head_If : (a : Act) (cond : Operand) (one two : List CoreStatement) → a ≡ variant.If cond one two → head_of a ≡ branches cond
head_If a cond one two e = head a (act.If cond one two) (ap out-Act e ∙ variant.outs-If cond one two)

pub head_Switch : (a : Act) (selector : Operand) (parts : List SwitchPart) → a ≡ variant.Switch selector parts → head_of a ≡ switches selector (map case_of parts)
head_Switch a selector parts e = head a (act.Switch selector parts) (ap out-Act e ∙ variant.outs-Switch selector parts)

pub head_Loop : (a : Act) (body continuing : List CoreStatement) (leave : Option Operand) → a ≡ variant.Loop body continuing leave → head_of a ≡ loops leave
head_Loop a body continuing leave e = head a (act.Loop body continuing leave) (ap out-Act e ∙ variant.outs-Loop body continuing leave)

pub head_Return : (a : Act) (value : Option Operand) → a ≡ variant.Return value → head_of a ≡ jumps (Return value)
head_Return a value e = head a (act.Return value) (ap out-Act e ∙ variant.outs-Return value)

pub head_Break : (a : Act) → a ≡ variant.Break → head_of a ≡ jumps Break
head_Break a e = head a act.Break (ap out-Act e ∙ variant.outs-Break)

pub head_Continue : (a : Act) → a ≡ variant.Continue → head_of a ≡ jumps Continue
head_Continue a e = head a act.Continue (ap out-Act e ∙ variant.outs-Continue)

-- what a statement with a head gives
pub by_head : (c : ContextView) (a : Act) (h : Head) (fit : Option (Option ShadeType)) → head_of a ≡ h → Answers (FitsHead c h) fit → Answers (FitsHead c (head_of a)) fit
by_head c a h fit e answer = subst (λ x. Answers (FitsHead c x) fit) (sym e) answer

pub by_head_ok : {E : Type 0} → (c : ContextView) (a : Act) (h : Head) (r : Result (Option (Option Typed)) E) → head_of a ≡ h → IfOk r (λ fit. Answers (FitsHead c h) (fit_in fit)) → IfOk r (λ fit. Answers (FitsHead c (head_of a)) (fit_in fit))
by_head_ok c a h r e answer = subst (λ x. IfOk r (λ fit. Answers (FitsHead c x) (fit_in fit))) (sym e) answer

-- what a statement gives that is asked nothing
pub nothing_alone : (fit : Option (Option ShadeType)) → Answers (GivesNothing true) fit → Answers (λ r. r ≡ None) fit
nothing_alone fit h = answers_as (GivesNothing true) (λ r. r ≡ None) fit (λ r. (λ g. g.1, λ e. (refl, e))) h

pub nothing_asked : (fit : Option (Option ShadeType)) → Answers (GivesNothing true) fit → Answers (λ r. Unit {0} × (r ≡ None)) fit
nothing_asked fit h = answers_as (GivesNothing true) (λ r. Unit {0} × (r ≡ None)) fit (λ r. (λ g. (tt, g.1), λ p. (refl, p.1))) h
