-- Shaders of the first form: their control, and that they are ready.
use Rattle.std.proofs.Common.{◌≡◌, refl, sym, ◌∙◌, ap, ap₂, subst, ℕ, zero, suc, ◌+◌, ◌*◌, ◌<◌, ◌≤◌, ◌&&◌, length, arith, ◌⊎◌, inl, inr, true, false, List, [], ◌∷◌, ◌++◌, map, Option, Some, None}
use Rattle.std.specs.Prelude.{◌==◌, slice_get}
use Rattle.std.proofs.lemmas.Bool.{eq-eqb}
use Rattle.std.proofs.lemmas.List.{append_assoc, append-nil, length-append}
use Rattle.shade_base.specs.declared.place.Place.{Place}
use Rattle.shade_base.specs.declared.severity.Severity.{Severity}
use Rattle.shade_base.specs.declared.severity.Severity.TheVariants.{Error, Off}
use Rattle.shade_values.specs.declared.op.Op.{Op}
use Rattle.shade_values.specs.declared.op.Op.TheVariants.{Less}
use Rattle.shade_values.specs.declared.types.Space.{Space}
use Rattle.shade_values.specs.declared.types.Space.TheVariants.{Workgroup}
use Rattle.shade_core.specs.declared.statement.Operand.{Operand}
use Rattle.shade_core.specs.declared.statement.Operand.TheVariants as operand
use Rattle.shade_core.specs.declared.statement.Act.TheVariants as act
use Rattle.shade_core.specs.declared.statement.Act.TheVariants.{outs-Set, outs-Barrier, outs-If, outs-Return}
use Rattle.shade_core.specs.declared.statement.CoreStatement.{CoreStatement}
use Rattle.shade_core.specs.declared.module.CoreFunction.{CoreFunction}
use Rattle.shade_core.specs.declared.module.CoreModule.{CoreModule}
use Rattle.shade_core.specs.Code.{Plain, Set, Barrier, Jump, Return, Code, done, plain, jump, branch, before_all, act_before, act_code, statement_code, code_of}
use Rattle.shade_core.specs.Control.{HasNoBehaviourFault}
use Rattle.shade_core.specs.Rules.{have_rules, has_rules, all_have_rules}
use Rattle.shade_core.specs.Standing.{Standing, statements, are_numbered}
use Rattle.shade_core.proofs.CodeLaws.{act_is, statement_is, layer}
use Rattle.shade_graph.specs.Limits.{HasTooManyNodes}
use Rattle.shade_graph.proofs.LimitLaws.{has_room}
use Rattle.shade_verdict.specs.Clean.{HasOff, off_here, off_rest, off_in_one, off_in_two, off_behind}
use Rattle.shade_first.specs.declared.tree.FirstItem.{FirstItem}
use Rattle.shade_first.specs.declared.tree.FirstShader.{FirstShader}
use Rattle.shade_first.specs.Lowering as lower
use Rattle.shade_first.specs.Lowering.{Lowers, function_of, condition, last_return, limit_of}
use Rattle.shade_first.specs.FirstForm.{StandsFor}
use Rattle.shade_first.specs.Laws.{FewStatements}
use Rattle.shade_lane.specs.Lane.{ends_in_return}
use Rattle.shade_group.specs.Group.{entry_runs}
use Rattle.shade_top.specs.Ready.{FirstFormIsReady}
use Rattle.shade_core.proofs.RuleLaws.{no_fault}

-- the control of first-form items before other statements, whose numbers are those from one up to another
pub data Items : ℕ → Code → Code → ℕ → Type 0 where
  none : {n : ℕ} {tail : Code} → Items n tail tail n
  meet : {n m : ℕ} {tail c : Code} → Items (n + 1) tail c m → Items n tail (plain n (Barrier Workgroup Error) c) m
  split : {n end m : ℕ} {limit : Operand} {tail inner c : Code} → Items (n + 2) done inner end → Items end tail c m → Items n tail (plain n (Set Less (operand.Param 0 ∷ (limit ∷ []))) (branch (n + 1) (operand.Temp n) inner done c)) m

set_code : (n : ℕ) (p : Place) (op : Op) (args : List Operand) (rest : Code) → statement_code (record { number = n; place = p; act = act.Set op args }) rest ≡ plain n (Set op args) rest
set_code n p op args rest =
    ap (λ f. f rest) (statement_is (record { number = n; place = p; act = act.Set op args })) ∙ (ap (λ f. f n rest) (act_is (act.Set op args)) ∙ ap (λ y. act_before (layer y) n rest) (outs-Set op args))

barrier_code : (n : ℕ) (p : Place) (space : Space) (severity : Severity) (rest : Code) → statement_code (record { number = n; place = p; act = act.Barrier space severity }) rest ≡ plain n (Barrier space severity) rest
barrier_code n p space severity rest =
    ap (λ f. f rest) (statement_is (record { number = n; place = p; act = act.Barrier space severity })) ∙ (ap (λ f. f n rest) (act_is (act.Barrier space severity)) ∙ ap (λ y. act_before (layer y) n rest) (outs-Barrier space severity))

if_code : (n : ℕ) (p : Place) (cond : Operand) (one two : List CoreStatement) (rest : Code) → statement_code (record { number = n; place = p; act = act.If cond one two }) rest ≡ branch n cond (code_of one) (code_of two) rest
if_code n p cond one two rest =
    ap (λ f. f rest) (statement_is (record { number = n; place = p; act = act.If cond one two })) ∙ (ap (λ f. f n rest) (act_is (act.If cond one two)) ∙ ap (λ y. act_before (layer y) n rest) (outs-If cond one two))

return_code : (n : ℕ) (p : Place) (value : Option Operand) (rest : Code) → statement_code (record { number = n; place = p; act = act.Return value }) rest ≡ jump n (Return value) rest
return_code n p value rest =
    ap (λ f. f rest) (statement_is (record { number = n; place = p; act = act.Return value })) ∙ (ap (λ f. f n rest) (act_is (act.Return value)) ∙ ap (λ y. act_before (layer y) n rest) (outs-Return value))

-- statements before others
abbrev before : List CoreStatement → Code → Code
before statements rest = before_all (map statement_code statements) rest

-- lowered items are items of control
items_of : {is : List FirstItem} {n m : ℕ} {statements : List CoreStatement} → Lowers is n statements m → (rest : Code) → Items n rest (before statements rest) m
items_of (lower.none n) rest = none
items_of (lower.one_barrier n p {ss = ss} {m = m} l) rest = subst (λ c. Items n rest c m) (sym (barrier_code n p Workgroup Error (before ss rest))) (meet (items_of l rest))
items_of (lower.one_branch n p q limit {body = body} {ss = ss} {m = m} inner l) rest =
    let args : List Operand = operand.Param 0 ∷ (limit_of limit ∷ []) in
    let later : Code = before ss rest in
    subst (λ c. Items n rest c m) (sym (ap (λ c. statement_code (condition n q limit) c) (if_code (n + 1) p (operand.Temp n) body [] later) ∙ set_code n q Less args (branch (n + 1) (operand.Temp n) (code_of body) done later)))
    (split (items_of inner done) (items_of l rest))

before_last : (statements : List CoreStatement) (s : CoreStatement) → code_of (statements ++ s ∷ []) ≡ before statements (statement_code s done)
before_last [] s = refl
before_last (x ∷ statements) s = ap (statement_code x) (before_last statements s)

-- the control of a shader's function
pub body_items : (s : FirstShader) (statements : List CoreStatement) (next : ℕ) → Lowers s.items 0 statements next → Items 0 (jump next (Return None) done) (code_of (function_of s statements next).body) next
body_items s statements next l =
    let whole : code_of (function_of s statements next).body ≡ before statements (jump next (Return None) done) = before_last statements (last_return next s.end) ∙ ap (before statements) (return_code next s.end None done) in
    subst (λ c. Items 0 (jump next (Return None) done) c next) (sym whole) (items_of l (jump next (Return None) done))

-- a module with one function has no other
pub only_one : (one f : CoreFunction) (k : ℕ) → slice_get (one ∷ []) k ≡ Some f → f ≡ one
only_one one f zero e = cc
only_one one f (suc k) e = let no_one : ⊥ = cc in absurd no_one

-- ---- no barrier drops its requirement

abbrev OffAct : Plain → Type 0
OffAct (Barrier space Off) = Unit {0}
OffAct _ = ⊥

abbrev OffCases : Code → Type 0
OffCases (plain n act rest) = OffAct act ⊎ HasOff rest
OffCases (branch n cond one two rest) = HasOff one ⊎ (HasOff two ⊎ HasOff rest)
OffCases _ = ⊥

off_cases : {c : Code} → HasOff c → OffCases c
off_cases off_here = inl tt
off_cases (off_rest h) = inr h
off_cases (off_in_one h) = inl h
off_cases (off_in_two h) = inr (inl h)
off_cases (off_behind next h) = inr (inr h)

no_off : {n m : ℕ} {tail c : Code} → Items n tail c m → (HasOff tail → ⊥) → HasOff c → ⊥
no_off none ends h = ends h
no_off (meet i) ends h = elim (off_cases h) [ inl bad ↦ bad | inr behind_ ↦ no_off i ends behind_ ]
no_off (split i j) ends h =
    elim (off_cases h) [ inl bad ↦ bad | inr behind_ ↦ elim (off_cases behind_) [ inl inner ↦ no_off i off_cases inner | inr more ↦ elim more [ inl other ↦ off_cases other | inr rest ↦ no_off j ends rest ] ] ]

-- ---- what the form has, has rules, and the machine runs it

items_rules : {n m : ℕ} {tail c : Code} → Items n tail c m → have_rules tail ≡ true → have_rules c ≡ true
items_rules none h = h
items_rules (meet i) h = items_rules i h
items_rules (split i j) h = ap₂ (λ a b. a && (true && b)) (items_rules i refl) (items_rules j h)

items_end : {n m : ℕ} {tail c : Code} → Items n tail c m → ends_in_return tail ≡ true → ends_in_return c ≡ true
items_end none h = h
items_end (meet i) h = items_end i h
items_end (split i j) h = items_end j h

-- the function of a shader has rules
function_rules : (s : FirstShader) (statements : List CoreStatement) (next : ℕ) → Lowers s.items 0 statements next → has_rules (function_of s statements next) ≡ true
function_rules s statements next l = items_rules (body_items s statements next l) refl

-- ---- its statements are numbered in structure order

numbered_items : {n m : ℕ} {tail c : Code} → Items n tail c m → (more : List Standing) → are_numbered n (statements c ++ more) ≡ are_numbered m (statements tail ++ more)
numbered_items none more = refl
numbered_items (meet {n = n} {c = c} i) more = ap (λ b. b && are_numbered (n + 1) (statements c ++ more)) (eq-eqb n n refl) ∙ numbered_items i more
numbered_items (split {n = n} {end = end} {inner = inner} {c = c} i j) more =
    let flat : (statements inner ++ [] ++ statements c) ++ more ≡ statements inner ++ (statements c ++ more) = append_assoc (statements inner ++ []) (statements c) more ∙ ap (λ xs. xs ++ (statements c ++ more)) (append-nil (statements inner)) in
    ap (λ b. b && ((n + 1 == n + 1) && are_numbered (n + 1 + 1) ((statements inner ++ [] ++ statements c) ++ more))) (eq-eqb n n refl)
    ∙ (ap (λ b. b && are_numbered (n + 1 + 1) ((statements inner ++ [] ++ statements c) ++ more)) (eq-eqb (n + 1) (n + 1) refl)
    ∙ (ap (λ (k : ℕ). are_numbered k ((statements inner ++ [] ++ statements c) ++ more)) (let two : n + 1 + 1 ≡ n + 2 = omega arith in two)
    ∙ (ap (are_numbered (n + 2)) flat ∙ (numbered_items i (statements c ++ more) ∙ numbered_items j more))))

function_numbered : (s : FirstShader) (lowered : List CoreStatement) (next : ℕ) → Lowers s.items 0 lowered next → are_numbered 0 (statements (code_of (function_of s lowered next).body)) ≡ true
function_numbered s lowered next l =
    ap (are_numbered 0) (sym (append-nil (statements (code_of (function_of s lowered next).body)))) ∙ (numbered_items (body_items s lowered next l) [] ∙ ap (λ b. b && true) (eq-eqb next next refl))

-- ---- they are few

count_items : {n m : ℕ} {tail c : Code} → Items n tail c m → length (statements c) + n ≡ m + length (statements tail)
count_items {n = n} {tail = tail} none = omega arith
count_items (meet i) = omega (arith, count_items i)
count_items (split {inner = inner} {c = c} i j) =
    omega (arith, length-append (statements inner ++ []) (statements c), ap length (append-nil (statements inner)), count_items i, count_items j)

function_small : (s : FirstShader) (lowered : List CoreStatement) (next : ℕ) → Lowers s.items 0 lowered next → next < 4096 → HasTooManyNodes (function_of s lowered next) → ⊥
function_small s lowered next l lt =
    let count : length (statements (code_of (function_of s lowered next).body)) + 0 ≡ next + 1 = count_items (body_items s lowered next l) in
    let room : 6 + 1 + 4 * length (statements (code_of (function_of s lowered next).body)) ≤ 1048576 = omega (arith, count, lt) in
    has_room (function_of s lowered next) room

-- ---- a shader of the first form is ready

-- what holds of the function of a shader, holds of each of its functions
of_each : (P : CoreFunction → Type 0) (text : List ℕ) (shader : CoreModule) → (stands : StandsFor text shader) → P (function_of stands.shader stands.stands.statements stands.stands.next) → (k : ℕ) (f : CoreFunction) → slice_get shader.functions k ≡ Some f → P f
of_each P text shader stands h k f at =
    let one : CoreFunction = function_of stands.shader stands.stands.statements stands.stands.next in
    subst P (sym (only_one one f k (sym (ap (λ fs. slice_get fs k) stands.stands.functions) ∙ at))) h

pub rules_of : (text : List ℕ) (shader : CoreModule) → StandsFor text shader → all_have_rules shader.functions ≡ true
rules_of text shader stands =
    ap all_have_rules stands.stands.functions ∙ ap (λ b. b && true) (function_rules stands.shader stands.stands.statements stands.stands.next stands.stands.lowered)

pub ready : FewStatements → FirstFormIsReady
ready few text shader stands =
    let s : FirstShader = stands.shader in
    let one : CoreFunction = function_of s stands.stands.statements stands.stands.next in
    let has : has_rules one ≡ true = function_rules s stands.stands.statements stands.stands.next stands.stands.lowered in
    let least : 1 ≤ s.size = stands.spells.spelled.lanes.least in
    let most : s.size ≤ 256 = stands.spells.spelled.lanes.most in
    let body : entry_runs (Some one) = (omega arith, omega arith, has, items_end (body_items s stands.stands.statements stands.stands.next stands.stands.lowered) refl) in
    record {
      rules = rules_of text shader stands;
      numbered = of_each (λ f. are_numbered 0 (statements (code_of f.body)) ≡ true) text shader stands (function_numbered s stands.stands.statements stands.stands.next stands.stands.lowered);
      rootless = stands.stands.roots;
      few = omega (arith, ap length stands.stands.functions);
      small = λ large. of_each (λ f. HasTooManyNodes f → ⊥) text shader stands
          (function_small s stands.stands.statements stands.stands.next stands.stands.lowered (omega (arith, few text shader stands, stands.spells.short)))
          large.number large.function large.numbered large.many;
      runs = record { body = subst (λ (o : Option CoreFunction). entry_runs o) (sym (ap (λ fs. slice_get fs 0) stands.stands.functions)) body };
    }

-- no function of a shader drops a requirement
pub none_off : (text : List ℕ) (shader : CoreModule) → StandsFor text shader → (k : ℕ) (f : CoreFunction) → slice_get shader.functions k ≡ Some f → HasOff (code_of f.body) → ⊥
none_off text shader stands = of_each (λ f. HasOff (code_of f.body) → ⊥) text shader stands (no_off (body_items stands.shader stands.stands.statements stands.stands.next stands.stands.lowered) off_cases)

-- no function of a shader has a fault of behaviour
pub none_faulty : (text : List ℕ) (shader : CoreModule) → StandsFor text shader → (k : ℕ) (f : CoreFunction) → slice_get shader.functions k ≡ Some f → HasNoBehaviourFault f
none_faulty text shader stands =
    let one : CoreFunction = function_of stands.shader stands.stands.statements stands.stands.next in
    of_each HasNoBehaviourFault text shader stands (no_fault one (function_rules stands.shader stands.stands.statements stands.stands.next stands.stands.lowered) refl)
