-- Lists of statements that have rules: statement by statement, of which parts, and that they have no fault of behaviour.
use Rattle.std.proofs.Common.{◌≡◌, refl, sym, ap, ◌∙◌, Bool, true, false, ◌&&◌, ℕ, ◌+◌, ◌<◌, List, [], ◌∷◌, ◌++◌, length, get_or, drop, Option, None, Some, IsSome}
use Rattle.std.specs.Prelude.{All}
use Rattle.std.proofs.lemmas.List.Elements.{All-nil, All-cons, All-append}
use Rattle.shade_values.specs.declared.types.TypeId.{TypeId}
use Rattle.shade_core.specs.declared.module.CoreFunction.{CoreFunction}
use Rattle.shade_core.specs.declared.control.ControlFault.{ControlFault}
use Rattle.shade_core.specs.declared.statement.Operand.{Operand}
use Rattle.shade_core.specs.declared.statement.CoreStatement.{CoreStatement}
use Rattle.shade_core.specs.declared.statement.SwitchPart.{SwitchPart}
use Rattle.shade_core.specs.declared.statement.Act.{Act, Act-F, out-Act}
use Rattle.shade_core.specs.declared.statement.Act.TheOpen as act
use Rattle.shade_core.specs.declared.statement.Act.TheVariants as variant
use Rattle.shade_core.specs.Code.{Jump, Break, Continue, Return, Code, done, plain, jump, call, branch, switch, loop, no_part, part, act_before, act_code, statement_code, code_of}
use Rattle.shade_core.specs.Control.{jump_fault, faults, HasNoBehaviourFault}
use Rattle.shade_core.specs.Rules.{act_has_rules, jump_has_rules, have_rules, has_rules}
use Rattle.shade_core.proofs.CodeLaws.{layer, act_is, statement_is, drop_here}

-- a statement before others
before_is : (s : CoreStatement) (rest : Code) → statement_code s rest ≡ act_before (layer (out-Act s.act)) s.number rest
before_is s rest = ap (λ f. f rest) (statement_is s) ∙ ap (λ f. f s.number rest) (act_is s.act)

and_true : (b : Bool) → b ≡ (b && true)
and_true true = refl
and_true false = refl

and_assoc : (a b c : Bool) → (a && (b && c)) ≡ ((a && (b && true)) && c)
and_assoc true true c = refl
and_assoc true false c = refl
and_assoc false b c = refl

have_rules_layer : (y : Act-F Act CoreStatement SwitchPart) (n : ℕ) (rest : Code) → have_rules (act_before (layer y) n rest) ≡ (have_rules (act_before (layer y) 0 done) && have_rules rest)
have_rules_layer (act.Set op args) n rest = ap (λ b. b && have_rules rest) (and_true _)
have_rules_layer (act.Load view) n rest = refl
have_rules_layer (act.Declare local value) n rest = refl
have_rules_layer (act.Store view value) n rest = refl
have_rules_layer (act.Atomic op view args) n rest = refl
have_rules_layer (act.Call function args) n rest = refl
have_rules_layer (act.Barrier space severity) n rest = refl
have_rules_layer (act.UniformLoad view severity) n rest = refl
have_rules_layer (act.Length view) n rest = refl
have_rules_layer (act.If cond one two) n rest = and_assoc (have_rules (code_of one)) (have_rules (code_of two)) (have_rules rest)
have_rules_layer (act.Switch selector parts) n rest = refl
have_rules_layer (act.Loop body continuing leave) n rest = refl
have_rules_layer act.Break n rest = refl
have_rules_layer act.Continue n rest = refl
have_rules_layer (act.Return value) n rest = refl

have_rules_before : (s : CoreStatement) (rest : Code) → have_rules (statement_code s rest) ≡ (have_rules (act_code s.act 0 done) && have_rules rest)
have_rules_before s rest = ap have_rules (before_is s rest) ∙ (have_rules_layer (out-Act s.act) s.number rest ∙ ap (λ f. have_rules (f 0 done) && have_rules rest) (sym (act_is s.act)))

-- what is left has rules where a statement and what follows it have
have_rules_at : (xs : List CoreStatement) (i : ℕ) (x : CoreStatement) → i < length xs → x ≡ get_or xs i x → have_rules (code_of (drop i xs)) ≡ (have_rules (act_code x.act 0 done) && have_rules (code_of (drop (i + 1) xs)))
have_rules_at xs i x lt is = ap (λ ys. have_rules (code_of ys)) (drop_here xs i x lt is) ∙ have_rules_before x (code_of (drop (i + 1) xs))

-- one more statement that has rules, and one that has none
pub have_rules_next : (xs : List CoreStatement) (i : ℕ) (x : CoreStatement) (all : Bool) → i < length xs → x ≡ get_or xs i x → have_rules (act_code x.act 0 done) ≡ true → have_rules (code_of (drop i xs)) ≡ all → have_rules (code_of (drop (i + 1) xs)) ≡ all
have_rules_next xs i x all lt is e h = ap (λ b. b && have_rules (code_of (drop (i + 1) xs))) (sym e) ∙ (sym (have_rules_at xs i x lt is) ∙ h)

pub have_rules_never : (xs : List CoreStatement) (i : ℕ) (x : CoreStatement) (all : Bool) → i < length xs → x ≡ get_or xs i x → have_rules (act_code x.act 0 done) ≡ false → have_rules (code_of (drop i xs)) ≡ all → false ≡ all
have_rules_never xs i x all lt is e h = ap (λ b. b && have_rules (code_of (drop (i + 1) xs))) (sym e) ∙ (sym (have_rules_at xs i x lt is) ∙ h)

-- acts with parts: an If has rules where both parts have
pub if_have_rules : (cond : Operand) (one two : List CoreStatement) → have_rules (act_code (variant.If cond one two) 0 done) ≡ (have_rules (code_of one) && have_rules (code_of two))
if_have_rules cond one two = ap (λ f. have_rules (f 0 done)) (act_is (variant.If cond one two)) ∙ (ap (λ y. have_rules (act_before (layer y) 0 done)) (variant.outs-If cond one two) ∙ ap (λ b. have_rules (code_of one) && b) (sym (and_true (have_rules (code_of two)))))

-- ---- what a list that has rules says of its parts

false_true : {A : Type 0} → false ≡ true → A
false_true e = let no_one : ⊥ = cc e in absurd no_one

both : (a b : Bool) → (a && b) ≡ true → (a ≡ true) × (b ≡ true)
both true true e = (refl, refl)
both true false e = false_true e
both false b e = false_true e

-- of its first statement, of the parts of that, and of what follows
abbrev pub RuleParts : Code → Type 0
RuleParts done = Unit {0}
RuleParts (plain n act rest) = (act_has_rules act ≡ true) × (have_rules rest ≡ true)
RuleParts (jump n act rest) = (jump_has_rules act ≡ true) × (have_rules rest ≡ true)
RuleParts (branch n cond one two rest) = (have_rules one ≡ true) × (have_rules two ≡ true) × (have_rules rest ≡ true)
RuleParts (call n g args rest) = ⊥
RuleParts (switch n selector parts rest) = ⊥
RuleParts (loop n body continuing leave rest) = ⊥
RuleParts no_part = ⊥
RuleParts (part n which keys fallback body others) = ⊥

pub rule_parts : (c : Code) → have_rules c ≡ true → RuleParts c
rule_parts done e = tt
rule_parts (plain n act rest) e = both (act_has_rules act) (have_rules rest) e
rule_parts (jump n act rest) e = both (jump_has_rules act) (have_rules rest) e
rule_parts (branch n cond one two rest) e =
    let h : (have_rules one ≡ true) × ((have_rules two && have_rules rest) ≡ true) = both (have_rules one) (have_rules two && have_rules rest) e in
    let k : (have_rules two ≡ true) × (have_rules rest ≡ true) = both (have_rules two) (have_rules rest) h.1 in
    (h.0, k.0, k.1)
rule_parts (call n g args rest) e = false_true e
rule_parts (switch n selector parts rest) e = false_true e
rule_parts (loop n body continuing leave rest) e = false_true e
rule_parts no_part e = false_true e
rule_parts (part n which keys fallback body others) e = false_true e

-- the body of a function that has rules
pub body_rules : (f : CoreFunction) → has_rules f ≡ true → have_rules (code_of f.body) ≡ true
body_rules f e = (both _ (have_rules (code_of f.body)) e).1

-- ---- it has no fault of behaviour

abbrev IsNone : Option ControlFault → Type 0
IsNone fault = fault ≡ None

no_jump_fault : (breaks continues : Bool) (act : Jump) → jump_has_rules act ≡ true → jump_fault breaks continues act ≡ None
no_jump_fault breaks continues (Return value) e = refl
no_jump_fault breaks continues Break e = false_true e
no_jump_fault breaks continues Continue e = false_true e

no_faults : (breaks continues : Bool) (c : Code) → have_rules c ≡ true → All IsNone (faults breaks continues c)
no_faults breaks continues done e = All-nil IsNone
no_faults breaks continues (plain n act rest) e = All-cons IsNone None (faults breaks continues rest) refl (no_faults breaks continues rest (rule_parts (plain n act rest) e).1)
no_faults breaks continues (jump n act rest) e =
    let h : (jump_has_rules act ≡ true) × (have_rules rest ≡ true) = rule_parts (jump n act rest) e in
    All-cons IsNone (jump_fault breaks continues act) (faults breaks continues rest) (no_jump_fault breaks continues act h.0) (no_faults breaks continues rest h.1)
no_faults breaks continues (branch n cond one two rest) e =
    let h : (have_rules one ≡ true) × (have_rules two ≡ true) × (have_rules rest ≡ true) = rule_parts (branch n cond one two rest) e in
    let parts : All IsNone (faults breaks continues one ++ faults breaks continues two) =
    All-append IsNone (faults breaks continues one) (faults breaks continues two) (no_faults breaks continues one h.0) (no_faults breaks continues two h.1) in
    All-cons IsNone None (faults breaks continues one ++ faults breaks continues two ++ faults breaks continues rest) refl
    (All-append IsNone (faults breaks continues one ++ faults breaks continues two) (faults breaks continues rest) parts (no_faults breaks continues rest h.2))
no_faults breaks continues (call n g args rest) e = false_true e
no_faults breaks continues (switch n selector parts rest) e = false_true e
no_faults breaks continues (loop n body continuing leave rest) e = false_true e
no_faults breaks continues no_part e = All-nil IsNone
no_faults breaks continues (part n which keys fallback body others) e = false_true e

none_given : (result : Option TypeId) → result ≡ None → IsSome result → ⊥
none_given None e h = false_true h
none_given (Some id) e h = cc e

-- a function that has rules and gives no result
pub no_fault : (f : CoreFunction) → has_rules f ≡ true → f.result ≡ None → HasNoBehaviourFault f
no_fault f rules none = record { control = no_faults false false (code_of f.body) (body_rules f rules); returns = λ some. absurd (none_given f.result none some) }
