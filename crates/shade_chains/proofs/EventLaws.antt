-- The events of a list, one statement after another.
use Rattle.std.proofs.Common.{◌≡◌, refl, sym, ap, ◌∙◌, ℕ, ◌+◌, ◌<◌, List, [], ◌∷◌, ◌++◌, length, get_or, drop, map, append_assoc, Option}
use Rattle.shade_core.specs.declared.statement.Operand.{Operand}
use Rattle.shade_core.specs.declared.statement.Act.{Act, Act-F, out-Act}
use Rattle.shade_core.specs.declared.statement.Act.TheVariants.{If, outs-If, Switch, outs-Switch, Loop, outs-Loop}
use Rattle.shade_core.specs.declared.statement.Act.TheOpen as act
use Rattle.shade_core.specs.declared.statement.CoreStatement.{CoreStatement}
use Rattle.shade_core.specs.declared.statement.SwitchPart.{SwitchPart, out-SwitchPart, fold_out-SwitchPart}
use Rattle.shade_core.specs.Code.{Code, done, parts_from, act_before, statement_before, part_before, act_code, statement_code, part_code, code_of}
use Rattle.shade_core.proofs.CodeLaws.{layer, act_is, statement_is, drop_here}
use Rattle.shade_chains.specs.declared.events.Event.{Event}
use Rattle.shade_chains.specs.Events.{deeper, events, first_events}

-- a part of a switch before other parts
part_is : (loops : ℕ) (q : SwitchPart) (n which : ℕ) (others : Code) → events loops (part_code q n which others) ≡ events loops (code_of (out-SwitchPart q).body) ++ events loops others
part_is loops q n which others =
    ap (λ f. events loops (f n which others)) (fold_out-SwitchPart (ℕ → Code → Code) (Code → Code) (ℕ → ℕ → Code → Code) act_before statement_before part_before q)

-- the numbers of parts do not count
pub parts_same : (loops : ℕ) (parts : List SwitchPart) (n p m q : ℕ) → events loops (parts_from n p (map part_code parts)) ≡ events loops (parts_from m q (map part_code parts))
parts_same loops [] n p m q = refl
parts_same loops (x ∷ parts) n p m q =
    part_is loops x n p (parts_from n (p + 1) (map part_code parts))
    ∙ (ap (λ b. events loops (code_of (out-SwitchPart x).body) ++ b) (parts_same loops parts n (p + 1) m (q + 1)) ∙ sym (part_is loops x m q (parts_from m (q + 1) (map part_code parts))))

-- the first statement, then the others
layer_is : (loops : ℕ) (y : Act-F Act CoreStatement SwitchPart) (n : ℕ) (rest : Code) → events loops (act_before (layer y) n rest) ≡ first_events loops (act_before (layer y) 0 done) ++ events loops rest
layer_is loops (act.Set op args) n rest = refl
layer_is loops (act.Load view) n rest = refl
layer_is loops (act.Declare local value) n rest = refl
layer_is loops (act.Store view value) n rest = refl
layer_is loops (act.Atomic op view args) n rest = refl
layer_is loops (act.Call function args) n rest = refl
layer_is loops (act.Barrier space severity) n rest = refl
layer_is loops (act.UniformLoad view severity) n rest = refl
layer_is loops (act.Length view) n rest = refl
layer_is loops (act.If cond one two) n rest = refl
layer_is loops (act.Switch selector parts) n rest = λ i. parts_same loops parts n 0 0 0 i ++ events loops rest
layer_is loops (act.Loop body continuing leave) n rest = refl
layer_is loops act.Break n rest = refl
layer_is loops act.Continue n rest = refl
layer_is loops (act.Return value) n rest = refl

pub statement_first : (loops : ℕ) (s : CoreStatement) (rest : Code) → events loops (statement_code s rest) ≡ first_events loops (act_code s.act 0 done) ++ events loops rest
statement_first loops s rest =
    ap (λ f. events loops (f rest)) (statement_is s)
    ∙ (ap (λ f. events loops (f s.number rest)) (act_is s.act)
    ∙ (layer_is loops (out-Act s.act) s.number rest ∙ ap (λ f. first_events loops (f 0 done) ++ events loops rest) (sym (act_is s.act))))

pub if_is : (loops : ℕ) (cond : Operand) (one two : List CoreStatement) → first_events loops (act_code (If cond one two) 0 done) ≡ events loops (code_of one) ++ events loops (code_of two)
if_is loops cond one two = ap (λ f. first_events loops (f 0 done)) (act_is (If cond one two)) ∙ ap (λ y. first_events loops (act_before (layer y) 0 done)) (outs-If cond one two)

pub loop_is : (loops : ℕ) (body continuing : List CoreStatement) (leave : Option Operand) → first_events loops (act_code (Loop body continuing leave) 0 done) ≡ events (deeper loops) (code_of body) ++ events (deeper loops) (code_of continuing)
loop_is loops body continuing leave =
    ap (λ f. first_events loops (f 0 done)) (act_is (Loop body continuing leave)) ∙ ap (λ y. first_events loops (act_before (layer y) 0 done)) (outs-Loop body continuing leave)

pub switch_is : (loops : ℕ) (selector : Operand) (parts : List SwitchPart) → first_events loops (act_code (Switch selector parts) 0 done) ≡ events loops (parts_from 0 0 (map part_code parts))
switch_is loops selector parts =
    ap (λ f. first_events loops (f 0 done)) (act_is (Switch selector parts)) ∙ ap (λ y. first_events loops (act_before (layer y) 0 done)) (outs-Switch selector parts)

-- one more statement
pub statement_step : (loops : ℕ) (xs : List CoreStatement) (i : ℕ) (x : CoreStatement) (out more all : List Event) → i < length xs → x ≡ get_or xs i x → more ≡ out ++ first_events loops (act_code x.act 0 done)
    → out ++ events loops (code_of (drop i xs)) ≡ all → more ++ events loops (code_of (drop (i + 1) xs)) ≡ all
statement_step loops xs i x out more all lt is m h =
    let rest = events loops (code_of (drop (i + 1) xs)) in
    let inner = first_events loops (act_code x.act 0 done) in
    ap (λ l. l ++ rest) m
    ∙ (append_assoc out inner rest
    ∙ (ap (λ l. out ++ l) (sym (statement_first loops x (code_of (drop (i + 1) xs)))) ∙ (ap (λ ys. out ++ events loops (code_of ys)) (sym (drop_here xs i x lt is)) ∙ h)))

-- one more part
pub part_step : (loops : ℕ) (xs : List SwitchPart) (i : ℕ) (x : SwitchPart) (out more all : List Event) → i < length xs → x ≡ get_or xs i x → more ≡ out ++ events loops (code_of (out-SwitchPart x).body)
    → out ++ events loops (parts_from 0 0 (map part_code (drop i xs))) ≡ all → more ++ events loops (parts_from 0 0 (map part_code (drop (i + 1) xs))) ≡ all
part_step loops xs i x out more all lt is m h =
    let rest = parts_from 0 1 (map part_code (drop (i + 1) xs)) in
    let body = events loops (code_of (out-SwitchPart x).body) in
    ap (λ l. l ++ events loops (parts_from 0 0 (map part_code (drop (i + 1) xs)))) m
    ∙ (append_assoc out body (events loops (parts_from 0 0 (map part_code (drop (i + 1) xs))))
    ∙ (ap (λ l. out ++ (body ++ l)) (parts_same loops (drop (i + 1) xs) 0 0 0 1)
    ∙ (ap (λ l. out ++ l) (sym (part_is loops x 0 0 rest)) ∙ (ap (λ ys. out ++ events loops (parts_from 0 0 (map part_code ys))) (sym (drop_here xs i x lt is)) ∙ h))))
