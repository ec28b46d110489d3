-- The statements of a list, one after another.
use Rattle.std.proofs.Common.{◌≡◌, refl, sym, ap, ◌∙◌, ℕ, ◌+◌, ◌<◌, List, [], ◌∷◌, ◌++◌, length, get_or, drop, map, append_assoc, Option}
use Rattle.shade_core.specs.declared.statement.Operand.{Operand}
use Rattle.shade_core.specs.declared.statement.Act.{Act, Act-F, out-Act}
use Rattle.shade_core.specs.declared.statement.Act.TheVariants.{If, outs-If, Switch, outs-Switch, Loop, outs-Loop}
use Rattle.shade_core.specs.declared.statement.Act.TheOpen as act
use Rattle.shade_core.specs.declared.statement.CoreStatement.{CoreStatement}
use Rattle.shade_core.specs.declared.statement.SwitchPart.{SwitchPart, out-SwitchPart, fold_out-SwitchPart}
use Rattle.shade_core.specs.Code.{Code, done, parts_from, act_before, statement_before, part_before, act_code, statement_code, part_code, code_of}
use Rattle.shade_core.specs.Standing.{Standing, standing, cases_of, case_of, switches, act_head, by_itself, statements}
use Rattle.shade_core.proofs.CodeLaws.{layer, act_is, statement_is, drop_here}
use Rattle.shade_shape.specs.Within.{within}

-- a part of a switch before other parts
part_is : (q : SwitchPart) (n which : ℕ) (others : Code) → statements (part_code q n which others) ≡ statements (code_of (out-SwitchPart q).body) ++ statements others
part_is q n which others =
    ap (λ f. statements (f n which others)) (fold_out-SwitchPart (ℕ → Code → Code) (Code → Code) (ℕ → ℕ → Code → Code) act_before statement_before part_before q)

-- the numbers of parts do not count
pub parts_same : (parts : List SwitchPart) (n p m q : ℕ) → statements (parts_from n p (map part_code parts)) ≡ statements (parts_from m q (map part_code parts))
parts_same [] n p m q = refl
parts_same (x ∷ parts) n p m q =
    part_is x n p (parts_from n (p + 1) (map part_code parts))
    ∙ (ap (λ b. statements (code_of (out-SwitchPart x).body) ++ b) (parts_same parts n (p + 1) m (q + 1)) ∙ sym (part_is x m q (parts_from m (q + 1) (map part_code parts))))

case_is : (q : SwitchPart) (n which : ℕ) (others : Code) → cases_of (part_code q n which others) ≡ case_of q ∷ cases_of others
case_is q n which others =
    ap (λ f. cases_of (f n which others)) (fold_out-SwitchPart (ℕ → Code → Code) (Code → Code) (ℕ → ℕ → Code → Code) act_before statement_before part_before q)

cases_are : (parts : List SwitchPart) (n p : ℕ) → cases_of (parts_from n p (map part_code parts)) ≡ map case_of parts
cases_are [] n p = refl
cases_are (x ∷ parts) n p = case_is x n p (parts_from n (p + 1) (map part_code parts)) ∙ ap (λ cs. case_of x ∷ cs) (cases_are parts n (p + 1))

-- the first statement, then what is within it, then the others
layer_is : (y : Act-F Act CoreStatement SwitchPart) (n : ℕ) (rest : Code) → statements (act_before (layer y) n rest) ≡ standing n (act_head y) ∷ within (act_before (layer y) 0 done) ++ statements rest
layer_is (act.Set op args) n rest = refl
layer_is (act.Load view) n rest = refl
layer_is (act.Declare local value) n rest = refl
layer_is (act.Store view value) n rest = refl
layer_is (act.Atomic op view args) n rest = refl
layer_is (act.Call function args) n rest = refl
layer_is (act.Barrier space severity) n rest = refl
layer_is (act.UniformLoad view severity) n rest = refl
layer_is (act.Length view) n rest = refl
layer_is (act.If cond one two) n rest = refl
layer_is (act.Switch selector parts) n rest =
    λ i. standing n (switches selector (cases_are parts n 0 i)) ∷ parts_same parts n 0 0 0 i ++ statements rest
layer_is (act.Loop body continuing leave) n rest = refl
layer_is act.Break n rest = refl
layer_is act.Continue n rest = refl
layer_is (act.Return value) n rest = refl

pub statement_first : (s : CoreStatement) (rest : Code) → statements (statement_code s rest) ≡ by_itself s ∷ within (act_code s.act 0 done) ++ statements rest
statement_first s rest =
    ap (λ f. statements (f rest)) (statement_is s)
    ∙ (ap (λ f. statements (f s.number rest)) (act_is s.act)
    ∙ (layer_is (out-Act s.act) s.number rest ∙ ap (λ f. by_itself s ∷ within (f 0 done) ++ statements rest) (sym (act_is s.act))))

pub if_is : (cond : Operand) (one two : List CoreStatement) → within (act_code (If cond one two) 0 done) ≡ statements (code_of one) ++ statements (code_of two)
if_is cond one two = ap (λ f. within (f 0 done)) (act_is (If cond one two)) ∙ ap (λ y. within (act_before (layer y) 0 done)) (outs-If cond one two)

pub loop_is : (body continuing : List CoreStatement) (leave : Option Operand) → within (act_code (Loop body continuing leave) 0 done) ≡ statements (code_of body) ++ statements (code_of continuing)
loop_is body continuing leave = ap (λ f. within (f 0 done)) (act_is (Loop body continuing leave)) ∙ ap (λ y. within (act_before (layer y) 0 done)) (outs-Loop body continuing leave)

pub switch_is : (selector : Operand) (parts : List SwitchPart) → within (act_code (Switch selector parts) 0 done) ≡ statements (parts_from 0 0 (map part_code parts))
switch_is selector parts = ap (λ f. within (f 0 done)) (act_is (Switch selector parts)) ∙ ap (λ y. within (act_before (layer y) 0 done)) (outs-Switch selector parts)

-- one more statement
pub statement_step : (xs : List CoreStatement) (i : ℕ) (x : CoreStatement) (out pushed more all : List Standing) → i < length xs → x ≡ get_or xs i x → pushed ≡ out ++ by_itself x ∷ [] → more ≡ pushed ++ within (act_code x.act 0 done)
    → out ++ statements (code_of (drop i xs)) ≡ all → more ++ statements (code_of (drop (i + 1) xs)) ≡ all
statement_step xs i x out pushed more all lt is p m h =
    let rest = statements (code_of (drop (i + 1) xs)) in
    let inner = within (act_code x.act 0 done) in
    ap (λ l. l ++ rest) (m ∙ ap (λ l. l ++ inner) p)
    ∙ (append_assoc (out ++ by_itself x ∷ []) inner rest ∙ (append_assoc out (by_itself x ∷ []) (inner ++ rest)
    ∙ (ap (λ l. out ++ l) (sym (statement_first x (code_of (drop (i + 1) xs)))) ∙ (ap (λ ys. out ++ statements (code_of ys)) (sym (drop_here xs i x lt is)) ∙ h))))

-- one more part
pub part_step : (xs : List SwitchPart) (i : ℕ) (x : SwitchPart) (out more all : List Standing) → i < length xs → x ≡ get_or xs i x → more ≡ out ++ statements (code_of (out-SwitchPart x).body)
    → out ++ statements (parts_from 0 0 (map part_code (drop i xs))) ≡ all → more ++ statements (parts_from 0 0 (map part_code (drop (i + 1) xs))) ≡ all
part_step xs i x out more all lt is m h =
    let rest = parts_from 0 1 (map part_code (drop (i + 1) xs)) in
    let body = statements (code_of (out-SwitchPart x).body) in
    ap (λ l. l ++ statements (parts_from 0 0 (map part_code (drop (i + 1) xs)))) m
    ∙ (append_assoc out body (statements (parts_from 0 0 (map part_code (drop (i + 1) xs))))
    ∙ (ap (λ l. out ++ (body ++ l)) (parts_same (drop (i + 1) xs) 0 0 0 1)
    ∙ (ap (λ l. out ++ l) (sym (part_is x 0 0 rest)) ∙ (ap (λ ys. out ++ statements (parts_from 0 0 (map part_code ys))) (sym (drop_here xs i x lt is)) ∙ h))))
