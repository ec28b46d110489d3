-- What one statement before others adds to the list of ways.
use Rattle.std.proofs.Common.{◌≡◌, ℕ, suc, zero, ◌+◌, ◌<◌, ◌≤◌, List, [], ◌∷◌, ◌++◌, length, get_or, drop, map, refl, ap, sym, ◌∙◌, arith, append_assoc}
use Rattle.shade_core.specs.declared.statement.Act.{Act, Act-F, out-Act}
use Rattle.shade_core.specs.declared.statement.Act.TheOpen as act
use Rattle.shade_core.specs.declared.statement.CoreStatement.{CoreStatement}
use Rattle.shade_core.specs.declared.statement.SwitchPart.{SwitchPart, out-SwitchPart, fold_out-SwitchPart}
use Rattle.shade_core.specs.Code.{Code, act_before, statement_before, part_before, parts_from, statement_code, part_code, code_of}
use Rattle.shade_core.proofs.CodeLaws.{layer, act_is, statement_is, drop_here}
use Rattle.shade_flow.specs.declared.point.Point.{Point}
use Rattle.shade_flow.specs.declared.point.Point.TheVariants.{At, Turn}
use Rattle.shade_flow.specs.Flow.{entry}
use Rattle.shade_flow.specs.Steps.{leave_steps, part_begins, steps_of, layer_steps}

layer_entry : (y : Act-F Act CoreStatement SwitchPart) (n : ℕ) (rest : Code) (next : Point) → entry (act_before (layer y) n rest) next ≡ At n
layer_entry (act.Set op args) n rest next = refl
layer_entry (act.Load view) n rest next = refl
layer_entry (act.Declare local value) n rest next = refl
layer_entry (act.Store view value) n rest next = refl
layer_entry (act.Atomic op view args) n rest next = refl
layer_entry (act.Call function args) n rest next = refl
layer_entry (act.Barrier space severity) n rest next = refl
layer_entry (act.UniformLoad view severity) n rest next = refl
layer_entry (act.Length view) n rest next = refl
layer_entry (act.If cond one two) n rest next = refl
layer_entry (act.Switch selector parts) n rest next = refl
layer_entry (act.Loop body continuing leave) n rest next = refl
layer_entry act.Break n rest next = refl
layer_entry act.Continue n rest next = refl
layer_entry (act.Return value) n rest next = refl

pub statement_entry : (s : CoreStatement) (rest : Code) (next : Point) → entry (statement_code s rest) next ≡ At s.number
statement_entry s rest next = ap (λ f. entry (f rest) next) (statement_is s) ∙ (ap (λ f. entry (f s.number rest) next) (act_is s.act) ∙ layer_entry (out-Act s.act) s.number rest next)

-- where the statements from one on begin
pub entry_here : (xs : List CoreStatement) (i : ℕ) (x : CoreStatement) (next : Point) → i < length xs → x ≡ get_or xs i x → At x.number ≡ entry (code_of (drop i xs)) next
entry_here xs i x next lt is = sym (ap (λ ys. entry (code_of ys) next) (drop_here xs i x lt is) ∙ statement_entry x (code_of (drop (i + 1) xs)) next)

drop_all : (xs : List CoreStatement) (i : ℕ) → length xs ≤ i → drop i xs ≡ []
drop_all [] zero h = refl
drop_all [] (suc i) h = refl
drop_all (x ∷ xs) zero h = absurd (omega (arith, h))
drop_all (x ∷ xs) (suc i) h = drop_all xs i (omega (arith, h))

pub entry_none : (xs : List CoreStatement) (i : ℕ) (next : Point) → length xs ≤ i → next ≡ entry (code_of (drop i xs)) next
entry_none xs i next h = sym (ap (λ ys. entry (code_of ys) next) (drop_all xs i h))

layer_turn : (y : Act-F Act CoreStatement SwitchPart) (n : ℕ) (rest : Code) (next break continue : Point)
    → steps_of next break continue (act_before (layer y) n rest) ≡ layer_steps (entry rest next) break continue n y ++ steps_of next break continue rest
layer_turn (act.Set op args) n rest next break continue = refl
layer_turn (act.Load view) n rest next break continue = refl
layer_turn (act.Declare local value) n rest next break continue = refl
layer_turn (act.Store view value) n rest next break continue = refl
layer_turn (act.Atomic op view args) n rest next break continue = refl
layer_turn (act.Call function args) n rest next break continue = refl
layer_turn (act.Barrier space severity) n rest next break continue = refl
layer_turn (act.UniformLoad view severity) n rest next break continue = refl
layer_turn (act.Length view) n rest next break continue = refl
layer_turn (act.If cond one two) n rest next break continue =
    ap (λ ys. (At n, entry (code_of one) (entry rest next)) ∷ (At n, entry (code_of two) (entry rest next)) ∷ ys)
    (sym (append_assoc (steps_of (entry rest next) break continue (code_of one)) (steps_of (entry rest next) break continue (code_of two)) (steps_of next break continue rest)))
layer_turn (act.Switch selector parts) n rest next break continue = sym (append_assoc (part_begins n (entry rest next) (parts_from n 0 (map part_code parts))) (steps_of (entry rest next) (entry rest next) continue (parts_from n 0 (map part_code parts))) (steps_of next break continue rest))
layer_turn (act.Loop body continuing leave) n rest next break continue =
    ap (λ ys. (At n, entry (code_of body) (entry (code_of continuing) (Turn n))) ∷ (Turn n, entry (code_of body) (entry (code_of continuing) (Turn n))) ∷ ys)
    (ap (λ ys. leave_steps leave n (entry rest next) ++ ys) (sym (append_assoc inside ends later)) ∙ sym (append_assoc (leave_steps leave n (entry rest next)) (inside ++ ends) later))
  where
    inside : List (Point × Point)
    inside = steps_of (entry (code_of continuing) (Turn n)) (entry rest next) (entry (code_of continuing) (Turn n)) (code_of body)

    ends : List (Point × Point)
    ends = steps_of (Turn n) (entry rest next) (Turn n) (code_of continuing)

    later : List (Point × Point)
    later = steps_of next break continue rest
layer_turn act.Break n rest next break continue = refl
layer_turn act.Continue n rest next break continue = refl
layer_turn (act.Return value) n rest next break continue = refl

pub statement_steps : (s : CoreStatement) (rest : Code) (next break continue : Point)
    → steps_of next break continue (statement_code s rest) ≡ layer_steps (entry rest next) break continue s.number (out-Act s.act) ++ steps_of next break continue rest
statement_steps s rest next break continue =
    ap (λ f. steps_of next break continue (f rest)) (statement_is s) ∙ (ap (λ f. steps_of next break continue (f s.number rest)) (act_is s.act) ∙ layer_turn (out-Act s.act) s.number rest next break continue)

-- one more statement
pub list_step : (xs : List CoreStatement) (i : ℕ) (x : CoreStatement) (out new all : List (Point × Point)) (next break continue after : Point) → i < length xs → x ≡ get_or xs i x
    → after ≡ entry (code_of (drop (i + 1) xs)) next → new ≡ out ++ layer_steps after break continue x.number (out-Act x.act)
    → out ++ steps_of next break continue (code_of (drop i xs)) ≡ all → new ++ steps_of next break continue (code_of (drop (i + 1) xs)) ≡ all
list_step xs i x out new all next break continue after lt is goes e h =
    ap (λ ys. ys ++ steps_of next break continue (code_of (drop (i + 1) xs))) (e ∙ ap (λ (p : Point). out ++ layer_steps p break continue x.number (out-Act x.act)) goes)
    ∙ (append_assoc out (layer_steps (entry (code_of (drop (i + 1) xs)) next) break continue x.number (out-Act x.act)) (steps_of next break continue (code_of (drop (i + 1) xs)))
    ∙ (ap (λ ys. out ++ ys) (sym (statement_steps x (code_of (drop (i + 1) xs)) next break continue)) ∙ (ap (λ ys. out ++ steps_of next break continue (code_of ys)) (sym (drop_here xs i x lt is)) ∙ h)))

part_turn : (q : SwitchPart) (n which : ℕ) (others : Code) (after continue : Point) → steps_of after after continue (part_code q n which others) ≡ steps_of after after continue (code_of (out-SwitchPart q).body) ++ steps_of after after continue others
part_turn q n which others after continue =
    ap (λ f. steps_of after after continue (f n which others)) (fold_out-SwitchPart (ℕ → Code → Code) (Code → Code) (ℕ → ℕ → Code → Code) act_before statement_before part_before q)

-- the numbers of parts say nothing of where control goes
parts_same : (parts : List SwitchPart) (n p q : ℕ) (after continue : Point) → steps_of after after continue (parts_from n p (map part_code parts)) ≡ steps_of after after continue (parts_from n q (map part_code parts))
parts_same [] n p q after continue = refl
parts_same (x ∷ parts) n p q after continue =
    part_turn x n p (parts_from n (p + 1) (map part_code parts)) after continue
    ∙ (ap (λ ys. steps_of after after continue (code_of (out-SwitchPart x).body) ++ ys) (parts_same parts n (p + 1) (q + 1) after continue) ∙ sym (part_turn x n q (parts_from n (q + 1) (map part_code parts)) after continue))

-- one more part
pub part_step : (xs : List SwitchPart) (i : ℕ) (x : SwitchPart) (out new all : List (Point × Point)) (n : ℕ) (after continue : Point) → i < length xs → x ≡ get_or xs i x
    → new ≡ out ++ steps_of after after continue (code_of (out-SwitchPart x).body)
    → out ++ steps_of after after continue (parts_from n 0 (map part_code (drop i xs))) ≡ all → new ++ steps_of after after continue (parts_from n 0 (map part_code (drop (i + 1) xs))) ≡ all
part_step xs i x out new all n after continue lt is e h =
    ap (λ ys. ys ++ steps_of after after continue (parts_from n 0 (map part_code (drop (i + 1) xs)))) e
    ∙ (append_assoc out (steps_of after after continue (code_of (out-SwitchPart x).body)) (steps_of after after continue (parts_from n 0 (map part_code (drop (i + 1) xs))))
    ∙ (ap (λ ys. out ++ (steps_of after after continue (code_of (out-SwitchPart x).body) ++ ys)) (parts_same (drop (i + 1) xs) n 0 1 after continue)
    ∙ (ap (λ ys. out ++ ys) (sym (part_turn x n 0 (parts_from n 1 (map part_code (drop (i + 1) xs))) after continue)) ∙ (ap (λ ys. out ++ steps_of after after continue (parts_from n 0 (map part_code ys))) (sym (drop_here xs i x lt is)) ∙ h))))

begin_turn : (q : SwitchPart) (n which : ℕ) (others : Code) (after : Point) → part_begins n after (part_code q n which others) ≡ (At n, entry (code_of (out-SwitchPart q).body) after) ∷ part_begins n after others
begin_turn q n which others after = ap (λ f. part_begins n after (f n which others)) (fold_out-SwitchPart (ℕ → Code → Code) (Code → Code) (ℕ → ℕ → Code → Code) act_before statement_before part_before q)

begins_same : (parts : List SwitchPart) (n p q : ℕ) (after : Point) → part_begins n after (parts_from n p (map part_code parts)) ≡ part_begins n after (parts_from n q (map part_code parts))
begins_same [] n p q after = refl
begins_same (x ∷ parts) n p q after =
    begin_turn x n p (parts_from n (p + 1) (map part_code parts)) after
    ∙ (ap (λ ys. (At n, entry (code_of (out-SwitchPart x).body) after) ∷ ys) (begins_same parts n (p + 1) (q + 1) after) ∙ sym (begin_turn x n q (parts_from n (q + 1) (map part_code parts)) after))

-- one more way into a part
pub begin_step : (xs : List SwitchPart) (i : ℕ) (x : SwitchPart) (out new all : List (Point × Point)) (n : ℕ) (after first : Point) → i < length xs → x ≡ get_or xs i x
    → new ≡ out ++ (At n, first) ∷ [] → first ≡ entry (code_of (out-SwitchPart x).body) after
    → out ++ part_begins n after (parts_from n 0 (map part_code (drop i xs))) ≡ all → new ++ part_begins n after (parts_from n 0 (map part_code (drop (i + 1) xs))) ≡ all
begin_step xs i x out new all n after first lt is e f h =
    ap (λ ys. ys ++ part_begins n after (parts_from n 0 (map part_code (drop (i + 1) xs)))) (e ∙ ap (λ (p : Point). out ++ (At n, p) ∷ []) f)
    ∙ (append_assoc out ((At n, entry (code_of (out-SwitchPart x).body) after) ∷ []) (part_begins n after (parts_from n 0 (map part_code (drop (i + 1) xs))))
    ∙ (ap (λ ys. out ++ ((At n, entry (code_of (out-SwitchPart x).body) after) ∷ ys)) (begins_same (drop (i + 1) xs) n 0 1 after)
    ∙ (ap (λ ys. out ++ ys) (sym (begin_turn x n 0 (parts_from n 1 (map part_code (drop (i + 1) xs))) after)) ∙ (ap (λ ys. out ++ part_begins n after (parts_from n 0 (map part_code ys))) (sym (drop_here xs i x lt is)) ∙ h))))
