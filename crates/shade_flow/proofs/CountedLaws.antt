-- Lists of statements whose points and arguments have numbers of 32 bits: statement by statement, and the ways between their points.
use Rattle.std.proofs.Common.{◌≡◌, refl, sym, ap, ◌∙◌, subst, arith, ℕ, zero, suc, ◌+◌, ◌<◌, Bool, true, false, ◌&&◌, List, [], ◌∷◌, ◌++◌, length, get_or, drop, map, Option, None, Some}
use Rattle.std.specs.Prelude.{All}
use Rattle.std.proofs.lemmas.Bool.{leb-true}
use Rattle.std.proofs.lemmas.List.Elements.{All-nil, All-cons, All-head, All-tail, All-append}
use Rattle.shade_core.specs.declared.statement.Operand.{Operand}
use Rattle.shade_core.specs.declared.statement.Act.{Act, Act-F, out-Act}
use Rattle.shade_core.specs.declared.statement.Act.TheOpen as act
use Rattle.shade_core.specs.declared.statement.CoreStatement.{CoreStatement}
use Rattle.shade_core.specs.declared.statement.SwitchPart.{SwitchPart, out-SwitchPart, fold_out-SwitchPart}
use Rattle.shade_core.specs.Code.{Jump, Break, Continue, Return, Code, done, plain, jump, call, branch, switch, loop, no_part, part, act_before, statement_before, part_before, parts_from, statement_code, part_code, code_of}
use Rattle.shade_core.proofs.CodeLaws.{layer, act_is, statement_is, drop_here}
use Rattle.shade_flow.specs.declared.point.Point.{Point}
use Rattle.shade_flow.specs.declared.point.Point.TheVariants.{At, Turn, Past}
use Rattle.shade_flow.specs.Flow.{entry, jump_to}
use Rattle.shade_flow.specs.Steps.{steps_of, part_begins, leave_steps}
use Rattle.shade_flow.specs.Tables.{number, numbers, IsBelow}
use Rattle.shade_flow.specs.Counted.{is_small, are_few, are_counted, layer_counted, point_counted, step_counted}
use Rattle.shade_flow.proofs.Counts.{both_true}

and_true : (b : Bool) → b ≡ (b && true)
and_true true = refl
and_true false = refl

and_assoc : (a b c : Bool) → (a && (b && c)) ≡ ((a && b) && c)
and_assoc true b c = refl
and_assoc false b c = refl

pub both : (a b : Bool) → a ≡ true → b ≡ true → (a && b) ≡ true
both true b e f = f
both false b e f = cc

-- ---- statement by statement

part_turn : (q : SwitchPart) (n which : ℕ) (others : Code) → are_counted (part_code q n which others) ≡ (are_counted (code_of (out-SwitchPart q).body) && are_counted others)
part_turn q n which others = ap (λ f. are_counted (f n which others)) (fold_out-SwitchPart (ℕ → Code → Code) (Code → Code) (ℕ → ℕ → Code → Code) act_before statement_before part_before q)

-- the numbers of parts say nothing of it
pub parts_same : (parts : List SwitchPart) (n p m q : ℕ) → are_counted (parts_from n p (map part_code parts)) ≡ are_counted (parts_from m q (map part_code parts))
parts_same [] n p m q = refl
parts_same (x ∷ parts) n p m q =
    part_turn x n p (parts_from n (p + 1) (map part_code parts))
    ∙ (ap (λ b. are_counted (code_of (out-SwitchPart x).body) && b) (parts_same parts n (p + 1) m (q + 1)) ∙ sym (part_turn x m q (parts_from m (q + 1) (map part_code parts))))

layer_turn : (y : Act-F Act CoreStatement SwitchPart) (n : ℕ) (rest : Code) → are_counted (act_before (layer y) n rest) ≡ ((is_small n && layer_counted y) && are_counted rest)
layer_turn (act.Set op args) n rest = ap (λ b. b && are_counted rest) (and_true _)
layer_turn (act.Load view) n rest = ap (λ b. b && are_counted rest) (and_true _)
layer_turn (act.Declare local value) n rest = ap (λ b. b && are_counted rest) (and_true _)
layer_turn (act.Store view value) n rest = ap (λ b. b && are_counted rest) (and_true _)
layer_turn (act.Atomic op view args) n rest = ap (λ b. b && are_counted rest) (and_true _)
layer_turn (act.Call function args) n rest = and_assoc (is_small n) (are_few args) (are_counted rest)
layer_turn (act.Barrier space severity) n rest = ap (λ b. b && are_counted rest) (and_true _)
layer_turn (act.UniformLoad view severity) n rest = ap (λ b. b && are_counted rest) (and_true _)
layer_turn (act.Length view) n rest = ap (λ b. b && are_counted rest) (and_true _)
layer_turn (act.If cond one two) n rest =
    ap (λ b. is_small n && b) (and_assoc (are_counted (code_of one)) (are_counted (code_of two)) (are_counted rest)) ∙ and_assoc (is_small n) (are_counted (code_of one) && are_counted (code_of two)) (are_counted rest)
layer_turn (act.Switch selector parts) n rest =
    ap (λ b. is_small n && (b && are_counted rest)) (parts_same parts n 0 0 0) ∙ and_assoc (is_small n) (are_counted (parts_from 0 0 (map part_code parts))) (are_counted rest)
layer_turn (act.Loop body continuing leave) n rest =
    ap (λ b. is_small n && b) (and_assoc (are_counted (code_of body)) (are_counted (code_of continuing)) (are_counted rest)) ∙ and_assoc (is_small n) (are_counted (code_of body) && are_counted (code_of continuing)) (are_counted rest)
layer_turn act.Break n rest = ap (λ b. b && are_counted rest) (and_true _)
layer_turn act.Continue n rest = ap (λ b. b && are_counted rest) (and_true _)
layer_turn (act.Return value) n rest = ap (λ b. b && are_counted rest) (and_true _)

statement_turn : (s : CoreStatement) (rest : Code) → are_counted (statement_code s rest) ≡ ((is_small s.number && layer_counted (out-Act s.act)) && are_counted rest)
statement_turn s rest = ap (λ f. are_counted (f rest)) (statement_is s) ∙ (ap (λ f. are_counted (f s.number rest)) (act_is s.act) ∙ layer_turn (out-Act s.act) s.number rest)

list_at : (xs : List CoreStatement) (i : ℕ) (x : CoreStatement) → i < length xs → x ≡ get_or xs i x → are_counted (code_of (drop i xs)) ≡ ((is_small x.number && layer_counted (out-Act x.act)) && are_counted (code_of (drop (i + 1) xs)))
list_at xs i x lt is = ap (λ ys. are_counted (code_of ys)) (drop_here xs i x lt is) ∙ statement_turn x (code_of (drop (i + 1) xs))

-- one more statement that is counted, and one that is not
pub counted_next : (xs : List CoreStatement) (i : ℕ) (x : CoreStatement) (all : Bool) → i < length xs → x ≡ get_or xs i x → (is_small x.number && layer_counted (out-Act x.act)) ≡ true → are_counted (code_of (drop i xs)) ≡ all → are_counted (code_of (drop (i + 1) xs)) ≡ all
counted_next xs i x all lt is e h = ap (λ b. b && are_counted (code_of (drop (i + 1) xs))) (sym e) ∙ (sym (list_at xs i x lt is) ∙ h)

pub counted_never : (xs : List CoreStatement) (i : ℕ) (x : CoreStatement) (all : Bool) → i < length xs → x ≡ get_or xs i x → (is_small x.number && layer_counted (out-Act x.act)) ≡ false → are_counted (code_of (drop i xs)) ≡ all → false ≡ all
counted_never xs i x all lt is e h = ap (λ b. b && are_counted (code_of (drop (i + 1) xs))) (sym e) ∙ (sym (list_at xs i x lt is) ∙ h)

-- each statement of a list that is counted
rest_counted : (xs : List CoreStatement) (i : ℕ) → are_counted (code_of xs) ≡ true → are_counted (code_of (drop i xs)) ≡ true
rest_counted xs zero h = h
rest_counted [] (suc i) h = refl
rest_counted (x ∷ xs) (suc i) h = rest_counted xs i (both_true (is_small x.number && layer_counted (out-Act x.act)) (are_counted (code_of xs)) (sym (statement_turn x (code_of xs)) ∙ h)).1

pub each_counted : (xs all : List CoreStatement) (i : ℕ) (x : CoreStatement) → x ≡ get_or xs i x → i < length xs → xs ≡ all → are_counted (code_of all) ≡ true → layer_counted (out-Act x.act) ≡ true
each_counted xs all i x is lt same h =
    let counted : are_counted (code_of xs) ≡ true = ap (λ ys. are_counted (code_of ys)) same ∙ h in
    let one = both_true (is_small x.number && layer_counted (out-Act x.act)) (are_counted (code_of (drop (i + 1) xs))) (sym (list_at xs i x lt is) ∙ rest_counted xs i counted) in
    (both_true (is_small x.number) (layer_counted (out-Act x.act)) one.0).1

-- ---- part by part

parts_at : (xs : List SwitchPart) (i : ℕ) (x : SwitchPart) → i < length xs → x ≡ get_or xs i x
    → are_counted (parts_from 0 0 (map part_code (drop i xs))) ≡ (are_counted (code_of (out-SwitchPart x).body) && are_counted (parts_from 0 0 (map part_code (drop (i + 1) xs))))
parts_at xs i x lt is =
    ap (λ ys. are_counted (parts_from 0 0 (map part_code ys))) (drop_here xs i x lt is)
    ∙ (part_turn x 0 0 (parts_from 0 1 (map part_code (drop (i + 1) xs))) ∙ ap (λ b. are_counted (code_of (out-SwitchPart x).body) && b) (parts_same (drop (i + 1) xs) 0 1 0 0))

pub part_next : (xs : List SwitchPart) (i : ℕ) (x : SwitchPart) (all : Bool) → i < length xs → x ≡ get_or xs i x → are_counted (code_of (out-SwitchPart x).body) ≡ true → are_counted (parts_from 0 0 (map part_code (drop i xs))) ≡ all → are_counted (parts_from 0 0 (map part_code (drop (i + 1) xs))) ≡ all
part_next xs i x all lt is e h = ap (λ b. b && are_counted (parts_from 0 0 (map part_code (drop (i + 1) xs)))) (sym e) ∙ (sym (parts_at xs i x lt is) ∙ h)

pub part_never : (xs : List SwitchPart) (i : ℕ) (x : SwitchPart) (all : Bool) → i < length xs → x ≡ get_or xs i x → are_counted (code_of (out-SwitchPart x).body) ≡ false → are_counted (parts_from 0 0 (map part_code (drop i xs))) ≡ all → false ≡ all
part_never xs i x all lt is e h = ap (λ b. b && are_counted (parts_from 0 0 (map part_code (drop (i + 1) xs)))) (sym e) ∙ (sym (parts_at xs i x lt is) ∙ h)

-- each part of those that are counted
parts_left : (xs : List SwitchPart) (i : ℕ) → are_counted (parts_from 0 0 (map part_code xs)) ≡ true → are_counted (parts_from 0 0 (map part_code (drop i xs))) ≡ true
parts_left xs zero h = h
parts_left [] (suc i) h = refl
parts_left (x ∷ xs) (suc i) h =
    let one = both_true (are_counted (code_of (out-SwitchPart x).body)) (are_counted (parts_from 0 1 (map part_code xs))) (sym (part_turn x 0 0 (parts_from 0 1 (map part_code xs))) ∙ h) in
    parts_left xs i (parts_same xs 0 0 0 1 ∙ one.1)

pub each_part_counted : (xs all : List SwitchPart) (i : ℕ) (x : SwitchPart) → x ≡ get_or xs i x → i < length xs → xs ≡ all → are_counted (parts_from 0 0 (map part_code all)) ≡ true → are_counted (code_of (out-SwitchPart x).body) ≡ true
each_part_counted xs all i x is lt same h =
    let counted : are_counted (parts_from 0 0 (map part_code xs)) ≡ true = ap (λ ys. are_counted (parts_from 0 0 (map part_code ys))) same ∙ h in
    (both_true (are_counted (code_of (out-SwitchPart x).body)) (are_counted (parts_from 0 0 (map part_code (drop (i + 1) xs)))) (sym (parts_at xs i x lt is) ∙ parts_left xs i counted)).0

-- ---- the ways between points

abbrev Small : Point × Point → Type 0
Small step = step_counted step ≡ true

-- where a list begins
entry_counted : (c : Code) (next : Point) → are_counted c ≡ true → point_counted next ≡ true → point_counted (entry c next) ≡ true
entry_counted done next h p = p
entry_counted (plain n act rest) next h p = (both_true (is_small n) _ h).0
entry_counted (jump n act rest) next h p = (both_true (is_small n) _ h).0
entry_counted (call n g args rest) next h p = (both_true (is_small n) _ h).0
entry_counted (branch n cond one two rest) next h p = (both_true (is_small n) _ h).0
entry_counted (switch n selector parts rest) next h p = (both_true (is_small n) _ h).0
entry_counted (loop n body continuing leave rest) next h p = (both_true (is_small n) _ h).0
entry_counted no_part next h p = p
entry_counted (part n which keys fallback body others) next h p = p

pub entry_small : (c : Code) → are_counted c ≡ true → point_counted (entry c Past) ≡ true
entry_small c h = entry_counted c Past h refl

one_step : (u v : Point) (steps : List (Point × Point)) → point_counted u ≡ true → point_counted v ≡ true → All Small steps → All Small ((u, v) ∷ steps)
one_step u v steps a b h = All-cons Small (u, v) steps (both (point_counted u) (point_counted v) a b) h

jump_counted : (break continue : Point) (j : Jump) → point_counted break ≡ true → point_counted continue ≡ true → point_counted (jump_to break continue j) ≡ true
jump_counted break continue Break b c = b
jump_counted break continue Continue b c = c
jump_counted break continue (Return value) b c = refl

begins_counted : (n : ℕ) (next : Point) (c : Code) → is_small n ≡ true → point_counted next ≡ true → are_counted c ≡ true → All Small (part_begins n next c)
begins_counted n next done s p h = All-nil Small
begins_counted n next (plain k act rest) s p h = All-nil Small
begins_counted n next (jump k act rest) s p h = All-nil Small
begins_counted n next (call k g args rest) s p h = All-nil Small
begins_counted n next (branch k cond one two rest) s p h = All-nil Small
begins_counted n next (switch k selector parts rest) s p h = All-nil Small
begins_counted n next (loop k body continuing leave rest) s p h = All-nil Small
begins_counted n next no_part s p h = All-nil Small
begins_counted n next (part k which keys fallback body others) s p h =
    let b = both_true (are_counted body) (are_counted others) h in
    one_step (At n) (entry body next) (part_begins n next others) s (entry_counted body next b.0 p) (begins_counted n next others s p b.1)

leave_counted : (leave : Option Operand) (n : ℕ) (after : Point) → is_small n ≡ true → point_counted after ≡ true → All Small (leave_steps leave n after)
leave_counted None n after s p = All-nil Small
leave_counted (Some operand) n after s p = one_step (Turn n) after [] s p (All-nil Small)

two : (xs ys : List (Point × Point)) → All Small xs → All Small ys → All Small (xs ++ ys)
two xs ys a b = All-append Small xs ys a b

pub steps_counted : (next break continue : Point) (c : Code) → point_counted next ≡ true → point_counted break ≡ true → point_counted continue ≡ true → are_counted c ≡ true → All Small (steps_of next break continue c)
steps_counted next break continue done p q r h = All-nil Small
steps_counted next break continue (plain n act rest) p q r h =
    let b = both_true (is_small n) (are_counted rest) h in
    one_step (At n) (entry rest next) _ b.0 (entry_counted rest next b.1 p) (steps_counted next break continue rest p q r b.1)
steps_counted next break continue (jump n act rest) p q r h =
    let b = both_true (is_small n) (are_counted rest) h in
    one_step (At n) (jump_to break continue act) _ b.0 (jump_counted break continue act q r) (steps_counted next break continue rest p q r b.1)
steps_counted next break continue (call n g args rest) p q r h =
    let b = both_true (is_small n) (are_few args && are_counted rest) h in
    let c = both_true (are_few args) (are_counted rest) b.1 in
    one_step (At n) (entry rest next) _ b.0 (entry_counted rest next c.1 p) (steps_counted next break continue rest p q r c.1)
steps_counted next break continue (branch n cond one second rest) p q r h =
    let b = both_true (is_small n) (are_counted one && (are_counted second && are_counted rest)) h in
    let c = both_true (are_counted one) (are_counted second && are_counted rest) b.1 in
    let d = both_true (are_counted second) (are_counted rest) c.1 in
    let after : Point = entry rest next in
    let e : point_counted after ≡ true = entry_counted rest next d.1 p in
    let inner : List (Point × Point) = steps_of after break continue one ++ (steps_of after break continue second ++ steps_of next break continue rest) in
    one_step (At n) (entry one after) ((At n, entry second after) ∷ inner) b.0 (entry_counted one after c.0 e)
    (one_step (At n) (entry second after) inner b.0 (entry_counted second after d.0 e)
    (two _ _ (steps_counted after break continue one e q r c.0) (two _ _ (steps_counted after break continue second e q r d.0) (steps_counted next break continue rest p q r d.1))))
steps_counted next break continue (switch n selector parts rest) p q r h =
    let b = both_true (is_small n) (are_counted parts && are_counted rest) h in
    let c = both_true (are_counted parts) (are_counted rest) b.1 in
    let after : Point = entry rest next in
    let e : point_counted after ≡ true = entry_counted rest next c.1 p in
    two _ _ (begins_counted n after parts b.0 e c.0) (two _ _ (steps_counted after after continue parts e e r c.0) (steps_counted next break continue rest p q r c.1))
steps_counted next break continue (loop n body continuing leave rest) p q r h =
    let b = both_true (is_small n) (are_counted body && (are_counted continuing && are_counted rest)) h in
    let c = both_true (are_counted body) (are_counted continuing && are_counted rest) b.1 in
    let d = both_true (are_counted continuing) (are_counted rest) c.1 in
    let after : Point = entry rest next in
    let on : Point = entry continuing (Turn n) in
    let e : point_counted after ≡ true = entry_counted rest next d.1 p in
    let f : point_counted on ≡ true = entry_counted continuing (Turn n) d.0 b.0 in
    let inner : List (Point × Point) = leave_steps leave n after ++ (steps_of on after on body ++ (steps_of (Turn n) after (Turn n) continuing ++ steps_of next break continue rest)) in
    one_step (At n) (entry body on) ((Turn n, entry body on) ∷ inner) b.0 (entry_counted body on c.0 f)
    (one_step (Turn n) (entry body on) inner b.0 (entry_counted body on c.0 f)
    (two _ _ (leave_counted leave n after b.0 e)
    (two _ _ (steps_counted on after on body f e f c.0) (two _ _ (steps_counted (Turn n) after (Turn n) continuing b.0 e b.0 d.0) (steps_counted next break continue rest p q r d.1)))))
steps_counted next break continue no_part p q r h = All-nil Small
steps_counted next break continue (part n which keys fallback body others) p q r h =
    let b = both_true (are_counted body) (are_counted others) h in
    two _ _ (steps_counted next break continue body p q r b.0) (steps_counted next break continue others p q r b.1)

-- the ways of a function
pub ways_counted : (body : Code) (steps : List (Point × Point)) → steps ≡ steps_of Past Past Past body → are_counted body ≡ true → All Small steps
ways_counted body steps is h = subst (All Small) (sym is) (steps_counted Past Past Past body refl refl refl h)

-- ---- the numbers of points

small_point : (p : Point) → point_counted p ≡ true → number p < 4294967295
small_point Past h = omega arith
small_point (At n) h = omega (arith, leb-true n 2147483646 h)
small_point (Turn n) h = omega (arith, leb-true n 2147483646 h)

pub has_room : (n : ℕ) (p : Point) → n ≡ number p → point_counted p ≡ true → n < 4294967295
has_room n p is h = omega (arith, small_point p h, is)

pub below_numbers : (steps : List (Point × Point)) (edges : List (ℕ × ℕ)) → edges ≡ map numbers steps → All Small steps → All IsBelow edges
below_numbers steps edges is h = subst (All IsBelow) (sym is) (by steps h)
  where
    by : (xs : List (Point × Point)) → All Small xs → All IsBelow (map numbers xs)
    by [] all = All-nil IsBelow
    by (x ∷ xs) all =
        let one = both_true (point_counted x.0) (point_counted x.1) (All-head Small x xs all) in
        All-cons IsBelow (numbers x) (map numbers xs) (small_point x.0 one.0, small_point x.1 one.1) (by xs (All-tail Small x xs all))

pub few_items : {A : Type 0} (xs : List A) → are_few xs ≡ true → length xs < 4294967296
few_items xs h = omega (arith, leb-true (length xs) 4294967295 h)
