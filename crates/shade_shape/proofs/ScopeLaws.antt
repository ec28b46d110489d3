-- The rule of scopes, one statement after another.
use Rattle.std.proofs.Common.{◌≡◌, refl, sym, ap, ◌∙◌, ℕ, ◌+◌, ◌<◌, Bool, true, false, ◌&&◌, ◌||◌, List, [], ◌∷◌, ◌++◌, length, get_or, drop, map, append_assoc, Option}
use Rattle.std.specs.Prelude.{if◌then◌else◌}
use Rattle.shade_core.specs.declared.statement.Operand.{Operand}
use Rattle.shade_core.specs.declared.statement.Act.{Act, Act-F, out-Act}
use Rattle.shade_core.specs.declared.statement.Act.TheVariants.{If, outs-If, Switch, outs-Switch, Loop, outs-Loop}
use Rattle.shade_core.specs.declared.statement.Act.TheOpen as act
use Rattle.shade_core.specs.declared.statement.CoreStatement.{CoreStatement}
use Rattle.shade_core.specs.declared.statement.SwitchPart.{SwitchPart, out-SwitchPart, fold_out-SwitchPart}
use Rattle.shade_core.specs.Code.{Code, done, parts_from, act_before, statement_before, part_before, act_code, statement_code, part_code, code_of}
use Rattle.shade_core.specs.Scopes.{continues, in_scope, listed, maybe_names, names_one, unskipped}
use Rattle.shade_core.proofs.CodeLaws.{layer, act_is, statement_is, drop_here}
use Rattle.shade_shape.specs.Within.{act_in_scope}

or_false : (a : Bool) → (a || false) ≡ a
or_false true = refl
or_false false = refl

or_assoc : (a b c : Bool) → ((a || b) || c) ≡ (a || (b || c))
or_assoc true b c = refl
or_assoc false b c = refl

and_assoc : (a b c : Bool) → ((a && b) && c) ≡ (a && (b && c))
and_assoc true b c = refl
and_assoc false b c = refl

-- ---- Continue

part_continues : (q : SwitchPart) (n which : ℕ) (others : Code) → continues (part_code q n which others) ≡ (continues (code_of (out-SwitchPart q).body) || continues others)
part_continues q n which others =
    ap (λ f. continues (f n which others)) (fold_out-SwitchPart (ℕ → Code → Code) (Code → Code) (ℕ → ℕ → Code → Code) act_before statement_before part_before q)

parts_continue_same : (parts : List SwitchPart) (n p m q : ℕ) → continues (parts_from n p (map part_code parts)) ≡ continues (parts_from m q (map part_code parts))
parts_continue_same [] n p m q = refl
parts_continue_same (x ∷ parts) n p m q =
    part_continues x n p (parts_from n (p + 1) (map part_code parts))
    ∙ (ap (λ b. continues (code_of (out-SwitchPart x).body) || b) (parts_continue_same parts n (p + 1) m (q + 1)) ∙ sym (part_continues x m q (parts_from m (q + 1) (map part_code parts))))

layer_continues : (y : Act-F Act CoreStatement SwitchPart) (n : ℕ) (rest : Code) → continues (act_before (layer y) n rest) ≡ (continues (act_before (layer y) 0 done) || continues rest)
layer_continues (act.Set op args) n rest = refl
layer_continues (act.Load view) n rest = refl
layer_continues (act.Declare local value) n rest = refl
layer_continues (act.Store view value) n rest = refl
layer_continues (act.Atomic op view args) n rest = refl
layer_continues (act.Call function args) n rest = refl
layer_continues (act.Barrier space severity) n rest = refl
layer_continues (act.UniformLoad view severity) n rest = refl
layer_continues (act.Length view) n rest = refl
layer_continues (act.If cond one two) n rest =
    ap (λ b. continues (code_of one) || (b || continues rest)) (sym (or_false (continues (code_of two)))) ∙ sym (or_assoc (continues (code_of one)) (continues (code_of two) || false) (continues rest))
layer_continues (act.Switch selector parts) n rest =
    ap (λ b. b || continues rest) (parts_continue_same parts n 0 0 0 ∙ sym (or_false (continues (parts_from 0 0 (map part_code parts)))))
layer_continues (act.Loop body continuing leave) n rest = refl
layer_continues act.Break n rest = refl
layer_continues act.Continue n rest = refl
layer_continues (act.Return value) n rest = refl

pub statement_continues : (s : CoreStatement) (rest : Code) → continues (statement_code s rest) ≡ (continues (act_code s.act 0 done) || continues rest)
statement_continues s rest =
    ap (λ f. continues (f rest)) (statement_is s)
    ∙ (ap (λ f. continues (f s.number rest)) (act_is s.act) ∙ (layer_continues (out-Act s.act) s.number rest ∙ ap (λ f. continues (f 0 done) || continues rest) (sym (act_is s.act))))

pub if_continues : (cond : Operand) (one two : List CoreStatement) → continues (act_code (If cond one two) 0 done) ≡ (continues (code_of one) || continues (code_of two))
if_continues cond one two =
    ap (λ f. continues (f 0 done)) (act_is (If cond one two)) ∙ (ap (λ y. continues (act_before (layer y) 0 done)) (outs-If cond one two) ∙ ap (λ b. continues (code_of one) || b) (or_false (continues (code_of two))))

pub switch_continues : (selector : Operand) (parts : List SwitchPart) → continues (act_code (Switch selector parts) 0 done) ≡ continues (parts_from 0 0 (map part_code parts))
switch_continues selector parts =
    ap (λ f. continues (f 0 done)) (act_is (Switch selector parts)) ∙ (ap (λ y. continues (act_before (layer y) 0 done)) (outs-Switch selector parts) ∙ or_false (continues (parts_from 0 0 (map part_code parts))))

pub continues_step : (xs : List CoreStatement) (i : ℕ) (x : CoreStatement) (b all : Bool) → i < length xs → x ≡ get_or xs i x → b ≡ continues (act_code x.act 0 done) → continues (code_of (drop i xs)) ≡ all → (b || continues (code_of (drop (i + 1) xs))) ≡ all
continues_step xs i x b all lt is e h =
    ap (λ d. d || continues (code_of (drop (i + 1) xs))) e ∙ (sym (statement_continues x (code_of (drop (i + 1) xs))) ∙ (ap (λ ys. continues (code_of ys)) (sym (drop_here xs i x lt is)) ∙ h))

pub part_continues_step : (xs : List SwitchPart) (i : ℕ) (x : SwitchPart) (b all : Bool) → i < length xs → x ≡ get_or xs i x → b ≡ continues (code_of (out-SwitchPart x).body) → continues (parts_from 0 0 (map part_code (drop i xs))) ≡ all
    → (b || continues (parts_from 0 0 (map part_code (drop (i + 1) xs)))) ≡ all
part_continues_step xs i x b all lt is e h =
    ap (λ d. d || continues (parts_from 0 0 (map part_code (drop (i + 1) xs)))) e
    ∙ (ap (λ d. continues (code_of (out-SwitchPart x).body) || d) (parts_continue_same (drop (i + 1) xs) 0 0 0 1)
    ∙ (sym (part_continues x 0 0 (parts_from 0 1 (map part_code (drop (i + 1) xs)))) ∙ (ap (λ ys. continues (parts_from 0 0 (map part_code ys))) (sym (drop_here xs i x lt is)) ∙ h)))

-- ---- statements of a list

layer_unskipped : (y : Act-F Act CoreStatement SwitchPart) (n : ℕ) (rest : Code) → unskipped (act_before (layer y) n rest) ≡ n ∷ (if continues (act_before (layer y) 0 done) then [] else unskipped rest)
layer_unskipped (act.Set op args) n rest = refl
layer_unskipped (act.Load view) n rest = refl
layer_unskipped (act.Declare local value) n rest = refl
layer_unskipped (act.Store view value) n rest = refl
layer_unskipped (act.Atomic op view args) n rest = refl
layer_unskipped (act.Call function args) n rest = refl
layer_unskipped (act.Barrier space severity) n rest = refl
layer_unskipped (act.UniformLoad view severity) n rest = refl
layer_unskipped (act.Length view) n rest = refl
layer_unskipped (act.If cond one two) n rest = ap (λ (b : Bool). n ∷ (if continues (code_of one) || b then [] else unskipped rest)) (sym (or_false (continues (code_of two))))
layer_unskipped (act.Switch selector parts) n rest =
    ap (λ (b : Bool). n ∷ (if b then [] else unskipped rest)) (parts_continue_same parts n 0 0 0 ∙ sym (or_false (continues (parts_from 0 0 (map part_code parts)))))
layer_unskipped (act.Loop body continuing leave) n rest = refl
layer_unskipped act.Break n rest = refl
layer_unskipped act.Continue n rest = refl
layer_unskipped (act.Return value) n rest = refl

statement_unskipped : (s : CoreStatement) (rest : Code) → unskipped (statement_code s rest) ≡ s.number ∷ (if continues (act_code s.act 0 done) then [] else unskipped rest)
statement_unskipped s rest =
    ap (λ f. unskipped (f rest)) (statement_is s)
    ∙ (ap (λ f. unskipped (f s.number rest)) (act_is s.act) ∙ (layer_unskipped (out-Act s.act) s.number rest ∙ ap (λ f. s.number ∷ (if continues (f 0 done) then [] else unskipped rest)) (sym (act_is s.act))))

layer_listed : (y : Act-F Act CoreStatement SwitchPart) (n : ℕ) (rest : Code) → listed (act_before (layer y) n rest) ≡ n ∷ listed rest
layer_listed (act.Set op args) n rest = refl
layer_listed (act.Load view) n rest = refl
layer_listed (act.Declare local value) n rest = refl
layer_listed (act.Store view value) n rest = refl
layer_listed (act.Atomic op view args) n rest = refl
layer_listed (act.Call function args) n rest = refl
layer_listed (act.Barrier space severity) n rest = refl
layer_listed (act.UniformLoad view severity) n rest = refl
layer_listed (act.Length view) n rest = refl
layer_listed (act.If cond one two) n rest = refl
layer_listed (act.Switch selector parts) n rest = refl
layer_listed (act.Loop body continuing leave) n rest = refl
layer_listed act.Break n rest = refl
layer_listed act.Continue n rest = refl
layer_listed (act.Return value) n rest = refl

statement_listed : (s : CoreStatement) (rest : Code) → listed (statement_code s rest) ≡ s.number ∷ listed rest
statement_listed s rest = ap (λ f. listed (f rest)) (statement_is s) ∙ (ap (λ f. listed (f s.number rest)) (act_is s.act) ∙ layer_listed (out-Act s.act) s.number rest)

pub listed_step : (xs : List CoreStatement) (i : ℕ) (x : CoreStatement) (seen new all : List ℕ) → i < length xs → x ≡ get_or xs i x → new ≡ seen ++ x.number ∷ []
    → seen ++ listed (code_of (drop i xs)) ≡ all → new ++ listed (code_of (drop (i + 1) xs)) ≡ all
listed_step xs i x seen new all lt is n h =
    let rest = code_of (drop (i + 1) xs) in
    ap (λ l. l ++ listed rest) n ∙ (append_assoc seen (x.number ∷ []) (listed rest)
    ∙ (ap (λ l. seen ++ l) (sym (statement_listed x rest)) ∙ (ap (λ ys. seen ++ listed (code_of ys)) (sym (drop_here xs i x lt is)) ∙ h)))

-- a statement that a Continue of the loop stands in is the last one
pub unskipped_stop : (xs : List CoreStatement) (i : ℕ) (x : CoreStatement) (seen new all : List ℕ) → i < length xs → x ≡ get_or xs i x → new ≡ seen ++ x.number ∷ [] → continues (act_code x.act 0 done) ≡ true
    → seen ++ unskipped (code_of (drop i xs)) ≡ all → new ≡ all
unskipped_stop xs i x seen new all lt is n e h =
    let rest = code_of (drop (i + 1) xs) in
    n ∙ (ap (λ (b : Bool). seen ++ x.number ∷ (if b then [] else unskipped rest)) (sym e)
    ∙ (ap (λ l. seen ++ l) (sym (statement_unskipped x rest)) ∙ (ap (λ ys. seen ++ unskipped (code_of ys)) (sym (drop_here xs i x lt is)) ∙ h)))

pub unskipped_more : (xs : List CoreStatement) (i : ℕ) (x : CoreStatement) (seen new all : List ℕ) → i < length xs → x ≡ get_or xs i x → new ≡ seen ++ x.number ∷ [] → continues (act_code x.act 0 done) ≡ false
    → seen ++ unskipped (code_of (drop i xs)) ≡ all → new ++ unskipped (code_of (drop (i + 1) xs)) ≡ all
unskipped_more xs i x seen new all lt is n e h =
    let rest = code_of (drop (i + 1) xs) in
    ap (λ l. l ++ unskipped rest) n ∙ (append_assoc seen (x.number ∷ []) (unskipped rest)
    ∙ (ap (λ (b : Bool). seen ++ x.number ∷ (if b then [] else unskipped rest)) (sym e)
    ∙ (ap (λ l. seen ++ l) (sym (statement_unskipped x rest)) ∙ (ap (λ ys. seen ++ unskipped (code_of ys)) (sym (drop_here xs i x lt is)) ∙ h))))

-- ---- the rule

part_in_scope : (seen : List ℕ) (q : SwitchPart) (n which : ℕ) (others : Code) → in_scope seen (part_code q n which others) ≡ (in_scope seen (code_of (out-SwitchPart q).body) && in_scope seen others)
part_in_scope seen q n which others =
    ap (λ f. in_scope seen (f n which others)) (fold_out-SwitchPart (ℕ → Code → Code) (Code → Code) (ℕ → ℕ → Code → Code) act_before statement_before part_before q)

parts_scope_same : (seen : List ℕ) (parts : List SwitchPart) (n p m q : ℕ) → in_scope seen (parts_from n p (map part_code parts)) ≡ in_scope seen (parts_from m q (map part_code parts))
parts_scope_same seen [] n p m q = refl
parts_scope_same seen (x ∷ parts) n p m q =
    part_in_scope seen x n p (parts_from n (p + 1) (map part_code parts))
    ∙ (ap (λ b. in_scope seen (code_of (out-SwitchPart x).body) && b) (parts_scope_same seen parts n (p + 1) m (q + 1)) ∙ sym (part_in_scope seen x m q (parts_from m (q + 1) (map part_code parts))))

layer_in_scope : (seen : List ℕ) (y : Act-F Act CoreStatement SwitchPart) (n : ℕ) (rest : Code)
    → in_scope seen (act_before (layer y) n rest) ≡ (act_in_scope seen (act_before (layer y) 0 done) && in_scope (seen ++ n ∷ []) rest)
layer_in_scope seen (act.Set op args) n rest = refl
layer_in_scope seen (act.Load view) n rest = refl
layer_in_scope seen (act.Declare local value) n rest = refl
layer_in_scope seen (act.Store view value) n rest = refl
layer_in_scope seen (act.Atomic op view args) n rest = refl
layer_in_scope seen (act.Call function args) n rest = refl
layer_in_scope seen (act.Barrier space severity) n rest = refl
layer_in_scope seen (act.UniformLoad view severity) n rest = refl
layer_in_scope seen (act.Length view) n rest = refl
layer_in_scope seen (act.If cond one two) n rest =
    let r = in_scope (seen ++ n ∷ []) rest in
    ap (λ b. names_one seen cond && b) (sym (and_assoc (in_scope seen (code_of one)) (in_scope seen (code_of two)) r)) ∙ sym (and_assoc (names_one seen cond) (in_scope seen (code_of one) && in_scope seen (code_of two)) r)
layer_in_scope seen (act.Switch selector parts) n rest =
    let r = in_scope (seen ++ n ∷ []) rest in
    ap (λ b. names_one seen selector && (b && r)) (parts_scope_same seen parts n 0 0 0) ∙ sym (and_assoc (names_one seen selector) (in_scope seen (parts_from 0 0 (map part_code parts))) r)
layer_in_scope seen (act.Loop body continuing leave) n rest =
    let r = in_scope (seen ++ n ∷ []) rest in
    let two = in_scope (seen ++ unskipped (code_of body)) (code_of continuing) in
    let three = maybe_names (seen ++ unskipped (code_of body) ++ listed (code_of continuing)) leave in
    ap (λ b. in_scope seen (code_of body) && b) (sym (and_assoc two three r)) ∙ sym (and_assoc (in_scope seen (code_of body)) (two && three) r)
layer_in_scope seen act.Break n rest = refl
layer_in_scope seen act.Continue n rest = refl
layer_in_scope seen (act.Return value) n rest = refl

statement_in_scope : (seen : List ℕ) (s : CoreStatement) (rest : Code) → in_scope seen (statement_code s rest) ≡ (act_in_scope seen (act_code s.act 0 done) && in_scope (seen ++ s.number ∷ []) rest)
statement_in_scope seen s rest =
    ap (λ f. in_scope seen (f rest)) (statement_is s)
    ∙ (ap (λ f. in_scope seen (f s.number rest)) (act_is s.act)
    ∙ (layer_in_scope seen (out-Act s.act) s.number rest ∙ ap (λ f. act_in_scope seen (f 0 done) && in_scope (seen ++ s.number ∷ []) rest) (sym (act_is s.act))))

pub if_in_scope : (seen : List ℕ) (cond : Operand) (one two : List CoreStatement) → act_in_scope seen (act_code (If cond one two) 0 done) ≡ (names_one seen cond && (in_scope seen (code_of one) && in_scope seen (code_of two)))
if_in_scope seen cond one two = ap (λ f. act_in_scope seen (f 0 done)) (act_is (If cond one two)) ∙ ap (λ y. act_in_scope seen (act_before (layer y) 0 done)) (outs-If cond one two)

pub switch_in_scope : (seen : List ℕ) (selector : Operand) (parts : List SwitchPart) → act_in_scope seen (act_code (Switch selector parts) 0 done) ≡ (names_one seen selector && in_scope seen (parts_from 0 0 (map part_code parts)))
switch_in_scope seen selector parts = ap (λ f. act_in_scope seen (f 0 done)) (act_is (Switch selector parts)) ∙ ap (λ y. act_in_scope seen (act_before (layer y) 0 done)) (outs-Switch selector parts)

pub loop_in_scope : (seen : List ℕ) (body continuing : List CoreStatement) (leave : Option Operand)
    → act_in_scope seen (act_code (Loop body continuing leave) 0 done)
    ≡ (in_scope seen (code_of body) && (in_scope (seen ++ unskipped (code_of body)) (code_of continuing) && maybe_names (seen ++ unskipped (code_of body) ++ listed (code_of continuing)) leave))
loop_in_scope seen body continuing leave = ap (λ f. act_in_scope seen (f 0 done)) (act_is (Loop body continuing leave)) ∙ ap (λ y. act_in_scope seen (act_before (layer y) 0 done)) (outs-Loop body continuing leave)

-- one more statement: the first one and the others
pub scope_step : (xs : List CoreStatement) (i : ℕ) (x : CoreStatement) (seen new : List ℕ) (b all : Bool) → i < length xs → x ≡ get_or xs i x → new ≡ seen ++ x.number ∷ [] → b ≡ act_in_scope seen (act_code x.act 0 done)
    → in_scope seen (code_of (drop i xs)) ≡ all → (b && in_scope new (code_of (drop (i + 1) xs))) ≡ all
scope_step xs i x seen new b all lt is n e h =
    let rest = code_of (drop (i + 1) xs) in
    ap (λ s. b && in_scope s rest) n ∙ (ap (λ d. d && in_scope (seen ++ x.number ∷ []) rest) e
    ∙ (sym (statement_in_scope seen x rest) ∙ (ap (λ ys. in_scope seen (code_of ys)) (sym (drop_here xs i x lt is)) ∙ h)))

pub scope_part_step : (xs : List SwitchPart) (i : ℕ) (x : SwitchPart) (seen : List ℕ) (b all : Bool) → i < length xs → x ≡ get_or xs i x → b ≡ in_scope seen (code_of (out-SwitchPart x).body)
    → in_scope seen (parts_from 0 0 (map part_code (drop i xs))) ≡ all → (b && in_scope seen (parts_from 0 0 (map part_code (drop (i + 1) xs)))) ≡ all
scope_part_step xs i x seen b all lt is e h =
    ap (λ d. d && in_scope seen (parts_from 0 0 (map part_code (drop (i + 1) xs)))) e
    ∙ (ap (λ d. in_scope seen (code_of (out-SwitchPart x).body) && d) (parts_scope_same seen (drop (i + 1) xs) 0 0 0 1)
    ∙ (sym (part_in_scope seen x 0 0 (parts_from 0 1 (map part_code (drop (i + 1) xs)))) ∙ (ap (λ ys. in_scope seen (parts_from 0 0 (map part_code ys))) (sym (drop_here xs i x lt is)) ∙ h)))

-- ---- the same, by what the first one told

pub continues_next : (xs : List CoreStatement) (i : ℕ) (x : CoreStatement) (all : Bool) → i < length xs → x ≡ get_or xs i x → continues (act_code x.act 0 done) ≡ false → continues (code_of (drop i xs)) ≡ all
    → continues (code_of (drop (i + 1) xs)) ≡ all
continues_next xs i x all lt is e h = continues_step xs i x false all lt is (sym e) h

pub continues_here : (xs : List CoreStatement) (i : ℕ) (x : CoreStatement) (all : Bool) → i < length xs → x ≡ get_or xs i x → continues (act_code x.act 0 done) ≡ true → continues (code_of (drop i xs)) ≡ all → true ≡ all
continues_here xs i x all lt is e h = continues_step xs i x true all lt is (sym e) h

pub part_continues_next : (xs : List SwitchPart) (i : ℕ) (x : SwitchPart) (all : Bool) → i < length xs → x ≡ get_or xs i x → continues (code_of (out-SwitchPart x).body) ≡ false → continues (parts_from 0 0 (map part_code (drop i xs))) ≡ all
    → continues (parts_from 0 0 (map part_code (drop (i + 1) xs))) ≡ all
part_continues_next xs i x all lt is e h = part_continues_step xs i x false all lt is (sym e) h

pub part_continues_here : (xs : List SwitchPart) (i : ℕ) (x : SwitchPart) (all : Bool) → i < length xs → x ≡ get_or xs i x → continues (code_of (out-SwitchPart x).body) ≡ true → continues (parts_from 0 0 (map part_code (drop i xs))) ≡ all → true ≡ all
part_continues_here xs i x all lt is e h = part_continues_step xs i x true all lt is (sym e) h

pub scope_next : (xs : List CoreStatement) (i : ℕ) (x : CoreStatement) (seen new : List ℕ) (all : Bool) → i < length xs → x ≡ get_or xs i x → new ≡ seen ++ x.number ∷ [] → act_in_scope seen (act_code x.act 0 done) ≡ true
    → in_scope seen (code_of (drop i xs)) ≡ all → in_scope new (code_of (drop (i + 1) xs)) ≡ all
scope_next xs i x seen new all lt is n e h = scope_step xs i x seen new true all lt is n (sym e) h

pub scope_never : (xs : List CoreStatement) (i : ℕ) (x : CoreStatement) (seen : List ℕ) (all : Bool) → i < length xs → x ≡ get_or xs i x → act_in_scope seen (act_code x.act 0 done) ≡ false → in_scope seen (code_of (drop i xs)) ≡ all → false ≡ all
scope_never xs i x seen all lt is e h = scope_step xs i x seen (seen ++ x.number ∷ []) false all lt is refl (sym e) h

pub scope_part_next : (xs : List SwitchPart) (i : ℕ) (x : SwitchPart) (seen : List ℕ) (all : Bool) → i < length xs → x ≡ get_or xs i x → in_scope seen (code_of (out-SwitchPart x).body) ≡ true
    → in_scope seen (parts_from 0 0 (map part_code (drop i xs))) ≡ all → in_scope seen (parts_from 0 0 (map part_code (drop (i + 1) xs))) ≡ all
scope_part_next xs i x seen all lt is e h = scope_part_step xs i x seen true all lt is (sym e) h

pub scope_part_never : (xs : List SwitchPart) (i : ℕ) (x : SwitchPart) (seen : List ℕ) (all : Bool) → i < length xs → x ≡ get_or xs i x → in_scope seen (code_of (out-SwitchPart x).body) ≡ false
    → in_scope seen (parts_from 0 0 (map part_code (drop i xs))) ≡ all → false ≡ all
scope_part_never xs i x seen all lt is e h = scope_part_step xs i x seen false all lt is (sym e) h

-- ---- what an early answer means

pub and_false : (a b : Bool) → a ≡ false → false ≡ (a && b)
and_false a b e = ap (λ x. x && b) (sym e)

pub and_second : (a b c : Bool) → a ≡ true → b ≡ false → false ≡ (a && (b && c))
and_second a b c e f = ap (λ y. y && c) (sym f) ∙ ap (λ x. x && (b && c)) (sym e)

pub and_third : (a b c r : Bool) → a ≡ true → b ≡ true → r ≡ c → r ≡ (a && (b && c))
and_third a b c r e f g = g ∙ (ap (λ y. y && c) (sym f) ∙ ap (λ x. x && (b && c)) (sym e))
