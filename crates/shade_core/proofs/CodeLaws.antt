-- The behaviour of statements before others, and of one layer of a statement.
use Rattle.std.proofs.Common.{◌≡◌, refl, suc, sym, ap, ◌∙◌, Bool, true, false, ◌||◌, ℕ, ◌+◌, ◌<◌, List, [], ◌∷◌, length, get_or, drop, map, add-one, drop-cons, Option}
use Rattle.std.specs.Prelude.{is_some}
use Rattle.shade_core.specs.declared.behaviour.Behaviour.{Behaviour}
use Rattle.shade_core.specs.declared.statement.Operand.{Operand}
use Rattle.shade_core.specs.declared.statement.Act.{Act, Act-F, out-Act, map-Act, fold_out-Act}
use Rattle.shade_core.specs.declared.statement.Act.TheVariants.{If, outs-If, Switch, outs-Switch, Loop, outs-Loop}
use Rattle.shade_core.specs.declared.statement.Act.TheOpen as act
use Rattle.shade_core.specs.declared.statement.CoreStatement.{CoreStatement, fold_out-CoreStatement}
use Rattle.shade_core.specs.declared.statement.SwitchPart.{SwitchPart, out-SwitchPart, fold_out-SwitchPart}
use Rattle.shade_core.specs.Behaviour.{set_of, joined, in_turn, next_only, no_way, after_switch, after_loop, behaviour}
use Rattle.shade_core.specs.Code.{Code, done, parts_from, act_before, statement_before, part_before, act_code, statement_code, part_code, code_of}

pub drop_here : {A : Type 0} (xs : List A) (i : ℕ) (x : A) → i < length xs → x ≡ get_or xs i x → drop i xs ≡ x ∷ drop (i + 1) xs
drop_here xs i x lt is = drop-cons xs i x lt ∙ ap (λ y. y ∷ drop (suc i) xs) (sym is) ∙ ap (λ j. x ∷ drop j xs) (sym (add-one i))

or_assoc : (a b c : Bool) → ((a || b) || c) ≡ (a || (b || c))
or_assoc true b c = refl
or_assoc false b c = refl

or_false : (a : Bool) → (a || false) ≡ a
or_false true = refl
or_false false = refl

turn_assoc_by : (n m : Bool) (ab ac ar bb bc br : Bool) (c : Behaviour) → in_turn (in_turn (set_of n ab ac ar) (set_of m bb bc br)) c ≡ in_turn (set_of n ab ac ar) (in_turn (set_of m bb bc br) c)
turn_assoc_by false m ab ac ar bb bc br c = refl
turn_assoc_by true false ab ac ar bb bc br c = refl
turn_assoc_by true true ab ac ar bb bc br c = λ i. set_of c.next (or_assoc ab bb c.breaks i) (or_assoc ac bc c.continues i) (or_assoc ar br c.returns i)

pub turn_assoc : (a b c : Behaviour) → in_turn (in_turn a b) c ≡ in_turn a (in_turn b c)
turn_assoc a b c = turn_assoc_by a.next b.next a.breaks a.continues a.returns b.breaks b.continues b.returns c

turn_next_by : (n ab ac ar : Bool) → in_turn (set_of n ab ac ar) next_only ≡ set_of n ab ac ar
turn_next_by false ab ac ar = refl
turn_next_by true ab ac ar = λ i. set_of true (or_false ab i) (or_false ac i) (or_false ar i)

pub turn_next : (a : Behaviour) → in_turn a next_only ≡ a
turn_next a = turn_next_by a.next a.breaks a.continues a.returns

pub joined_assoc : (a b c : Behaviour) → joined (joined a b) c ≡ joined a (joined b c)
joined_assoc a b c = λ i. set_of (or_assoc a.next b.next c.next i) (or_assoc a.breaks b.breaks c.breaks i) (or_assoc a.continues b.continues c.continues i) (or_assoc a.returns b.returns c.returns i)

pub joined_none : (a : Behaviour) → joined a no_way ≡ a
joined_none a = λ i. set_of (or_false a.next i) (or_false a.breaks i) (or_false a.continues i) (or_false a.returns i)

abbrev pub layer : Act-F Act CoreStatement SwitchPart → Act-F (ℕ → Code → Code) (Code → Code) (ℕ → ℕ → Code → Code)
layer y = map-Act Act CoreStatement SwitchPart (ℕ → Code → Code) (Code → Code) (ℕ → ℕ → Code → Code) act_code statement_code part_code y

pub act_is : (a : Act) → act_code a ≡ act_before (layer (out-Act a))
act_is a = fold_out-Act (ℕ → Code → Code) (Code → Code) (ℕ → ℕ → Code → Code) act_before statement_before part_before a

pub statement_is : (s : CoreStatement) → statement_code s ≡ (λ rest. act_code s.act s.number rest)
statement_is s = fold_out-CoreStatement (ℕ → Code → Code) (Code → Code) (ℕ → ℕ → Code → Code) act_before statement_before part_before s

pub if_is : (cond : Operand) (one two : List CoreStatement) → behaviour (act_code (If cond one two) 0 done) ≡ joined (behaviour (code_of one)) (behaviour (code_of two))
if_is cond one two = ap (λ f. behaviour (f 0 done)) (act_is (If cond one two)) ∙ ap (λ y. behaviour (act_before (layer y) 0 done)) (outs-If cond one two) ∙ turn_next (joined (behaviour (code_of one)) (behaviour (code_of two)))

pub loop_is : (body continuing : List CoreStatement) (leave : Option Operand) → behaviour (act_code (Loop body continuing leave) 0 done) ≡ after_loop (joined (behaviour (code_of body)) (behaviour (code_of continuing))) (is_some leave)
loop_is body continuing leave = ap (λ f. behaviour (f 0 done)) (act_is (Loop body continuing leave)) ∙ ap (λ y. behaviour (act_before (layer y) 0 done)) (outs-Loop body continuing leave) ∙ turn_next (after_loop (joined (behaviour (code_of body)) (behaviour (code_of continuing))) (is_some leave))

pub switch_is : (selector : Operand) (parts : List SwitchPart) → behaviour (act_code (Switch selector parts) 0 done) ≡ after_switch (behaviour (parts_from 0 0 (map part_code parts)))
switch_is selector parts = ap (λ f. behaviour (f 0 done)) (act_is (Switch selector parts)) ∙ ap (λ y. behaviour (act_before (layer y) 0 done)) (outs-Switch selector parts) ∙ turn_next (after_switch (behaviour (parts_from 0 0 (map part_code parts))))

-- a part of a switch before other parts
pub part_turn : (q : SwitchPart) (n which : ℕ) (others : Code) → behaviour (part_code q n which others) ≡ joined (behaviour (code_of (out-SwitchPart q).body)) (behaviour others)
part_turn q n which others =
    ap (λ f. behaviour (f n which others)) (fold_out-SwitchPart (ℕ → Code → Code) (Code → Code) (ℕ → ℕ → Code → Code) act_before statement_before part_before q)

-- the numbers of parts say nothing of where control goes
pub parts_same : (parts : List SwitchPart) (n p m q : ℕ) → behaviour (parts_from n p (map part_code parts)) ≡ behaviour (parts_from m q (map part_code parts))
parts_same [] n p m q = refl
parts_same (x ∷ parts) n p m q =
    part_turn x n p (parts_from n (p + 1) (map part_code parts))
    ∙ (ap (λ b. joined (behaviour (code_of (out-SwitchPart x).body)) b) (parts_same parts n (p + 1) m (q + 1)) ∙ sym (part_turn x m q (parts_from m (q + 1) (map part_code parts))))

layer_turn : (y : Act-F Act CoreStatement SwitchPart) (n : ℕ) (rest : Code) → behaviour (act_before (layer y) n rest) ≡ in_turn (behaviour (act_before (layer y) 0 done)) (behaviour rest)
layer_turn (act.Set op args) n rest = refl
layer_turn (act.Load view) n rest = refl
layer_turn (act.Declare local value) n rest = refl
layer_turn (act.Store view value) n rest = refl
layer_turn (act.Atomic op view args) n rest = refl
layer_turn (act.Call function args) n rest = refl
layer_turn (act.Barrier space severity) n rest = refl
layer_turn (act.UniformLoad view severity) n rest = refl
layer_turn (act.Length view) n rest = refl
layer_turn (act.If cond one two) n rest = ap (λ b. in_turn b (behaviour rest)) (sym (turn_next (joined (behaviour (code_of one)) (behaviour (code_of two)))))
layer_turn (act.Switch selector parts) n rest =
    ap (λ b. in_turn (after_switch b) (behaviour rest)) (parts_same parts n 0 0 0) ∙ ap (λ b. in_turn b (behaviour rest)) (sym (turn_next (after_switch (behaviour (parts_from 0 0 (map part_code parts))))))
layer_turn (act.Loop body continuing leave) n rest =
    ap (λ b. in_turn b (behaviour rest)) (sym (turn_next (after_loop (joined (behaviour (code_of body)) (behaviour (code_of continuing))) (is_some leave))))
layer_turn act.Break n rest = refl
layer_turn act.Continue n rest = refl
layer_turn (act.Return value) n rest = refl

pub act_turn : (a : Act) (n : ℕ) (rest : Code) → behaviour (act_code a n rest) ≡ in_turn (behaviour (act_code a 0 done)) (behaviour rest)
act_turn a n rest =
    ap (λ f. behaviour (f n rest)) (act_is a) ∙ (layer_turn (out-Act a) n rest ∙ ap (λ f. in_turn (behaviour (f 0 done)) (behaviour rest)) (sym (act_is a)))

pub statement_turn : (s : CoreStatement) (rest : Code) → behaviour (statement_code s rest) ≡ in_turn (behaviour (act_code s.act 0 done)) (behaviour rest)
statement_turn s rest = ap (λ f. behaviour (f rest)) (statement_is s) ∙ act_turn s.act s.number rest

-- one more statement
pub turn_step : (xs : List CoreStatement) (i : ℕ) (x : CoreStatement) (so_far new b all : Behaviour) → i < length xs → x ≡ get_or xs i x → new ≡ in_turn so_far b → b ≡ behaviour (act_code x.act 0 done)
    → in_turn so_far (behaviour (code_of (drop i xs))) ≡ all → in_turn new (behaviour (code_of (drop (i + 1) xs))) ≡ all
turn_step xs i x so_far new b all lt is n e h =
    ap (λ z. in_turn z (behaviour (code_of (drop (i + 1) xs)))) (n ∙ ap (λ z. in_turn so_far z) e)
    ∙ (turn_assoc so_far (behaviour (act_code x.act 0 done)) (behaviour (code_of (drop (i + 1) xs)))
    ∙ (ap (λ z. in_turn so_far z) (sym (statement_turn x (code_of (drop (i + 1) xs)))) ∙ (ap (λ ys. in_turn so_far (behaviour (code_of ys))) (sym (drop_here xs i x lt is)) ∙ h)))

-- one more part
pub part_step : (xs : List SwitchPart) (i : ℕ) (x : SwitchPart) (so_far new b all : Behaviour) → i < length xs → x ≡ get_or xs i x → new ≡ joined so_far b → b ≡ behaviour (code_of (out-SwitchPart x).body)
    → joined so_far (behaviour (parts_from 0 0 (map part_code (drop i xs)))) ≡ all → joined new (behaviour (parts_from 0 0 (map part_code (drop (i + 1) xs)))) ≡ all
part_step xs i x so_far new b all lt is n e h =
    ap (λ z. joined z (behaviour (parts_from 0 0 (map part_code (drop (i + 1) xs))))) (n ∙ ap (λ z. joined so_far z) e)
    ∙ (joined_assoc so_far (behaviour (code_of (out-SwitchPart x).body)) (behaviour (parts_from 0 0 (map part_code (drop (i + 1) xs))))
    ∙ (ap (λ z. joined so_far (joined (behaviour (code_of (out-SwitchPart x).body)) z)) (parts_same (drop (i + 1) xs) 0 0 0 1)
    ∙ (ap (λ z. joined so_far z) (sym (part_turn x 0 0 (parts_from 0 1 (map part_code (drop (i + 1) xs))))) ∙ (ap (λ ys. joined so_far (behaviour (parts_from 0 0 (map part_code ys)))) (sym (drop_here xs i x lt is)) ∙ h))))
