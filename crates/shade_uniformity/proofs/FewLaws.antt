-- Functions whose switches have few parts, statement by statement.
use Rattle.std.proofs.Common.{◌≡◌, refl, sym, ap, ap₂, ◌∙◌, arith, ℕ, zero, suc, ◌+◌, ◌<◌, Bool, true, false, ◌&&◌, leb, List, [], ◌∷◌, length, map, drop, get_or}
use Rattle.std.proofs.lemmas.Bool.Decides.{nat_tests}
use Rattle.std.proofs.lemmas.List.{length-map}
use Rattle.shade_core.specs.declared.statement.Act.{out-Act}
use Rattle.shade_core.specs.declared.statement.Act.TheOpen as act
use Rattle.shade_core.specs.declared.statement.CoreStatement.{CoreStatement}
use Rattle.shade_core.specs.declared.statement.SwitchPart.{SwitchPart, out-SwitchPart, fold_out-SwitchPart}
use Rattle.shade_core.specs.Code.{Code, parts_from, act_before, statement_before, part_before, statement_code, part_code, code_of}
use Rattle.shade_core.specs.Standing.{cases_of, case_of}
use Rattle.shade_core.proofs.CodeLaws.{layer, act_is, statement_is, drop_here}
use Rattle.shade_flow.specs.Counted.{are_few}
use Rattle.shade_flow.proofs.Counts.{both_true}
use Rattle.shade_uniformity.specs.Visits.{Layer, few_parts, layer_few}

and_assoc : (a b c : Bool) → (a && (b && c)) ≡ ((a && b) && c)
and_assoc true b c = refl
and_assoc false b c = refl

-- ---- parts of a switch

case_is : (q : SwitchPart) (n which : ℕ) (others : Code) → cases_of (part_code q n which others) ≡ case_of q ∷ cases_of others
case_is q n which others =
    ap (λ f. cases_of (f n which others)) (fold_out-SwitchPart (ℕ → Code → Code) (Code → Code) (ℕ → ℕ → Code → Code) act_before statement_before part_before q)

pub cases_are : (parts : List SwitchPart) (n p : ℕ) → cases_of (parts_from n p (map part_code parts)) ≡ map case_of parts
cases_are [] n p = refl
cases_are (x ∷ parts) n p = case_is x n p (parts_from n (p + 1) (map part_code parts)) ∙ ap (λ cs. case_of x ∷ cs) (cases_are parts n (p + 1))

few_same : (parts : List SwitchPart) (n p : ℕ) → are_few (cases_of (parts_from n p (map part_code parts))) ≡ are_few parts
few_same parts n p = ap (λ (k : ℕ). leb k 4294967295) (ap length (cases_are parts n p) ∙ length-map parts case_of)

part_turn : (q : SwitchPart) (n which : ℕ) (others : Code) → few_parts (part_code q n which others) ≡ (few_parts (code_of (out-SwitchPart q).body) && few_parts others)
part_turn q n which others =
    ap (λ f. few_parts (f n which others)) (fold_out-SwitchPart (ℕ → Code → Code) (Code → Code) (ℕ → ℕ → Code → Code) act_before statement_before part_before q)

-- the numbers of parts say nothing of it
parts_same : (parts : List SwitchPart) (n p m q : ℕ) → few_parts (parts_from n p (map part_code parts)) ≡ few_parts (parts_from m q (map part_code parts))
parts_same [] n p m q = refl
parts_same (x ∷ parts) n p m q =
    part_turn x n p (parts_from n (p + 1) (map part_code parts))
    ∙ (ap (λ b. few_parts (code_of (out-SwitchPart x).body) && b) (parts_same parts n (p + 1) m (q + 1)) ∙ sym (part_turn x m q (parts_from m (q + 1) (map part_code parts))))

-- ---- statement by statement

layer_turn : (y : Layer) (n : ℕ) (rest : Code) → few_parts (act_before (layer y) n rest) ≡ (layer_few y && few_parts rest)
layer_turn (act.If cond one two) n rest = and_assoc (few_parts (code_of one)) (few_parts (code_of two)) (few_parts rest)
layer_turn (act.Switch selector parts) n rest = ap₂ (λ a b. (a && b) && few_parts rest) (few_same parts n 0) (parts_same parts n 0 0 0)
layer_turn (act.Loop body continuing leave) n rest = and_assoc (few_parts (code_of body)) (few_parts (code_of continuing)) (few_parts rest)
layer_turn (act.Set op args) n rest = refl
layer_turn (act.Load view) n rest = refl
layer_turn (act.Declare local value) n rest = refl
layer_turn (act.Store view value) n rest = refl
layer_turn (act.Atomic op view args) n rest = refl
layer_turn (act.Call function args) n rest = refl
layer_turn (act.Barrier space severity) n rest = refl
layer_turn (act.UniformLoad view severity) n rest = refl
layer_turn (act.Length view) n rest = refl
layer_turn act.Break n rest = refl
layer_turn act.Continue n rest = refl
layer_turn (act.Return value) n rest = refl

statement_turn : (s : CoreStatement) (rest : Code) → few_parts (statement_code s rest) ≡ (layer_few (out-Act s.act) && few_parts rest)
statement_turn s rest = ap (λ f. few_parts (f rest)) (statement_is s) ∙ (ap (λ f. few_parts (f s.number rest)) (act_is s.act) ∙ layer_turn (out-Act s.act) s.number rest)

list_at : (xs : List CoreStatement) (i : ℕ) (x : CoreStatement) → i < length xs → x ≡ get_or xs i x → few_parts (code_of (drop i xs)) ≡ (layer_few (out-Act x.act) && few_parts (code_of (drop (i + 1) xs)))
list_at xs i x lt is = ap (λ ys. few_parts (code_of ys)) (drop_here xs i x lt is) ∙ statement_turn x (code_of (drop (i + 1) xs))

rest_few : (xs : List CoreStatement) (i : ℕ) → few_parts (code_of xs) ≡ true → few_parts (code_of (drop i xs)) ≡ true
rest_few xs zero h = h
rest_few [] (suc i) h = refl
rest_few (x ∷ xs) (suc i) h = rest_few xs i (both_true (layer_few (out-Act x.act)) (few_parts (code_of xs)) (sym (statement_turn x (code_of xs)) ∙ h)).1

-- each statement of a list
pub each_few : (xs all : List CoreStatement) (i : ℕ) (x : CoreStatement) → x ≡ get_or xs i x → i < length xs → xs ≡ all → few_parts (code_of all) ≡ true → layer_few (out-Act x.act) ≡ true
each_few xs all i x is lt same h =
    let few : few_parts (code_of xs) ≡ true = ap (λ ys. few_parts (code_of ys)) same ∙ h in
    (both_true (layer_few (out-Act x.act)) (few_parts (code_of (drop (i + 1) xs))) (sym (list_at xs i x lt is) ∙ rest_few xs i few)).0

-- ---- part by part

parts_at : (xs : List SwitchPart) (i : ℕ) (x : SwitchPart) → i < length xs → x ≡ get_or xs i x
    → few_parts (parts_from 0 0 (map part_code (drop i xs))) ≡ (few_parts (code_of (out-SwitchPart x).body) && few_parts (parts_from 0 0 (map part_code (drop (i + 1) xs))))
parts_at xs i x lt is =
    ap (λ ys. few_parts (parts_from 0 0 (map part_code ys))) (drop_here xs i x lt is)
    ∙ (part_turn x 0 0 (parts_from 0 1 (map part_code (drop (i + 1) xs))) ∙ ap (λ b. few_parts (code_of (out-SwitchPart x).body) && b) (parts_same (drop (i + 1) xs) 0 1 0 0))

parts_left : (xs : List SwitchPart) (i : ℕ) → few_parts (parts_from 0 0 (map part_code xs)) ≡ true → few_parts (parts_from 0 0 (map part_code (drop i xs))) ≡ true
parts_left xs zero h = h
parts_left [] (suc i) h = refl
parts_left (x ∷ xs) (suc i) h =
    let one = both_true (few_parts (code_of (out-SwitchPart x).body)) (few_parts (parts_from 0 1 (map part_code xs))) (sym (part_turn x 0 0 (parts_from 0 1 (map part_code xs))) ∙ h) in
    parts_left xs i (parts_same xs 0 0 0 1 ∙ one.1)

-- each part of those of a switch
pub each_part_few : (xs all : List SwitchPart) (i : ℕ) (x : SwitchPart) → x ≡ get_or xs i x → i < length xs → xs ≡ all → (are_few all && few_parts (parts_from 0 0 (map part_code all))) ≡ true → few_parts (code_of (out-SwitchPart x).body) ≡ true
each_part_few xs all i x is lt same h =
    let few : few_parts (parts_from 0 0 (map part_code xs)) ≡ true = ap (λ ys. few_parts (parts_from 0 0 (map part_code ys))) same ∙ (both_true (are_few all) (few_parts (parts_from 0 0 (map part_code all))) h).1 in
    (both_true (few_parts (code_of (out-SwitchPart x).body)) (few_parts (parts_from 0 0 (map part_code (drop (i + 1) xs)))) (sym (parts_at xs i x lt is) ∙ parts_left xs i few)).0

-- and how many there are
leb_lt : (n : ℕ) → leb n 4294967295 ≡ true → n < 4294967296
leb_lt n e = grind (arith, nat_tests)

pub few_long : (xs all : List SwitchPart) → xs ≡ all → (are_few all && few_parts (parts_from 0 0 (map part_code all))) ≡ true → length xs < 4294967296
few_long xs all same h = leb_lt (length xs) (ap (λ (ys : List SwitchPart). leb (length ys) 4294967295) same ∙ (both_true (are_few all) (few_parts (parts_from 0 0 (map part_code all))) h).0)
