-- What is found of a list, one statement after another.
use Rattle.std.proofs.Common.{◌≡◌, refl, sym, ap, ap₂, ◌∙◌, ℕ, zero, suc, ◌+◌, ◌<◌, Bool, true, false, List, [], ◌∷◌, ◌++◌, length, get_or, drop, map, append_assoc, Option, None, arith}
use Rattle.std.specs.Prelude.{is_some, slice_set}
use Rattle.std.proofs.lemmas.List.{map-append, length-map, length-append}
use Rattle.shade_base.specs.declared.place.Place.{Place}
use Rattle.shade_core.specs.declared.statement.Operand.{Operand}
use Rattle.shade_core.specs.declared.statement.Act.{Act, Act-F, out-Act}
use Rattle.shade_core.specs.declared.statement.Act.TheVariants.{If, outs-If, Switch, outs-Switch, Loop, outs-Loop}
use Rattle.shade_core.specs.declared.statement.Act.TheOpen as act
use Rattle.shade_core.specs.declared.statement.CoreStatement.{CoreStatement, fold_out-CoreStatement}
use Rattle.shade_core.specs.declared.statement.SwitchPart.{SwitchPart, out-SwitchPart, fold_out-SwitchPart}
use Rattle.shade_core.specs.Code.{Code, done, plain, jump, call, branch, switch, loop, no_part, part, parts_from, act_before, statement_before, part_before, act_code, statement_code, part_code, code_of}
use Rattle.shade_core.specs.Behaviour.{joined, after_switch, after_loop, jump_behaviour, behaviour, branch_behaviour, switch_behaviour, loop_behaviour, next_only, behaviours}
use Rattle.shade_core.specs.Control.{jump_fault, loop_fault, faults}
use Rattle.shade_core.specs.Places as places
use Rattle.shade_core.specs.Places.{all_of, list_places, part_places, places_in, statement_places}
use Rattle.shade_core.proofs.CodeLaws as laws
use Rattle.shade_core.proofs.CodeLaws.{layer, act_is, statement_is, drop_here, turn_next}
use Rattle.shade_rules.specs.declared.statements.Told.{Told}
use Rattle.shade_rules.specs.declared.statements.Finding.{Finding}
use Rattle.shade_rules.specs.Findings.{told, told_of, set_of, fault_of, loop_told, findings, first_told, inside}

-- a part of a switch before other parts
part_is : (b c : Bool) (q : SwitchPart) (n which : ℕ) (others : Code) → findings b c (part_code q n which others) ≡ findings b c (code_of (out-SwitchPart q).body) ++ findings b c others
part_is b c q n which others =
    ap (λ f. findings b c (f n which others)) (fold_out-SwitchPart (ℕ → Code → Code) (Code → Code) (ℕ → ℕ → Code → Code) act_before statement_before part_before q)

-- the numbers of parts do not count
parts_same : (b c : Bool) (parts : List SwitchPart) (n p m q : ℕ) → findings b c (parts_from n p (map part_code parts)) ≡ findings b c (parts_from m q (map part_code parts))
parts_same b c [] n p m q = refl
parts_same b c (x ∷ parts) n p m q =
    part_is b c x n p (parts_from n (p + 1) (map part_code parts))
    ∙ (ap (λ l. findings b c (code_of (out-SwitchPart x).body) ++ l) (parts_same b c parts n (p + 1) m (q + 1)) ∙ sym (part_is b c x m q (parts_from m (q + 1) (map part_code parts))))

-- the first statement, then those of its parts, then the others
layer_is : (b c : Bool) (y : Act-F Act CoreStatement SwitchPart) (n : ℕ) (rest : Code) → findings b c (act_before (layer y) n rest) ≡ first_told b c (act_before (layer y) 0 done) ∷ inside b c (act_before (layer y) 0 done) ++ findings b c rest
layer_is b c (act.Set op args) n rest = refl
layer_is b c (act.Load view) n rest = refl
layer_is b c (act.Declare local value) n rest = refl
layer_is b c (act.Store view value) n rest = refl
layer_is b c (act.Atomic op view args) n rest = refl
layer_is b c (act.Call function args) n rest = refl
layer_is b c (act.Barrier space severity) n rest = refl
layer_is b c (act.UniformLoad view severity) n rest = refl
layer_is b c (act.Length view) n rest = refl
layer_is b c (act.If cond one two) n rest = refl
layer_is b c (act.Switch selector parts) n rest =
    λ i. told (after_switch (laws.parts_same parts n 0 0 0 i)) None ∷ parts_same true c parts n 0 0 0 i ++ findings b c rest
layer_is b c (act.Loop body continuing leave) n rest = refl
layer_is b c act.Break n rest = refl
layer_is b c act.Continue n rest = refl
layer_is b c (act.Return value) n rest = refl

statement_first : (b c : Bool) (s : CoreStatement) (rest : Code) → findings b c (statement_code s rest) ≡ first_told b c (act_code s.act 0 done) ∷ inside b c (act_code s.act 0 done) ++ findings b c rest
statement_first b c s rest =
    ap (λ f. findings b c (f rest)) (statement_is s)
    ∙ (ap (λ f. findings b c (f s.number rest)) (act_is s.act)
    ∙ (layer_is b c (out-Act s.act) s.number rest ∙ ap (λ f. first_told b c (f 0 done) ∷ inside b c (f 0 done) ++ findings b c rest) (sym (act_is s.act))))

-- what is told of a statement has its behaviour
layer_set : (b c : Bool) (y : Act-F Act CoreStatement SwitchPart) → (first_told b c (act_before (layer y) 0 done)).set ≡ behaviour (act_before (layer y) 0 done)
layer_set b c (act.Set op args) = refl
layer_set b c (act.Load view) = refl
layer_set b c (act.Declare local value) = refl
layer_set b c (act.Store view value) = refl
layer_set b c (act.Atomic op view args) = refl
layer_set b c (act.Call function args) = refl
layer_set b c (act.Barrier space severity) = refl
layer_set b c (act.UniformLoad view severity) = refl
layer_set b c (act.Length view) = refl
layer_set b c (act.If cond one two) = sym (turn_next (joined (behaviour (code_of one)) (behaviour (code_of two))))
layer_set b c (act.Switch selector parts) = sym (turn_next (after_switch (behaviour (parts_from 0 0 (map part_code parts)))))
layer_set b c (act.Loop body continuing leave) = sym (turn_next (after_loop (joined (behaviour (code_of body)) (behaviour (code_of continuing))) (is_some leave)))
layer_set b c act.Break = refl
layer_set b c act.Continue = refl
layer_set b c (act.Return value) = refl

pub first_set : (b c : Bool) (a : Act) → (first_told b c (act_code a 0 done)).set ≡ behaviour (act_code a 0 done)
first_set b c a = ap (λ f. (first_told b c (f 0 done)).set) (act_is a) ∙ (layer_set b c (out-Act a) ∙ ap (λ f. behaviour (f 0 done)) (sym (act_is a)))

-- ---- acts with parts

pub if_told : (b c : Bool) (cond : Operand) (one two : List CoreStatement) → first_told b c (act_code (If cond one two) 0 done) ≡ told (joined (behaviour (code_of one)) (behaviour (code_of two))) None
if_told b c cond one two = ap (λ f. first_told b c (f 0 done)) (act_is (If cond one two)) ∙ ap (λ y. first_told b c (act_before (layer y) 0 done)) (outs-If cond one two)

pub if_inside : (b c : Bool) (cond : Operand) (one two : List CoreStatement) → inside b c (act_code (If cond one two) 0 done) ≡ findings b c (code_of one) ++ findings b c (code_of two)
if_inside b c cond one two = ap (λ f. inside b c (f 0 done)) (act_is (If cond one two)) ∙ ap (λ y. inside b c (act_before (layer y) 0 done)) (outs-If cond one two)

pub switch_told : (b c : Bool) (selector : Operand) (parts : List SwitchPart) → first_told b c (act_code (Switch selector parts) 0 done) ≡ told (after_switch (behaviour (parts_from 0 0 (map part_code parts)))) None
switch_told b c selector parts =
    ap (λ f. first_told b c (f 0 done)) (act_is (Switch selector parts)) ∙ ap (λ y. first_told b c (act_before (layer y) 0 done)) (outs-Switch selector parts)

pub switch_inside : (b c : Bool) (selector : Operand) (parts : List SwitchPart) → inside b c (act_code (Switch selector parts) 0 done) ≡ findings true c (parts_from 0 0 (map part_code parts))
switch_inside b c selector parts = ap (λ f. inside b c (f 0 done)) (act_is (Switch selector parts)) ∙ ap (λ y. inside b c (act_before (layer y) 0 done)) (outs-Switch selector parts)

pub loop_told_is : (b c : Bool) (body continuing : List CoreStatement) (leave : Option Operand) → first_told b c (act_code (Loop body continuing leave) 0 done) ≡ loop_told (code_of body) (code_of continuing) leave
loop_told_is b c body continuing leave =
    ap (λ f. first_told b c (f 0 done)) (act_is (Loop body continuing leave)) ∙ ap (λ y. first_told b c (act_before (layer y) 0 done)) (outs-Loop body continuing leave)

pub loop_inside : (b c : Bool) (body continuing : List CoreStatement) (leave : Option Operand)
    → inside b c (act_code (Loop body continuing leave) 0 done) ≡ findings true true (code_of body) ++ findings true true (code_of continuing)
loop_inside b c body continuing leave =
    ap (λ f. inside b c (f 0 done)) (act_is (Loop body continuing leave)) ∙ ap (λ y. inside b c (act_before (layer y) 0 done)) (outs-Loop body continuing leave)

-- ---- a statement's own finding, which is written when those of its parts are known

set_seam : {A : Type 0} (xs : List A) (y : A) (ys : List A) (z : A) → slice_set (xs ++ y ∷ ys) (length xs) z ≡ xs ++ z ∷ ys
set_seam [] y ys z = refl
set_seam (x ∷ xs) y ys z = ap (λ l. x ∷ l) (set_seam xs y ys z)

pub map_set : {A B : Type 0} (f : A → B) (xs : List A) (i : ℕ) (z : A) → map f (slice_set xs i z) ≡ slice_set (map f xs) i (f z)
map_set f [] i z = refl
map_set f (x ∷ xs) zero z = refl
map_set f (x ∷ xs) (suc i) z = ap (λ l. f x ∷ l) (map_set f xs i z)

module _ {A B : Type 0} (f : A → B) (old pushed walked : List A) (x : A) (inner : List B) (p : pushed ≡ old ++ x ∷ []) (w : map f walked ≡ map f pushed ++ inner) where
  walked_is : map f walked ≡ map f old ++ f x ∷ inner
  walked_is = w ∙ (ap (λ l. l ++ inner) (ap (map f) p ∙ map-append f old (x ∷ [])) ∙ append_assoc (map f old) (f x ∷ []) inner)

  pub written : (y : A) → map f (slice_set walked (length old) y) ≡ map f old ++ f y ∷ inner
  written y = map_set f walked (length old) y ∙ (ap (λ l. slice_set l (length old) (f y)) walked_is ∙ (ap (λ n. slice_set (map f old ++ f x ∷ inner) n (f y)) (sym (length-map old f)) ∙ set_seam (map f old) (f x) inner (f y)))

  pub within : length old < length walked
  within =
      let long : length walked ≡ length old + length (f x ∷ inner) =
      sym (length-map walked f) ∙ (ap length walked_is ∙ (length-append (map f old) (f x ∷ inner) ∙ ap (λ n. n + length (f x ∷ inner)) (length-map old f))) in
      omega arith

-- ---- one more

pub statement_step : (b c : Bool) (xs : List CoreStatement) (i : ℕ) (x : CoreStatement) (out more all : List Told) → i < length xs → x ≡ get_or xs i x → more ≡ out ++ first_told b c (act_code x.act 0 done) ∷ inside b c (act_code x.act 0 done)
    → out ++ findings b c (code_of (drop i xs)) ≡ all → more ++ findings b c (code_of (drop (i + 1) xs)) ≡ all
statement_step b c xs i x out more all lt is m h =
    let rest : List Told = findings b c (code_of (drop (i + 1) xs)) in
    let own : List Told = first_told b c (act_code x.act 0 done) ∷ inside b c (act_code x.act 0 done) in
    ap (λ l. l ++ rest) m
    ∙ (append_assoc out own rest ∙ (ap (λ l. out ++ l) (sym (statement_first b c x (code_of (drop (i + 1) xs)))) ∙ (ap (λ ys. out ++ findings b c (code_of ys)) (sym (drop_here xs i x lt is)) ∙ h)))

pub part_step : (b c : Bool) (xs : List SwitchPart) (i : ℕ) (x : SwitchPart) (out more all : List Told) → i < length xs → x ≡ get_or xs i x → more ≡ out ++ findings b c (code_of (out-SwitchPart x).body)
    → out ++ findings b c (parts_from 0 0 (map part_code (drop i xs))) ≡ all → more ++ findings b c (parts_from 0 0 (map part_code (drop (i + 1) xs))) ≡ all
part_step b c xs i x out more all lt is m h =
    let rest = parts_from 0 1 (map part_code (drop (i + 1) xs)) in
    let body = findings b c (code_of (out-SwitchPart x).body) in
    ap (λ l. l ++ findings b c (parts_from 0 0 (map part_code (drop (i + 1) xs)))) m
    ∙ (append_assoc out body (findings b c (parts_from 0 0 (map part_code (drop (i + 1) xs))))
    ∙ (ap (λ l. out ++ (body ++ l)) (parts_same b c (drop (i + 1) xs) 0 0 0 1)
    ∙ (ap (λ l. out ++ l) (sym (part_is b c x 0 0 rest)) ∙ (ap (λ ys. out ++ findings b c (parts_from 0 0 (map part_code ys))) (sym (drop_here xs i x lt is)) ∙ h))))

-- ---- places

statement_places_are : (s : CoreStatement) → statement_places s ≡ s.place ∷ places_in s.act
statement_places_are s = fold_out-CoreStatement (List Place) (List Place) (List Place) places.act_step places.statement_step places.part_step s

part_places_are : (q : SwitchPart) → part_places q ≡ list_places (out-SwitchPart q).body
part_places_are q = fold_out-SwitchPart (List Place) (List Place) (List Place) places.act_step places.statement_step places.part_step q

pub place_step : (xs : List CoreStatement) (i : ℕ) (x : CoreStatement) (out more all : List Place) → i < length xs → x ≡ get_or xs i x → more ≡ out ++ x.place ∷ places_in x.act
    → out ++ list_places (drop i xs) ≡ all → more ++ list_places (drop (i + 1) xs) ≡ all
place_step xs i x out more all lt is m h =
    let rest : List Place = list_places (drop (i + 1) xs) in
    ap (λ l. l ++ rest) m
    ∙ (append_assoc out (x.place ∷ places_in x.act) rest ∙ (ap (λ l. out ++ (l ++ rest)) (sym (statement_places_are x)) ∙ (ap (λ ys. out ++ list_places ys) (sym (drop_here xs i x lt is)) ∙ h)))

pub part_place_step : (xs : List SwitchPart) (i : ℕ) (x : SwitchPart) (out more all : List Place) → i < length xs → x ≡ get_or xs i x → more ≡ out ++ list_places (out-SwitchPart x).body
    → out ++ all_of (map part_places (drop i xs)) ≡ all → more ++ all_of (map part_places (drop (i + 1) xs)) ≡ all
part_place_step xs i x out more all lt is m h =
    let rest : List Place = all_of (map part_places (drop (i + 1) xs)) in
    ap (λ l. l ++ rest) m
    ∙ (append_assoc out (list_places (out-SwitchPart x).body) rest ∙ (ap (λ l. out ++ (l ++ rest)) (sym (part_places_are x)) ∙ (ap (λ ys. out ++ all_of (map part_places ys)) (sym (drop_here xs i x lt is)) ∙ h)))

-- ---- behaviours and faults apart

module _ {A : Type 0} (f : Told → A) where
  two : (xs ys : List Told) (us vs : List A) → map f xs ≡ us → map f ys ≡ vs → map f (xs ++ ys) ≡ us ++ vs
  two xs ys us vs e g = map-append f xs ys ∙ ap₂ (λ l k. l ++ k) e g

  three : (xs ys zs : List Told) (us vs ws : List A) → map f xs ≡ us → map f ys ≡ vs → map f zs ≡ ws → map f (xs ++ ys ++ zs) ≡ us ++ vs ++ ws
  three xs ys zs us vs ws e g h = two (xs ++ ys) zs (us ++ vs) ws (two xs ys us vs e g) h

pub sets_are : (b c : Bool) (list : Code) → map (λ (t : Told). t.set) (findings b c list) ≡ behaviours list
sets_are b c done = refl
sets_are b c (plain n act rest) = ap (λ l. next_only ∷ l) (sets_are b c rest)
sets_are b c (jump n act rest) = ap (λ l. jump_behaviour act ∷ l) (sets_are b c rest)
sets_are b c (call n g args rest) = ap (λ l. next_only ∷ l) (sets_are b c rest)
sets_are b c (branch n cond first second rest) =
    ap (λ l. branch_behaviour first second ∷ l) (three (λ (t : Told). t.set) (findings b c first) (findings b c second) (findings b c rest) (behaviours first) (behaviours second) (behaviours rest) (sets_are b c first) (sets_are b c second) (sets_are b c rest))
sets_are b c (switch n selector parts rest) =
    ap (λ l. switch_behaviour parts ∷ l) (two (λ (t : Told). t.set) (findings true c parts) (findings b c rest) (behaviours parts) (behaviours rest) (sets_are true c parts) (sets_are b c rest))
sets_are b c (loop n body continuing leave rest) =
    ap (λ l. loop_behaviour body continuing leave ∷ l) (three (λ (t : Told). t.set) (findings true true body) (findings true true continuing) (findings b c rest) (behaviours body) (behaviours continuing) (behaviours rest) (sets_are true true body) (sets_are true true continuing) (sets_are b c rest))
sets_are b c no_part = refl
sets_are b c (part n which keys fallback body others) = two (λ (t : Told). t.set) (findings b c body) (findings b c others) (behaviours body) (behaviours others) (sets_are b c body) (sets_are b c others)

pub faults_are : (b c : Bool) (list : Code) → map (λ (t : Told). t.fault) (findings b c list) ≡ faults b c list
faults_are b c done = refl
faults_are b c (plain n act rest) = ap (λ l. None ∷ l) (faults_are b c rest)
faults_are b c (jump n act rest) = ap (λ l. jump_fault b c act ∷ l) (faults_are b c rest)
faults_are b c (call n g args rest) = ap (λ l. None ∷ l) (faults_are b c rest)
faults_are b c (branch n cond first second rest) =
    ap (λ l. None ∷ l) (three (λ (t : Told). t.fault) (findings b c first) (findings b c second) (findings b c rest) (faults b c first) (faults b c second) (faults b c rest) (faults_are b c first) (faults_are b c second) (faults_are b c rest))
faults_are b c (switch n selector parts rest) =
    ap (λ l. None ∷ l) (two (λ (t : Told). t.fault) (findings true c parts) (findings b c rest) (faults true c parts) (faults b c rest) (faults_are true c parts) (faults_are b c rest))
faults_are b c (loop n body continuing leave rest) =
    ap (λ l. loop_fault (loop_behaviour body continuing leave) (behaviour continuing) ∷ l) (three (λ (t : Told). t.fault) (findings true true body) (findings true true continuing) (findings b c rest) (faults true true body) (faults true true continuing) (faults b c rest) (faults_are true true body) (faults_are true true continuing) (faults_are b c rest))
faults_are b c no_part = refl
faults_are b c (part n which keys fallback body others) = two (λ (t : Told). t.fault) (findings b c body) (findings b c others) (faults b c body) (faults b c others) (faults_are b c body) (faults_are b c others)

-- ---- of what is found of a function

told_sets : (found : List Finding) → map set_of found ≡ map (λ (t : Told). t.set) (map told_of found)
told_sets [] = refl
told_sets (x ∷ found) = ap (λ l. x.told.set ∷ l) (told_sets found)

told_faults : (found : List Finding) → map fault_of found ≡ map (λ (t : Told). t.fault) (map told_of found)
told_faults [] = refl
told_faults (x ∷ found) = ap (λ l. x.told.fault ∷ l) (told_faults found)

pub found_sets : (found : List Finding) (list : Code) → map told_of found ≡ findings false false list → map set_of found ≡ behaviours list
found_sets found list e = told_sets found ∙ (ap (map (λ (t : Told). t.set)) e ∙ sets_are false false list)

pub found_faults : (found : List Finding) (list : Code) → map told_of found ≡ findings false false list → map fault_of found ≡ faults false false list
found_faults found list e = told_faults found ∙ (ap (map (λ (t : Told). t.fault)) e ∙ faults_are false false list)
