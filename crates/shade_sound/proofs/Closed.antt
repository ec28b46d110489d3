-- What the rows of a graph say of a marking of nodes as low.
use Rattle.std.proofs.Common.{◌≡◌, ℕ, Bool, true, false, Option, Some, None, refl, sym, ◌∙◌}
use Rattle.std.specs.Prelude.{if◌then◌else◌}
use Rattle.shade_core.specs.declared.statement.Operand.{Operand}
use Rattle.shade_core.specs.declared.statement.Operand.TheVariants as operand
use Rattle.shade_core.specs.declared.module.CoreFunction.{CoreFunction}
use Rattle.shade_core.specs.Code.{Plain, Jump, Code, done, plain, jump, call, branch, switch, loop, no_part, part}
use Rattle.shade_core.specs.Behaviour.{branch_behaviour, goes_on}
use Rattle.shade_core.specs.Rules.{have_rules}
use Rattle.shade_graph.specs.declared.node.Node.{Node}
use Rattle.shade_graph.specs.declared.node.Node.TheVariants.{Param, Before, After, Part, Value}
use Rattle.shade_graph.specs.Graph
use Rattle.shade_graph.specs.Graph.{IsNode, Stands, Row, end_of}
use Rattle.shade_verdict.specs.Clean.{HasOff, off_rest, off_in_one, off_in_two, off_behind}
use Rattle.shade_sound.proofs.Bools.{contra, false_true}
use Rattle.shade_core.proofs.RuleLaws.{rule_parts}

-- the number of the first statement of a list
abbrev pub head_number : Code → Option ℕ
head_number (plain n act rest) = Some n
head_number (jump n act rest) = Some n
head_number (branch n cond one two rest) = Some n
head_number _ = None

-- the first statement that is not analysed, of a list or of one inside
pub data Dead : Code → ℕ → Type 0 where
  jump_dead : {n k : ℕ} {act : Jump} {rest : Code} → head_number rest ≡ Some k → Dead (jump n act rest) k
  plain_dead : {n k : ℕ} {act : Plain} {rest : Code} → Dead rest k → Dead (plain n act rest) k
  branch_dead : {n k : ℕ} {cond : Operand} {one two rest : Code} → (branch_behaviour one two).next ≡ false → head_number rest ≡ Some k → Dead (branch n cond one two rest) k
  one_dead : {n k : ℕ} {cond : Operand} {one two rest : Code} → Dead one k → Dead (branch n cond one two rest) k
  two_dead : {n k : ℕ} {cond : Operand} {one two rest : Code} → Dead two k → Dead (branch n cond one two rest) k
  rest_dead : {n k : ℕ} {cond : Operand} {one two rest : Code} → Dead rest k → Dead (branch n cond one two rest) k

-- The rows of a list under a node keep a marking; its analysed statements stand in the function, and none drops its requirement;
-- control before a statement that is not analysed is not low.
pub record Closed (f : CoreFunction) (low : Node → Bool) (a : Node) (c : Code) : Type 0 where
  pub rows : {s : ℕ} {u v : Node} → Row a c s u v → IsNode f u → low u ≡ true → low v ≡ true
  pub stands : {u : Node} → Stands c u → IsNode f u
  pub asked : HasOff c → ⊥
  pub dead : (n : ℕ) → Dead c n → low (Before n) ≡ false

-- whether control before the first statement of a list is low
abbrev pub code_low : (Node → Bool) → Code → Bool
code_low low (plain n act rest) = low (Before n)
code_low low (jump n act rest) = low (Before n)
code_low low (branch n cond one two rest) = low (Before n)
code_low low _ = false

-- whether an operand is low
abbrev pub operand_low : (Node → Bool) → Operand → Bool
operand_low low (operand.Constant ty value) = true
operand_low low (operand.Param i) = low (Param i)
operand_low low (operand.Temp n) = low (Value n)

-- the first statement of what is not analysed
dead_head : (low : Node → Bool) (c : Code) → ((n : ℕ) → head_number c ≡ Some n → low (Before n) ≡ false) → code_low low c ≡ false
dead_head low (plain n act rest) h = h n refl
dead_head low (jump n act rest) h = h n refl
dead_head low (branch n cond one two rest) h = h n refl
dead_head low done h = refl
dead_head low (call n g args rest) h = refl
dead_head low (switch n selector parts rest) h = refl
dead_head low (loop n body continuing leave rest) h = refl
dead_head low no_part h = refl
dead_head low (part n which keys fallback body others) h = refl

either_high : (low : Node → Bool) (b : Bool) (x y : Node) → (b ≡ true → low x ≡ false) → low y ≡ false → low (if b then x else y) ≡ false
either_high low true x y h e = h refl
either_high low false x y h e = e

module _ {f : CoreFunction} {low : Node → Bool} where
  -- what leads to a node that is not low is not low
  pub back : {a : Node} {c : Code} {s : ℕ} {u v : Node} → Closed f low a c → Row a c s u v → IsNode f u → low v ≡ false → low u ≡ false
  back {u = u} {v = v} cl r node e = contra (low u) (low v) (λ h. cl.rows r node h) e

  pub in_plain : {a : Node} {n : ℕ} {act : Plain} {rest : Code} → Closed f low a (plain n act rest) → Closed f low (After n) rest
  in_plain cl = record { rows = λ r. cl.rows (Graph.plain_rest r); stands = λ h. cl.stands (Graph.plain_stands_rest h); asked = λ o. cl.asked (off_rest o); dead = λ k d. cl.dead k (plain_dead d) }

  pub in_one : {a : Node} {n : ℕ} {cond : Operand} {one two rest : Code} → Closed f low a (branch n cond one two rest) → Closed f low (Part n 0) one
  in_one cl = record { rows = λ r. cl.rows (Graph.branch_in_one r); stands = λ h. cl.stands (Graph.branch_stands_in_one h); asked = λ o. cl.asked (off_in_one o); dead = λ k d. cl.dead k (one_dead d) }

  pub in_two : {a : Node} {n : ℕ} {cond : Operand} {one two rest : Code} → Closed f low a (branch n cond one two rest) → Closed f low (Part n 1) two
  in_two cl = record { rows = λ r. cl.rows (Graph.branch_in_two r); stands = λ h. cl.stands (Graph.branch_stands_in_two h); asked = λ o. cl.asked (off_in_two o); dead = λ k d. cl.dead k (two_dead d) }

  pub behind_branch : {a : Node} {n : ℕ} {cond : Operand} {one two rest : Code} → Closed f low a (branch n cond one two rest) → (branch_behaviour one two).next ≡ true → Closed f low (After n) rest
  behind_branch cl e = record { rows = λ r. cl.rows (Graph.branch_rest e r); stands = λ h. cl.stands (Graph.branch_stands_rest e h); asked = λ o. cl.asked (off_behind e o); dead = λ k d. cl.dead k (rest_dead d) }

  -- the first statement is under the node of its list
  pub head_high : (a : Node) (c : Code) → Closed f low a c → low a ≡ false → code_low low c ≡ false
  head_high a (plain n act rest) cl e = back cl Graph.plain_before (cl.stands Graph.plain_stands_before) e
  head_high a (jump n act rest) cl e = back cl Graph.jump_before (cl.stands Graph.jump_stands_before) e
  head_high a (branch n cond one two rest) cl e = back cl Graph.branch_before (cl.stands Graph.branch_stands_before) e
  head_high a done cl e = refl
  head_high a (call n g args rest) cl e = refl
  head_high a (switch n selector parts rest) cl e = refl
  head_high a (loop n body continuing leave rest) cl e = refl
  head_high a no_part cl e = refl
  head_high a (part n which keys fallback body others) cl e = refl

  -- After a statement control is not low where it was not before it.
  pub plain_high : {a : Node} {n : ℕ} {act : Plain} {rest : Code} → Closed f low a (plain n act rest) → low (Before n) ≡ false → low (After n) ≡ false
  plain_high cl e = back cl Graph.plain_after (cl.stands Graph.plain_stands_after) e

  pub jump_high : {a : Node} {n : ℕ} {act : Jump} {rest : Code} → Closed f low a (jump n act rest) → low (Before n) ≡ false → low (After n) ≡ false
  jump_high cl e = back cl Graph.jump_after (cl.stands Graph.jump_stands_after) e

  pub branch_high : {a : Node} {n : ℕ} {cond : Operand} {one two rest : Code} → Closed f low a (branch n cond one two rest) → low (Before n) ≡ false → low (end_of (Part n 0) one) ≡ false → low (After n) ≡ false
  branch_high {n = n} {one = one} {two = two} cl e ends = by (goes_on (branch_behaviour one two)) refl
    where
      by : (b : Bool) → goes_on (branch_behaviour one two) ≡ b → low (After n) ≡ false
      by true g = back cl (Graph.branch_next g) (cl.stands Graph.branch_stands_after) e
      by false g = back cl (Graph.branch_end_one g) (cl.stands Graph.branch_stands_after) ends

  pub one_high : {a : Node} {n : ℕ} {cond : Operand} {one two rest : Code} → Closed f low a (branch n cond one two rest) → low (Before n) ≡ false → low (Part n 0) ≡ false
  one_high cl e = back cl Graph.branch_one (cl.stands Graph.branch_stands_one) e

  pub two_high : {a : Node} {n : ℕ} {cond : Operand} {one two rest : Code} → Closed f low a (branch n cond one two rest) → low (Before n) ≡ false → low (Part n 1) ≡ false
  two_high cl e = back cl Graph.branch_two (cl.stands Graph.branch_stands_two) e

  -- What is not low at the beginning of a list is not low at its end.
  pub end_high : (a : Node) (c : Code) → have_rules c ≡ true → Closed f low a c → low a ≡ false → low (end_of a c) ≡ false
  end_high a done rules cl e = e
  end_high a (plain n act rest) rules cl e = end_high (After n) rest (rule_parts (plain n act rest) rules).1 (in_plain cl) (plain_high cl (head_high a (plain n act rest) cl e))
  end_high a (jump n act rest) rules cl e = jump_high cl (head_high a (jump n act rest) cl e)
  end_high a (branch n cond one two rest) rules cl e =
      let parts : (have_rules one ≡ true) × (have_rules two ≡ true) × (have_rules rest ≡ true) = rule_parts (branch n cond one two rest) rules in
      let before : low (Before n) ≡ false = head_high a (branch n cond one two rest) cl e in
      let ends : low (end_of (Part n 0) one) ≡ false = end_high (Part n 0) one parts.0 (in_one cl) (one_high cl before) in
      let after : low (After n) ≡ false = branch_high cl before ends in
      either_high low (branch_behaviour one two).next (end_of (After n) rest) (After n) (λ next. end_high (After n) rest parts.2 (behind_branch cl next) after) after
  end_high a (call n g args rest) rules cl e = false_true false refl rules
  end_high a (switch n selector parts rest) rules cl e = false_true false refl rules
  end_high a (loop n body continuing leave rest) rules cl e = false_true false refl rules
  end_high a no_part rules cl e = e
  end_high a (part n which keys fallback body others) rules cl e = e

  -- what follows a branch after which control is not low
  pub branch_end_high : (a : Node) (n : ℕ) (cond : Operand) (one two rest : Code) → have_rules rest ≡ true → Closed f low a (branch n cond one two rest) → low (After n) ≡ false → low (end_of a (branch n cond one two rest)) ≡ false
  branch_end_high a n cond one two rest rules cl after = either_high low (branch_behaviour one two).next (end_of (After n) rest) (After n) (λ next. end_high (After n) rest rules (behind_branch cl next) after) after

  pub branch_rest_high : (a : Node) (n : ℕ) (cond : Operand) (one two rest : Code) → Closed f low a (branch n cond one two rest) → low (After n) ≡ false → code_low low rest ≡ false
  branch_rest_high a n cond one two rest cl after = by (branch_behaviour one two).next refl
    where
      by : (b : Bool) → (branch_behaviour one two).next ≡ b → code_low low rest ≡ false
      by true e = head_high (After n) rest (behind_branch cl e) after
      by false e = dead_head low rest (λ k h. cl.dead k (branch_dead e h))

  -- a part is not low under a test that is not
  pub one_tests : {a : Node} {n : ℕ} (cond : Operand) {one two rest : Code} → Closed f low a (branch n cond one two rest) → operand_low low cond ≡ false → low (Part n 0) ≡ false
  one_tests (operand.Constant ty value) cl e = false_true true e refl
  one_tests (operand.Param i) cl e = back cl (Graph.branch_one_cond Graph.names_param) (cl.stands Graph.branch_stands_one) e
  one_tests (operand.Temp k) cl e = back cl (Graph.branch_one_cond Graph.names_temp) (cl.stands Graph.branch_stands_one) e

  pub two_tests : {a : Node} {n : ℕ} (cond : Operand) {one two rest : Code} → Closed f low a (branch n cond one two rest) → operand_low low cond ≡ false → low (Part n 1) ≡ false
  two_tests (operand.Constant ty value) cl e = false_true true e refl
  two_tests (operand.Param i) cl e = back cl (Graph.branch_two_cond Graph.names_param) (cl.stands Graph.branch_stands_two) e
  two_tests (operand.Temp k) cl e = back cl (Graph.branch_two_cond Graph.names_temp) (cl.stands Graph.branch_stands_two) e
