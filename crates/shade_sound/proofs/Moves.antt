-- A step, seen through what is low.
use Rattle.std.proofs.Common.{◌≡◌, ℕ, Bool, true, false, Option, Some, None, refl, ap, sym, ◌∙◌}
use Rattle.std.specs.Prelude.{if◌then◌else◌}
use Rattle.shade_core.specs.declared.statement.Operand.{Operand}
use Rattle.shade_core.specs.declared.module.CoreFunction.{CoreFunction}
use Rattle.shade_core.specs.Code.{Plain, Jump, Break, Continue, Return, Code, done, plain, jump, call, branch, switch, loop, no_part, part}
use Rattle.shade_core.specs.Behaviour.{in_turn, next_only, behaviour, branch_behaviour, goes_on}
use Rattle.shade_core.specs.Rules.{jump_has_rules, have_rules}
use Rattle.shade_graph.specs.declared.node.Node.{Node}
use Rattle.shade_graph.specs.declared.node.Node.TheVariants.{Before, After, Part}
use Rattle.shade_graph.specs.Graph
use Rattle.shade_graph.specs.Graph.{end_of}
use Rattle.shade_lane.specs.Lane.{Rest, halt, seq, Place, Over, First, jumped, chosen, go_code, go, tested}
use Rattle.shade_sound.proofs.Bools.{false_true, Sub, turn_sub, sub_left, sub_right, turn_returns, turn_second, off_returns}
use Rattle.shade_core.proofs.RuleLaws.{rule_parts}
use Rattle.shade_sound.proofs.Closed.{Closed, code_low, operand_low, back, in_plain, in_one, in_two, behind_branch, head_high, plain_high, jump_high, branch_high, one_high, two_high, end_high, branch_end_high, branch_rest_high, one_tests, two_tests}
use Rattle.shade_sound.proofs.Rests.{low_rest, rest_of, low_place, place_low, Live, Fits, StandsWell, low_skip, return_low, weaken}

module _ (f : CoreFunction) (low : Node → Bool) where
  -- what is left after a part of a branch
  part_fits : (n p : ℕ) (cond : Operand) (one two rest inner : Code) (k : Rest) (l : Live f low (branch n cond one two rest) k) → have_rules inner ≡ true → have_rules rest ≡ true
      → Closed f low (Part n p) inner → Sub (behaviour inner) (branch_behaviour one two)
      → (goes_on (branch_behaviour one two) ≡ false → low (end_of (Part n p) inner) ≡ false → low (After n) ≡ false)
      → Fits f low (behaviour (branch n cond one two rest)) k → Fits f low next_only (seq inner (seq rest k))
  part_fits n p cond one two rest inner k l inner_rules rest_rules cl s ends h = (
    λ e. record { under = Part n p; rules = inner_rules; closed = cl; returns = λ x y. (rests (off_returns (branch_behaviour one two) (s.returns y)) x, l.returns (high (off_returns (branch_behaviour one two) (s.returns y)) x) (turn_returns (branch_behaviour one two) (behaviour rest) (s.returns y))) },
    ((λ e. after (s.next e)), weaken f low (in_turn (behaviour inner) (behaviour rest)) (behaviour (branch n cond one two rest)) k (turn_sub (behaviour inner) (branch_behaviour one two) (behaviour rest) s) h),
  )
    where
      rests : goes_on (branch_behaviour one two) ≡ false → low (end_of (Part n p) inner) ≡ false → code_low low rest ≡ false
      rests g x = branch_rest_high l.under n cond one two rest l.closed (ends g x)

      high : goes_on (branch_behaviour one two) ≡ false → low (end_of (Part n p) inner) ≡ false → low (end_of l.under (branch n cond one two rest)) ≡ false
      high g x = branch_end_high l.under n cond one two rest rest_rules l.closed (ends g x)

      end_is : (branch_behaviour one two).next ≡ true → low (end_of (After n) rest) ≡ false → low (end_of l.under (branch n cond one two rest)) ≡ false
      end_is e x = rw e x

      after : (branch_behaviour one two).next ≡ true → Live f low rest k
      after e = record { under = After n; rules = rest_rules; closed = behind_branch l.closed e; returns = λ x y. l.returns (end_is e x) (turn_second (branch_behaviour one two) (behaviour rest) e y) }

  branch_fits : (t : Bool) (n : ℕ) (cond : Operand) (one two rest : Code) (k : Rest) → Live f low (branch n cond one two rest) k → Fits f low (behaviour (branch n cond one two rest)) k → Fits f low next_only (chosen t one two (seq rest k))
  branch_fits true n cond one two rest k l h =
      let parts : (have_rules one ≡ true) × (have_rules two ≡ true) × (have_rules rest ≡ true) = rule_parts (branch n cond one two rest) l.rules in
      part_fits n 0 cond one two rest one k l parts.0 parts.2 (in_one l.closed) (sub_left (behaviour one) (behaviour two)) (λ g x. back l.closed (Graph.branch_end_one g) (l.closed.stands Graph.branch_stands_after) x) h
  branch_fits false n cond one two rest k l h =
      let parts : (have_rules one ≡ true) × (have_rules two ≡ true) × (have_rules rest ≡ true) = rule_parts (branch n cond one two rest) l.rules in
      part_fits n 1 cond one two rest two k l parts.1 parts.2 (in_two l.closed) (sub_right (behaviour one) (behaviour two)) (λ g x. back l.closed (Graph.branch_end_two g) (l.closed.stands Graph.branch_stands_after) x) h

  jump_fits : (act : Jump) (rest : Code) (k : Rest) → jump_has_rules act ≡ true → Fits f low next_only (jumped act rest k)
  jump_fits (Return value) rest k rules = tt
  jump_fits Break rest k rules = false_true false refl rules
  jump_fits Continue rest k rules = false_true false refl rules

  code_fits : (t : Bool) (c : Code) (k : Rest) → Fits f low next_only (seq c k) → Fits f low next_only (go_code t c k)
  code_fits t done k h = h.1
  code_fits t (plain n act rest) k h =
      let l : Live f low (plain n act rest) k = h.0 refl in
      (λ e. record { under = After n; rules = (rule_parts (plain n act rest) l.rules).1; closed = in_plain l.closed; returns = l.returns }, h.1)
  code_fits t (jump n act rest) k h = jump_fits act rest k (rule_parts (jump n act rest) (h.0 refl).rules).0
  code_fits t (branch n cond one two rest) k h = branch_fits t n cond one two rest k (h.0 refl) h.1
  code_fits t (call n g args rest) k h = false_true false refl (h.0 refl).rules
  code_fits t (switch n selector parts rest) k h = false_true false refl (h.0 refl).rules
  code_fits t (loop n body continuing leave rest) k h = false_true false refl (h.0 refl).rules
  code_fits t no_part k h = false_true false refl (h.0 refl).rules
  code_fits t (part n which keys fallback body others) k h = false_true false refl (h.0 refl).rules

  pub go_fits : (t : Bool) (p : Place) → StandsWell f low p → Fits f low next_only (go t p)
  go_fits t Over h = tt
  go_fits t (First c k) h = code_fits t c k h

  -- A step whose control is not low changes nothing that is low.
  branch_same : (t : Bool) (n : ℕ) (cond : Operand) (one two rest : Code) (k : Rest) → Live f low (branch n cond one two rest) k → low (Part n 0) ≡ false → low (Part n 1) ≡ false → low_rest low (chosen t one two (seq rest k)) ≡ low_rest low (seq rest k)
  branch_same true n cond one two rest k l one_part two_part = low_skip low one (seq rest k) (head_high (Part n 0) one (in_one l.closed) one_part)
  branch_same false n cond one two rest k l one_part two_part = low_skip low two (seq rest k) (head_high (Part n 1) two (in_two l.closed) two_part)

  jump_same : (n : ℕ) (act : Jump) (rest : Code) (k : Rest) → jump_has_rules act ≡ true → Live f low (jump n act rest) k → low (After n) ≡ false → low_rest low (jumped act rest k) ≡ low_rest low k
  jump_same n (Return value) rest k rules l e = return_low low k (l.returns e refl)
  jump_same n Break rest k rules l e = false_true false refl rules
  jump_same n Continue rest k rules l e = false_true false refl rules

  code_same : (t : Bool) (c : Code) (k : Rest) → Fits f low next_only (seq c k) → code_low low c ≡ false → low_rest low (go_code t c k) ≡ low_rest low k
  code_same t done k h e = refl
  code_same t (plain n act rest) k h e =
      let l : Live f low (plain n act rest) k = h.0 refl in
      low_skip low rest k (head_high (After n) rest (in_plain l.closed) (plain_high l.closed e))
  code_same t (jump n act rest) k h e =
      let l : Live f low (jump n act rest) k = h.0 refl in
      jump_same n act rest k (rule_parts (jump n act rest) l.rules).0 l (jump_high l.closed e)
  code_same t (branch n cond one two rest) k h e =
      let l : Live f low (branch n cond one two rest) k = h.0 refl in
      let parts : (have_rules one ≡ true) × (have_rules two ≡ true) × (have_rules rest ≡ true) = rule_parts (branch n cond one two rest) l.rules in
      let one_part : low (Part n 0) ≡ false = one_high l.closed e in
      let two_part : low (Part n 1) ≡ false = two_high l.closed e in
      let after : low (After n) ≡ false = branch_high l.closed e (end_high (Part n 0) one parts.0 (in_one l.closed) one_part) in
      branch_same t n cond one two rest k l one_part two_part ∙ low_skip low rest k (branch_rest_high l.under n cond one two rest l.closed after)
  code_same t (call n g args rest) k h e = false_true false refl (h.0 refl).rules
  code_same t (switch n selector parts rest) k h e = false_true false refl (h.0 refl).rules
  code_same t (loop n body continuing leave rest) k h e = false_true false refl (h.0 refl).rules
  code_same t no_part k h e = refl
  code_same t (part n which keys fallback body others) k h e = refl

  pub high_same : (t : Bool) (p : Place) → StandsWell f low p → place_low low p ≡ false → low_rest low (go t p) ≡ low_place low p
  high_same t Over h e = false_true true e refl
  high_same t (First c k) h e = code_same t c k h e ∙ sym (low_skip low c k e)

  -- Two steps from one low place agree on what is low, where they agree on a test that is low.
  pub low_same : (t s : Bool) (p : Place) → StandsWell f low p → ((cond : Operand) → tested p ≡ Some cond → operand_low low cond ≡ true → t ≡ s) → low_rest low (go t p) ≡ low_rest low (go s p)
  low_same t s Over h agree = refl
  low_same t s (First done k) h agree = refl
  low_same t s (First (plain n act rest) k) h agree = refl
  low_same t s (First (jump n act rest) k) h agree = refl
  low_same t s (First (call n g args rest) k) h agree = refl
  low_same t s (First (switch n selector parts rest) k) h agree = refl
  low_same t s (First (loop n body continuing leave rest) k) h agree = refl
  low_same t s (First no_part k) h agree = refl
  low_same t s (First (part n which keys fallback body others) k) h agree = refl
  low_same t s (First (branch n cond one two rest) k) h agree = by (operand_low low cond) refl
    where
      l : Live f low (branch n cond one two rest) k
      l = h.0 refl

      by : (b : Bool) → operand_low low cond ≡ b → low_rest low (chosen t one two (seq rest k)) ≡ low_rest low (chosen s one two (seq rest k))
      by true e = ap (λ b. low_rest low (chosen b one two (seq rest k))) (agree cond refl e)
      by false e =
          let one_part : low (Part n 0) ≡ false = one_tests cond l.closed e in
          let two_part : low (Part n 1) ≡ false = two_tests cond l.closed e in
          branch_same t n cond one two rest k l one_part two_part ∙ sym (branch_same s n cond one two rest k l one_part two_part)
