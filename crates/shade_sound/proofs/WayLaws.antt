-- A lane goes by the ways of its function.
use Rattle.std.proofs.Common.{◌≡◌, ℕ, zero, suc, Bool, true, false, List, Option, refl, ap, sym, subst}
use Rattle.shade_values.specs.declared.value.Value.{Value}
use Rattle.shade_core.specs.declared.statement.Operand.{Operand}
use Rattle.shade_core.specs.declared.module.CoreFunction.{CoreFunction}
use Rattle.shade_core.specs.Code.{Plain, Jump, Break, Continue, Return, Code, done, plain, jump, call, branch, switch, loop, no_part, part, code_of}
use Rattle.shade_core.specs.Rules.{jump_has_rules, have_rules, has_rules}
use Rattle.shade_core.proofs.RuleLaws.{rule_parts, body_rules}
use Rattle.shade_flow.specs.declared.point.Point.{Point}
use Rattle.shade_flow.specs.declared.point.Point.TheVariants.{Past}
use Rattle.shade_flow.specs.Flow.{Mark, Nothing, mark_of, Flow, plain_step, plain_rest, jump_step, branch_one, branch_two, branch_in_one, branch_in_two, branch_rest, Ways, entry}
use Rattle.shade_lane.specs.Lane.{Rest, halt, seq, Place, Over, First, next, next_code, jumped, chosen, go_code, go, tested, test_value, Lane, begin, step, is_over}
use Rattle.shade_sound.specs.Ways.{point_of, after_steps, StepsAreWays}
use Rattle.shade_sound.proofs.Bools.{false_true}

-- the point at which a lane with this left stands
abbrev point : Rest → Point
point k = point_of (next k)

-- where a list begins
next_point : (c : Code) (k : Rest) → entry c (point k) ≡ point (seq c k)
next_point done k = refl
next_point (plain n act rest) k = refl
next_point (jump n act rest) k = refl
next_point (call n g args rest) k = refl
next_point (branch n cond one two rest) k = refl
next_point (switch n selector parts rest) k = refl
next_point (loop n body continuing leave rest) k = refl
next_point no_part k = refl
next_point (part n which keys fallback body others) k = refl

module _ (body : Code) where
  -- the ways of a list that goes on to this are ways of the body
  abbrev Leads : Code → Point → Type 0
  Leads c next = (u v : Point) (m : Mark) → Flow next Past Past c u m v → Ways body u m v

  -- each list that is left lies in the body, and has rules
  abbrev Inside : Rest → Type 0
  Inside halt = Unit {0}
  Inside (seq c k) = Leads c (point k) × (have_rules c ≡ true) × Inside k

  abbrev StandsInside : Place → Type 0
  StandsInside Over = Unit {0}
  StandsInside (First done k) = ⊥
  StandsInside (First c k) = Inside (seq c k)

  next_inside : (k : Rest) → Inside k → StandsInside (next k)
  next_inside halt h = tt
  next_inside (seq done k) h = next_inside k h.2
  next_inside (seq (plain n act rest) k) h = h
  next_inside (seq (jump n act rest) k) h = h
  next_inside (seq (call n g args rest) k) h = h
  next_inside (seq (branch n cond one two rest) k) h = h
  next_inside (seq (switch n selector parts rest) k) h = h
  next_inside (seq (loop n body continuing leave rest) k) h = h
  next_inside (seq no_part k) h = next_inside k h.2
  next_inside (seq (part n which keys fallback body others) k) h = next_inside k h.2

  -- a step from a place, by what it leaves
  record Stepped (from : Point) (k : Rest) : Type 0 where
    mark : Mark
    way : Ways body from mark (point k)
    inside : Inside k

  of_plain : (n : ℕ) (act : Plain) (rest : Code) (k : Rest) → Inside (seq (plain n act rest) k) → Stepped (entry (plain n act rest) Past) (seq rest k)
  of_plain n act rest k h = record {
    mark = mark_of n act;
    way = subst (λ (v : Point). Ways body (entry (plain n act rest) Past) (mark_of n act) v) (next_point rest k) (h.0 _ _ _ plain_step);
    inside = (λ u v m w. h.0 u v m (plain_rest w), (rule_parts (plain n act rest) h.1).1, h.2);
  }

  of_jump : (n : ℕ) (act : Jump) (rest : Code) (k : Rest) → Inside (seq (jump n act rest) k) → jump_has_rules act ≡ true → Stepped (entry (jump n act rest) Past) (jumped act rest k)
  of_jump n (Return value) rest k h rules = record { mark = Nothing; way = h.0 _ _ _ jump_step; inside = tt }
  of_jump n Break rest k h rules = false_true false refl rules
  of_jump n Continue rest k h rules = false_true false refl rules

  of_branch : (t : Bool) (n : ℕ) (cond : Operand) (one two rest : Code) (k : Rest) → Inside (seq (branch n cond one two rest) k) → Stepped (entry (branch n cond one two rest) Past) (chosen t one two (seq rest k))
  of_branch t n cond one two rest k h = by t (rule_parts (branch n cond one two rest) h.1)
    where
      from : Point
      from = entry (branch n cond one two rest) Past

      later : have_rules rest ≡ true → Inside (seq rest k)
      later e = (λ u v m w. h.0 u v m (branch_rest w), e, h.2)

      led : (c : Code) → Ways body from Nothing (entry c (entry rest (point k))) → Ways body from Nothing (point (seq c (seq rest k)))
      led c w = subst (λ (v : Point). Ways body from Nothing v) (next_point c (seq rest k)) (subst (λ (v : Point). Ways body from Nothing (entry c v)) (next_point rest k) w)

      part_leads : (c : Code) → ((u v : Point) (m : Mark) → Flow (entry rest (point k)) Past Past c u m v → Ways body u m v) → Leads c (point (seq rest k))
      part_leads c f = subst (λ (next : Point). Leads c next) (next_point rest k) f

      by : (t : Bool) → (have_rules one ≡ true) × (have_rules two ≡ true) × (have_rules rest ≡ true) → Stepped from (chosen t one two (seq rest k))
      by true parts = record { mark = Nothing; way = led one (h.0 _ _ _ branch_one); inside = (part_leads one (λ u v m w. h.0 u v m (branch_in_one w)), parts.0, later parts.2) }
      by false parts = record { mark = Nothing; way = led two (h.0 _ _ _ branch_two); inside = (part_leads two (λ u v m w. h.0 u v m (branch_in_two w)), parts.1, later parts.2) }

  goes : (t : Bool) (p : Place) → StandsInside p → is_over p ≡ false → Stepped (point_of p) (go t p)
  goes t Over h e = false_true true e refl
  goes t (First (plain n act rest) k) h e = of_plain n act rest k h
  goes t (First (jump n act rest) k) h e = of_jump n act rest k h (rule_parts (jump n act rest) h.1).0
  goes t (First (branch n cond one two rest) k) h e = of_branch t n cond one two rest k h
  goes t (First (call n g args rest) k) h e = false_true false refl h.1
  goes t (First (switch n selector parts rest) k) h e = false_true false refl h.1
  goes t (First (loop n inner continuing leave rest) k) h e = false_true false refl h.1
  goes t (First done k) h e = absurd h
  goes t (First no_part k) h e = false_true false refl h.1
  goes t (First (part n which keys fallback inner others) k) h e = false_true false refl h.1

  go_inside : (t : Bool) (p : Place) → StandsInside p → StandsInside (next (go t p))
  go_inside t Over h = tt
  go_inside t (First c k) h = next_inside (go_code t c k) (goes t (First c k) h refl).inside

  -- a lane that began the body stands inside of it after each step
  stays : (params : List (Option Value)) (count : ℕ) → have_rules body ≡ true → StandsInside (after_steps params (begin body) count).place
  stays params zero rules = next_inside (seq body halt) ((λ u v m w. w), rules, tt)
  stays params (suc count) rules =
      let lane : Lane = after_steps params (begin body) count in
      go_inside (test_value params lane.values (tested lane.place)) lane.place (stays params count rules)

pub steps_are_ways : StepsAreWays
steps_are_ways function params count rules over =
    let body : Code = code_of function.body in
    let lane : Lane = after_steps params (begin body) count in
    let s : Stepped body (point_of lane.place) (go (test_value params lane.values (tested lane.place)) lane.place) = goes body (test_value params lane.values (tested lane.place)) lane.place (stays body params count (body_rules function rules)) over in
    (s.mark, s.way)
