-- What a lane has left, seen through what is low.
use Rattle.std.proofs.Common.{◌≡◌, ℕ, Bool, true, false, Option, refl, sym, ◌∙◌}
use Rattle.std.specs.Prelude.{if◌then◌else◌}
use Rattle.shade_core.specs.declared.behaviour.Behaviour.{Behaviour}
use Rattle.shade_core.specs.declared.statement.Operand.{Operand}
use Rattle.shade_core.specs.declared.module.CoreFunction.{CoreFunction}
use Rattle.shade_core.specs.Code.{Plain, Jump, Code, done, plain, jump, call, branch, switch, loop, no_part, part}
use Rattle.shade_core.specs.Behaviour.{in_turn, next_only, behaviour}
use Rattle.shade_core.specs.Rules.{have_rules}
use Rattle.shade_graph.specs.declared.node.Node.{Node}
use Rattle.shade_graph.specs.Graph.{end_of}
use Rattle.shade_lane.specs.Lane.{Rest, halt, seq, Place, Over, First, next}
use Rattle.shade_sound.proofs.Bools.{false_true, Sub, turn_sub}
use Rattle.shade_sound.proofs.Closed.{Closed, code_low}

-- what is left, without what is not low before the first low place
abbrev pub low_rest : (Node → Bool) → Rest → Place
low_rest low halt = Over
low_rest low (seq c k) = if code_low low c then First c k else low_rest low k

abbrev pub rest_of : Place → Rest
rest_of Over = halt
rest_of (First c k) = seq c k

abbrev pub low_place : (Node → Bool) → Place → Place
low_place low p = low_rest low (rest_of p)

-- whether the control of the next step is low
abbrev pub place_low : (Node → Bool) → Place → Bool
place_low low Over = true
place_low low (First c k) = code_low low c

-- nothing is low
abbrev pub HighAll : (Node → Bool) → Rest → Type 0
HighAll low halt = Unit {0}
HighAll low (seq c k) = (code_low low c ≡ false) × HighAll low k

-- A list under a node, and what a Return in it passes over where control is not low at its end.
pub record Live (f : CoreFunction) (low : Node → Bool) (c : Code) (k : Rest) : Type 0 where
  pub under : Node
  pub rules : have_rules c ≡ true
  pub closed : Closed f low under c
  pub returns : low (end_of under c) ≡ false → (behaviour c).returns ≡ true → HighAll low k

-- What is left after something that behaves so: a list that Next does not lead to owes nothing.
abbrev pub Fits : CoreFunction → (Node → Bool) → Behaviour → Rest → Type 0
Fits f low b halt = Unit {0}
Fits f low b (seq c k) = (b.next ≡ true → Live f low c k) × Fits f low (in_turn b (behaviour c)) k

abbrev pub StandsWell : CoreFunction → (Node → Bool) → Place → Type 0
StandsWell f low p = Fits f low next_only (rest_of p)

-- what is passed over
pub low_skip : (low : Node → Bool) (c : Code) (k : Rest) → code_low low c ≡ false → low_rest low (seq c k) ≡ low_rest low k
low_skip low c k e = rw e refl

pub return_low : (low : Node → Bool) (k : Rest) → HighAll low k → Over ≡ low_rest low k
return_low low halt h = refl
return_low low (seq c k) h = return_low low k h.1 ∙ sym (low_skip low c k h.0)

pub place_itself : (low : Node → Bool) (p : Place) → place_low low p ≡ true → low_place low p ≡ p
place_itself low Over e = refl
place_itself low (First c k) e = rw e refl

module _ (f : CoreFunction) (low : Node → Bool) where
  pub weaken : (a b : Behaviour) (k : Rest) → Sub a b → Fits f low b k → Fits f low a k
  weaken a b halt s h = tt
  weaken a b (seq c k) s h = (λ e. h.0 (s.next e), weaken (in_turn a (behaviour c)) (in_turn b (behaviour c)) k (turn_sub a b (behaviour c) s) h.1)

  -- What is left stands well after the moves that take no step.
  pub next_fits : (k : Rest) → Fits f low next_only k → StandsWell f low (next k)
  next_fits halt h = tt
  next_fits (seq done k) h = next_fits k h.1
  next_fits (seq (plain n act rest) k) h = h
  next_fits (seq (jump n act rest) k) h = h
  next_fits (seq (call n g args rest) k) h = h
  next_fits (seq (branch n cond one two rest) k) h = h
  next_fits (seq (switch n selector parts rest) k) h = h
  next_fits (seq (loop n body continuing leave rest) k) h = h
  next_fits (seq no_part k) h = false_true false refl (h.0 refl).rules
  next_fits (seq (part n which keys fallback body others) k) h = false_true false refl (h.0 refl).rules

-- The moves that take no step change nothing that is low.
pub low_next : (low : Node → Bool) (k : Rest) → low_rest low k ≡ low_place low (next k)
low_next low halt = refl
low_next low (seq done k) = low_next low k
low_next low (seq (plain n act rest) k) = refl
low_next low (seq (jump n act rest) k) = refl
low_next low (seq (call n g args rest) k) = refl
low_next low (seq (branch n cond one two rest) k) = refl
low_next low (seq (switch n selector parts rest) k) = refl
low_next low (seq (loop n body continuing leave rest) k) = refl
low_next low (seq no_part k) = low_next low k
low_next low (seq (part n which keys fallback body others) k) = low_next low k
