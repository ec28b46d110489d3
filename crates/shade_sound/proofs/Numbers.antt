-- Statements that are numbered in structure order: no number stands twice, so what is analysed is no statement that is not.
use Rattle.std.proofs.Common.{◌≡◌, ℕ, zero, suc, ◌+◌, ◌<◌, ◌≤◌, Bool, true, false, ◌&&◌, List, [], ◌∷◌, ◌++◌, length, Option, Some, None, refl, ap, sym, ◌∙◌, subst, arith}
use Rattle.std.specs.Prelude.{if◌then◌else◌, ◌==◌}
use Rattle.std.proofs.lemmas.Bool.{eqb-true}
use Rattle.std.proofs.lemmas.List.{length-append}
use Rattle.shade_core.specs.declared.statement.Operand.{Operand}
use Rattle.shade_core.specs.Code.{Plain, Jump, Code, done, plain, jump, call, branch, switch, loop, no_part, part}
use Rattle.shade_core.specs.Behaviour.{branch_behaviour}
use Rattle.shade_core.specs.Standing.{Standing, statements, are_numbered}
use Rattle.shade_graph.specs.declared.node.Node.{Node}
use Rattle.shade_graph.specs.declared.node.Node.TheVariants.{Before, After, Part, Value, Stored}
use Rattle.shade_graph.specs.Graph
use Rattle.shade_graph.specs.Graph.{Stands}
use Rattle.shade_sound.proofs.Bools.{false_true, and_parts}
use Rattle.shade_sound.proofs.Closed.{head_number, Dead, jump_dead, plain_dead, branch_dead, one_dead, two_dead, rest_dead}

abbrev pub count : Code → ℕ
count c = length (statements c)

-- the statements of a list have the numbers from one on, in structure order
abbrev pub InOrder : ℕ → Code → Type 0
InOrder lo (plain n act rest) = (n ≡ lo) × InOrder (lo + 1) rest
InOrder lo (jump n act rest) = (n ≡ lo) × InOrder (lo + 1) rest
InOrder lo (branch n cond one two rest) = (n ≡ lo) × InOrder (lo + 1) one × InOrder (lo + 1 + count one) two × InOrder (lo + 1 + count one + count two) rest
InOrder lo _ = Unit {0}

split : (lo : ℕ) (xs ys : List Standing) → are_numbered lo (xs ++ ys) ≡ true → (are_numbered lo xs ≡ true) × (are_numbered (lo + length xs) ys ≡ true)
split lo [] ys e = (refl, ap (λ (n : ℕ). are_numbered n ys) (let z : lo + 0 ≡ lo = omega arith in z) ∙ e)
split lo (x ∷ xs) ys e =
    let parts : ((x.number == lo) ≡ true) × (are_numbered (lo + 1) (xs ++ ys) ≡ true) = and_parts (x.number == lo) (are_numbered (lo + 1) (xs ++ ys)) e in
    let both : (are_numbered (lo + 1) xs ≡ true) × (are_numbered (lo + 1 + length xs) ys ≡ true) = split (lo + 1) xs ys parts.1 in
    (ap (λ b. b && are_numbered (lo + 1) xs) parts.0 ∙ both.0, ap (λ (n : ℕ). are_numbered n ys) (let z : lo + length (x ∷ xs) ≡ lo + 1 + length xs = omega arith in z) ∙ both.1)

pub in_order : (lo : ℕ) (c : Code) → are_numbered lo (statements c) ≡ true → InOrder lo c
in_order lo (plain n act rest) e =
    let parts : ((n == lo) ≡ true) × (are_numbered (lo + 1) (statements rest) ≡ true) = and_parts (n == lo) (are_numbered (lo + 1) (statements rest)) e in
    (eqb-true n lo parts.0, in_order (lo + 1) rest parts.1)
in_order lo (jump n act rest) e =
    let parts : ((n == lo) ≡ true) × (are_numbered (lo + 1) (statements rest) ≡ true) = and_parts (n == lo) (are_numbered (lo + 1) (statements rest)) e in
    (eqb-true n lo parts.0, in_order (lo + 1) rest parts.1)
in_order lo (branch n cond one two rest) e =
    let parts : ((n == lo) ≡ true) × (are_numbered (lo + 1) (statements one ++ statements two ++ statements rest) ≡ true) = and_parts (n == lo) (are_numbered (lo + 1) (statements one ++ statements two ++ statements rest)) e in
    let first : (are_numbered (lo + 1) (statements one ++ statements two) ≡ true) × (are_numbered (lo + 1 + length (statements one ++ statements two)) (statements rest) ≡ true) = split (lo + 1) (statements one ++ statements two) (statements rest) parts.1 in
    let second : (are_numbered (lo + 1) (statements one) ≡ true) × (are_numbered (lo + 1 + count one) (statements two) ≡ true) = split (lo + 1) (statements one) (statements two) first.0 in
    let sum : length (statements one ++ statements two) ≡ count one + count two = length-append (statements one) (statements two) in
    let from : lo + 1 + count one + count two ≡ lo + 1 + length (statements one ++ statements two) = omega (arith, sum) in
    (eqb-true n lo parts.0, in_order (lo + 1) one second.0, in_order (lo + 1 + count one) two second.1, in_order (lo + 1 + count one + count two) rest (ap (λ (k : ℕ). are_numbered k (statements rest)) from ∙ first.1))
in_order lo done e = tt
in_order lo (call n g args rest) e = tt
in_order lo (switch n selector parts rest) e = tt
in_order lo (loop n body continuing leave rest) e = tt
in_order lo no_part e = tt
in_order lo (part n which keys fallback body others) e = tt

-- a statement with this number, of a list or of one inside
pub data Has : Code → ℕ → Type 0 where
  plain_here : {n : ℕ} {act : Plain} {rest : Code} → Has (plain n act rest) n
  plain_later : {n k : ℕ} {act : Plain} {rest : Code} → Has rest k → Has (plain n act rest) k
  jump_here : {n : ℕ} {act : Jump} {rest : Code} → Has (jump n act rest) n
  jump_later : {n k : ℕ} {act : Jump} {rest : Code} → Has rest k → Has (jump n act rest) k
  branch_here : {n : ℕ} {cond : Operand} {one two rest : Code} → Has (branch n cond one two rest) n
  in_one : {n k : ℕ} {cond : Operand} {one two rest : Code} → Has one k → Has (branch n cond one two rest) k
  in_two : {n k : ℕ} {cond : Operand} {one two rest : Code} → Has two k → Has (branch n cond one two rest) k
  branch_later : {n k : ℕ} {cond : Operand} {one two rest : Code} → Has rest k → Has (branch n cond one two rest) k

branch_count : (n : ℕ) (cond : Operand) (one two rest : Code) → count (branch n cond one two rest) ≡ 1 + count one + count two + count rest
branch_count n cond one two rest =
    let a : length (statements one ++ statements two ++ statements rest) ≡ length (statements one ++ statements two) + count rest = length-append (statements one ++ statements two) (statements rest) in
    let b : length (statements one ++ statements two) ≡ count one + count two = length-append (statements one) (statements two) in
    omega (arith, a, b)

pub above : (lo : ℕ) (c : Code) (k : ℕ) → InOrder lo c → Has c k → lo ≤ k
above lo (plain n act rest) k o plain_here = let e : n ≡ lo = o.0 in omega (arith, e)
above lo (plain n act rest) k o (plain_later h) = let e : lo + 1 ≤ k = above (lo + 1) rest k o.1 h in omega (arith, e)
above lo (jump n act rest) k o jump_here = let e : n ≡ lo = o.0 in omega (arith, e)
above lo (jump n act rest) k o (jump_later h) = let e : lo + 1 ≤ k = above (lo + 1) rest k o.1 h in omega (arith, e)
above lo (branch n cond one two rest) k o branch_here = let e : n ≡ lo = o.0 in omega (arith, e)
above lo (branch n cond one two rest) k o (in_one h) = let e : lo + 1 ≤ k = above (lo + 1) one k o.1 h in omega (arith, e)
above lo (branch n cond one two rest) k o (in_two h) = let e : lo + 1 + count one ≤ k = above (lo + 1 + count one) two k o.2 h in omega (arith, e)
above lo (branch n cond one two rest) k o (branch_later h) = let e : lo + 1 + count one + count two ≤ k = above (lo + 1 + count one + count two) rest k o.3 h in omega (arith, e)
above lo done k o h = elim h [ ]
above lo (call n g args rest) k o h = elim h [ ]
above lo (switch n selector parts rest) k o h = elim h [ ]
above lo (loop n body continuing leave rest) k o h = elim h [ ]
above lo no_part k o h = elim h [ ]
above lo (part n which keys fallback body others) k o h = elim h [ ]

pub below : (lo : ℕ) (c : Code) (k : ℕ) → InOrder lo c → Has c k → k < lo + count c
below lo (plain n act rest) k o plain_here = let e : n ≡ lo = o.0 in omega (arith, e)
below lo (plain n act rest) k o (plain_later h) = let e : k < lo + 1 + count rest = below (lo + 1) rest k o.1 h in omega (arith, e)
below lo (jump n act rest) k o jump_here = let e : n ≡ lo = o.0 in omega (arith, e)
below lo (jump n act rest) k o (jump_later h) = let e : k < lo + 1 + count rest = below (lo + 1) rest k o.1 h in omega (arith, e)
below lo (branch n cond one two rest) k o branch_here = let e : n ≡ lo = o.0 in omega (arith, e, branch_count n cond one two rest)
below lo (branch n cond one two rest) k o (in_one h) = let e : k < lo + 1 + count one = below (lo + 1) one k o.1 h in omega (arith, e, branch_count n cond one two rest)
below lo (branch n cond one two rest) k o (in_two h) = let e : k < lo + 1 + count one + count two = below (lo + 1 + count one) two k o.2 h in omega (arith, e, branch_count n cond one two rest)
below lo (branch n cond one two rest) k o (branch_later h) =
    let e : k < lo + 1 + count one + count two + count rest = below (lo + 1 + count one + count two) rest k o.3 h in omega (arith, e, branch_count n cond one two rest)
below lo done k o h = elim h [ ]
below lo (call n g args rest) k o h = elim h [ ]
below lo (switch n selector parts rest) k o h = elim h [ ]
below lo (loop n body continuing leave rest) k o h = elim h [ ]
below lo no_part k o h = elim h [ ]
below lo (part n which keys fallback body others) k o h = elim h [ ]

-- an analysed statement
pub data Alive : Code → ℕ → Type 0 where
  alive_plain : {n : ℕ} {act : Plain} {rest : Code} → Alive (plain n act rest) n
  alive_later : {n k : ℕ} {act : Plain} {rest : Code} → Alive rest k → Alive (plain n act rest) k
  alive_jump : {n : ℕ} {act : Jump} {rest : Code} → Alive (jump n act rest) n
  alive_branch : {n : ℕ} {cond : Operand} {one two rest : Code} → Alive (branch n cond one two rest) n
  alive_one : {n k : ℕ} {cond : Operand} {one two rest : Code} → Alive one k → Alive (branch n cond one two rest) k
  alive_two : {n k : ℕ} {cond : Operand} {one two rest : Code} → Alive two k → Alive (branch n cond one two rest) k
  alive_behind : {n k : ℕ} {cond : Operand} {one two rest : Code} → (branch_behaviour one two).next ≡ true → Alive rest k → Alive (branch n cond one two rest) k

alive_has : {c : Code} {k : ℕ} → Alive c k → Has c k
alive_has alive_plain = plain_here
alive_has (alive_later h) = plain_later (alive_has h)
alive_has alive_jump = jump_here
alive_has alive_branch = branch_here
alive_has (alive_one h) = in_one (alive_has h)
alive_has (alive_two h) = in_two (alive_has h)
alive_has (alive_behind e h) = branch_later (alive_has h)

head_has : (c : Code) (k : ℕ) → head_number c ≡ Some k → Has c k
head_has (plain n act rest) k e = let s : n ≡ k = cc e in subst (λ (m : ℕ). Has (plain n act rest) m) s plain_here
head_has (jump n act rest) k e = let s : n ≡ k = cc e in subst (λ (m : ℕ). Has (jump n act rest) m) s jump_here
head_has (branch n cond one two rest) k e = let s : n ≡ k = cc e in subst (λ (m : ℕ). Has (branch n cond one two rest) m) s branch_here
head_has done k e = let no_one : ⊥ = cc e in absurd no_one
head_has (call n g args rest) k e = let no_one : ⊥ = cc e in absurd no_one
head_has (switch n selector parts rest) k e = let no_one : ⊥ = cc e in absurd no_one
head_has (loop n body continuing leave rest) k e = let no_one : ⊥ = cc e in absurd no_one
head_has no_part k e = let no_one : ⊥ = cc e in absurd no_one
head_has (part n which keys fallback body others) k e = let no_one : ⊥ = cc e in absurd no_one

dead_has : {c : Code} {k : ℕ} → Dead c k → Has c k
dead_has (jump_dead {k = k} {rest = rest} h) = jump_later (head_has rest k h)
dead_has (plain_dead h) = plain_later (dead_has h)
dead_has (branch_dead {k = k} {rest = rest} e h) = branch_later (head_has rest k h)
dead_has (one_dead h) = in_one (dead_has h)
dead_has (two_dead h) = in_two (dead_has h)
dead_has (rest_dead h) = branch_later (dead_has h)

-- two lists one behind the other have no number in common
apart : (lo hi : ℕ) (a b : Code) (k : ℕ) → InOrder lo a → InOrder hi b → lo + count a ≤ hi → Has a k → Has b k → ⊥
apart lo hi a b k o p le x y = let e : k < lo + count a = below lo a k o x in let g : hi ≤ k = above hi b k p y in omega (arith, e, g, le)

not_first : (lo n : ℕ) (c : Code) → n ≡ lo → InOrder (lo + 1) c → Has c n → ⊥
not_first lo n c e o h = let g : lo + 1 ≤ n = above (lo + 1) c n o h in omega (arith, e, g)

first_apart : (lo hi n : ℕ) (c : Code) → n ≡ lo → lo + 1 ≤ hi → InOrder hi c → Has c n → ⊥
first_apart lo hi n c e le o h = let g : hi ≤ n = above hi c n o h in omega (arith, e, g, le)

-- what is analysed is not dead
pub not_dead : (lo : ℕ) (c : Code) (k : ℕ) → InOrder lo c → Alive c k → Dead c k → ⊥
not_dead lo (plain n act rest) k o alive_plain (plain_dead x) = not_first lo n rest o.0 o.1 (dead_has x)
not_dead lo (plain n act rest) k o (alive_later a) (plain_dead x) = not_dead (lo + 1) rest k o.1 a x
not_dead lo (jump n act rest) k o alive_jump (jump_dead x) = not_first lo n rest o.0 o.1 (head_has rest n x)
not_dead lo (branch n cond one two rest) k o alive_branch (one_dead x) = not_first lo n one o.0 o.1 (dead_has x)
not_dead lo (branch n cond one two rest) k o alive_branch (two_dead x) = first_apart lo (lo + 1 + count one) n two o.0 (omega arith) o.2 (dead_has x)
not_dead lo (branch n cond one two rest) k o alive_branch (rest_dead x) = first_apart lo (lo + 1 + count one + count two) n rest o.0 (omega arith) o.3 (dead_has x)
not_dead lo (branch n cond one two rest) k o alive_branch (branch_dead e x) = first_apart lo (lo + 1 + count one + count two) n rest o.0 (omega arith) o.3 (head_has rest n x)
not_dead lo (branch n cond one two rest) k o (alive_one a) (one_dead x) = not_dead (lo + 1) one k o.1 a x
not_dead lo (branch n cond one two rest) k o (alive_one a) (two_dead x) = apart (lo + 1) (lo + 1 + count one) one two k o.1 o.2 (omega arith) (alive_has a) (dead_has x)
not_dead lo (branch n cond one two rest) k o (alive_one a) (rest_dead x) = apart (lo + 1) (lo + 1 + count one + count two) one rest k o.1 o.3 (omega arith) (alive_has a) (dead_has x)
not_dead lo (branch n cond one two rest) k o (alive_one a) (branch_dead e x) = apart (lo + 1) (lo + 1 + count one + count two) one rest k o.1 o.3 (omega arith) (alive_has a) (head_has rest k x)
not_dead lo (branch n cond one two rest) k o (alive_two a) (one_dead x) = apart (lo + 1) (lo + 1 + count one) one two k o.1 o.2 (omega arith) (dead_has x) (alive_has a)
not_dead lo (branch n cond one two rest) k o (alive_two a) (two_dead x) = not_dead (lo + 1 + count one) two k o.2 a x
not_dead lo (branch n cond one two rest) k o (alive_two a) (rest_dead x) = apart (lo + 1 + count one) (lo + 1 + count one + count two) two rest k o.2 o.3 (omega arith) (alive_has a) (dead_has x)
not_dead lo (branch n cond one two rest) k o (alive_two a) (branch_dead e x) = apart (lo + 1 + count one) (lo + 1 + count one + count two) two rest k o.2 o.3 (omega arith) (alive_has a) (head_has rest k x)
not_dead lo (branch n cond one two rest) k o (alive_behind g a) (one_dead x) = apart (lo + 1) (lo + 1 + count one + count two) one rest k o.1 o.3 (omega arith) (dead_has x) (alive_has a)
not_dead lo (branch n cond one two rest) k o (alive_behind g a) (two_dead x) = apart (lo + 1 + count one) (lo + 1 + count one + count two) two rest k o.2 o.3 (omega arith) (dead_has x) (alive_has a)
not_dead lo (branch n cond one two rest) k o (alive_behind g a) (rest_dead x) = not_dead (lo + 1 + count one + count two) rest k o.3 a x
not_dead lo (branch n cond one two rest) k o (alive_behind g a) (branch_dead e x) = false_true (branch_behaviour one two).next e g
not_dead lo done k o a x = elim a [ ]
not_dead lo (call n g args rest) k o a x = elim a [ ]
not_dead lo (switch n selector parts rest) k o a x = elim a [ ]
not_dead lo (loop n body continuing leave rest) k o a x = elim a [ ]
not_dead lo no_part k o a x = elim a [ ]
not_dead lo (part n which keys fallback body others) k o a x = elim a [ ]

-- ---- the numbers of nodes that stand

abbrev pub before_of : Node → Option ℕ
before_of (Before n) = Some n
before_of _ = None

none_some : {A : Type 0} (k : ℕ) (o : Option ℕ) → o ≡ None → o ≡ Some k → A
none_some k o e g = let no_one : ⊥ = cc (e, g) in absurd no_one

pub alive_of : {c : Code} {u : Node} (k : ℕ) → Stands c u → before_of u ≡ Some k → Alive c k
alive_of k (Graph.plain_stands_before {n = n} {act = act} {rest = rest}) e = let s : n ≡ k = cc e in subst (λ (m : ℕ). Alive (plain n act rest) m) s alive_plain
alive_of k Graph.plain_stands_after e = none_some k None refl e
alive_of k (Graph.plain_stands_value g) e = none_some k None refl e
alive_of k (Graph.plain_stands_rest h) e = alive_later (alive_of k h e)
alive_of k (Graph.jump_stands_before {n = n} {act = act} {rest = rest}) e = let s : n ≡ k = cc e in subst (λ (m : ℕ). Alive (jump n act rest) m) s alive_jump
alive_of k Graph.jump_stands_after e = none_some k None refl e
alive_of k (Graph.branch_stands_before {n = n} {cond = cond} {one = one} {two = two} {rest = rest}) e = let s : n ≡ k = cc e in subst (λ (m : ℕ). Alive (branch n cond one two rest) m) s alive_branch
alive_of k Graph.branch_stands_after e = none_some k None refl e
alive_of k Graph.branch_stands_one e = none_some k None refl e
alive_of k Graph.branch_stands_two e = none_some k None refl e
alive_of k (Graph.branch_stands_in_one h) e = alive_one (alive_of k h e)
alive_of k (Graph.branch_stands_in_two h) e = alive_two (alive_of k h e)
alive_of k (Graph.branch_stands_rest g h) e = alive_behind g (alive_of k h e)

-- the number of the statement of a node
abbrev pub number_of : Node → Option ℕ
number_of (Before n) = Some n
number_of (After n) = Some n
number_of (Part n p) = Some n
number_of (Value n) = Some n
number_of (Stored n p) = Some n
number_of _ = None

-- a node that stands is one of a statement of the list
pub record Of (c : Code) (u : Node) : Type 0 where
  pub number : ℕ
  pub is : number_of u ≡ Some number
  pub has : Has c number

pub of_stands : {c : Code} {u : Node} → Stands c u → Of c u
of_stands (Graph.plain_stands_before {n = n}) = record { number = n; is = refl; has = plain_here }
of_stands (Graph.plain_stands_after {n = n}) = record { number = n; is = refl; has = plain_here }
of_stands (Graph.plain_stands_value {n = n} g) = record { number = n; is = refl; has = plain_here }
of_stands (Graph.plain_stands_rest h) = let o : Of _ _ = of_stands h in record { number = o.number; is = o.is; has = plain_later o.has }
of_stands (Graph.jump_stands_before {n = n}) = record { number = n; is = refl; has = jump_here }
of_stands (Graph.jump_stands_after {n = n}) = record { number = n; is = refl; has = jump_here }
of_stands (Graph.branch_stands_before {n = n}) = record { number = n; is = refl; has = branch_here }
of_stands (Graph.branch_stands_after {n = n}) = record { number = n; is = refl; has = branch_here }
of_stands (Graph.branch_stands_one {n = n}) = record { number = n; is = refl; has = branch_here }
of_stands (Graph.branch_stands_two {n = n}) = record { number = n; is = refl; has = branch_here }
of_stands (Graph.branch_stands_in_one h) = let o : Of _ _ = of_stands h in record { number = o.number; is = o.is; has = in_one o.has }
of_stands (Graph.branch_stands_in_two h) = let o : Of _ _ = of_stands h in record { number = o.number; is = o.is; has = in_two o.has }
of_stands (Graph.branch_stands_rest g h) = let o : Of _ _ = of_stands h in record { number = o.number; is = o.is; has = branch_later o.has }
