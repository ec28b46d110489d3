-- The walk over a list has exactly its analysed statements.
use Rattle.std.proofs.Common.{◌≡◌, refl, sym, subst, ℕ, Bool, true, false, List, [], ◌∷◌, ◌++◌, inl, inr}
use Rattle.std.specs.Prelude.{if◌then◌else◌}
use Rattle.shade_core.specs.Code.{Jump, Break, Continue, Return, Code, done, plain, jump, call, branch, switch, loop, no_part, part}
use Rattle.shade_core.specs.Behaviour.{branch_behaviour, switch_behaviour, loop_behaviour, jump_behaviour}
use Rattle.shade_graph.specs.declared.node.Node.{Node}
use Rattle.shade_graph.specs.declared.node.Node.TheVariants.{Start, After, Part}
use Rattle.shade_graph.specs.Graph.{Among, here, later}
use Rattle.shade_graph.proofs.Members.{among_left, among_right, among_split, among_if, among_one}
use Rattle.shade_uniformity.specs.Structure
use Rattle.shade_uniformity.specs.Structure.{Starts, first_ways, IsCase, HasPart, Analysed}
use Rattle.shade_uniformity.specs.Visits.{Visit, visit_at, walk, visits, part_visits, IsVisit}

-- ---- what the walk has is analysed

itself : (a : Node) (c rest : Code) (n : ℕ) → Starts c n rest → IsVisit a c (visit_at a c)
itself a c rest n s = record { under = a; here = c; number = n; rest = rest; stands = Structure.this s; starts = s; is = refl }

further : (a : Node) (c rest : Code) (n : ℕ) (v : Visit) → Starts c n rest → (first_ways c).next ≡ true → IsVisit (After n) rest v → IsVisit a c v
further a c rest n v s next w = record { under = w.under; here = w.here; number = w.number; rest = w.rest; stands = Structure.behind s next w.stands; starts = w.starts; is = w.is }

inside : (a : Node) (c body : Code) (n p : ℕ) (v : Visit) → HasPart c n p body → IsVisit (Part n p) body v → IsVisit a c v
inside a c body n p v has w = record { under = w.under; here = w.here; number = w.number; rest = w.rest; stands = Structure.within has w.stands; starts = w.starts; is = w.is }

-- in one of the parts of a switch
record InCase (parts : Code) (v : Visit) : Type 0 where
  number : ℕ
  which : ℕ
  body : Code
  case : IsCase parts number which body
  found : IsVisit (Part number which) body v

abbrev Found : Bool → Node → Code → Visit → Type 0
Found true a c v = InCase c v
Found false a c v = IsVisit a c v

other : (n which : ℕ) (parts body : Code) (v : Visit) → ((m p : ℕ) (some : Code) → IsCase body m p some → IsCase parts m p some) → InCase body v → InCase parts v
other n which parts body v leads w = record { number = w.number; which = w.which; body = w.body; case = leads w.number w.which w.body w.case; found = w.found }

listed : (b : Bool) (a : Node) (c : Code) (v : Visit) → Among v (walk b a c) → Found b a c v
listed true a (part n which keys fallback body others) v h = elim (among_split (walk false (Part n which) body) (walk true a others) h) [
  | inl own ↦ record { number = n; which = which; body = body; case = Structure.this_case; found = listed false (Part n which) body v own }
  | inr more ↦ other n which (part n which keys fallback body others) others v (λ m p some case. Structure.other_case case) (listed true a others v more)
]
listed true a done v h = elim h [ ]
listed true a (plain n act rest) v h = elim h [ ]
listed true a (jump n act rest) v h = elim h [ ]
listed true a (call n g args rest) v h = elim h [ ]
listed true a (branch n cond one two rest) v h = elim h [ ]
listed true a (switch n selector parts rest) v h = elim h [ ]
listed true a (loop n body continuing leave rest) v h = elim h [ ]
listed true a no_part v h = elim h [ ]
listed false a (plain n act rest) v here = itself a (plain n act rest) rest n Structure.plain_starts
listed false a (plain n act rest) v (later h) = further a (plain n act rest) rest n v Structure.plain_starts refl (listed false (After n) rest v h)
listed false a (jump n act rest) v here = itself a (jump n act rest) rest n Structure.jump_starts
listed false a (jump n act rest) v (later h) = elim h [ ]
listed false a (call n g args rest) v here = itself a (call n g args rest) rest n Structure.call_starts
listed false a (call n g args rest) v (later h) = further a (call n g args rest) rest n v Structure.call_starts refl (listed false (After n) rest v h)
listed false a (branch n cond one two rest) v h =
    let c : Code = branch n cond one two rest in
    let first : List Visit = walk false (Part n 0) one in
    let second : List Visit = walk false (Part n 1) two in
    elim (among_split ((first ++ second) ++ visit_at a c ∷ []) (if (branch_behaviour one two).next then walk false (After n) rest else []) h) [
      | inl own ↦ elim (among_split (first ++ second) (visit_at a c ∷ []) own) [
        | inl within_ ↦ elim (among_split first second within_) [
          | inl x ↦ inside a c one n 0 v Structure.first_part (listed false (Part n 0) one v x)
          | inr x ↦ inside a c two n 1 v Structure.second_part (listed false (Part n 1) two v x)
        ]
        | inr x ↦ subst (IsVisit a c) (sym (among_one (visit_at a c) x)) (itself a c rest n Structure.branch_starts)
      ]
      | inr behind_ ↦ (let on = among_if (branch_behaviour one two).next (walk false (After n) rest) behind_ in further a c rest n v Structure.branch_starts on.0 (listed false (After n) rest v on.1))
    ]
listed false a (switch n selector parts rest) v h =
    let c : Code = switch n selector parts rest in
    let inner : List Visit = walk true Start parts in
    elim (among_split (inner ++ visit_at a c ∷ []) (if (switch_behaviour parts).next then walk false (After n) rest else []) h) [
      | inl own ↦ elim (among_split inner (visit_at a c ∷ []) own) [
        | inl x ↦ (let w = listed true Start parts v x in inside a c w.body w.number w.which v (Structure.switch_part w.case) w.found)
        | inr x ↦ subst (IsVisit a c) (sym (among_one (visit_at a c) x)) (itself a c rest n Structure.switch_starts)
      ]
      | inr behind_ ↦ (let on = among_if (switch_behaviour parts).next (walk false (After n) rest) behind_ in further a c rest n v Structure.switch_starts on.0 (listed false (After n) rest v on.1))
    ]
listed false a (loop n body continuing leave rest) v h =
    let c : Code = loop n body continuing leave rest in
    let first : List Visit = walk false (Part n 0) body in
    let second : List Visit = walk false (Part n 1) continuing in
    elim (among_split ((first ++ second) ++ visit_at a c ∷ []) (if (loop_behaviour body continuing leave).next then walk false (After n) rest else []) h) [
      | inl own ↦ elim (among_split (first ++ second) (visit_at a c ∷ []) own) [
        | inl within_ ↦ elim (among_split first second within_) [
          | inl x ↦ inside a c body n 0 v Structure.body_part (listed false (Part n 0) body v x)
          | inr x ↦ inside a c continuing n 1 v Structure.continuing_part (listed false (Part n 1) continuing v x)
        ]
        | inr x ↦ subst (IsVisit a c) (sym (among_one (visit_at a c) x)) (itself a c rest n Structure.loop_starts)
      ]
      | inr behind_ ↦ (let on = among_if (loop_behaviour body continuing leave).next (walk false (After n) rest) behind_ in further a c rest n v Structure.loop_starts on.0 (listed false (After n) rest v on.1))
    ]
listed false a done v h = elim h [ ]
listed false a no_part v h = elim h [ ]
listed false a (part n which keys fallback body others) v h = elim h [ ]

pub listed_visit : (a : Node) (c : Code) (v : Visit) → Among v (visits a c) → IsVisit a c v
listed_visit a c v h = listed false a c v h

-- ---- what is analysed, the walk has

if_among : (b : Bool) (xs : List Visit) (v : Visit) → b ≡ true → Among v xs → Among v (if b then xs else [])
if_among true xs v e h = h
if_among false xs v e h = cc

case_listed : {parts body : Code} {n p : ℕ} (v : Visit) → IsCase parts n p body → Among v (visits (Part n p) body) → Among v (part_visits parts)
case_listed v (Structure.this_case {n = n} {which = which} {body = body} {others = others}) h = among_left (walk false (Part n which) body) (walk true Start others) h
case_listed v (Structure.other_case {n = n} {which = which} {body = body} {others = others} case) h = among_right (walk false (Part n which) body) (walk true Start others) (case_listed v case h)

part_listed : {c body : Code} {n p : ℕ} (a : Node) (v : Visit) → HasPart c n p body → Among v (visits (Part n p) body) → Among v (visits a c)
part_listed a v (Structure.first_part {n = n} {cond = cond} {one = one} {two = two} {rest = rest}) h =
    among_left ((walk false (Part n 0) one ++ walk false (Part n 1) two) ++ visit_at a (branch n cond one two rest) ∷ []) (if (branch_behaviour one two).next then walk false (After n) rest else [])
    (among_left (walk false (Part n 0) one ++ walk false (Part n 1) two) (visit_at a (branch n cond one two rest) ∷ []) (among_left (walk false (Part n 0) one) (walk false (Part n 1) two) h))
part_listed a v (Structure.second_part {n = n} {cond = cond} {one = one} {two = two} {rest = rest}) h =
    among_left ((walk false (Part n 0) one ++ walk false (Part n 1) two) ++ visit_at a (branch n cond one two rest) ∷ []) (if (branch_behaviour one two).next then walk false (After n) rest else [])
    (among_left (walk false (Part n 0) one ++ walk false (Part n 1) two) (visit_at a (branch n cond one two rest) ∷ []) (among_right (walk false (Part n 0) one) (walk false (Part n 1) two) h))
part_listed a v (Structure.switch_part {n = n} {selector = selector} {parts = parts} {rest = rest} case) h =
    among_left (walk true Start parts ++ visit_at a (switch n selector parts rest) ∷ []) (if (switch_behaviour parts).next then walk false (After n) rest else [])
    (among_left (walk true Start parts) (visit_at a (switch n selector parts rest) ∷ []) (case_listed v case h))
part_listed a v (Structure.body_part {n = n} {body = body} {continuing = continuing} {leave = leave} {rest = rest}) h =
    among_left ((walk false (Part n 0) body ++ walk false (Part n 1) continuing) ++ visit_at a (loop n body continuing leave rest) ∷ []) (if (loop_behaviour body continuing leave).next then walk false (After n) rest else [])
    (among_left (walk false (Part n 0) body ++ walk false (Part n 1) continuing) (visit_at a (loop n body continuing leave rest) ∷ []) (among_left (walk false (Part n 0) body) (walk false (Part n 1) continuing) h))
part_listed a v (Structure.continuing_part {n = n} {body = body} {continuing = continuing} {leave = leave} {rest = rest}) h =
    among_left ((walk false (Part n 0) body ++ walk false (Part n 1) continuing) ++ visit_at a (loop n body continuing leave rest) ∷ []) (if (loop_behaviour body continuing leave).next then walk false (After n) rest else [])
    (among_left (walk false (Part n 0) body ++ walk false (Part n 1) continuing) (visit_at a (loop n body continuing leave rest) ∷ []) (among_right (walk false (Part n 0) body) (walk false (Part n 1) continuing) h))

this_listed : {c rest : Code} {n : ℕ} (a : Node) → Starts c n rest → Among (visit_at a c) (visits a c)
this_listed a Structure.plain_starts = here
this_listed a Structure.jump_starts = here
this_listed a Structure.call_starts = here
this_listed a (Structure.branch_starts {n = n} {cond = cond} {one = one} {two = two} {rest = rest}) =
    among_left ((walk false (Part n 0) one ++ walk false (Part n 1) two) ++ visit_at a (branch n cond one two rest) ∷ []) (if (branch_behaviour one two).next then walk false (After n) rest else [])
    (among_right (walk false (Part n 0) one ++ walk false (Part n 1) two) (visit_at a (branch n cond one two rest) ∷ []) here)
this_listed a (Structure.switch_starts {n = n} {selector = selector} {parts = parts} {rest = rest}) =
    among_left (walk true Start parts ++ visit_at a (switch n selector parts rest) ∷ []) (if (switch_behaviour parts).next then walk false (After n) rest else [])
    (among_right (walk true Start parts) (visit_at a (switch n selector parts rest) ∷ []) here)
this_listed a (Structure.loop_starts {n = n} {body = body} {continuing = continuing} {leave = leave} {rest = rest}) =
    among_left ((walk false (Part n 0) body ++ walk false (Part n 1) continuing) ++ visit_at a (loop n body continuing leave rest) ∷ []) (if (loop_behaviour body continuing leave).next then walk false (After n) rest else [])
    (among_right (walk false (Part n 0) body ++ walk false (Part n 1) continuing) (visit_at a (loop n body continuing leave rest) ∷ []) here)

-- behind a jump nothing is analysed
no_next : (act : Jump) → (jump_behaviour act).next ≡ true → ⊥
no_next Break e = cc
no_next Continue e = cc
no_next (Return value) e = cc

behind_listed : {c rest : Code} {n : ℕ} (a : Node) (v : Visit) → Starts c n rest → (first_ways c).next ≡ true → Among v (visits (After n) rest) → Among v (visits a c)
behind_listed a v Structure.plain_starts next h = later h
behind_listed a v (Structure.jump_starts {act = act}) next h = absurd (no_next act next)
behind_listed a v Structure.call_starts next h = later h
behind_listed a v (Structure.branch_starts {n = n} {cond = cond} {one = one} {two = two} {rest = rest}) next h =
    among_right ((walk false (Part n 0) one ++ walk false (Part n 1) two) ++ visit_at a (branch n cond one two rest) ∷ []) (if (branch_behaviour one two).next then walk false (After n) rest else [])
    (if_among (branch_behaviour one two).next (walk false (After n) rest) v next h)
behind_listed a v (Structure.switch_starts {n = n} {selector = selector} {parts = parts} {rest = rest}) next h =
    among_right (walk true Start parts ++ visit_at a (switch n selector parts rest) ∷ []) (if (switch_behaviour parts).next then walk false (After n) rest else [])
    (if_among (switch_behaviour parts).next (walk false (After n) rest) v next h)
behind_listed a v (Structure.loop_starts {n = n} {body = body} {continuing = continuing} {leave = leave} {rest = rest}) next h =
    among_right ((walk false (Part n 0) body ++ walk false (Part n 1) continuing) ++ visit_at a (loop n body continuing leave rest) ∷ []) (if (loop_behaviour body continuing leave).next then walk false (After n) rest else [])
    (if_among (loop_behaviour body continuing leave).next (walk false (After n) rest) v next h)

analysed_listed : {a b : Node} {c d : Code} → Analysed a c b d → Among (visit_at b d) (visits a c)
analysed_listed {a = a} (Structure.this s) = this_listed a s
analysed_listed {a = a} {b = b} {d = d} (Structure.behind s next more) = behind_listed a (visit_at b d) s next (analysed_listed more)
analysed_listed {a = a} {b = b} {d = d} (Structure.within has more) = part_listed a (visit_at b d) has (analysed_listed more)

pub visit_listed : (a : Node) (c : Code) (v : Visit) → IsVisit a c v → Among v (visits a c)
visit_listed a c v w = subst (λ (x : Visit). Among x (visits a c)) (sym w.is) (analysed_listed w.stands)
