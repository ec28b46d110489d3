-- The parts that a walk tells of a statement are its parts.
use Rattle.std.proofs.Common.{◌≡◌, refl, ℕ, List, [], ◌∷◌}
use Rattle.shade_core.specs.Code.{Code, done, plain, jump, call, branch, switch, loop, no_part, part}
use Rattle.shade_graph.specs.declared.node.Node.{Node}
use Rattle.shade_graph.specs.declared.node.Node.TheVariants.{Part}
use Rattle.shade_graph.specs.Graph.{Among, here, later, end_of}
use Rattle.shade_uniformity.specs.declared.walk.PartSpan.{PartSpan}
use Rattle.shade_uniformity.specs.Structure
use Rattle.shade_uniformity.specs.Structure.{Starts, IsCase, HasPart}
use Rattle.shade_uniformity.specs.Visits.{visit_at, span, spans_of}

pub number_is : {c rest : Code} {n : ℕ} (a : Node) → Starts c n rest → (visit_at a c).statement.number ≡ n
number_is a Structure.plain_starts = refl
number_is a Structure.jump_starts = refl
number_is a Structure.call_starts = refl
number_is a Structure.branch_starts = refl
number_is a Structure.switch_starts = refl
number_is a Structure.loop_starts = refl

case_listed : {parts found : Code} {m p : ℕ} → IsCase parts m p found → Among (span m p (end_of (Part m p) found)) (spans_of parts)
case_listed Structure.this_case = here
case_listed (Structure.other_case case) = later (case_listed case)

pub span_listed : {c body : Code} {n p : ℕ} (a : Node) → HasPart c n p body → Among (span n p (end_of (Part n p) body)) (visit_at a c).parts
span_listed a Structure.first_part = here
span_listed a Structure.second_part = later here
span_listed a (Structure.switch_part case) = case_listed case
span_listed a Structure.body_part = here
span_listed a Structure.continuing_part = later here

-- one of the parts of the statement that a list begins with
pub record IsSpan (c : Code) (s : PartSpan) : Type 0 where
  pub number : ℕ
  pub which : ℕ
  pub body : Code
  pub has : HasPart c number which body
  pub is : s ≡ span number which (end_of (Part number which) body)

record IsCaseSpan (parts : Code) (s : PartSpan) : Type 0 where
  number : ℕ
  which : ℕ
  body : Code
  case : IsCase parts number which body
  is : s ≡ span number which (end_of (Part number which) body)

listed_case : (parts : Code) (s : PartSpan) → Among s (spans_of parts) → IsCaseSpan parts s
listed_case (part n which keys fallback body others) s here = record { number = n; which = which; body = body; case = Structure.this_case; is = refl }
listed_case (part n which keys fallback body others) s (later h) =
    let r = listed_case others s h in record { number = r.number; which = r.which; body = r.body; case = Structure.other_case r.case; is = r.is }
listed_case done s h = elim h [ ]
listed_case (plain n act rest) s h = elim h [ ]
listed_case (jump n act rest) s h = elim h [ ]
listed_case (call n g args rest) s h = elim h [ ]
listed_case (branch n cond one two rest) s h = elim h [ ]
listed_case (switch n selector parts rest) s h = elim h [ ]
listed_case (loop n body continuing leave rest) s h = elim h [ ]
listed_case no_part s h = elim h [ ]

pub listed_span : (a : Node) (c : Code) (s : PartSpan) → Among s (visit_at a c).parts → IsSpan c s
listed_span a (branch n cond one two rest) s here = record { number = n; which = 0; body = one; has = Structure.first_part; is = refl }
listed_span a (branch n cond one two rest) s (later here) = record { number = n; which = 1; body = two; has = Structure.second_part; is = refl }
listed_span a (branch n cond one two rest) s (later (later h)) = elim h [ ]
listed_span a (switch n selector parts rest) s h =
    let r = listed_case parts s h in record { number = r.number; which = r.which; body = r.body; has = Structure.switch_part r.case; is = r.is }
listed_span a (loop n body continuing leave rest) s here = record { number = n; which = 0; body = body; has = Structure.body_part; is = refl }
listed_span a (loop n body continuing leave rest) s (later here) = record { number = n; which = 1; body = continuing; has = Structure.continuing_part; is = refl }
listed_span a (loop n body continuing leave rest) s (later (later h)) = elim h [ ]
listed_span a done s h = elim h [ ]
listed_span a (plain n act rest) s h = elim h [ ]
listed_span a (jump n act rest) s h = elim h [ ]
listed_span a (call n g args rest) s h = elim h [ ]
listed_span a no_part s h = elim h [ ]
listed_span a (part n which keys fallback body others) s h = elim h [ ]
