-- Analysed calls have few arguments where all calls of a body have.
use Rattle.std.proofs.Common.{◌≡◌, refl, sym, subst, ℕ, ◌<◌, true, false, ◌&&◌, List, [], ◌∷◌, length, map, get_or}
use Rattle.std.specs.Prelude.{All}
use Rattle.std.proofs.lemmas.Option.{slice_get-get_or}
use Rattle.shade_core.specs.declared.statement.CoreStatement.{CoreStatement}
use Rattle.shade_core.specs.Code.{Code, done, plain, jump, call, branch, switch, loop, no_part, part, code_of}
use Rattle.shade_flow.specs.Counted.{is_small, are_few, are_counted}
use Rattle.shade_flow.proofs.Counts.{both_true}
use Rattle.shade_graph.specs.declared.node.Node.{Node}
use Rattle.shade_graph.specs.declared.node.Node.TheVariants.{Start}
use Rattle.shade_graph.specs.Graph.{Among}
use Rattle.shade_graph.proofs.Members.{among_map, get_among}
use Rattle.shade_uniformity.specs.declared.walk.Spot.{Spot}
use Rattle.shade_uniformity.specs.Structure
use Rattle.shade_uniformity.specs.Structure.{Starts, IsCase, HasPart, Analysed}
use Rattle.shade_uniformity.specs.Visits.{Visit, visit_at, visit_of, AreAnalysed}
use Rattle.shade_uniformity.specs.NodeLists.{head_few}

rest_counted : {c rest : Code} {n : ℕ} → Starts c n rest → are_counted c ≡ true → are_counted rest ≡ true
rest_counted (Structure.plain_starts {n = n} {rest = rest}) h = (both_true (is_small n) (are_counted rest) h).1
rest_counted (Structure.jump_starts {n = n} {rest = rest}) h = (both_true (is_small n) (are_counted rest) h).1
rest_counted (Structure.call_starts {n = n} {args = args} {rest = rest}) h =
    (both_true (are_few args) (are_counted rest) (both_true (is_small n) (are_few args && are_counted rest) h).1).1
rest_counted (Structure.branch_starts {n = n} {one = one} {two = two} {rest = rest}) h =
    let inner = (both_true (is_small n) (are_counted one && (are_counted two && are_counted rest)) h).1 in
    (both_true (are_counted two) (are_counted rest) (both_true (are_counted one) (are_counted two && are_counted rest) inner).1).1
rest_counted (Structure.switch_starts {n = n} {parts = parts} {rest = rest}) h =
    (both_true (are_counted parts) (are_counted rest) (both_true (is_small n) (are_counted parts && are_counted rest) h).1).1
rest_counted (Structure.loop_starts {n = n} {body = body} {continuing = continuing} {rest = rest}) h =
    let inner = (both_true (is_small n) (are_counted body && (are_counted continuing && are_counted rest)) h).1 in
    (both_true (are_counted continuing) (are_counted rest) (both_true (are_counted body) (are_counted continuing && are_counted rest) inner).1).1

case_counted : {parts found : Code} {m p : ℕ} → IsCase parts m p found → are_counted parts ≡ true → are_counted found ≡ true
case_counted (Structure.this_case {body = body} {others = others}) h = (both_true (are_counted body) (are_counted others) h).0
case_counted (Structure.other_case {body = body} {others = others} case) h = case_counted case (both_true (are_counted body) (are_counted others) h).1

part_counted : {c body : Code} {n p : ℕ} → HasPart c n p body → are_counted c ≡ true → are_counted body ≡ true
part_counted (Structure.first_part {n = n} {one = one} {two = two} {rest = rest}) h =
    (both_true (are_counted one) (are_counted two && are_counted rest) (both_true (is_small n) (are_counted one && (are_counted two && are_counted rest)) h).1).0
part_counted (Structure.second_part {n = n} {one = one} {two = two} {rest = rest}) h =
    let inner = (both_true (is_small n) (are_counted one && (are_counted two && are_counted rest)) h).1 in
    (both_true (are_counted two) (are_counted rest) (both_true (are_counted one) (are_counted two && are_counted rest) inner).1).0
part_counted (Structure.switch_part {n = n} {parts = parts} {rest = rest} case) h =
    case_counted case (both_true (are_counted parts) (are_counted rest) (both_true (is_small n) (are_counted parts && are_counted rest) h).1).0
part_counted (Structure.body_part {n = n} {body = body} {continuing = continuing} {rest = rest}) h =
    (both_true (are_counted body) (are_counted continuing && are_counted rest) (both_true (is_small n) (are_counted body && (are_counted continuing && are_counted rest)) h).1).0
part_counted (Structure.continuing_part {n = n} {body = body} {continuing = continuing} {rest = rest}) h =
    let inner = (both_true (is_small n) (are_counted body && (are_counted continuing && are_counted rest)) h).1 in
    (both_true (are_counted continuing) (are_counted rest) (both_true (are_counted body) (are_counted continuing && are_counted rest) inner).1).0

here_counted : {a b : Node} {c found : Code} → Analysed a c b found → are_counted c ≡ true → are_counted found ≡ true
here_counted (Structure.this s) h = h
here_counted (Structure.behind s next more) h = here_counted more (rest_counted s h)
here_counted (Structure.within has more) h = here_counted more (part_counted has h)

head_counted : (a : Node) (c : Code) → are_counted c ≡ true → head_few (visit_at a c).statement.head ≡ true
head_counted a (call n g args rest) h = (both_true (are_few args) (are_counted rest) (both_true (is_small n) (are_few args && are_counted rest) h).1).0
head_counted a (plain n act rest) h = refl
head_counted a (jump n act rest) h = refl
head_counted a (branch n cond one two rest) h = refl
head_counted a (switch n selector parts rest) h = refl
head_counted a (loop n body continuing leave rest) h = refl
head_counted a done h = refl
head_counted a no_part h = refl
head_counted a (part n which keys fallback body others) h = refl

pub spots_few : (body : List CoreStatement) (spots : List Spot) → AreAnalysed body spots → are_counted (code_of body) ≡ true → All (λ (s : Spot). head_few (visit_of s).statement.head ≡ true) spots
spots_few body spots are h k d lt =
    let w = (are (visit_of (get_or spots k d))).0 (among_map visit_of spots (get_or spots k d) (get_among spots k (get_or spots k d) (slice_get-get_or spots k d lt))) in
    subst (λ (v : Visit). head_few v.statement.head ≡ true) (sym w.is) (head_counted w.under w.here (here_counted w.stands h))
