-- The rows that the rules give of a statement are listed of it, or are of definitions that reach it.
use Rattle.std.proofs.Common.{◌≡◌, refl, sym, ap, subst, ◌∙◌, ℕ, Bool, true, false, List, [], ◌∷◌, ◌++◌, Option, Some, None, inl, inr}
use Rattle.std.specs.Prelude.{◌⊎◌, if◌then◌else◌}
use Rattle.std.specs.List.{flat_map}
use Rattle.shade_base.specs.declared.severity.Severity.{Severity}
use Rattle.shade_core.specs.declared.module.CoreFunction.{CoreFunction}
use Rattle.shade_core.specs.declared.module.CoreModule.{CoreModule}
use Rattle.shade_core.specs.declared.statement.Argument.{Argument}
use Rattle.shade_core.specs.declared.statement.Base.{Base}
use Rattle.shade_core.specs.declared.statement.Base.TheVariants.{Local, Pointee}
use Rattle.shade_core.specs.declared.statement.Operand.{Operand}
use Rattle.shade_core.specs.declared.statement.View.{View}
use Rattle.shade_core.specs.Behaviour.{goes_on}
use Rattle.shade_core.specs.Code.{Plain, Set, Load, Declare, Store, Atomic, Barrier, UniformLoad, Length, Jump, Break, Continue, Return, Code, done, plain, jump, call, branch, switch, loop, no_part, part}
use Rattle.shade_graph.specs.declared.node.Node.{Node}
use Rattle.shade_graph.specs.declared.node.Node.TheVariants.{Required, NonUniform, Param, Returned, ContentsOut, Before, After, Part, Value, Stored}
use Rattle.shade_graph.specs.Graph.{Among, here, later, Names, end_of}
use Rattle.shade_graph.proofs.Members.{among_left, among_right}
use Rattle.shade_uniformity.specs.declared.rows.Given.{Given}
use Rattle.shade_uniformity.specs.declared.walk.PartSpan.{PartSpan}
use Rattle.shade_uniformity.specs.Structure
use Rattle.shade_uniformity.specs.Structure.{Starts, HasPart, first_ways}
use Rattle.shade_uniformity.specs.Rows
use Rattle.shade_uniformity.specs.Rows.{MayDiffer, Indexes, Writes, Selects, Moves, Views, Collects, GivesUnder, IsSimple, definition_node, Row}
use Rattle.shade_uniformity.specs.RowLists.{given, operand_rows, operands_rows, value_rows, view_rows, may_differ, differs_rows, plain_rows, jump_rows, selected_rows, turn_rows, visit_rows}
use Rattle.shade_uniformity.specs.HeldRows.{jump_needs, plain_needs, NeedsHeld, VisitHeld}
use Rattle.shade_uniformity.specs.Visits.{visit_at, span}
use Rattle.shade_uniformity.proofs.DifferLaws.{differs_is}
use Rattle.shade_uniformity.proofs.FlatLaws.{flat_among, among_when}
use Rattle.shade_uniformity.proofs.SpanLaws.{span_listed}
use Rattle.shade_uniformity.proofs.RowLaws.{operand_listed, index_listed, pointer_listed, IsRow, rowed}

module _ (shader : CoreModule) (f : CoreFunction) where
  -- ---- statements without parts

  under_listed : {act : Plain} (n : ℕ) → GivesUnder act → Among (given n (Value n) (Before n)) (plain_rows shader f n act)
  under_listed n Rows.set_under = here
  under_listed n Rows.load_under = here
  under_listed n (Rows.uniform_load_under {view = view} {severity = severity}) =
      among_right (given n (Required severity) (Before n) ∷ view_rows n (Required severity) view) (given n (Value n) (Before n) ∷ []) here
  under_listed n Rows.length_under = here

  required_listed : {act : Plain} {severity : Severity} (n : ℕ) → Collects act severity → Among (given n (Required severity) (Before n)) (plain_rows shader f n act)
  required_listed n Rows.barrier_collects = here
  required_listed n Rows.uniform_load_collects = here

  required_view : (n : ℕ) (view : View) (severity : Severity) (v : Node) → Among (given n (Required severity) v) (view_rows n (Required severity) view)
      → Among (given n (Required severity) v) (plain_rows shader f n (UniformLoad view severity))
  required_view n view severity v h = among_left (given n (Required severity) (Before n) ∷ view_rows n (Required severity) view) (given n (Value n) (Before n) ∷ []) (later h)

  moved_listed : {act : Plain} {view : View} {u : Node} (n : ℕ) (v : Node) → Moves n act u → Views act view → Among (given n u v) (view_rows n u view) → Among (given n u v) (plain_rows shader f n act)
  moved_listed n v Rows.load_moves (Rows.load_views {view = view}) h = among_left (given n (Value n) (Before n) ∷ view_rows n (Value n) view) (differs_rows shader f n view.base) (later h)
  moved_listed n v Rows.store_moves (Rows.store_views {view = view} {value = value}) h = among_right (given n (Stored n 0) (Before n) ∷ operand_rows n (Stored n 0) value) (view_rows n (Stored n 0) view) h

  stored_listed : {act : Plain} {variable : Base} {value : Option Operand} (n : ℕ) → Writes act variable value → Among (given n (Stored n 0) (Before n)) (plain_rows shader f n act)
  stored_listed n Rows.declare_writes = here
  stored_listed n (Rows.store_writes {view = view} {value = value}) = among_left (given n (Stored n 0) (Before n) ∷ operand_rows n (Stored n 0) value) (view_rows n (Stored n 0) view) here

  -- the value that is written
  written_listed : {act : Plain} {variable : Base} {value : Option Operand} (n : ℕ) (x : Operand) (v : Node) → Writes act variable value → value ≡ Some x → Names x v
      → Among (given n (Stored n 0) v) (plain_rows shader f n act)
  written_listed n x v (Rows.declare_writes {local = local} {value = value}) e names =
      later (subst (λ (o : Option Operand). Among (given n (Stored n 0) v) (value_rows n (Stored n 0) o)) (sym e) (operand_listed n (Stored n 0) names))
  written_listed n x v (Rows.store_writes {view = view} {value = value}) e names =
      among_left (given n (Stored n 0) (Before n) ∷ operand_rows n (Stored n 0) value) (view_rows n (Stored n 0) view)
      (later (subst (λ (o : Option Operand). Among (given n (Stored n 0) v) (value_rows n (Stored n 0) o)) (sym e) (operand_listed n (Stored n 0) names)))

  differs_listed : (n : ℕ) (view : View) → MayDiffer shader f view.base → Among (given n (Value n) NonUniform) (plain_rows shader f n (Load view))
  differs_listed n view d =
      among_right (given n (Value n) (Before n) ∷ view_rows n (Value n) view) (differs_rows shader f n view.base)
      (among_when (may_differ shader f view.base) (given n (Value n) NonUniform ∷ []) (differs_is shader f d) here)

  -- ---- control

  after_listed : {c rest : Code} {n : ℕ} (a : Node) → Starts c n rest → IsSimple c → Among (given (visit_at a c).statement.number (After n) (Before n)) (visit_rows shader f (visit_at a c))
  after_listed a Structure.plain_starts Rows.plain_simple = later here
  after_listed a Structure.jump_starts Rows.jump_simple = later here
  after_listed a Structure.call_starts Rows.call_simple = later here
  after_listed a Structure.branch_starts simple = elim simple [ ]
  after_listed a Structure.switch_starts simple = elim simple [ ]
  after_listed a Structure.loop_starts simple = elim simple [ ]

  before_listed : {c rest : Code} {n : ℕ} (a : Node) → Starts c n rest → Among (given (visit_at a c).statement.number (Before n) a) (visit_rows shader f (visit_at a c))
  before_listed a Structure.plain_starts = here
  before_listed a Structure.jump_starts = here
  before_listed a Structure.call_starts = here
  before_listed a Structure.branch_starts = here
  before_listed a Structure.switch_starts = here
  before_listed a Structure.loop_starts = here

  behind_listed : (k n p : ℕ) (x : Operand) (last : Node) (b : Bool) → b ≡ true → Among (given k (After n) (Before n)) (selected_rows k b x (span n p last))
  behind_listed k n p x last true e = among_right (given k (Part n p) (Before n) ∷ operand_rows k (Part n p) x) (given k (After n) (Before n) ∷ []) here
  behind_listed k n p x last false e = cc

  ends_listed : (k n p : ℕ) (x : Operand) (last : Node) (b : Bool) → b ≡ false → Among (given k (After n) last) (selected_rows k b x (span n p last))
  ends_listed k n p x last true e = cc
  ends_listed k n p x last false e = among_right (given k (Part n p) (Before n) ∷ operand_rows k (Part n p) x) (given k (After n) last ∷ []) here

  named_listed : (k n p : ℕ) (x : Operand) (last v : Node) (b : Bool) → Names x v → Among (given k (Part n p) v) (selected_rows k b x (span n p last))
  named_listed k n p x last v b names =
      among_left (given k (Part n p) (Before n) ∷ operand_rows k (Part n p) x) (given k (After n) (if b then Before n else last) ∷ []) (later (operand_listed k (Part n p) names))

  -- what is listed of one part
  in_part : {c : Code} {x : Operand} (a : Node) (row : Given) (s : PartSpan) → Selects c x → Among s (visit_at a c).parts
      → Among row (selected_rows (visit_at a c).statement.number (goes_on (first_ways c)) x s) → Among row (visit_rows shader f (visit_at a c))
  in_part a row s (Rows.branch_selects {n = n} {cond = cond} {one = one} {two = two} {rest = rest}) at h =
      later (flat_among (selected_rows n (goes_on (first_ways (branch n cond one two rest))) cond) (visit_at a (branch n cond one two rest)).parts s row at h)
  in_part a row s (Rows.switch_selects {n = n} {selector = selector} {parts = parts} {rest = rest}) at h =
      later (flat_among (selected_rows n (goes_on (first_ways (switch n selector parts rest))) selector) (visit_at a (switch n selector parts rest)).parts s row at h)

  module _ (a : Node) (n : ℕ) (body continuing rest : Code) (leave : Option Operand) where
    abbrev whole : Code
    whole = loop n body continuing leave rest

    abbrev begins : List Given
    begins = given n (Part n 0) (Before n) ∷ given n (Part n 0) (end_of (Part n 1) continuing) ∷ [] ++ value_rows n (Part n 0) leave

    abbrev ends : Bool → List Given
    ends b = given n (Part n 1) (end_of (Part n 0) body) ∷ given n (After n) (if b then Before n else Part n 0) ∷ []

    by_first : (row : Given) → Among row begins → Among row (visit_rows shader f (visit_at a whole))
    by_first row h = later (among_left begins (ends (goes_on (first_ways whole))) h)

    by_second : (row : Given) → Among row (ends (goes_on (first_ways whole))) → Among row (visit_rows shader f (visit_at a whole))
    by_second row h = later (among_right begins (ends (goes_on (first_ways whole))) h)

    loop_on : (b : Bool) → b ≡ true → Among (given n (After n) (Before n)) (ends b)
    loop_on true e = later here
    loop_on false e = cc

    loop_back : (b : Bool) → b ≡ false → Among (given n (After n) (Part n 0)) (ends b)
    loop_back true e = cc
    loop_back false e = later here

  goes_listed : {c body : Code} {n p : ℕ} (a : Node) → HasPart c n p body → goes_on (first_ways c) ≡ true → Among (given (visit_at a c).statement.number (After n) (Before n)) (visit_rows shader f (visit_at a c))
  goes_listed a (Structure.first_part {n = n} {cond = cond} {one = one} {two = two} {rest = rest}) e =
      in_part {c = branch n cond one two rest} a (given n (After n) (Before n)) (span n 0 (end_of (Part n 0) one)) Rows.branch_selects (span_listed {c = branch n cond one two rest} a Structure.first_part)
      (behind_listed n n 0 cond (end_of (Part n 0) one) (goes_on (first_ways (branch n cond one two rest))) e)
  goes_listed a (Structure.second_part {n = n} {cond = cond} {one = one} {two = two} {rest = rest}) e =
      in_part {c = branch n cond one two rest} a (given n (After n) (Before n)) (span n 1 (end_of (Part n 1) two)) Rows.branch_selects (span_listed {c = branch n cond one two rest} a Structure.second_part)
      (behind_listed n n 1 cond (end_of (Part n 1) two) (goes_on (first_ways (branch n cond one two rest))) e)
  goes_listed {body = body} {n = m} {p = p} a (Structure.switch_part {n = n} {selector = selector} {parts = parts} {rest = rest} case) e =
      in_part {c = switch n selector parts rest} a (given n (After m) (Before m)) (span m p (end_of (Part m p) body)) Rows.switch_selects
      (span_listed {c = switch n selector parts rest} a (Structure.switch_part case))
      (behind_listed n m p selector (end_of (Part m p) body) (goes_on (first_ways (switch n selector parts rest))) e)
  goes_listed a (Structure.body_part {n = n} {body = body} {continuing = continuing} {leave = leave} {rest = rest}) e =
      by_second a n body continuing rest leave (given n (After n) (Before n)) (loop_on a n body continuing rest leave (goes_on (first_ways (loop n body continuing leave rest))) e)
  goes_listed a (Structure.continuing_part {n = n} {body = body} {continuing = continuing} {leave = leave} {rest = rest}) e =
      by_second a n body continuing rest leave (given n (After n) (Before n)) (loop_on a n body continuing rest leave (goes_on (first_ways (loop n body continuing leave rest))) e)

  -- ---- all rows

  pub row_listed : {c : Code} {u v : Node} (a : Node) → Row shader f a c u v
      → Among (given (visit_at a c).statement.number u v) (visit_rows shader f (visit_at a c)) ⊎ VisitHeld f (visit_at a c) (given (visit_at a c).statement.number u v)
  row_listed a (Rows.control_before s) = inl (before_listed a s)
  row_listed a (Rows.control_after s simple) = inl (after_listed a s simple)
  row_listed a (Rows.selected_part {c = c} {body = body} {n = n} {p = p} selects has) =
      inl (in_part a (given (visit_at a c).statement.number (Part n p) (Before n)) (span n p (end_of (Part n p) body)) selects (span_listed a has) here)
  row_listed a (Rows.selected_by {c = c} {body = body} {n = n} {p = p} {operand = x} {v = v} selects has names) =
      inl (in_part a (given (visit_at a c).statement.number (Part n p) v) (span n p (end_of (Part n p) body)) selects (span_listed a has)
      (named_listed (visit_at a c).statement.number n p x (end_of (Part n p) body) v (goes_on (first_ways c)) names))
  row_listed a (Rows.goes_on_after has e) = inl (goes_listed a has e)
  row_listed a (Rows.selected_end {c = c} {body = body} {n = n} {p = p} {operand = x} selects has e) =
      inl (in_part a (given (visit_at a c).statement.number (After n) (end_of (Part n p) body)) (span n p (end_of (Part n p) body)) selects (span_listed a has)
      (ends_listed (visit_at a c).statement.number n p x (end_of (Part n p) body) (goes_on (first_ways c)) e))
  row_listed a Rows.loop_begin = inl (later here)
  row_listed a Rows.loop_turn = inl (later (later here))
  row_listed a (Rows.loop_leave {n = n} {body = body} {continuing = continuing} {rest = rest} {operand = x} {v = v} names) =
      inl (by_first a n body continuing rest (Some x) (given n (Part n 0) v) (later (later (operand_listed n (Part n 0) names))))
  row_listed a (Rows.loop_continuing {n = n} {body = body} {continuing = continuing} {rest = rest} {leave = leave}) =
      inl (by_second a n body continuing rest leave (given n (Part n 1) (end_of (Part n 0) body)) here)
  row_listed a (Rows.loop_after {n = n} {body = body} {continuing = continuing} {rest = rest} {leave = leave} e) =
      inl (by_second a n body continuing rest leave (given n (After n) (Part n 0)) (loop_back a n body continuing rest leave (goes_on (first_ways (loop n body continuing leave rest))) e))
  row_listed a (Rows.required_control {n = n} collects) = inl (later (later (required_listed n collects)))
  row_listed a (Rows.required_index {n = n} {view = view} {severity = severity} {operand = x} {v = v} at names) =
      inl (later (later (required_view n view severity v (index_listed n (Required severity) v view x at names))))
  row_listed a (Rows.required_pointer {n = n} {i = i} {view = view} {severity = severity} e) =
      inl (later (later (required_view n view severity (Param i) (pointer_listed n i (Required severity) view e))))
  row_listed a (Rows.value_control {n = n} under) = inl (later (later (under_listed n under)))
  row_listed a (Rows.value_operand {n = n} {args = args} {operand = x} {v = v} at names) =
      inl (later (later (later (flat_among (operand_rows n (Value n)) args x (given n (Value n) v) at (operand_listed n (Value n) names)))))
  row_listed a Rows.value_atomic = inl (later (later here))
  row_listed a Rows.value_call = inl (later (later here))
  row_listed a (Rows.moved_index {n = n} {view = view} {operand = x} {u = u} {v = v} moves views at names) =
      inl (later (later (moved_listed n v moves views (index_listed n u v view x at names))))
  row_listed a (Rows.moved_pointer {n = n} {i = i} {view = view} {u = u} moves views e) = inl (later (later (moved_listed n (Param i) moves views (pointer_listed n i u view e))))
  row_listed a (Rows.loaded_definition {by = by} held) = inr (record { by = by; held = held; is = refl })
  row_listed a (Rows.loaded_differs {n = n} {view = view} d) = inl (later (later (differs_listed n view d)))
  row_listed a (Rows.stored_control {n = n} writes) = inl (later (later (stored_listed n writes)))
  row_listed a (Rows.stored_value {n = n} {value = x} {v = v} writes names) = inl (later (later (written_listed n x v writes refl names)))
  row_listed a Rows.returned_control = inl (later (later here))
  row_listed a (Rows.returned_value {n = n} {value = x} {v = v} names) = inl (later (later (later (operand_listed n Returned names))))
  row_listed a (Rows.returned_contents {i = i} {by = by} held) = inr (record { param = i; one = record { by = by; held = held; is = refl } })

  -- ---- and a row of a definition that reaches is one of the rules

  held_plain : (a : Node) (n : ℕ) (act : Plain) (rest : Code) (row : Given) → NeedsHeld f n (plain_needs act) row → IsRow shader f a (plain n act rest) n row
  held_plain a n (Load view) rest row h = rowed shader f a (plain n (Load view) rest) n (Value n) (definition_node h.by) row h.is (Rows.loaded_definition h.held)
  held_plain a n (Set op args) rest row h = elim h [ ]
  held_plain a n (Declare local value) rest row h = elim h [ ]
  held_plain a n (Store view value) rest row h = elim h [ ]
  held_plain a n (Atomic op view args) rest row h = elim h [ ]
  held_plain a n (Barrier space severity) rest row h = elim h [ ]
  held_plain a n (UniformLoad view severity) rest row h = elim h [ ]
  held_plain a n (Length view) rest row h = elim h [ ]

  held_jump : (a : Node) (n : ℕ) (act : Jump) (rest : Code) (row : Given) → NeedsHeld f n (jump_needs act) row → IsRow shader f a (jump n act rest) n row
  held_jump a n Break rest row h = elim h [ ]
  held_jump a n Continue rest row h = elim h [ ]
  held_jump a n (Return value) rest row h =
      rowed shader f a (jump n (Return value) rest) n (ContentsOut h.param) (definition_node h.one.by) row h.one.is (Rows.returned_contents h.one.held)

  pub held_row : {c rest : Code} {n : ℕ} (a : Node) (row : Given) → Starts c n rest → VisitHeld f (visit_at a c) row → IsRow shader f a c n row
  held_row a row (Structure.plain_starts {n = n} {act = act} {rest = rest}) h = held_plain a n act rest row h
  held_row a row (Structure.jump_starts {n = n} {act = act} {rest = rest}) h = held_jump a n act rest row h
  held_row a row Structure.call_starts h = elim h [ ]
  held_row a row Structure.branch_starts h = elim h [ ]
  held_row a row Structure.switch_starts h = elim h [ ]
  held_row a row Structure.loop_starts h = elim h [ ]
