-- The rows that are listed of a statement are those that the rules give, but for definitions that reach.
use Rattle.std.proofs.Common.{◌≡◌, refl, sym, ap, subst, ◌∙◌, ℕ, Bool, true, false, List, [], ◌∷◌, ◌++◌, Option, Some, None, inl, inr}
use Rattle.std.specs.Prelude.{if◌then◌else◌}
use Rattle.std.specs.List.{flat_map}
use Rattle.shade_base.specs.declared.severity.Severity.{Severity}
use Rattle.shade_core.specs.declared.module.CoreFunction.{CoreFunction}
use Rattle.shade_core.specs.declared.module.CoreModule.{CoreModule}
use Rattle.shade_core.specs.declared.statement.Argument.{Argument}
use Rattle.shade_core.specs.declared.statement.Base.{Base}
use Rattle.shade_core.specs.declared.statement.Base.TheVariants.{Local, Module, Pointee}
use Rattle.shade_core.specs.declared.statement.Operand.{Operand}
use Rattle.shade_core.specs.declared.statement.Operand.TheVariants as operand
use Rattle.shade_core.specs.declared.statement.View.{View}
use Rattle.shade_core.specs.declared.statement.ViewStep.{ViewStep}
use Rattle.shade_core.specs.declared.statement.ViewStep.TheVariants.{Member, Index}
use Rattle.shade_core.specs.Behaviour.{goes_on}
use Rattle.shade_core.specs.Code.{Plain, Set, Load, Declare, Store, Atomic, Barrier, UniformLoad, Length, Jump, Break, Continue, Return, Code, done, plain, jump, call, branch, switch, loop, no_part, part}
use Rattle.shade_graph.specs.declared.node.Node.{Node}
use Rattle.shade_graph.specs.declared.node.Node.TheVariants.{Required, NonUniform, Param, Returned, Before, After, Part, Value, Stored}
use Rattle.shade_graph.specs.Graph.{Among, here, later, Names, names_param, names_temp, end_of}
use Rattle.shade_graph.proofs.Members.{among_left, among_right, among_split, among_if, among_one}
use Rattle.shade_uniformity.specs.declared.rows.Given.{Given}
use Rattle.shade_uniformity.specs.declared.walk.PartSpan.{PartSpan}
use Rattle.shade_uniformity.specs.Structure
use Rattle.shade_uniformity.specs.Structure.{Starts, HasPart, first_ways}
use Rattle.shade_uniformity.specs.Rows
use Rattle.shade_uniformity.specs.Rows.{Indexes, Writes, Selects, Moves, Views, Row}
use Rattle.shade_uniformity.specs.RowLists.{given, operand_rows, operands_rows, value_rows, step_rows, steps_rows, base_rows, view_rows, may_differ, differs_rows, plain_rows, jump_rows, selected_rows, turn_rows, visit_rows}
use Rattle.shade_uniformity.specs.Visits.{visit_at, span}
use Rattle.shade_uniformity.proofs.DifferLaws.{is_differing}
use Rattle.shade_uniformity.proofs.FlatLaws.{among_flat, flat_among}
use Rattle.shade_uniformity.proofs.SpanLaws.{listed_span}

-- ---- operands and views

-- a row to the node of an operand
pub record IsNamed (n : ℕ) (u : Node) (x : Operand) (row : Given) : Type 0 where
  pub to : Node
  pub names : Names x to
  pub is : row ≡ given n u to

pub listed_operand : (n : ℕ) (u : Node) (x : Operand) (row : Given) → Among row (operand_rows n u x) → IsNamed n u x row
listed_operand n u (operand.Constant ty value) row h = elim h [ ]
listed_operand n u (operand.Param i) row here = record { to = Param i; names = names_param; is = refl }
listed_operand n u (operand.Param i) row (later h) = elim h [ ]
listed_operand n u (operand.Temp m) row here = record { to = Value m; names = names_temp; is = refl }
listed_operand n u (operand.Temp m) row (later h) = elim h [ ]

pub operand_listed : {x : Operand} {v : Node} (n : ℕ) (u : Node) → Names x v → Among (given n u v) (operand_rows n u x)
operand_listed n u names_param = here
operand_listed n u names_temp = here

-- a row to the node of a value
pub record IsNamedValue (n : ℕ) (u : Node) (value : Option Operand) (row : Given) : Type 0 where
  pub operand : Operand
  pub some : value ≡ Some operand
  pub named : IsNamed n u operand row

pub listed_value : (n : ℕ) (u : Node) (value : Option Operand) (row : Given) → Among row (value_rows n u value) → IsNamedValue n u value row
listed_value n u None row h = elim h [ ]
listed_value n u (Some x) row h = record { operand = x; some = refl; named = listed_operand n u x row h }

-- a row to an index of a view, or to the parameter that the view begins at
pub data IsViewed (n : ℕ) (u : Node) (view : View) (row : Given) : Type 0 where
  by_index : {x : Operand} {v : Node} → Indexes view x → Names x v → row ≡ given n u v → IsViewed n u view row
  by_pointer : {i : ℕ} → view.base ≡ Pointee i → row ≡ given n u (Param i) → IsViewed n u view row

by_step : (n : ℕ) (u : Node) (view : View) (step : ViewStep) (row : Given) → Among step view.steps → Among row (step_rows n u step) → IsViewed n u view row
by_step n u view (Member i) row at h = elim h [ ]
by_step n u view (Index x) row at h = let r = listed_operand n u x row h in by_index at r.names r.is

by_base : (n : ℕ) (u : Node) (view : View) (base : Base) (row : Given) → view.base ≡ base → Among row (base_rows n u base) → IsViewed n u view row
by_base n u view (Local i) row e h = elim h [ ]
by_base n u view (Module i) row e h = elim h [ ]
by_base n u view (Pointee i) row e h = by_pointer e (among_one (given n u (Param i)) h)

pub listed_view : (n : ℕ) (u : Node) (view : View) (row : Given) → Among row (view_rows n u view) → IsViewed n u view row
listed_view n u view row h = elim (among_split (steps_rows n u view.steps) (base_rows n u view.base) h) [
  | inl step ↦ (let r = among_flat (step_rows n u) view.steps row step in by_step n u view r.0 row r.1 r.2)
  | inr base ↦ by_base n u view view.base row refl base
]

pub index_listed : (n : ℕ) (u v : Node) (view : View) (x : Operand) → Indexes view x → Names x v → Among (given n u v) (view_rows n u view)
index_listed n u v view x at names =
    among_left (steps_rows n u view.steps) (base_rows n u view.base) (flat_among (step_rows n u) view.steps (Index x) (given n u v) at (operand_listed n u names))

pub pointer_listed : (n i : ℕ) (u : Node) (view : View) → view.base ≡ Pointee i → Among (given n u (Param i)) (view_rows n u view)
pointer_listed n i u view e =
    among_right (steps_rows n u view.steps) (base_rows n u view.base) (subst (λ (b : Base). Among (given n u (Param i)) (base_rows n u b)) (sym e) here)

-- ---- from the list to the rules

module _ (shader : CoreModule) (f : CoreFunction) (a : Node) where
  -- a row of the statement with a number that a list begins with
  abbrev pub IsRow : Code → ℕ → Given → Type 0
  IsRow c n row = (row.statement ≡ n) × Row shader f a c row.from row.to

  pub rowed : (c : Code) (n : ℕ) (u v : Node) (row : Given) → row ≡ given n u v → Row shader f a c u v → IsRow c n row
  rowed c n u v row e r = subst (IsRow c n) (sym e) (refl, r)

  moved : (n : ℕ) (act : Plain) (rest : Code) (view : View) (u : Node) (row : Given) → Moves n act u → Views act view → IsViewed n u view row → IsRow (plain n act rest) n row
  moved n act rest view u row m w (by_index {x = x} {v = v} at names is) = rowed (plain n act rest) n u v row is (Rows.moved_index m w at names)
  moved n act rest view u row m w (by_pointer {i = i} e is) = rowed (plain n act rest) n u (Param i) row is (Rows.moved_pointer m w e)

  required : (n : ℕ) (view : View) (severity : Severity) (rest : Code) (row : Given) → IsViewed n (Required severity) view row → IsRow (plain n (UniformLoad view severity) rest) n row
  required n view severity rest row (by_index {x = x} {v = v} at names is) = rowed (plain n (UniformLoad view severity) rest) n (Required severity) v row is (Rows.required_index at names)
  required n view severity rest row (by_pointer {i = i} e is) = rowed (plain n (UniformLoad view severity) rest) n (Required severity) (Param i) row is (Rows.required_pointer e)

  load_listed : (n : ℕ) (view : View) (rest : Code) (row : Given) → Among row (given n (Value n) (Before n) ∷ view_rows n (Value n) view) → IsRow (plain n (Load view) rest) n row
  load_listed n view rest row here = (refl, Rows.value_control Rows.load_under)
  load_listed n view rest row (later h) = moved n (Load view) rest view (Value n) row Rows.load_moves Rows.load_views (listed_view n (Value n) view row h)

  store_listed : (n : ℕ) (view : View) (value : Operand) (rest : Code) (row : Given) → Among row (given n (Stored n 0) (Before n) ∷ operand_rows n (Stored n 0) value)
      → IsRow (plain n (Store view value) rest) n row
  store_listed n view value rest row here = (refl, Rows.stored_control Rows.store_writes)
  store_listed n view value rest row (later h) =
      let r = listed_operand n (Stored n 0) value row h in rowed (plain n (Store view value) rest) n (Stored n 0) r.to row r.is (Rows.stored_value Rows.store_writes r.names)

  uniform_listed : (n : ℕ) (view : View) (severity : Severity) (rest : Code) (row : Given) → Among row (given n (Required severity) (Before n) ∷ view_rows n (Required severity) view)
      → IsRow (plain n (UniformLoad view severity) rest) n row
  uniform_listed n view severity rest row here = (refl, Rows.required_control Rows.uniform_load_collects)
  uniform_listed n view severity rest row (later h) = required n view severity rest row (listed_view n (Required severity) view row h)

  listed_plain : (n : ℕ) (act : Plain) (rest : Code) (row : Given) → Among row (plain_rows shader f n act) → IsRow (plain n act rest) n row
  listed_plain n (Set op args) rest row here = (refl, Rows.value_control Rows.set_under)
  listed_plain n (Set op args) rest row (later h) =
      let r = among_flat (operand_rows n (Value n)) args row h in
      let named = listed_operand n (Value n) r.0 row r.2 in
      rowed (plain n (Set op args) rest) n (Value n) named.to row named.is (Rows.value_operand r.1 named.names)
  listed_plain n (Load view) rest row h = elim (among_split (given n (Value n) (Before n) ∷ view_rows n (Value n) view) (differs_rows shader f n view.base) h) [
    | inl own ↦ load_listed n view rest row own
    | inr more ↦ (let on = among_if (may_differ shader f view.base) (given n (Value n) NonUniform ∷ []) more in
        rowed (plain n (Load view) rest) n (Value n) NonUniform row (among_one (given n (Value n) NonUniform) on.1) (Rows.loaded_differs (is_differing shader f view.base on.0)))
  ]
  listed_plain n (Declare local value) rest row here = (refl, Rows.stored_control Rows.declare_writes)
  listed_plain n (Declare local value) rest row (later h) =
      let r = listed_value n (Stored n 0) value row h in
      rowed (plain n (Declare local value) rest) n (Stored n 0) r.named.to row r.named.is (Rows.stored_value (subst (λ (o : Option Operand). Writes (Declare local value) (Local local) o) r.some Rows.declare_writes) r.named.names)
  listed_plain n (Store view value) rest row h = elim (among_split (given n (Stored n 0) (Before n) ∷ operand_rows n (Stored n 0) value) (view_rows n (Stored n 0) view) h) [
    | inl own ↦ store_listed n view value rest row own
    | inr more ↦ moved n (Store view value) rest view (Stored n 0) row Rows.store_moves Rows.store_views (listed_view n (Stored n 0) view row more)
  ]
  listed_plain n (Atomic op view args) rest row here = (refl, Rows.value_atomic)
  listed_plain n (Atomic op view args) rest row (later h) = elim h [ ]
  listed_plain n (Barrier space severity) rest row here = (refl, Rows.required_control Rows.barrier_collects)
  listed_plain n (Barrier space severity) rest row (later h) = elim h [ ]
  listed_plain n (UniformLoad view severity) rest row h =
      elim (among_split (given n (Required severity) (Before n) ∷ view_rows n (Required severity) view) (given n (Value n) (Before n) ∷ []) h) [
        | inl own ↦ uniform_listed n view severity rest row own
        | inr more ↦ rowed (plain n (UniformLoad view severity) rest) n (Value n) (Before n) row (among_one (given n (Value n) (Before n)) more) (Rows.value_control Rows.uniform_load_under)
      ]
  listed_plain n (Length view) rest row here = (refl, Rows.value_control Rows.length_under)
  listed_plain n (Length view) rest row (later h) = elim h [ ]

  listed_jump : (n : ℕ) (act : Jump) (rest : Code) (row : Given) → Among row (jump_rows n act) → IsRow (jump n act rest) n row
  listed_jump n Break rest row h = elim h [ ]
  listed_jump n Continue rest row h = elim h [ ]
  listed_jump n (Return value) rest row here = (refl, Rows.returned_control)
  listed_jump n (Return value) rest row (later h) =
      let r = listed_value n Returned value row h in
      rowed (jump n (Return value) rest) n Returned r.named.to row r.named.is
      (subst (λ (o : Option Operand). Row shader f a (jump n (Return o) rest) Returned r.named.to) (sym r.some) (Rows.returned_value r.named.names))

  -- control behind a statement one of whose parts an operand takes
  behind_row : (c body : Code) (n m p : ℕ) (x : Operand) (row : Given) (b : Bool) → goes_on (first_ways c) ≡ b → Selects c x → HasPart c m p body
      → row ≡ given n (After m) (if b then Before m else end_of (Part m p) body) → IsRow c n row
  behind_row c body n m p x row true e selects has is = rowed c n (After m) (Before m) row is (Rows.goes_on_after has e)
  behind_row c body n m p x row false e selects has is = rowed c n (After m) (end_of (Part m p) body) row is (Rows.selected_end selects has e)

  begins : (c body : Code) (n m p : ℕ) (x : Operand) (row : Given) → Selects c x → HasPart c m p body → Among row (given n (Part m p) (Before m) ∷ operand_rows n (Part m p) x) → IsRow c n row
  begins c body n m p x row selects has here = (refl, Rows.selected_part selects has)
  begins c body n m p x row selects has (later h) = let r = listed_operand n (Part m p) x row h in rowed c n (Part m p) r.to row r.is (Rows.selected_by selects has r.names)

  part_row : (c body : Code) (n m p : ℕ) (x : Operand) (row : Given) → Selects c x → HasPart c m p body
      → Among row (selected_rows n (goes_on (first_ways c)) x (span m p (end_of (Part m p) body))) → IsRow c n row
  part_row c body n m p x row selects has h =
      elim (among_split (given n (Part m p) (Before m) ∷ operand_rows n (Part m p) x) (given n (After m) (if goes_on (first_ways c) then Before m else end_of (Part m p) body) ∷ []) h) [
        | inl own ↦ begins c body n m p x row selects has own
        | inr more ↦ behind_row c body n m p x row (goes_on (first_ways c)) refl selects has (among_one (given n (After m) (if goes_on (first_ways c) then Before m else end_of (Part m p) body)) more)
      ]

  listed_selected : (c : Code) (n : ℕ) (x : Operand) (row : Given) → Selects c x → Among row (flat_map (selected_rows n (goes_on (first_ways c)) x) (visit_at a c).parts) → IsRow c n row
  listed_selected c n x row selects h =
      let r = among_flat (selected_rows n (goes_on (first_ways c)) x) (visit_at a c).parts row h in
      let s = listed_span a c r.0 r.1 in
      part_row c s.body n s.number s.which x row selects s.has (subst (λ (z : PartSpan). Among row (selected_rows n (goes_on (first_ways c)) x z)) s.is r.2)

  loop_behind : (n : ℕ) (body continuing rest : Code) (leave : Option Operand) (row : Given) (b : Bool) → goes_on (first_ways (loop n body continuing leave rest)) ≡ b
      → row ≡ given n (After n) (if b then Before n else Part n 0) → IsRow (loop n body continuing leave rest) n row
  loop_behind n body continuing rest leave row true e is = rowed (loop n body continuing leave rest) n (After n) (Before n) row is (Rows.goes_on_after Structure.body_part e)
  loop_behind n body continuing rest leave row false e is = rowed (loop n body continuing leave rest) n (After n) (Part n 0) row is (Rows.loop_after e)

  loop_begins : (n : ℕ) (body continuing rest : Code) (leave : Option Operand) (row : Given)
      → Among row (given n (Part n 0) (Before n) ∷ given n (Part n 0) (end_of (Part n 1) continuing) ∷ [] ++ value_rows n (Part n 0) leave) → IsRow (loop n body continuing leave rest) n row
  loop_begins n body continuing rest leave row here = (refl, Rows.loop_begin)
  loop_begins n body continuing rest leave row (later here) = (refl, Rows.loop_turn)
  loop_begins n body continuing rest leave row (later (later h)) =
      let r = listed_value n (Part n 0) leave row h in
      rowed (loop n body continuing leave rest) n (Part n 0) r.named.to row r.named.is
      (subst (λ (o : Option Operand). Row shader f a (loop n body continuing o rest) (Part n 0) r.named.to) (sym r.some) (Rows.loop_leave r.named.names))

  loop_ends : (n : ℕ) (body continuing rest : Code) (leave : Option Operand) (row : Given)
      → Among row (given n (Part n 1) (end_of (Part n 0) body) ∷ given n (After n) (if goes_on (first_ways (loop n body continuing leave rest)) then Before n else Part n 0) ∷ []) → IsRow (loop n body continuing leave rest) n row
  loop_ends n body continuing rest leave row here = (refl, Rows.loop_continuing)
  loop_ends n body continuing rest leave row (later h) =
      loop_behind n body continuing rest leave row (goes_on (first_ways (loop n body continuing leave rest))) refl
      (among_one (given n (After n) (if goes_on (first_ways (loop n body continuing leave rest)) then Before n else Part n 0)) h)

  listed_loop : (n : ℕ) (body continuing rest : Code) (leave : Option Operand) (row : Given)
      → Among row (turn_rows n (goes_on (first_ways (loop n body continuing leave rest))) leave (end_of (Part n 0) body) (end_of (Part n 1) continuing)) → IsRow (loop n body continuing leave rest) n row
  listed_loop n body continuing rest leave row h = elim (among_split (given n (Part n 0) (Before n) ∷ given n (Part n 0) (end_of (Part n 1) continuing) ∷ [] ++ value_rows n (Part n 0) leave)
      (given n (Part n 1) (end_of (Part n 0) body) ∷ given n (After n) (if goes_on (first_ways (loop n body continuing leave rest)) then Before n else Part n 0) ∷ []) h) [
        | inl first ↦ loop_begins n body continuing rest leave row first
        | inr more ↦ loop_ends n body continuing rest leave row more
      ]

  pub listed_row : {c rest : Code} {n : ℕ} (row : Given) → Starts c n rest → Among row (visit_rows shader f (visit_at a c)) → IsRow c n row
  listed_row row Structure.plain_starts here = (refl, Rows.control_before Structure.plain_starts)
  listed_row row Structure.plain_starts (later here) = (refl, Rows.control_after Structure.plain_starts Rows.plain_simple)
  listed_row row (Structure.plain_starts {n = n} {act = act} {rest = rest}) (later (later h)) = listed_plain n act rest row h
  listed_row row Structure.jump_starts here = (refl, Rows.control_before Structure.jump_starts)
  listed_row row Structure.jump_starts (later here) = (refl, Rows.control_after Structure.jump_starts Rows.jump_simple)
  listed_row row (Structure.jump_starts {n = n} {act = act} {rest = rest}) (later (later h)) = listed_jump n act rest row h
  listed_row row Structure.call_starts here = (refl, Rows.control_before Structure.call_starts)
  listed_row row Structure.call_starts (later here) = (refl, Rows.control_after Structure.call_starts Rows.call_simple)
  listed_row row Structure.call_starts (later (later here)) = (refl, Rows.value_call)
  listed_row row Structure.call_starts (later (later (later h))) = elim h [ ]
  listed_row row Structure.branch_starts here = (refl, Rows.control_before Structure.branch_starts)
  listed_row row (Structure.branch_starts {n = n} {cond = cond} {one = one} {two = two} {rest = rest}) (later h) = listed_selected (branch n cond one two rest) n cond row Rows.branch_selects h
  listed_row row Structure.switch_starts here = (refl, Rows.control_before Structure.switch_starts)
  listed_row row (Structure.switch_starts {n = n} {selector = selector} {parts = parts} {rest = rest}) (later h) =
      listed_selected (switch n selector parts rest) n selector row Rows.switch_selects h
  listed_row row Structure.loop_starts here = (refl, Rows.control_before Structure.loop_starts)
  listed_row row (Structure.loop_starts {n = n} {body = body} {continuing = continuing} {leave = leave} {rest = rest}) (later h) = listed_loop n body continuing rest leave row h
