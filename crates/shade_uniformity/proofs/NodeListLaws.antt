-- The nodes of the list are exactly the nodes of a function.
use Rattle.std.proofs.Common.{◌≡◌, refl, sym, ap, subst, ◌∙◌, ℕ, zero, suc, ◌+◌, ◌<◌, Bool, true, false, List, [], ◌∷◌, ◌++◌, length, map, arith, Option, Some, None, inl, inr}
use Rattle.std.specs.Prelude.{◌↔◌, ◌⊎◌, if◌then◌else◌, is_some, IsSome, Contains, slice_get}
use Rattle.std.specs.List.{flat_map}
use Rattle.std.proofs.lemmas.Bool.{false≢true}
use Rattle.shade_core.specs.declared.module.CoreFunction.{CoreFunction}
use Rattle.shade_core.specs.declared.module.CoreModule.{CoreModule}
use Rattle.shade_core.specs.declared.module.CoreParam.{CoreParam}
use Rattle.shade_core.specs.declared.statement.Argument.{Argument}
use Rattle.shade_core.specs.declared.statement.Argument.TheVariants as argument
use Rattle.shade_core.specs.declared.statement.Base.{Base}
use Rattle.shade_core.specs.declared.statement.Base.TheVariants.{Local, Pointee}
use Rattle.shade_core.specs.declared.statement.CoreStatement.{CoreStatement}
use Rattle.shade_core.specs.declared.statement.Operand.{Operand}
use Rattle.shade_core.specs.declared.statement.View.{View}
use Rattle.shade_core.specs.Code.{Plain, Set, Load, Declare, Store, Atomic, Barrier, UniformLoad, Length, Code, done, plain, jump, call, branch, switch, loop, no_part, part, code_of}
use Rattle.shade_flow.specs.Definitions.{points, points_there, tracked}
use Rattle.shade_graph.specs.declared.node.Node.{Node}
use Rattle.shade_graph.specs.declared.node.Node.TheVariants.{Required, NonUniform, Start, Param, ContentsIn, ContentsOut, Returned, Before, After, Part, Value, Stored}
use Rattle.shade_graph.specs.Graph.{Among, here, later, end_of}
use Rattle.shade_graph.specs.Numbered.{fixed_nodes, param_nodes, returned_nodes, function_nodes}
use Rattle.shade_graph.proofs.Members.{among_left, among_right, among_split, among_if, among_one, among_map, map_among, among_contains, contains_among, some_same}
use Rattle.shade_graph.proofs.GraphLaws.{param_listed, listed_param, result_listed, listed_result}
use Rattle.shade_uniformity.specs.declared.walk.PartSpan.{PartSpan}
use Rattle.shade_uniformity.specs.declared.walk.Spot.{Spot}
use Rattle.shade_uniformity.specs.Structure
use Rattle.shade_uniformity.specs.Structure.{Starts, HasPart, Analysed}
use Rattle.shade_uniformity.specs.Rows
use Rattle.shade_uniformity.specs.Rows.{GivesValue, Writes, StatementNode}
use Rattle.shade_uniformity.specs.Edges
use Rattle.shade_uniformity.specs.Edges.{IsNode}
use Rattle.shade_uniformity.specs.Visits.{Visit, visit_at, visit_of, span, IsVisit, AreAnalysed}
use Rattle.shade_uniformity.specs.NodeLists.{stored_nodes, argument_nodes, arguments_nodes, gives_result, result_nodes, plain_nodes, head_nodes, begin, part_nodes, visit_nodes, content_nodes, contents_nodes, all_nodes}
use Rattle.shade_uniformity.proofs.FlatLaws.{among_flat, among_when, flat_among, flat_over}
use Rattle.shade_uniformity.proofs.SpanLaws.{listed_span, number_is, span_listed}

some_is : {A : Type 0} (o : Option A) → IsSome o → is_some o ≡ true
some_is None s = cc
some_is (Some x) s = refl

is_some_is : {A : Type 0} (o : Option A) → is_some o ≡ true → IsSome o
is_some_is None s = cc
is_some_is (Some x) s = refl

-- ---- parts

part_listed : (a : Node) (c body : Code) (n p : ℕ) → HasPart c n p body → Among (Part n p) (part_nodes (visit_at a c).parts)
part_listed a c body n p has = among_map begin (visit_at a c).parts (span n p (end_of (Part n p) body)) (span_listed a has)

record IsPart (c : Code) (u : Node) : Type 0 where
  number : ℕ
  which : ℕ
  body : Code
  has : HasPart c number which body
  is : u ≡ Part number which

listed_part : (a : Node) (c : Code) (u : Node) → Among u (part_nodes (visit_at a c).parts) → IsPart c u
listed_part a c u h =
    let r = map_among begin (visit_at a c).parts u h in
    let s = listed_span a c r.0 r.1 in
    record { number = s.number; which = s.which; body = s.body; has = s.has; is = r.2 ∙ ap begin s.is }

-- ---- what a statement gives and stores

module _ (shader : CoreModule) (f : CoreFunction) where
  stored_listed : (n j : ℕ) (variable : Base) → tracked f variable ≡ true → Among (Stored n j) (stored_nodes f n j variable)
  stored_listed n j variable e = among_when (tracked f variable) (Stored n j ∷ []) e here

  listed_stored : (n j : ℕ) (variable : Base) (u : Node) → Among u (stored_nodes f n j variable) → (tracked f variable ≡ true) × (u ≡ Stored n j)
  listed_stored n j variable u h = let on = among_if (tracked f variable) (Stored n j ∷ []) h in (on.0, among_one (Stored n j) on.1)

  argument_listed : (n i j : ℕ) (args : List Argument) (view : View) → slice_get args j ≡ Some (argument.Pointer view) → tracked f view.base ≡ true → Among (Stored n (i + j)) (arguments_nodes f n i args)
  argument_listed n i j [] view e h = cc
  argument_listed n i zero (x ∷ args) view e h =
      among_left (argument_nodes f n i x) (arguments_nodes f n (i + 1) args)
      (subst (λ (k : ℕ). Among (Stored n k) (argument_nodes f n i x)) (omega arith)
      (subst (λ (y : Argument). Among (Stored n i) (argument_nodes f n i y)) (some_same x (argument.Pointer view) e) (stored_listed n i view.base h)))
  argument_listed n i (suc j) (x ∷ args) view e h =
      among_right (argument_nodes f n i x) (arguments_nodes f n (i + 1) args)
      (subst (λ (k : ℕ). Among (Stored n k) (arguments_nodes f n (i + 1) args)) (omega arith) (argument_listed n (i + 1) j args view e h))

  record IsStoredBy (n i : ℕ) (args : List Argument) (u : Node) : Type 0 where
    which : ℕ
    view : View
    at : slice_get args which ≡ Some (argument.Pointer view)
    followed : tracked f view.base ≡ true
    is : u ≡ Stored n (i + which)

  one_argument : (n i : ℕ) (x : Argument) (args : List Argument) (u : Node) → Among u (argument_nodes f n i x) → IsStoredBy n i (x ∷ args) u
  one_argument n i (argument.Plain operand) args u h = elim h [ ]
  one_argument n i (argument.Pointer view) args u h =
      let on = listed_stored n i view.base u h in record { which = 0; view = view; at = refl; followed = on.0; is = on.1 ∙ ap (Stored n) (omega arith) }

  listed_argument : (n i : ℕ) (args : List Argument) (u : Node) → Among u (arguments_nodes f n i args) → IsStoredBy n i args u
  listed_argument n i [] u h = elim h [ ]
  listed_argument n i (x ∷ args) u h = elim (among_split (argument_nodes f n i x) (arguments_nodes f n (i + 1) args) h) [
    | inl own ↦ one_argument n i x args u own
    | inr more ↦ (let r = listed_argument n (i + 1) args u more in
        record { which = suc r.which; view = r.view; at = r.at; followed = r.followed; is = r.is ∙ ap (Stored n) (omega arith) })
  ]

  value_listed : {act : Plain} (n : ℕ) → GivesValue act → Among (Value n) (plain_nodes f n act)
  value_listed n Rows.set_gives = here
  value_listed n Rows.load_gives = here
  value_listed n Rows.atomic_gives = here
  value_listed n Rows.uniform_load_gives = here
  value_listed n Rows.length_gives = here

  written_listed : {act : Plain} {variable : Base} {value : Option Operand} (n : ℕ) → Writes act variable value → tracked f variable ≡ true → Among (Stored n 0) (plain_nodes f n act)
  written_listed n (Rows.declare_writes {local = local}) e = stored_listed n 0 (Local local) e
  written_listed n (Rows.store_writes {view = view}) e = stored_listed n 0 view.base e

  gives : (callee : Option CoreFunction) (one : CoreFunction) → callee ≡ Some one → IsSome one.result → gives_result callee ≡ true
  gives None one e h = cc
  gives (Some found) one e h = subst (λ (g : CoreFunction). is_some g.result ≡ true) (some_same found one e) (some_is one.result h)

  -- ---- the nodes of a statement

  abbrev control_nodes : (a : Node) (c : Code) → List Node
  control_nodes a c = Before (visit_at a c).statement.number ∷ After (visit_at a c).statement.number ∷ []

  by_control : (a : Node) (c : Code) (u : Node) → Among u (control_nodes a c) → Among u (visit_nodes shader f (visit_at a c))
  by_control a c u h =
      among_left (control_nodes a c ++ part_nodes (visit_at a c).parts) (head_nodes shader f (visit_at a c).statement.number (visit_at a c).statement.head)
      (among_left (control_nodes a c) (part_nodes (visit_at a c).parts) h)

  by_part : (a : Node) (c : Code) (u : Node) → Among u (part_nodes (visit_at a c).parts) → Among u (visit_nodes shader f (visit_at a c))
  by_part a c u h =
      among_left (control_nodes a c ++ part_nodes (visit_at a c).parts) (head_nodes shader f (visit_at a c).statement.number (visit_at a c).statement.head)
      (among_right (control_nodes a c) (part_nodes (visit_at a c).parts) h)

  by_head : (a : Node) (c : Code) (u : Node) → Among u (head_nodes shader f (visit_at a c).statement.number (visit_at a c).statement.head) → Among u (visit_nodes shader f (visit_at a c))
  by_head a c u h = among_right (control_nodes a c ++ part_nodes (visit_at a c).parts) (head_nodes shader f (visit_at a c).statement.number (visit_at a c).statement.head) h

  statement_listed : (a : Node) (c : Code) (u : Node) → StatementNode shader f c u → Among u (visit_nodes shader f (visit_at a c))
  statement_listed a c u (Rows.before_stands {rest = rest} {n = n} s) =
      by_control a c (Before n) (subst (λ (k : ℕ). Among (Before k) (control_nodes a c)) (number_is a s) here)
  statement_listed a c u (Rows.after_stands {rest = rest} {n = n} s) =
      by_control a c (After n) (subst (λ (k : ℕ). Among (After k) (control_nodes a c)) (number_is a s) (later here))
  statement_listed a c u (Rows.part_stands {body = body} {n = n} {p = p} has) = by_part a c (Part n p) (part_listed a c body n p has)
  statement_listed a c u (Rows.value_stands {n = n} {act = act} {rest = rest} value) = by_head a (plain n act rest) (Value n) (value_listed n value)
  statement_listed a c u (Rows.call_value_stands {n = n} {g = g} {args = args} {rest = rest} {callee = callee} at some) =
      by_head a (call n g args rest) (Value n) (among_left (result_nodes shader n g) (arguments_nodes f n 0 args)
      (among_when (gives_result (slice_get shader.functions g)) (Value n ∷ []) (gives (slice_get shader.functions g) callee at some) here))
  statement_listed a c u (Rows.stored_stands {n = n} {act = act} {rest = rest} {variable = variable} {value = value} writes followed) =
      by_head a (plain n act rest) (Stored n 0) (written_listed n writes followed)
  statement_listed a c u (Rows.argument_stands {n = n} {g = g} {j = j} {args = args} {rest = rest} {view = view} at followed) =
      by_head a (call n g args rest) (Stored n j) (among_right (result_nodes shader n g) (arguments_nodes f n 0 args)
      (subst (λ (k : ℕ). Among (Stored n k) (arguments_nodes f n 0 args)) (omega arith) (argument_listed n 0 j args view at followed)))

  listed_control : (c rest : Code) (n m : ℕ) (u : Node) → m ≡ n → Starts c n rest → Among u (Before m ∷ After m ∷ []) → StatementNode shader f c u
  listed_control c rest n m u e s here = subst (λ (k : ℕ). StatementNode shader f c (Before k)) (sym e) (Rows.before_stands s)
  listed_control c rest n m u e s (later here) = subst (λ (k : ℕ). StatementNode shader f c (After k)) (sym e) (Rows.after_stands s)
  listed_control c rest n m u e s (later (later h)) = elim h [ ]

  listed_plain : (n : ℕ) (act : Plain) (rest : Code) (u : Node) → Among u (plain_nodes f n act) → StatementNode shader f (plain n act rest) u
  listed_plain n (Set op args) rest u here = Rows.value_stands Rows.set_gives
  listed_plain n (Set op args) rest u (later h) = elim h [ ]
  listed_plain n (Load view) rest u here = Rows.value_stands Rows.load_gives
  listed_plain n (Load view) rest u (later h) = elim h [ ]
  listed_plain n (Declare local value) rest u h =
      let on = listed_stored n 0 (Local local) u h in subst (StatementNode shader f (plain n (Declare local value) rest)) (sym on.1) (Rows.stored_stands Rows.declare_writes on.0)
  listed_plain n (Store view value) rest u h =
      let on = listed_stored n 0 view.base u h in subst (StatementNode shader f (plain n (Store view value) rest)) (sym on.1) (Rows.stored_stands Rows.store_writes on.0)
  listed_plain n (Atomic op view args) rest u here = Rows.value_stands Rows.atomic_gives
  listed_plain n (Atomic op view args) rest u (later h) = elim h [ ]
  listed_plain n (Barrier space severity) rest u h = elim h [ ]
  listed_plain n (UniformLoad view severity) rest u here = Rows.value_stands Rows.uniform_load_gives
  listed_plain n (UniformLoad view severity) rest u (later h) = elim h [ ]
  listed_plain n (Length view) rest u here = Rows.value_stands Rows.length_gives
  listed_plain n (Length view) rest u (later h) = elim h [ ]

  record IsResult (callee : Option CoreFunction) : Type 0 where
    one : CoreFunction
    at : callee ≡ Some one
    some : IsSome one.result

  given : (callee : Option CoreFunction) → gives_result callee ≡ true → IsResult callee
  given None e = absurd (false≢true e)
  given (Some found) e = record { one = found; at = refl; some = is_some_is found.result e }

  listed_call : (n g : ℕ) (args : List Argument) (rest : Code) (u : Node) → Among u (result_nodes shader n g ++ arguments_nodes f n 0 args) → StatementNode shader f (call n g args rest) u
  listed_call n g args rest u h = elim (among_split (result_nodes shader n g) (arguments_nodes f n 0 args) h) [
    | inl own ↦ (let on = among_if (gives_result (slice_get shader.functions g)) (Value n ∷ []) own in
        let r = given (slice_get shader.functions g) on.0 in
        subst (StatementNode shader f (call n g args rest)) (sym (among_one (Value n) on.1)) (Rows.call_value_stands r.at r.some))
    | inr more ↦ (let r = listed_argument n 0 args u more in
        subst (StatementNode shader f (call n g args rest)) (sym (r.is ∙ ap (Stored n) (omega arith))) (Rows.argument_stands {j = r.which} r.at r.followed))
  ]

  listed_head : (a : Node) (c : Code) (u : Node) → Among u (head_nodes shader f (visit_at a c).statement.number (visit_at a c).statement.head) → StatementNode shader f c u
  listed_head a (plain n act rest) u h = listed_plain n act rest u h
  listed_head a (call n g args rest) u h = listed_call n g args rest u h
  listed_head a (jump n act rest) u h = elim h [ ]
  listed_head a (branch n cond one two rest) u h = elim h [ ]
  listed_head a (switch n selector parts rest) u h = elim h [ ]
  listed_head a (loop n body continuing leave rest) u h = elim h [ ]
  listed_head a done u h = elim h [ ]
  listed_head a no_part u h = elim h [ ]
  listed_head a (part n which keys fallback body others) u h = elim h [ ]

  listed_statement : (a : Node) (c rest : Code) (n : ℕ) (u : Node) → Starts c n rest → Among u (visit_nodes shader f (visit_at a c)) → StatementNode shader f c u
  listed_statement a c rest n u s h =
      elim (among_split (control_nodes a c ++ part_nodes (visit_at a c).parts) (head_nodes shader f (visit_at a c).statement.number (visit_at a c).statement.head) h) [
        | inl own ↦ elim (among_split (control_nodes a c) (part_nodes (visit_at a c).parts) own) [
          | inl x ↦ listed_control c rest n (visit_at a c).statement.number u (number_is a s) s x
          | inr x ↦ (let r = listed_part a c u x in subst (StatementNode shader f c) (sym r.is) (Rows.part_stands r.has))
        ]
        | inr x ↦ listed_head a c u x
      ]

  -- ---- the nodes of a function

  content_listed : (i k : ℕ) (params : List CoreParam) → points_there (slice_get params k) ≡ true → Among (ContentsIn (i + k)) (contents_nodes i params) × Among (ContentsOut (i + k)) (contents_nodes i params)
  content_listed i k [] e = absurd (false≢true e)
  content_listed i zero (p ∷ params) e = (
    among_left (content_nodes i p) (contents_nodes (i + 1) params) (subst (λ (n : ℕ). Among (ContentsIn n) (content_nodes i p)) (omega arith) (among_when (points p) (ContentsIn i ∷ ContentsOut i ∷ []) e here)),
    among_left (content_nodes i p) (contents_nodes (i + 1) params) (subst (λ (n : ℕ). Among (ContentsOut n) (content_nodes i p)) (omega arith) (among_when (points p) (ContentsIn i ∷ ContentsOut i ∷ []) e (later here))),
  )
  content_listed i (suc k) (p ∷ params) e = let r = content_listed (i + 1) k params e in (
    among_right (content_nodes i p) (contents_nodes (i + 1) params) (subst (λ (n : ℕ). Among (ContentsIn n) (contents_nodes (i + 1) params)) (omega arith) r.0),
    among_right (content_nodes i p) (contents_nodes (i + 1) params) (subst (λ (n : ℕ). Among (ContentsOut n) (contents_nodes (i + 1) params)) (omega arith) r.1),
  )

  record IsContent (i : ℕ) (params : List CoreParam) (u : Node) : Type 0 where
    number : ℕ
    followed : points_there (slice_get params number) ≡ true
    is : (u ≡ ContentsIn (i + number)) ⊎ (u ≡ ContentsOut (i + number))

  this_content : (i : ℕ) (p : CoreParam) (params : List CoreParam) (u : Node) → points p ≡ true → Among u (ContentsIn i ∷ ContentsOut i ∷ []) → IsContent i (p ∷ params) u
  this_content i p params u e here = record { number = 0; followed = e; is = inl (ap ContentsIn (omega arith)) }
  this_content i p params u e (later here) = record { number = 0; followed = e; is = inr (ap ContentsOut (omega arith)) }
  this_content i p params u e (later (later h)) = elim h [ ]

  next_content : (i : ℕ) (p : CoreParam) (params : List CoreParam) (u : Node) → IsContent (i + 1) params u → IsContent i (p ∷ params) u
  next_content i p params u r = record {
    number = suc r.number;
    followed = r.followed;
    is = elim r.is [ inl e ↦ inl (e ∙ ap ContentsIn (omega arith)) | inr e ↦ inr (e ∙ ap ContentsOut (omega arith)) ];
  }

  listed_content : (i : ℕ) (params : List CoreParam) (u : Node) → Among u (contents_nodes i params) → IsContent i params u
  listed_content i [] u h = elim h [ ]
  listed_content i (p ∷ params) u h = elim (among_split (content_nodes i p) (contents_nodes (i + 1) params) h) [
    | inl own ↦ (let on = among_if (points p) (ContentsIn i ∷ ContentsOut i ∷ []) own in this_content i p params u on.0 on.1)
    | inr more ↦ next_content i p params u (listed_content (i + 1) params u more)
  ]

  content_is_node : (u : Node) → IsContent 0 f.params u → IsNode shader f u
  content_is_node u r = elim r.is [
    | inl e ↦ subst (IsNode shader f) (sym (e ∙ ap ContentsIn (omega arith))) (Edges.contents_in {i = r.number} r.followed)
    | inr e ↦ subst (IsNode shader f) (sym (e ∙ ap ContentsOut (omega arith))) (Edges.contents_out {i = r.number} r.followed)
  ]

  fixed_is_node : (u : Node) → Among u fixed_nodes → IsNode shader f u
  fixed_is_node u here = Edges.required_error
  fixed_is_node u (later here) = Edges.required_warning
  fixed_is_node u (later (later here)) = Edges.required_info
  fixed_is_node u (later (later (later here))) = Edges.non_uniform
  fixed_is_node u (later (later (later (later here)))) = Edges.start
  fixed_is_node u (later (later (later (later (later h))))) = elim h [ ]

  own_is_node : (u : Node) → Among u (function_nodes f) → IsNode shader f u
  own_is_node u h = elim (among_split (fixed_nodes ++ param_nodes 0 f.params) (returned_nodes f.result) h) [
    | inl first ↦ elim (among_split fixed_nodes (param_nodes 0 f.params) first) [
      | inl fixed ↦ fixed_is_node u fixed
      | inr x ↦ (let r = listed_param 0 f.params u x in subst (IsNode shader f) (sym (r.2 ∙ ap Param (omega arith))) (Edges.parameter {i = r.0} r.1))
    ]
    | inr x ↦ (let r = listed_result f.result u x in subst (IsNode shader f) (sym r.1) (Edges.returned r.0))
  ]

module _ (shader : CoreModule) (f : CoreFunction) (vs : List Visit) (each : (v : Visit) → Among v vs ↔ IsVisit Start (code_of f.body) v) where
  visit_is_node : (u : Node) → Among u (flat_map (visit_nodes shader f) vs) → IsNode shader f u
  visit_is_node u h =
      let r = among_flat (visit_nodes shader f) vs u h in
      let w = (each r.0).0 r.1 in
      Edges.of_statement w.stands (listed_statement shader f w.under w.here w.rest w.number u w.starts (subst (λ (v : Visit). Among u (visit_nodes shader f v)) w.is r.2))

  listed_node : (u : Node) → Among u (all_nodes shader f vs) → IsNode shader f u
  listed_node u h = elim (among_split (function_nodes f ++ contents_nodes 0 f.params) (flat_map (visit_nodes shader f) vs) h) [
    | inl first ↦ elim (among_split (function_nodes f) (contents_nodes 0 f.params) first) [
      | inl own ↦ own_is_node shader f u own
      | inr x ↦ content_is_node shader f u (listed_content shader f 0 f.params u x)
    ]
    | inr x ↦ visit_is_node u x
  ]

  in_own : (u : Node) → Among u (function_nodes f) → Among u (all_nodes shader f vs)
  in_own u h = among_left (function_nodes f ++ contents_nodes 0 f.params) (flat_map (visit_nodes shader f) vs) (among_left (function_nodes f) (contents_nodes 0 f.params) h)

  in_fixed : (u : Node) → Among u fixed_nodes → Among u (all_nodes shader f vs)
  in_fixed u h = in_own u (among_left (fixed_nodes ++ param_nodes 0 f.params) (returned_nodes f.result) (among_left fixed_nodes (param_nodes 0 f.params) h))

  in_contents : (u : Node) → Among u (contents_nodes 0 f.params) → Among u (all_nodes shader f vs)
  in_contents u h = among_left (function_nodes f ++ contents_nodes 0 f.params) (flat_map (visit_nodes shader f) vs) (among_right (function_nodes f) (contents_nodes 0 f.params) h)

  starting : {a b : Node} {c found : Code} → Analysed a c b found → (n : ℕ) × (rest : Code) × Starts found n rest
  starting (Structure.this {rest = rest} {n = n} s) = (n, rest, s)
  starting (Structure.behind s next more) = starting more
  starting (Structure.within has more) = starting more

  node_listed : (u : Node) → IsNode shader f u → Among u (all_nodes shader f vs)
  node_listed u Edges.required_error = in_fixed (Required _) here
  node_listed u Edges.required_warning = in_fixed (Required _) (later here)
  node_listed u Edges.required_info = in_fixed (Required _) (later (later here))
  node_listed u Edges.non_uniform = in_fixed NonUniform (later (later (later here)))
  node_listed u Edges.start = in_fixed Start (later (later (later (later here))))
  node_listed u (Edges.parameter {i = i} lt) =
      in_own (Param i) (among_left (fixed_nodes ++ param_nodes 0 f.params) (returned_nodes f.result) (among_right fixed_nodes (param_nodes 0 f.params)
      (subst (λ (n : ℕ). Among (Param n) (param_nodes 0 f.params)) (omega arith) (param_listed 0 i f.params lt))))
  node_listed u (Edges.contents_in {i = i} e) =
      in_contents (ContentsIn i) (subst (λ (n : ℕ). Among (ContentsIn n) (contents_nodes 0 f.params)) (omega arith) (content_listed shader f 0 i f.params e).0)
  node_listed u (Edges.contents_out {i = i} e) =
      in_contents (ContentsOut i) (subst (λ (n : ℕ). Among (ContentsOut n) (contents_nodes 0 f.params)) (omega arith) (content_listed shader f 0 i f.params e).1)
  node_listed u (Edges.returned h) = in_own Returned (among_right (fixed_nodes ++ param_nodes 0 f.params) (returned_nodes f.result) (result_listed f.result h))
  node_listed u (Edges.of_statement {a = a} {here = at} stands node) =
      let s = starting stands in
      among_right (function_nodes f ++ contents_nodes 0 f.params) (flat_map (visit_nodes shader f) vs)
      (flat_among (visit_nodes shader f) vs (visit_at a at) u ((each (visit_at a at)).1 (record { under = a; here = at; number = s.0; rest = s.1; stands = stands; starts = s.2; is = refl }))
      (statement_listed shader f a at u node))

nodes_are : (shader : CoreModule) (f : CoreFunction) (spots : List Spot) (nodes : List Node) → AreAnalysed f.body spots
    → nodes ≡ (function_nodes f ++ contents_nodes 0 f.params) ++ flat_map (λ (s : Spot). visit_nodes shader f (visit_of s)) spots → (u : Node) → Contains nodes u ↔ IsNode shader f u
nodes_are shader f spots nodes are made u =
    let all : nodes ≡ all_nodes shader f (map visit_of spots) = made ∙ ap (λ ns. (function_nodes f ++ contents_nodes 0 f.params) ++ ns) (flat_over (visit_nodes shader f) visit_of spots) in (
      λ h. listed_node shader f (map visit_of spots) are u (subst (Among u) all (contains_among nodes u h)),
      λ h. among_contains nodes u (subst (Among u) (sym all) (node_listed shader f (map visit_of spots) are u h)),
    )

-- the same in node order
pub nodes_same : (shader : CoreModule) (f : CoreFunction) (spots : List Spot) (nodes sorted : List Node) → ((u : Node) → Contains sorted u ↔ Contains nodes u) → AreAnalysed f.body spots
    → nodes ≡ (function_nodes f ++ contents_nodes 0 f.params) ++ flat_map (λ (s : Spot). visit_nodes shader f (visit_of s)) spots → (u : Node) → Contains sorted u ↔ IsNode shader f u
nodes_same shader f spots nodes sorted same are made u =
    let all = nodes_are shader f spots nodes are made u in (λ h. all.0 ((same u).0 h), λ h. (same u).1 (all.1 h))
