-- How grave a violation is at a node (WGSL, "Diagnostic Filtering"): as the filter for `lanes.uniformity` of the nearest enclosing range
-- says, and else an error. A directive covers the declarations of the module. An attribute covers the function, block, `if`, `switch`, body of
-- a `switch`, `loop`, body of a `loop`, continuing part, `for` or `while` before which it stands.
use Rattle.std.specs.Prelude.{◌≡◌, ◌<◌, ◌^◌, ◌↔◌, ◌⊎◌, ℕ, Bool, false, ◌&&◌, List, [], ◌∷◌, ◌++◌, map, length, Contains, Option, None, Some, codes, slice_get, if◌then◌else◌}
use Rattle.std.specs.List.{flat_map}
use Rattle.shade_base.specs.declared.severity.Severity.{Severity}
use Rattle.shade_base.specs.declared.severity.Severity.TheVariants as severity
use Rattle.shade_ast.specs.declared.attr.Attr.{Attr}
use Rattle.shade_ast.specs.declared.stmt.Clause.{Clause-F}
use Rattle.shade_ast.specs.declared.stmt.Clause.TheOpen as open_stmt
use Rattle.shade_ast.specs.declared.stmt.StmtKind.{StmtKind-F}
use Rattle.shade_ast.specs.declared.stmt.Arm.{Arm-F}
use Rattle.shade_ast.specs.declared.stmt.Block.{Block, Block-F, fold-Block}
use Rattle.shade_ast.specs.declared.stmt.Continuing.{Continuing-F}
use Rattle.shade_ast.specs.declared.stmt.Otherwise.{Otherwise-F}
use Rattle.shade_ast.specs.declared.stmt.Stmt.{Stmt-F}
use Rattle.shade_ast.specs.declared.tree.Decl.{Decl}
use Rattle.shade_ast.specs.declared.tree.DeclKind.{DeclKind}
use Rattle.shade_ast.specs.declared.tree.DeclKind.TheVariants as decl
use Rattle.shade_ast.specs.declared.tree.Directive.{Directive}
use Rattle.shade_ast.specs.declared.tree.Tree.{Tree}
use Rattle.shade_ast.specs.Nodes.{CountFrom, attrs_nodes, break_if_nodes, decl_kind_nodes, directive_nodes, expr_nodes, joined_of, maybe_of, member_nodes, named_nodes, result_nodes, selector_nodes, simple_nodes, tree_nodes, update_nodes}
use Rattle.shade_events.specs.declared.filters.Filter.{Filter}
use Rattle.shade_events.specs.declared.filters.RuleName.{RuleName}
use Rattle.shade_events.specs.declared.filters.RuleName.TheVariants as named_rule
use Rattle.shade_events.specs.Words.{is_one_of}
use Rattle.shade_events.specs.Filters.{directive_filter, filter_of}

-- the two words of the rule
abbrev pub scope_words : List (List ℕ)
scope_words = codes "lanes" ∷ []

abbrev pub rule_words : List (List ℕ)
rule_words = codes "uniformity" ∷ []

-- the rule `lanes.uniformity`, under which violations are told
abbrev pub is_uniformity : List (List ℕ) → RuleName → Bool
is_uniformity names (named_rule.Plain name) = false
is_uniformity names (named_rule.Scoped scope name) = is_one_of scope_words names scope && is_one_of rule_words names name

-- ---- what filters cover

-- what some filters cover: its nodes, by their numbers, and the filters
pub record Range : Type 0 where
  pub nodes : List ℕ
  pub filters : List Filter

-- the nodes of a piece of a text, and the ranges in it
pub record Piece : Type 0 where
  pub nodes : List ℕ
  pub ranges : List Range

abbrev pub plain : List ℕ → Piece
plain ns = record { nodes = ns; ranges = [] }

abbrev pub own : ℕ → Piece
own node = plain (node ∷ [])

abbrev pub both : Piece → Piece → Piece
both p q = record { nodes = p.nodes ++ q.nodes; ranges = p.ranges ++ q.ranges }

abbrev pub row : List Piece → Piece
row [] = plain []
row (p ∷ ps) = both p (row ps)

abbrev pub maybe : Option Piece → Piece
maybe None = plain []
maybe (Some p) = p

abbrev pub listed : Option Filter → List Filter
listed None = []
listed (Some f) = f ∷ []

abbrev pub filters_of : List (List ℕ) → List Attr → List Filter
filters_of names attrs = flat_map (λ a. listed (filter_of names a)) attrs

-- a piece that some filters cover
abbrev pub covering : List Filter → Piece → Piece
covering filters p = record { nodes = p.nodes; ranges = record { nodes = p.nodes; filters = filters } ∷ p.ranges }

-- attributes, and behind them what they cover
abbrev pub behind : List (List ℕ) → List Attr → Piece → Piece
behind names attrs p = both (plain (attrs_nodes attrs)) (covering (filters_of names attrs) p)

-- ---- the pieces of a text; a statement with its own node, which belongs to its range

abbrev pub KindPiece : Type 0
KindPiece = ℕ → Piece

abbrev pub clause_piece : Clause-F Piece KindPiece Piece Piece Piece Piece Piece → Piece
clause_piece (open_stmt.Case keyword selectors trailing colon body) = both (plain (joined_of selector_nodes selectors)) body
clause_piece (open_stmt.Default keyword colon body) = body

abbrev pub kind_piece : List (List ℕ) → StmtKind-F Piece KindPiece Piece Piece Piece Piece Piece → KindPiece
kind_piece names open_stmt.Empty node = own node
kind_piece names (open_stmt.Block block) node = both block (own node)
kind_piece names (open_stmt.Simple s) node = both (plain (simple_nodes s)) (own node)
kind_piece names (open_stmt.Return value) node = both (plain (maybe_of expr_nodes value)) (own node)
kind_piece names open_stmt.Break node = own node
kind_piece names open_stmt.Continue node = own node
kind_piece names open_stmt.Discard node = own node
kind_piece names (open_stmt.ConstAssert condition) node = both (plain (expr_nodes condition)) (own node)
kind_piece names (open_stmt.If attrs keyword condition first arms otherwise) node =
    behind names attrs (both (plain (expr_nodes condition)) (both first (both (row arms) (both (maybe otherwise) (own node)))))
kind_piece names (open_stmt.Switch attrs keyword chosen inner clauses end) node =
    behind names attrs (both (plain (expr_nodes chosen)) (both (behind names inner (row clauses)) (own node)))
kind_piece names (open_stmt.Loop attrs keyword inner body continuing end) node =
    behind names attrs (both (behind names inner (both (row body) (maybe continuing))) (own node))
kind_piece names (open_stmt.For attrs keyword initial condition changed body) node =
    behind names attrs (both (plain (maybe_of simple_nodes initial ++ (maybe_of expr_nodes condition ++ maybe_of update_nodes changed))) (both body (own node)))
kind_piece names (open_stmt.While attrs keyword condition body) node = behind names attrs (both (plain (expr_nodes condition)) (both body (own node)))

abbrev pub arm_piece : Arm-F Piece KindPiece Piece Piece Piece Piece Piece → Piece
arm_piece a = both (plain (expr_nodes a.condition)) a.body

abbrev pub block_layer : List (List ℕ) → Block-F Piece KindPiece Piece Piece Piece Piece Piece → Piece
block_layer names b = behind names b.attrs (both (row b.body) (own b.node))

abbrev pub continuing_piece : List (List ℕ) → Continuing-F Piece KindPiece Piece Piece Piece Piece Piece → Piece
continuing_piece names c = behind names c.attrs (both (row c.body) (plain (maybe_of break_if_nodes c.leave)))

abbrev pub otherwise_piece : Otherwise-F Piece KindPiece Piece Piece Piece Piece Piece → Piece
otherwise_piece o = o.body

abbrev pub stmt_piece : Stmt-F Piece KindPiece Piece Piece Piece Piece Piece → Piece
stmt_piece s = s.kind s.node

abbrev pub block_piece : List (List ℕ) → Block → Piece
block_piece names = fold-Block Piece KindPiece Piece Piece Piece Piece Piece clause_piece (kind_piece names) arm_piece (block_layer names) (continuing_piece names) otherwise_piece stmt_piece

abbrev pub decl_kind_piece : List (List ℕ) → DeclKind → ℕ → Piece
decl_kind_piece names (decl.Fn attrs keyword name params trailing result body) node =
    behind names attrs
    (both (plain (named_nodes name)) (both (plain (joined_of member_nodes params)) (both (plain (maybe_of result_nodes result)) (both (block_piece names body) (own node)))))
decl_kind_piece names kind node = plain (decl_kind_nodes kind ++ node ∷ [])

abbrev pub decl_piece : List (List ℕ) → Decl → Piece
decl_piece names d = decl_kind_piece names d.kind d.node

abbrev pub module_filters : List (List ℕ) → List Directive → List Filter
module_filters names directives = flat_map (λ d. listed (directive_filter names d)) directives

abbrev pub tree_piece : Tree → Piece
tree_piece t = both (plain (joined_of directive_nodes t.directives)) (covering (module_filters t.names t.directives) (row (map (decl_piece t.names) t.decls)))

-- ---- the nearest range

abbrev pub later : Option Severity → Option Severity → Option Severity
later first None = first
later first (Some s) = Some s

abbrev pub given_by : List (List ℕ) → Filter → Option Severity
given_by names f = if is_uniformity names f.rule then Some f.severity else None

-- what the filters of a range give the rule: the last, since unlike ones are a fault
abbrev pub ruling : List (List ℕ) → List Filter → Option Severity
ruling names [] = None
ruling names (f ∷ fs) = later (given_by names f) (ruling names fs)

-- a range around a node with a filter for the rule, which gives it a severity
pub record Rules (names : List (List ℕ)) (ranges : List Range) (node : ℕ) (r : Range) (s : Severity) : Type 0 where
  pub stands : Contains ranges r
  pub holds : Contains r.nodes node
  pub gives : ruling names r.filters ≡ Some s

abbrev pub LiesWithin : Range → Range → Type 0
LiesWithin r other = (node : ℕ) → Contains r.nodes node → Contains other.nodes node

-- of these ranges the one that lies within each other one
pub record IsNearest (names : List (List ℕ)) (ranges : List Range) (node : ℕ) (s : Severity) : Type 0 where
  pub range : Range
  pub rules : Rules names ranges node range s
  pub innermost : (other : Range) (t : Severity) → Rules names ranges node other t → LiesWithin range other

-- the severity of the nearest range, and where there is none the one outside of all
abbrev pub IsSeverity : List (List ℕ) → List Range → Severity → ℕ → Severity → Type 0
IsSeverity names ranges outside node s =
    IsNearest names ranges node s ⊎ (((r : Range) (t : Severity) → Rules names ranges node r t → ⊥) × (s ≡ outside))

-- how grave a violation is at a node of a tree
abbrev pub IsSeverityAt : Tree → ℕ → Severity → Type 0
IsSeverityAt t node s = IsSeverity t.names (tree_piece t).ranges severity.Error node s

-- ---- kept by the numbers of nodes

abbrev pub severity_or : Option Severity → Severity
severity_or None = severity.Error
severity_or (Some s) = s

abbrev pub severity_at : List Severity → ℕ → Severity
severity_at filters node = severity_or (slice_get filters node)

-- the nodes of a tree have the numbers 0, 1, 2 and so on in postorder, as the parser gives them, each a number of 32 bits
pub record IsNumbered (t : Tree) : Type 0 where
  pub count : ℕ
  pub numbered : CountFrom 0 (tree_nodes t) count
  pub few : count < 2 ^ 32

-- as many severities as there are nodes, each exactly that of its node
pub record AreSeverities (t : Tree) (filters : List Severity) : Type 0 where
  pub count : length filters ≡ length (tree_nodes t)
  pub each : (node : ℕ) → Contains (tree_nodes t) node → (s : Severity) → IsSeverityAt t node s ↔ (severity_at filters node ≡ s)
