-- What was read stays so once names are added.
use Rattle.std.proofs.Common.{◌≡◌, refl, sym, ap, ◌∙◌, subst, ℕ, ◌≤◌, max, List, [], ◌∷◌, ◌++◌, length, map, arith, append_assoc, Option, None, Some}
use Rattle.std.specs.Prelude.{option_map}
use Rattle.std.proofs.lemmas.List.{append-nil}
use Rattle.shade_base.specs.declared.place.Place.{Place}
use Rattle.shade_ast.specs.declared.stmt.Arm.{Arm, out-Arm}
use Rattle.shade_ast.specs.declared.stmt.Block.{Block}
use Rattle.shade_ast.specs.declared.stmt.Clause.{Clause, Clause-F, out-Clause, map-Clause, fold_out-Clause}
use Rattle.shade_ast.specs.declared.stmt.Clause.TheOpen as open_stmt
use Rattle.shade_ast.specs.declared.stmt.Continuing.{Continuing}
use Rattle.shade_ast.specs.declared.stmt.Otherwise.{Otherwise}
use Rattle.shade_ast.specs.declared.stmt.Selector.{Selector}
use Rattle.shade_ast.specs.declared.stmt.Selector.TheVariants as selector
use Rattle.shade_ast.specs.declared.stmt.Stmt.{Stmt}
use Rattle.shade_ast.specs.declared.stmt.StmtKind.{StmtKind}
use Rattle.shade_ast.specs.declared.stmt.Update.{Update}
use Rattle.shade_ast.specs.declared.stmt.Update.TheVariants as update
use Rattle.shade_ast.specs.Names.{Grows}
use Rattle.shade_ast.specs.Shapes.{StmtShape, BlockShape, ArmShapes, else_if_arm, ClauseShapes, case_clause, default_clause, ContinuingShape, assign, compound, phony, increment, decrement, call_alone, value_selector}
use Rattle.shade_ast.specs.Shaped.{expr_shape, attr_shape, update_shape, selector_shape, stmt_shape, clause_step, stmt_kind_step, arm_step, block_step, continuing_step, otherwise_step, stmt_step}
use Rattle.shade_ast.specs.Needs.{most_of, maybe_of, expr_needs, attr_needs, update_needs, selector_needs, simple_needs, stmt_needs, clause_needs, stmt_kind_needs, arm_needs, block_layer_needs, continuing_needs, otherwise_needs, stmt_layer_needs}
use Rattle.shade_ast.specs.Nodes.{joined_of}
use Rattle.shade_ast.specs.StmtParts.{clause_shaped, clause_count, arm_shaped, arm_count, continuing_shaped, continuing_count, otherwise_shaped, otherwise_count}
use Rattle.shade_ast.proofs.StmtLayers.{stmt_kind_shaped, stmt_kind_count, arm_is, arm_counts, block_shaped, block_count, stmt_shaped, stmt_count}
use Rattle.shade_ast.proofs.ShapeLaws.{expr_grows, attr_grows, simple_grows, stmt_grows, block_grows, list_grows, length_grows}
use Rattle.shade_parse_simple.specs.declared.read.Read.{Read}
use Rattle.shade_parse_simple.specs.Readings.{Seen, attrs_seen, simple_seen, expr_seen}
use Rattle.shade_parse_stmt.specs.StatementParts.{value_seen, maybe_simple_seen, maybe_update_seen, stmts_seen, guarded_seen, selectors_seen, clauses_seen}
use Rattle.shade_parse_stmt.specs.Follows.{ReadsBy, ReadsOfBy}
use Rattle.shade_ast.specs.Lexemes.{Lexeme}

-- The shape of a tree stays when names come at the end.
abbrev pub Steady : {T R : Type 0} → Seen T R → Type 0
Steady {T = T} seen = (old new : List (List ℕ)) (t : T) → seen.needs t ≤ length old → Grows old new → seen.shape new t ≡ seen.shape old t

pub known_on : (n : ℕ) (old new : List (List ℕ)) → Grows old new → n ≤ length old → n ≤ length new
known_on n old new g h = let le : length old ≤ length new = length_grows old new g in omega arith

pub grown : {T R : Type 0} (seen : Seen T R) → Steady seen →
    (G : R → List Lexeme → List Lexeme → Type 0) (F : List Lexeme → Type 0) (tokens : List Lexeme) (old new : List (List ℕ)) (from node : ℕ) (r : Read T) → Grows old new →
    ReadsOfBy seen G F tokens old from node r → ReadsOfBy seen G F tokens new from node r
grown seen steady G F tokens old new from node r g x = record {
  reads = subst (λ s. ReadsBy G F tokens from s r.end) (sym (steady old new r.tree x.known g)) x.reads;
  known = known_on (seen.needs r.tree) old new g x.known;
  nodes = x.nodes;
}

maybe_grows : {A B : Type 0} (needs : A → ℕ) (shape : List (List ℕ) → A → B) → ((old new : List (List ℕ)) (a : A) → needs a ≤ length old → Grows old new → shape new a ≡ shape old a) →
    (old new : List (List ℕ)) (o : Option A) → maybe_of needs o ≤ length old → Grows old new → option_map (shape new) o ≡ option_map (shape old) o
maybe_grows needs shape grows old new None h g = refl
maybe_grows needs shape grows old new (Some a) h g = ap Some (grows old new a h g)

pub expr_steady : Steady expr_seen
expr_steady = expr_grows

pub value_steady : Steady value_seen
value_steady = maybe_grows expr_needs expr_shape expr_grows

pub attrs_steady : Steady attrs_seen
attrs_steady = list_grows attr_needs attr_shape attr_grows

pub maybe_simple_steady : Steady maybe_simple_seen
maybe_simple_steady = maybe_grows simple_needs (simple_seen.shape) simple_grows

update_grows : (old new : List (List ℕ)) (u : Update) → update_needs u ≤ length old → Grows old new → update_shape new u ≡ update_shape old u
update_grows old new (update.Assign target at value) h g = λ i. assign (expr_grows old new target (omega arith) g i) at (expr_grows old new value (omega arith) g i)
update_grows old new (update.Compound target operator at value) h g = λ i. compound (expr_grows old new target (omega arith) g i) operator at (expr_grows old new value (omega arith) g i)
update_grows old new (update.Phony underscore at value) h g = ap (phony underscore at) (expr_grows old new value h g)
update_grows old new (update.Increment target at) h g = ap (λ x. increment x at) (expr_grows old new target h g)
update_grows old new (update.Decrement target at) h g = ap (λ x. decrement x at) (expr_grows old new target h g)
update_grows old new (update.Call e) h g = ap call_alone (expr_grows old new e h g)

pub maybe_update_steady : Steady maybe_update_seen
maybe_update_steady = maybe_grows update_needs update_shape update_grows

pub stmts_steady : Steady stmts_seen
stmts_steady = list_grows stmt_needs stmt_shape stmt_grows

pub guarded_steady : Steady guarded_seen
guarded_steady old new x h g = λ i. (expr_grows old new x.condition (omega arith) g i, block_grows old new x.body (omega arith) g i)

selector_grows : (old new : List (List ℕ)) (s : Selector) → selector_needs s ≤ length old → Grows old new → selector_shape new s ≡ selector_shape old s
selector_grows old new (selector.Default place) h g = refl
selector_grows old new (selector.Value e) h g = ap value_selector (expr_grows old new e h g)

pub selector_list_grows : (old new : List (List ℕ)) (l : List Selector) → most_of selector_needs l ≤ length old → Grows old new → map (selector_shape new) l ≡ map (selector_shape old) l
selector_list_grows = list_grows selector_needs selector_shape selector_grows

pub selectors_steady : Steady selectors_seen
selectors_steady old new x h g = ap (λ l. (l, x.trailing)) (selector_list_grows old new x.items h g)

arm_grows : (old new : List (List ℕ)) (a : Arm) → arm_count a ≤ length old → Grows old new → arm_shaped new a ≡ arm_shaped old a
arm_grows old new a h g =
    let counts : arm_count a ≡ max (expr_needs (out-Arm a).condition) (block_count (out-Arm a).body) = arm_counts a in
    arm_is new a
    ∙ (λ i. λ others. else_if_arm (out-Arm a).else_keyword (out-Arm a).if_keyword (expr_grows old new (out-Arm a).condition (omega arith) g i) (block_grows old new (out-Arm a).body (omega arith) g i) others)
    ∙ sym (arm_is old a)

pub arms_grow : (old new : List (List ℕ)) (l : List Arm) → most_of arm_count l ≤ length old → Grows old new → map (arm_shaped new) l ≡ map (arm_shaped old) l
arms_grow = list_grows arm_count arm_shaped arm_grows

clause_layer : (names : List (List ℕ)) (c : Clause) (y : Clause-F Clause StmtKind Arm Block Continuing Otherwise Stmt) → out-Clause c ≡ y →
    clause_shaped names c ≡ clause_step names
    (map-Clause Clause StmtKind Arm Block Continuing Otherwise Stmt (ClauseShapes → ClauseShapes) (Place → StmtShape) (ArmShapes → ArmShapes) BlockShape ContinuingShape ArmShapes StmtShape
    (clause_shaped names) (stmt_kind_shaped names) (arm_shaped names) (block_shaped names) (continuing_shaped names) (otherwise_shaped names) (stmt_shaped names) y)
clause_layer names c y is = fold_out-Clause (ClauseShapes → ClauseShapes) (Place → StmtShape) (ArmShapes → ArmShapes) BlockShape ContinuingShape ArmShapes StmtShape (clause_step names)
    (stmt_kind_step names) (arm_step names) (block_step names) (continuing_step names) otherwise_step stmt_step c ∙ ap
    (λ z. clause_step names
    (map-Clause Clause StmtKind Arm Block Continuing Otherwise Stmt (ClauseShapes → ClauseShapes) (Place → StmtShape) (ArmShapes → ArmShapes) BlockShape ContinuingShape ArmShapes StmtShape
    (clause_shaped names) (stmt_kind_shaped names) (arm_shaped names) (block_shaped names) (continuing_shaped names) (otherwise_shaped names) (stmt_shaped names) z)) is

clause_counted : (c : Clause) (y : Clause-F Clause StmtKind Arm Block Continuing Otherwise Stmt) → out-Clause c ≡ y →
    clause_count c ≡ clause_needs
    (map-Clause Clause StmtKind Arm Block Continuing Otherwise Stmt ℕ ℕ ℕ ℕ ℕ ℕ ℕ clause_count stmt_kind_count arm_count block_count continuing_count otherwise_count stmt_count y)
clause_counted c y is = fold_out-Clause ℕ ℕ ℕ ℕ ℕ ℕ ℕ clause_needs stmt_kind_needs arm_needs block_layer_needs continuing_needs otherwise_needs stmt_layer_needs c ∙ ap
    (λ z. clause_needs
    (map-Clause Clause StmtKind Arm Block Continuing Otherwise Stmt ℕ ℕ ℕ ℕ ℕ ℕ ℕ clause_count stmt_kind_count arm_count block_count continuing_count otherwise_count stmt_count z)) is

clause_grows : (old new : List (List ℕ)) (c : Clause) → clause_count c ≤ length old → Grows old new → clause_shaped new c ≡ clause_shaped old c
clause_grows old new c h g = by (out-Clause c) refl
  where
    by : (y : Clause-F Clause StmtKind Arm Block Continuing Otherwise Stmt) → out-Clause c ≡ y → clause_shaped new c ≡ clause_shaped old c
    by (open_stmt.Case keyword selectors trailing colon body) is =
        let counts : clause_count c ≡ max (most_of selector_needs selectors) (block_count body) = clause_counted c (open_stmt.Case keyword selectors trailing colon body) is in
        clause_layer new c (open_stmt.Case keyword selectors trailing colon body) is
        ∙ (λ i. λ others. case_clause keyword (selector_list_grows old new selectors (omega arith) g i) trailing colon (block_grows old new body (omega arith) g i) others)
        ∙ sym (clause_layer old c (open_stmt.Case keyword selectors trailing colon body) is)
    by (open_stmt.Default keyword colon body) is =
        let counts : clause_count c ≡ block_count body = clause_counted c (open_stmt.Default keyword colon body) is in
        clause_layer new c (open_stmt.Default keyword colon body) is
        ∙ (λ i. λ others. default_clause keyword colon (block_grows old new body (omega arith) g i) others)
        ∙ sym (clause_layer old c (open_stmt.Default keyword colon body) is)

pub clauses_steady : Steady clauses_seen
clauses_steady = list_grows clause_count clause_shaped clause_grows

-- one item more
pub map_one : {A B : Type 0} (f : A → B) (xs : List A) (x : A) → map f (xs ++ x ∷ []) ≡ map f xs ++ f x ∷ []
map_one f [] x = refl
map_one f (y ∷ xs) x = ap (λ l. f y ∷ l) (map_one f xs x)

pub most_one : {A : Type 0} (needs : A → ℕ) (xs : List A) (x : A) (n : ℕ) → most_of needs xs ≤ n → needs x ≤ n → most_of needs (xs ++ x ∷ []) ≤ n
most_one needs [] x n a b = omega arith
most_one needs (y ∷ xs) x n a b = let rest : most_of needs (xs ++ x ∷ []) ≤ n = most_one needs xs x n (omega arith) b in omega arith

pub joined_one : {A : Type 0} (nodes : A → List ℕ) (xs : List A) (x : A) → joined_of nodes (xs ++ x ∷ []) ≡ joined_of nodes xs ++ nodes x
joined_one nodes [] x = append-nil (nodes x)
joined_one nodes (y ∷ xs) x = ap (λ l. nodes y ++ l) (joined_one nodes xs x) ∙ sym (append_assoc (nodes y) (joined_of nodes xs) (nodes x))
