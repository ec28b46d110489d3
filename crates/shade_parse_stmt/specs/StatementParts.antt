-- Parts of statements (WGSL, "Statements"): what they spell, and what is told of their trees.
use Rattle.std.specs.Prelude.{max, Bool, List, ◌++◌, map, Option, option_map, ◌⊎◌}
use Rattle.shade_base.specs.declared.place.Place.{Place}
use Rattle.shade_ast.specs.declared.lexeme.Keyword.TheVariants as word
use Rattle.shade_ast.specs.declared.lexeme.Sign.TheVariants as sign
use Rattle.shade_ast.specs.declared.expr.Expr.{Expr}
use Rattle.shade_ast.specs.declared.stmt.Block.{Block as BlockTree}
use Rattle.shade_ast.specs.declared.stmt.Clause.{Clause}
use Rattle.shade_ast.specs.declared.stmt.Continuing.{Continuing}
use Rattle.shade_ast.specs.declared.stmt.Selector.{Selector}
use Rattle.shade_ast.specs.declared.stmt.Simple.{Simple}
use Rattle.shade_ast.specs.declared.stmt.Stmt.{Stmt}
use Rattle.shade_ast.specs.declared.stmt.Update.{Update}
use Rattle.shade_ast.specs.Lexemes.{Lexeme, Key, Mark}
use Rattle.shade_ast.specs.Shapes.{AttrShape, first_place, ExprShape, UpdateShape, SimpleShape, simple_place, SelectorShape, BreakIfShape, BlockShape, StmtShape, empty_stmt, block_stmt, simple_stmt, return_stmt, break_stmt, continue_stmt, discard_stmt, assert_stmt, if_stmt, switch_stmt, loop_stmt, for_stmt, while_stmt, braces, ArmShapes, else_arm, else_if_arm, ClauseShapes, case_clause, default_clause, ContinuingShape, continuing_part}
use Rattle.shade_ast.specs.Shaped.{expr_shape, attr_shapes, update_shape, simple_shape, selector_shape, break_if_shape, stmt_shape, block_shape, stmt_shapes, clause_shapes, arm_shapes, maybe_continuing}
use Rattle.shade_ast.specs.Needs.{most_of, expr_needs, attrs_need, update_needs, simple_needs, selector_needs, break_if_needs, stmt_needs, block_needs, maybe_of as maybe_needs}
use Rattle.shade_ast.specs.Nodes.{joined_of, expr_nodes, attrs_nodes, update_nodes, simple_nodes, selector_nodes, break_if_nodes, stmt_nodes, block_nodes, maybe_of as maybe_nodes}
use Rattle.shade_ast.specs.Repeats.{Many, Maybe, Listed}
use Rattle.shade_ast.specs.Expressions.{Expression}
use Rattle.shade_ast.specs.Statements.{Attribute, UpdateOf, SimpleStatement, MaybeMark, Selects, BreaksIf, Block, Statement, MaybeContinuing}
use Rattle.shade_ast.specs.Chains.{After, Ends, Headed}
use Rattle.shade_ast.specs.StmtParts.{clause_shaped, clause_count, arm_shaped, arm_count, continuing_shaped, continuing_count, otherwise_shaped, otherwise_count, clause_numbers, arm_numbers, continuing_numbers, otherwise_numbers}
use Rattle.shade_parse_stmt.specs.declared.parts.Guarded.{Guarded}
use Rattle.shade_parse_stmt.specs.declared.parts.Body.{Body}
use Rattle.shade_parse_stmt.specs.declared.parts.Branches.{Branches}
use Rattle.shade_parse_stmt.specs.declared.parts.ForHeader.{ForHeader}
use Rattle.shade_parse_stmt.specs.declared.parts.ForParts.{ForParts}
use Rattle.shade_parse_stmt.specs.declared.parts.SwitchParts.{SwitchParts}
use Rattle.shade_parse_stmt.specs.declared.parts.Selectors.{Selectors}
use Rattle.shade_parse_stmt.specs.declared.parts.ClauseBody.{ClauseBody}
use Rattle.shade_parse_stmt.specs.declared.parts.LoopParts.{LoopParts}
use Rattle.shade_parse_stmt.specs.declared.parts.LoopEnd.{LoopEnd}
use Rattle.shade_parse_stmt.specs.declared.parts.LastBody.{LastBody}
use Rattle.shade_parse_stmt.specs.declared.parts.Leave.{Leave}
use Rattle.shade_parse_simple.specs.Readings.{Seen}
use Rattle.shade_parse_stmt.specs.Follows.{Marked}

-- what may be left out, and the mark behind it
abbrev pub Until : {S : Type 0} → (Place → Lexeme) → (S → List Lexeme → List Lexeme → Type 0) → Option S → List Lexeme → List Lexeme → Type 0
Until closer B = After (Maybe B) (λ o. Marked closer (λ p. Ends o))

-- expr ';'
abbrev pub ValueEnd : ExprShape → List Lexeme → List Lexeme → Type 0
ValueEnd = After Expression (λ e. Marked (Mark sign.Semicolon) (λ p. Ends e))

-- expr? ';'
abbrev pub UntilValue : Option ExprShape → List Lexeme → List Lexeme → Type 0
UntilValue = Until (Mark sign.Semicolon) Expression

-- simple? ';'
abbrev pub UntilSimple : Option SimpleShape → List Lexeme → List Lexeme → Type 0
UntilSimple = Until (Mark sign.Semicolon) SimpleStatement

-- update? ')'
abbrev pub UntilUpdate : Option UpdateShape → List Lexeme → List Lexeme → Type 0
UntilUpdate = Until (Mark sign.Close) UpdateOf

-- stmt* '}'
abbrev pub Braced : List StmtShape × Place → List Lexeme → List Lexeme → Type 0
Braced = After (Many Statement) (λ l. Marked (Mark sign.CloseBrace) (λ q. Ends (l, q)))

-- expr block
abbrev pub Guards : ExprShape × BlockShape → List Lexeme → List Lexeme → Type 0
Guards = After Expression (λ e. After Block (λ b. Ends (e, b)))

-- '(' simple? ';' expr? ';' update? ')'
pub record ForHeadShape : Type 0 where
  pub initial : Option SimpleShape
  pub condition : Option ExprShape
  pub update : Option UpdateShape

abbrev pub ForHead : ForHeadShape → List Lexeme → List Lexeme → Type 0
ForHead = Marked (Mark sign.Open) (λ p. After UntilSimple (λ i. After UntilValue (λ c. After UntilUpdate (λ u. Ends (record { initial = i; condition = c; update = u })))))

-- what follows `for`: its head and a block
pub record ForShape : Type 0 where
  pub head : ForHeadShape
  pub body : BlockShape

abbrev pub ForRest : ForShape → List Lexeme → List Lexeme → Type 0
ForRest = After ForHead (λ h. After Block (λ b. Ends (record { head = h; body = b })))

-- ':'? block
abbrev pub ColonBlock : Bool × BlockShape → List Lexeme → List Lexeme → Type 0
ColonBlock = After (MaybeMark sign.Colon) (λ c. After Block (λ b. Ends (c, b)))

-- a clause, before others
abbrev pub ClauseAt : Lexeme → (ClauseShapes → ClauseShapes) → List Lexeme → List Lexeme → Type 0
ClauseAt (Key word.Case p) = After (Listed Selects) (λ l. After ColonBlock (λ b. Ends (case_clause p l.0 l.1 b.0 b.1)))
ClauseAt (Key word.Default p) = After ColonBlock (λ b. Ends (default_clause p b.0 b.1))
ClauseAt _ = λ r ys w. ⊥

abbrev pub OneClause : (ClauseShapes → ClauseShapes) → List Lexeme → List Lexeme → Type 0
OneClause = Headed ClauseAt

-- what follows `switch`: expr attr* '{' clause* '}'
pub record SwitchShape : Type 0 where
  pub selector : ExprShape
  pub inner : List AttrShape
  pub clauses : ClauseShapes
  pub end : Place

abbrev pub SwitchRest : SwitchShape → List Lexeme → List Lexeme → Type 0
SwitchRest =
    After Expression (λ e. After (Many Attribute) (λ inner. Marked (Mark sign.OpenBrace) (λ p. After (Many OneClause) (λ l. Marked (Mark sign.CloseBrace) (λ q.
    Ends (record { selector = e; inner = inner; clauses = clause_shapes l; end = q }))))))

-- expr ';' '}'
abbrev pub Leaves : ExprShape × Place → List Lexeme → List Lexeme → Type 0
Leaves = After ValueEnd (λ e. Marked (Mark sign.CloseBrace) (λ q. Ends (e, q)))

-- stmt* ('break' 'if' expr ';')? '}'
pub record LastShape : Type 0 where
  pub body : List StmtShape
  pub leave : Option BreakIfShape
  pub end : Place

abbrev pub LastEnd : List StmtShape → LastShape → List Lexeme → List Lexeme → Type 0
LastEnd l = After (Maybe BreaksIf) (λ o. Marked (Mark sign.CloseBrace) (λ q. Ends (record { body = l; leave = o; end = q })))

abbrev pub LastStatements : LastShape → List Lexeme → List Lexeme → Type 0
LastStatements = After (Many Statement) LastEnd

-- what follows `continuing`
abbrev pub ContinuingRest : Place → ContinuingShape → List Lexeme → List Lexeme → Type 0
ContinuingRest keyword = After (Many Attribute) (λ attrs. Marked (Mark sign.OpenBrace) (λ p. After LastStatements (λ l. Ends (continuing_part keyword attrs (stmt_shapes l.body) l.leave l.end))))

-- continuing? '}'
abbrev pub LoopEnds : ContinuingShape × Place → List Lexeme → List Lexeme → Type 0
LoopEnds = After MaybeContinuing (λ c. Marked (Mark sign.CloseBrace) (λ q. Ends (c, q)))

-- what follows `loop`: attr* '{' stmt* continuing? '}'
pub record LoopShape : Type 0 where
  pub inner : List AttrShape
  pub body : List StmtShape
  pub continuing : ContinuingShape
  pub end : Place

abbrev pub LoopRest : LoopShape → List Lexeme → List Lexeme → Type 0
LoopRest =
    After (Many Attribute) (λ inner. Marked (Mark sign.OpenBrace) (λ p. After (Many Statement) (λ l. After LoopEnds (λ e.
    Ends (record { inner = inner; body = l; continuing = e.0; end = e.1 })))))

-- 'else' 'if' expr block, before others
abbrev pub OneArm : (ArmShapes → ArmShapes) → List Lexeme → List Lexeme → Type 0
OneArm = Marked (Key word.Else) (λ p. Marked (Key word.If) (λ q. After Guards (λ g. Ends (else_if_arm p q g.0 g.1))))

-- 'else' block
abbrev pub LastArm : ArmShapes → List Lexeme → List Lexeme → Type 0
LastArm = Marked (Key word.Else) (λ p. After Block (λ b. Ends (else_arm p b)))

-- ('else' 'if' expr block)* ('else' block)?
abbrev pub ArmsEnd : List (ArmShapes → ArmShapes) → ArmShapes → List Lexeme → List Lexeme → Type 0
ArmsEnd l = After (Maybe LastArm) (λ o. Ends (arm_shapes l o))

abbrev pub AllArms : ArmShapes → List Lexeme → List Lexeme → Type 0
AllArms = After (Many OneArm) ArmsEnd

-- a statement that attributes may stand before
abbrev pub CompoundAt : List AttrShape → Lexeme → StmtShape → List Lexeme → List Lexeme → Type 0
CompoundAt attrs (Mark sign.OpenBrace p) = After Braced (λ b. Ends (block_stmt (first_place attrs p) (braces (first_place attrs p) attrs (stmt_shapes b.0) b.1)))
CompoundAt attrs (Key word.If p) = After Guards (λ g. After AllArms (λ a. Ends (if_stmt (first_place attrs p) attrs p g.0 g.1 a)))
CompoundAt attrs (Key word.Switch p) = After SwitchRest (λ s. Ends (switch_stmt (first_place attrs p) attrs p s.selector s.inner s.clauses s.end))
CompoundAt attrs (Key word.Loop p) = After LoopRest (λ l. Ends (loop_stmt (first_place attrs p) attrs p l.inner (stmt_shapes l.body) l.continuing l.end))
CompoundAt attrs (Key word.For p) = After ForRest (λ f. Ends (for_stmt (first_place attrs p) attrs p f.head.initial f.head.condition f.head.update f.body))
CompoundAt attrs (Key word.While p) = After Guards (λ g. Ends (while_stmt (first_place attrs p) attrs p g.0 g.1))
CompoundAt attrs _ = λ r ys w. ⊥

abbrev pub Compound : StmtShape → List Lexeme → List Lexeme → Type 0
Compound = After (Many Attribute) (λ attrs. Headed (CompoundAt attrs))

-- a statement that no attributes stand before
abbrev pub PlainAt : Lexeme → StmtShape → List Lexeme → List Lexeme → Type 0
PlainAt (Mark sign.Semicolon p) = Ends (empty_stmt p)
PlainAt (Key word.Return p) = After UntilValue (λ e. Ends (return_stmt p e))
PlainAt (Key word.Break p) = Marked (Mark sign.Semicolon) (λ q. Ends (break_stmt p))
PlainAt (Key word.Continue p) = Marked (Mark sign.Semicolon) (λ q. Ends (continue_stmt p))
PlainAt (Key word.Discard p) = Marked (Mark sign.Semicolon) (λ q. Ends (discard_stmt p))
PlainAt (Key word.ConstAssert p) = After ValueEnd (λ e. Ends (assert_stmt p e))
PlainAt _ = λ r ys w. ⊥

abbrev pub SimpleEnd : StmtShape → List Lexeme → List Lexeme → Type 0
SimpleEnd = After SimpleStatement (λ s. Marked (Mark sign.Semicolon) (λ p. Ends (simple_stmt (simple_place s) s)))

abbrev pub Plain : StmtShape → List Lexeme → List Lexeme → Type 0
Plain r ys w = Headed PlainAt r ys w ⊎ SimpleEnd r ys w

-- what is told of the trees
abbrev pub block_seen : Seen BlockTree BlockShape
block_seen = record { shape = block_shape; needs = block_needs; nodes = block_nodes }

abbrev pub stmt_seen : Seen Stmt StmtShape
stmt_seen = record { shape = stmt_shape; needs = stmt_needs; nodes = stmt_nodes }

abbrev pub value_seen : Seen (Option Expr) (Option ExprShape)
value_seen = record { shape = λ names. option_map (expr_shape names); needs = maybe_needs expr_needs; nodes = maybe_nodes expr_nodes }

abbrev pub maybe_simple_seen : Seen (Option Simple) (Option SimpleShape)
maybe_simple_seen = record { shape = λ names. option_map (simple_shape names); needs = maybe_needs simple_needs; nodes = maybe_nodes simple_nodes }

abbrev pub maybe_update_seen : Seen (Option Update) (Option UpdateShape)
maybe_update_seen = record { shape = λ names. option_map (update_shape names); needs = maybe_needs update_needs; nodes = maybe_nodes update_nodes }

abbrev pub stmts_seen : Seen (List Stmt) (List StmtShape)
stmts_seen = record { shape = λ names. map (stmt_shape names); needs = most_of stmt_needs; nodes = joined_of stmt_nodes }

abbrev pub body_seen : Seen Body (List StmtShape × Place)
body_seen = record { shape = λ names b. (map (stmt_shape names) b.statements, b.end); needs = λ b. most_of stmt_needs b.statements; nodes = λ b. joined_of stmt_nodes b.statements }

abbrev pub guarded_seen : Seen Guarded (ExprShape × BlockShape)
guarded_seen = record {
  shape = λ names g. (expr_shape names g.condition, block_shape names g.body);
  needs = λ g. max (expr_needs g.condition) (block_needs g.body);
  nodes = λ g. expr_nodes g.condition ++ block_nodes g.body;
}

abbrev pub branches_seen : Seen Branches ArmShapes
branches_seen = record {
  shape = λ names b. arm_shapes (map (arm_shaped names) b.arms) (option_map (otherwise_shaped names) b.otherwise);
  needs = λ b. max (most_of arm_count b.arms) (maybe_needs otherwise_count b.otherwise);
  nodes = λ b. joined_of arm_numbers b.arms ++ maybe_nodes otherwise_numbers b.otherwise;
}

abbrev pub for_head_seen : Seen ForHeader ForHeadShape
for_head_seen = record {
  shape = λ names f. record { initial = option_map (simple_shape names) f.initial; condition = option_map (expr_shape names) f.condition; update = option_map (update_shape names) f.update };
  needs = λ f. max (maybe_needs simple_needs f.initial) (max (maybe_needs expr_needs f.condition) (maybe_needs update_needs f.update));
  nodes = λ f. maybe_nodes simple_nodes f.initial ++ (maybe_nodes expr_nodes f.condition ++ maybe_nodes update_nodes f.update);
}

abbrev pub for_seen : Seen ForParts ForShape
for_seen = record {
  shape = λ names f. record { head = for_head_seen.shape names f.head; body = block_shape names f.body };
  needs = λ f. max (for_head_seen.needs f.head) (block_needs f.body);
  nodes = λ f. for_head_seen.nodes f.head ++ block_nodes f.body;
}

abbrev pub clause_body_seen : Seen ClauseBody (Bool × BlockShape)
clause_body_seen = record { shape = λ names c. (c.colon, block_shape names c.body); needs = λ c. block_needs c.body; nodes = λ c. block_nodes c.body }

abbrev pub selector_seen : Seen Selector SelectorShape
selector_seen = record { shape = selector_shape; needs = selector_needs; nodes = selector_nodes }

abbrev pub selectors_seen : Seen Selectors (List SelectorShape × Bool)
selectors_seen = record { shape = λ names s. (map (selector_shape names) s.items, s.trailing); needs = λ s. most_of selector_needs s.items; nodes = λ s. joined_of selector_nodes s.items }

abbrev pub clause_seen : Seen Clause (ClauseShapes → ClauseShapes)
clause_seen = record { shape = clause_shaped; needs = clause_count; nodes = clause_numbers }

abbrev pub clauses_seen : Seen (List Clause) (List (ClauseShapes → ClauseShapes))
clauses_seen = record { shape = λ names. map (clause_shaped names); needs = most_of clause_count; nodes = joined_of clause_numbers }

abbrev pub switch_seen : Seen SwitchParts SwitchShape
switch_seen = record {
  shape = λ names s. record { selector = expr_shape names s.selector; inner = attr_shapes names s.inner; clauses = clause_shapes (map (clause_shaped names) s.clauses); end = s.end };
  needs = λ s. max (expr_needs s.selector) (max (attrs_need s.inner) (most_of clause_count s.clauses));
  nodes = λ s. expr_nodes s.selector ++ (attrs_nodes s.inner ++ joined_of clause_numbers s.clauses);
}

abbrev pub leave_seen : Seen Leave (ExprShape × Place)
leave_seen = record { shape = λ names l. (expr_shape names l.condition, l.end); needs = λ l. expr_needs l.condition; nodes = λ l. expr_nodes l.condition }

abbrev pub last_seen : Seen LastBody LastShape
last_seen = record {
  shape = λ names l. record { body = map (stmt_shape names) l.statements; leave = option_map (break_if_shape names) l.leave; end = l.end };
  needs = λ l. max (most_of stmt_needs l.statements) (maybe_needs break_if_needs l.leave);
  nodes = λ l. joined_of stmt_nodes l.statements ++ maybe_nodes break_if_nodes l.leave;
}

abbrev pub continuing_seen : Seen Continuing ContinuingShape
continuing_seen = record { shape = continuing_shaped; needs = continuing_count; nodes = continuing_numbers }

abbrev pub loop_end_seen : Seen LoopEnd (ContinuingShape × Place)
loop_end_seen = record {
  shape = λ names l. (maybe_continuing (option_map (continuing_shaped names) l.continuing), l.end);
  needs = λ l. maybe_needs continuing_count l.continuing;
  nodes = λ l. maybe_nodes continuing_numbers l.continuing;
}

abbrev pub loop_seen : Seen LoopParts LoopShape
loop_seen = record {
  shape = λ names l. record { inner = attr_shapes names l.inner; body = map (stmt_shape names) l.body; continuing = maybe_continuing (option_map (continuing_shaped names) l.continuing); end = l.end };
  needs = λ l. max (attrs_need l.inner) (max (most_of stmt_needs l.body) (maybe_needs continuing_count l.continuing));
  nodes = λ l. attrs_nodes l.inner ++ (joined_of stmt_nodes l.body ++ maybe_nodes continuing_numbers l.continuing);
}
