-- Attributes, declarations by `var` and `const`, and statements (WGSL, "Attributes", "Variable and Value Declarations",
-- "Statements"), in the form of `Expressions`.
use Rattle.std.specs.Prelude.{Bool, true, false, List, ◌∷◌, Option}
use Rattle.shade_base.specs.declared.place.Place.{Place}
use Rattle.shade_ast.specs.declared.lexeme.Keyword.TheVariants as word
use Rattle.shade_ast.specs.declared.lexeme.Sign.{Sign}
use Rattle.shade_ast.specs.declared.lexeme.Sign.TheVariants as sign
use Rattle.shade_ast.specs.declared.stmt.OpAssign.{OpAssign}
use Rattle.shade_ast.specs.declared.stmt.OpAssign.TheVariants as assigns
use Rattle.shade_ast.specs.Lexemes.{Lexeme, Word, Key, Mark, Adjacent}
use Rattle.shade_ast.specs.Shapes.{NameShape, ExprShape, ExprShapes, AttrNameShape, attr_name, attr_diagnostic, attr_const, AttrShape, first_place}
use Rattle.shade_ast.specs.Shapes.{VarSpaceShape, VarShape, BindingShape, UpdateShape, assign, compound, phony, increment, decrement, call_alone, SimpleShape, var_simple, const_simple, let_simple, update_simple, simple_place}
use Rattle.shade_ast.specs.Shapes.{SelectorShape, default_selector, value_selector, BreakIfShape, StmtShape, empty_stmt, block_stmt, simple_stmt, return_stmt, break_stmt, continue_stmt, discard_stmt, assert_stmt, if_stmt, switch_stmt, loop_stmt, for_stmt, while_stmt}
use Rattle.shade_ast.specs.Shapes.{StmtShapes, no_stmts, stmts, BlockShape, braces, block_place, ArmShapes, no_arms, else_arm, else_if_arm, ClauseShapes, no_clauses, case_clause, default_clause, ContinuingShape, no_continuing, continuing_part}
use Rattle.shade_ast.specs.Repeats.{Many, Maybe, Listed}
use Rattle.shade_ast.specs.Expressions.{TypeName, MaybeExpressions, Expression, Call, LeftSide}

-- NAME
pub data Name : NameShape → List Lexeme → List Lexeme → Type 0 where
  name : (n : NameShape) {ts : List Lexeme} → Name n (Word n.text n.place ∷ ts) ts

-- NAME | 'diagnostic' | 'const'
pub data AttrName : AttrNameShape → List Lexeme → List Lexeme → Type 0 where
  plain_attr : (n : NameShape) {ts : List Lexeme} → AttrName (attr_name n) (Word n.text n.place ∷ ts) ts
  diagnostic_attr : (p : Place) {ts : List Lexeme} → AttrName (attr_diagnostic p) (Key word.Diagnostic p ∷ ts) ts
  const_attr : (p : Place) {ts : List Lexeme} → AttrName (attr_const p) (Key word.Const p ∷ ts) ts

-- '(' attrarg,* ')', where attrarg : expr
pub data AttrArguments : ExprShapes × Bool → List Lexeme → List Lexeme → Type 0 where
  attr_arguments : {es : ExprShapes × Bool} (p q : Place) {ts us : List Lexeme} → MaybeExpressions es ts (Mark sign.Close q ∷ us) → AttrArguments es (Mark sign.Open p ∷ ts) us

-- attr : '@' (NAME | 'diagnostic' | 'const') ('(' attrarg,* ')')?
pub data Attribute : AttrShape → List Lexeme → List Lexeme → Type 0 where
  attribute : (a : AttrShape) {ts us vs : List Lexeme} → AttrName a.name ts us → Maybe AttrArguments a.arguments us vs → Attribute a (Mark sign.At a.place ∷ ts) vs

-- ':' type
pub data OfType : ExprShape → List Lexeme → List Lexeme → Type 0 where
  of_type : {e : ExprShape} (p : Place) {ts us : List Lexeme} → TypeName e ts us → OfType e (Mark sign.Colon p ∷ ts) us

-- '=' expr
pub data HasValue : ExprShape → List Lexeme → List Lexeme → Type 0 where
  has_value : {e : ExprShape} (p : Place) {ts us : List Lexeme} → Expression e ts us → HasValue e (Mark sign.Equal p ∷ ts) us

-- const : 'const' NAME (':' type)? '=' expr
pub data Const : BindingShape → List Lexeme → List Lexeme → Type 0 where
  const : (b : BindingShape) {ts us vs : List Lexeme} → Maybe OfType b.ty ts us → HasValue b.value us vs → Const b (Key word.Const b.place ∷ (Word b.name.text b.name.place ∷ ts)) vs

-- ',' NAME
pub data CommaName : NameShape → List Lexeme → List Lexeme → Type 0 where
  comma_name : (p : Place) (n : NameShape) {ts : List Lexeme} → CommaName n (Mark sign.Comma p ∷ (Word n.text n.place ∷ ts)) ts

-- a mark that may be left out, and whether it stands there
pub data MaybeMark (s : Sign) : Bool → List Lexeme → List Lexeme → Type 0 where
  no_mark : {ts : List Lexeme} → MaybeMark s false ts ts
  some_mark : (p : Place) {ts : List Lexeme} → MaybeMark s true (Mark s p ∷ ts) ts

-- '<' NAME (',' NAME)? ','? '>'
pub data VarSpace : VarSpaceShape → List Lexeme → List Lexeme → Type 0 where
  var_space : (s : VarSpaceShape) (p q : Place) {ts us vs : List Lexeme} → Maybe CommaName s.access ts us → MaybeMark sign.Comma s.trailing us (Mark sign.CloseTemplate q ∷ vs) → VarSpace s (Mark sign.OpenTemplate p ∷ (Word s.space.text s.space.place ∷ ts)) vs

-- var : 'var' ('<' NAME (',' NAME)? ','? '>')? NAME (':' type)? ('=' expr)?
pub data Var : VarShape → List Lexeme → List Lexeme → Type 0 where
  var : (v : VarShape) {ts us vs ws : List Lexeme} → Maybe VarSpace v.space ts (Word v.name.text v.name.place ∷ us) → Maybe OfType v.ty us vs → Maybe HasValue v.value vs ws → Var v (Key word.Var v.place ∷ ts) ws

-- opassign : '+=' '-=' '*=' '/=' '%=' '&=' '|=' '^=' '<<=' '>>=' (one of)
pub data Assigns : OpAssign → Place → List Lexeme → List Lexeme → Type 0 where
  add_assigns : (p : Place) {ts : List Lexeme} → Assigns assigns.Add p (Mark sign.PlusEqual p ∷ ts) ts
  subtract_assigns : (p : Place) {ts : List Lexeme} → Assigns assigns.Subtract p (Mark sign.MinusEqual p ∷ ts) ts
  multiply_assigns : (p : Place) {ts : List Lexeme} → Assigns assigns.Multiply p (Mark sign.StarEqual p ∷ ts) ts
  divide_assigns : (p : Place) {ts : List Lexeme} → Assigns assigns.Divide p (Mark sign.SlashEqual p ∷ ts) ts
  remainder_assigns : (p : Place) {ts : List Lexeme} → Assigns assigns.Remainder p (Mark sign.PercentEqual p ∷ ts) ts
  bit_and_assigns : (p : Place) {ts : List Lexeme} → Assigns assigns.BitAnd p (Mark sign.AmpersandEqual p ∷ ts) ts
  bit_or_assigns : (p : Place) {ts : List Lexeme} → Assigns assigns.BitOr p (Mark sign.BarEqual p ∷ ts) ts
  bit_xor_assigns : (p : Place) {ts : List Lexeme} → Assigns assigns.BitXor p (Mark sign.CaretEqual p ∷ ts) ts
  shift_left_assigns : (p : Place) {ts : List Lexeme} → Assigns assigns.ShiftLeft p (Mark sign.ShiftLeftEqual p ∷ ts) ts
  shift_right_assigns : (p q r : Place) {ts : List Lexeme} → Adjacent p q → Adjacent q r → Assigns assigns.ShiftRight p (Mark sign.Greater p ∷ (Mark sign.Greater q ∷ (Mark sign.Equal r ∷ ts))) ts

-- update : lhs '=' expr | lhs opassign expr | '_' '=' expr | lhs '++' | lhs '--' | call
pub data UpdateOf : UpdateShape → List Lexeme → List Lexeme → Type 0 where
  assigned : {e f : ExprShape} (p : Place) {ts us vs : List Lexeme} → LeftSide e ts (Mark sign.Equal p ∷ us) → Expression f us vs → UpdateOf (assign e p f) ts vs
  compounded : {e f : ExprShape} {o : OpAssign} (p : Place) {ts us vs ws : List Lexeme} → LeftSide e ts us → Assigns o p us vs → Expression f vs ws → UpdateOf (compound e o p f) ts ws
  dropped : {f : ExprShape} (p q : Place) {ts us : List Lexeme} → Expression f ts us → UpdateOf (phony p q f) (Mark sign.Underscore p ∷ (Mark sign.Equal q ∷ ts)) us
  incremented : {e : ExprShape} (p : Place) {ts us : List Lexeme} → LeftSide e ts (Mark sign.PlusPlus p ∷ us) → UpdateOf (increment e p) ts us
  decremented : {e : ExprShape} (p : Place) {ts us : List Lexeme} → LeftSide e ts (Mark sign.MinusMinus p ∷ us) → UpdateOf (decrement e p) ts us
  called_alone : {e : ExprShape} {ts us : List Lexeme} → Call e ts us → UpdateOf (call_alone e) ts us

-- simple : var | const | 'let' NAME (':' type)? '=' expr | update
pub data SimpleStatement : SimpleShape → List Lexeme → List Lexeme → Type 0 where
  simple_var : {v : VarShape} {ts us : List Lexeme} → Var v ts us → SimpleStatement (var_simple v) ts us
  simple_const : {b : BindingShape} {ts us : List Lexeme} → Const b ts us → SimpleStatement (const_simple b) ts us
  simple_let : (b : BindingShape) {ts us vs : List Lexeme} → Maybe OfType b.ty ts us → HasValue b.value us vs → SimpleStatement (let_simple b) (Key word.Let b.place ∷ (Word b.name.text b.name.place ∷ ts)) vs
  simple_update : {u : UpdateShape} {ts us : List Lexeme} → UpdateOf u ts us → SimpleStatement (update_simple u) ts us

-- sel : 'default' | expr
pub data Selects : SelectorShape → List Lexeme → List Lexeme → Type 0 where
  selects_default : (p : Place) {ts : List Lexeme} → Selects (default_selector p) (Key word.Default p ∷ ts) ts
  selects_value : {e : ExprShape} {ts us : List Lexeme} → Expression e ts us → Selects (value_selector e) ts us

-- 'break' 'if' expr ';'
pub data BreaksIf : BreakIfShape → List Lexeme → List Lexeme → Type 0 where
  breaks_if : (b : BreakIfShape) (p : Place) {ts us : List Lexeme} → Expression b.condition ts (Mark sign.Semicolon p ∷ us) → BreaksIf b (Key word.Break b.break_place ∷ (Key word.If b.if_place ∷ ts)) us

mutual
  -- block : attr* '{' stmt* '}'
  pub data Block : BlockShape → List Lexeme → List Lexeme → Type 0 where
    block : (attrs : List AttrShape) {body : StmtShapes} (p q : Place) {ts us vs : List Lexeme} → Many Attribute attrs ts (Mark sign.OpenBrace p ∷ us) → Statements body us (Mark sign.CloseBrace q ∷ vs) → Block (braces (first_place attrs p) attrs body q) ts vs

  -- stmt*
  pub data Statements : StmtShapes → List Lexeme → List Lexeme → Type 0 where
    no_statement : {ts : List Lexeme} → Statements no_stmts ts ts
    more_statements : {s : StmtShape} {ss : StmtShapes} {ts us vs : List Lexeme} → Statement s ts us → Statements ss us vs → Statements (stmts s ss) ts vs

  -- stmt : ';' | block | simple ';' | 'return' expr? ';' | 'break' ';' | 'continue' ';' | 'discard' ';'
  --      | 'const_assert' expr ';'
  --      | attr* 'if' expr block ('else' 'if' expr block)* ('else' block)?
  --      | attr* 'switch' expr attr* '{' clause* '}'
  --      | attr* 'loop' attr* '{' stmt* continuing? '}'
  --      | attr* 'for' '(' simple? ';' expr? ';' update? ')' block
  --      | attr* 'while' expr block
  pub data Statement : StmtShape → List Lexeme → List Lexeme → Type 0 where
    is_empty : (p : Place) {ts : List Lexeme} → Statement (empty_stmt p) (Mark sign.Semicolon p ∷ ts) ts
    is_block : {b : BlockShape} {ts us : List Lexeme} → Block b ts us → Statement (block_stmt (block_place b) b) ts us
    is_simple : {s : SimpleShape} (p : Place) {ts us : List Lexeme} → SimpleStatement s ts (Mark sign.Semicolon p ∷ us) → Statement (simple_stmt (simple_place s) s) ts us
    is_return : {e : Option ExprShape} (p q : Place) {ts us : List Lexeme} → Maybe Expression e ts (Mark sign.Semicolon q ∷ us) → Statement (return_stmt p e) (Key word.Return p ∷ ts) us
    is_break : (p q : Place) {ts : List Lexeme} → Statement (break_stmt p) (Key word.Break p ∷ (Mark sign.Semicolon q ∷ ts)) ts
    is_continue : (p q : Place) {ts : List Lexeme} → Statement (continue_stmt p) (Key word.Continue p ∷ (Mark sign.Semicolon q ∷ ts)) ts
    is_discard : (p q : Place) {ts : List Lexeme} → Statement (discard_stmt p) (Key word.Discard p ∷ (Mark sign.Semicolon q ∷ ts)) ts
    is_assert : {e : ExprShape} (p q : Place) {ts us : List Lexeme} → Expression e ts (Mark sign.Semicolon q ∷ us) → Statement (assert_stmt p e) (Key word.ConstAssert p ∷ ts) us
    is_if : (attrs : List AttrShape) {e : ExprShape} {b : BlockShape} {arms : ArmShapes} (p : Place) {ts us vs ws xs : List Lexeme} → Many Attribute attrs ts (Key word.If p ∷ us) → Expression e us vs → Block b vs ws → Arms arms ws xs → Statement (if_stmt (first_place attrs p) attrs p e b arms) ts xs
    is_switch : (attrs : List AttrShape) {e : ExprShape} {inner : List AttrShape} {clauses : ClauseShapes} (p q r : Place) {ts us vs ws xs : List Lexeme} → Many Attribute attrs ts (Key word.Switch p ∷ us) → Expression e us vs → Many Attribute inner vs (Mark sign.OpenBrace q ∷ ws) → Clauses clauses ws (Mark sign.CloseBrace r ∷ xs) → Statement (switch_stmt (first_place attrs p) attrs p e inner clauses r) ts xs
    is_loop : (attrs : List AttrShape) {inner : List AttrShape} {body : StmtShapes} {continuing : ContinuingShape} (p q r : Place) {ts us vs ws xs : List Lexeme} → Many Attribute attrs ts (Key word.Loop p ∷ us) → Many Attribute inner us (Mark sign.OpenBrace q ∷ vs) → Statements body vs ws → MaybeContinuing continuing ws (Mark sign.CloseBrace r ∷ xs) → Statement (loop_stmt (first_place attrs p) attrs p inner body continuing r) ts xs
    is_for : (attrs : List AttrShape) {initial : Option SimpleShape} {condition : Option ExprShape} {update : Option UpdateShape} {b : BlockShape} (p q r s o : Place) {ts us vs ws xs ys : List Lexeme} → Many Attribute attrs ts (Key word.For p ∷ (Mark sign.Open q ∷ us)) → Maybe SimpleStatement initial us (Mark sign.Semicolon r ∷ vs) → Maybe Expression condition vs (Mark sign.Semicolon s ∷ ws) → Maybe UpdateOf update ws (Mark sign.Close o ∷ xs) → Block b xs ys → Statement (for_stmt (first_place attrs p) attrs p initial condition update b) ts ys
    is_while : (attrs : List AttrShape) {e : ExprShape} {b : BlockShape} (p : Place) {ts us vs ws : List Lexeme} → Many Attribute attrs ts (Key word.While p ∷ us) → Expression e us vs → Block b vs ws → Statement (while_stmt (first_place attrs p) attrs p e b) ts ws

  -- ('else' 'if' expr block)* ('else' block)?
  pub data Arms : ArmShapes → List Lexeme → List Lexeme → Type 0 where
    no_else : {ts : List Lexeme} → Arms no_arms ts ts
    otherwise : {b : BlockShape} (p : Place) {ts us : List Lexeme} → Block b ts us → Arms (else_arm p b) (Key word.Else p ∷ ts) us
    else_if : {e : ExprShape} {b : BlockShape} {arms : ArmShapes} (p q : Place) {ts us vs ws : List Lexeme} → Expression e ts us → Block b us vs → Arms arms vs ws → Arms (else_if_arm p q e b arms) (Key word.Else p ∷ (Key word.If q ∷ ts)) ws

  -- clause*, where clause : 'case' sel,+ ':'? block | 'default' ':'? block
  pub data Clauses : ClauseShapes → List Lexeme → List Lexeme → Type 0 where
    no_clause : {ts : List Lexeme} → Clauses no_clauses ts ts
    case : {selectors : List SelectorShape} {trailing colon : Bool} {b : BlockShape} {clauses : ClauseShapes} (p : Place) {ts us vs ws xs : List Lexeme} → Listed Selects (selectors, trailing) ts us → MaybeMark sign.Colon colon us vs → Block b vs ws → Clauses clauses ws xs → Clauses (case_clause p selectors trailing colon b clauses) (Key word.Case p ∷ ts) xs
    default : {colon : Bool} {b : BlockShape} {clauses : ClauseShapes} (p : Place) {ts us vs ws : List Lexeme} → MaybeMark sign.Colon colon ts us → Block b us vs → Clauses clauses vs ws → Clauses (default_clause p colon b clauses) (Key word.Default p ∷ ts) ws

  -- continuing?, where continuing : 'continuing' attr* '{' stmt* ('break' 'if' expr ';')? '}'
  pub data MaybeContinuing : ContinuingShape → List Lexeme → List Lexeme → Type 0 where
    not_continuing : {ts : List Lexeme} → MaybeContinuing no_continuing ts ts
    continuing : {attrs : List AttrShape} {body : StmtShapes} {leave : Option BreakIfShape} (p q r : Place) {ts us vs ws : List Lexeme} → Many Attribute attrs ts (Mark sign.OpenBrace q ∷ us) → Statements body us vs → Maybe BreaksIf leave vs (Mark sign.CloseBrace r ∷ ws) → MaybeContinuing (continuing_part p attrs body leave r) (Key word.Continuing p ∷ ts) ws
