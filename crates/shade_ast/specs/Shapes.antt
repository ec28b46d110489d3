-- The shapes of trees: trees with the texts of names in place of their numbers, and without the numbers of nodes. Each shape
-- of a node has the place of its first token first, then the named parts of its alternative in their order. A type that leads
-- back to itself has a list type of its own.
use Rattle.std.specs.Prelude.{ℕ, Bool, List, [], ◌∷◌, Option}
use Rattle.shade_base.specs.declared.place.Place.{Place}
use Rattle.shade_lex.specs.declared.token.Suffix.{Suffix}
use Rattle.shade_ast.specs.declared.expr.Infix.{Infix}
use Rattle.shade_ast.specs.declared.expr.Prefix.{Prefix}
use Rattle.shade_ast.specs.declared.stmt.OpAssign.{OpAssign}

-- a name
pub record NameShape : Type 0 where
  pub place : Place
  pub text : List ℕ

mutual
  -- an expression or a type
  pub data ExprShape : Type 0 where
    infixed : (place : Place) (left : ExprShape) (operator : Infix) (at : Place) (right : ExprShape) → ExprShape
    prefixed : (place : Place) (operator : Prefix) (operand : ExprShape) → ExprShape
    member : (place : Place) (whole : ExprShape) (dot : Place) (name : NameShape) → ExprShape
    index : (place : Place) (whole : ExprShape) (bracket : Place) (at : ExprShape) → ExprShape
    call : (place : Place) (callee : ExprShape) (arguments : ExprShapes) (trailing : Bool) → ExprShape
    template : (place : Place) (text : List ℕ) (arguments : ExprShapes) (trailing : Bool) → ExprShape
    named : (place : Place) (text : List ℕ) → ExprShape
    number : (place : Place) (value : ℕ) (suffix : Suffix) → ExprShape
    truth : (place : Place) → ExprShape
    falsity : (place : Place) → ExprShape
    paren : (place : Place) (inner : ExprShape) → ExprShape

  pub data ExprShapes : Type 0 where
    no_exprs : ExprShapes
    exprs : (first : ExprShape) (others : ExprShapes) → ExprShapes

-- the place of an expression's first token
abbrev pub place_of : ExprShape → Place
place_of (infixed place left operator at right) = place
place_of (prefixed place operator operand) = place
place_of (member place whole dot name) = place
place_of (index place whole bracket at) = place
place_of (call place callee arguments trailing) = place
place_of (template place text arguments trailing) = place
place_of (named place text) = place
place_of (number place value suffix) = place
place_of (truth place) = place
place_of (falsity place) = place
place_of (paren place inner) = place

-- the name of an attribute
pub data AttrNameShape : Type 0 where
  attr_name : (name : NameShape) → AttrNameShape
  attr_diagnostic : (place : Place) → AttrNameShape
  attr_const : (place : Place) → AttrNameShape

-- an attribute
pub record AttrShape : Type 0 where
  pub place : Place
  pub name : AttrNameShape
  pub arguments : Option (ExprShapes × Bool)

-- the place of the first token of what may begin with attributes
abbrev pub first_place : List AttrShape → Place → Place
first_place [] place = place
first_place (attr ∷ attrs) place = attr.place

-- the template list of a `var`
pub record VarSpaceShape : Type 0 where
  pub space : NameShape
  pub access : Option NameShape
  pub trailing : Bool

pub record VarShape : Type 0 where
  pub place : Place
  pub space : Option VarSpaceShape
  pub name : NameShape
  pub ty : Option ExprShape
  pub value : Option ExprShape

-- a `const` or a `let`
pub record BindingShape : Type 0 where
  pub place : Place
  pub name : NameShape
  pub ty : Option ExprShape
  pub value : ExprShape

pub data UpdateShape : Type 0 where
  assign : (target : ExprShape) (at : Place) (value : ExprShape) → UpdateShape
  compound : (target : ExprShape) (operator : OpAssign) (at : Place) (value : ExprShape) → UpdateShape
  phony : (underscore at : Place) (value : ExprShape) → UpdateShape
  increment : (target : ExprShape) (at : Place) → UpdateShape
  decrement : (target : ExprShape) (at : Place) → UpdateShape
  call_alone : (callee : ExprShape) → UpdateShape

pub data SimpleShape : Type 0 where
  var_simple : (variable : VarShape) → SimpleShape
  const_simple : (constant : BindingShape) → SimpleShape
  let_simple : (bound : BindingShape) → SimpleShape
  update_simple : (update : UpdateShape) → SimpleShape

-- the places of their first tokens
abbrev pub update_place : UpdateShape → Place
update_place (assign target at value) = place_of target
update_place (compound target operator at value) = place_of target
update_place (phony underscore at value) = underscore
update_place (increment target at) = place_of target
update_place (decrement target at) = place_of target
update_place (call_alone callee) = place_of callee

abbrev pub simple_place : SimpleShape → Place
simple_place (var_simple variable) = variable.place
simple_place (const_simple constant) = constant.place
simple_place (let_simple bound) = bound.place
simple_place (update_simple update) = update_place update

-- a selector of a `case`
pub data SelectorShape : Type 0 where
  default_selector : (place : Place) → SelectorShape
  value_selector : (value : ExprShape) → SelectorShape

-- `break if`
pub record BreakIfShape : Type 0 where
  pub break_place : Place
  pub if_place : Place
  pub condition : ExprShape

mutual
  pub data StmtShape : Type 0 where
    empty_stmt : (place : Place) → StmtShape
    block_stmt : (place : Place) (block : BlockShape) → StmtShape
    simple_stmt : (place : Place) (simple : SimpleShape) → StmtShape
    return_stmt : (place : Place) (value : Option ExprShape) → StmtShape
    break_stmt : (place : Place) → StmtShape
    continue_stmt : (place : Place) → StmtShape
    discard_stmt : (place : Place) → StmtShape
    assert_stmt : (place : Place) (condition : ExprShape) → StmtShape
    if_stmt : (place : Place) (attrs : List AttrShape) (keyword : Place) (condition : ExprShape) (then : BlockShape) (arms : ArmShapes) → StmtShape
    switch_stmt : (place : Place) (attrs : List AttrShape) (keyword : Place) (selector : ExprShape) (inner : List AttrShape) (clauses : ClauseShapes) (end : Place) → StmtShape
    loop_stmt : (place : Place) (attrs : List AttrShape) (keyword : Place) (inner : List AttrShape) (body : StmtShapes) (continuing : ContinuingShape) (end : Place) → StmtShape
    for_stmt : (place : Place) (attrs : List AttrShape) (keyword : Place) (initial : Option SimpleShape) (condition : Option ExprShape) (update : Option UpdateShape) (body : BlockShape) → StmtShape
    while_stmt : (place : Place) (attrs : List AttrShape) (keyword : Place) (condition : ExprShape) (body : BlockShape) → StmtShape

  pub data StmtShapes : Type 0 where
    no_stmts : StmtShapes
    stmts : (first : StmtShape) (others : StmtShapes) → StmtShapes

  pub data BlockShape : Type 0 where
    braces : (place : Place) (attrs : List AttrShape) (body : StmtShapes) (end : Place) → BlockShape

  -- what follows the first block of an `if`
  pub data ArmShapes : Type 0 where
    no_arms : ArmShapes
    else_arm : (keyword : Place) (body : BlockShape) → ArmShapes
    else_if_arm : (else_keyword if_keyword : Place) (condition : ExprShape) (body : BlockShape) (others : ArmShapes) → ArmShapes

  pub data ClauseShapes : Type 0 where
    no_clauses : ClauseShapes
    case_clause : (keyword : Place) (selectors : List SelectorShape) (trailing colon : Bool) (body : BlockShape) (others : ClauseShapes) → ClauseShapes
    default_clause : (keyword : Place) (colon : Bool) (body : BlockShape) (others : ClauseShapes) → ClauseShapes

  -- the continuing part of a `loop`, where it has one
  pub data ContinuingShape : Type 0 where
    no_continuing : ContinuingShape
    continuing_part : (keyword : Place) (attrs : List AttrShape) (body : StmtShapes) (leave : Option BreakIfShape) (end : Place) → ContinuingShape

-- the place of a block's first token
abbrev pub block_place : BlockShape → Place
block_place (braces place attrs body end) = place

-- a member of a struct or a parameter
pub record MemberShape : Type 0 where
  pub place : Place
  pub attrs : List AttrShape
  pub name : NameShape
  pub ty : ExprShape

-- the type of a result
pub record ResultShape : Type 0 where
  pub attrs : List AttrShape
  pub ty : ExprShape

pub data DeclShape : Type 0 where
  empty_decl : (place : Place) → DeclShape
  alias_decl : (place : Place) (name : NameShape) (ty : ExprShape) → DeclShape
  const_decl : (place : Place) (constant : BindingShape) → DeclShape
  assert_decl : (place : Place) (condition : ExprShape) → DeclShape
  struct_decl : (place : Place) (name : NameShape) (members : List MemberShape) (trailing : Bool) (end : Place) → DeclShape
  var_decl : (place : Place) (attrs : List AttrShape) (variable : VarShape) → DeclShape
  override_decl : (place : Place) (attrs : List AttrShape) (keyword : Place) (name : NameShape) (ty : Option ExprShape) (value : Option ExprShape) → DeclShape
  fn_decl : (place : Place) (attrs : List AttrShape) (keyword : Place) (name : NameShape) (params : List MemberShape) (trailing : Bool) (result : Option ResultShape) (body : BlockShape) → DeclShape

-- the rule of a diagnostic filter
pub data RuleShape : Type 0 where
  plain_rule : (name : NameShape) → RuleShape
  scoped_rule : (scope : NameShape) (dot : Place) (name : NameShape) → RuleShape

pub data DirectiveShape : Type 0 where
  diagnostic_directive : (place : Place) (severity : NameShape) (rule : RuleShape) (trailing : Bool) → DirectiveShape
  requires_directive : (place : Place) (names : List NameShape) (trailing : Bool) → DirectiveShape
  enable_directive : (place : Place) (names : List NameShape) (trailing : Bool) → DirectiveShape

-- a whole text
pub record TreeShape : Type 0 where
  pub directives : List DirectiveShape
  pub decls : List DeclShape
