-- What is true of each word among the tokens of a phrase is true of each word in its shape, and of those behind it.
use Rattle.std.proofs.Common.{ℕ, Bool, List, [], Option}
use Rattle.shade_ast.specs.declared.lexeme.Sign.{Sign}
use Rattle.shade_ast.specs.declared.stmt.OpAssign.{OpAssign}
use Rattle.shade_base.specs.declared.place.Place.{Place}
use Rattle.shade_ast.specs.Lexemes.{Lexeme}
use Rattle.shade_ast.specs.Shapes.{NameShape, ExprShape, ExprShapes, AttrNameShape, AttrShape, VarSpaceShape, VarShape, BindingShape, UpdateShape, SimpleShape, SelectorShape, BreakIfShape, StmtShape, StmtShapes, BlockShape, ArmShapes, ClauseShapes, ContinuingShape, MemberShape, ResultShape, DeclShape, RuleShape, DirectiveShape, TreeShape}
use Rattle.shade_ast.specs.Repeats.{Many, no_more, more, Maybe, absent, present, Listed, last, last_comma, comma, MaybeListed, nothing, something}
use Rattle.shade_ast.specs.Expressions.{TypeName, plain_type, template_type, Expressions, last_expr, last_expr_comma, more_exprs, MaybeExpressions, no_expr, some_exprs, Expression, relational, either, both, bit_and, bit_or, bit_xor, Or, or_first, or_more, And, and_first, and_more, BitAnd, bit_and_first, bit_and_more, BitOr, bit_or_first, bit_or_more, BitXor, bit_xor_first, bit_xor_more}
use Rattle.shade_ast.specs.Expressions.{Relational, shifted, less, greater, less_equal, greater_equal, equal, not_equal, Shift, additive, shift_left, shift_right, Additive, multiplicative, add, subtract, Multiplicative, unary, multiply, divide, remainder, Unary, negate, not, complement, deref, address_of, operand, Singular, primary, accessed, Access, by_name, by_index}
use Rattle.shade_ast.specs.Expressions.{Primary, called, typed, numeral, true_word, false_word, parens, Call, calls, LeftSide, left_deref, left_address_of, left_singular, LeftSingular, left_name, left_parens, left_accessed}
use Rattle.shade_ast.specs.Statements.{Name, name, AttrName, plain_attr, diagnostic_attr, const_attr, AttrArguments, attr_arguments, Attribute, attribute, OfType, of_type, HasValue, has_value, Const, const, CommaName, comma_name, MaybeMark, no_mark, some_mark, VarSpace, var_space, Var, var}
use Rattle.shade_ast.specs.Statements.{Assigns, add_assigns, subtract_assigns, multiply_assigns, divide_assigns, remainder_assigns, bit_and_assigns, bit_or_assigns, bit_xor_assigns, shift_left_assigns, shift_right_assigns, UpdateOf, assigned, compounded, dropped, incremented, decremented, called_alone, SimpleStatement, simple_var, simple_const, simple_let, simple_update, Selects, selects_default, selects_value, BreaksIf, breaks_if}
use Rattle.shade_ast.specs.Statements.{Block, block, Statements, no_statement, more_statements, Statement, is_empty, is_block, is_simple, is_return, is_break, is_continue, is_discard, is_assert, is_if, is_switch, is_loop, is_for, is_while, Arms, no_else, otherwise, else_if, Clauses, no_clause, case, default, MaybeContinuing, not_continuing, continuing}
use Rattle.shade_ast.specs.Declarations.{RuleOf, rule, dotted_rule, DirectiveOf, diagnostic, requires_names, enables_names, MemberOf, a_member, ResultOf, result, Declaration, no_declaration, alias, constant, assertion, struct, variable, overridable, function, Module, whole}
use Rattle.shade_parse.proofs.Worded.{OfMaybe, OfList, OfTokens, OfName, OfExpr, OfExprs, OfAttrName, OfArguments, OfAttr, OfAttrs, OfVarSpace, OfVar, OfBinding, OfUpdate, OfSimple, OfSelector, OfBreakIf, OfStmt, OfStmts, OfBlock, OfArms, OfClauses, OfContinuing, OfMember, OfResult, OfDecl, OfRule, OfDirective, OfTree}

module _ (P : List ℕ → Type 0) where
  -- phrases of phrases
  abbrev Phrase : {R : Type 0} → (R → List Lexeme → List Lexeme → Type 0) → (R → Type 0) → Type 0
  Phrase {R} G F = (r : R) (ts us : List Lexeme) → G r ts us → OfTokens P ts → F r × OfTokens P us

  many_words : {R : Type 0} (G : R → List Lexeme → List Lexeme → Type 0) (F : R → Type 0) → Phrase G F → (rs : List R) (ts us : List Lexeme) → Many G rs ts us → OfTokens P ts → OfList F rs × OfTokens P us
  many_words G F one rs ts us no_more h = (tt, h)
  many_words G F one rs ts us (more g f) h = let x = one _ _ _ g h in let y = many_words G F one _ _ _ f x.1 in ((x.0, y.0), y.1)

  maybe_words : {R : Type 0} (G : R → List Lexeme → List Lexeme → Type 0) (F : R → Type 0) → Phrase G F → (o : Option R) (ts us : List Lexeme) → Maybe G o ts us → OfTokens P ts → OfMaybe F o × OfTokens P us
  maybe_words G F one o ts us absent h = (tt, h)
  maybe_words G F one o ts us (present g) h = one _ _ _ g h

  listed_words : {R : Type 0} (G : R → List Lexeme → List Lexeme → Type 0) (F : R → Type 0) → Phrase G F → (rs : List R × Bool) (ts us : List Lexeme) → Listed G rs ts us → OfTokens P ts → OfList F rs.0 × OfTokens P us
  listed_words G F one rs ts us (last g) h = let x = one _ _ _ g h in ((x.0, tt), x.1)
  listed_words G F one rs ts us (last_comma p g) h = let x = one _ _ _ g h in ((x.0, tt), x.1)
  listed_words G F one rs ts us (comma p g f) h = let x = one _ _ _ g h in let y = listed_words G F one _ _ _ f x.1 in ((x.0, y.0), y.1)

  maybe_listed_words : {R : Type 0} (G : R → List Lexeme → List Lexeme → Type 0) (F : R → Type 0) → Phrase G F → (rs : List R × Bool) (ts us : List Lexeme) → MaybeListed G rs ts us → OfTokens P ts → OfList F rs.0 × OfTokens P us
  maybe_listed_words G F one rs ts us nothing h = (tt, h)
  maybe_listed_words G F one rs ts us (something g) h = listed_words G F one _ _ _ g h

  mutual
    type_words : (e : ExprShape) (ts us : List Lexeme) → TypeName e ts us → OfTokens P ts → OfExpr P e × OfTokens P us
    type_words e ts us (plain_type p text) h = h
    type_words e ts us (template_type p q r text g) h = let x = expressions_words _ _ _ g h.1 in ((h.0, x.0), x.1)

    expressions_words : (e : ExprShapes × Bool) (ts us : List Lexeme) → Expressions e ts us → OfTokens P ts → OfExprs P e.0 × OfTokens P us
    expressions_words e ts us (last_expr g) h = let x = expression_words _ _ _ g h in ((x.0, tt), x.1)
    expressions_words e ts us (last_expr_comma p g) h = let x = expression_words _ _ _ g h in ((x.0, tt), x.1)
    expressions_words e ts us (more_exprs p g f) h = let x = expression_words _ _ _ g h in let y = expressions_words _ _ _ f x.1 in ((x.0, y.0), y.1)

    maybe_expressions_words : (e : ExprShapes × Bool) (ts us : List Lexeme) → MaybeExpressions e ts us → OfTokens P ts → OfExprs P e.0 × OfTokens P us
    maybe_expressions_words e ts us no_expr h = (tt, h)
    maybe_expressions_words e ts us (some_exprs g) h = expressions_words _ _ _ g h

    expression_words : (e : ExprShape) (ts us : List Lexeme) → Expression e ts us → OfTokens P ts → OfExpr P e × OfTokens P us
    expression_words e ts us (relational g) h = relational_words _ _ _ g h
    expression_words e ts us (either p g f) h = let x = or_words _ _ _ g h in let y = relational_words _ _ _ f x.1 in ((x.0, y.0), y.1)
    expression_words e ts us (both p g f) h = let x = and_words _ _ _ g h in let y = relational_words _ _ _ f x.1 in ((x.0, y.0), y.1)
    expression_words e ts us (bit_and p g f) h = let x = bit_and_words _ _ _ g h in let y = unary_words _ _ _ f x.1 in ((x.0, y.0), y.1)
    expression_words e ts us (bit_or p g f) h = let x = bit_or_words _ _ _ g h in let y = unary_words _ _ _ f x.1 in ((x.0, y.0), y.1)
    expression_words e ts us (bit_xor p g f) h = let x = bit_xor_words _ _ _ g h in let y = unary_words _ _ _ f x.1 in ((x.0, y.0), y.1)

    or_words : (e : ExprShape) (ts us : List Lexeme) → Or e ts us → OfTokens P ts → OfExpr P e × OfTokens P us
    or_words e ts us (or_first g) h = relational_words _ _ _ g h
    or_words e ts us (or_more p g f) h = let x = or_words _ _ _ g h in let y = relational_words _ _ _ f x.1 in ((x.0, y.0), y.1)

    and_words : (e : ExprShape) (ts us : List Lexeme) → And e ts us → OfTokens P ts → OfExpr P e × OfTokens P us
    and_words e ts us (and_first g) h = relational_words _ _ _ g h
    and_words e ts us (and_more p g f) h = let x = and_words _ _ _ g h in let y = relational_words _ _ _ f x.1 in ((x.0, y.0), y.1)

    bit_and_words : (e : ExprShape) (ts us : List Lexeme) → BitAnd e ts us → OfTokens P ts → OfExpr P e × OfTokens P us
    bit_and_words e ts us (bit_and_first g) h = unary_words _ _ _ g h
    bit_and_words e ts us (bit_and_more p g f) h = let x = bit_and_words _ _ _ g h in let y = unary_words _ _ _ f x.1 in ((x.0, y.0), y.1)

    bit_or_words : (e : ExprShape) (ts us : List Lexeme) → BitOr e ts us → OfTokens P ts → OfExpr P e × OfTokens P us
    bit_or_words e ts us (bit_or_first g) h = unary_words _ _ _ g h
    bit_or_words e ts us (bit_or_more p g f) h = let x = bit_or_words _ _ _ g h in let y = unary_words _ _ _ f x.1 in ((x.0, y.0), y.1)

    bit_xor_words : (e : ExprShape) (ts us : List Lexeme) → BitXor e ts us → OfTokens P ts → OfExpr P e × OfTokens P us
    bit_xor_words e ts us (bit_xor_first g) h = unary_words _ _ _ g h
    bit_xor_words e ts us (bit_xor_more p g f) h = let x = bit_xor_words _ _ _ g h in let y = unary_words _ _ _ f x.1 in ((x.0, y.0), y.1)

    relational_words : (e : ExprShape) (ts us : List Lexeme) → Relational e ts us → OfTokens P ts → OfExpr P e × OfTokens P us
    relational_words e ts us (shifted g) h = shift_words _ _ _ g h
    relational_words e ts us (less p g f) h = let x = shift_words _ _ _ g h in let y = shift_words _ _ _ f x.1 in ((x.0, y.0), y.1)
    relational_words e ts us (greater p g f) h = let x = shift_words _ _ _ g h in let y = shift_words _ _ _ f x.1 in ((x.0, y.0), y.1)
    relational_words e ts us (less_equal p g f) h = let x = shift_words _ _ _ g h in let y = shift_words _ _ _ f x.1 in ((x.0, y.0), y.1)
    relational_words e ts us (greater_equal p q n g f) h = let x = shift_words _ _ _ g h in let y = shift_words _ _ _ f x.1 in ((x.0, y.0), y.1)
    relational_words e ts us (equal p g f) h = let x = shift_words _ _ _ g h in let y = shift_words _ _ _ f x.1 in ((x.0, y.0), y.1)
    relational_words e ts us (not_equal p g f) h = let x = shift_words _ _ _ g h in let y = shift_words _ _ _ f x.1 in ((x.0, y.0), y.1)

    shift_words : (e : ExprShape) (ts us : List Lexeme) → Shift e ts us → OfTokens P ts → OfExpr P e × OfTokens P us
    shift_words e ts us (additive g) h = additive_words _ _ _ g h
    shift_words e ts us (shift_left p g f) h = let x = unary_words _ _ _ g h in let y = unary_words _ _ _ f x.1 in ((x.0, y.0), y.1)
    shift_words e ts us (shift_right p q n g f) h = let x = unary_words _ _ _ g h in let y = unary_words _ _ _ f x.1 in ((x.0, y.0), y.1)

    additive_words : (e : ExprShape) (ts us : List Lexeme) → Additive e ts us → OfTokens P ts → OfExpr P e × OfTokens P us
    additive_words e ts us (multiplicative g) h = multiplicative_words _ _ _ g h
    additive_words e ts us (add p g f) h = let x = additive_words _ _ _ g h in let y = multiplicative_words _ _ _ f x.1 in ((x.0, y.0), y.1)
    additive_words e ts us (subtract p g f) h = let x = additive_words _ _ _ g h in let y = multiplicative_words _ _ _ f x.1 in ((x.0, y.0), y.1)

    multiplicative_words : (e : ExprShape) (ts us : List Lexeme) → Multiplicative e ts us → OfTokens P ts → OfExpr P e × OfTokens P us
    multiplicative_words e ts us (unary g) h = unary_words _ _ _ g h
    multiplicative_words e ts us (multiply p g f) h = let x = multiplicative_words _ _ _ g h in let y = unary_words _ _ _ f x.1 in ((x.0, y.0), y.1)
    multiplicative_words e ts us (divide p g f) h = let x = multiplicative_words _ _ _ g h in let y = unary_words _ _ _ f x.1 in ((x.0, y.0), y.1)
    multiplicative_words e ts us (remainder p g f) h = let x = multiplicative_words _ _ _ g h in let y = unary_words _ _ _ f x.1 in ((x.0, y.0), y.1)

    unary_words : (e : ExprShape) (ts us : List Lexeme) → Unary e ts us → OfTokens P ts → OfExpr P e × OfTokens P us
    unary_words e ts us (negate p g) h = unary_words _ _ _ g h
    unary_words e ts us (not p g) h = unary_words _ _ _ g h
    unary_words e ts us (complement p g) h = unary_words _ _ _ g h
    unary_words e ts us (deref p g) h = unary_words _ _ _ g h
    unary_words e ts us (address_of p g) h = unary_words _ _ _ g h
    unary_words e ts us (operand g) h = singular_words _ _ _ g h

    singular_words : (e : ExprShape) (ts us : List Lexeme) → Singular e ts us → OfTokens P ts → OfExpr P e × OfTokens P us
    singular_words e ts us (primary g) h = primary_words _ _ _ g h
    singular_words e ts us (accessed g a) h = let x = singular_words _ _ _ g h in access_words _ _ _ _ a x.0 x.1

    access_words : (e f : ExprShape) (ts us : List Lexeme) → Access e f ts us → OfExpr P e → OfTokens P ts → OfExpr P f × OfTokens P us
    access_words e f ts us (by_name p n) d h = ((d, h.0), h.1)
    access_words e f ts us (by_index p q g) d h = let x = expression_words _ _ _ g h in ((d, x.0), x.1)

    primary_words : (e : ExprShape) (ts us : List Lexeme) → Primary e ts us → OfTokens P ts → OfExpr P e × OfTokens P us
    primary_words e ts us (called g) h = call_words _ _ _ g h
    primary_words e ts us (typed g) h = type_words _ _ _ g h
    primary_words e ts us (numeral p value suffix) h = (tt, h)
    primary_words e ts us (true_word p) h = (tt, h)
    primary_words e ts us (false_word p) h = (tt, h)
    primary_words e ts us (parens p q g) h = expression_words _ _ _ g h

    call_words : (e : ExprShape) (ts us : List Lexeme) → Call e ts us → OfTokens P ts → OfExpr P e × OfTokens P us
    call_words e ts us (calls p q g f) h = let x = type_words _ _ _ g h in let y = maybe_expressions_words _ _ _ f x.1 in ((x.0, y.0), y.1)

  mutual
    left_side_words : (e : ExprShape) (ts us : List Lexeme) → LeftSide e ts us → OfTokens P ts → OfExpr P e × OfTokens P us
    left_side_words e ts us (left_deref p g) h = left_side_words _ _ _ g h
    left_side_words e ts us (left_address_of p g) h = left_side_words _ _ _ g h
    left_side_words e ts us (left_singular g) h = left_singular_words _ _ _ g h

    left_singular_words : (e : ExprShape) (ts us : List Lexeme) → LeftSingular e ts us → OfTokens P ts → OfExpr P e × OfTokens P us
    left_singular_words e ts us (left_name p text) h = h
    left_singular_words e ts us (left_parens p q g) h = left_side_words _ _ _ g h
    left_singular_words e ts us (left_accessed g a) h = let x = left_singular_words _ _ _ g h in access_words _ _ _ _ a x.0 x.1

  name_words : (e : NameShape) (ts us : List Lexeme) → Name e ts us → OfTokens P ts → OfName P e × OfTokens P us
  name_words e ts us (name n) h = h

  attr_name_words : (e : AttrNameShape) (ts us : List Lexeme) → AttrName e ts us → OfTokens P ts → OfAttrName P e × OfTokens P us
  attr_name_words e ts us (plain_attr n) h = h
  attr_name_words e ts us (diagnostic_attr p) h = (tt, h)
  attr_name_words e ts us (const_attr p) h = (tt, h)

  attr_arguments_words : (e : ExprShapes × Bool) (ts us : List Lexeme) → AttrArguments e ts us → OfTokens P ts → OfArguments P e × OfTokens P us
  attr_arguments_words e ts us (attr_arguments p q g) h = maybe_expressions_words _ _ _ g h

  attribute_words : (e : AttrShape) (ts us : List Lexeme) → Attribute e ts us → OfTokens P ts → OfAttr P e × OfTokens P us
  attribute_words e ts us (attribute a g f) h = let x = attr_name_words _ _ _ g h in let y = maybe_words AttrArguments (OfArguments P) attr_arguments_words _ _ _ f x.1 in ((x.0, y.0), y.1)

  attrs_words : (e : List AttrShape) (ts us : List Lexeme) → Many Attribute e ts us → OfTokens P ts → OfAttrs P e × OfTokens P us
  attrs_words = many_words Attribute (OfAttr P) attribute_words

  of_type_words : (e : ExprShape) (ts us : List Lexeme) → OfType e ts us → OfTokens P ts → OfExpr P e × OfTokens P us
  of_type_words e ts us (of_type p g) h = type_words _ _ _ g h

  has_value_words : (e : ExprShape) (ts us : List Lexeme) → HasValue e ts us → OfTokens P ts → OfExpr P e × OfTokens P us
  has_value_words e ts us (has_value p g) h = expression_words _ _ _ g h

  maybe_type_words : (e : Option ExprShape) (ts us : List Lexeme) → Maybe OfType e ts us → OfTokens P ts → OfMaybe (OfExpr P) e × OfTokens P us
  maybe_type_words = maybe_words OfType (OfExpr P) of_type_words

  maybe_value_words : (e : Option ExprShape) (ts us : List Lexeme) → Maybe HasValue e ts us → OfTokens P ts → OfMaybe (OfExpr P) e × OfTokens P us
  maybe_value_words = maybe_words HasValue (OfExpr P) has_value_words

  const_words : (e : BindingShape) (ts us : List Lexeme) → Const e ts us → OfTokens P ts → OfBinding P e × OfTokens P us
  const_words e ts us (const b g f) h = let x = maybe_type_words _ _ _ g h.1 in let y = has_value_words _ _ _ f x.1 in ((h.0, (x.0, y.0)), y.1)

  comma_name_words : (e : NameShape) (ts us : List Lexeme) → CommaName e ts us → OfTokens P ts → OfName P e × OfTokens P us
  comma_name_words e ts us (comma_name p n) h = h

  mark_words : (s : Sign) (b : Bool) (ts us : List Lexeme) → MaybeMark s b ts us → OfTokens P ts → OfTokens P us
  mark_words s b ts us no_mark h = h
  mark_words s b ts us (some_mark p) h = h

  var_space_words : (e : VarSpaceShape) (ts us : List Lexeme) → VarSpace e ts us → OfTokens P ts → OfVarSpace P e × OfTokens P us
  var_space_words e ts us (var_space s p q g f) h = let x = maybe_words CommaName (OfName P) comma_name_words _ _ _ g h.1 in ((h.0, x.0), mark_words _ _ _ _ f x.1)

  var_words : (e : VarShape) (ts us : List Lexeme) → Var e ts us → OfTokens P ts → OfVar P e × OfTokens P us
  var_words e ts us (var v g f k) h = let x = maybe_words VarSpace (OfVarSpace P) var_space_words _ _ _ g h in let y = maybe_type_words _ _ _ f x.1.1 in let z = maybe_value_words _ _ _ k y.1 in ((x.0, (x.1.0, (y.0, z.0))), z.1)

  assigns_words : (o : OpAssign) (p : Place) (ts us : List Lexeme) → Assigns o p ts us → OfTokens P ts → OfTokens P us
  assigns_words o p ts us (add_assigns q) h = h
  assigns_words o p ts us (subtract_assigns q) h = h
  assigns_words o p ts us (multiply_assigns q) h = h
  assigns_words o p ts us (divide_assigns q) h = h
  assigns_words o p ts us (remainder_assigns q) h = h
  assigns_words o p ts us (bit_and_assigns q) h = h
  assigns_words o p ts us (bit_or_assigns q) h = h
  assigns_words o p ts us (bit_xor_assigns q) h = h
  assigns_words o p ts us (shift_left_assigns q) h = h
  assigns_words o p ts us (shift_right_assigns q r s m n) h = h

  update_words : (e : UpdateShape) (ts us : List Lexeme) → UpdateOf e ts us → OfTokens P ts → OfUpdate P e × OfTokens P us
  update_words e ts us (assigned p g f) h = let x = left_side_words _ _ _ g h in let y = expression_words _ _ _ f x.1 in ((x.0, y.0), y.1)
  update_words e ts us (compounded p g a f) h = let x = left_side_words _ _ _ g h in let y = expression_words _ _ _ f (assigns_words _ _ _ _ a x.1) in ((x.0, y.0), y.1)
  update_words e ts us (dropped p q g) h = expression_words _ _ _ g h
  update_words e ts us (incremented p g) h = left_side_words _ _ _ g h
  update_words e ts us (decremented p g) h = left_side_words _ _ _ g h
  update_words e ts us (called_alone g) h = call_words _ _ _ g h

  simple_words : (e : SimpleShape) (ts us : List Lexeme) → SimpleStatement e ts us → OfTokens P ts → OfSimple P e × OfTokens P us
  simple_words e ts us (simple_var g) h = var_words _ _ _ g h
  simple_words e ts us (simple_const g) h = const_words _ _ _ g h
  simple_words e ts us (simple_let b g f) h = let x = maybe_type_words _ _ _ g h.1 in let y = has_value_words _ _ _ f x.1 in ((h.0, (x.0, y.0)), y.1)
  simple_words e ts us (simple_update g) h = update_words _ _ _ g h

  selects_words : (e : SelectorShape) (ts us : List Lexeme) → Selects e ts us → OfTokens P ts → OfSelector P e × OfTokens P us
  selects_words e ts us (selects_default p) h = (tt, h)
  selects_words e ts us (selects_value g) h = expression_words _ _ _ g h

  breaks_if_words : (e : BreakIfShape) (ts us : List Lexeme) → BreaksIf e ts us → OfTokens P ts → OfBreakIf P e × OfTokens P us
  breaks_if_words e ts us (breaks_if b p g) h = expression_words _ _ _ g h

  maybe_expression_words : (e : Option ExprShape) (ts us : List Lexeme) → Maybe Expression e ts us → OfTokens P ts → OfMaybe (OfExpr P) e × OfTokens P us
  maybe_expression_words = maybe_words Expression (OfExpr P) expression_words

  mutual
    block_words : (e : BlockShape) (ts us : List Lexeme) → Block e ts us → OfTokens P ts → OfBlock P e × OfTokens P us
    block_words e ts us (block attrs p q g f) h = let x = attrs_words _ _ _ g h in let y = statements_words _ _ _ f x.1 in ((x.0, y.0), y.1)

    statements_words : (e : StmtShapes) (ts us : List Lexeme) → Statements e ts us → OfTokens P ts → OfStmts P e × OfTokens P us
    statements_words e ts us no_statement h = (tt, h)
    statements_words e ts us (more_statements g f) h = let x = statement_words _ _ _ g h in let y = statements_words _ _ _ f x.1 in ((x.0, y.0), y.1)

    statement_words : (e : StmtShape) (ts us : List Lexeme) → Statement e ts us → OfTokens P ts → OfStmt P e × OfTokens P us
    statement_words e ts us (is_empty p) h = (tt, h)
    statement_words e ts us (is_block g) h = block_words _ _ _ g h
    statement_words e ts us (is_simple p g) h = simple_words _ _ _ g h
    statement_words e ts us (is_return p q g) h = maybe_expression_words _ _ _ g h
    statement_words e ts us (is_break p q) h = (tt, h)
    statement_words e ts us (is_continue p q) h = (tt, h)
    statement_words e ts us (is_discard p q) h = (tt, h)
    statement_words e ts us (is_assert p q g) h = expression_words _ _ _ g h
    statement_words e ts us (is_if attrs p g f k l) h = let x = attrs_words _ _ _ g h in let y = expression_words _ _ _ f x.1 in let z = block_words _ _ _ k y.1 in let w = arms_words _ _ _ l z.1 in ((x.0, (y.0, (z.0, w.0))), w.1)
    statement_words e ts us (is_switch attrs p q r g f k l) h = let x = attrs_words _ _ _ g h in let y = expression_words _ _ _ f x.1 in let z = attrs_words _ _ _ k y.1 in let w = clauses_words _ _ _ l z.1 in ((x.0, (y.0, (z.0, w.0))), w.1)
    statement_words e ts us (is_loop attrs p q r g f k l) h = let x = attrs_words _ _ _ g h in let y = attrs_words _ _ _ f x.1 in let z = statements_words _ _ _ k y.1 in let w = maybe_continuing_words _ _ _ l z.1 in ((x.0, (y.0, (z.0, w.0))), w.1)
    statement_words e ts us (is_for attrs p q r s o g f k l b) h = let x = attrs_words _ _ _ g h in let y = maybe_words SimpleStatement (OfSimple P) simple_words _ _ _ f x.1 in let z = maybe_expression_words _ _ _ k y.1 in let w = maybe_words UpdateOf (OfUpdate P) update_words _ _ _ l z.1 in let v = block_words _ _ _ b w.1 in ((x.0, (y.0, (z.0, (w.0, v.0)))), v.1)
    statement_words e ts us (is_while attrs p g f k) h = let x = attrs_words _ _ _ g h in let y = expression_words _ _ _ f x.1 in let z = block_words _ _ _ k y.1 in ((x.0, (y.0, z.0)), z.1)

    arms_words : (e : ArmShapes) (ts us : List Lexeme) → Arms e ts us → OfTokens P ts → OfArms P e × OfTokens P us
    arms_words e ts us no_else h = (tt, h)
    arms_words e ts us (otherwise p g) h = block_words _ _ _ g h
    arms_words e ts us (else_if p q g f k) h = let x = expression_words _ _ _ g h in let y = block_words _ _ _ f x.1 in let z = arms_words _ _ _ k y.1 in ((x.0, (y.0, z.0)), z.1)

    clauses_words : (e : ClauseShapes) (ts us : List Lexeme) → Clauses e ts us → OfTokens P ts → OfClauses P e × OfTokens P us
    clauses_words e ts us no_clause h = (tt, h)
    clauses_words e ts us (case p g c f k) h = let x = listed_words Selects (OfSelector P) selects_words _ _ _ g h in let y = block_words _ _ _ f (mark_words _ _ _ _ c x.1) in let z = clauses_words _ _ _ k y.1 in ((x.0, (y.0, z.0)), z.1)
    clauses_words e ts us (default p c f k) h = let y = block_words _ _ _ f (mark_words _ _ _ _ c h) in let z = clauses_words _ _ _ k y.1 in ((y.0, z.0), z.1)

    maybe_continuing_words : (e : ContinuingShape) (ts us : List Lexeme) → MaybeContinuing e ts us → OfTokens P ts → OfContinuing P e × OfTokens P us
    maybe_continuing_words e ts us not_continuing h = (tt, h)
    maybe_continuing_words e ts us (continuing p q r g f k) h = let x = attrs_words _ _ _ g h in let y = statements_words _ _ _ f x.1 in let z = maybe_words BreaksIf (OfBreakIf P) breaks_if_words _ _ _ k y.1 in ((x.0, (y.0, z.0)), z.1)

  rule_words : (e : RuleShape) (ts us : List Lexeme) → RuleOf e ts us → OfTokens P ts → OfRule P e × OfTokens P us
  rule_words e ts us (rule n) h = h
  rule_words e ts us (dotted_rule m p n) h = ((h.0, h.1.0), h.1.1)

  directive_words : (e : DirectiveShape) (ts us : List Lexeme) → DirectiveOf e ts us → OfTokens P ts → OfDirective P e × OfTokens P us
  directive_words e ts us (diagnostic n p q o s x g f) h = let y = rule_words _ _ _ g h.1 in ((h.0, y.0), mark_words _ _ _ _ f y.1)
  directive_words e ts us (requires_names p q g) h = listed_words Name (OfName P) name_words _ _ _ g h
  directive_words e ts us (enables_names p q g) h = listed_words Name (OfName P) name_words _ _ _ g h

  member_words : (e : MemberShape) (ts us : List Lexeme) → MemberOf e ts us → OfTokens P ts → OfMember P e × OfTokens P us
  member_words e ts us (a_member attrs n g f) h = let x = attrs_words _ _ _ g h in let y = of_type_words _ _ _ f x.1.1 in ((x.0, (x.1.0, y.0)), y.1)

  result_words : (e : ResultShape) (ts us : List Lexeme) → ResultOf e ts us → OfTokens P ts → OfResult P e × OfTokens P us
  result_words e ts us (result r p g f) h = let x = attrs_words _ _ _ g h in let y = type_words _ _ _ f x.1 in ((x.0, y.0), y.1)

  declaration_words : (e : DeclShape) (ts us : List Lexeme) → Declaration e ts us → OfTokens P ts → OfDecl P e × OfTokens P us
  declaration_words e ts us (no_declaration p) h = (tt, h)
  declaration_words e ts us (alias n p q r g) h = let x = type_words _ _ _ g h.1 in ((h.0, x.0), x.1)
  declaration_words e ts us (constant b p g) h = const_words _ _ _ g h
  declaration_words e ts us (assertion p q g) h = expression_words _ _ _ g h
  declaration_words e ts us (struct n p q r g) h = let x = listed_words MemberOf (OfMember P) member_words _ _ _ g h.1 in ((h.0, x.0), x.1)
  declaration_words e ts us (variable attrs v p g f) h = let x = attrs_words _ _ _ g h in let y = var_words _ _ _ f x.1 in ((x.0, y.0), y.1)
  declaration_words e ts us (overridable attrs n p q g f k) h = let x = attrs_words _ _ _ g h in let y = maybe_type_words _ _ _ f x.1.1 in let z = maybe_value_words _ _ _ k y.1 in ((x.0, (x.1.0, (y.0, z.0))), z.1)
  declaration_words e ts us (function attrs n p q o g f k l) h = let x = attrs_words _ _ _ g h in let y = maybe_listed_words MemberOf (OfMember P) member_words _ _ _ f x.1.1 in let z = maybe_words ResultOf (OfResult P) result_words _ _ _ k y.1 in let w = block_words _ _ _ l z.1 in ((x.0, (x.1.0, (y.0, (z.0, w.0)))), w.1)

  pub module_words : (e : TreeShape) (ts us : List Lexeme) → Module e ts us → OfTokens P ts → OfTree P e × OfTokens P us
  module_words e ts us (whole t g f) h = let x = many_words DirectiveOf (OfDirective P) directive_words _ _ _ g h in let y = many_words Declaration (OfDecl P) declaration_words _ _ _ f x.1 in ((x.0, y.0), y.1)
