-- What is true of each word in a shape, and of each word among some tokens.
use Rattle.std.proofs.Common.{ℕ, Bool, List, [], ◌∷◌, Option, None, Some}
use Rattle.shade_ast.specs.Lexemes.{Lexeme, Word, Key, Number, Mark, Stray}
use Rattle.shade_ast.specs.Shapes.{NameShape, ExprShape, ExprShapes, infixed, prefixed, member, index, call, template, named, number, truth, falsity, paren, no_exprs, exprs}
use Rattle.shade_ast.specs.Shapes.{AttrNameShape, attr_name, attr_diagnostic, attr_const, AttrShape, VarSpaceShape, VarShape, BindingShape, UpdateShape, assign, compound, phony, increment, decrement, call_alone}
use Rattle.shade_ast.specs.Shapes.{SimpleShape, var_simple, const_simple, let_simple, update_simple, SelectorShape, default_selector, value_selector, BreakIfShape}
use Rattle.shade_ast.specs.Shapes.{StmtShape, empty_stmt, block_stmt, simple_stmt, return_stmt, break_stmt, continue_stmt, discard_stmt, assert_stmt, if_stmt, switch_stmt, loop_stmt, for_stmt, while_stmt}
use Rattle.shade_ast.specs.Shapes.{StmtShapes, no_stmts, stmts, BlockShape, braces, ArmShapes, no_arms, else_arm, else_if_arm, ClauseShapes, no_clauses, case_clause, default_clause, ContinuingShape, no_continuing, continuing_part}
use Rattle.shade_ast.specs.Shapes.{MemberShape, ResultShape, DeclShape, empty_decl, alias_decl, const_decl, assert_decl, struct_decl, var_decl, override_decl, fn_decl, RuleShape, plain_rule, scoped_rule, DirectiveShape, diagnostic_directive, requires_directive, enable_directive, TreeShape}

abbrev pub OfMaybe : {A : Type 0} → (A → Type 0) → Option A → Type 0
OfMaybe F None = Unit {0}
OfMaybe F (Some a) = F a

abbrev pub OfList : {A : Type 0} → (A → Type 0) → List A → Type 0
OfList F [] = Unit {0}
OfList F (a ∷ l) = F a × OfList F l

module _ (P : List ℕ → Type 0) where
  abbrev pub OfTokens : List Lexeme → Type 0
  OfTokens [] = Unit {0}
  OfTokens (Word text place ∷ ts) = P text × OfTokens ts
  OfTokens (Key keyword place ∷ ts) = OfTokens ts
  OfTokens (Number value suffix place ∷ ts) = OfTokens ts
  OfTokens (Mark found place ∷ ts) = OfTokens ts
  OfTokens (Stray place ∷ ts) = OfTokens ts

  abbrev pub OfName : NameShape → Type 0
  OfName n = P n.text

  abbrev mutual
    pub OfExpr : ExprShape → Type 0
    OfExpr (infixed place left operator at right) = OfExpr left × OfExpr right
    OfExpr (prefixed place operator operand) = OfExpr operand
    OfExpr (member place whole dot name) = OfExpr whole × P name.text
    OfExpr (index place whole bracket at) = OfExpr whole × OfExpr at
    OfExpr (call place callee arguments trailing) = OfExpr callee × OfExprs arguments
    OfExpr (template place text arguments trailing) = P text × OfExprs arguments
    OfExpr (named place text) = P text
    OfExpr (number place value suffix) = Unit {0}
    OfExpr (truth place) = Unit {0}
    OfExpr (falsity place) = Unit {0}
    OfExpr (paren place inner) = OfExpr inner

    pub OfExprs : ExprShapes → Type 0
    OfExprs no_exprs = Unit {0}
    OfExprs (exprs first others) = OfExpr first × OfExprs others

  abbrev pub OfAttrName : AttrNameShape → Type 0
  OfAttrName (attr_name n) = OfName n
  OfAttrName (attr_diagnostic place) = Unit {0}
  OfAttrName (attr_const place) = Unit {0}

  abbrev pub OfArguments : ExprShapes × Bool → Type 0
  OfArguments a = OfExprs a.0

  abbrev pub OfAttr : AttrShape → Type 0
  OfAttr a = OfAttrName a.name × OfMaybe OfArguments a.arguments

  abbrev pub OfAttrs : List AttrShape → Type 0
  OfAttrs = OfList OfAttr

  abbrev pub OfVarSpace : VarSpaceShape → Type 0
  OfVarSpace s = OfName s.space × OfMaybe OfName s.access

  abbrev pub OfVar : VarShape → Type 0
  OfVar v = OfMaybe OfVarSpace v.space × (OfName v.name × (OfMaybe OfExpr v.ty × OfMaybe OfExpr v.value))

  abbrev pub OfBinding : BindingShape → Type 0
  OfBinding b = OfName b.name × (OfMaybe OfExpr b.ty × OfExpr b.value)

  abbrev pub OfUpdate : UpdateShape → Type 0
  OfUpdate (assign target at value) = OfExpr target × OfExpr value
  OfUpdate (compound target operator at value) = OfExpr target × OfExpr value
  OfUpdate (phony underscore at value) = OfExpr value
  OfUpdate (increment target at) = OfExpr target
  OfUpdate (decrement target at) = OfExpr target
  OfUpdate (call_alone callee) = OfExpr callee

  abbrev pub OfSimple : SimpleShape → Type 0
  OfSimple (var_simple variable) = OfVar variable
  OfSimple (const_simple constant) = OfBinding constant
  OfSimple (let_simple bound) = OfBinding bound
  OfSimple (update_simple update) = OfUpdate update

  abbrev pub OfSelector : SelectorShape → Type 0
  OfSelector (default_selector place) = Unit {0}
  OfSelector (value_selector value) = OfExpr value

  abbrev pub OfBreakIf : BreakIfShape → Type 0
  OfBreakIf b = OfExpr b.condition

  abbrev mutual
    pub OfStmt : StmtShape → Type 0
    OfStmt (empty_stmt place) = Unit {0}
    OfStmt (block_stmt place block) = OfBlock block
    OfStmt (simple_stmt place simple) = OfSimple simple
    OfStmt (return_stmt place value) = OfMaybe OfExpr value
    OfStmt (break_stmt place) = Unit {0}
    OfStmt (continue_stmt place) = Unit {0}
    OfStmt (discard_stmt place) = Unit {0}
    OfStmt (assert_stmt place condition) = OfExpr condition
    OfStmt (if_stmt place attrs keyword condition first arms) = OfAttrs attrs × (OfExpr condition × (OfBlock first × OfArms arms))
    OfStmt (switch_stmt place attrs keyword selector inner clauses end) = OfAttrs attrs × (OfExpr selector × (OfAttrs inner × OfClauses clauses))
    OfStmt (loop_stmt place attrs keyword inner body continuing end) = OfAttrs attrs × (OfAttrs inner × (OfStmts body × OfContinuing continuing))
    OfStmt (for_stmt place attrs keyword initial condition update body) = OfAttrs attrs × (OfMaybe OfSimple initial × (OfMaybe OfExpr condition × (OfMaybe OfUpdate update × OfBlock body)))
    OfStmt (while_stmt place attrs keyword condition body) = OfAttrs attrs × (OfExpr condition × OfBlock body)

    pub OfStmts : StmtShapes → Type 0
    OfStmts no_stmts = Unit {0}
    OfStmts (stmts first others) = OfStmt first × OfStmts others

    pub OfBlock : BlockShape → Type 0
    OfBlock (braces place attrs body end) = OfAttrs attrs × OfStmts body

    pub OfArms : ArmShapes → Type 0
    OfArms no_arms = Unit {0}
    OfArms (else_arm keyword body) = OfBlock body
    OfArms (else_if_arm else_keyword if_keyword condition body others) = OfExpr condition × (OfBlock body × OfArms others)

    pub OfClauses : ClauseShapes → Type 0
    OfClauses no_clauses = Unit {0}
    OfClauses (case_clause keyword selectors trailing colon body others) = OfList OfSelector selectors × (OfBlock body × OfClauses others)
    OfClauses (default_clause keyword colon body others) = OfBlock body × OfClauses others

    pub OfContinuing : ContinuingShape → Type 0
    OfContinuing no_continuing = Unit {0}
    OfContinuing (continuing_part keyword attrs body leave end) = OfAttrs attrs × (OfStmts body × OfMaybe OfBreakIf leave)

  abbrev pub OfMember : MemberShape → Type 0
  OfMember m = OfAttrs m.attrs × (OfName m.name × OfExpr m.ty)

  abbrev pub OfResult : ResultShape → Type 0
  OfResult r = OfAttrs r.attrs × OfExpr r.ty

  abbrev pub OfDecl : DeclShape → Type 0
  OfDecl (empty_decl place) = Unit {0}
  OfDecl (alias_decl place name ty) = OfName name × OfExpr ty
  OfDecl (const_decl place constant) = OfBinding constant
  OfDecl (assert_decl place condition) = OfExpr condition
  OfDecl (struct_decl place name members trailing end) = OfName name × OfList OfMember members
  OfDecl (var_decl place attrs variable) = OfAttrs attrs × OfVar variable
  OfDecl (override_decl place attrs keyword name ty value) = OfAttrs attrs × (OfName name × (OfMaybe OfExpr ty × OfMaybe OfExpr value))
  OfDecl (fn_decl place attrs keyword name params trailing result body) = OfAttrs attrs × (OfName name × (OfList OfMember params × (OfMaybe OfResult result × OfBlock body)))

  abbrev pub OfRule : RuleShape → Type 0
  OfRule (plain_rule name) = OfName name
  OfRule (scoped_rule scope dot name) = OfName scope × OfName name

  abbrev pub OfDirective : DirectiveShape → Type 0
  OfDirective (diagnostic_directive place severity rule trailing) = OfName severity × OfRule rule
  OfDirective (requires_directive place names trailing) = OfList OfName names
  OfDirective (enable_directive place names trailing) = OfList OfName names

  abbrev pub OfTree : TreeShape → Type 0
  OfTree t = OfList OfDirective t.directives × OfList OfDecl t.decls
