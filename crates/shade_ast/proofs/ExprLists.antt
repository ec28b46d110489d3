-- Lists of expressions and of statements, which stand in the grammar's cycles, are lists like all others.
use Rattle.std.proofs.Common.{◌≡◌, refl, ap, Bool, List, [], ◌∷◌}
use Rattle.shade_ast.specs.Lexemes.{Lexeme}
use Rattle.shade_ast.specs.Shapes.{ExprShape, ExprShapes, no_exprs, exprs, StmtShape, StmtShapes, no_stmts, stmts}
use Rattle.shade_ast.specs.Shaped.{expr_shapes, stmt_shapes}
use Rattle.shade_ast.specs.Repeats.{Listed, last, last_comma, comma, MaybeListed, nothing, something, Many, no_more, more}
use Rattle.shade_ast.specs.Expressions.{Expression, Expressions, last_expr, last_expr_comma, more_exprs, MaybeExpressions, no_expr, some_exprs}
use Rattle.shade_ast.specs.Statements.{Statement, Statements, no_statement, more_statements}

abbrev pub expr_list : ExprShapes → List ExprShape
expr_list no_exprs = []
expr_list (exprs e es) = e ∷ expr_list es

pub expr_list_back : (es : ExprShapes) → expr_shapes (expr_list es) ≡ es
expr_list_back no_exprs = refl
expr_list_back (exprs e es) = ap (exprs e) (expr_list_back es)

pub expr_shapes_back : (l : List ExprShape) → expr_list (expr_shapes l) ≡ l
expr_shapes_back [] = refl
expr_shapes_back (e ∷ l) = ap (λ x. e ∷ x) (expr_shapes_back l)

pub exprs_there : (r : ExprShapes × Bool) (ts w : List Lexeme) → Expressions r ts w → Listed Expression (expr_list r.0, r.1) ts w
exprs_there r ts w (last_expr g) = last g
exprs_there r ts w (last_expr_comma p g) = last_comma p g
exprs_there r ts w (more_exprs {es = es} {trailing = trailing} p {us = us} g l) = comma p g (exprs_there (es, trailing) us w l)

pub exprs_here : (r : List ExprShape × Bool) (ts w : List Lexeme) → Listed Expression r ts w → Expressions (expr_shapes r.0, r.1) ts w
exprs_here r ts w (last g) = last_expr g
exprs_here r ts w (last_comma p g) = last_expr_comma p g
exprs_here r ts w (comma {rs = rs} {trailing = trailing} p {us = us} g l) = more_exprs p g (exprs_here (rs, trailing) us w l)

pub maybe_exprs_there : (r : ExprShapes × Bool) (ts w : List Lexeme) → MaybeExpressions r ts w → MaybeListed Expression (expr_list r.0, r.1) ts w
maybe_exprs_there r ts w no_expr = nothing
maybe_exprs_there r ts w (some_exprs l) = something (exprs_there r ts w l)

pub maybe_exprs_here : (r : List ExprShape × Bool) (ts w : List Lexeme) → MaybeListed Expression r ts w → MaybeExpressions (expr_shapes r.0, r.1) ts w
maybe_exprs_here r ts w nothing = no_expr
maybe_exprs_here r ts w (something l) = some_exprs (exprs_here r ts w l)

abbrev pub stmt_list : StmtShapes → List StmtShape
stmt_list no_stmts = []
stmt_list (stmts s ss) = s ∷ stmt_list ss

pub stmt_list_back : (ss : StmtShapes) → stmt_shapes (stmt_list ss) ≡ ss
stmt_list_back no_stmts = refl
stmt_list_back (stmts s ss) = ap (stmts s) (stmt_list_back ss)

pub stmt_shapes_back : (l : List StmtShape) → stmt_list (stmt_shapes l) ≡ l
stmt_shapes_back [] = refl
stmt_shapes_back (s ∷ l) = ap (λ x. s ∷ x) (stmt_shapes_back l)

pub stmts_there : (ss : StmtShapes) (ts w : List Lexeme) → Statements ss ts w → Many Statement (stmt_list ss) ts w
stmts_there ss ts w no_statement = no_more
stmts_there ss ts w (more_statements {ss = others} {us = us} g l) = more g (stmts_there others us w l)

pub stmts_here : (l : List StmtShape) (ts w : List Lexeme) → Many Statement l ts w → Statements (stmt_shapes l) ts w
stmts_here l ts w no_more = no_statement
stmts_here l ts w (more {rs = others} {us = us} g m) = more_statements g (stmts_here others us w m)
