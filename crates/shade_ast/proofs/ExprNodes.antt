-- The nodes of each kind of expression, by its parts.
use Rattle.std.proofs.Common.{◌≡◌, ap, ◌∙◌, ℕ, Bool, List, [], ◌∷◌, ◌++◌}
use Rattle.shade_base.specs.declared.place.Place.{Place}
use Rattle.shade_lex.specs.declared.token.Suffix.{Suffix}
use Rattle.shade_ast.specs.declared.expr.Named.{Named}
use Rattle.shade_ast.specs.declared.expr.Infix.{Infix as InfixOperator}
use Rattle.shade_ast.specs.declared.expr.Prefix.{Prefix as PrefixOperator}
use Rattle.shade_ast.specs.declared.expr.Expr.{Expr, fold_out-Expr}
use Rattle.shade_ast.specs.declared.expr.ExprKind.{ExprKind, ExprKind-F, out-ExprKind, map-ExprKind, fold-ExprKind, fold_out-ExprKind}
use Rattle.shade_ast.specs.declared.expr.ExprKind.TheVariants as kind
use Rattle.shade_ast.specs.Nodes.{joined_of, named_nodes, kind_nodes, expr_layer_nodes, expr_nodes}

abbrev pub kind_numbers : ExprKind → List ℕ
kind_numbers = fold-ExprKind (List ℕ) (List ℕ) kind_nodes expr_layer_nodes

pub expr_numbers : (e : Expr) → expr_nodes e ≡ kind_numbers e.kind ++ e.node ∷ []
expr_numbers e = fold_out-Expr (List ℕ) (List ℕ) kind_nodes expr_layer_nodes e

numbered : (k : ExprKind) (y : ExprKind-F ExprKind Expr) → out-ExprKind k ≡ y → kind_numbers k ≡ kind_nodes (map-ExprKind ExprKind Expr (List ℕ) (List ℕ) kind_numbers expr_nodes y)
numbered k y is = fold_out-ExprKind (List ℕ) (List ℕ) kind_nodes expr_layer_nodes k ∙ ap (λ z. kind_nodes (map-ExprKind ExprKind Expr (List ℕ) (List ℕ) kind_numbers expr_nodes z)) is

pub nodes-Infix : (left : Expr) (operator : InfixOperator) (at : Place) (right : Expr) → kind_numbers (kind.Infix left operator at right) ≡ expr_nodes left ++ expr_nodes right
nodes-Infix left operator at right = numbered _ _ (kind.outs-Infix left operator at right)

pub nodes-Prefix : (operator : PrefixOperator) (operand : Expr) → kind_numbers (kind.Prefix operator operand) ≡ expr_nodes operand
nodes-Prefix operator operand = numbered _ _ (kind.outs-Prefix operator operand)

pub nodes-Member : (whole : Expr) (dot : Place) (name : Named) → kind_numbers (kind.Member whole dot name) ≡ expr_nodes whole ++ named_nodes name
nodes-Member whole dot name = numbered _ _ (kind.outs-Member whole dot name)

pub nodes-Index : (whole : Expr) (bracket : Place) (at : Expr) → kind_numbers (kind.Index whole bracket at) ≡ expr_nodes whole ++ expr_nodes at
nodes-Index whole bracket at = numbered _ _ (kind.outs-Index whole bracket at)

pub nodes-Call : (callee : Expr) (arguments : List Expr) (trailing : Bool) → kind_numbers (kind.Call callee arguments trailing) ≡ expr_nodes callee ++ joined_of expr_nodes arguments
nodes-Call callee arguments trailing = numbered _ _ (kind.outs-Call callee arguments trailing)

pub nodes-Template : (name : ℕ) (arguments : List Expr) (trailing : Bool) → kind_numbers (kind.Template name arguments trailing) ≡ joined_of expr_nodes arguments
nodes-Template name arguments trailing = numbered _ _ (kind.outs-Template name arguments trailing)

pub nodes-Name : (name : ℕ) → kind_numbers (kind.Name name) ≡ []
nodes-Name name = numbered _ _ (kind.outs-Name name)

pub nodes-Number : (value : ℕ) (suffix : Suffix) → kind_numbers (kind.Number value suffix) ≡ []
nodes-Number value suffix = numbered _ _ (kind.outs-Number value suffix)

pub nodes-True : kind_numbers kind.True ≡ []
nodes-True = numbered _ _ kind.outs-True

pub nodes-False : kind_numbers kind.False ≡ []
nodes-False = numbered _ _ kind.outs-False

pub nodes-Paren : (inner : Expr) → kind_numbers (kind.Paren inner) ≡ expr_nodes inner
nodes-Paren inner = numbered _ _ (kind.outs-Paren inner)
