-- The shape of each kind of expression, and how many names it needs, by its parts.
use Rattle.std.proofs.Common.{◌≡◌, ap, ◌∙◌, ℕ, ◌+◌, max, Bool, List, [], map}
use Rattle.std.specs.Prelude.{slice_index_or}
use Rattle.shade_base.specs.declared.place.Place.{Place}
use Rattle.shade_lex.specs.declared.token.Suffix.{Suffix}
use Rattle.shade_ast.specs.declared.expr.Named.{Named}
use Rattle.shade_ast.specs.declared.expr.Infix.{Infix as InfixOperator}
use Rattle.shade_ast.specs.declared.expr.Prefix.{Prefix as PrefixOperator}
use Rattle.shade_ast.specs.declared.expr.Expr.{Expr, fold_out-Expr}
use Rattle.shade_ast.specs.declared.expr.ExprKind.{ExprKind, ExprKind-F, out-ExprKind, map-ExprKind, fold-ExprKind, fold_out-ExprKind}
use Rattle.shade_ast.specs.declared.expr.ExprKind.TheVariants as kind
use Rattle.shade_ast.specs.Shapes.{ExprShape, infixed, prefixed, member, index, call, template, named, number, truth, falsity, paren}
use Rattle.shade_ast.specs.Shaped.{name_shape, expr_shapes, kind_step, expr_step, expr_shape}
use Rattle.shade_ast.specs.Needs.{most_of, named_needs, kind_needs, expr_layer_needs, expr_needs}

-- what an expression is, at its place
abbrev pub kind_shape : List (List ℕ) → ExprKind → Place → ExprShape
kind_shape names = fold-ExprKind (Place → ExprShape) ExprShape (kind_step names) expr_step

abbrev pub kind_count : ExprKind → ℕ
kind_count = fold-ExprKind ℕ ℕ kind_needs expr_layer_needs

pub expr_is : (names : List (List ℕ)) (e : Expr) → expr_shape names e ≡ kind_shape names e.kind e.place
expr_is names e = fold_out-Expr (Place → ExprShape) ExprShape (kind_step names) expr_step e

pub expr_count : (e : Expr) → expr_needs e ≡ kind_count e.kind
expr_count e = fold_out-Expr ℕ ℕ kind_needs expr_layer_needs e

module _ (names : List (List ℕ)) (place : Place) where
  layer : (k : ExprKind) (y : ExprKind-F ExprKind Expr) → out-ExprKind k ≡ y → kind_shape names k place ≡ kind_step names (map-ExprKind ExprKind Expr (Place → ExprShape) ExprShape (kind_shape names) (expr_shape names) y) place
  layer k y is = ap (λ f. f place) (fold_out-ExprKind (Place → ExprShape) ExprShape (kind_step names) expr_step k ∙ ap (λ z. kind_step names (map-ExprKind ExprKind Expr (Place → ExprShape) ExprShape (kind_shape names) (expr_shape names) z)) is)

  pub shape-Infix : (left : Expr) (operator : InfixOperator) (at : Place) (right : Expr) → kind_shape names (kind.Infix left operator at right) place ≡ infixed place (expr_shape names left) operator at (expr_shape names right)
  shape-Infix left operator at right = layer _ _ (kind.outs-Infix left operator at right)

  pub shape-Prefix : (operator : PrefixOperator) (operand : Expr) → kind_shape names (kind.Prefix operator operand) place ≡ prefixed place operator (expr_shape names operand)
  shape-Prefix operator operand = layer _ _ (kind.outs-Prefix operator operand)

  pub shape-Member : (whole : Expr) (dot : Place) (name : Named) → kind_shape names (kind.Member whole dot name) place ≡ member place (expr_shape names whole) dot (name_shape names name)
  shape-Member whole dot name = layer _ _ (kind.outs-Member whole dot name)

  pub shape-Index : (whole : Expr) (bracket : Place) (at : Expr) → kind_shape names (kind.Index whole bracket at) place ≡ index place (expr_shape names whole) bracket (expr_shape names at)
  shape-Index whole bracket at = layer _ _ (kind.outs-Index whole bracket at)

  pub shape-Call : (callee : Expr) (arguments : List Expr) (trailing : Bool) → kind_shape names (kind.Call callee arguments trailing) place ≡ call place (expr_shape names callee) (expr_shapes (map (expr_shape names) arguments)) trailing
  shape-Call callee arguments trailing = layer _ _ (kind.outs-Call callee arguments trailing)

  pub shape-Template : (name : ℕ) (arguments : List Expr) (trailing : Bool) → kind_shape names (kind.Template name arguments trailing) place ≡ template place (slice_index_or names name []) (expr_shapes (map (expr_shape names) arguments)) trailing
  shape-Template name arguments trailing = layer _ _ (kind.outs-Template name arguments trailing)

  pub shape-Name : (name : ℕ) → kind_shape names (kind.Name name) place ≡ named place (slice_index_or names name [])
  shape-Name name = layer _ _ (kind.outs-Name name)

  pub shape-Number : (value : ℕ) (suffix : Suffix) → kind_shape names (kind.Number value suffix) place ≡ number place value suffix
  shape-Number value suffix = layer _ _ (kind.outs-Number value suffix)

  pub shape-True : kind_shape names kind.True place ≡ truth place
  shape-True = layer _ _ kind.outs-True

  pub shape-False : kind_shape names kind.False place ≡ falsity place
  shape-False = layer _ _ kind.outs-False

  pub shape-Paren : (inner : Expr) → kind_shape names (kind.Paren inner) place ≡ paren place (expr_shape names inner)
  shape-Paren inner = layer _ _ (kind.outs-Paren inner)

counted : (k : ExprKind) (y : ExprKind-F ExprKind Expr) → out-ExprKind k ≡ y → kind_count k ≡ kind_needs (map-ExprKind ExprKind Expr ℕ ℕ kind_count expr_needs y)
counted k y is = fold_out-ExprKind ℕ ℕ kind_needs expr_layer_needs k ∙ ap (λ z. kind_needs (map-ExprKind ExprKind Expr ℕ ℕ kind_count expr_needs z)) is

pub needs-Infix : (left : Expr) (operator : InfixOperator) (at : Place) (right : Expr) → kind_count (kind.Infix left operator at right) ≡ max (expr_needs left) (expr_needs right)
needs-Infix left operator at right = counted _ _ (kind.outs-Infix left operator at right)

pub needs-Prefix : (operator : PrefixOperator) (operand : Expr) → kind_count (kind.Prefix operator operand) ≡ expr_needs operand
needs-Prefix operator operand = counted _ _ (kind.outs-Prefix operator operand)

pub needs-Member : (whole : Expr) (dot : Place) (name : Named) → kind_count (kind.Member whole dot name) ≡ max (expr_needs whole) (named_needs name)
needs-Member whole dot name = counted _ _ (kind.outs-Member whole dot name)

pub needs-Index : (whole : Expr) (bracket : Place) (at : Expr) → kind_count (kind.Index whole bracket at) ≡ max (expr_needs whole) (expr_needs at)
needs-Index whole bracket at = counted _ _ (kind.outs-Index whole bracket at)

pub needs-Call : (callee : Expr) (arguments : List Expr) (trailing : Bool) → kind_count (kind.Call callee arguments trailing) ≡ max (expr_needs callee) (most_of expr_needs arguments)
needs-Call callee arguments trailing = counted _ _ (kind.outs-Call callee arguments trailing)

pub needs-Template : (name : ℕ) (arguments : List Expr) (trailing : Bool) → kind_count (kind.Template name arguments trailing) ≡ max (name + 1) (most_of expr_needs arguments)
needs-Template name arguments trailing = counted _ _ (kind.outs-Template name arguments trailing)

pub needs-Name : (name : ℕ) → kind_count (kind.Name name) ≡ name + 1
needs-Name name = counted _ _ (kind.outs-Name name)

pub needs-Number : (value : ℕ) (suffix : Suffix) → kind_count (kind.Number value suffix) ≡ 0
needs-Number value suffix = counted _ _ (kind.outs-Number value suffix)

pub needs-True : kind_count kind.True ≡ 0
needs-True = counted _ _ kind.outs-True

pub needs-False : kind_count kind.False ≡ 0
needs-False = counted _ _ kind.outs-False

pub needs-Paren : (inner : Expr) → kind_count (kind.Paren inner) ≡ expr_needs inner
needs-Paren inner = counted _ _ (kind.outs-Paren inner)
