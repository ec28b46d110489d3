-- The value of each kind of expression, by those of its parts.
use Rattle.std.proofs.Common.{◌≡◌, sym, ap, subst, ◌∙◌, ℕ, ◌⊎◌, inl, inr, Bool, List, map, Option, Result}
use Rattle.shade_base.specs.declared.place.Place.{Place}
use Rattle.shade_ast.specs.declared.expr.Named.{Named}
use Rattle.shade_ast.specs.declared.expr.Infix.{Infix}
use Rattle.shade_ast.specs.declared.expr.Prefix.{Prefix}
use Rattle.shade_ast.specs.declared.expr.Expr.{Expr, fold_out-Expr}
use Rattle.shade_ast.specs.declared.expr.ExprKind.{ExprKind, ExprKind-F, out-ExprKind, map-ExprKind, fold-ExprKind, fold_out-ExprKind}
use Rattle.shade_ast.specs.declared.expr.ExprKind.TheVariants as kind
use Rattle.shade_values.specs.declared.types.Scalar.{Scalar}
use Rattle.shade_values.specs.declared.value.Value.{Value}
use Rattle.shade_values.specs.declared.op.Op.{Op}
use Rattle.shade_evaluate.specs.declared.fault.ConstFault.{ConstFault}
use Rattle.shade_const.specs.declared.fact.Fact.{Fact}
use Rattle.shade_const.specs.declared.held.Held.{Held}
use Rattle.shade_const.specs.Facts.{fact_at}
use Rattle.shade_const.specs.Held.{IsHeld}
use Rattle.shade_const.specs.Constant.{Part, KindPart, kind_part, kind_value, kind_operation, expr_part, part_of, by_fact, of_operands, constant_of, operation_of}

abbrev pub kind_parts : ExprKind → KindPart
kind_parts = fold-ExprKind KindPart Part kind_part expr_part

-- a kind of expression whose parts are what they are to their values
abbrev pub Seen : Type 0
Seen = ExprKind-F KindPart Part

abbrev pub seen : ExprKind-F ExprKind Expr → Seen
seen y = map-ExprKind ExprKind Expr KindPart Part kind_parts part_of y

pub part_by : (e : Expr) (k : ExprKind) (y : ExprKind-F ExprKind Expr) → e.kind ≡ k → out-ExprKind k ≡ y → part_of e ≡ kind_part (seen y) e.node e.place
part_by e k y is out =
    fold_out-Expr KindPart Part kind_part expr_part e
    ∙ ap (λ z. kind_parts z e.node e.place) is
    ∙ ap (λ f. f e.node e.place) (fold_out-ExprKind KindPart Part kind_part expr_part k ∙ ap (λ z. kind_part (seen z)) out)

pub held_same : (a b : Result Value ConstFault) (r : Result Held ConstFault) → a ≡ b → IsHeld a r → IsHeld b r
held_same a b r e h = subst (λ x. IsHeld x r) e h

-- no literal and no parentheses
abbrev pub IsNode : ExprKind → Type 0
IsNode k =
    ((left : Expr) × (o : Infix) × (at : Place) × (right : Expr) × (k ≡ kind.Infix left o at right))
    ⊎ ((o : Prefix) × (operand : Expr) × (k ≡ kind.Prefix o operand))
    ⊎ ((whole : Expr) × (dot : Place) × (name : Named) × (k ≡ kind.Member whole dot name))
    ⊎ ((whole : Expr) × (bracket : Place) × (index : Expr) × (k ≡ kind.Index whole bracket index))
    ⊎ ((callee : Expr) × (arguments : List Expr) × (trailing : Bool) × (k ≡ kind.Call callee arguments trailing))
    ⊎ ((name : ℕ) × (arguments : List Expr) × (trailing : Bool) × (k ≡ kind.Template name arguments trailing))
    ⊎ ((name : ℕ) × (k ≡ kind.Name name))

module _ (facts : List (Option Fact)) (e : Expr) where
  -- by what is known of the node
  abbrev known : Result Value ConstFault
  known = by_fact (fact_at facts e.node) e.place (operation_of facts e)

  value_by : (m : Seen) → part_of e ≡ kind_part m e.node e.place → constant_of facts e ≡ kind_value m known facts
  value_by m is =
      ap (λ p. p.value facts) is
      ∙ ap (λ f. kind_value m (by_fact (fact_at facts e.node) e.place f) facts) (sym (ap (λ p. λ op to. p.operation op to facts) is))

  value_of : (k : ExprKind) (y : ExprKind-F ExprKind Expr) → e.kind ≡ k → out-ExprKind k ≡ y → constant_of facts e ≡ kind_value (seen y) known facts
  value_of k y is out = value_by (seen y) (part_by e k y is out)

  operation_by : (k : ExprKind) (y : ExprKind-F ExprKind Expr) → e.kind ≡ k → out-ExprKind k ≡ y → (op : Op) (to : List (Option Scalar))
      → operation_of facts e op to ≡ kind_operation (seen y) e.place op to facts
  operation_by k y is out op to = ap (λ p. p.operation op to facts) (part_by e k y is out)

  -- ---- nodes with a fact

  pub of_node : IsNode e.kind → known ≡ constant_of facts e
  of_node (inl w) = sym (value_of _ _ w.4 (kind.outs-Infix w.0 w.1 w.2 w.3))
  of_node (inr (inl w)) = sym (value_of _ _ w.2 (kind.outs-Prefix w.0 w.1))
  of_node (inr (inr (inl w))) = sym (value_of _ _ w.3 (kind.outs-Member w.0 w.1 w.2))
  of_node (inr (inr (inr (inl w)))) = sym (value_of _ _ w.3 (kind.outs-Index w.0 w.1 w.2))
  of_node (inr (inr (inr (inr (inl w))))) = sym (value_of _ _ w.3 (kind.outs-Call w.0 w.1 w.2))
  of_node (inr (inr (inr (inr (inr (inl w)))))) = sym (value_of _ _ w.3 (kind.outs-Template w.0 w.1 w.2))
  of_node (inr (inr (inr (inr (inr (inr w)))))) = sym (value_of _ _ w.1 (kind.outs-Name w.0))

  -- ---- operations

  module _ (op : Op) (to : List (Option Scalar)) where
    pub by-Call : (callee : Expr) (arguments : List Expr) (trailing : Bool) → e.kind ≡ kind.Call callee arguments trailing
        → of_operands op to (map part_of arguments) e.place facts ≡ operation_of facts e op to
    by-Call callee arguments trailing is = sym (operation_by _ _ is (kind.outs-Call callee arguments trailing) op to)
