use Rattle.std.proofs.Common.{arith}
use Rattle.shade_ast.specs.Repeats.{Many}
use Rattle.shade_ast.specs.Statements.{Attribute}
use Rattle.shade_ast.proofs.ShapeLaws.{grows_trans}
use Rattle.shade_cursor.specs.Shown.{lexemes}
use Rattle.shade_parse_expr.proofs.Turns.{errs, fault_on}
use Rattle.shade_parse_simple.proofs.AttributeLaws.{attributes_fail}
use Rattle.shade_parse_simple.proofs.AttributeTrees.{attrs_tree, attr_turn}
use Rattle.shade_parse_simple.proofs.attributes.attributes.Goals as goal

pub returns-in_err-attr-clause-tree : goal.returns-in_err-attr-clause-tree
returns-in_err-attr-clause-tree c = errs _ c.in_err-attr.field-0.0 _ _ c.from_residual.ensures.1
    (fault_on (Many Attribute) Attribute 8 1 (lexemes c.args.pieces.now) c.args.names.now c.attrs.names _ c.args.from c.attrs.at c.in_err-attr.field-0.0 c.attrs.invariant.few
    (λ to f. attributes_fail c.attrs.invariant.stage _ c.in-Some.ensures.value f) c.in_err-attr.ensures.tree)

pub attrs-preserved : goal.attrs-preserved
attrs-preserved c = attr_turn c.attrs.invariant c.push.new.items c.in_ok-attr.ensures.grows c.in-Some.ensures.value c.in_ok-attr.ensures.tree c.in_ok-push.ensures c.in_ok-attr.ensures.went.further c.in_ok-attr.ensures.went.within c.in_ok-attr.ensures.went.numbered c.in_ok-attr.ensures.went.few

pub returns-clause-tree : goal.returns-clause-tree
returns-clause-tree c = attrs_tree c.attrs.invariant c.in_default.ensures.value

pub returns-in_err-attr-clause-grows : goal.returns-in_err-attr-clause-grows
returns-in_err-attr-clause-grows c = grows_trans _ _ _ c.attrs.invariant.grows c.in_err-attr.ensures.grows

pub returns-in_err-push-clause-grows : goal.returns-in_err-push-clause-grows
returns-in_err-push-clause-grows c = grows_trans _ _ _ c.attrs.invariant.grows c.in_ok-attr.ensures.grows

pub attribute-requires : goal.attribute-requires
attribute-requires c = record {
  can = record {
    within = omega (arith, c.attrs.invariant.within);
    numbered = omega (arith, c.attrs.invariant.numbered);
    few = omega (arith, c.attrs.invariant.few);
  };
}
