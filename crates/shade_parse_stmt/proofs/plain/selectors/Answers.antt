use Rattle.std.proofs.Common.{length, arith}
use Rattle.std.proofs.lemmas.List.{length-map}
use Rattle.shade_ast.specs.Repeats.{Listed}
use Rattle.shade_ast.specs.Statements.{Selects}
use Rattle.shade_parse_stmt.specs.Follows.{Above, Selected}
use Rattle.shade_ast.proofs.ShapeLaws.{grows_trans}
use Rattle.shade_cursor.specs.Shown.{lexeme, lexemes}
use Rattle.shade_parse_stmt.proofs.Handing.{errs, fault_by}
use Rattle.shade_parse_stmt.proofs.SelectorsLaws.{selectors_begin, selectors_fail, selectors_last, selectors_comma_last, selectors_more}
use Rattle.shade_parse_stmt.proofs.plain.selectors.Goals as goal

pub list-init : goal.list-init
list-init c = selectors_begin (lexemes c.args.pieces.now) (length c.args.pieces.now) c.args.from (omega (arith, length-map c.args.pieces.now lexeme, c.requires.can.within)) c.args.names.now c.args.node c.requires.can.within _ c.new-items.ensures

pub returns-in_err-item-clause-tree : goal.returns-in_err-item-clause-tree
returns-in_err-item-clause-tree c = errs _ c.in_err-item.field-0.0 _ _ c.from_residual.ensures.1
    (fault_by (Listed Selects) Selects Selected (Above 7) (lexemes c.args.pieces.now) c.args.names.now c.list.names _ c.args.from c.list.at c.in_err-item.field-0.0 c.list.invariant.few
    (λ to x. selectors_fail (lexemes c.args.pieces.now) (length c.args.pieces.now) c.args.from c.args.names.now c.list.names c.args.node c.list.items c.list.at c.list.next c.list.invariant
    to x) c.in_err-item.ensures.tree)

pub returns-in_default-clause-tree : goal.returns-in_default-clause-tree
returns-in_default-clause-tree c = selectors_last (lexemes c.args.pieces.now) (length c.args.pieces.now) c.args.from c.args.names.now c.list.names c.args.node c.list.items c.list.at
    c.list.next c.list.invariant c.selector.new.names c.in_ok-item.ensures.grows c.in_ok-item.item c.in_ok-item.ensures.tree c.push_selector.new.items c.in_ok-push_selector.ensures
    (λ p is. c.in_default.ensures.value p is)

pub returns-then-ends_selectors-clause-tree : goal.returns-then-ends_selectors-clause-tree
returns-then-ends_selectors-clause-tree c = selectors_comma_last (lexemes c.args.pieces.now) (length c.args.pieces.now) c.args.from c.args.names.now c.list.names c.args.node c.list.items
    c.list.at c.list.next c.list.invariant c.selector.new.names c.in_ok-item.ensures.grows c.in_ok-item.item c.in_ok-item.ensures.tree c.push_selector.new.items c.in_ok-push_selector.ensures
    _ c.in-Some.ensures.value c.if-ends_selectors.ensures.value

pub list-preserved : goal.list-preserved
list-preserved c = selectors_more (lexemes c.args.pieces.now) (length c.args.pieces.now) c.args.from c.args.names.now c.list.names c.args.node c.list.items c.list.at c.list.next
    c.list.invariant c.selector.new.names c.in_ok-item.ensures.grows c.in_ok-item.item c.in_ok-item.ensures.tree c.push_selector.new.items c.in_ok-push_selector.ensures _
    c.in-Some.ensures.value c.if-ends_selectors.ensures.value c.in-Some.ensures.within c.in_ok-item.ensures.went.numbered c.in_ok-item.ensures.went.few

pub returns-in_err-item-clause-grows : goal.returns-in_err-item-clause-grows
returns-in_err-item-clause-grows c = grows_trans _ _ _ c.list.invariant.grows c.in_err-item.ensures.grows

pub returns-in_err-push_selector-clause-grows : goal.returns-in_err-push_selector-clause-grows
returns-in_err-push_selector-clause-grows c = grows_trans _ _ _ c.list.invariant.grows c.in_ok-item.ensures.grows

pub returns-in_default-clause-grows : goal.returns-in_default-clause-grows
returns-in_default-clause-grows c = grows_trans _ _ _ c.list.invariant.grows c.in_ok-item.ensures.grows

pub returns-then-ends_selectors-clause-grows : goal.returns-then-ends_selectors-clause-grows
returns-then-ends_selectors-clause-grows c = grows_trans _ _ _ c.list.invariant.grows c.in_ok-item.ensures.grows

pub selector-requires : goal.selector-requires
selector-requires c = record {
  can = record {
    within = omega (arith, c.list.invariant.within);
    numbered = omega (arith, c.list.invariant.numbered);
    few = omega (arith, c.list.invariant.few);
  };
}

pub returns-in_default-clause-went : goal.returns-in_default-clause-went
returns-in_default-clause-went c = record {
  further = omega (arith, c.list.invariant.past, c.in_ok-item.ensures.went.further);
  within = omega (arith, c.in_ok-item.ensures.went.within);
  numbered = omega (arith, c.list.invariant.numbered, c.in_ok-item.ensures.went.numbered);
  few = omega (arith, c.list.invariant.few, c.in_ok-item.ensures.went.few);
}

pub returns-then-ends_selectors-clause-went : goal.returns-then-ends_selectors-clause-went
returns-then-ends_selectors-clause-went c = record {
  further = omega (arith, c.list.invariant.past, c.in_ok-item.ensures.went.further);
  within = omega (arith, c.in-Some.ensures.within);
  numbered = omega (arith, c.list.invariant.numbered, c.in_ok-item.ensures.went.numbered);
  few = omega (arith, c.list.invariant.few, c.in_ok-item.ensures.went.few);
}
