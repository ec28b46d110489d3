use Rattle.std.proofs.Common.{sym, subst, arith, ap, ◌≡◌, ◌+◌}
use Rattle.shade_ast.specs.declared.lexeme.Sign.TheVariants as sign
use Rattle.shade_ast.specs.Repeats.{Listed}
use Rattle.shade_ast.specs.Statements.{Name}
use Rattle.shade_parse.specs.Rests.{Enclosed}
use Rattle.shade_ast.proofs.ShapeLaws.{grows_trans}
use Rattle.shade_cursor.specs.Shown.{lexemes}
use Rattle.shade_parse_expr.proofs.Turns.{errs, fault_on, fails_here}
use Rattle.shade_parse_simple.proofs.Faulty.{within}
use Rattle.shade_parse_simple.proofs.Widens.{named_keeps}
use Rattle.shade_parse.specs.Parts.{enclosed_seen}
use Rattle.shade_parse_simple.specs.Readings.{named_seen, ReadsOf}
use Rattle.shade_parse.proofs.ListTurns.{list_first, list_fails, list_close, list_stuck, list_comma_close, list_more}
use Rattle.shade_parse.proofs.MemberLaws.{names_listed}
use Rattle.shade_parse.proofs.members.name_list.Goals as goal

pub items-init : goal.items-init
items-init c = list_first names_listed c.new-items.ensures (within c.args.pieces.now c.args.from c.requires.can.within) c.requires.can.within

pub returns-in_err-item-clause-tree : goal.returns-in_err-item-clause-tree
returns-in_err-item-clause-tree c = errs _ c.in_err-item.field-0.0 _ _ c.from_residual.ensures.1
    (fault_on (Enclosed (Listed Name) sign.Semicolon) Name 0 0 (lexemes c.args.pieces.now) c.args.names.now c.items.names _ c.args.from c.items.at c.in_err-item.field-0.0
    c.items.invariant.few (λ to f. list_fails names_listed c.items.invariant f) c.in_err-item.ensures.tree)

pub returns-in-Some-clause-tree : goal.returns-in-Some-clause-tree
returns-in-Some-clause-tree c = subst
    (λ r. ReadsOf (enclosed_seen named_seen) (Enclosed (Listed Name) sign.Semicolon) 0 (lexemes c.args.pieces.now) c.name.new.names c.args.from c.args.node r) (sym c.closed_list.ensures)
    (list_close names_listed c.items.invariant named_keeps c.push.new.items c.in_ok-item.ensures.grows c.in_ok-item.ensures.tree c.in_ok-push.ensures c.in-Some.ensures.value)

pub returns-in_default-mark_at-clause-tree : goal.returns-in_default-mark_at-clause-tree
returns-in_default-mark_at-clause-tree c = fails_here (Enclosed (Listed Name) sign.Semicolon) 0 (lexemes c.args.pieces.now) c.args.names.now _ c.args.from c.in_ok-item.item.end
    (omega (arith, c.items.invariant.few, c.in_ok-item.ensures.went.few))
    (list_stuck names_listed c.items.invariant named_keeps c.push.new.items c.in_ok-item.ensures.grows c.in_ok-item.ensures.tree c.in_ok-push.ensures c.in_default.ensures.value
    c.in_default-mark_at.ensures.value)

pub returns-in-Some-mark_at-2-clause-tree : goal.returns-in-Some-mark_at-2-clause-tree
returns-in-Some-mark_at-2-clause-tree c = subst
    (λ r. ReadsOf (enclosed_seen named_seen) (Enclosed (Listed Name) sign.Semicolon) 0 (lexemes c.args.pieces.now) c.name.new.names c.args.from c.args.node r)
    (sym c.closed_list-in-Some-mark_at-2.ensures)
    (list_comma_close names_listed c.items.invariant named_keeps c.push.new.items c.in_ok-item.ensures.grows c.in_ok-item.ensures.tree c.in_ok-push.ensures c.in_default.ensures.value
    c.in-Some-mark_at.ensures.value c.in-Some-mark_at-2.ensures.value)

pub items-preserved : goal.items-preserved
items-preserved c = list_more names_listed c.items.invariant named_keeps c.push.new.items c.in_ok-item.ensures.grows c.in_ok-item.ensures.tree c.in_ok-push.ensures c.in_default.ensures.value
    c.in-Some-mark_at.ensures.value c.in_default-mark_at-2.ensures.value c.in_ok-item.ensures.went.further (omega (arith, c.in-Some-mark_at.ensures.within)) c.in_ok-item.ensures.went.numbered
    c.in_ok-item.ensures.went.few

pub returns-in_err-item-clause-grows : goal.returns-in_err-item-clause-grows
returns-in_err-item-clause-grows c = grows_trans _ _ _ c.items.invariant.grows c.in_err-item.ensures.grows

pub returns-in_err-push-clause-grows : goal.returns-in_err-push-clause-grows
returns-in_err-push-clause-grows c = grows_trans _ _ _ c.items.invariant.grows c.in_ok-item.ensures.grows

pub returns-in-Some-clause-grows : goal.returns-in-Some-clause-grows
returns-in-Some-clause-grows c = grows_trans _ _ _ c.items.invariant.grows c.in_ok-item.ensures.grows

pub returns-in_default-mark_at-clause-grows : goal.returns-in_default-mark_at-clause-grows
returns-in_default-mark_at-clause-grows c = grows_trans _ _ _ c.items.invariant.grows c.in_ok-item.ensures.grows

pub returns-in-Some-mark_at-2-clause-grows : goal.returns-in-Some-mark_at-2-clause-grows
returns-in-Some-mark_at-2-clause-grows c = grows_trans _ _ _ c.items.invariant.grows c.in_ok-item.ensures.grows

pub name-requires : goal.name-requires
name-requires c = record {
  can = record {
    within = omega (arith, c.items.invariant.within);
    numbered = omega (arith, c.items.invariant.numbered);
    few = omega (arith, c.items.invariant.few);
  };
}

pub returns-in-Some-clause-went : goal.returns-in-Some-clause-went
returns-in-Some-clause-went c =
    let end : c.closed_list.result.end ≡ c.in_ok-item.item.end + 1 = ap (λ y. y.end) c.closed_list.ensures in
    let node : c.closed_list.result.node ≡ c.in_ok-item.item.node = ap (λ y. y.node) c.closed_list.ensures in
    record {
      further = omega (arith, c.items.invariant.past, c.in_ok-item.ensures.went.further);
      within = omega (arith, c.in-Some.ensures.within);
      numbered = omega (arith, c.items.invariant.numbered, c.in_ok-item.ensures.went.numbered);
      few = omega (arith, c.items.invariant.few, c.in_ok-item.ensures.went.few);
    }

pub returns-in-Some-mark_at-2-clause-went : goal.returns-in-Some-mark_at-2-clause-went
returns-in-Some-mark_at-2-clause-went c =
    let end : c.closed_list-in-Some-mark_at-2.result.end ≡ c.in_ok-item.item.end + 1 + 1 = ap (λ y. y.end) c.closed_list-in-Some-mark_at-2.ensures in
    let node : c.closed_list-in-Some-mark_at-2.result.node ≡ c.in_ok-item.item.node = ap (λ y. y.node) c.closed_list-in-Some-mark_at-2.ensures in
    record {
      further = omega (arith, c.items.invariant.past, c.in_ok-item.ensures.went.further);
      within = omega (arith, c.in-Some-mark_at-2.ensures.within);
      numbered = omega (arith, c.items.invariant.numbered, c.in_ok-item.ensures.went.numbered);
      few = omega (arith, c.items.invariant.few, c.in_ok-item.ensures.went.few);
    }
