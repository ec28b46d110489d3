use Rattle.std.proofs.Common.{sym, ap, ◌∙◌, subst, List, [], ◌∷◌, ◌++◌, arith}
use Rattle.shade_core.specs.declared.statement.CoreStatement.{CoreStatement}
use Rattle.shade_first.specs.Lowering.{Adds, Lowers, count_of, none}
use Rattle.shade_first.proofs.Lowered.{count_first, lowers_more, adds_count, added_barrier, added_branch}
use Rattle.shade_first.proofs.lower.+statements.Goals as goal

pub add_item-returns-in_ok-push-in-Barrier : goal.add_item-returns-in_ok-push-in-Barrier
add_item-returns-in_ok-push-in-Barrier t c =
    added_barrier c.args.item.now c.args.number c.in-Barrier.place c.args.made.now c.push.new.self c.in-Barrier.is
    (c.in_ok-push-in-Barrier.ensures.ok ∙ ap (λ s. c.args.made.now ++ s ∷ []) c.barrier.ensures)

pub add_item-returns-in_ok-push-in-If-2 : goal.add_item-returns-in_ok-push-in-If-2
add_item-returns-in_ok-push-in-If-2 t c =
    let item = c.in-If in
    let more = c.push-in-If.new.self in
    added_branch c.args.item.now c.args.number item.place item.operator item.limit item.items c.in_ok-body-in-If.body c.args.made.now more c.push-in-If-2.new.self c.in_ok-body-in-If.next item.is
    c.in_ok-body-in-If.ensures
    (c.in_ok-push-in-If.ensures.ok ∙ ap (λ s. c.args.made.now ++ s ∷ []) c.in_ok-condition-in-If.ensures)
    (c.in_ok-push-in-If-2.ensures.ok ∙ ap (λ s. more ++ s ∷ []) c.branch-alloc.ensures)

pub statements-items-init : goal.statements-items-init
statements-items-init t c = record {
  so_far = subst (λ (x : List CoreStatement). Lowers [] c.args.number x c.args.number) (sym c.new-made.ensures) (none c.args.number);
  room = rw c.as_slice-item-items.ensures c.requires;
}

pub statements-items-preserved : goal.statements-items-preserved
statements-items-preserved t c =
    let items = c.as_slice-item-items.result.now in
    let i = c.items.item-index in
    let item = c.item-item.result in
    let adds = c.in_ok-next.ensures in
    record {
      so_far =
          lowers_more items c.args.number i c.items.next c.in_ok-next.next c.items.made c.add_item.new.made item c.items-test.true c.items.invariant.so_far
          (subst (λ x. Adds x c.items.next c.items.made c.add_item.new.made c.in_ok-next.next) c.item-item.is adds);
      room = omega (arith, count_first items i item c.items-test.true, ap count_of c.item-item.is, adds_count item c.items.next c.items.made c.add_item.new.made c.in_ok-next.next adds, c.items.invariant.room);
    }
