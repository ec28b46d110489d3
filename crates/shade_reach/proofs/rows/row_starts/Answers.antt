use Rattle.std.proofs.Common.{◌≡◌, ap, ◌∙◌, ◌++◌, ◌∷◌, [], arith, length, length-append}
use Rattle.shade_reach.proofs.RowLaws.{first_start, starts_begin, starts_more}
use Rattle.shade_reach.proofs.rows.row_starts.Goals as goal

pub loop-node-init : goal.loop-node-init
loop-node-init c =
    let items : c.push.new.self.items ≡ 0 ∷ [] = c.in_ok-push.ensures.items ∙ ap (λ x. x ++ 0 ∷ []) c.in_ok-starts.ensures.items in
    record { here = first_start c.args.edges.now; long = ap length items; each = starts_begin c.args.edges.now c.push.new.self.items items }

pub loop-node-preserved : goal.loop-node-preserved
loop-node-preserved c =
    let starts = c.loop-node.starts.items in
    let start = c.next_row-start.result in
    let items : c.push-in-loop-node.new.self.items ≡ starts ++ start ∷ [] = c.in_ok-push-2.ensures.items in
    record {
      here = c.next_row-start.ensures;
      long = omega (arith, ap length items, length-append starts (start ∷ []), c.loop-node.invariant.long);
      each = starts_more c.args.edges.now starts c.push-in-loop-node.new.self.items c.loop-node.node start c.loop-node.invariant.long items c.loop-node.invariant.each c.next_row-start.ensures;
    }

pub returns : goal.returns
returns c = record {
  long = omega (arith, c.loop-node.invariant.long, c.loop-node-test.false, c.loop-node.auto.node-end);
  each = λ node h. c.loop-node.invariant.each node (omega (arith, h, c.loop-node-test.false));
}
