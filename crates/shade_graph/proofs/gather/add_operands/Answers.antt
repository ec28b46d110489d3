use Rattle.shade_graph.proofs.Turns.{operands_turn}
use Rattle.shade_graph.proofs.gather.add_operands.Goals as goal

pub operands-preserved : goal.operands-preserved
operands-preserved c =
    operands_turn c.args.statement c.args.from c.as_slice-operand-items.result.now c.operands.operand-index c.operand-item.result c.operands.edges.items c.add_operand.new.edges.items _
    c.operands-test.true c.operand-item.is c.in_ok-add_operand.ensures c.operands.invariant
