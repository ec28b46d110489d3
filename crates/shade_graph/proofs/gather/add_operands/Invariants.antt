use Rattle.std.proofs.Common.{◌≡◌, ◌++◌, drop}
use Rattle.shade_graph.specs.Gathered.{operands_edges}
use Rattle.shade_graph.proofs.gather.add_operands.Given as goal

abbrev pub invariant-operands : goal.invariant-operands
invariant-operands l =
    l.edges.items ++ operands_edges l.statement l.from (drop l.operand-index l.operand-items) ≡ l.initial.edges.items ++ operands_edges l.statement l.from l.operand-items
