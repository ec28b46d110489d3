use Rattle.std.proofs.Common.{◌≡◌, ◌++◌, drop, map}
use Rattle.shade_events.specs.Events.{joined, stmt_events, arm_events, clause_events}
use Rattle.shade_events.proofs.statements.+statements.Given as goal

abbrev pub invariant-add_stmts-loop-s : goal.invariant-add_stmts-loop-s
invariant-add_stmts-loop-s l = l.out ++ joined (map (stmt_events l.names) (drop l.s-index l.s-items)) ≡ l.initial.out ++ joined (map (stmt_events l.names) l.s-items)

abbrev pub invariant-add_arms-loop-arm : goal.invariant-add_arms-loop-arm
invariant-add_arms-loop-arm l = l.out ++ joined (map (arm_events l.names) (drop l.arm-index l.arm-items)) ≡ l.initial.out ++ joined (map (arm_events l.names) l.arm-items)

abbrev pub invariant-add_clauses-loop-clause : goal.invariant-add_clauses-loop-clause
invariant-add_clauses-loop-clause l = l.out ++ joined (map (clause_events l.names) (drop l.clause-index l.clause-items)) ≡ l.initial.out ++ joined (map (clause_events l.names) l.clause-items)
