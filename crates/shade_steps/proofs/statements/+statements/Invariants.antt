use Rattle.std.proofs.Common.{◌≡◌, ◌++◌, drop, map}
use Rattle.shade_steps.specs.Statements.{joined, stmt_steps, arm_steps, clause_steps, clauses_steps}
use Rattle.shade_steps.proofs.statements.+statements.Given as goal

abbrev pub invariant-add_stmts-loop-s : goal.invariant-add_stmts-loop-s
invariant-add_stmts-loop-s l =
    l.out ++ joined (map (stmt_steps l.within.names.now l.within.function) (drop l.s-index l.s-items)) ≡ l.initial.out ++ joined (map (stmt_steps l.within.names.now l.within.function) l.s-items)

abbrev pub invariant-add_arms-loop-arm : goal.invariant-add_arms-loop-arm
invariant-add_arms-loop-arm l =
    l.out ++ joined (map (arm_steps l.within.names.now l.within.function) (drop l.arm-index l.arm-items)) ≡ l.initial.out ++ joined (map (arm_steps l.within.names.now l.within.function) l.arm-items)

abbrev pub invariant-add_clauses-loop-clause : goal.invariant-add_clauses-loop-clause
invariant-add_clauses-loop-clause l =
    l.out ++ clauses_steps l.switch (map (clause_steps l.within.names.now l.within.function) (drop l.clause-index l.clause-items))
    ≡ l.initial.out ++ clauses_steps l.switch (map (clause_steps l.within.names.now l.within.function) l.clause-items)
