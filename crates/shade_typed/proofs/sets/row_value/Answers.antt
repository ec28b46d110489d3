use Rattle.shade_typed.proofs.RowLaws.{all_known, all_of}
use Rattle.shade_typed.proofs.SetLaws.{no_row, row_value}
use Rattle.shade_typed.proofs.sets.row_value.Goals as goal

pub row_result-requires-clause-of : goal.row_result-requires-clause-of
row_result-requires-clause-of c = rw c.table.ensures (rw c.types.ensures.same (all_of c.args.context.now.shader.types c.args.types.now c.types.ensures.sound c.requires))

pub row_result-requires-clause-known : goal.row_result-requires-clause-known
row_result-requires-clause-known c = all_known c.args.context.now.shader.types c.args.types.now c.requires

pub returns-in-Some : goal.returns-in-Some
returns-in-Some c = row_value c.args.context.now.shader.types c.args.builtin c.args.types.now c.in-Some.result (rw c.types.ensures.same at (rw c.table.ensures at c.in-Some.ensures))

pub returns-in-None : goal.returns-in-None
returns-in-None c = no_row c.args.context.now.shader.types c.args.builtin c.args.types.now (rw c.types.ensures.same at (rw c.table.ensures at c.in-None.ensures))
