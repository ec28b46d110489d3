use Rattle.shade_typed.proofs.RowLaws.{row_none, row_some}
use Rattle.shade_typed.proofs.rows.row_result.Goals as goal

pub returns-in_default : goal.returns-in_default
returns-in_default c = row_none c.args.table.now c.args.builtin c.args.types.now c.in_default.ensures.refused

pub returns : goal.returns
returns c = row_some c.args.table.now c.args.builtin _ c.args.types.now c.in-Some.row c.requires.known c.in-Some.ensures.best
