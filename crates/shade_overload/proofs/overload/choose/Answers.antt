use Rattle.shade_overload.proofs.RowLaws.{choice_value}
use Rattle.shade_overload.proofs.ResultLaws.{chosen_of}
use Rattle.shade_overload.proofs.overload.choose.Goals as goal

pub returns-clause-value : goal.returns-clause-value
returns-clause-value c = choice_value c.args.table.now c.args.builtin _ c.args.types.now _ c.row_of.ensures.best

pub returns-clause-of : goal.returns-clause-of
returns-clause-of c = chosen_of c.args.table.now c.args.builtin _ c.args.types.now _ c.requires c.row_of.ensures.loaded c.row_of.ensures.best
