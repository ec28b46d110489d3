use Rattle.std.proofs.Common.{rules}
use Rattle.shade_typed.proofs.SetLaws.{no_value, other_value, row_gives}
use Rattle.shade_typed.proofs.sets.row_type.Goals as goal

pub returns-in_default-clause-found : goal.returns-in_default-clause-found
returns-in_default-clause-found c = no_value c.args.context.now.shader.types c.args.builtin c.args.types.now c.in_default.ensures

pub returns-then-not-is_simple-clause-found : goal.returns-then-not-is_simple-clause-found
returns-then-not-is_simple-clause-found c = other_value c.args.context.now.shader.types c.args.builtin c.args.types.now c.in-Some.ty c.in-Some.ensures (search rules)

pub returns-clause-found : goal.returns-clause-found
returns-clause-found c = row_gives c.args.context.now.shader.types c.args.builtin c.args.types.now c.in-Some.ty _ c.in-Some.ensures (search rules) c.find.ensures.found
