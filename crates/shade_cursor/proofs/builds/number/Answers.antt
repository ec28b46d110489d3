use Rattle.std.proofs.Common.{sym, subst}
use Rattle.shade_ast.specs.Names.{Grows}
use Rattle.shade_ast.proofs.NameLaws.{stored_at, names_grow}
use Rattle.shade_cursor.proofs.builds.number.Goals as goal

pub returns-in-Ok-clause-text : goal.returns-in-Ok-clause-text
returns-in-Ok-clause-text c = stored_at c.args.names.now c.number.new.self c.args.text.now c.in-Ok.number c.in-Ok.ensures.number c.in-Ok.ensures.names

pub returns-in-Ok-clause-grows : goal.returns-in-Ok-clause-grows
returns-in-Ok-clause-grows c = subst (Grows c.args.names.now) (sym c.in-Ok.ensures.names) (names_grow c.args.names.now c.args.text.now)
