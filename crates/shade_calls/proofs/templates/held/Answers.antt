use Rattle.std.proofs.Common.{sym}
use Rattle.std.proofs.lemmas.Option.{slice_get_within}
use Rattle.shade_calls.proofs.templates.held.Goals as goal

pub returns-clause-of : goal.returns-clause-of
returns-clause-of c = slice_get_within c.args.known.now.types.types c.in-Some.id.0 c.in-Some-type_by_id.ty (sym c.in-Some-type_by_id.ensures.ty)
