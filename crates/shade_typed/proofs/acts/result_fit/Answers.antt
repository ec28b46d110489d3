use Rattle.std.proofs.Common.{sym}
use Rattle.shade_typed.proofs.ActLaws.{gives_none, gives_type}
use Rattle.shade_typed.proofs.acts.result_fit.Goals as goal

pub returns-in_default-clause-fit : goal.returns-in_default-clause-fit
returns-in_default-clause-fit c = gives_none c.args.context.now.shader.types c.args.id c.in_default.is

pub returns-clause-fit : goal.returns-clause-fit
returns-clause-fit c = gives_type c.args.context.now.shader.types c.args.id c.in-Some.id c.in-Some-typed.found.ty c.in-Some.is (sym c.in-Some-typed.ensures.found)
