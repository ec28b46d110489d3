use Rattle.std.proofs.Common.{rules}
use Rattle.shade_typed.specs.Places.{origin_of}
use Rattle.shade_typed.proofs.AnswerLaws.{refutes}
use Rattle.shade_typed.proofs.ActLaws.{no_store, read_only, store_as}
use Rattle.shade_typed.proofs.acts.stores.Goals as goal

pub returns-in_default : goal.returns-in_default
returns-in_default c = refutes (no_store c.args.context.now c.args.view.now c.args.value.now c.in_default.ensures.place)

pub returns-then-ne : goal.returns-then-ne
returns-then-ne c = refutes (read_only c.args.context.now c.args.view.now c.args.value.now (origin_of c.in-Some.place) c.in-Some.ensures.place (search rules))

pub returns : goal.returns
returns c = store_as c.args.context.now c.args.view.now c.args.value.now (origin_of c.in-Some.place) c.has_type.result c.in-Some.ensures.place (search rules) c.has_type.ensures
