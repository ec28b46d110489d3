use Rattle.std.proofs.Common.{arith}
use Rattle.std.proofs.lemmas.Option.{slice_get-get_or}
use Rattle.shade_typed.proofs.ContextLaws.{not_among_more, not_there, simple_within}
use Rattle.shade_typed.proofs.simple.find_simple.Goals as goal

pub get-requires : goal.get-requires
get-requires c = simple_within c.args.table.now c.args.ids.now c.requires.ids c.ids.id-index _ c.ids-test.true

pub ids-preserved : goal.ids-preserved
ids-preserved c =
    not_among_more c.args.table.now c.args.ids.now c.args.ty _ c.ids.id-index _ (slice_get-get_or c.args.ids.now c.ids.id-index _ c.ids-test.true) c.get.ensures.ty
    (λ e. let f = c.is_same.ensures.1 e in cc (f, c.if-is_same.false)) c.ids.invariant

pub returns-clause-none : goal.returns-clause-none
returns-clause-none c = not_there c.args.table.now c.args.ids.now c.args.ty c.ids.id-index c.requires.ids c.requires.simple (omega (arith, c.ids-test.false)) c.ids.invariant
