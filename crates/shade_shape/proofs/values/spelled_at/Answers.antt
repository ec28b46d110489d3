use Rattle.std.proofs.Common.{subst}
use Rattle.shade_values.specs.Sound.{IsSound}
use Rattle.shade_shape.proofs.ValueLaws.{spelled_some, spelled_none, spelled_known}
use Rattle.shade_shape.proofs.values.spelled_at.Goals as goal

pub returns-clause-shape : goal.returns-clause-shape
returns-clause-shape c = spelled_some c.args.types.now (subst IsSound c.table.ensures c.count-sound.ensures.sound) c.args.id _ c.get.ensures

pub returns-clause-known : goal.returns-clause-known
returns-clause-known c = spelled_known c.args.types.now (subst IsSound c.table.ensures c.count-sound.ensures.sound) c.args.id _ c.get.ensures

pub returns-clause-none : goal.returns-clause-none
returns-clause-none c = spelled_none c.args.types.now c.args.id _ c.get.ensures
