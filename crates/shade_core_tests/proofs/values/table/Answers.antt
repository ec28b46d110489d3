use Rattle.std.proofs.lemmas.Option.{slice_get_within}
use Rattle.shade_values.specs.declared.types.ShadeType.TheVariants as type
use Rattle.shade_core_tests.proofs.values.table.Goals as goal

pub is_loadable-requires : goal.is_loadable-requires
is_loadable-requires g c = slice_get_within c.add-5.new.self.types c.in_ok-rows.rows.0 (type.Array c.in_ok-wide.wide 3) c.in_ok-rows.ensures.id

pub is_loadable-requires-2 : goal.is_loadable-requires-2
is_loadable-requires-2 g c = slice_get_within c.add-6.new.self.types c.in_ok-rest.rest.0 (type.RuntimeArray c.in_ok-small.small) c.in_ok-rest.ensures.id
