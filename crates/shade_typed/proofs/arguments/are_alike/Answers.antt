use Rattle.std.proofs.Common.{rules}
use Rattle.shade_typed.specs.Places.{origin_of}
use Rattle.shade_typed.proofs.PlaceLaws.{origins_as}
use Rattle.shade_typed.proofs.arguments.are_alike.Goals as goal

pub returns : goal.returns
returns c = origins_as (origin_of c.args.one) (origin_of c.args.other) c.is_same.result (search rules) (search rules) c.is_same.ensures
