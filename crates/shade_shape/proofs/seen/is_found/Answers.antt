use Rattle.shade_shape.proofs.SeenLaws.{found_by}
use Rattle.shade_shape.proofs.seen.is_found.Goals as goal

pub returns : goal.returns
returns c = found_by c.args.numbers.now c.args.number _ _ c.requires c.binary_search.ensures.position c.is_ok.ensures.value
