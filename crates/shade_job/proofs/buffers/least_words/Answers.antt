use Rattle.std.proofs.Common.{◌≤◌, ◌/◌, sym, ap, length, arith}
use Rattle.std.proofs.lemmas.List.{get_or_past}
use Rattle.shade_values.specs.Shape.{shapes, pointer}
use Rattle.shade_values.specs.Layouts.{layout}
use Rattle.shade_values.proofs.ShapeLaws.{length-shapes}
use Rattle.shade_job.proofs.buffers.least_words.Goals as goal

pub returns-else-ty-count : goal.returns-else-ty-count
returns-else-ty-count c =
    let past : length (shapes c.args.types.now) ≤ c.args.ty.0 = omega (arith, length-shapes c.args.types.now, c.count.ensures.count, c.if-ty-count.false) in
    sym (ap (λ s. (layout s).size / 4) (get_or_past (shapes c.args.types.now) c.args.ty.0 pointer past))
