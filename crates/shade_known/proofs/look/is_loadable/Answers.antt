use Rattle.std.proofs.Common.{◌≤◌, sym, ap, length, arith}
use Rattle.std.proofs.lemmas.List.{get_or_past}
use Rattle.shade_values.specs.Shape.{shapes, pointer}
use Rattle.shade_values.specs.Layouts.{is_loadable as loadable}
use Rattle.shade_values.proofs.ShapeLaws.{length-shapes}
use Rattle.shade_known.proofs.look.is_loadable.Goals as goal

pub returns : goal.returns
returns c =
    let past : length (shapes c.args.table.now) ≤ c.args.id.0 = omega (arith, length-shapes c.args.table.now) in
    ap loadable (sym (get_or_past (shapes c.args.table.now) c.args.id.0 pointer past))
