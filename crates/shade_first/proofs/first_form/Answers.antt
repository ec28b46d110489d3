use Rattle.std.proofs.Common.{arith}
use Rattle.shade_first.proofs.Counts.{few}
use Rattle.shade_first.proofs.first_form.Goals as goal

pub lower-requires : goal.lower-requires
lower-requires c = omega (arith, few c.args.text.now c.in_ok-shader.shader c.in_ok-shader.ensures, c.in_ok-shader.ensures.short)
