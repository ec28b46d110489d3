use Rattle.std.proofs.Common.{arith, ap}
use Rattle.shade_base.specs.declared.place.Place.{Place}
use Rattle.shade_first.proofs.LexLaws.{line_small, column_small}
use Rattle.shade_first.proofs.lex.next.Goals as goal

pub overflow_add-result-then-ends_break : goal.overflow_add-result-then-ends_break
overflow_add-result-then-ends_break c = omega (arith, ap (λ (p : Place). p.line) c.requires.placed, line_small c.args.text.now c.args.place.offset)

pub overflow_add-result-else-ends_break-2 : goal.overflow_add-result-else-ends_break-2
overflow_add-result-else-ends_break-2 c = omega (arith, ap (λ (p : Place). p.column) c.requires.placed, column_small c.args.text.now c.args.place.offset)
