use Rattle.shade_rest.proofs.MarkLaws.{innermost_is}
use Rattle.shade_rest.proofs.marks.Marks.here.Goals as goal

-- src/marks.rt:58:21
pub returns-in-Call-clause-stands : goal.returns-in-Call-clause-stands
returns-in-Call-clause-stands c = (c.in-Call.field-0, c.in-Call.field-1, c.in-Call.field-2.now, innermost_is _ _ _ _ c.in-Call.is c.push_reserved-in-Call.ensures.items)
