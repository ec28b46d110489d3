use Rattle.std.proofs.Common.{refl, rules}
use Rattle.shade_cursor.specs.Operators.{to_left, to_right}
use Rattle.shade_cursor.proofs.operators.shift_at.Goals as goal

pub returns-in-Some-clause-value : goal.returns-in-Some-clause-value
returns-in-Some-clause-value c = to_left (search rules) c.in-Some.ensures.value

pub returns-clause-value : goal.returns-clause-value
returns-clause-value c = to_right (search rules) c.in_ok-place.ensures.value (c.if-not-is_behind.ensures.value.0 refl)
