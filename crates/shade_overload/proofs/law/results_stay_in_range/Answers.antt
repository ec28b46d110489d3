use Rattle.shade_values.proofs.RangeLaws.{unary_ranged, binary_ranged, ternary_ranged, quaternary_ranged}
use Rattle.shade_overload.proofs.law.results_stay_in_range.Goals as goal

pub returns : goal.returns
returns c = record { of_one = unary_ranged; of_two = binary_ranged; of_three = ternary_ranged; of_four = quaternary_ranged }
