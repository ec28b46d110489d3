use Rattle.std.proofs.Common.{◌≡◌, ◌∙◌, sym, false, true, arith}
use Rattle.std.proofs.lemmas.Fmt.{decimal_injective}
use Rattle.shade_first.proofs.number.lane_count.Goals as goal

pub returns-in_default : goal.returns-in_default
returns-in_default c =
    λ n least most is.
    let same : n ≡ c.in-Some.count = decimal_injective n c.in-Some.count (omega arith) (omega arith) (sym is ∙ c.in-Some.ensures) in
    let bad : false ≡ true = c.if-is_lane_count.ensures.1 (omega arith, omega arith) in cc
