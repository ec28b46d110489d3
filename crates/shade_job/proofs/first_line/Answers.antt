use Rattle.std.proofs.Common.{rules, ◌++◌, ◌∙◌, sym, ap, arith}
use Rattle.shade_job.specs.Steps.{line}
use Rattle.shade_job.proofs.Lines.{no_break, no_lane, found_line}
use Rattle.shade_job.proofs.first_line.Goals as goal

pub returns-in_default : goal.returns-in_default
returns-in_default c n rest below is = no_break c.args.bytes.now (sym c.in_default.ensures) n rest (omega (arith, c.ranges.lanes.fits)) is

pub returns-in-Some-lane_number : goal.returns-in-Some-lane_number
returns-in-Some-lane_number c =
    (found_line c.args.bytes.now c.in-Some.end c.in-Some-lane_number.number (sym c.in-Some.ensures) (sym c.front.ensures ∙ c.in-Some-lane_number.ensures.0) ∙ ap (λ xs. line c.in-Some-lane_number.number ++ xs) (sym c.behind.ensures), c.in-Some-lane_number.ensures.1)

pub returns-in-None : goal.returns-in-None
returns-in-None c n rest below is = no_lane c.args.bytes.now c.in-Some.end c.args.lanes (sym c.in-Some.ensures) (search rules) (rw c.front.ensures at c.in-None.ensures) n rest below is
