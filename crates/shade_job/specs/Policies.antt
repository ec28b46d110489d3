-- What a schedule that is a policy picks: of so many able lanes, which steps.
use Rattle.std.specs.Prelude.{ℕ, ◌+◌, ◌*◌, ◌/◌, ◌%◌, ◌^◌, ◌≤◌, length, slice_index}
use Rattle.shade_job.specs.declared.policies.Schedule.{Schedule}
use Rattle.shade_job.specs.declared.policies.Schedule.TheVariants as schedule

-- the upper 31 bits of one step of a linear congruential generator
abbrev pub mixed : ℕ → ℕ → ℕ
mixed seed step = (((seed + step) * 6364136223846793005 + 1442695040888963407) % 2 ^ 64) / 2 ^ 33

-- the place of the picked lane among the able ones, at a step with so many of them; a list names lanes and picks none
abbrev pub pick : Schedule → ℕ → ℕ → ℕ
pick schedule.Lanes step count = 0
pick schedule.Round step count = step % count
pick (schedule.Seed seed) step count = mixed seed step % count
pick (schedule.Picks picks) step count = slice_index picks (step % length picks) % count
pick (schedule.List steps) step count = 0

-- a schedule that picks: a policy, whose picks, where it has them, are at least one
abbrev pub CanPick : Schedule → Type 0
CanPick (schedule.Picks picks) = 1 ≤ length picks
CanPick (schedule.List steps) = ⊥
CanPick _ = Unit {0}
