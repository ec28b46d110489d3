-- Bytes that state no job.
use Rattle.std.specs.Prelude.{ℕ, List}
use Rattle.shade_job.specs.declared.JobFault.{JobFault}
use Rattle.shade_job.specs.declared.JobFault.TheVariants.{Form, NoMemory}
use Rattle.shade_job.specs.Steps.{States}

-- the bytes state no steps; nothing is said of want of memory
abbrev pub Faults : ℕ → List ℕ → JobFault → Type 0
Faults lanes bytes Form = (steps : List ℕ) → States lanes bytes steps → ⊥
Faults lanes bytes NoMemory = Unit {0}
