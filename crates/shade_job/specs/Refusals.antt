-- Why bytes state no job.
use Rattle.std.specs.Prelude.{ℕ, List}
use Rattle.shade_job.specs.declared.refusal.JobRule.{JobRule}
use Rattle.shade_job.specs.declared.refusal.JobRule.TheVariants as rule
use Rattle.shade_job.specs.declared.refusal.JobRefusal.{JobRefusal}
use Rattle.shade_job.specs.declared.refusal.JobRefusal.TheVariants.{Rule, NoMemory}

-- the number by which a rule is told
abbrev pub rule_number : JobRule → ℕ
rule_number rule.Form = 1
rule_number rule.Version = 2
rule_number rule.Entry = 3
rule_number rule.Groups = 4
rule_number rule.Group = 5
rule_number rule.Buffers = 6
rule_number rule.Words = 7
rule_number rule.Schedule = 8
rule_number rule.Steps = 9
rule_number rule.OtherMember = 10

-- a refusal is right where a rule fails at a pointer; nothing is said of want of memory
abbrev pub Refuses : (List ℕ → JobRule → Type 0) → JobRefusal → Type 0
Refuses Fails (Rule pointer broken) = Fails pointer broken
Refuses Fails NoMemory = Unit {0}
