-- The order of the nodes of a graph.
use Rattle.std.specs.Prelude.{◌≡◌, ℕ, ◌<◌, ◌⊎◌, List, Some, slice_get}
use Rattle.shade_base.specs.declared.severity.Severity.{Severity}
use Rattle.shade_base.specs.declared.severity.Severity.TheVariants.{Error, Warning, Info, Off}
use Rattle.shade_graph.specs.declared.node.Node.{Node}
use Rattle.shade_graph.specs.declared.node.Node.TheVariants.{Required, NonUniform, Start, Param, ContentsIn, ContentsOut, Returned, Before, After, Part, Value, Stored}

abbrev pub severity_rank : Severity → ℕ
severity_rank Error = 0
severity_rank Warning = 1
severity_rank Info = 2
severity_rank Off = 3

-- the kind of a node
abbrev pub rank : Node → ℕ
rank (Required severity) = severity_rank severity
rank NonUniform = 4
rank Start = 5
rank (Param i) = 6
rank (ContentsIn i) = 7
rank (ContentsOut i) = 8
rank Returned = 9
rank (Before s) = 10
rank (After s) = 11
rank (Part s p) = 12
rank (Value s) = 13
rank (Stored s j) = 14

-- the parameter or the statement of a node
abbrev pub first_key : Node → ℕ
first_key (Param i) = i
first_key (ContentsIn i) = i
first_key (ContentsOut i) = i
first_key (Before s) = s
first_key (After s) = s
first_key (Part s p) = s
first_key (Value s) = s
first_key (Stored s j) = s
first_key _ = 0

-- the part or the argument of a node
abbrev pub second_key : Node → ℕ
second_key (Part s p) = p
second_key (Stored s j) = j
second_key _ = 0

-- One node comes before another: by kind, then by parameter or statement, then by part or argument.
abbrev pub NodeLess : Node → Node → Type 0
NodeLess u v = (rank u < rank v) ⊎ ((rank u ≡ rank v) × ((first_key u < first_key v) ⊎ ((first_key u ≡ first_key v) × (second_key u < second_key v))))

-- in node order, each once
abbrev pub IsAscending : List Node → Type 0
IsAscending nodes = (j k : ℕ) (u v : Node) → j < k → slice_get nodes j ≡ Some u → slice_get nodes k ≡ Some v → NodeLess u v
