-- The labels of nodes. A statement is named by its number, line and column.
use Rattle.std.specs.Prelude.{ℕ, List, ◌++◌, codes, Option, Some, None, slice_get}
use Rattle.std.specs.Fmt.{decimal}
use Rattle.shade_base.specs.declared.severity.Severity.{Severity}
use Rattle.shade_base.specs.declared.severity.Severity.TheVariants.{Error, Warning, Info, Off}
use Rattle.shade_graph.specs.declared.node.Node.{Node}
use Rattle.shade_graph.specs.declared.node.Node.TheVariants.{Required, NonUniform, Start, Param, ContentsIn, ContentsOut, Returned, Before, After, Part, Value, Stored}
use Rattle.shade_report.specs.declared.source.Source.{Source}
use Rattle.shade_report.specs.declared.source.Callee.{Callee}
use Rattle.shade_report.specs.declared.source.Callee.TheVariants as callee

abbrev pub severity_word : Severity → List ℕ
severity_word Error = codes "error"
severity_word Warning = codes "warning"
severity_word Info = codes "info"
severity_word Off = codes "off"

-- the number of a statement, and its place where there is such a statement
abbrev pub named_at : ℕ → Option Source → List ℕ
named_at n None = codes "#" ++ decimal n
named_at n (Some source) = (codes "#" ++ decimal n) ++ ((codes " " ++ decimal source.place.line) ++ (codes ":" ++ decimal source.place.column))

abbrev pub named : List Source → ℕ → List ℕ
named sources n = named_at n (slice_get sources n)

-- what a statement stores, or what an argument of a call does
abbrev pub stored_by : Callee → List Source → ℕ → ℕ → List ℕ
stored_by (callee.Function function) sources n j = (codes "stored by argument " ++ decimal j) ++ (codes " of " ++ named sources n)
stored_by _ sources n j = codes "stored " ++ named sources n

abbrev pub stored_label : Option Source → List Source → ℕ → ℕ → List ℕ
stored_label None sources n j = codes "stored " ++ named sources n
stored_label (Some source) sources n j = stored_by source.callee sources n j

abbrev pub label : List Source → Node → List ℕ
label sources (Required severity) = codes "required " ++ severity_word severity
label sources NonUniform = codes "non-uniform"
label sources Start = codes "start"
label sources (Param i) = codes "parameter " ++ decimal i
label sources (ContentsIn i) = codes "contents in " ++ decimal i
label sources (ContentsOut i) = codes "contents out " ++ decimal i
label sources Returned = codes "return"
label sources (Before n) = codes "control before " ++ named sources n
label sources (After n) = codes "control after " ++ named sources n
label sources (Part n p) = (codes "part " ++ decimal p) ++ (codes " of " ++ named sources n)
label sources (Value n) = codes "value " ++ named sources n
label sources (Stored n j) = stored_label (slice_get sources n) sources n j
