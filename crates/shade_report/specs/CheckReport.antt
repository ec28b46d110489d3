-- The report of a check: a line with the verdict and the counts, and then each violation with its path.
use Rattle.std.specs.Prelude.{ℕ, ◌==◌, if◌then◌else◌, List, [], ◌++◌, codes, count_by, Option, Some, None, slice_get}
use Rattle.std.specs.List.{flat_map}
use Rattle.std.specs.Fmt.{decimal}
use Rattle.shade_base.specs.declared.severity.Severity.{Severity}
use Rattle.shade_base.specs.declared.severity.Severity.TheVariants.{Error, Warning, Info}
use Rattle.shade_values.specs.declared.types.Space.{Space}
use Rattle.shade_values.specs.declared.types.Space.TheVariants.{Storage}
use Rattle.shade_core.specs.declared.module.CoreFunction.{CoreFunction}
use Rattle.shade_graph.specs.declared.node.Via.{Via}
use Rattle.shade_graph.specs.Order.{severity_rank}
use Rattle.shade_verdict.specs.declared.violation.PathStep.{PathStep}
use Rattle.shade_verdict.specs.declared.violation.Violation.{Violation}
use Rattle.shade_report.specs.declared.source.Source.{Source}
use Rattle.shade_report.specs.declared.source.Callee.{Callee}
use Rattle.shade_report.specs.declared.source.Callee.TheVariants as callee
use Rattle.shade_report.specs.Sources.{list_sources}
use Rattle.shade_report.specs.Labels.{severity_word, named, label}

-- how many violations have a severity
abbrev pub count_of : Severity → List Violation → ℕ
count_of severity violations = count_by (λ v. severity_rank v.severity == severity_rank severity) violations

abbrev pub verdict_word : ℕ → List ℕ
verdict_word errors = if errors == 0 then codes "accepted" else codes "rejected"

-- the numbers of errors, warnings and infos
abbrev pub counts_text : ℕ → ℕ → ℕ → List ℕ
counts_text errors warnings infos =
    (codes " errors " ++ decimal errors) ++ ((codes " warnings " ++ decimal warnings) ++ ((codes " infos " ++ decimal infos) ++ codes "\n"))

abbrev pub first_line : ℕ → ℕ → ℕ → List ℕ
first_line errors warnings infos = verdict_word errors ++ counts_text errors warnings infos

abbrev pub name_of : Option CoreFunction → List ℕ
name_of None = []
name_of (Some function) = function.name

-- the name of the function with a number
abbrev pub function_name : List CoreFunction → ℕ → List ℕ
function_name functions number = name_of (slice_get functions number)

abbrev pub barrier_name : Space → List ℕ
barrier_name Storage = codes "storageBarrier"
barrier_name _ = codes "workgroupBarrier"

abbrev pub callee_name : List CoreFunction → Callee → List ℕ
callee_name functions (callee.Barrier space) = barrier_name space
callee_name functions callee.UniformLoad = codes "workgroupUniformLoad"
callee_name functions (callee.Function number) = function_name functions number
callee_name functions callee.Nothing = []

-- the name of the function that a statement calls
abbrev pub called_name : List CoreFunction → Option Source → List ℕ
called_name functions None = []
called_name functions (Some source) = callee_name functions source.callee

-- why a call gives an edge, where no row does
abbrev pub reason : List CoreFunction → Option Via → List ℕ
reason functions None = []
reason functions (Some via) =
    codes " via " ++ function_name functions via.callee ++ codes " " ++ label [] via.tag.source ++ codes " -> " ++ label [] via.tag.target

-- a node of a path
abbrev pub step_line : List CoreFunction → List Source → PathStep → List ℕ
step_line functions sources step = codes "  " ++ label sources step.node ++ reason functions step.via ++ codes "\n"

-- the severity, the function, the statement that asks, and what it calls
abbrev pub header_line : List CoreFunction → List Source → Violation → List ℕ
header_line functions sources v =
    severity_word v.severity ++ codes " " ++ function_name functions v.function ++ codes " " ++ named sources v.site ++ codes " "
    ++ called_name functions (slice_get sources v.site) ++ codes "\n"

abbrev pub sources_in : Option CoreFunction → List Source
sources_in None = []
sources_in (Some function) = list_sources function.body

abbrev pub violation_lines : List CoreFunction → List Source → Violation → List ℕ
violation_lines functions sources v = header_line functions sources v ++ flat_map (step_line functions sources) v.path

-- a violation: its header and its path
abbrev pub violation_text : List CoreFunction → Violation → List ℕ
violation_text functions v = violation_lines functions (sources_in (slice_get functions v.function)) v

abbrev pub check_report : List CoreFunction → List Violation → List ℕ
check_report functions violations =
    first_line (count_of Error violations) (count_of Warning violations) (count_of Info violations) ++ flat_map (violation_text functions) violations
