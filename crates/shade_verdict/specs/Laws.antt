-- A law of the verdict.
use Rattle.std.specs.Prelude.{◌≡◌, List}
use Rattle.shade_core.specs.declared.module.CoreFunction.{CoreFunction}
use Rattle.shade_verdict.specs.declared.violation.Violation.{Violation}
use Rattle.shade_verdict.specs.Violations.{AreViolations}

-- The violations of a module are one list.
abbrev pub OneVerdict : Type 0
OneVerdict = (functions : List CoreFunction) (one other : List Violation) → AreViolations functions one → AreViolations functions other → one ≡ other
