-- What the shaders of the first form are to the layers behind their reader.
use Rattle.std.specs.Prelude.{◌≡◌, ◌↔◌, ◌<◌, ◌^◌, ℕ, true, List, [], length}
use Rattle.shade_base.specs.declared.severity.Severity.TheVariants.{Error}
use Rattle.shade_core.specs.declared.module.CoreModule.{CoreModule}
use Rattle.shade_core.specs.Rules.{all_have_rules}
use Rattle.shade_core.specs.Standing.{AreNumbered}
use Rattle.shade_graph.specs.Graph.{Among}
use Rattle.shade_verdict.specs.declared.violation.Violation.{Violation}
use Rattle.shade_verdict.specs.Violations.{AreViolations, HasLargeFunction}
use Rattle.shade_verdict.specs.Clean.{IsClean}
use Rattle.shade_group.specs.Group.{IsRunnable}
use Rattle.shade_first.specs.FirstForm.{StandsFor}

-- What is asked of a module behind the reader: it has rules, its statements are numbered in structure order, it has no roots, the
-- machine runs its first function, its functions are few, and none has more nodes than a graph may have.
pub record IsReady (shader : CoreModule) : Type 0 where
  pub rules : all_have_rules shader.functions ≡ true
  pub numbered : AreNumbered shader.functions
  pub rootless : shader.roots ≡ []
  pub runs : IsRunnable shader 0
  pub few : length shader.functions < 2 ^ 32
  pub small : HasLargeFunction shader.functions → ⊥

-- Each shader of the first form is such a module.
abbrev pub FirstFormIsReady : Type 0
FirstFormIsReady = (text : List ℕ) (shader : CoreModule) → StandsFor text shader → IsReady shader

-- some violation is an error
abbrev pub HasError : List Violation → Type 0
HasError violations = (v : Violation) × Among v violations × (v.severity ≡ Error)

-- A shader of the first form is clean exactly where none of its violations is an error: its barriers ask with no other severity.
abbrev pub CleanWithoutErrors : Type 0
CleanWithoutErrors = (text : List ℕ) (shader : CoreModule) (violations : List Violation) → StandsFor text shader → AreViolations shader.functions violations → ((HasError violations → ⊥) ↔ IsClean shader.functions)
