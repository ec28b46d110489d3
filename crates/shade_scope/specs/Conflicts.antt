-- Filters of one range that give one rule unlike severities (WGSL, "Diagnostic Filters").
use Rattle.std.specs.Prelude.{ℕ, Bool, false, ◌&&◌, not, List, [], ◌∷◌, ◌++◌, ◌==◌, if◌then◌else◌}
use Rattle.std.specs.List.{list_any}
use Rattle.shade_base.specs.declared.severity.Severity.{Severity}
use Rattle.shade_base.specs.declared.severity.Severity.TheVariants as severity
use Rattle.shade_events.specs.declared.event.Event.{Event}
use Rattle.shade_events.specs.declared.event.Event.TheVariants as event
use Rattle.shade_events.specs.declared.filters.Filter.{Filter}
use Rattle.shade_events.specs.declared.filters.RuleName.{RuleName}
use Rattle.shade_events.specs.declared.filters.RuleName.TheVariants as named_rule
use Rattle.shade_scope.specs.declared.fault.ScopeFault.{ScopeFault}
use Rattle.shade_scope.specs.declared.fault.ScopeFault.TheVariants as fault

abbrev pub is_same_rule : RuleName → RuleName → Bool
is_same_rule (named_rule.Plain a) (named_rule.Plain b) = a == b
is_same_rule (named_rule.Scoped a b) (named_rule.Scoped c d) = (a == c) && (b == d)
is_same_rule _ _ = false

abbrev pub rank : Severity → ℕ
rank severity.Error = 0
rank severity.Warning = 1
rank severity.Info = 2
rank severity.Off = 3

-- two filters give one rule unlike severities
abbrev pub is_clash : Filter → Filter → Bool
is_clash f g = is_same_rule f.rule g.rule && not (rank f.severity == rank g.severity)

-- a filter of a range clashes with one before it
abbrev pub clashes : List Filter → Filter → Bool
clashes before f = list_any (λ g. is_clash g f) before

-- the filters of the range that began last
abbrev pub with_filter : List Filter → Event → List Filter
with_filter before event.Covers = []
with_filter before (event.Filters f) = before ++ f ∷ []
with_filter before _ = before

abbrev pub conflict_of : List Filter → Event → List ScopeFault
conflict_of before (event.Filters f) = if clashes before f then fault.Conflict f.place ∷ [] else []
conflict_of before _ = []

-- the filters of a text that clash with one before them
abbrev pub conflicts : List Filter → List Event → List ScopeFault
conflicts before [] = []
conflicts before (e ∷ es) = conflict_of before e ++ conflicts (with_filter before e) es
