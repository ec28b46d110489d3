-- On the way: the walk by which the severities are found, with what is in force inside the ranges that are open.
use Rattle.std.specs.Prelude.{ℕ, Bool, true, false, List, [], ◌∷◌, ◌++◌, slice_set}
use Rattle.std.specs.List.{flat_map}
use Rattle.shade_base.specs.declared.severity.Severity.{Severity}
use Rattle.shade_base.specs.declared.severity.Severity.TheVariants as severity
use Rattle.shade_events.specs.declared.event.Event.{Event}
use Rattle.shade_events.specs.declared.event.Event.TheVariants as event
use Rattle.shade_scope.specs.declared.ranges.Ranges.{Ranges}
use Rattle.shade_scope.specs.InForce.{without_last}
use Rattle.shade_scope.specs.Scopes.{last_or}
use Rattle.shade_scope.specs.Ranges.{is_uniformity}

abbrev pub given : Severity → Bool → Severity → Severity
given outside true severity = severity
given outside false severity = outside

-- the severity inside the innermost open range, and those around each open range, the innermost last
abbrev pub covered : List (List ℕ) → Ranges → Event → Ranges
covered names r event.Covers = record { current = r.current; outer = r.outer ++ r.current ∷ [] }
covered names r (event.Filters f) = record { current = given r.current (is_uniformity names f.rule) f.severity; outer = r.outer }
covered names r event.Uncovers = record { current = last_or severity.Error r.outer; outer = without_last r.outer }
covered names r _ = r

abbrev pub graded : Severity → Event → List Severity → List Severity
graded current (event.Node node) filters = slice_set filters node current
graded current _ filters = filters

-- the severity at each node, kept under its number
abbrev pub grades : List (List ℕ) → Ranges → List Event → List Severity → List Severity
grades names r [] filters = filters
grades names r (e ∷ es) filters = grades names (covered names r e) es (graded r.current e filters)

abbrev pub outside : Ranges
outside = record { current = severity.Error; outer = [] }

-- ---- tables with a place for each node

abbrev pub placed : {A : Type 0} → A → Event → List A
placed a (event.Node node) = a ∷ []
placed a _ = []

abbrev pub blank : {A : Type 0} → A → List Event → List A
blank a events = flat_map (placed a) events
