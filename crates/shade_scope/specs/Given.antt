-- On the way: what is kept of the filters of a range, so that one that clashes with any of them is found by one look-up.
use Rattle.std.specs.Prelude.{◌≡◌, ℕ, Bool, true, false, not, List, [], ◌∷◌, Option, None, Some, ◌==◌, if◌then◌else◌}
use Rattle.std.specs.Option.{option_cmp}
use Rattle.std.specs.declared.cmp.Ordering.{Ordering}
use Rattle.std.specs.Ordering.{nat_cmp, ordering_then}
use Rattle.std.specs.BTreeMap.{BTreeMap, Updates, get}
use Rattle.shade_base.specs.declared.severity.Severity.{Severity}
use Rattle.shade_events.specs.declared.event.Event.{Event}
use Rattle.shade_events.specs.declared.event.Event.TheVariants as event
use Rattle.shade_events.specs.declared.filters.Filter.{Filter}
use Rattle.shade_events.specs.declared.filters.RuleName.{RuleName}
use Rattle.shade_events.specs.declared.filters.RuleName.TheVariants as named_rule
use Rattle.shade_scope.specs.declared.conflicts.Given.{Given}
use Rattle.shade_scope.specs.declared.conflicts.Given.TheVariants as given
use Rattle.shade_scope.specs.declared.fault.ScopeFault.{ScopeFault}
use Rattle.shade_scope.specs.declared.fault.ScopeFault.TheVariants as fault
use Rattle.shade_scope.specs.Conflicts.{is_same_rule, rank}

abbrev pub Key : Type 0
Key = Option ℕ × ℕ

abbrev pub key : RuleName → Key
key (named_rule.Plain name) = (None, name)
key (named_rule.Scoped scope name) = (Some scope, name)

abbrev pub key_cmp : Key → Key → Ordering
key_cmp a b = ordering_then (option_cmp nat_cmp a.0 b.0) (nat_cmp a.1 b.1)

-- whether a filter clashes with one of those of its rule
abbrev pub differs : Option Given → Severity → Bool
differs None severity = false
differs (Some (given.One first)) severity = not (rank first == rank severity)
differs (Some given.Several) severity = true

abbrev pub joined : Option Given → Severity → Given
joined None severity = given.One severity
joined (Some (given.One first)) severity = if rank first == rank severity then given.One first else given.Several
joined (Some given.Several) severity = given.Several

-- what some filters give a rule, behind what was given it before
abbrev pub taken : RuleName → Option Given → Filter → Option Given
taken rule before f = if is_same_rule f.rule rule then Some (joined before f.severity) else before

abbrev pub summary : RuleName → Option Given → List Filter → Option Given
summary rule before [] = before
summary rule before (f ∷ fs) = summary rule (taken rule before f) fs

abbrev pub conflict_by : BTreeMap Key Given → Event → List ScopeFault
conflict_by rules (event.Filters f) = if differs (get key_cmp rules (key f.rule)) f.severity then fault.Conflict f.place ∷ [] else []
conflict_by rules _ = []

-- how what is kept changes with an event
abbrev pub Keeps : BTreeMap Key Given → BTreeMap Key Given → Event → Type 0
Keeps old new event.Covers = new.entries ≡ []
Keeps old new (event.Filters f) = Updates key_cmp old new (key f.rule) (Some (joined (get key_cmp old (key f.rule)) f.severity))
Keeps old new _ = new ≡ old
