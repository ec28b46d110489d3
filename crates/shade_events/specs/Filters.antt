-- What the attributes and directives of diagnostic filters say (WGSL, "Diagnostic Filters"): `@diagnostic(SEVERITY, RULE)` before what it
-- covers, and `diagnostic(SEVERITY, RULE);` for the module.
use Rattle.std.specs.Prelude.{ℕ, List, [], ◌∷◌, Option, Some, None}
use Rattle.shade_base.specs.declared.place.Place.{Place}
use Rattle.shade_base.specs.declared.severity.Severity.{Severity}
use Rattle.shade_ast.specs.declared.attr.Attr.{Attr}
use Rattle.shade_ast.specs.declared.attr.AttrName.{AttrName}
use Rattle.shade_ast.specs.declared.attr.AttrName.TheVariants as attr
use Rattle.shade_ast.specs.declared.attr.Arguments.{Arguments}
use Rattle.shade_ast.specs.declared.expr.Expr.{Expr}
use Rattle.shade_ast.specs.declared.expr.ExprKind.{ExprKind, ExprKind-F, out-ExprKind}
use Rattle.shade_ast.specs.declared.expr.ExprKind.TheOpen as kind
use Rattle.shade_ast.specs.declared.tree.Directive.{Directive}
use Rattle.shade_ast.specs.declared.tree.DirectiveKind.{DirectiveKind}
use Rattle.shade_ast.specs.declared.tree.DirectiveKind.TheVariants as directive
use Rattle.shade_ast.specs.declared.tree.Rule.{Rule}
use Rattle.shade_ast.specs.declared.tree.Rule.TheVariants as rule
use Rattle.shade_events.specs.declared.filters.Filter.{Filter}
use Rattle.shade_events.specs.declared.filters.RuleName.{RuleName}
use Rattle.shade_events.specs.declared.filters.RuleName.TheVariants as named_rule
use Rattle.shade_events.specs.Words.{severity_named}

-- ---- what the arguments say

-- the name that an expression is
abbrev pub word_in : ExprKind-F ExprKind Expr → Option ℕ
word_in (kind.Name name) = Some name
word_in _ = None

abbrev pub word_of : Expr → Option ℕ
word_of e = word_in (out-ExprKind e.kind)

abbrev pub scoped : Option ℕ → ℕ → Option RuleName
scoped None name = None
scoped (Some scope) name = Some (named_rule.Scoped scope name)

-- a rule is a name, or two with a `.` between them
abbrev pub rule_in : ExprKind-F ExprKind Expr → Option RuleName
rule_in (kind.Name name) = Some (named_rule.Plain name)
rule_in (kind.Member whole dot member) = scoped (word_of whole) member.name
rule_in _ = None

abbrev pub rule_of : Expr → Option RuleName
rule_of e = rule_in (out-ExprKind e.kind)

abbrev pub severity_by : List (List ℕ) → Option ℕ → Option Severity
severity_by names None = None
severity_by names (Some name) = severity_named names name

abbrev pub severity_in : List (List ℕ) → Expr → Option Severity
severity_in names e = severity_by names (word_of e)

-- ---- filters, with the places at which they are told

abbrev pub made_filter : Place → Option Severity → Option RuleName → Option Filter
made_filter place (Some s) (Some r) = Some (record { severity = s; rule = r; place = place })
made_filter place _ _ = None

-- a severity and a rule, and nothing else
abbrev pub filter_in : List (List ℕ) → Place → List Expr → Option Filter
filter_in names place (first ∷ second ∷ []) = made_filter place (severity_in names first) (rule_of second)
filter_in names place _ = None

abbrev pub filter_named : List (List ℕ) → Place → AttrName → Option Arguments → Option Filter
filter_named names place (attr.Diagnostic keyword) (Some arguments) = filter_in names place arguments.items
filter_named names place _ _ = None

-- the filter that an attribute is
abbrev pub filter_of : List (List ℕ) → Attr → Option Filter
filter_of names a = filter_named names a.place a.name a.arguments

abbrev pub rule_name : Rule → RuleName
rule_name (rule.Plain name) = named_rule.Plain name.name
rule_name (rule.Scoped scope dot name) = named_rule.Scoped scope.name name.name

abbrev pub directive_in : List (List ℕ) → Place → DirectiveKind → Option Filter
directive_in names place (directive.Diagnostic chosen r trailing) = made_filter place (severity_named names chosen.name) (Some (rule_name r))
directive_in names place _ = None

-- the filter of the module that a directive is
abbrev pub directive_filter : List (List ℕ) → Directive → Option Filter
directive_filter names d = directive_in names d.place d.kind

-- ---- what stands in the severity's place and is none

abbrev pub unless : Place → Option Severity → Option Place
unless place (Some s) = None
unless place None = Some place

abbrev pub bad_in : List (List ℕ) → List Expr → Option Place
bad_in names [] = None
bad_in names (first ∷ others) = unless first.place (severity_in names first)

abbrev pub bad_named : List (List ℕ) → AttrName → Option Arguments → Option Place
bad_named names (attr.Diagnostic keyword) (Some arguments) = bad_in names arguments.items
bad_named names _ _ = None

abbrev pub bad_severity : List (List ℕ) → Attr → Option Place
bad_severity names a = bad_named names a.name a.arguments

abbrev pub bad_directive : List (List ℕ) → DirectiveKind → Option Place
bad_directive names (directive.Diagnostic chosen r trailing) = unless chosen.place (severity_named names chosen.name)
bad_directive names _ = None
