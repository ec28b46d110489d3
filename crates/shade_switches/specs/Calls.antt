-- Rule: calls as statements. (WGSL, "Function Call Statement".) A function of the text may be called so where it is not `@must_use`, and a function of
-- atomics too; of each other call with a result that is dropped, constructors included, the rule of calls fails at its first token.
use Rattle.std.specs.Prelude.{Bool, false, not, ◌&&◌, Option, Some, is_some, Ok, if◌then◌else◌}
use Rattle.shade_overload.specs.Patterns.{atomic}
use Rattle.shade_known.specs.declared.known.Found.TheVariants as found
use Rattle.shade_known.specs.declared.known.Known.{Known}
use Rattle.shade_known.specs.declared.known.Operand.{Operand}
use Rattle.shade_known.specs.declared.known.What.{What}
use Rattle.shade_known.specs.declared.known.What.TheVariants as what
use Rattle.shade_known.specs.declared.fault.TypeRule.TheVariants as rule
use Rattle.shade_known.specs.Lookups.{what_in, type_of_node}
use Rattle.shade_typing.specs.Values.{Answer, breaks}

-- whether the result of what is called may be dropped
abbrev pub may_be_dropped : Option What → Bool
may_be_dropped (Some (what.Builtin b)) = is_some (atomic b)
may_be_dropped (Some (what.Function parameters given must_use entry)) = not must_use
may_be_dropped w = false

-- of a call; one without a result is no value
abbrev pub dropped_call : Known → Operand → Operand → Answer
dropped_call k call callee =
    if is_some (type_of_node k call.node) && not (may_be_dropped (what_in k.facts callee.node)) then breaks call.place rule.Call else Ok found.Nothing
