-- The types that are written in declarations.
use Rattle.std.specs.Prelude.{Option}
use Rattle.shade_values.specs.declared.types.TypeId.{TypeId}
use Rattle.shade_known.specs.declared.known.Known.{Known}
use Rattle.shade_known.specs.declared.known.Operand.{Operand}
use Rattle.shade_known.specs.Lookups.{what_in}
use Rattle.shade_calls.specs.Templates.{id_named}

-- the type that stands at a node
abbrev pub written_id : Known → Operand → Option TypeId
written_id k o = id_named (what_in k.facts o.node)
