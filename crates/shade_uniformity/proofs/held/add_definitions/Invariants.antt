use Rattle.std.proofs.Common.{◌≡◌, ◌++◌, drop, map}
use Rattle.shade_flow.specs.declared.definition.Definition.{Definition}
use Rattle.shade_uniformity.specs.RowLists.{given}
use Rattle.shade_uniformity.specs.Rows.{definition_node}
use Rattle.shade_uniformity.proofs.held.add_definitions.Given as goal

abbrev pub invariant-definitions : goal.invariant-definitions
invariant-definitions l =
    l.rows.items ++ map (λ (by : Definition). given l.statement l.from (definition_node by)) (drop l.by-index l.definitions)
    ≡ l.initial.rows.items ++ map (λ (by : Definition). given l.statement l.from (definition_node by)) l.definitions
