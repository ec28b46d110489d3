-- How deep members are nested, by what is kept of each type.
use Rattle.std.specs.Prelude.{ℕ, Bool, List, nat_le}
use Rattle.std.specs.List.{list_any}
use Rattle.shade_values.specs.declared.types.TypeId.{TypeId}
use Rattle.shade_core.specs.Types.{greatest_nesting}
use Rattle.shade_shape.specs.Depths.{depth_in}

-- a struct of these members would be nested too deep
abbrev pub are_deep : List ℕ → List (List ℕ × TypeId) → Bool
are_deep depths ms = list_any (λ m. nat_le greatest_nesting (depth_in depths m.1)) ms
