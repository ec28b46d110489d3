use Rattle.std.proofs.Common.{◌≡◌, ◌++◌, drop}
use Rattle.std.specs.List.{flat_map}
use Rattle.shade_steps.specs.Statements.{attr_steps, first_node}
use Rattle.shade_steps.proofs.attributes.add_attrs.Given as goal

abbrev pub invariant-loop-attr : goal.invariant-loop-attr
invariant-loop-attr l = record {
  first : l.first ≡ first_node l.attrs;
  added : l.out ++ flat_map (attr_steps l.names l.position (first_node l.attrs)) (drop l.attr-index l.attrs) ≡ l.initial.out ++ flat_map (attr_steps l.names l.position (first_node l.attrs)) l.attrs;
}
