use Rattle.std.proofs.Common.{ap, sym, ◌∙◌}
use Rattle.std.specs.List.{list_any}
use Rattle.shade_values.proofs.Lists.{list_any-map}
use Rattle.shade_values.specs.declared.value.Value.TheViews.{outs-Many}
use Rattle.shade_values.specs.Parts.{own_leaf}
use Rattle.shade_values.specs.Apply.{is_true}
use Rattle.shade_values.proofs.operations.any_true.Goals as goal

pub returns-in-Many : goal.returns-in-Many
returns-in-Many c =
    rw (c.in-Many.is, outs-Many c.in-Many.parts) (c.any_of.ensures ∙ ap (list_any (λ v. is_true (own_leaf v))) c.as_slice.ensures ∙ sym (list_any-map is_true own_leaf c.in-Many.parts))
