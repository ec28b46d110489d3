use Rattle.std.proofs.Common.{ap, sym, ◌∙◌}
use Rattle.std.specs.List.{list_all}
use Rattle.std.proofs.lemmas.List.Folds.{list_all-map}
use Rattle.shade_values.specs.declared.value.Value.TheViews.{outs-Many}
use Rattle.shade_values.specs.Parts.{own_leaf}
use Rattle.shade_values.specs.Apply.{is_true}
use Rattle.shade_values.proofs.operations.all_true.Goals as goal

pub returns-in-Many : goal.returns-in-Many
returns-in-Many c =
    rw (c.in-Many.is, outs-Many c.in-Many.parts) (c.all_of.ensures ∙ ap (list_all (λ v. is_true (own_leaf v))) c.as_slice.ensures ∙ sym (list_all-map is_true own_leaf c.in-Many.parts))
