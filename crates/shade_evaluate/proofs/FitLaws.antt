-- What fits, part by part.
use Rattle.std.proofs.Common.{◌≡◌, ap, ◌∙◌, Bool, List}
use Rattle.std.specs.List.{list_all}
use Rattle.std.proofs.lemmas.List.Folds.{list_all-map}
use Rattle.shade_values.specs.declared.types.Scalar.{Scalar}
use Rattle.shade_values.specs.declared.value.Value.{Value, map-Value, fold_out-Value}
use Rattle.shade_values.specs.declared.value.Value.TheVariants as value
use Rattle.shade_values.specs.declared.value.Value.TheViews.{outs-Many}
use Rattle.shade_evaluate.specs.Fits.{fits, fits_by}

pub fits_many : (to : Scalar) (parts : List Value) → fits to (value.Many parts) ≡ list_all (fits to) parts
fits_many to parts =
    fold_out-Value Bool (fits_by to) (value.Many parts)
    ∙ ap (λ y. fits_by to (map-Value Value Bool (fits to) y)) (outs-Many parts)
    ∙ list_all-map (λ (fit : Bool). fit) (fits to) parts
