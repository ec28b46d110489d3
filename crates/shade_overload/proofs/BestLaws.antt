-- The best of some rows.
use Rattle.std.proofs.Common.{◌≡◌, sym, subst, List, [], ◌∷◌, Option, Some, None, arith}
use Rattle.std.specs.Prelude.{IfSome, OnSome, IfNone}
use Rattle.shade_values.specs.declared.types.Scalar.{Scalar}
use Rattle.shade_values.specs.declared.types.ShadeType.{ShadeType}
use Rattle.shade_overload.specs.declared.overload.Overload.{Overload}
use Rattle.shade_overload.specs.Best.{IsBest, IsRefused, IsChosen}
use Rattle.shade_overload.specs.Conversions.{BecomeAll, AreNearer}

pub near_self : (first : Scalar) (params : List ShadeType) → AreNearer first params params
near_self first [] = tt
near_self first (ty ∷ params) = (omega arith, near_self first params)

-- a row whose parameters are the only ones that the types become is best
pub only_best : (Rows : Overload → Type 0) (first : Scalar) (types : List ShadeType) (o : Overload) → Rows o → BecomeAll types o.params
    → ((other : Overload) → Rows other → BecomeAll types other.params → other.params ≡ o.params) → IsBest Rows first types o
only_best Rows first types o row taken only = record {
  row = row;
  taken = taken;
  near = λ other r h. subst (AreNearer first o.params) (sym (only other r h)) (near_self first o.params);
}

-- and where the types do not become those, no row takes them
pub only_refused : (Rows : Overload → Type 0) (types params : List ShadeType) → ¬ BecomeAll types params
    → ((other : Overload) → Rows other → BecomeAll types other.params → other.params ≡ params) → IsRefused Rows types
only_refused Rows types params none only other r h = none (subst (BecomeAll types) (only other r h) h)

-- rows that are alike where the types become their parameters have the same choice
pub chosen_within : (P Q : Overload → Type 0) (first : Scalar) (types : List ShadeType) (r : Option Overload)
    → ((o : Overload) → P o → Q o) → ((o : Overload) → Q o → BecomeAll types o.params → P o) → IsChosen P first types r → IsChosen Q first types r
chosen_within P Q first types (Some o) there back best = record {
  row = there o best.row;
  taken = best.taken;
  near = λ other q h. best.near other (back other q h) h;
}
chosen_within P Q first types None there back none = λ o q h. none o (back o q h) h

-- of rows with only such parameters the one that is tried is chosen, if the types become them
pub only_chosen : (Rows : Overload → Type 0) (first : Scalar) (types : List ShadeType) (row : Overload) (r : Option Overload) → Rows row
    → ((other : Overload) → Rows other → BecomeAll types other.params → other.params ≡ row.params)
    → IfSome r (λ o. o ≡ row) → OnSome r (BecomeAll types row.params) → IfNone r (¬ BecomeAll types row.params) → IsChosen Rows first types r
only_chosen Rows first types row (Some o) fits only is taken refused = subst (IsBest Rows first types) (sym is) (only_best Rows first types row fits taken only)
only_chosen Rows first types row None fits only is taken refused = only_refused Rows types row.params refused only
