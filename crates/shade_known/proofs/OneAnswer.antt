-- From what is known, each question has one answer.
use Rattle.std.proofs.Common.{◌≡◌, refl, sym, ap, subst, ◌∙◌, Bool, true, false, List, map, Option, Some, None, Result, Ok, Err}
use Rattle.std.specs.List.{list_any}
use Rattle.shade_base.specs.declared.place.Place.{Place}
use Rattle.shade_values.specs.declared.value.Value.{Value}
use Rattle.shade_overload.specs.declared.overload.Overload.{Overload}
use Rattle.shade_overload.specs.Laws.{AtMostOneIsBest}
use Rattle.shade_overload.specs.Rows.{first_choice}
use Rattle.shade_known.specs.declared.known.Operand.{Operand}
use Rattle.shade_known.specs.declared.known.Known.{Known}
use Rattle.shade_known.specs.declared.known.Found.{Found}
use Rattle.shade_known.specs.declared.operation.Application.{Application}
use Rattle.shade_known.specs.declared.fault.TypingFault.{TypingFault}
use Rattle.shade_known.specs.Lookups.{first_untyped, types_of, value_of_node}
use Rattle.shade_known.specs.Conversions.{Converts, no_value, cannot, can, taken}
use Rattle.shade_known.specs.Operates.{concrete, is_abstract, row_value, without_value, ByParams, ByValue, Again, no_row, one_row, ByTypes, refused, chosen, OperatesBy, Operates}
use Rattle.shade_known.specs.Laws.{OperatesInOneWay, ConvertsInOneWay}
use Rattle.shade_known.proofs.Becoming.{becomes_one}

both : {A : Type 0} {x y z : A} → x ≡ z → y ≡ z → x ≡ y
both p q = p ∙ sym q

module _ (one : AtMostOneIsBest) (k : Known) (a : Application) (os : List Operand) where
  again_one : (r s : Result Found TypingFault) → Again k a os r → Again k a os s → r ≡ s
  again_one r s (no_row h) (no_row g) = refl
  again_one r s (no_row h) (one_row o best) = absurd (h o best.row best.taken)
  again_one r s (one_row o best) (no_row h) = absurd (h o best.row best.taken)
  again_one r s (one_row o best) (one_row p other) =
      ap (without_value a.idle k.facts os) (one k.types a.builtin (first_choice a.builtin) (map concrete (types_of k os)) o p best other)

  params_one : (b : Bool) (o : Overload) (r s : Result Found TypingFault) → ByParams b k a os o r → ByParams b k a os o s → r ≡ s
  params_one true o r s p q = again_one r s p q
  params_one false o r s p q = both p q

  value_one : (v : Result (Option Value) TypingFault) (o : Overload) (r s : Result Found TypingFault) → ByValue v k a os o r → ByValue v k a os o s → r ≡ s
  value_one (Ok (Some v)) o r s p q = both p q
  value_one (Ok None) o r s p q = params_one (list_any is_abstract o.params) o r s p q
  value_one (Err e) o r s p q = both p q

  types_one : (r s : Result Found TypingFault) → ByTypes k a os r → ByTypes k a os s → r ≡ s
  types_one r s (refused h) (refused g) = refl
  types_one r s (refused h) (chosen o x best by) = absurd (h o best.row best.taken)
  types_one r s (chosen o x best by) (refused h) = absurd (h o best.row best.taken)
  types_one r s (chosen o x best by) (chosen p y other too) =
      let same : o ≡ p = one k.types a.builtin (first_choice a.builtin) (types_of k os) o p best other in
      value_one (row_value k a os p) p r s (subst (λ z. ByValue (row_value k a os z) k a os z r) same by) too

  operates_by_one : (o : Option Place) (r s : Result Found TypingFault) → OperatesBy o k a os r → OperatesBy o k a os s → r ≡ s
  operates_by_one (Some place) r s p q = both p q
  operates_by_one None r s p q = types_one r s p q

  pub operates_one : (r s : Result Found TypingFault) → Operates k a os r → Operates k a os s → r ≡ s
  operates_one r s p q = operates_by_one (first_untyped k os) r s p q

pub operates_in_one_way : AtMostOneIsBest → OperatesInOneWay
operates_in_one_way one k a os r s p q = operates_one one k a os r s p q

some_none : {A B : Type 0} {x : A} {o : Option A} → o ≡ None → o ≡ Some x → B
some_none p q = absurd (cc)

some_some : {A : Type 0} {x y : A} {o : Option A} → o ≡ Some x → o ≡ Some y → x ≡ y
some_some p q = cc

pub converts_in_one_way : ConvertsInOneWay
converts_in_one_way k idle operand to r s (no_value h) (no_value g) = refl
converts_in_one_way k idle operand to r s (no_value h) (cannot from is never) = refl
converts_in_one_way k idle operand to r s (no_value h) (can from o is by) = some_none h is
converts_in_one_way k idle operand to r s (cannot from is never) (no_value h) = refl
converts_in_one_way k idle operand to r s (cannot from is never) (cannot other at neither) = refl
converts_in_one_way k idle operand to r s (cannot from is never) (can other o at by) =
    absurd (never o (subst (λ z. Converts k.types z to o) (some_some at is) by))
converts_in_one_way k idle operand to r s (can from o is by) (no_value h) = some_none h is
converts_in_one_way k idle operand to r s (can from o is by) (cannot other at never) =
    absurd (never o (subst (λ z. Converts k.types z to o) (some_some is at) by))
converts_in_one_way k idle operand to r s (can from o is by) (can other p at too) =
    ap (λ z. taken idle z (value_of_node k.facts operand.node) operand.place) (becomes_one k.types by p (subst (λ z. Converts k.types z to p) (some_some at is) too))
