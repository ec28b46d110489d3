-- One answer that leads to another.
use Rattle.std.proofs.Common.{◌≡◌, sym, ap, subst, ◌∙◌, Bool, List, map, Option, Some, None, Result, Ok, Err}
use Rattle.shade_base.specs.declared.place.Place.{Place}
use Rattle.shade_values.specs.declared.types.Scalar.{Scalar}
use Rattle.shade_values.specs.declared.types.ShadeType.{ShadeType}
use Rattle.shade_values.specs.declared.value.Value.{Value}
use Rattle.shade_overload.specs.declared.overload.Overload.{Overload}
use Rattle.shade_overload.specs.Best.{IsBest, IsRefused}
use Rattle.shade_overload.specs.Rows.{IsRow, first_choice}
use Rattle.shade_known.specs.declared.known.Operand.{Operand}
use Rattle.shade_known.specs.declared.known.Known.{Known}
use Rattle.shade_known.specs.declared.known.Found.{Found}
use Rattle.shade_known.specs.declared.operation.Application.{Application}
use Rattle.shade_known.specs.declared.convert.Conversion.TheVariants as conversion
use Rattle.shade_known.specs.declared.fault.TypingFault.{TypingFault}
use Rattle.shade_known.specs.declared.fault.TypingFault.TheVariants as fault
use Rattle.shade_known.specs.declared.fault.TypeRule.TheVariants as rule
use Rattle.shade_known.specs.Answers.{Answers}
use Rattle.shade_known.specs.Lookups.{first_untyped, types_of, type_of_node, value_of_node}
use Rattle.shade_known.specs.Conversions.{IsConversion, ConvertsTo, taken}
use Rattle.shade_known.specs.Operates.{concrete, row_value, without_value, no_overload, ByValue, Again, ByTypes, OperatesBy, Operates}

pub answers_on : {A : Type 0} {P Q : Result A TypingFault → Type 0} (r : Result A TypingFault) → ((x : Result A TypingFault) → P x → Q x) → Answers P r → Answers Q r
answers_on (Ok a) f p = f (Ok a) p
answers_on (Err (fault.Rule place broken)) f p = f (Err (fault.Rule place broken)) p
answers_on (Err (fault.OutOfProfile place word)) f p = f (Err (fault.OutOfProfile place word)) p
answers_on (Err (fault.Constant c)) f p = f (Err (fault.Constant c)) p
answers_on (Err fault.NoMemory) f p = p

pub answers_by : {A : Type 0} (P : Result A TypingFault → Type 0) (r : Result A TypingFault) → P r → Answers P r
answers_by P (Ok a) p = p
answers_by P (Err (fault.Rule place broken)) p = p
answers_by P (Err (fault.OutOfProfile place word)) p = p
answers_by P (Err (fault.Constant c)) p = p
answers_by P (Err fault.NoMemory) p = tt

-- ---- conversions

module _ (k : Known) (idle : Bool) (operand : Operand) (to : ShadeType) where
  pub nothing_to_convert : None ≡ type_of_node k operand.node → ConvertsTo k idle operand to (Err (fault.Rule operand.place rule.Conversion))
  nothing_to_convert is = ConvertsTo.no_value (sym is)

  module _ (from : ShadeType) (is : Some from ≡ type_of_node k operand.node) where
    pub cannot_convert : IsConversion k.types from to conversion.Cannot → ConvertsTo k idle operand to (Err (fault.Rule operand.place rule.Conversion))
    cannot_convert never = ConvertsTo.cannot from (sym is) never

    convert_by : (becomes : Option Scalar) (value : Option Value) (r : Result (Option Value) TypingFault) → value ≡ value_of_node k.facts operand.node
        → ConvertsTo k idle operand to (taken idle becomes (value_of_node k.facts operand.node) operand.place)
        → Answers (λ (x : Result (Option Value) TypingFault). x ≡ taken idle becomes value operand.place) r → Answers (ConvertsTo k idle operand to) r
    convert_by becomes value r value_is whole h =
        answers_on {P = λ (x : Result (Option Value) TypingFault). x ≡ taken idle becomes value operand.place} {Q = ConvertsTo k idle operand to} r
        (λ x e. subst (ConvertsTo k idle operand to) (sym (e ∙ ap (λ z. taken idle becomes z operand.place) value_is)) whole) h

    pub stays_so : (value : Option Value) (r : Result (Option Value) TypingFault) → value ≡ value_of_node k.facts operand.node → IsConversion k.types from to conversion.Stays
        → Answers (λ (x : Result (Option Value) TypingFault). x ≡ taken idle None value operand.place) r → Answers (ConvertsTo k idle operand to) r
    stays_so value r value_is by h = convert_by None value r value_is (ConvertsTo.can from None (sym is) by) h

    pub becomes_so : (s : Scalar) (value : Option Value) (r : Result (Option Value) TypingFault) → value ≡ value_of_node k.facts operand.node
        → IsConversion k.types from to (conversion.Becomes s)
        → Answers (λ (x : Result (Option Value) TypingFault). x ≡ taken idle (Some s) value operand.place) r → Answers (ConvertsTo k idle operand to) r
    becomes_so s value r value_is by h = convert_by (Some s) value r value_is (ConvertsTo.can from (Some s) (sym is) by) h

-- ---- rows

module _ (k : Known) (a : Application) (os : List Operand) where
  pub again_none : (types settled ts : List ShadeType) → types ≡ types_of k os → settled ≡ map concrete types → ts ≡ settled
      → IsRefused (IsRow k.types a.builtin) ts → Again k a os (no_overload a.at)
  again_none types settled ts is_types is_settled is_ts h =
      Again.no_row (subst (IsRefused (IsRow k.types a.builtin)) (is_ts ∙ is_settled ∙ ap (map concrete) is_types) h)

  pub again_some : (types settled ts : List ShadeType) (o : Overload) (r : Result Found TypingFault) → types ≡ types_of k os → settled ≡ map concrete types → ts ≡ settled
      → IsBest (IsRow k.types a.builtin) (first_choice a.builtin) ts o → r ≡ without_value a.idle k.facts os o → Answers (Again k a os) r
  again_some types settled ts o r is_types is_settled is_ts h is =
      answers_by (Again k a os) r (subst (Again k a os) (sym is)
      (Again.one_row o (subst (λ z. IsBest (IsRow k.types a.builtin) (first_choice a.builtin) z o) (is_ts ∙ is_settled ∙ ap (map concrete) is_types) h)))

  pub types_none : (types ts : List ShadeType) → types ≡ types_of k os → ts ≡ types → IsRefused (IsRow k.types a.builtin) ts → ByTypes k a os (no_overload a.at)
  types_none types ts is_types is_ts h = ByTypes.refused (subst (IsRefused (IsRow k.types a.builtin)) (is_ts ∙ is_types) h)

  pub types_some : (types ts : List ShadeType) (o : Overload) (r : Result Found TypingFault) → types ≡ types_of k os → ts ≡ types
      → IsBest (IsRow k.types a.builtin) (first_choice a.builtin) ts o → Answers (ByValue (row_value k a os o) k a os o) r → Answers (ByTypes k a os) r
  types_some types ts o r is_types is_ts h p =
      answers_on {P = ByValue (row_value k a os o) k a os o} {Q = ByTypes k a os} r
      (λ x q. ByTypes.chosen o x (subst (λ z. IsBest (IsRow k.types a.builtin) (first_choice a.builtin) z o) (is_ts ∙ is_types) h) q) p

  pub operates_by : (o : Option Place) (r : Result Found TypingFault) → o ≡ first_untyped k os → OperatesBy o k a os r → Operates k a os r
  operates_by o r is h = subst (λ z. OperatesBy z k a os r) is h

  pub typed_operates : (r : Result Found TypingFault) → None ≡ first_untyped k os → Answers (ByTypes k a os) r → Answers (Operates k a os) r
  typed_operates r is h = answers_on {P = ByTypes k a os} {Q = Operates k a os} r (λ x q. operates_by None x is q) h
