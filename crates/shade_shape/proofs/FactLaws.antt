-- What is kept of a type is what holds of its shape.
use Rattle.std.proofs.Common.{◌≡◌, refl, sym, ap, ◌∙◌, ℕ, ◌+◌, ◌<◌, ◌≤◌, add-one, Bool, true, false, ◌&&◌, ◌||◌, List, [], ◌∷◌, ◌++◌, length, map, fold, take}
use Rattle.std.specs.Prelude.{if◌then◌else◌, slice_get, Some}
use Rattle.std.specs.List.{list_all, list_any}
use Rattle.std.proofs.lemmas.List.{map-append, take_all}
use Rattle.std.proofs.lemmas.List.Sums.{fold-append}
use Rattle.std.proofs.lemmas.Option.{get_or_from_slice_get}
use Rattle.std.proofs.Math.Seq.{take-suc}
use Rattle.std.proofs.Math.ListN.{get_or-map as get_or-map_same}
use Rattle.shade_values.specs.declared.types.Scalar.{Scalar}
use Rattle.shade_values.specs.declared.types.Scalar.TheVariants as scalar
use Rattle.shade_values.specs.declared.types.ShadeType.{ShadeType}
use Rattle.shade_values.specs.declared.types.ShadeType.TheVariants as type
use Rattle.shade_values.specs.declared.types.TypeId.{TypeId}
use Rattle.shade_values.specs.Table.{Table, StructView, members_at}
use Rattle.shade_values.specs.Shape.{Shape, plain, vector, array, pointer, atomic, exchanged, structure, shape_at, member_shapes, spell, with_spelling, shapes}
use Rattle.shade_values.specs.Layouts.{are_loadable}
use Rattle.shade_core.specs.Types.{is_data, are_data, is_endless, may_end_endless, hold_bool, hold_atomic, is_word}
use Rattle.shade_shape.specs.declared.facts.TypeFacts.{TypeFacts}
use Rattle.shade_shape.specs.Facts.{facts_of, fact_in, scalar_facts, atomic_facts, exchanged_facts, array_facts, runtime_facts, ends_by, struct_facts, facts_by}

pub fact_at : (known : List Shape) (id : TypeId) → fact_in (map facts_of known) id ≡ facts_of (shape_at known id)
fact_at known id = get_or-map_same facts_of known id.0 pointer

or_false : (a : Bool) → (a || false) ≡ a
or_false true = refl
or_false false = refl

data_members : (known : List Shape) (ms : List (List ℕ × TypeId)) → are_data (member_shapes known ms) ≡ list_all (λ m. (fact_in (map facts_of known) m.1).plain) ms
data_members known [] = refl
data_members known (m ∷ ms) = λ i. (sym (fact_at known m.1) i).plain && data_members known ms i

loadable_members : (known : List Shape) (ms : List (List ℕ × TypeId)) → are_loadable (member_shapes known ms) ≡ list_all (λ m. (fact_in (map facts_of known) m.1).loadable) ms
loadable_members known [] = refl
loadable_members known (m ∷ ms) = λ i. (sym (fact_at known m.1) i).loadable && loadable_members known ms i

bool_members : (known : List Shape) (ms : List (List ℕ × TypeId)) → hold_bool (member_shapes known ms) ≡ list_any (λ m. (fact_in (map facts_of known) m.1).holds_bool) ms
bool_members known [] = refl
bool_members known (m ∷ ms) = λ i. (sym (fact_at known m.1) i).holds_bool || bool_members known ms i

atomic_members : (known : List Shape) (ms : List (List ℕ × TypeId)) → hold_atomic (member_shapes known ms) ≡ list_any (λ m. (fact_in (map facts_of known) m.1).holds_atomic) ms
atomic_members known [] = refl
atomic_members known (m ∷ ms) = λ i. (sym (fact_at known m.1) i).holds_atomic || atomic_members known ms i

last_by : (d e : Bool) → (d || e) ≡ (if d then true else if e then true else false)
last_by true e = refl
last_by false true = refl
last_by false false = refl

next_by : (d e rest : Bool) → (d && rest) ≡ (if d then rest else if e then false else false)
next_by true e rest = refl
next_by false true rest = refl
next_by false false rest = refl

end_members : (known : List Shape) (ms : List (List ℕ × TypeId)) → may_end_endless (member_shapes known ms) ≡ ends_by (map facts_of known) false ms
end_members known [] = refl
end_members known (m ∷ []) =
    last_by (is_data (shape_at known m.1)) (is_endless (shape_at known m.1))
    ∙ (λ i. if (sym (fact_at known m.1) i).plain then true else if (sym (fact_at known m.1) i).endless then true else false)
end_members known (m ∷ n ∷ ms) =
    next_by (is_data (shape_at known m.1)) (is_endless (shape_at known m.1)) (may_end_endless (member_shapes known (n ∷ ms)))
    ∙ (λ i. if (sym (fact_at known m.1) i).plain then end_members known (n ∷ ms) i else if (sym (fact_at known m.1) i).endless then false else false)

of_plain : (s : Scalar) → facts_of (plain s) ≡ scalar_facts s
of_plain scalar.Bool = refl
of_plain scalar.I32 = refl
of_plain scalar.U32 = refl
of_plain scalar.Abstract = refl

of_vector : (n : ℕ) (s : Scalar) → facts_of (vector n s) ≡ scalar_facts s
of_vector n scalar.Bool = refl
of_vector n scalar.I32 = refl
of_vector n scalar.U32 = refl
of_vector n scalar.Abstract = refl

of_array : (sh : Shape) (count : ℕ) → facts_of (array sh count) ≡ array_facts (facts_of sh)
of_array sh count = λ i. record (array_facts (facts_of sh)) { buffer = or_false (is_data sh) i }

of_atomic : (s : Scalar) → facts_of (atomic s) ≡ atomic_facts s
of_atomic s = λ i. record (atomic_facts s) { buffer = or_false (is_word s) i }

of_exchanged : (s : Scalar) → facts_of (exchanged s) ≡ exchanged_facts s
of_exchanged s = λ i. record (exchanged_facts s) { buffer = or_false (is_word s) i }

of_struct : (known : List Shape) (ms : List (List ℕ × TypeId)) → facts_of (structure (member_shapes known ms)) ≡ struct_facts (map facts_of known) ms
of_struct known ms = λ i. record {
  plain = data_members known ms i;
  loadable = loadable_members known ms i;
  endless = false;
  buffer = end_members known ms i;
  holds_bool = bool_members known ms i;
  holds_atomic = atomic_members known ms i;
}

pub facts_spell : (structs : List StructView) (known : List Shape) (ty : ShadeType) → facts_of (spell structs known ty) ≡ facts_by (map facts_of known) structs ty
facts_spell structs known (type.Plain s) = of_plain s
facts_spell structs known (type.Vector parts s) = of_vector parts s
facts_spell structs known (type.Array element count) = of_array (shape_at known element) count ∙ ap array_facts (sym (fact_at known element))
facts_spell structs known (type.RuntimeArray element) = ap runtime_facts (sym (fact_at known element))
facts_spell structs known (type.Atomic s) = of_atomic s
facts_spell structs known (type.Struct number) = of_struct known (members_at structs number)
facts_spell structs known (type.Exchanged s) = of_exchanged s
facts_spell structs known (type.Pointer in_space pointee access) = refl

-- one more type
pub facts_step : (t : Table) (n : ℕ) (ty : ShadeType) (facts new : List TypeFacts) → n < length t.types → slice_get t.types n ≡ Some ty → facts ≡ map facts_of (fold (with_spelling t.structs) [] (take n t.types))
    → new ≡ facts ++ facts_by facts t.structs ty ∷ [] → new ≡ map facts_of (fold (with_spelling t.structs) [] (take (n + 1) t.types))
facts_step t n ty facts new lt at are is =
    let known = fold (with_spelling t.structs) [] (take n t.types) in
    let front : take (n + 1) t.types ≡ take n t.types ++ ty ∷ [] = ap (λ k. take k t.types) (add-one n) ∙ (take-suc t.types n ty lt ∙ ap (λ x. take n t.types ++ x ∷ []) (get_or_from_slice_get t.types n ty ty at)) in
    let spelled : fold (with_spelling t.structs) [] (take (n + 1) t.types) ≡ known ++ spell t.structs known ty ∷ [] =
    ap (fold (with_spelling t.structs) []) front ∙ fold-append (with_spelling t.structs) [] (take n t.types) (ty ∷ []) in
    is ∙ (ap (λ f. f ++ facts_by f t.structs ty ∷ []) are ∙ (ap (λ x. map facts_of known ++ x ∷ []) (sym (facts_spell t.structs known ty))
    ∙ (sym (map-append facts_of known (spell t.structs known ty ∷ [])) ∙ ap (map facts_of) (sym spelled))))

pub facts_end : (t : Table) (n : ℕ) (facts : List TypeFacts) → length t.types ≤ n → facts ≡ map facts_of (fold (with_spelling t.structs) [] (take n t.types)) → facts ≡ map facts_of (shapes t)
facts_end t n facts le are = are ∙ ap (λ x. map facts_of (fold (with_spelling t.structs) [] x)) (take_all n t.types le)
