-- What the rows give that take some types, none of them AbstractInt.
use Rattle.std.proofs.Common.{◌≡◌, ◌≢◌, refl, sym, ap, subst, ◌∙◌, List, [], ◌∷◌, Some, None, arith}
use Rattle.std.specs.Prelude.{All, Contains}
use Rattle.std.proofs.lemmas.List.Elements.{All-head, All-tail, All-weaker}
use Rattle.shade_values.specs.declared.types.Scalar.{Scalar}
use Rattle.shade_values.specs.declared.types.Scalar.TheVariants as scalar
use Rattle.shade_values.specs.declared.types.ShadeType.{ShadeType}
use Rattle.shade_values.specs.declared.types.ShadeType.TheVariants as type
use Rattle.shade_values.specs.Sound.{IsOf, IsSound}
use Rattle.shade_values.specs.Table.{Table}
use Rattle.shade_overload.specs.Best.{IsBest, IsRefused}
use Rattle.shade_overload.specs.Conversions.{ScalarBecomes, Becomes, BecomeAll, AreNearer}
use Rattle.shade_overload.specs.Rows.{IsKnown, IsRow}
use Rattle.shade_overload.specs.declared.builtin.Builtin.{Builtin}
use Rattle.shade_overload.specs.declared.overload.Overload.{Overload}
use Rattle.shade_overload.proofs.OneBest.{one_best}
use Rattle.shade_overload.proofs.ResultLaws.{named_of}
use Rattle.shade_core.specs.Types.{IsConstructible, IsHeld}
use Rattle.shade_typed.specs.Answers.{Answers}
use Rattle.shade_typed.specs.Rules.{RowTakes}
use Rattle.shade_typed.proofs.AnswerLaws.{answers_none, answers_one}
use Rattle.shade_typed.proofs.ContextLaws.{id_of}

-- ---- types that stay what they are

scalar_stays : (s : Scalar) → ScalarBecomes s s
scalar_stays scalar.Abstract = tt
scalar_stays scalar.Bool = refl
scalar_stays scalar.I32 = refl
scalar_stays scalar.U32 = refl

stays : (ty : ShadeType) → Becomes ty ty
stays (type.Plain s) = scalar_stays s
stays (type.Vector n s) = (refl, scalar_stays s)
stays (type.Array element count) = refl
stays (type.RuntimeArray element) = refl
stays (type.Atomic s) = refl
stays (type.Struct number) = refl
stays (type.Exchanged s) = refl
stays (type.Pointer in_space pointee access) = refl

all_stay : (types : List ShadeType) → BecomeAll types types
all_stay [] = tt
all_stay (ty ∷ types) = (stays ty, all_stay types)

scalar_same : (s x : Scalar) → Some s ≢ Some scalar.Abstract → ScalarBecomes s x → s ≡ x
scalar_same scalar.Abstract x known h = absurd (known refl)
scalar_same scalar.Bool x known h = h
scalar_same scalar.I32 x known h = h
scalar_same scalar.U32 x known h = h

becomes_same : (ty p : ShadeType) → IsKnown ty → Becomes ty p → ty ≡ p
becomes_same (type.Plain s) (type.Plain x) known h = ap type.Plain (scalar_same s x known h)
becomes_same (type.Plain s) (type.Vector n x) known h = h
becomes_same (type.Plain s) (type.Array element count) known h = h
becomes_same (type.Plain s) (type.RuntimeArray element) known h = h
becomes_same (type.Plain s) (type.Atomic x) known h = h
becomes_same (type.Plain s) (type.Struct number) known h = h
becomes_same (type.Plain s) (type.Exchanged x) known h = h
becomes_same (type.Plain s) (type.Pointer in_space pointee access) known h = h
becomes_same (type.Vector m s) (type.Vector n x) known h = λ i. type.Vector (h.0 i) (scalar_same s x known h.1 i)
becomes_same (type.Vector m s) (type.Plain x) known h = h
becomes_same (type.Vector m s) (type.Array element count) known h = h
becomes_same (type.Vector m s) (type.RuntimeArray element) known h = h
becomes_same (type.Vector m s) (type.Atomic x) known h = h
becomes_same (type.Vector m s) (type.Struct number) known h = h
becomes_same (type.Vector m s) (type.Exchanged x) known h = h
becomes_same (type.Vector m s) (type.Pointer in_space pointee access) known h = h
becomes_same (type.Array element count) p known h = h
becomes_same (type.RuntimeArray element) p known h = h
becomes_same (type.Atomic s) p known h = h
becomes_same (type.Struct number) p known h = h
becomes_same (type.Exchanged s) p known h = h
becomes_same (type.Pointer in_space pointee access) p known h = h

all_same : (types params : List ShadeType) → All IsKnown types → BecomeAll types params → params ≡ types
all_same [] [] known h = refl
all_same [] (p ∷ params) known h = absurd h
all_same (ty ∷ types) [] known h = absurd h
all_same (ty ∷ types) (p ∷ params) known h = λ i. sym (becomes_same ty p (All-head IsKnown ty types known) h.0) i ∷ all_same types params (All-tail IsKnown ty types known) h.1 i

near_itself : (first : Scalar) (types : List ShadeType) → AreNearer first types types
near_itself first [] = tt
near_itself first (ty ∷ types) = (omega arith, near_itself first types)

-- ---- the row

-- a row that takes exactly these types is the best
exact_best : (t : Table) (b : Builtin) (first : Scalar) (types : List ShadeType) (o : Overload) → All IsKnown types → IsRow t b o → o.params ≡ types → IsBest (IsRow t b) first types o
exact_best t b first types o known row e = record {
  row = row;
  taken = subst (BecomeAll types) (sym e) (all_stay types);
  near = λ other is taken. subst (λ ps. AreNearer first ps other.params) (sym e) (subst (AreNearer first types) (sym (all_same types other.params known taken)) (near_itself first types));
}

pub row_none : (t : Table) (b : Builtin) (types : List ShadeType) → IsRefused (IsRow t b) types → Answers (RowTakes t b types) None
row_none t b types refused = answers_none (RowTakes t b types) (λ result h. refused h.row h.is (subst (BecomeAll types) (sym h.params) (all_stay types)))

pub row_some : (t : Table) (b : Builtin) (first : Scalar) (types : List ShadeType) (o : Overload) → All IsKnown types → IsBest (IsRow t b) first types o → Answers (RowTakes t b types) (Some o.result)
row_some t b first types o known best =
    answers_one (RowTakes t b types) o.result (record { row = o; is = best.row; params = all_same types o.params known best.taken; gives = refl })
    (λ result h. ap (λ x. x.result) (one_best t b first types o h.row best (exact_best t b first types h.row known h.is h.params)) ∙ h.gives)

-- ---- types that a shader may hold

known_scalar : (s : Scalar) → s ≢ scalar.Abstract → Some s ≢ Some scalar.Abstract
known_scalar s known e = known (let f : Some s ≡ Some scalar.Abstract = e in cc)

pub held_known : (t : Table) (ty : ShadeType) → IsConstructible t ty → IsKnown ty
held_known t (type.Plain scalar.Abstract) h = absurd (cc)
held_known t (type.Plain scalar.Bool) h = λ e. cc
held_known t (type.Plain scalar.I32) h = λ e. cc
held_known t (type.Plain scalar.U32) h = λ e. cc
held_known t (type.Vector n scalar.Abstract) h = absurd (cc)
held_known t (type.Vector n scalar.Bool) h = λ e. cc
held_known t (type.Vector n scalar.I32) h = λ e. cc
held_known t (type.Vector n scalar.U32) h = λ e. cc
held_known t (type.Array element count) h = λ e. cc
held_known t (type.RuntimeArray element) h = λ e. cc
held_known t (type.Atomic s) h = λ e. cc
held_known t (type.Struct number) h = λ e. cc
held_known t (type.Exchanged s) h = λ e. cc
held_known t (type.Pointer in_space pointee access) h = λ e. cc

pub held_of : (t : Table) (ty : ShadeType) → IsSound t → Contains t.types ty → IsOf t ty
held_of t ty sound h = (let named = id_of t ty h in named_of t named.0 ty sound named.1)

pub all_known : (t : Table) (types : List ShadeType) → All (IsHeld t) types → All IsKnown types
all_known t types h = All-weaker (IsHeld t) IsKnown (λ ty held. held_known t ty held.constructible) types h

pub all_of : (t : Table) (types : List ShadeType) → IsSound t → All (IsHeld t) types → All (IsOf t) types
all_of t types sound h = All-weaker (IsHeld t) (IsOf t) (λ ty held. held_of t ty sound held.held) types h
