-- The rows of vectors: which parts make one up.
use Rattle.std.proofs.Common.{◌≡◌, ◌≢◌, refl, sym, ap, subst, ◌∙◌, ℕ, zero, suc, ◌+◌, ◌-◌, ◌<◌, ◌≤◌, ◌⊎◌, inl, inr, List, [], ◌∷◌, map, length, drop, get_or, Option, Some, None, ◌↔◌, arith}
use Rattle.std.specs.Prelude.{All}
use Rattle.std.proofs.lemmas.List.{drop_more}
use Rattle.shade_values.specs.declared.types.Scalar.{Scalar}
use Rattle.shade_values.specs.declared.types.Scalar.TheVariants as scalar
use Rattle.shade_values.specs.declared.types.ShadeType.{ShadeType}
use Rattle.shade_values.specs.declared.types.ShadeType.TheVariants as type
use Rattle.shade_values.specs.declared.op.Op.TheVariants as op
use Rattle.shade_values.specs.Table.{Table}
use Rattle.shade_values.specs.Takes.{PartsAdd, VectorOf}
use Rattle.shade_overload.specs.declared.overload.Overload.{Overload}
use Rattle.shade_overload.specs.Best.{IsBest, IsChosen}
use Rattle.shade_overload.specs.Conversions.{Becomes, BecomeAll, scalar_of, distance, AreNearer}
use Rattle.shade_overload.specs.Rows.{Common, Written, IsKnown}
use Rattle.shade_overload.specs.Patterns.{parts_of, Fill, IsSingle, IsVector, MakeUp, recast, made_of_parts, ArePartsOf, IsAttempt, IsNearest, IsFound, PatternRows}
use Rattle.shade_overload.specs.declared.pattern.Pattern.TheVariants.{Conversion}
use Rattle.shade_overload.proofs.BestLaws.{only_best, chosen_within}
use Rattle.shade_overload.proofs.PatternLaws.{form_kept}

-- ---- lists of which each element has something

pub all_head : (P : ShadeType → Type 0) (x : ShadeType) (xs : List ShadeType) → All P (x ∷ xs) → P x
all_head P x xs h = h 0 x (omega arith)

pub all_tail : (P : ShadeType → Type 0) (x : ShadeType) (xs : List ShadeType) → All P (x ∷ xs) → All P xs
all_tail P x xs h k d l = h (suc k) d (omega arith)

pub all_cons : (P : ShadeType → Type 0) (x : ShadeType) (xs : List ShadeType) → P x → All P xs → All P (x ∷ xs)
all_cons P x xs p h zero d l = p
all_cons P x xs p h (suc k) d l = h k d (omega arith)

pub all_nil : (P : ShadeType → Type 0) → All P []
all_nil P k d l = absurd (omega arith)

pub all_weaker : (P Q : ShadeType → Type 0) (xs : List ShadeType) → ((x : ShadeType) → P x → Q x) → All P xs → All Q xs
all_weaker P Q xs f h k d l = f _ (h k d l)

-- ---- counting parts

pub fill_head : (ty : ShadeType) (types : List ShadeType) (left n : ℕ) → parts_of ty ≡ Some n → n ≤ left → Fill (ty ∷ types) left ↔ Fill types (left - n)
fill_head ty types left n p l = (
  λ (m, rest, q, f, e).
      let same : m ≡ n = cc in
      let at : rest ≡ left - n = omega arith in
      subst (Fill types) at f,
  λ f. (n, left - n, p, f, omega arith),
)

pub fill_other : (ty : ShadeType) (types : List ShadeType) (left : ℕ) → parts_of ty ≡ None → ¬ Fill (ty ∷ types) left
fill_other ty types left p (n, rest, q, f, e) = absurd (cc)

pub fill_less : (ty : ShadeType) (types : List ShadeType) (left n : ℕ) → parts_of ty ≡ Some n → left < n → ¬ Fill (ty ∷ types) left
fill_less ty types left n p l (m, rest, q, f, e) = let same : m ≡ n = cc in absurd (omega arith)

-- one step of the count, along the list
pub fill_step : (whole types : List ShadeType) (i : ℕ) (d : ShadeType) (count left n : ℕ) → i < length types → parts_of (get_or types i d) ≡ Some n → n ≤ left
    → (Fill whole count ↔ Fill (drop i types) left) → Fill whole count ↔ Fill (drop (i + 1) types) (left - n)
fill_step whole types i d count left n l p near same =
    let head = fill_head (get_or types i d) (drop (i + 1) types) left n p near in
    let more : drop i types ≡ get_or types i d ∷ drop (i + 1) types = drop_more types i d l in
    (λ f. head.0 (subst (λ xs. Fill xs left) more (same.0 f)), λ f. same.1 (subst (λ xs. Fill xs left) (sym more) (head.1 f)))

pub fill_length : (types : List ShadeType) (n : ℕ) → All (λ ty. parts_of ty ≢ Some 0) types → Fill types n → length types ≤ n
fill_length [] n some f = omega arith
fill_length (ty ∷ types) n some (zero, rest, p, f, e) = absurd (all_head (λ x. parts_of x ≢ Some 0) ty types some p)
fill_length (ty ∷ types) n some (suc m, rest, p, f, e) = let short = fill_length types rest (all_tail (λ x. parts_of x ≢ Some 0) ty types some) f in omega arith

-- ---- parts of one scalar

pub recast_is : (ty p : ShadeType) (s : Scalar) → Becomes ty p → scalar_of p ≡ Some s → p ≡ recast s ty
recast_is (type.Plain x) (type.Plain y) s h e = let same : y ≡ s = cc in ap type.Plain same
recast_is (type.Vector m x) (type.Vector n y) s h e = let same : y ≡ s = cc in ap (type.Vector n) same ∙ ap (λ k. type.Vector k s) (sym h.0)
recast_is (type.Plain x) p s h e = absurd (cc)
recast_is (type.Vector m x) p s h e = absurd (cc)
recast_is (type.Array element count) p s h e = let z : None ≡ Some s = ap scalar_of h ∙ e in absurd (cc)
recast_is (type.RuntimeArray element) p s h e = let z : None ≡ Some s = ap scalar_of h ∙ e in absurd (cc)
recast_is (type.Atomic x) p s h e = let z : None ≡ Some s = ap scalar_of h ∙ e in absurd (cc)
recast_is (type.Struct number) p s h e = let z : None ≡ Some s = ap scalar_of h ∙ e in absurd (cc)
recast_is (type.Exchanged x) p s h e = let z : None ≡ Some s = ap scalar_of h ∙ e in absurd (cc)
recast_is (type.Pointer in_space pointee access) p s h e = let z : None ≡ Some s = ap scalar_of h ∙ e in absurd (cc)

pub recast_all_is : (types params : List ShadeType) (s : Scalar) → BecomeAll types params → All (λ p. scalar_of p ≡ Some s) params → params ≡ map (recast s) types
recast_all_is [] [] s h all = refl
recast_all_is (ty ∷ types) (p ∷ params) s h all =
    ap (λ x. x ∷ params) (recast_is ty p s h.0 (all_head (λ x. scalar_of x ≡ Some s) p params all)) ∙ ap (λ ps. recast s ty ∷ ps) (recast_all_is types params s h.1 (all_tail (λ x. scalar_of x ≡ Some s) p params all))
recast_all_is [] (p ∷ params) s h all = absurd h
recast_all_is (ty ∷ types) [] s h all = absurd h

-- what becomes a scalar or a vector has as many parts
pub parts_kept : (ty p : ShadeType) (n : ℕ) → Becomes ty p → parts_of p ≡ Some n → parts_of ty ≡ Some n
parts_kept (type.Plain x) (type.Plain y) n h e = e
parts_kept (type.Vector m x) (type.Vector k y) n h e = ap (λ z. Some z) h.0 ∙ e
parts_kept (type.Plain x) p n h e = absurd (cc)
parts_kept (type.Vector m x) p n h e = absurd (cc)
parts_kept (type.Array element count) p n h e = ap parts_of h ∙ e
parts_kept (type.RuntimeArray element) p n h e = ap parts_of h ∙ e
parts_kept (type.Atomic x) p n h e = ap parts_of h ∙ e
parts_kept (type.Struct number) p n h e = ap parts_of h ∙ e
parts_kept (type.Exchanged x) p n h e = ap parts_of h ∙ e
parts_kept (type.Pointer in_space pointee access) p n h e = ap parts_of h ∙ e

-- parameters that add up to so many parts of a scalar
pub add_scalars : (params : List ShadeType) (s : Scalar) (n : ℕ) → PartsAdd s params n → All (λ p. scalar_of p ≡ Some s) params
add_scalars [] s n h = all_nil (λ x. scalar_of x ≡ Some s)
add_scalars (p ∷ params) s n (m, rest, inl (is, one), add, e) = all_cons (λ x. scalar_of x ≡ Some s) p params (ap scalar_of is) (add_scalars params s rest add)
add_scalars (p ∷ params) s n (m, rest, inr is, add, e) = all_cons (λ x. scalar_of x ≡ Some s) p params (ap scalar_of is) (add_scalars params s rest add)

pub add_fill : (types params : List ShadeType) (s : Scalar) (n : ℕ) → BecomeAll types params → PartsAdd s params n → Fill types n
add_fill [] [] s n h add = add
add_fill [] (p ∷ params) s n h add = absurd h
add_fill (ty ∷ types) [] s n h add = absurd h
add_fill (ty ∷ types) (p ∷ params) s n h (m, rest, inl (is, one), add, e) =
    (m, rest, parts_kept ty p m h.0 (ap parts_of is ∙ ap (λ z. Some z) (sym one)), add_fill types params s rest h.1 add, e)
add_fill (ty ∷ types) (p ∷ params) s n h (m, rest, inr is, add, e) = (m, rest, parts_kept ty p m h.0 (ap parts_of is), add_fill types params s rest h.1 add, e)

-- a scalar or a vector with another scalar
recast_part : (ty : ShadeType) (s : Scalar) (n : ℕ) → parts_of ty ≡ Some n → ((recast s ty ≡ type.Plain s) × (n ≡ 1)) ⊎ (recast s ty ≡ type.Vector n s)
recast_part (type.Plain x) s n e = inl (refl, (cc))
recast_part (type.Vector m x) s n e = let same : m ≡ n = cc in inr (ap (λ k. type.Vector k s) same)
recast_part _ s n e = absurd (cc)

pub fill_add : (types : List ShadeType) (s : Scalar) (n : ℕ) → Fill types n → PartsAdd s (map (recast s) types) n
fill_add [] s n f = f
fill_add (ty ∷ types) s n (m, rest, p, f, e) = (m, rest, recast_part ty s m p, fill_add types s rest f, e)

-- ---- the rows

-- a row of a scalar that is had in common
pub record IsPartsRow (n : ℕ) (s : Scalar) (o : Overload) : Type 0 where
  pub op_is : o.op ≡ Some (op.Vector n s)
  pub some : o.params ≢ []
  pub all : All (λ p. scalar_of p ≡ Some s) o.params
  pub takes : VectorOf n s o.params o.result

single : (types : List ShadeType) (s : Scalar) → BecomeAll types (type.Plain s ∷ []) → IsSingle types
single [] s h = absurd h
single (ty ∷ []) s h = let f = form_kept ty None s h.0 in (f.0, ap (λ x. x ∷ []) f.1)
single (ty ∷ u ∷ types) s h = absurd h.1

vector : (types : List ShadeType) (n : ℕ) (s : Scalar) → BecomeAll types (type.Vector n s ∷ []) → IsVector types n
vector [] n s h = absurd h
vector (ty ∷ []) n s h = let f = form_kept ty (Some n) s h.0 in (f.0, ap (λ x. x ∷ []) f.1)
vector (ty ∷ u ∷ types) n s h = absurd h.1

fill_vector : (types : List ShadeType) (n : ℕ) → IsVector types n → Fill types n
fill_vector types n (s, e) = subst (λ xs. Fill xs n) (sym e) (n, 0, refl, refl, omega arith)

none_becomes : (types : List ShadeType) → BecomeAll types [] → types ≡ []
none_becomes [] h = refl
none_becomes (ty ∷ types) h = absurd h

becomes_none : (params : List ShadeType) → BecomeAll [] params → params ≡ []
becomes_none [] h = refl
becomes_none (p ∷ params) h = absurd h

pub short : (types : List ShadeType) (n : ℕ) → n ≤ 4 → All (λ ty. parts_of ty ≢ Some 0) types → MakeUp types n → length types ≤ 5
short types n few some (inl (s, e)) = subst (λ xs. length xs ≤ 5) (sym e) (omega arith)
short types n few some (inr f) = let l = fill_length types n some f in omega arith

makes_up : (types params : List ShadeType) (s : Scalar) (n : ℕ) (result : Option ShadeType) → BecomeAll types params → params ≢ [] → VectorOf n s params result → MakeUp types n
makes_up types params s n result h some (many, few, gives, inl e) = absurd (some e)
makes_up types params s n result h some (many, few, gives, inr (inl e)) = inl (single types s (subst (BecomeAll types) e h))
makes_up types params s n result h some (many, few, gives, inr (inr (inl add))) = inr (add_fill types params s n h add)
makes_up types params s n result h some (many, few, gives, inr (inr (inr (x, known, e)))) = inr (fill_vector types n (vector types n x (subst (BecomeAll types) e h)))

pub are_parts : (types : List ShadeType) (n : ℕ) (s : Scalar) (o : Overload) → IsPartsRow n s o → BecomeAll types o.params → ArePartsOf n types s
are_parts types n s o row h =
    (makes_up types o.params s n o.result h row.some row.takes, subst (BecomeAll types) (recast_all_is types o.params s h row.all) h)

pub params_are : (types : List ShadeType) (n : ℕ) (s : Scalar) (o : Overload) → IsPartsRow n s o → BecomeAll types o.params → o.params ≡ map (recast s) types
params_are types n s o row h = recast_all_is types o.params s h row.all

-- parts that make up a vector are a row
some_made : (types : List ShadeType) (s : Scalar) (n : ℕ) → 2 ≤ n → MakeUp types n → map (recast s) types ≢ []
some_made [] s n many (inl (x, e)) empty = absurd (cc)
some_made [] s n many (inr f) empty = absurd (omega arith)
some_made (ty ∷ types) s n many make empty = absurd (cc)

scalars_made : (types : List ShadeType) (s : Scalar) (n : ℕ) → MakeUp types n → All (λ p. scalar_of p ≡ Some s) (map (recast s) types)
scalars_made types s n (inl (x, e)) =
    subst (λ xs. All (λ p. scalar_of p ≡ Some s) (map (recast s) xs)) (sym e) (all_cons (λ p. scalar_of p ≡ Some s) (type.Plain s) [] refl (all_nil (λ p. scalar_of p ≡ Some s)))
scalars_made types s n (inr f) = add_scalars (map (recast s) types) s n (fill_add types s n f)

takes_made : (types : List ShadeType) (s : Scalar) (n : ℕ) → 2 ≤ n → n ≤ 4 → MakeUp types n → VectorOf n s (map (recast s) types) (Some (type.Vector n s))
takes_made types s n many few (inl (x, e)) = (many, few, refl, inr (inl (ap (map (recast s)) e)))
takes_made types s n many few (inr f) = (many, few, refl, inr (inr (inl (fill_add types s n f))))

pub parts_row : (types : List ShadeType) (n : ℕ) (s : Scalar) → 2 ≤ n → n ≤ 4 → MakeUp types n → IsPartsRow n s (made_of_parts n types s)
parts_row types n s many few make = record { op_is = refl; some = some_made types s n many make; all = scalars_made types s n make; takes = takes_made types s n many few make }

-- ---- a scalar had in common

near_recast : (types : List ShadeType) (first s x : Scalar) → distance first s ≤ distance first x → AreNearer first (map (recast s) types) (map (recast x) types)
near_recast [] first s x h = tt
near_recast (type.Plain y ∷ types) first s x h = (h, near_recast types first s x h)
near_recast (type.Vector n y ∷ types) first s x h = (h, near_recast types first s x h)
near_recast (_ ∷ types) first s x h = (omega arith, near_recast types first s x h)

parts_of_common : (t : Table) (n : ℕ) (o : Overload) → (c : Common t n o) → IsPartsRow n c.0 o
parts_of_common t n o (s, some, all, (op_is, takes)) = record { op_is = op_is; some = some; all = all; takes = takes }

common_best : (t : Table) (n : ℕ) (types : List ShadeType) (o : Overload) → 2 ≤ n → n ≤ 4 → IsNearest (made_of_parts n types) (ArePartsOf n types) scalar.I32 o → IsBest (Common t n) scalar.I32 types o
common_best t n types o many few found =
    let s = found.scalar in
    let row = parts_row types n s many few found.takes.0 in
    subst (IsBest (Common t n) scalar.I32 types) (sym found.is) (record {
      row = (s, row.some, row.all, (row.op_is, row.takes));
      taken = found.takes.1;
      near = λ other c h.
          let r = parts_of_common t n other c in
          subst (AreNearer scalar.I32 (map (recast s) types)) (sym (params_are types n c.0 other r h)) (near_recast types scalar.I32 s c.0 (found.near c.0 (are_parts types n c.0 other r h)));
    })

pub common_chosen : (t : Table) (n : ℕ) (types : List ShadeType) (r : Option Overload) → 2 ≤ n → n ≤ 4 → IsFound (made_of_parts n types) (ArePartsOf n types) scalar.I32 r → IsChosen (Common t n) scalar.I32 types r
common_chosen t n types (Some o) many few found = common_best t n types o many few found
common_chosen t n types None many few none = λ o c h. none c.0 (are_parts types n c.0 o (parts_of_common t n o c) h)

-- ---- a scalar that is written

scalars_of_written : (types params : List ShadeType) (s : Scalar) (n : ℕ) (result : Option ShadeType) → types ≢ [] → ¬ IsVector types n → BecomeAll types params → VectorOf n s params result
    → All (λ p. scalar_of p ≡ Some s) params
scalars_of_written types params s n result some other h (many, few, gives, inl e) = absurd (some (none_becomes types (subst (BecomeAll types) e h)))
scalars_of_written types params s n result some other h (many, few, gives, inr (inl e)) =
    subst (All (λ p. scalar_of p ≡ Some s)) (sym e) (all_cons (λ p. scalar_of p ≡ Some s) (type.Plain s) [] refl (all_nil (λ p. scalar_of p ≡ Some s)))
scalars_of_written types params s n result some other h (many, few, gives, inr (inr (inl add))) = add_scalars params s n add
scalars_of_written types params s n result some other h (many, few, gives, inr (inr (inr (x, known, e)))) = absurd (other (vector types n x (subst (BecomeAll types) e h)))

parts_of_written : (t : Table) (n : ℕ) (s : Scalar) (types : List ShadeType) (o : Overload) → types ≢ [] → ¬ IsVector types n → Written t n s o → BecomeAll types o.params → IsPartsRow n s o
parts_of_written t n s types o some other (known, (op_is, takes), all) h = record {
  op_is = op_is;
  some = λ e. some (none_becomes types (subst (BecomeAll types) e h));
  all = scalars_of_written types o.params s n o.result some other h takes;
  takes = takes;
}

known_parts : (s : Scalar) (params : List ShadeType) → s ≢ scalar.Abstract → All (λ p. scalar_of p ≡ Some s) params → All IsKnown params
known_parts s params known all = all_weaker (λ p. scalar_of p ≡ Some s) IsKnown params (λ p e d. known (let same : s ≡ scalar.Abstract = cc in same)) all

pub written_chosen : (t : Table) (n : ℕ) (s : Scalar) (first : Scalar) (types : List ShadeType) (r : Option Overload) → 2 ≤ n → n ≤ 4 → s ≢ scalar.Abstract → types ≢ [] → ¬ IsVector types n
    → IsAttempt (made_of_parts n types) (ArePartsOf n types) s r → IsChosen (Written t n s) first types r
written_chosen t n s first types None many few known some other none = λ o row h. none (are_parts types n s o (parts_of_written t n s types o some other row h) h)
written_chosen t n s first types (Some o) many few known some other (is, fit) =
    let row = parts_row types n s many few fit.0 in
    subst (IsBest (Written t n s) first types) (sym is)
    (only_best (Written t n s) first types (made_of_parts n types s) (known, (row.op_is, row.takes), known_parts s (map (recast s) types) known row.all) fit.1
    (λ o row h. params_are types n s o (parts_of_written t n s types o some other row h) h))

pub written_empty : (t : Table) (n : ℕ) (s first : Scalar) → 2 ≤ n → n ≤ 4 → s ≢ scalar.Abstract → IsBest (Written t n s) first [] (record { op = Some (op.Vector n s); params = []; result = Some (type.Vector n s) })
written_empty t n s first many few known =
    only_best (Written t n s) first [] _ (known, (refl, (many, few, refl, inl refl)), all_nil IsKnown) tt (λ o row h. becomes_none o.params h)

-- one vector, whose parts convert
from_vector : (n : ℕ) (y : Scalar) (params : List ShadeType) → BecomeAll (type.Vector n y ∷ []) params → (z : Scalar) × (params ≡ type.Vector n z ∷ [])
from_vector n y [] h = absurd h
from_vector n y (p ∷ q ∷ params) h = absurd h.1
from_vector n y (type.Vector m z ∷ []) h = (z, ap (λ k. type.Vector k z ∷ []) (sym h.0.0))
from_vector n y (p ∷ []) h = let e : type.Vector n y ≡ p = h.0 in absurd (cc)

written_of_conversion : (t : Table) (n : ℕ) (s : Scalar) → 2 ≤ n → n ≤ 4 → s ≢ scalar.Abstract → (o : Overload) → PatternRows (op.Vector n s) (Conversion (Some n) s) o → Written t n s o
written_of_conversion t n s many few known o (op_is, (x, some, args, gives)) = (
  known,
  (op_is, (many, few, gives, inr (inr (inr (x, known, args))))),
  subst (All IsKnown) (sym args) (all_cons IsKnown (type.Vector n x) [] (λ e. some (let same : x ≡ scalar.Abstract = cc in same)) (all_nil IsKnown)),
)

conversion_of_written : (t : Table) (n : ℕ) (s : Scalar) (types : List ShadeType) → IsVector types n → (o : Overload) → Written t n s o → BecomeAll types o.params → PatternRows (op.Vector n s) (Conversion (Some n) s) o
conversion_of_written t n s types (y, e) o (known, (op_is, (many, few, gives, cases)), all) h =
    let p = from_vector n y o.params (subst (λ xs. BecomeAll xs o.params) e h) in
    let some : IsKnown (type.Vector n p.0) = all_head IsKnown (type.Vector n p.0) [] (subst (All IsKnown) p.1 all) in
    (op_is, (p.0, (λ d. some (ap (λ x. Some x) d)), p.1, gives))

pub conversion_chosen : (t : Table) (n : ℕ) (s first : Scalar) (types : List ShadeType) (r : Option Overload) → 2 ≤ n → n ≤ 4 → s ≢ scalar.Abstract → IsVector types n
    → IsChosen (PatternRows (op.Vector n s) (Conversion (Some n) s)) first types r → IsChosen (Written t n s) first types r
conversion_chosen t n s first types r many few known one chosen =
    chosen_within (PatternRows (op.Vector n s) (Conversion (Some n) s)) (Written t n s) first types r (written_of_conversion t n s many few known) (conversion_of_written t n s types one) chosen
