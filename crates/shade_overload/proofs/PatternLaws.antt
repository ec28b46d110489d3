-- The rows of a pattern, by the forms and the scalar that the code finds.
use Rattle.std.proofs.Common.{◌≡◌, refl, sym, ap, subst, ◌∙◌, ℕ, zero, suc, ◌+◌, ◌<◌, ◌≤◌, inl, inr, List, [], ◌∷◌, length, get_or, Option, Some, None, arith}
use Rattle.shade_values.specs.declared.types.Scalar.{Scalar}
use Rattle.shade_values.specs.declared.types.Scalar.TheVariants as scalar
use Rattle.shade_values.specs.declared.types.ShadeType.{ShadeType}
use Rattle.shade_values.specs.declared.types.ShadeType.TheVariants as type
use Rattle.shade_values.specs.declared.op.Op.{Op}
use Rattle.shade_values.specs.Takes.{formed}
use Rattle.shade_overload.specs.declared.pattern.Pattern.{Pattern}
use Rattle.shade_overload.specs.declared.pattern.Pattern.TheVariants.{Arithmetic as Mixed, Unary, Binary, Comparison, Ternary, Shifted, Truths, Reduction, Selection, Product, Extraction, Insertion, Conversion, Recast}
use Rattle.shade_overload.specs.declared.overload.Overload.{Overload}
use Rattle.shade_overload.specs.Best.{IsBest, IsRefused, IsChosen}
use Rattle.shade_overload.specs.Conversions.{Becomes, BecomeAll, scalar_of, distance, distance_of, AreNearer}
use Rattle.shade_overload.specs.Patterns.{Fits, PatternRow, PatternRows, kind_of, Allows, params_of, gives_of, made, Suits, IsNearest, IsFound, HasForm, BeginsWith, EndsIn}

-- ---- forms

pub form_only : (ty : ShadeType) (f g : Option ℕ) → HasForm ty f → HasForm ty g → f ≡ g
form_only ty None None h k = refl
form_only ty None (Some n) (s, e) (x, d) = let two : type.Plain s ≡ type.Vector n x = sym e ∙ d in absurd (cc)
form_only ty (Some m) None (s, e) (x, d) = let two : type.Vector m s ≡ type.Plain x = sym e ∙ d in absurd (cc)
form_only ty (Some m) (Some n) (s, e) (x, d) = let two : type.Vector m s ≡ type.Vector n x = sym e ∙ d in cc

-- what becomes a type with a form has it
pub form_kept : (ty : ShadeType) (f : Option ℕ) (s : Scalar) → Becomes ty (formed f s) → HasForm ty f
form_kept (type.Plain x) None s h = (x, refl)
form_kept (type.Vector m x) (Some n) s h = (x, ap (λ k. type.Vector k x) h.0)
form_kept (type.Plain x) (Some n) s h = absurd (cc)
form_kept (type.Vector m x) None s h = absurd (cc)
form_kept (type.Array element count) None s h = absurd (cc)
form_kept (type.Array element count) (Some n) s h = absurd (cc)
form_kept (type.RuntimeArray element) None s h = absurd (cc)
form_kept (type.RuntimeArray element) (Some n) s h = absurd (cc)
form_kept (type.Atomic x) None s h = absurd (cc)
form_kept (type.Atomic x) (Some n) s h = absurd (cc)
form_kept (type.Struct number) None s h = absurd (cc)
form_kept (type.Struct number) (Some n) s h = absurd (cc)
form_kept (type.Exchanged x) None s h = absurd (cc)
form_kept (type.Exchanged x) (Some n) s h = absurd (cc)
form_kept (type.Pointer in_space pointee access) None s h = absurd (cc)
form_kept (type.Pointer in_space pointee access) (Some n) s h = absurd (cc)

pub ends_only : (types : List ShadeType) (f g : Option ℕ) → EndsIn types f → EndsIn types g → f ≡ g
ends_only [] f g h k = absurd h
ends_only (ty ∷ []) f g h k = form_only ty f g h k
ends_only (ty ∷ u ∷ types) f g h k = ends_only (u ∷ types) f g h k

pub begins_only : (types : List ShadeType) (f g : Option ℕ) → BeginsWith types f → BeginsWith types g → f ≡ g
begins_only [] f g h k = absurd h
begins_only (ty ∷ types) f g h k = form_only ty f g h k

becomes_formed : (ty to : ShadeType) (f : Option ℕ) → Becomes ty to → HasForm to f → HasForm ty f
becomes_formed ty to f h (s, e) = form_kept ty f s (subst (Becomes ty) e h)

pub begins_kept : (types params : List ShadeType) (f : Option ℕ) → BecomeAll types params → BeginsWith params f → BeginsWith types f
begins_kept (ty ∷ types) (to ∷ params) f h k = becomes_formed ty to f h.0 k
begins_kept [] (to ∷ params) f h k = absurd h
begins_kept types [] f h k = absurd k

pub ends_kept : (types params : List ShadeType) (f : Option ℕ) → BecomeAll types params → EndsIn params f → EndsIn types f
ends_kept types [] f h k = absurd k
ends_kept [] (to ∷ params) f h k = absurd h
ends_kept (ty ∷ []) (to ∷ []) f h k = becomes_formed ty to f h.0 k
ends_kept (ty ∷ []) (to ∷ two ∷ params) f h k = absurd h.1
ends_kept (ty ∷ u ∷ types) (to ∷ []) f h k = absurd h.1
ends_kept (ty ∷ u ∷ types) (to ∷ two ∷ params) f h k = ends_kept (u ∷ types) (two ∷ params) f h.1 k

-- the first and the last type by their places
pub begins_at : (types : List ShadeType) (f : Option ℕ) (d : ShadeType) → 0 < length types → HasForm (get_or types 0 d) f → BeginsWith types f
begins_at [] f d l h = absurd (omega arith)
begins_at (ty ∷ types) f d l h = h

pub ends_at : (types : List ShadeType) (f : Option ℕ) (d : ShadeType) (k : ℕ) → k + 1 ≡ length types → HasForm (get_or types k d) f → EndsIn types f
ends_at [] f d k e h = absurd (omega arith)
ends_at (ty ∷ []) f d zero e h = h
ends_at (ty ∷ []) f d (suc k) e h = absurd (omega arith)
ends_at (ty ∷ u ∷ types) f d zero e h = absurd (omega arith)
ends_at (ty ∷ u ∷ types) f d (suc k) e h = ends_at (u ∷ types) f d k (omega arith) h

pub ends_from : (types : List ShadeType) (f : Option ℕ) (d : ShadeType) (k : ℕ) → k + 1 ≡ length types → EndsIn types f → HasForm (get_or types k d) f
ends_from [] f d k e h = absurd h
ends_from (ty ∷ []) f d zero e h = h
ends_from (ty ∷ []) f d (suc k) e h = absurd (omega arith)
ends_from (ty ∷ u ∷ types) f d zero e h = absurd (omega arith)
ends_from (ty ∷ u ∷ types) f d (suc k) e h = ends_from (u ∷ types) f d k (omega arith) h

-- ---- the rows, spelled by forms

-- a row is one of the pattern's, for some forms and a scalar
pub record IsSpelled (p : Pattern) (args : List ShadeType) (result : Option ShadeType) : Type 0 where
  pub first : Option ℕ
  pub last : Option ℕ
  pub scalar : Scalar
  pub allowed : Allows p first last
  pub fits : Fits (kind_of p) scalar
  pub args_are : args ≡ params_of p first last scalar
  pub result_is : result ≡ Some (gives_of p first last scalar)

pub spelled : (p : Pattern) (args : List ShadeType) (result : Option ShadeType) → PatternRow p args result → IsSpelled p args result
spelled Mixed args result (inl (None, s, i, e, d)) = record { first = None; last = None; scalar = s; allowed = inl refl; fits = i; args_are = e; result_is = d }
spelled Mixed args result (inl (Some n, s, i, e, d)) = record { first = Some n; last = Some n; scalar = s; allowed = inl refl; fits = i; args_are = e; result_is = d }
spelled Mixed args result (inr (n, s, i, inl e, d)) = record { first = Some n; last = None; scalar = s; allowed = inr (inr refl); fits = i; args_are = e; result_is = d }
spelled Mixed args result (inr (n, s, i, inr e, d)) = record { first = None; last = Some n; scalar = s; allowed = inr (inl refl); fits = i; args_are = e; result_is = d }
spelled (Unary k) args result (f, s, i, e, d) = record { first = f; last = None; scalar = s; allowed = tt; fits = i; args_are = e; result_is = d }
spelled (Binary k) args result (f, s, i, e, d) = record { first = f; last = None; scalar = s; allowed = tt; fits = i; args_are = e; result_is = d }
spelled (Comparison k) args result (f, s, i, e, d) = record { first = f; last = None; scalar = s; allowed = tt; fits = i; args_are = e; result_is = d }
spelled Ternary args result (f, s, i, e, d) = record { first = f; last = None; scalar = s; allowed = tt; fits = i; args_are = e; result_is = d }
spelled Shifted args result (f, s, i, e, d) = record { first = f; last = None; scalar = s; allowed = tt; fits = i; args_are = e; result_is = d }
spelled Truths args result (e, d) = record { first = None; last = None; scalar = scalar.Bool; allowed = refl; fits = refl; args_are = e; result_is = d }
spelled Reduction args result (f, s, i, e, d) = record { first = f; last = None; scalar = s; allowed = tt; fits = i; args_are = e; result_is = d }
spelled Selection args result (f, g, s, i, e, d) = record { first = f; last = g; scalar = s; allowed = i; fits = tt; args_are = e; result_is = d }
spelled Product args result (n, s, i, e, d) = record { first = Some n; last = None; scalar = s; allowed = λ same. absurd (cc); fits = i; args_are = e; result_is = d }
spelled Extraction args result (f, s, i, e, d) = record { first = f; last = None; scalar = s; allowed = tt; fits = i; args_are = e; result_is = d }
spelled Insertion args result (f, s, i, e, d) = record { first = f; last = None; scalar = s; allowed = tt; fits = i; args_are = e; result_is = d }
spelled (Conversion parts to) args result (s, i, e, d) = record { first = parts; last = None; scalar = s; allowed = refl; fits = i; args_are = e; result_is = d }
spelled (Recast parts to) args result (s, i, e, d) = record { first = parts; last = None; scalar = s; allowed = refl; fits = i; args_are = e; result_is = d }

mixed : (f g : Option ℕ) (s : Scalar) → Allows Mixed f g → Fits (kind_of Mixed) s → PatternRow Mixed (params_of Mixed f g s) (Some (gives_of Mixed f g s))
mixed None None s a i = inl (None, s, i, refl, refl)
mixed None (Some n) s a i = inr (n, s, i, inr refl, refl)
mixed (Some m) None s a i = inr (m, s, i, inl refl, refl)
mixed (Some m) (Some n) s (inl e) i = inl (Some m, s, i, ap (λ g. formed (Some m) s ∷ formed g s ∷ []) (sym e), refl)
mixed (Some m) (Some n) s (inr (inl e)) i = absurd (cc)
mixed (Some m) (Some n) s (inr (inr e)) i = absurd (cc)

product : (f g : Option ℕ) (s : Scalar) → Allows Product f g → Fits (kind_of Product) s → PatternRow Product (params_of Product f g s) (Some (gives_of Product f g s))
product None g s a i = absurd (a refl)
product (Some n) g s a i = (n, s, i, refl, refl)

truths : (f g : Option ℕ) (s : Scalar) → f ≡ None → s ≡ scalar.Bool → PatternRow Truths (params_of Truths f g s) (Some (gives_of Truths f g s))
truths f g s e d = (ap (λ x. formed f x ∷ formed f x ∷ []) d ∙ ap (λ h. formed h scalar.Bool ∷ formed h scalar.Bool ∷ []) e, ap (λ x. Some (formed f x)) d ∙ ap (λ h. Some (formed h scalar.Bool)) e)

-- what the code makes is a row
pub row_made : (p : Pattern) (f g : Option ℕ) (s : Scalar) → Allows p f g → Fits (kind_of p) s → PatternRow p (params_of p f g s) (Some (gives_of p f g s))
row_made Mixed f g s a i = mixed f g s a i
row_made (Unary k) f g s a i = (f, s, i, refl, refl)
row_made (Binary k) f g s a i = (f, s, i, refl, refl)
row_made (Comparison k) f g s a i = (f, s, i, refl, refl)
row_made Ternary f g s a i = (f, s, i, refl, refl)
row_made Shifted f g s a i = (f, s, i, refl, refl)
row_made Truths f g s a i = truths f g s a i
row_made Reduction f g s a i = (f, s, i, refl, refl)
row_made Selection f g s a i = (f, g, s, a, refl, refl)
row_made Product f g s a i = product f g s a i
row_made Extraction f g s a i = (f, s, i, refl, refl)
row_made Insertion f g s a i = (f, s, i, refl, refl)
row_made (Conversion parts to) f g s a i = (s, i, ap (λ h. formed h s ∷ []) a, ap (λ h. Some (formed h to)) a)
row_made (Recast parts to) f g s a i = (s, i, ap (λ h. formed h s ∷ []) a, ap (λ h. Some (formed h to)) a)

params_begin : (p : Pattern) (f g : Option ℕ) (s : Scalar) → BeginsWith (params_of p f g s) f
params_begin Mixed f g s = (s, refl)
params_begin (Unary k) f g s = (s, refl)
params_begin (Binary k) f g s = (s, refl)
params_begin (Comparison k) f g s = (s, refl)
params_begin Ternary f g s = (s, refl)
params_begin Shifted f g s = (s, refl)
params_begin Truths f g s = (s, refl)
params_begin Reduction f g s = (s, refl)
params_begin Selection f g s = (s, refl)
params_begin Product f g s = (s, refl)
params_begin Extraction f g s = (s, refl)
params_begin Insertion f g s = (s, refl)
params_begin (Conversion parts to) f g s = (s, refl)
params_begin (Recast parts to) f g s = (s, refl)

-- the form of the last parameter
abbrev last_form : Pattern → Option ℕ → Option ℕ → Option ℕ
last_form Mixed f g = g
last_form Selection f g = g
last_form Extraction f g = None
last_form Insertion f g = None
last_form _ f g = f

params_end : (p : Pattern) (f g : Option ℕ) (s : Scalar) → EndsIn (params_of p f g s) (last_form p f g)
params_end Mixed f g s = (s, refl)
params_end (Unary k) f g s = (s, refl)
params_end (Binary k) f g s = (s, refl)
params_end (Comparison k) f g s = (s, refl)
params_end Ternary f g s = (s, refl)
params_end Shifted f g s = (scalar.U32, refl)
params_end Truths f g s = (s, refl)
params_end Reduction f g s = (s, refl)
params_end Selection f g s = (scalar.Bool, refl)
params_end Product f g s = (s, refl)
params_end Extraction f g s = (scalar.U32, refl)
params_end Insertion f g s = (scalar.U32, refl)
params_end (Conversion parts to) f g s = (s, refl)
params_end (Recast parts to) f g s = (s, refl)

-- a pattern is the same for two last forms, where its last parameter is
record IsSame (p : Pattern) (f g h : Option ℕ) (s : Scalar) : Type 0 where
  pub params : params_of p f g s ≡ params_of p f h s
  pub allowed : Allows p f g → Allows p f h

same_last : (p : Pattern) (f g h : Option ℕ) (s : Scalar) → last_form p f g ≡ h → IsSame p f g h s
same_last Mixed f g h s e = record { params = ap (λ x. params_of Mixed f x s) e; allowed = subst (Allows Mixed f) e }
same_last Selection f g h s e = record { params = ap (λ x. params_of Selection f x s) e; allowed = subst (Allows Selection f) e }
same_last (Unary k) f g h s e = record { params = refl; allowed = λ a. a }
same_last (Binary k) f g h s e = record { params = refl; allowed = λ a. a }
same_last (Comparison k) f g h s e = record { params = refl; allowed = λ a. a }
same_last Ternary f g h s e = record { params = refl; allowed = λ a. a }
same_last Shifted f g h s e = record { params = refl; allowed = λ a. a }
same_last Truths f g h s e = record { params = refl; allowed = λ a. a }
same_last Reduction f g h s e = record { params = refl; allowed = λ a. a }
same_last Product f g h s e = record { params = refl; allowed = λ a. a }
same_last Extraction f g h s e = record { params = refl; allowed = λ a. a }
same_last Insertion f g h s e = record { params = refl; allowed = λ a. a }
same_last (Conversion parts to) f g h s e = record { params = refl; allowed = λ a. a }
same_last (Recast parts to) f g h s e = record { params = refl; allowed = λ a. a }

-- ---- the nearest scalar

pub distance_below : (first s : Scalar) → distance first s < 4
distance_below scalar.U32 scalar.Abstract = omega arith
distance_below scalar.U32 scalar.U32 = omega arith
distance_below scalar.U32 scalar.I32 = omega arith
distance_below scalar.U32 scalar.Bool = omega arith
distance_below _ scalar.Abstract = omega arith
distance_below _ scalar.I32 = omega arith
distance_below _ scalar.U32 = omega arith
distance_below _ scalar.Bool = omega arith

near_form : (f : Option ℕ) (first s x : Scalar) → distance first s ≤ distance first x → distance_of first (scalar_of (formed f s)) ≤ distance_of first (scalar_of (formed f x))
near_form None first s x h = h
near_form (Some n) first s x h = h

near_same : (first : Scalar) (ty : ShadeType) → distance_of first (scalar_of ty) ≤ distance_of first (scalar_of ty)
near_same first ty = omega arith

near_params : (p : Pattern) (f g : Option ℕ) (first s x : Scalar) → distance first s ≤ distance first x → AreNearer first (params_of p f g s) (params_of p f g x)
near_params Mixed f g first s x h = (near_form f first s x h, (near_form g first s x h, tt))
near_params (Unary k) f g first s x h = (near_form f first s x h, tt)
near_params (Binary k) f g first s x h = (near_form f first s x h, (near_form f first s x h, tt))
near_params (Comparison k) f g first s x h = (near_form f first s x h, (near_form f first s x h, tt))
near_params Ternary f g first s x h = (near_form f first s x h, (near_form f first s x h, (near_form f first s x h, tt)))
near_params Shifted f g first s x h = (near_form f first s x h, (near_same first (formed f scalar.U32), tt))
near_params Truths f g first s x h = (near_form f first s x h, (near_form f first s x h, tt))
near_params Reduction f g first s x h = (near_form f first s x h, tt)
near_params Selection f g first s x h = (near_form f first s x h, (near_form f first s x h, (near_same first (formed g scalar.Bool), tt)))
near_params Product f g first s x h = (near_form f first s x h, (near_form f first s x h, tt))
near_params Extraction f g first s x h = (near_form f first s x h, (near_same first (type.Plain scalar.U32), (near_same first (type.Plain scalar.U32), tt)))
near_params Insertion f g first s x h = (near_form f first s x h, (near_form f first s x h, (near_same first (type.Plain scalar.U32), (near_same first (type.Plain scalar.U32), tt))))
near_params (Conversion parts to) f g first s x h = (near_form f first s x h, tt)
near_params (Recast parts to) f g first s x h = (near_form f first s x h, tt)

-- a row that takes the types is, by their forms, one for some scalar
record IsFor (p : Pattern) (f g : Option ℕ) (types args : List ShadeType) : Type 0 where
  pub scalar : Scalar
  pub allowed : Allows p f g
  pub fits : Fits (kind_of p) scalar
  pub args_are : args ≡ params_of p f g scalar

row_for : (op : Op) (p : Pattern) (f g : Option ℕ) (types : List ShadeType) (o : Overload) → BeginsWith types f → EndsIn types g → PatternRows op p o → BecomeAll types o.params → IsFor p f g types o.params
row_for op p f g types o begins ends row taken =
    let q = spelled p o.params o.result row.1 in
    let h : BecomeAll types (params_of p q.first q.last q.scalar) = subst (BecomeAll types) q.args_are taken in
    let e : q.first ≡ f = begins_only types q.first f (begins_kept types _ q.first h (params_begin p q.first q.last q.scalar)) begins in
    let d : last_form p q.first q.last ≡ g = ends_only types _ g (ends_kept types _ _ h (params_end p q.first q.last q.scalar)) ends in
    let same = same_last p q.first q.last g q.scalar d in
    record {
      scalar = q.scalar;
      allowed = subst (λ x. Allows p x g) e (same.allowed q.allowed);
      fits = q.fits;
      args_are = q.args_are ∙ same.params ∙ ap (λ x. params_of p x g q.scalar) e;
    }

-- ---- what the code answers

pub has_forms : (op : Op) (p : Pattern) (types : List ShadeType) → ((f g : Option ℕ) → BeginsWith types f → ¬ EndsIn types g) → IsRefused (PatternRows op p) types
has_forms op p types none o row taken =
    let q = spelled p o.params o.result row.1 in
    let h : BecomeAll types (params_of p q.first q.last q.scalar) = subst (BecomeAll types) q.args_are taken in
    none q.first (last_form p q.first q.last) (begins_kept types _ q.first h (params_begin p q.first q.last q.scalar)) (ends_kept types _ _ h (params_end p q.first q.last q.scalar))

pub is_allowed : (op : Op) (p : Pattern) (f g : Option ℕ) (types : List ShadeType) → BeginsWith types f → EndsIn types g → ¬ Allows p f g → IsRefused (PatternRows op p) types
is_allowed op p f g types begins ends none o row taken = none (row_for op p f g types o begins ends row taken).allowed

nearest_best : (op : Op) (p : Pattern) (f g : Option ℕ) (first : Scalar) (types : List ShadeType) (o : Overload) → BeginsWith types f → EndsIn types g → Allows p f g
    → IsNearest (made op p f g) (Suits p f g types) first o → IsBest (PatternRows op p) first types o
nearest_best op p f g first types o begins ends allowed n =
    subst (IsBest (PatternRows op p) first types) (sym n.is) (record {
      row = (refl, row_made p f g n.scalar allowed n.takes.0);
      taken = n.takes.1;
      near = λ other row taken.
          let q = row_for op p f g types other begins ends row taken in
          let near : distance first n.scalar ≤ distance first q.scalar = n.near q.scalar (q.fits, subst (BecomeAll types) q.args_are taken) in
          subst (AreNearer first (params_of p f g n.scalar)) (sym q.args_are) (near_params p f g first n.scalar q.scalar near);
    })

pub found_chosen : (op : Op) (p : Pattern) (f g : Option ℕ) (first : Scalar) (types : List ShadeType) (r : Option Overload) → BeginsWith types f → EndsIn types g → Allows p f g
    → IsFound (made op p f g) (Suits p f g types) first r → IsChosen (PatternRows op p) first types r
found_chosen op p f g first types (Some o) begins ends allowed n = nearest_best op p f g first types o begins ends allowed n
found_chosen op p f g first types None begins ends allowed none = λ o row taken.
    let q = row_for op p f g types o begins ends row taken in
    none q.scalar (q.fits, subst (BecomeAll types) q.args_are taken)
