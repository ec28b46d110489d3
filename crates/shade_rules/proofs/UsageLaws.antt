-- What functions use is what their statements give, by what is known of their callees.
use Rattle.std.proofs.Common.{◌≡◌, refl, sym, ap, subst, ◌∙◌, ℕ, zero, suc, ◌<◌, List, [], ◌∷◌, length, Some, inl, inr, arith}
use Rattle.std.specs.Prelude.{◌⊎◌, Contains, slice_get, slice_index_or}
use Rattle.std.proofs.lemmas.Option.{slice_get_within, slice_get-get_or}
use Rattle.shade_core.specs.declared.statement.Argument.{Argument}
use Rattle.shade_core.specs.declared.statement.Argument.TheVariants as argument
use Rattle.shade_core.specs.declared.module.CoreFunction.{CoreFunction}
use Rattle.shade_core.specs.Code.{code_of}
use Rattle.shade_core.specs.Standing.{Head, does, jumps, calls, branches, switches, loops, standing, statements}
use Rattle.shade_rules.specs.declared.usage.Seen.{Seen}
use Rattle.shade_rules.specs.declared.usage.Seen.TheVariants.{Parameter, Variable}
use Rattle.shade_rules.specs.Usages.{Usage, usage, StandsIn, Uses, itself, handed, below}
use Rattle.shade_rules.specs.Gathered.{Rows, HasAt, IsVariable, ByArgument, CallGives, HeadGives, FunctionGives}

-- ---- lists

pub none_in : {A : Type 0} (x : A) → Contains [] x → ⊥
none_in x h = omega (arith, h.1)

pub cases_of : {A : Type 0} (y : A) (xs : List A) (x : A) → Contains (y ∷ xs) x → (y ≡ x) ⊎ Contains xs x
cases_of {A} y xs x h = by_place h.0 h.1 h.2
  where
    by_place : (k : ℕ) → k < length (y ∷ xs) → slice_index_or (y ∷ xs) k x ≡ x → (y ≡ x) ⊎ Contains xs x
    by_place zero lt e = inl e
    by_place (suc k) lt e = inr (k, omega (arith, lt), e)

pub behind_of : {A : Type 0} (y : A) (xs : List A) (x : A) → Contains xs x → Contains (y ∷ xs) x
behind_of y xs x h = (suc h.0, omega (arith, h.1), h.2)

pub first_of : {A : Type 0} (x : A) (xs : List A) → Contains (x ∷ xs) x
first_of x xs = (zero, omega arith, refl)

-- a place of an element
pub contains_at : {A : Type 0} (xs : List A) (x : A) (h : Contains xs x) → slice_get xs h.0 ≡ Some x
contains_at xs x h = slice_get-get_or xs h.0 x h.1 ∙ ap Some h.2

-- a usage is made of its parts
again : (u : Usage) (seen : Seen) → u.target ≡ seen → u ≡ usage u.kind seen
again u seen e = λ i. record { kind = u.kind; target = e i }

-- ---- what is gathered is used

module _ (functions : List CoreFunction) (rows : Rows) (known : (g : ℕ) (u : Usage) → HasAt rows g u → Uses functions g u) where
  call_sound : (k g : ℕ) (args : List Argument) (u : Usage) → StandsIn functions k (calls g args) → CallGives (HasAt rows g) args u → Uses functions k u
  call_sound k g args u stands (inl h) = by_argument h.number h.arg h.at h.gives
    where
      by_argument : (j : ℕ) (arg : Argument) → slice_get args j ≡ Some arg → ByArgument (HasAt rows g) j arg u → Uses functions k u
      by_argument j (argument.Plain operand) at x = absurd x
      by_argument j (argument.Pointer view) at x = handed stands at x.0 (known g (usage u.kind (Parameter j)) x.1)
  call_sound k g args u stands (inr h) = by_target u.target refl h.0
    where
      by_target : (seen : Seen) → u.target ≡ seen → IsVariable seen → Uses functions k u
      by_target (Parameter i) e v = absurd v
      by_target (Variable r) e v =
          let same : u ≡ usage u.kind (Variable r) = again u (Variable r) e in
          subst (Uses functions k) (sym same) (below stands (subst (Uses functions g) same (known g u h.1)))

  head_sound : (k : ℕ) (head : Head) (u : Usage) → StandsIn functions k head → HeadGives (HasAt rows) head u → Uses functions k u
  head_sound k (does act) u stands h = itself stands h
  head_sound k (calls g args) u stands h = call_sound k g args u stands h
  head_sound k (jumps act) u stands h = absurd h
  head_sound k (branches cond) u stands h = absurd h
  head_sound k (switches selector cases) u stands h = absurd h
  head_sound k (loops leave) u stands h = absurd h

  pub function_sound : (k : ℕ) (f : CoreFunction) (u : Usage) → slice_get functions k ≡ Some f → FunctionGives (HasAt rows) f u → Uses functions k u
  function_sound k f u at h = head_sound k h.0.head u (record { function = f; at = at; number = h.0.number; stands = h.1 }) h.2

-- ---- what is used is gathered

-- only a function that is there uses something
pub uses_within : (functions : List CoreFunction) (k : ℕ) (u : Usage) → Uses functions k u → k < length functions
uses_within functions k u (itself stands h) = slice_get_within functions k stands.function stands.at
uses_within functions k u (handed stands at e h) = slice_get_within functions k stands.function stands.at
uses_within functions k u (below stands h) = slice_get_within functions k stands.function stands.at

module _ (functions : List CoreFunction) (rows : Rows) (k : ℕ) (f : CoreFunction) (at : slice_get functions k ≡ Some f)
    (callees : (g : ℕ) (args : List Argument) (u : Usage) → StandsIn functions k (calls g args) → Uses functions g u → HasAt rows g u) where
  -- a statement of the function gives what it gathers
  gives : (head : Head) (u : Usage) (stands : StandsIn functions k head) → HeadGives (HasAt rows) head u → FunctionGives (HasAt rows) f u
  gives head u stands h =
      let same : stands.function ≡ f = one_there stands.function f (sym stands.at ∙ at) in
      (standing stands.number head, subst (λ (x : CoreFunction). Contains (statements (code_of x.body)) (standing stands.number head)) same stands.stands, h)
    where
      one_there : (x y : CoreFunction) → Some x ≡ Some y → x ≡ y
      one_there x y e = cc

  pub function_complete : (u : Usage) → Uses functions k u → FunctionGives (HasAt rows) f u
  function_complete u (itself {act = act} stands h) = gives (does act) u stands h
  function_complete u (handed {g = g} {j = j} {args = args} {view = view} {kind = kind} {seen = seen} stands there e h) =
      gives (calls g args) (usage kind seen) stands
      (inl (record { number = j; before = slice_get_within args j (argument.Pointer view) there; arg = argument.Pointer view; at = there; gives = (e, callees g args (usage kind (Parameter j)) stands h) }))
  function_complete u (below {g = g} {r = r} {args = args} {kind = kind} stands h) = gives (calls g args) (usage kind (Variable r)) stands (inr (tt, callees g args (usage kind (Variable r)) stands h))
