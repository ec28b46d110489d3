-- Each call of a function whose statements fit is of a function that is there.
use Rattle.std.proofs.Common.{◌≡◌, ap, subst, ℕ, ◌+◌, List, [], ◌∷◌, ◌++◌, Option, inl, inr, arith}
use Rattle.std.specs.Prelude.{Contains}
use Rattle.std.proofs.lemmas.List.Elements.{Contains-append_left, Contains-append_right, Contains-append_cases}
use Rattle.std.proofs.lemmas.Option.{slice_get_within}
use Rattle.shade_values.specs.declared.types.ShadeType.{ShadeType}
use Rattle.shade_chains.proofs.CallLaws.{contains_cases, contains_behind, contains_first}
use Rattle.shade_chains.specs.Keeps.{CallsStand}
use Rattle.shade_core.specs.declared.module.CoreFunction.{CoreFunction}
use Rattle.shade_core.specs.declared.module.CoreModule.{CoreModule}
use Rattle.shade_core.specs.declared.statement.Argument.{Argument}
use Rattle.shade_core.specs.Chains.{calls_in}
use Rattle.shade_core.specs.Code.{Code, done, plain, jump, call, branch, switch, loop, no_part, part, code_of}
use Rattle.shade_core.specs.Fits.{AllFit, Fits}
use Rattle.shade_core.specs.Standing.{Standing, calls, standing, statements}
use Rattle.shade_core.specs.Views.{ValueTypes}
use Rattle.shade_whole.specs.Bodies.{AreBodies}

-- a call of a function stands among some statements
pub record CalledIn (list : List Standing) (g : ℕ) : Type 0 where
  pub number : ℕ
  pub args : List Argument
  pub stands : Contains list (standing number (calls g args))

nothing : {A : Type 0} (x : A) → Contains [] x → ⊥
nothing x h = omega (arith, h.1)

behind : (s : Standing) (list : List Standing) (g : ℕ) → CalledIn list g → CalledIn (s ∷ list) g
behind s list g c = record { number = c.number; args = c.args; stands = contains_behind s list (standing c.number (calls g c.args)) c.stands }

left : (list more : List Standing) (g : ℕ) → CalledIn list g → CalledIn (list ++ more) g
left list more g c = record { number = c.number; args = c.args; stands = Contains-append_left list more (standing c.number (calls g c.args)) c.stands }

right : (list more : List Standing) (g : ℕ) → CalledIn more g → CalledIn (list ++ more) g
right list more g c = record { number = c.number; args = c.args; stands = Contains-append_right list more (standing c.number (calls g c.args)) c.stands }

called : (c : Code) (loops g l : ℕ) → Contains (calls_in loops c) (g, l) → CalledIn (statements c) g
called done loops g l h = absurd (nothing (g, l) h)
called (plain n act rest) loops g l h = behind _ (statements rest) g (called rest loops g l h)
called (jump n act rest) loops g l h = behind _ (statements rest) g (called rest loops g l h)
called (call n f args rest) loops g l h = elim (contains_cases (f, loops) (calls_in loops rest) (g, l) h) [
  | inl s ↦
      let same : f ≡ g = ap (λ (p : ℕ × ℕ). p.0) s in
      subst (CalledIn (standing n (calls f args) ∷ statements rest)) same (record { number = n; args = args; stands = contains_first (standing n (calls f args)) (statements rest) })
  | inr more ↦ behind (standing n (calls f args)) (statements rest) g (called rest loops g l more)
]
called (branch n cond one two rest) loops g l h = behind _ (statements one ++ statements two ++ statements rest) g (elim (Contains-append_cases (calls_in loops one ++ calls_in loops two) (calls_in loops rest) (g, l) h) [
  | inl front ↦ left (statements one ++ statements two) (statements rest) g (elim (Contains-append_cases (calls_in loops one) (calls_in loops two) (g, l) front) [
    | inl a ↦ left (statements one) (statements two) g (called one loops g l a)
    | inr b ↦ right (statements one) (statements two) g (called two loops g l b)
  ])
  | inr c ↦ right (statements one ++ statements two) (statements rest) g (called rest loops g l c)
])
called (switch n selector parts rest) loops g l h = behind _ (statements parts ++ statements rest) g (elim (Contains-append_cases (calls_in loops parts) (calls_in loops rest) (g, l) h) [
  | inl a ↦ left (statements parts) (statements rest) g (called parts loops g l a)
  | inr b ↦ right (statements parts) (statements rest) g (called rest loops g l b)
])
called (loop n body continuing leave rest) loops g l h = behind _ (statements body ++ statements continuing ++ statements rest) g (elim (Contains-append_cases (calls_in (loops + 1) body ++ calls_in (loops + 1) continuing) (calls_in loops rest) (g, l) h) [
  | inl front ↦ left (statements body ++ statements continuing) (statements rest) g (elim (Contains-append_cases (calls_in (loops + 1) body) (calls_in (loops + 1) continuing) (g, l) front) [
    | inl a ↦ left (statements body) (statements continuing) g (called body (loops + 1) g l a)
    | inr b ↦ right (statements body) (statements continuing) g (called continuing (loops + 1) g l b)
  ])
  | inr c ↦ right (statements body ++ statements continuing) (statements rest) g (called rest loops g l c)
])
called no_part loops g l h = absurd (nothing (g, l) h)
called (part n which keys fallback body others) loops g l h = elim (Contains-append_cases (calls_in loops body) (calls_in loops others) (g, l) h) [
  | inl a ↦ left (statements body) (statements others) g (called body loops g l a)
  | inr b ↦ right (statements body) (statements others) g (called others loops g l b)
]

-- a statement among those that fit does
pub record FitsSomewhere (shader : CoreModule) (f : CoreFunction) (s : Standing) : Type 0 where
  pub values : ValueTypes
  pub result : Option ShadeType
  pub fits : Fits shader f values s.head result

fits_among : (shader : CoreModule) (f : CoreFunction) (before all : ValueTypes) (list : List Standing) (s : Standing) → AllFit shader f before list all → Contains list s → FitsSomewhere shader f s
fits_among shader f before all [] s h c = absurd (nothing s c)
fits_among shader f before all (x ∷ list) s h c = elim (contains_cases x list s c) [
  | inl e ↦ record { values = before; result = h.0; fits = subst (λ y. Fits shader f before y.head h.0) e h.1 }
  | inr more ↦ fits_among shader f (before ++ h.0 ∷ []) all list s h.2 more
]

-- each call of a module whose functions have statements as they may
pub calls_stand : (shader : CoreModule) (values : ℕ → ValueTypes) → AreBodies shader values → CallsStand shader
calls_stand shader values bodies k g leads =
    let site = leads.stands in
    let body = bodies k site.function site.at in
    let c = called (code_of site.function.body) 0 g leads.loops site.stands in
    let fit = fits_among shader site.function [] (values k) (statements (code_of site.function.body)) (standing c.number (calls g c.args)) body.typed.fit c.stands in
    slice_get_within shader.functions g fit.fits.0 fit.fits.1
