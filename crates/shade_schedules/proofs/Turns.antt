-- What a step of a group may be, and what no step undoes.
use Rattle.std.proofs.Common.{◌≡◌, ℕ, Bool, true, false, not, List, [], ◌∷◌, Option, Some, None, refl, ap, sym, ◌∙◌, subst}
use Rattle.std.specs.Prelude.{slice_get}
use Rattle.shade_schedules.specs.System.{System}
use Rattle.shade_schedules.specs.Machine.{Status, Able, Waiting, Ended, Member, Group, moved, is_able, any_unlike, all_wait, release, met, parted, ended, waited, settled, went, step_by, acts, step_of, step, run, accesses, noted_by, noted_of, noted}
use Rattle.shade_schedules.proofs.Lists.{false_true, and_parts}

module _ (K : System) where
  -- What becomes of a group where a lane came to a state.
  pub data Settles (state : Status K) (g : Group K) : Type 0 where
    plainly : settled K state g ≡ g → Settles state g
    parting : any_unlike K state g.members ≡ true → settled K state g ≡ parted K g → Settles state g
    freeing : (site : K.Site) → state ≡ Waiting site → any_unlike K (Waiting site) g.members ≡ false → all_wait K g.members ≡ true → settled K state g ≡ release K site g → Settles state g

  pub settles : (state : Status K) (g : Group K) → Settles state g
  settles Able g = plainly refl
  settles Ended g = by (any_unlike K Ended g.members) refl
    where
      by : (b : Bool) → any_unlike K Ended g.members ≡ b → Settles Ended g
      by true e = parting e (ap (λ b. ended K b g) e)
      by false e = plainly (ap (λ b. ended K b g) e)
  settles (Waiting site) g = by (any_unlike K (Waiting site) g.members) refl
    where
      alike : any_unlike K (Waiting site) g.members ≡ false → (b : Bool) → all_wait K g.members ≡ b → Settles (Waiting site) g
      alike e true w = freeing site refl e w (ap (λ b. waited K b site g) e ∙ ap (λ b. met K b site g) w)
      alike e false w = plainly (ap (λ b. waited K b site g) e ∙ ap (λ b. met K b site g) w)

      by : (b : Bool) → any_unlike K (Waiting site) g.members ≡ b → Settles (Waiting site) g
      by true e = parting e (ap (λ b. waited K b site g) e)
      by false e = alike e (all_wait K g.members) refl

  -- A step does nothing, or is one of a lane that is able.
  pub data Turn (g : Group K) (n : ℕ) : Type 0 where
    idles : step K g n ≡ g → noted K g n ≡ [] → Turn g n
    moves : (m : Member K) → slice_get g.members n ≡ Some m → g.diverged ≡ false → is_able K m.state ≡ true → step K g n ≡ settled K (moved K g.memory m).state (went K n m g) → noted K g n ≡ accesses K n m g → Turn g n

  not_false : (b : Bool) → not b ≡ true → b ≡ false
  not_false true e = false_true false refl e
  not_false false e = refl

  pub turn : (g : Group K) (n : ℕ) → Turn g n
  turn g n = found (slice_get g.members n) refl
    where
      acting : (m : Member K) → slice_get g.members n ≡ Some m → (b : Bool) → acts K g m ≡ b → Turn g n
      acting m e true a =
          let parts : (not g.diverged ≡ true) × (is_able K m.state ≡ true) = and_parts (not g.diverged) (is_able K m.state) a in
          moves m e (not_false g.diverged parts.0) parts.1 (ap (λ o. step_of K n o g) e ∙ ap (λ b. step_by K b n m g) a) (ap (λ o. noted_of K n o g) e ∙ ap (λ b. noted_by K b n m g) a)
      acting m e false a = idles (ap (λ o. step_of K n o g) e ∙ ap (λ b. step_by K b n m g) a) (ap (λ o. noted_of K n o g) e ∙ ap (λ b. noted_by K b n m g) a)

      found : (o : Option (Member K)) → slice_get g.members n ≡ o → Turn g n
      found None e = idles (ap (λ o. step_of K n o g) e) (ap (λ o. noted_of K n o g) e)
      found (Some m) e = acting m e (acts K g m) refl

  -- a group that diverged stays so
  pub parted_stays : (steps : List ℕ) (g : Group K) → g.diverged ≡ true → (run K g steps).diverged ≡ true
  parted_stays [] g e = e
  parted_stays (n ∷ steps) g e = by (turn g n) (parted_stays steps g e)
    where
      by : Turn g n → (run K g steps).diverged ≡ true → (run K (step K g n) steps).diverged ≡ true
      by (idles same none) later = subst (λ z. (run K z steps).diverged ≡ true) (sym same) later
      by (moves m found calm able is touches) later = false_true g.diverged calm e
