-- What a run that ended tells of all others: from each release to the next, how each lane goes by itself.
use Rattle.std.proofs.Common.{◌≡◌, ℕ, true, false, List, [], ◌∷◌, ◌++◌, Option, Some, refl, ap, sym, ◌∙◌, subst, append_assoc, append-nil}
use Rattle.std.specs.Prelude.{slice_get}
use Rattle.std.specs.Option.{option_map}
use Rattle.shade_schedules.specs.System.{System, Laws}
use Rattle.shade_schedules.specs.Machine.{Status, Able, Waiting, Ended, Member, Touch, Access, Group, HasEnded, touched, moved, freed, is_waiting, is_ended, unlike, any_unlike, all_wait, release, parted, went, step, run, noted, history}
use Rattle.shade_schedules.specs.Races.{Among, IsOrderly}
use Rattle.shade_schedules.proofs.Lists.{false_true, among_left, among_right, among_map, set_same, set_other, get_map, all_at, any_at}
use Rattle.shade_schedules.proofs.Stands.{access, Stands, released_stands}
use Rattle.shade_schedules.proofs.Moves.{moved_stands}
use Rattle.shade_schedules.proofs.Turns.{Settles, plainly, parting, freeing, settles, Turn, idles, moves, turn, parted_stays}

module _ (K : System) where
  -- From a release on: the lanes all end, or all wait at a site, are released and go on.
  pub data Plan (H : List (Access K)) : K.Epochs → K.Memory → (ℕ → Option (Member K)) → K.Memory → List K.Instance → Type 0 where
    finishes : {e : K.Epochs} {M F : K.Memory} {base : ℕ → Option (Member K)} (lanes : ℕ → Option (Member K)) → Stands K H e M base F lanes
        → ((i : ℕ) (m : Member K) → lanes i ≡ Some m → m.state ≡ Ended) → Plan H e M base F []
    releases : {e : K.Epochs} {M N F : K.Memory} {base next : ℕ → Option (Member K)} {site : K.Site} {sites : List K.Instance} (lanes : ℕ → Option (Member K)) → Stands K H e M base N lanes
        → ((i : ℕ) (m : Member K) → lanes i ≡ Some m → m.state ≡ Waiting site) → (i : ℕ) (m : Member K) → lanes i ≡ Some m
        → ((i : ℕ) → next i ≡ option_map (freed K site N) (lanes i)) → Plan H (K.raised site e) N next F sites → Plan H e M base F (K.instance_of site ∷ sites)

  -- a plan up to where a run ended
  pub record Planned (H : List (Access K)) (e : K.Epochs) (M : K.Memory) (base : ℕ → Option (Member K)) (released : List K.Instance) (final : Group K) : Type 0 where
    pub sites : List K.Instance
    pub plan : Plan H e M base final.memory sites
    pub came : released ++ sites ≡ final.released

  ended_is : (s : Status K) → is_ended K s ≡ true → s ≡ Ended
  ended_is Able e = false_true false refl e
  ended_is (Waiting site) e = false_true false refl e
  ended_is Ended e = refl

  module _ (laws : Laws K) where
    alike_waits : (site : K.Site) (s : Status K) → is_waiting K s ≡ true → unlike K (Waiting site) s ≡ false → s ≡ Waiting site
    alike_waits site Able w u = false_true false refl w
    alike_waits site (Waiting b) w u = ap Waiting (sym (laws.same_site site b u))
    alike_waits site Ended w u = false_true false refl w

    -- who waits, where all wait alike
    pub waits_at : (site : K.Site) (members : List (Member K)) → any_unlike K (Waiting site) members ≡ false → all_wait K members ≡ true
        → (i : ℕ) (m : Member K) → slice_get members i ≡ Some m → m.state ≡ Waiting site
    waits_at site members u w i m e =
        alike_waits site m.state (all_at (λ (x : Member K). is_waiting K x.state) members i m w e) (any_at (λ (x : Member K). unlike K (Waiting site) x.state) members i m u e)

    module _ (H : List (Access K)) (orderly : IsOrderly K H) where
      abbrev Goes : List ℕ → Type 0
      Goes steps = (g : Group K) (M : K.Memory) (base : ℕ → Option (Member K)) → ((x : Access K) → Among x (history K g steps) → Among x H) → HasEnded K (run K g steps)
          → Stands K H g.epochs M base g.memory (λ i. slice_get g.members i) → Planned H g.epochs M base g.released (run K g steps)

      planned_step : (steps : List ℕ) → Goes steps → (n : ℕ) → Goes (n ∷ steps)
      planned_step steps later n g M base same over s = by (turn K g n)
        where
          at : (z : Group K) → step K g n ≡ z → Planned H g.epochs M base g.released (run K z steps) → Planned H g.epochs M base g.released (run K (step K g n) steps)
          at z e p = subst (λ x. Planned H g.epochs M base g.released (run K x steps)) (sym e) p

          same_at : (z : Group K) → step K g n ≡ z → (x : Access K) → Among x (history K z steps) → Among x H
          same_at z e = subst (λ z. (x : Access K) → Among x (history K z steps) → Among x H) e (λ x h. same x (among_right (noted K g n) h))

          over_at : (z : Group K) → step K g n ≡ z → HasEnded K (run K z steps)
          over_at z e = subst (λ x. HasEnded K (run K x steps)) e over

          by : Turn K g n → Planned H g.epochs M base g.released (run K (step K g n) steps)
          by (idles e none) = at g e (later g M base (same_at g e) (over_at g e) s)
          by (moves m found calm able e touches) = settling (settles K (moved K g.memory m).state (went K n m g))
            where
              moved_here : slice_get (went K n m g).members n ≡ Some (moved K g.memory m)
              moved_here = set_same g.members n (moved K g.memory m) found

              noted_next : (t : Touch K) → Among t (touched K (K.does m.lane)) → Among (access K n g.epochs t) H
              noted_next t among =
                  same (access K n g.epochs t) (among_left (history K (step K g n) steps) (subst (λ xs. Among (access K n g.epochs t) xs) (sym touches) (among_map (λ u. access K n g.epochs u) among)))

              stands : Stands K H g.epochs M base (went K n m g).memory (λ i. slice_get (went K n m g).members i)
              stands = moved_stands K laws H orderly g.epochs M base g.memory (λ i. slice_get g.members i) s n m found able noted_next (λ i. slice_get (went K n m g).members i) moved_here
                  (λ j apart. set_other g.members n j (moved K g.memory m) (λ is. apart (sym is)))

              settling : Settles K (moved K g.memory m).state (went K n m g) → Planned H g.epochs M base g.released (run K (step K g n) steps)
              settling (plainly f) = at (went K n m g) (e ∙ f) (later (went K n m g) M base (same_at (went K n m g) (e ∙ f)) (over_at (went K n m g) (e ∙ f)) stands)
              settling (parting u f) =
                  false_true (run K (parted K (went K n m g)) steps).diverged (over_at (parted K (went K n m g)) (e ∙ f)).calm (parted_stays K steps (parted K (went K n m g)) refl)
              settling (freeing site is u w f) = at (release K site (went K n m g)) (e ∙ f) (record {
                sites = K.instance_of site ∷ rest.sites;
                plan = releases (λ i. slice_get (went K n m g).members i) stands (waits_at site (went K n m g).members u w) n (moved K g.memory m) moved_here (λ i. get_map (freed K site (went K n m g).memory) (went K n m g).members i) rest.plan;
                came = sym (append_assoc g.released (K.instance_of site ∷ []) rest.sites) ∙ rest.came;
              })
                where
                  rest : Planned H (K.raised site g.epochs) (went K n m g).memory (λ i. slice_get (release K site (went K n m g)).members i) (g.released ++ K.instance_of site ∷ []) (run K (release K site (went K n m g)) steps)
                  rest =
                      later (release K site (went K n m g)) (went K n m g).memory (λ i. slice_get (release K site (went K n m g)).members i)
                      (same_at (release K site (went K n m g)) (e ∙ f)) (over_at (release K site (went K n m g)) (e ∙ f))
                      (released_stands K H (K.raised site g.epochs) (went K n m g).memory (λ i. slice_get (release K site (went K n m g)).members i) (went K n m g).memory (λ i. slice_get (release K site (went K n m g)).members i) (λ a. refl) (λ i. refl))

      -- The run that ended is by a plan.
      pub planned : (steps : List ℕ) → Goes steps
      planned [] g M base same over s = record {
        sites = [];
        plan = finishes (λ i. slice_get g.members i) s (λ i m e. ended_is m.state (all_at (λ (x : Member K). is_ended K x.state) g.members i m over.over e));
        came = append-nil g.released;
      }
      planned (n ∷ steps) g M base same over s = planned_step steps (planned steps) n g M base same over s
