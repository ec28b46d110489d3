-- No list of steps races or diverges where one ended with no race, and each that ends leaves the same.
use Rattle.std.proofs.Common.{◌≡◌, ℕ, true, false, List, [], ◌∷◌, ◌++◌, Option, Some, None, refl, ap, sym, ◌∙◌, subst, append_assoc, append-nil, inl, inr}
use Rattle.std.specs.Prelude.{slice_get}
use Rattle.std.specs.Option.{option_map}
use Rattle.shade_schedules.specs.System.{System, Laws}
use Rattle.shade_schedules.specs.Machine.{Status, Waiting, Member, Touch, Access, Group, HasEnded, touched, moved, freed, is_able, is_waiting, is_ended, unlike, any_unlike, release, went, step, run, noted, history}
use Rattle.shade_schedules.specs.Races.{Among, IsOrderly, Commutes}
use Rattle.shade_schedules.proofs.Lists.{false_true, none_among, among_either, from_map, set_same, set_other, get_map, all_at, none_at}
use Rattle.shade_schedules.proofs.Solo.{is_stopped}
use Rattle.shade_schedules.proofs.Stands.{access, Stands, released_stands, one_stop, one_memory}
use Rattle.shade_schedules.proofs.Moves.{moved_stands}
use Rattle.shade_schedules.proofs.Turns.{Settles, plainly, parting, freeing, settles, Turn, idles, moves, turn}
use Rattle.shade_schedules.proofs.Plans.{Plan, Planned, planned}
use Rattle.shade_schedules.proofs.Keeps.{Closes, at_end, at_site, Ahead, ahead, Keeps, stopped_by, all_stopped, next_noted, stopped_final, like_final, stops_or, able_is, waiting_stops, ended_stops, same_freed}

module _ (K : System) (laws : Laws K) (H : List (Access K)) (orderly : IsOrderly K H) (F : K.Memory) (all : List K.Instance) where
  freed_alike : (site : K.Site) (S N : K.Memory) (o : Option (Member K)) → ((a : K.Address) → K.word_at S a ≡ K.word_at N a) → option_map (freed K site S) o ≡ option_map (freed K site N) o
  freed_alike site S N None same = refl
  freed_alike site S N (Some m) same = ap Some (same_freed K laws H orderly F all site S N m same)

  -- a release of a run is that of the plan
  frees : (g : Group K) (site : K.Site) (M : K.Memory) (base : ℕ → Option (Member K)) {N : K.Memory} {lanes : ℕ → Option (Member K)} {final : Status K} {sites : List K.Instance}
      → Closes K H g.epochs N F lanes final sites → final ≡ Waiting site → g.released ++ sites ≡ all
      → Stands K H g.epochs M base g.memory (λ i. slice_get g.members i) → Stands K H g.epochs M base N lanes
      → ((i : ℕ) → is_stopped K (slice_get g.members i) ≡ true) → ((i : ℕ) → is_stopped K (lanes i) ≡ true)
      → g.diverged ≡ false → Keeps K H F all (release K site g)
  frees g site M base (at_end same) is came s p stopped others calm = let no_one : ⊥ = cc is in absurd no_one
  frees g site M base {N = N} {lanes = lanes} (at_site {site = b} {sites = rest} next i m there freed_next plan) is came s p stopped others calm =
      let same_site : b ≡ site = cc is in
      let memory : (a : K.Address) → K.word_at g.memory a ≡ K.word_at N a = one_memory K laws H orderly g.epochs M base s p stopped others in
      record {
        from = N;
        base = next;
        sites = rest;
        plan = subst (λ x. Plan K H (K.raised x g.epochs) N next F rest) same_site plan;
        stands = released_stands K H (K.raised site g.epochs) N next g.memory (λ j. slice_get (release K site g).members j) memory
            (λ j. get_map (freed K site g.memory) g.members j
            ∙ (freed_alike site g.memory N (slice_get g.members j) memory
            ∙ (ap (option_map (freed K site N)) (one_stop K laws H orderly g.epochs M base s p j (stopped j) (others j))
            ∙ (ap (λ x. option_map (freed K x N) (lanes j)) (sym same_site) ∙ sym (freed_next j)))));
        came = append_assoc g.released (K.instance_of site ∷ []) rest ∙ (ap (λ x. g.released ++ K.instance_of x ∷ rest) (sym same_site) ∙ came);
        calm = calm;
      }

  -- A step keeps to the plan.
  keeps_step : (g : Group K) (n : ℕ) → Keeps K H F all g → Keeps K H F all (step K g n)
  keeps_step g n k = by (turn K g n)
    where
      by : Turn K g n → Keeps K H F all (step K g n)
      by (idles e none) = subst (λ z. Keeps K H F all z) (sym e) k
      by (moves m found calm able e touches) = settling (settles K (moved K g.memory m).state (went K n m g))
        where
          a : Ahead K H g.epochs k.from k.base F k.sites
          a = ahead K k.plan

          here : slice_get (went K n m g).members n ≡ Some (moved K g.memory m)
          here = set_same g.members n (moved K g.memory m) found

          noted : (t : Touch K) → Among t (touched K (K.does m.lane)) → Among (access K n g.epochs t) H
          noted = next_noted K laws H orderly F all a k.stands n m found able

          stands : Stands K H g.epochs k.from k.base (went K n m g).memory (λ i. slice_get (went K n m g).members i)
          stands = moved_stands K laws H orderly g.epochs k.from k.base g.memory (λ i. slice_get g.members i) k.stands n m found able noted (λ i. slice_get (went K n m g).members i) here
              (λ j apart. set_other g.members n j (moved K g.memory m) (λ is. apart (sym is)))

          final : (i : ℕ) (x : Member K) → slice_get (went K n m g).members i ≡ Some x → is_able K x.state ≡ false → x.state ≡ a.final
          final i x is stopped = stopped_final K laws H orderly F all a stands i x is stopped

          none_unlike : any_unlike K (moved K g.memory m).state (went K n m g).members ≡ false
          none_unlike = elim (stops_or K laws H orderly F all (moved K g.memory m).state) [
            | inl able_still ↦ subst (λ s. any_unlike K s (went K n m g).members ≡ false) (sym (able_is K laws H orderly F all (moved K g.memory m).state able_still)) (none_at (λ x. false) (went K n m g).members (λ i x is. refl))
            | inr stopped ↦ none_at (λ (x : Member K). unlike K (moved K g.memory m).state x.state) (went K n m g).members
                (λ i x is. like_final K laws H orderly F all (moved K g.memory m).state x.state stopped (λ x_stopped. final i x is x_stopped ∙ sym (final n (moved K g.memory m) here stopped)))
          ]

          settling : Settles K (moved K g.memory m).state (went K n m g) → Keeps K H F all (step K g n)
          settling (plainly f) = subst (λ z. Keeps K H F all z) (sym (e ∙ f)) (record { from = k.from; base = k.base; sites = k.sites; plan = k.plan; stands = stands; came = k.came; calm = calm })
          settling (parting u f) = false_true (any_unlike K (moved K g.memory m).state (went K n m g).members) none_unlike u
          settling (freeing site is u w f) =
              subst (λ z. Keeps K H F all z) (sym (e ∙ f))
              (frees (went K n m g) site k.from k.base a.closes (sym (final n (moved K g.memory m) here (ap (λ s. is_able K s) is)) ∙ is) k.came stands a.stands
              (λ i. stopped_by K (slice_get (went K n m g).members i) (λ x there. waiting_stops K laws H orderly F all x.state (all_at (λ (y : Member K). is_waiting K y.state) (went K n m g).members i x w there)))
              (all_stopped K laws H orderly F all a) calm)

  pub keeps_run : (steps : List ℕ) (g : Group K) → Keeps K H F all g → Keeps K H F all (run K g steps)
  keeps_run [] g k = k
  keeps_run (n ∷ steps) g k = keeps_run steps (step K g n) (keeps_step g n k)

  -- what a run notes that keeps to the plan
  pub keeps_known : (steps : List ℕ) (g : Group K) → Keeps K H F all g → (x : Access K) → Among x (history K g steps) → Among x H
  keeps_known [] g k x among = none_among among
  keeps_known (n ∷ steps) g k x among = elim (among_either (noted K g n) (history K (step K g n) steps) among) [
    | inl now ↦ by (turn K g n) now
    | inr then ↦ keeps_known steps (step K g n) (keeps_step g n k) x then
  ]
    where
      by : Turn K g n → Among x (noted K g n) → Among x H
      by (idles e none) now = none_among (subst (λ xs. Among x xs) none now)
      by (moves m found calm able e touches) now =
          let r : (t : Touch K) × Among t (touched K (K.does m.lane)) × (x ≡ access K n g.epochs t) = from_map (λ t. access K n g.epochs t) (touched K (K.does m.lane)) (subst (λ xs. Among x xs) touches now) in
          subst (λ z. Among z H) (sym r.2) (next_noted K laws H orderly F all (ahead K k.plan) k.stands n m found able r.0 r.1)

  -- what a run leaves that keeps to the plan and ended
  leaves : (g : Group K) (M : K.Memory) (base : ℕ → Option (Member K)) {N : K.Memory} {lanes : ℕ → Option (Member K)} {final : Status K} {sites : List K.Instance}
      → Closes K H g.epochs N F lanes final sites → ((i : ℕ) (m : Member K) → lanes i ≡ Some m → m.state ≡ final) → g.released ++ sites ≡ all
      → Stands K H g.epochs M base g.memory (λ i. slice_get g.members i) → Stands K H g.epochs M base N lanes
      → ((i : ℕ) (m : Member K) → slice_get g.members i ≡ Some m → is_ended K m.state ≡ true) → ((i : ℕ) → is_stopped K (lanes i) ≡ true)
      → ((a : K.Address) → K.word_at g.memory a ≡ K.word_at F a) × (g.released ≡ all)
  leaves g M base (at_end same) reached came s p ends others = (
    (λ a. one_memory K laws H orderly g.epochs M base s p (λ i. stopped_by K (slice_get g.members i) (λ x there. ended_stops K laws H orderly F all x.state (ends i x there))) others a ∙ same a),
    sym (append-nil g.released) ∙ came,
  )
  leaves g M base {lanes = lanes} (at_site {site = site} next i m there freed_next plan) reached came s p ends others =
      let found : slice_get g.members i ≡ Some m = one_stop K laws H orderly g.epochs M base s p i (stopped_by K (slice_get g.members i) (λ x is. ended_stops K laws H orderly F all x.state (ends i x is))) (others i) ∙ there in
      false_true (is_ended K m.state) (ap (λ st. is_ended K st) (reached i m there)) (ends i m found)

  pub leaves_same : (g : Group K) → Keeps K H F all g → HasEnded K g → ((a : K.Address) → K.word_at g.memory a ≡ K.word_at F a) × (g.released ≡ all)
  leaves_same g k over =
      let a : Ahead K H g.epochs k.from k.base F k.sites = ahead K k.plan in
      leaves g k.from k.base a.closes a.reached k.came k.stands a.stands (λ i m is. all_at (λ (x : Member K). is_ended K x.state) g.members i m over.over is) (all_stopped K laws H orderly F all a)

-- SCHEDULE INDEPENDENCE.
pub commutes : (K : System) → Laws K → Commutes K
commutes K laws start reference steps calm over orderly =
    record {
      race_free = λ x y one other race. orderly.race_free x y (known x one) (known y other) race;
      converges = all.calm;
      same = λ ended. let l : ((a : K.Address) → K.word_at (run K start steps).memory a ≡ K.word_at (run K start reference).memory a) × ((run K start steps).released ≡ (run K start reference).released) =
          leaves_same K laws (history K start reference) orderly (run K start reference).memory (run K start reference).released (run K start steps) all ended in
          record { memory = l.0; released = l.1 };
    }
  where
    begins : Stands K (history K start reference) start.epochs start.memory (λ i. slice_get start.members i) start.memory (λ i. slice_get start.members i)
    begins = released_stands K (history K start reference) start.epochs start.memory (λ i. slice_get start.members i) start.memory (λ i. slice_get start.members i) (λ a. refl) (λ i. refl)

    plan : Planned K (history K start reference) start.epochs start.memory (λ i. slice_get start.members i) start.released (run K start reference)
    plan = planned K laws (history K start reference) orderly reference start start.memory (λ i. slice_get start.members i) (λ x h. h) over begins

    at_first : Keeps K (history K start reference) (run K start reference).memory (run K start reference).released start
    at_first = record { from = start.memory; base = λ i. slice_get start.members i; sites = plan.sites; plan = plan.plan; stands = begins; came = plan.came; calm = calm }

    all : Keeps K (history K start reference) (run K start reference).memory (run K start reference).released (run K start steps)
    all = keeps_run K laws (history K start reference) orderly (run K start reference).memory (run K start reference).released steps start at_first

    known : (x : Access K) → Among x (history K start steps) → Among x (history K start reference)
    known = keeps_known K laws (history K start reference) orderly (run K start reference).memory (run K start reference).released steps start at_first
