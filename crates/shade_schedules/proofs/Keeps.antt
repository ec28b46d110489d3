-- Any run keeps to the plan of one that ended.
use Rattle.std.proofs.Common.{◌≡◌, ℕ, suc, true, false, not, List, [], ◌∷◌, ◌++◌, Option, Some, None, refl, ap, sym, ◌∙◌, subst, inl, inr}
use Rattle.std.specs.Prelude.{◌⊎◌, slice_get}
use Rattle.std.specs.Option.{option_map}
use Rattle.shade_schedules.specs.System.{System, Laws}
use Rattle.shade_schedules.specs.Machine.{Status, Able, Waiting, Ended, Member, Touch, Access, Group, touched, freed, answer_of, is_able, is_waiting, is_ended, unlike}
use Rattle.shade_schedules.specs.Races.{Among, IsOrderly}
use Rattle.shade_schedules.proofs.Lists.{false_true, among_right}
use Rattle.shade_schedules.proofs.Solo.{touches, touches_by, touches_of, is_stopped, touches_within}
use Rattle.shade_schedules.proofs.Stands.{access, start, Stands, one_stop}
use Rattle.shade_schedules.proofs.Plans.{Plan, finishes, releases}

module _ (K : System) where
  -- how an interval closes
  pub data Closes (H : List (Access K)) (e : K.Epochs) (N F : K.Memory) (lanes : ℕ → Option (Member K)) : Status K → List K.Instance → Type 0 where
    at_end : ((a : K.Address) → K.word_at N a ≡ K.word_at F a) → Closes H e N F lanes Ended []
    at_site : {site : K.Site} {sites : List K.Instance} (next : ℕ → Option (Member K)) (i : ℕ) (m : Member K) → lanes i ≡ Some m → ((i : ℕ) → next i ≡ option_map (freed K site N) (lanes i))
        → Plan K H (K.raised site e) N next F sites → Closes H e N F lanes (Waiting site) (K.instance_of site ∷ sites)

  -- what a plan says up to the next release: how the lanes stand there, and the one state that all come to
  pub record Ahead (H : List (Access K)) (e : K.Epochs) (M : K.Memory) (base : ℕ → Option (Member K)) (F : K.Memory) (sites : List K.Instance) : Type 0 where
    pub memory : K.Memory
    pub lanes : ℕ → Option (Member K)
    pub final : Status K
    pub stands : Stands K H e M base memory lanes
    pub reached : (i : ℕ) (m : Member K) → lanes i ≡ Some m → m.state ≡ final
    pub closes : Closes H e memory F lanes final sites

  pub ahead : {H : List (Access K)} {e : K.Epochs} {M : K.Memory} {base : ℕ → Option (Member K)} {F : K.Memory} {sites : List K.Instance} → Plan K H e M base F sites → Ahead H e M base F sites
  ahead (finishes {F = F} lanes s ends) = record { memory = F; lanes = lanes; final = Ended; stands = s; reached = ends; closes = at_end (λ a. refl) }
  ahead (releases {N = N} {next = next} {site = site} lanes s waits i m is freed_next plan) = record { memory = N; lanes = lanes; final = Waiting site; stands = s; reached = waits; closes = at_site next i m is freed_next plan }

  final_stops : {H : List (Access K)} {e : K.Epochs} {N F : K.Memory} {lanes : ℕ → Option (Member K)} {final : Status K} {sites : List K.Instance} → Closes H e N F lanes final sites → is_able K final ≡ false
  final_stops (at_end same) = refl
  final_stops (at_site next i m is freed_next plan) = refl

  -- A group keeps to a plan that ends with a memory and these sites.
  pub record Keeps (H : List (Access K)) (F : K.Memory) (all : List K.Instance) (g : Group K) : Type 0 where
    pub from : K.Memory
    pub base : ℕ → Option (Member K)
    pub sites : List K.Instance
    pub plan : Plan K H g.epochs from base F sites
    pub stands : Stands K H g.epochs from base g.memory (λ i. slice_get g.members i)
    pub came : g.released ++ sites ≡ all
    pub calm : g.diverged ≡ false

  pub stopped_by : (o : Option (Member K)) → ((m : Member K) → o ≡ Some m → is_able K m.state ≡ false) → is_stopped K o ≡ true
  stopped_by None h = refl
  stopped_by (Some m) h = ap not (h m refl)

  module _ (laws : Laws K) (H : List (Access K)) (orderly : IsOrderly K H) (F : K.Memory) (all : List K.Instance) where
    module _ {e : K.Epochs} {M : K.Memory} {base : ℕ → Option (Member K)} {sites : List K.Instance} (a : Ahead H e M base F sites) where
      -- the lanes of the plan stopped
      pub all_stopped : (i : ℕ) → is_stopped K (a.lanes i) ≡ true
      all_stopped i = stopped_by (a.lanes i) (λ m is. ap (λ s. is_able K s) (a.reached i m is) ∙ final_stops a.closes)

      -- what a lane is to touch next is among the accesses of the run that ended
      pub next_noted : {S : K.Memory} {lanes : ℕ → Option (Member K)} → Stands K H e M base S lanes → (n : ℕ) (m : Member K) → lanes n ≡ Some m → is_able K m.state ≡ true
          → (t : Touch K) → Among t (touched K (K.does m.lane)) → Among (access K n e t) H
      next_noted s n m is able t among =
          a.stands.noted n t (touches_within K (suc (s.count n)) (a.stands.count n) (start K M base n) (subst (λ o. is_stopped K o ≡ true) (a.stands.members n) (all_stopped n))
          (subst (λ xs. Among t xs) (sym (ap (λ o. touches K (s.count n) (start K M base n) ++ touches_of K o) (sym (s.members n) ∙ is) ∙ ap (λ b. touches K (s.count n) (start K M base n) ++ touches_by K b m) able))
          (among_right (touches K (s.count n) (start K M base n)) among)))

      -- a lane that stopped came to the one state
      pub stopped_final : {S : K.Memory} {lanes : ℕ → Option (Member K)} → Stands K H e M base S lanes → (i : ℕ) (m : Member K) → lanes i ≡ Some m → is_able K m.state ≡ false → m.state ≡ a.final
      stopped_final s i m is stopped =
          a.reached i m (sym (one_stop K laws H orderly e M base s a.stands i (subst (λ o. is_stopped K o ≡ true) (sym is) (ap not stopped)) (all_stopped i)) ∙ is)

    pub like_final : (s t : Status K) → is_able K s ≡ false → (is_able K t ≡ false → t ≡ s) → unlike K s t ≡ false
    like_final Able t stops same = refl
    like_final (Waiting site) Able stops same = refl
    like_final (Waiting site) (Waiting b) stops same = subst (λ x. unlike K (Waiting site) x ≡ false) (sym (same refl)) (laws.like_itself site)
    like_final (Waiting site) Ended stops same = let no_one : ⊥ = cc (same refl) in absurd no_one
    like_final Ended Able stops same = refl
    like_final Ended (Waiting b) stops same = let no_one : ⊥ = cc (same refl) in absurd no_one
    like_final Ended Ended stops same = refl

    pub stops_or : (s : Status K) → (is_able K s ≡ true) ⊎ (is_able K s ≡ false)
    stops_or Able = inl refl
    stops_or (Waiting site) = inr refl
    stops_or Ended = inr refl

    pub able_is : (s : Status K) → is_able K s ≡ true → s ≡ Able
    able_is Able e = refl
    able_is (Waiting site) e = false_true false refl e
    able_is Ended e = false_true false refl e

    pub waiting_stops : (s : Status K) → is_waiting K s ≡ true → is_able K s ≡ false
    waiting_stops Able e = false_true false refl e
    waiting_stops (Waiting site) e = refl
    waiting_stops Ended e = refl

    pub same_freed : (site : K.Site) (S N : K.Memory) (m : Member K) → ((a : K.Address) → K.word_at S a ≡ K.word_at N a) → freed K site S m ≡ freed K site N m
    same_freed site S N m same = ap (λ x. record { lane = K.resumed site m.lane x; state = Able }) (by (K.loaded site))
      where
        by : (o : Option K.Spot) → answer_of K S o ≡ answer_of K N o
        by None = refl
        by (Some s) = laws.read_same S N s (λ a c. same a)

    pub ended_stops : (s : Status K) → is_ended K s ≡ true → is_able K s ≡ false
    ended_stops Able e = false_true false refl e
    ended_stops (Waiting site) e = false_true false refl e
    ended_stops Ended e = refl
