-- Races, and what a run leaves that does not depend on the order of its steps.
use Rattle.std.specs.Prelude.{◌≡◌, ℕ, Bool, true, false, List, ◌∷◌}
use Rattle.shade_schedules.specs.System.{Kind, Read, Write, Atomic, System}
use Rattle.shade_schedules.specs.Machine.{Access, Group, run, history, HasEnded}

pub data Among {A : Type 0} (item : A) : List A → Type 0 where
  here : {rest : List A} → Among item (item ∷ rest)
  there : {other : A} {rest : List A} → Among item rest → Among item (other ∷ rest)

abbrev pub collide : Kind → Kind → Bool
collide Read Read = false
collide Read Write = true
collide Read Atomic = true
collide Write other = true
collide Atomic Read = true
collide Atomic Write = true
collide Atomic Atomic = false

module _ (K : System) where
  -- Two accesses race: two lanes touch one word in one epoch of its space, and not only read it, nor only by atomic steps.
  pub record Race (x y : Access K) : Type 0 where
    pub lanes : x.lane ≡ y.lane → ⊥
    pub address : K.Address
    pub one : K.covers x.touch.spot address ≡ true
    pub other : K.covers y.touch.spot address ≡ true
    pub epoch : K.epoch_at x.epochs address ≡ K.epoch_at y.epochs address
    pub kinds : collide x.touch.kind y.touch.kind ≡ true

  abbrev pub IsRaceFree : List (Access K) → Type 0
  IsRaceFree history = (x y : Access K) → Among x history → Among y history → Race x y → ⊥

  -- no access is atomic
  abbrev pub HasNoAtomic : List (Access K) → Type 0
  HasNoAtomic history = (x : Access K) → Among x history → x.touch.kind ≡ Atomic → ⊥

  -- nothing that is fixed was written
  abbrev pub KeepsFixed : List (Access K) → Type 0
  KeepsFixed history = (x : Access K) (s : K.Spot) (a : K.Address) → Among x history → x.touch.kind ≡ Write → K.is_fixed s ≡ true → K.covers s a ≡ true → K.covers x.touch.spot a ≡ true → ⊥

  -- what is asked of the accesses of one run
  pub record IsOrderly (history : List (Access K)) : Type 0 where
    pub race_free : IsRaceFree history
    pub no_atomic : HasNoAtomic history
    pub fixed : KeepsFixed history

  -- One run leaves what another left: the words of the memory, and the instances that were released.
  pub record LeavesSame (g h : Group K) : Type 0 where
    pub memory : (a : K.Address) → K.word_at g.memory a ≡ K.word_at h.memory a
    pub released : g.released ≡ h.released

  -- What one list of steps that ended tells of another from the same start: no race, no divergence, and where that one ends, it leaves
  -- the same.
  pub record Follows (start : Group K) (reference steps : List ℕ) : Type 0 where
    pub race_free : IsRaceFree (history K start steps)
    pub converges : (run K start steps).diverged ≡ false
    pub same : HasEnded K (run K start steps) → LeavesSame (run K start steps) (run K start reference)

  -- Where some list of steps ended with no race, no atomic access and no write to what is fixed, no list of steps races or diverges, and
  -- each that ends leaves the same memory and the same released instances.
  abbrev pub Commutes : Type 0
  Commutes = (start : Group K) (reference steps : List ℕ) → start.diverged ≡ false → HasEnded K (run K start reference) → IsOrderly (history K start reference) → Follows start reference steps
