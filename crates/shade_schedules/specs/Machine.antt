-- A group of lanes with one memory: its step and its run.
use Rattle.std.specs.Prelude.{◌≡◌, ℕ, Bool, true, false, not, ◌&&◌, List, [], ◌∷◌, ◌++◌, map, Option, None, Some, slice_get, slice_set}
use Rattle.std.specs.List.{list_any, list_all}
use Rattle.shade_schedules.specs.System.{Kind, Read, Write, Atomic, Request, Works, Reads, Writes, Changes, Waits, System}

module _ (K : System) where
  pub data Status : Type 0 where
    Able : Status
    Waiting : K.Site → Status
    Ended : Status

  pub record Member : Type 0 where
    pub lane : K.State
    pub state : Status

  -- a piece of memory that a step touched, and how
  pub record Touch : Type 0 where
    pub spot : K.Spot
    pub kind : Kind

  -- a touch by a lane, with the epochs of that moment
  pub record Access : Type 0 where
    pub lane : ℕ
    pub touch : Touch
    pub epochs : K.Epochs

  pub record Group : Type 0 where
    pub members : List Member
    pub memory : K.Memory
    pub epochs : K.Epochs
    pub released : List K.Instance
    pub diverged : Bool

  -- ---- a lane's own step

  abbrev pub touch_unless : Bool → K.Spot → List Touch
  touch_unless true s = []
  touch_unless false s = record { spot = s; kind = Read } ∷ []

  -- what a step touches, as far as it is noted
  abbrev pub touched : Request K.Spot K.Data K.Site → List Touch
  touched Works = []
  touched (Reads s) = touch_unless (K.is_fixed s) s
  touched (Writes s d) = record { spot = s; kind = Write } ∷ []
  touched (Changes s d) = record { spot = s; kind = Atomic } ∷ []
  touched (Waits site) = []

  -- what a step is answered
  abbrev pub answered : K.Memory → Request K.Spot K.Data K.Site → K.Answer
  answered m Works = K.nothing
  answered m (Reads s) = K.read m s
  answered m (Writes s d) = K.nothing
  answered m (Changes s d) = K.read m s
  answered m (Waits site) = K.nothing

  -- the memory after a step
  abbrev pub stored : K.Memory → Request K.Spot K.Data K.Site → K.Memory
  stored m Works = m
  stored m (Reads s) = m
  stored m (Writes s d) = K.written m s d
  stored m (Changes s d) = K.written m s d
  stored m (Waits site) = m

  abbrev pub past : Bool → Status
  past true = Ended
  past false = Able

  abbrev pub status_by : Request K.Spot K.Data K.Site → Bool → Status
  status_by Works over = past over
  status_by (Reads s) over = past over
  status_by (Writes s d) over = past over
  status_by (Changes s d) over = past over
  status_by (Waits site) over = Waiting site

  -- a lane that is able after a step of its own
  abbrev pub moved : K.Memory → Member → Member
  moved memory m = record {
    lane = K.after m.lane (answered memory (K.does m.lane));
    state = status_by (K.does m.lane) (K.is_over (K.after m.lane (answered memory (K.does m.lane))));
  }

  -- ---- a release

  abbrev pub answer_of : K.Memory → Option K.Spot → K.Answer
  answer_of memory None = K.nothing
  answer_of memory (Some s) = K.read memory s

  -- a lane that waited, released
  abbrev pub freed : K.Site → K.Memory → Member → Member
  freed site memory m = record { lane = K.resumed site m.lane (answer_of memory (K.loaded site)); state = Able }

  abbrev pub is_able : Status → Bool
  is_able Able = true
  is_able (Waiting site) = false
  is_able Ended = false

  abbrev pub is_waiting : Status → Bool
  is_waiting Able = false
  is_waiting (Waiting site) = true
  is_waiting Ended = false

  abbrev pub is_ended : Status → Bool
  is_ended Able = false
  is_ended (Waiting site) = false
  is_ended Ended = true

  -- two that stopped, and not alike
  abbrev pub unlike : Status → Status → Bool
  unlike Able other = false
  unlike (Waiting a) Able = false
  unlike (Waiting a) (Waiting b) = K.unlike_sites a b
  unlike (Waiting a) Ended = true
  unlike Ended Able = false
  unlike Ended (Waiting b) = true
  unlike Ended Ended = false

  abbrev pub any_unlike : Status → List Member → Bool
  any_unlike state members = list_any (λ m. unlike state m.state) members

  abbrev pub all_wait : List Member → Bool
  all_wait members = list_all (λ m. is_waiting m.state) members

  abbrev pub all_ended : List Member → Bool
  all_ended members = list_all (λ m. is_ended m.state) members

  -- every lane is able again, and has the one value that was read
  abbrev pub release : K.Site → Group → Group
  release site g = record g { members = map (freed site g.memory) g.members; epochs = K.raised site g.epochs; released = g.released ++ K.instance_of site ∷ [] }

  abbrev pub met : Bool → K.Site → Group → Group
  met true site g = release site g
  met false site g = g

  abbrev pub parted : Group → Group
  parted g = record g { diverged = true }

  abbrev pub ended : Bool → Group → Group
  ended true g = parted g
  ended false g = g

  abbrev pub waited : Bool → K.Site → Group → Group
  waited true site g = parted g
  waited false site g = met (all_wait g.members) site g

  -- where a lane came to a state
  abbrev pub settled : Status → Group → Group
  settled Able g = g
  settled Ended g = ended (any_unlike Ended g.members) g
  settled (Waiting site) g = waited (any_unlike (Waiting site) g.members) site g

  -- ---- a step of the group

  -- the lane with a number took its step, nothing else yet
  abbrev pub went : ℕ → Member → Group → Group
  went number m g = record g {
    members = slice_set g.members number (moved g.memory m);
    memory = stored g.memory (K.does m.lane);
  }

  abbrev pub step_by : Bool → ℕ → Member → Group → Group
  step_by true number m g = settled (moved g.memory m).state (went number m g)
  step_by false number m g = g

  -- a step of a lane that stopped, or after the run diverged, changes nothing
  abbrev pub acts : Group → Member → Bool
  acts g m = not g.diverged && is_able m.state

  abbrev pub step_of : ℕ → Option Member → Group → Group
  step_of number None g = g
  step_of number (Some m) g = step_by (acts g m) number m g

  abbrev pub step : Group → ℕ → Group
  step g number = step_of number (slice_get g.members number) g

  -- the steps of a list of lane numbers
  abbrev pub run : Group → List ℕ → Group
  run g [] = g
  run g (number ∷ numbers) = run (step g number) numbers

  -- ---- what steps touch

  -- the accesses of a lane's next step
  abbrev pub accesses : ℕ → Member → Group → List Access
  accesses number m g = map (λ t. record { lane = number; touch = t; epochs = g.epochs }) (touched (K.does m.lane))

  abbrev pub noted_by : Bool → ℕ → Member → Group → List Access
  noted_by true number m g = accesses number m g
  noted_by false number m g = []

  abbrev pub noted_of : ℕ → Option Member → Group → List Access
  noted_of number None g = []
  noted_of number (Some m) g = noted_by (acts g m) number m g

  -- the accesses of a step of the lane with this number
  abbrev pub noted : Group → ℕ → List Access
  noted g number = noted_of number (slice_get g.members number) g

  -- the accesses of a list of steps, in order
  abbrev pub history : Group → List ℕ → List Access
  history g [] = []
  history g (number ∷ numbers) = noted g number ++ history (step g number) numbers

  -- a run that did not diverge and whose lanes all ended
  pub record HasEnded (g : Group) : Type 0 where
    pub calm : g.diverged ≡ false
    pub over : all_ended g.members ≡ true
