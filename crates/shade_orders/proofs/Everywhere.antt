-- What holds of each statement of a function holds of all that a lane has left.
use Rattle.std.proofs.Common.{◌≡◌, ℕ, zero, suc, Bool, true, false, List, [], ◌∷◌, Option, Some, None, refl, subst, ◌+◌}
use Rattle.std.specs.Prelude.{slice_get}
use Rattle.shade_values.specs.declared.types.Space.{Space}
use Rattle.shade_values.specs.declared.value.Value.{Value}
use Rattle.shade_core.specs.Code.{Plain, Set, Load, Declare, Store, Atomic, Barrier, UniformLoad, Length, Jump, Break, Continue, Return, Code, done, plain, jump, call, branch, switch, loop, no_part, part, code_of}
use Rattle.shade_core.specs.declared.module.CoreFunction.{CoreFunction}
use Rattle.shade_core.specs.declared.module.CoreModule.{CoreModule}
use Rattle.shade_lane.specs.Lane.{Rest, halt, seq, Place, Over, First, next_code, next, chosen, jumped, go_code, go, Lane, counts}
use Rattle.shade_lane.specs.Members.{Member, begin_member, Arrival, arrival, act_arrival, instance_words}
use Rattle.shade_mem.specs.declared.inputs.Inputs.{Inputs}
use Rattle.shade_group.specs.Group as groups
use Rattle.shade_orders.specs.Everywhere.{AllPlain, AllRest, AllPlace, HasSpace, IsSpaced}

module _ (P : ℕ → Plain → Type 0) where
  next_code_all : (c : Code) (k : Rest) (other : Place) → AllPlain P c → AllRest P k → AllPlace P other → AllPlace P (next_code c k other)
  next_code_all done k other a r o = o
  next_code_all (plain n act rest) k other a r o = (a, r)
  next_code_all (jump n act rest) k other a r o = (a, r)
  next_code_all (call n g args rest) k other a r o = (a, r)
  next_code_all (branch n cond one two rest) k other a r o = (a, r)
  next_code_all (switch n selector parts rest) k other a r o = (a, r)
  next_code_all (loop n body continuing leave rest) k other a r o = (a, r)
  next_code_all no_part k other a r o = o
  next_code_all (part n which keys fallback body others) k other a r o = o

  pub next_all : (k : Rest) → AllRest P k → AllPlace P (next k)
  next_all halt a = tt
  next_all (seq c k) a = next_code_all c k (next k) a.0 a.1 (next_all k a.1)

  chosen_all : (b : Bool) (one two : Code) (k : Rest) → AllPlain P one → AllPlain P two → AllRest P k → AllRest P (chosen b one two k)
  chosen_all true one two k a b r = (a, r)
  chosen_all false one two k a b r = (b, r)

  jumped_all : (act : Jump) (rest : Code) (k : Rest) → AllPlain P rest → AllRest P k → AllRest P (jumped act rest k)
  jumped_all (Return value) rest k a r = tt
  jumped_all Break rest k a r = (a, r)
  jumped_all Continue rest k a r = (a, r)

  go_code_all : (test : Bool) (c : Code) (k : Rest) → AllPlain P c → AllRest P k → AllRest P (go_code test c k)
  go_code_all test done k a r = r
  go_code_all test (plain n act rest) k a r = (a.1, r)
  go_code_all test (jump n act rest) k a r = jumped_all act rest k a r
  go_code_all test (call n g args rest) k a r = (a, r)
  go_code_all test (branch n cond one two rest) k a r = chosen_all test one two (seq rest k) a.0 a.1 (a.2, r)
  go_code_all test (switch n selector parts rest) k a r = (a.1, r)
  go_code_all test (loop n body continuing leave rest) k a r = (a.2, r)
  go_code_all test no_part k a r = r
  go_code_all test (part n which keys fallback body others) k a r = r

  pub go_all : (test : Bool) (p : Place) → AllPlace P p → AllRest P (go test p)
  go_all test Over a = tt
  go_all test (First c k) a = go_code_all test c k a.0 a.1

module _ (at : ℕ → Space) where
  -- the space of an instance is that of its statement
  abbrev pub space_at : List ℕ → Space
  space_at [] = at 0
  space_at (entry ∷ []) = at 0
  space_at (entry ∷ n ∷ more) = at n

  abbrev pub Good : ℕ → List (Option Value) → Lane → Type 0
  Good entry params lane = AllPlace (HasSpace at) lane.place

  act_space : (entry n : ℕ) (turns : List ℕ) (act : Plain) (a : Arrival) → HasSpace at n act → act_arrival entry n turns act ≡ Some a → a.space ≡ space_at a.instance
  act_space entry n turns (Barrier space severity) a h e =
      let is : record { space = space; instance = instance_words entry n turns } ≡ a = cc e in
      subst (λ (x : Arrival). x.space ≡ space_at x.instance) is (h space severity refl)
  act_space entry n turns (Set op args) a h e = let no_one : ⊥ = cc e in absurd no_one
  act_space entry n turns (Load view) a h e = let no_one : ⊥ = cc e in absurd no_one
  act_space entry n turns (Declare local value) a h e = let no_one : ⊥ = cc e in absurd no_one
  act_space entry n turns (Store view value) a h e = let no_one : ⊥ = cc e in absurd no_one
  act_space entry n turns (Atomic op view args) a h e = let no_one : ⊥ = cc e in absurd no_one
  act_space entry n turns (UniformLoad view severity) a h e = let no_one : ⊥ = cc e in absurd no_one
  act_space entry n turns (Length view) a h e = let no_one : ⊥ = cc e in absurd no_one

  arrival_space : (entry : ℕ) (p : Place) (a : Arrival) → AllPlace (HasSpace at) p → arrival entry p ≡ Some a → a.space ≡ space_at a.instance
  arrival_space entry Over a h e = let no_one : ⊥ = cc e in absurd no_one
  arrival_space entry (First (plain n act rest) k) a h e = act_space entry n (counts k) act a h.0.0 e
  arrival_space entry (First done k) a h e = let no_one : ⊥ = cc e in absurd no_one
  arrival_space entry (First (jump n act rest) k) a h e = let no_one : ⊥ = cc e in absurd no_one
  arrival_space entry (First (call n g args rest) k) a h e = let no_one : ⊥ = cc e in absurd no_one
  arrival_space entry (First (branch n cond one two rest) k) a h e = let no_one : ⊥ = cc e in absurd no_one
  arrival_space entry (First (switch n selector parts rest) k) a h e = let no_one : ⊥ = cc e in absurd no_one
  arrival_space entry (First (loop n body continuing leave rest) k) a h e = let no_one : ⊥ = cc e in absurd no_one
  arrival_space entry (First no_part k) a h e = let no_one : ⊥ = cc e in absurd no_one
  arrival_space entry (First (part n which keys fallback body others) k) a h e = let no_one : ⊥ = cc e in absurd no_one

  pub spaced : IsSpaced space_at Good
  spaced = record {
    after = λ entry params lane h. next_all (HasSpace at) _ (go_all (HasSpace at) _ lane.place h);
    space = λ entry params lane a h e. arrival_space entry lane.place a h e;
  }

  -- the barriers of a function that may be there are in these spaces
  abbrev pub function_all : Option CoreFunction → Type 0
  function_all None = Unit {0}
  function_all (Some function) = AllPlain (HasSpace at) (code_of function.body)

  pub begin_good : (shader : CoreModule) (inputs : Inputs) → function_all (slice_get shader.functions inputs.entry) → (i : ℕ) (m : Member) → slice_get (groups.begin shader inputs).members i ≡ Some m → Good m.entry m.params m.lane
  begin_good shader inputs h = by (slice_get shader.functions inputs.entry) h
    where
      counted : (function : CoreFunction) (size : List ℕ) (count n : ℕ) → AllPlain (HasSpace at) (code_of function.body) → (i : ℕ) (m : Member) → slice_get (groups.members_from inputs function size n count) i ≡ Some m → Good m.entry m.params m.lane
      counted function size zero n h i m e = let no_one : ⊥ = cc e in absurd no_one
      counted function size (suc count) n h zero m e =
          let is : begin_member inputs.entry function (groups.builtins_of inputs size n) ≡ m = cc e in
          subst (λ (x : Member). Good x.entry x.params x.lane) is (next_all (HasSpace at) (seq (code_of function.body) halt) (h, tt))
      counted function size (suc count) n h (suc i) m e = counted function size count (n + 1) h i m e

      sized : (function : CoreFunction) (size : Option (List ℕ)) → AllPlain (HasSpace at) (code_of function.body) → (i : ℕ) (m : Member) → slice_get (groups.sized_members inputs function size) i ≡ Some m → Good m.entry m.params m.lane
      sized function None h i m e = let no_one : ⊥ = cc e in absurd no_one
      sized function (Some size) h i m e = counted function size (groups.lane_count size) 0 h i m e

      by : (o : Option CoreFunction) → function_all o → (i : ℕ) (m : Member) → slice_get (groups.entry_members inputs o) i ≡ Some m → Good m.entry m.params m.lane
      by None h i m e = let no_one : ⊥ = cc e in absurd no_one
      by (Some function) h i m e = sized function function.entry h i m e
