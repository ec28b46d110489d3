-- Today's machine: where one list of steps ended, no list diverges, and each that ends releases the same instances.
use Rattle.std.proofs.Common.{◌≡◌, ℕ, Bool, true, false, not, List, [], ◌∷◌, ◌++◌, map, Option, None, Some, refl, ap, sym, ◌∙◌, subst}
use Rattle.std.specs.Prelude.{◌==◌, is_some, slice_get}
use Rattle.std.specs.Option.{option_map}
use Rattle.std.specs.List.{list_all}
use Rattle.std.proofs.lemmas.Bool.{eqb-true, eq-eqb}
use Rattle.shade_values.specs.declared.types.Space.{Space}
use Rattle.shade_values.specs.declared.value.Value.{Value}
use Rattle.shade_lane.specs.declared.state.LaneState.{LaneState}
use Rattle.shade_lane.specs.declared.state.LaneState.TheVariants as lane_state
use Rattle.shade_lane.specs.Lane as lanes
use Rattle.shade_lane.specs.Members.{Arrival, arrival}
use Rattle.shade_lane.specs.Members as members
use Rattle.shade_group.specs.Group as groups
use Rattle.shade_schedules.specs.System.{Changes, Laws}
use Rattle.shade_schedules.specs.Machine as machine
use Rattle.shade_schedules.specs.Races.{Among, Follows}
use Rattle.shade_schedules.specs.Goods.{IsKept, AllGood}
use Rattle.shade_schedules.proofs.Lists.{false_true, and_parts, get_map, none_among}
use Rattle.shade_schedules.specs.Words as words
use Rattle.shade_schedules.proofs.Words as word_laws
use Rattle.shade_schedules.proofs.Law.{commutes}
use Rattle.shade_schedules.proofs.Goods.{step_good, runs_orderly}
use Rattle.shade_orders.specs.Seen.{Own, request_by, today, seen_state, seen_member, seen}
use Rattle.shade_orders.specs.Orders.{Agrees, HasEnded}
use Rattle.shade_orders.specs.Everywhere.{IsSpaced}
use Rattle.shade_orders.proofs.Steps.{Spaced}
use Rattle.shade_orders.proofs.Settled.{SpacedLane, step_same, noted_none}

same_instance_is : (xs ys : List ℕ) → groups.same_instance xs ys ≡ true → xs ≡ ys
same_instance_is [] [] e = refl
same_instance_is [] (y ∷ ys) e = false_true false refl e
same_instance_is (x ∷ xs) [] e = false_true false refl e
same_instance_is (x ∷ xs) (y ∷ ys) e =
    let parts : ((x == y) ≡ true) × (groups.same_instance xs ys ≡ true) = and_parts (x == y) (groups.same_instance xs ys) e in
    ap (λ z. z ∷ xs) (eqb-true x y parts.0) ∙ ap (λ zs. y ∷ zs) (same_instance_is xs ys parts.1)

same_instance_refl : (xs : List ℕ) → groups.same_instance xs xs ≡ true
same_instance_refl [] = refl
same_instance_refl (x ∷ xs) = rw (eq-eqb x x refl) (same_instance_refl xs)

not_not : (b : Bool) → not b ≡ false → b ≡ true
not_not true e = refl
not_not false e = false_true true e refl

ended_status : (S : List ℕ → Space) (s : LaneState) → machine.is_ended (today S) (seen_state S s) ≡ members.is_ended s
ended_status S lane_state.Able = refl
ended_status S (lane_state.Waiting space instance) = refl
ended_status S lane_state.Ended = refl

calm_is : (o : Option (ℕ × ℕ)) → is_some o ≡ false → o ≡ None
calm_is None e = refl
calm_is (Some pair) e = false_true true e refl

module _ (space_at : List ℕ → Space) (Good : ℕ → List (Option Value) → lanes.Lane → Type 0) (spaced : IsSpaced space_at Good) where
  pub laws : Laws (today space_at)
  laws = record {
    read_same = word_laws.read_same;
    written_same = word_laws.written_same;
    written_other = word_laws.written_other;
    same_site = λ a b e. same_instance_is a b (not_not (groups.same_instance a b) e);
    like_itself = λ a. ap not (same_instance_refl a);
    stable = word_laws.stable;
  }

  abbrev GoodOwn : Own → Type 0
  GoodOwn o = Good o.entry o.params o.lane

  never_changes : (a : Option Arrival) (p : _) (d : List (Option ℕ)) → request_by a ≡ Changes p d → ⊥
  never_changes None p d e = cc e
  never_changes (Some a) p d e = cc e

  pub kept : IsKept (today space_at) GoodOwn
  kept = record {
    after = λ o x h. spaced.after o.entry o.params o.lane h;
    resumed = λ site o x h. h;
    no_atomic = λ o p d h e. never_changes (arrival o.entry o.lane.place) p d e;
    no_fixed = λ o p d q a h e f. false_true false refl f;
  }

  all_ended_same : (ms : List members.Member) → machine.all_ended (today space_at) (map (seen_member space_at) ms) ≡ list_all (λ m. members.is_ended m.state) ms
  all_ended_same [] = refl
  all_ended_same (m ∷ ms) = rw (ended_status space_at m.state, all_ended_same ms) refl

  spaced_lane : (m : groups.Machine) (n : ℕ) → AllGood (today space_at) GoodOwn (seen space_at m) → SpacedLane space_at (slice_get m.members n)
  spaced_lane m n f = by (slice_get m.members n) refl
    where
      at : (member : members.Member) → Good member.entry member.params member.lane → (a : Option Arrival) → arrival member.entry member.lane.place ≡ a → Spaced space_at a
      at member good None e = tt
      at member good (Some a) e = spaced.space member.entry member.params member.lane a good e

      by : (o : Option members.Member) → slice_get m.members n ≡ o → SpacedLane space_at o
      by None e = tt
      by (Some member) e = at member (f n (seen_member space_at member) (get_map (seen_member space_at) m.members n ∙ ap (option_map (seen_member space_at)) e)) (arrival member.entry member.lane.place) refl

  -- A run of the machine is a run of the group, and touches nothing.
  pub record SameRun (steps : List ℕ) (m : groups.Machine) : Type 0 where
    pub run : seen space_at (groups.run m steps) ≡ machine.run (today space_at) (seen space_at m) steps
    pub untouched : machine.history (today space_at) (seen space_at m) steps ≡ []

  pub same_run : (steps : List ℕ) (m : groups.Machine) → AllGood (today space_at) GoodOwn (seen space_at m) → SameRun steps m
  same_run [] m f = record { run = refl; untouched = refl }
  same_run (n ∷ steps) m f =
      let one : seen space_at (groups.step m n) ≡ machine.step (today space_at) (seen space_at m) n = step_same space_at m n (spaced_lane m n f) in
      let rest : SameRun steps (groups.step m n) = same_run steps (groups.step m n) (subst (λ g. AllGood (today space_at) GoodOwn g) (sym one) (step_good (today space_at) GoodOwn kept (seen space_at m) n f)) in
      record {
        run = rest.run ∙ ap (λ g. machine.run (today space_at) g steps) one;
        untouched = ap (λ xs. xs ++ machine.history (today space_at) (machine.step (today space_at) (seen space_at m) n) steps) (noted_none space_at m n) ∙ (ap (λ g. machine.history (today space_at) g steps) (sym one) ∙ rest.untouched);
      }

  -- Where one list of steps ended, every list agrees with it.
  pub same : (start : groups.Machine) (reference steps : List ℕ) → start.diverged ≡ None
      → ((i : ℕ) (m : members.Member) → slice_get start.members i ≡ Some m → Good m.entry m.params m.lane)
      → HasEnded (groups.run start reference) → Agrees (groups.run start reference) (groups.run start steps)
  same start reference steps calm good end = record {
    converges = converges;
    released = λ ended. released (follows.same (has_ended steps converges ended)).released;
    words = λ ended a. words_same (follows.same (has_ended steps converges ended)).memory a;
  }
    where
      good_seen : (i : ℕ) (m : machine.Member (today space_at)) → slice_get (map (seen_member space_at) start.members) i ≡ Some m → GoodOwn m.lane
      good_seen i m e = by (slice_get start.members i) refl (sym (get_map (seen_member space_at) start.members i) ∙ e)
        where
          by : (o : Option members.Member) → slice_get start.members i ≡ o → option_map (seen_member space_at) o ≡ Some m → GoodOwn m.lane
          by None is e = let no_one : ⊥ = cc e in absurd no_one
          by (Some x) is e = let q : seen_member space_at x ≡ m = cc e in subst (λ (z : machine.Member (today space_at)). GoodOwn z.lane) q (good i x is)

      of_run : (list : List ℕ) → seen space_at (groups.run start list) ≡ machine.run (today space_at) (seen space_at start) list
      of_run list = (same_run list start good_seen).run

      has_ended : (list : List ℕ) → (groups.run start list).diverged ≡ None → groups.all_ended (groups.run start list).members ≡ true → machine.HasEnded (today space_at) (machine.run (today space_at) (seen space_at start) list)
      has_ended list c e = subst (λ g. machine.HasEnded (today space_at) g) (of_run list) (record { calm = ap is_some c; over = all_ended_same (groups.run start list).members ∙ e })

      follows : Follows (today space_at) (seen space_at start) reference steps
      follows =
          commutes (today space_at) laws (seen space_at start) reference steps (ap is_some calm) (has_ended reference end.converges end.over)
          (runs_orderly (today space_at) GoodOwn kept reference (seen space_at start) good_seen (λ x y h. none_among (subst (λ xs. Among x xs) (same_run reference start good_seen).untouched h)))

      converges : (groups.run start steps).diverged ≡ None
      converges = calm_is (groups.run start steps).diverged (ap (λ (g : machine.Group (today space_at)). g.diverged) (of_run steps) ∙ follows.converges)

      released : (machine.run (today space_at) (seen space_at start) steps).released ≡ (machine.run (today space_at) (seen space_at start) reference).released → (groups.run start steps).released ≡ (groups.run start reference).released
      released e = ap (λ (g : machine.Group (today space_at)). g.released) (of_run steps) ∙ (e ∙ sym (ap (λ (g : machine.Group (today space_at)). g.released) (of_run reference)))

      words_same : ((a : words.Address) → words.word_at (machine.run (today space_at) (seen space_at start) steps).memory a ≡ words.word_at (machine.run (today space_at) (seen space_at start) reference).memory a)
          → (a : words.Address) → words.word_at (groups.run start steps).memory a ≡ words.word_at (groups.run start reference).memory a
      words_same e a =
          ap (λ (g : machine.Group (today space_at)). words.word_at g.memory a) (of_run steps)
          ∙ (e a ∙ sym (ap (λ (g : machine.Group (today space_at)). words.word_at g.memory a) (of_run reference)))
