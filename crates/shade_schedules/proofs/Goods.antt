-- A fact of lanes that their steps keep, over a whole run.
use Rattle.std.proofs.Common.{◌≡◌, ℕ, Bool, true, false, List, [], ◌∷◌, Option, Some, None, refl, ap, sym, ◌∙◌, subst, inl, inr}
use Rattle.std.specs.Prelude.{slice_get}
use Rattle.std.specs.Option.{option_map}
use Rattle.shade_schedules.specs.System.{Read, Write, Atomic, Request, Works, Reads, Writes, Changes, Waits, System, Laws}
use Rattle.shade_schedules.specs.Machine.{Member, Touch, Access, Group, touched, touch_unless, answered, moved, freed, answer_of, settled, went, step, noted, history}
use Rattle.shade_schedules.specs.Races.{Among, here, there, IsOrderly, IsRaceFree}
use Rattle.shade_schedules.specs.Orders.{lane_by_lane}
use Rattle.shade_schedules.specs.Goods.{IsKept, AllGood, IsIndependentOf}
use Rattle.shade_schedules.proofs.Lists.{none_among, among_either, from_map, same_number, set_same, set_other, get_map}
use Rattle.shade_schedules.proofs.Stands.{access}
use Rattle.shade_schedules.proofs.Turns.{Settles, plainly, parting, freeing, settles, Turn, idles, moves, turn}
use Rattle.shade_schedules.proofs.Law.{commutes}

module _ (K : System) (Good : K.State → Type 0) (kept : IsKept K Good) where
  -- what holds of each touch of such a lane
  pub record Orderly (t : Touch K) : Type 0 where
    pub no_atomic : t.kind ≡ Atomic → ⊥
    pub no_fixed : (q : K.Spot) (a : K.Address) → t.kind ≡ Write → K.is_fixed q ≡ true → K.covers q a ≡ true → K.covers t.spot a ≡ true → ⊥

  read_orderly : (p : K.Spot) → Orderly (record { spot = p; kind = Read })
  read_orderly p = record { no_atomic = λ e. cc e; no_fixed = λ q a e. let no_one : ⊥ = cc e in absurd no_one }

  reads_orderly : (b : Bool) (p : K.Spot) (t : Touch K) → Among t (touch_unless K b p) → Orderly t
  reads_orderly true p t h = none_among h
  reads_orderly false p t here = read_orderly p
  reads_orderly false p t (there h) = none_among h

  touch_orderly : (s : K.State) → Good s → (r : Request K.Spot K.Data K.Site) → K.does s ≡ r → (t : Touch K) → Among t (touched K r) → Orderly t
  touch_orderly s good Works e t h = none_among h
  touch_orderly s good (Reads p) e t h = reads_orderly (K.is_fixed p) p t h
  touch_orderly s good (Writes p d) e t here = record { no_atomic = λ k. cc k; no_fixed = λ q a w. kept.no_fixed s p d q a good e }
  touch_orderly s good (Writes p d) e t (there h) = none_among h
  touch_orderly s good (Changes p d) e t h = absurd (kept.no_atomic s p d good e)
  touch_orderly s good (Waits site) e t h = none_among h

  freed_good : (site : K.Site) (N : K.Memory) (o : Option (Member K)) → ((m : Member K) → o ≡ Some m → Good m.lane) → (m : Member K) → option_map (freed K site N) o ≡ Some m → Good m.lane
  freed_good site N None h m e = let no_one : ⊥ = cc e in absurd no_one
  freed_good site N (Some x) h m e =
      let is : freed K site N x ≡ m = cc e in
      subst (λ (z : Member K). Good z.lane) is (kept.resumed site x.lane (answer_of K N (K.loaded site)) (h x refl))

  -- A step keeps what holds of all lanes.
  pub step_good : (g : Group K) (n : ℕ) → AllGood K Good g → AllGood K Good (step K g n)
  step_good g n f = by (turn K g n)
    where
      by : Turn K g n → AllGood K Good (step K g n)
      by (idles e none) = subst (λ z. AllGood K Good z) (sym e) f
      by (moves m found calm able e touches) = subst (λ z. AllGood K Good z) (sym e) (settled_good (settles K (moved K g.memory m).state (went K n m g)))
        where
          good_moved : Good (moved K g.memory m).lane
          good_moved = kept.after m.lane (answered K g.memory (K.does m.lane)) (f n m found)

          good : AllGood K Good (went K n m g)
          good i x is = elim (same_number i n) [
            | inl same ↦ (let e : Some (moved K g.memory m) ≡ Some x = sym (set_same g.members n (moved K g.memory m) found) ∙ (ap (λ j. slice_get (went K n m g).members j) (sym same) ∙ is) in
                let is_moved : moved K g.memory m ≡ x = cc e in
                subst (λ (z : Member K). Good z.lane) is_moved good_moved)
            | inr apart ↦ f i x (sym (set_other g.members n i (moved K g.memory m) (λ q. apart (sym q))) ∙ is)
          ]

          settled_good : Settles K (moved K g.memory m).state (went K n m g) → AllGood K Good (settled K (moved K g.memory m).state (went K n m g))
          settled_good (plainly q) = subst (λ z. AllGood K Good z) (sym q) good
          settled_good (parting u q) = subst (λ z. AllGood K Good z) (sym q) good
          settled_good (freeing site s u w q) = subst (λ z. AllGood K Good z) (sym q)
              (λ i x is. freed_good site (went K n m g).memory (slice_get (went K n m g).members i) (good i) x (sym (get_map (freed K site (went K n m g).memory) (went K n m g).members i) ∙ is))

  pub history_orderly : (steps : List ℕ) (g : Group K) → AllGood K Good g → (x : Access K) → Among x (history K g steps) → Orderly x.touch
  history_orderly [] g f x among = none_among among
  history_orderly (n ∷ steps) g f x among = elim (among_either (noted K g n) (history K (step K g n) steps) among) [
    | inl now ↦ by (turn K g n) now
    | inr then ↦ history_orderly steps (step K g n) (step_good g n f) x then
  ]
    where
      by : Turn K g n → Among x (noted K g n) → Orderly x.touch
      by (idles e none) now = none_among (subst (λ xs. Among x xs) none now)
      by (moves m found calm able e touches) now =
          let r : (t : Touch K) × Among t (touched K (K.does m.lane)) × (x ≡ access K n g.epochs t) = from_map (λ t. access K n g.epochs t) (touched K (K.does m.lane)) (subst (λ xs. Among x xs) touches now) in
          subst (λ (z : Access K). Orderly z.touch) (sym r.2) (touch_orderly m.lane (f n m found) (K.does m.lane) refl r.0 r.1)

  -- A run of such lanes that has no race is in order.
  pub runs_orderly : (steps : List ℕ) (g : Group K) → AllGood K Good g → IsRaceFree K (history K g steps) → IsOrderly K (history K g steps)
  runs_orderly steps g good race_free =
      record { race_free = race_free; no_atomic = λ x h. (history_orderly steps g good x h).no_atomic; fixed = λ x q a h. (history_orderly steps g good x h).no_fixed q a }

-- The lane-by-lane run stands for all, for lanes without atomic steps.
pub independent_of : (K : System) → Laws K → (Good : K.State → Type 0) → IsKept K Good → IsIndependentOf K Good
independent_of K laws Good kept start limit steps calm good over race_free =
    commutes K laws start (lane_by_lane K limit start) steps calm over (runs_orderly K Good kept (lane_by_lane K limit start) start good race_free)
