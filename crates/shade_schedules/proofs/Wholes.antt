-- Memories with as many roots and the same words are the same, and a run keeps the number of roots.
use Rattle.std.proofs.Common.{◌≡◌, ℕ, zero, suc, Bool, false, List, [], ◌∷◌, length, Option, Some, None, refl, ap, sym, ◌∙◌}
use Rattle.std.specs.Prelude.{slice_get, slice_set}
use Rattle.shade_schedules.specs.System.{Request, Works, Reads, Writes, Changes, Waits, System}
use Rattle.shade_schedules.specs.Machine.{Status, Group, HasEnded, stored, moved, went, settled, step, run, history}
use Rattle.shade_schedules.specs.Races.{IsOrderly, Follows}
use Rattle.shade_schedules.specs.Words.{Space, Spot, Site, Address, word_at, over_words}
use Rattle.shade_schedules.proofs.Words.{words_laws}
use Rattle.shade_schedules.proofs.Turns.{Settles, plainly, parting, freeing, settles, Turn, idles, moves, turn}
use Rattle.shade_schedules.proofs.Law.{commutes}

lists_same : (xs ys : List ℕ) → ((i : ℕ) → slice_get xs i ≡ slice_get ys i) → xs ≡ ys
lists_same [] [] h = refl
lists_same [] (y ∷ ys) h = let e : None ≡ Some y = h 0 in let no_one : ⊥ = cc e in absurd no_one
lists_same (x ∷ xs) [] h = let e : Some x ≡ None = h 0 in let no_one : ⊥ = cc e in absurd no_one
lists_same (x ∷ xs) (y ∷ ys) h =
    let e : Some x ≡ Some y = h 0 in
    let is : x ≡ y = cc e in
    ap (λ z. z ∷ xs) is ∙ ap (λ zs. y ∷ zs) (lists_same xs ys (λ i. h (suc i)))

pub memories_same : (m n : List (List ℕ)) → length m ≡ length n → ((a : Address) → word_at m a ≡ word_at n a) → m ≡ n
memories_same [] [] e h = refl
memories_same [] (y ∷ n) e h = let no_one : ⊥ = cc e in absurd no_one
memories_same (x ∷ m) [] e h = let no_one : ⊥ = cc e in absurd no_one
memories_same (x ∷ m) (y ∷ n) e h =
    ap (λ z. z ∷ m) (lists_same x y (λ i. h (record { root = 0; word = i })))
    ∙ ap (λ zs. y ∷ zs) (memories_same m n (cc e) (λ a. h (record { root = suc a.root; word = a.word })))

set_length : (m : List (List ℕ)) (n : ℕ) (x : List ℕ) → length (slice_set m n x) ≡ length m
set_length [] n x = refl
set_length (y ∷ m) zero x = refl
set_length (y ∷ m) (suc n) x = ap suc (set_length m n x)

module _ (State : Type 0) (does : State → Request Spot (List (Option ℕ)) Site) (after : State → List ℕ → State) (is_over : State → Bool) (resumed : Site → State → List ℕ → State) (spaces : List Space) where
  abbrev K : System
  K = over_words State does after is_over resumed spaces

  stored_length : (m : List (List ℕ)) (r : Request Spot (List (Option ℕ)) Site) → length (stored K m r) ≡ length m
  stored_length m Works = refl
  stored_length m (Reads s) = refl
  stored_length m (Writes s d) = set_length m s.root _
  stored_length m (Changes s d) = set_length m s.root _
  stored_length m (Waits site) = refl

  settled_memory : (state : Status K) (g : Group K) → Settles K state g → (settled K state g).memory ≡ g.memory
  settled_memory state g (plainly e) = ap (λ (z : Group K). z.memory) e
  settled_memory state g (parting u e) = ap (λ (z : Group K). z.memory) e
  settled_memory state g (freeing site s u w e) = ap (λ (z : Group K). z.memory) e

  step_length : (g : Group K) (n : ℕ) → Turn K g n → length (step K g n).memory ≡ length g.memory
  step_length g n (idles e none) = ap (λ (z : Group K). length z.memory) e
  step_length g n (moves m found calm able e touches) =
      ap (λ (z : Group K). length z.memory) e
      ∙ (ap (λ (x : List (List ℕ)). length x) (settled_memory (moved K g.memory m).state (went K n m g) (settles K (moved K g.memory m).state (went K n m g))) ∙ stored_length g.memory (does m.lane))

  pub run_length : (steps : List ℕ) (g : Group K) → length (run K g steps).memory ≡ length g.memory
  run_length [] g = refl
  run_length (n ∷ steps) g = run_length steps (step K g n) ∙ step_length g n (turn K g n)

  -- Two runs that ended leave one memory and one list of released instances.
  pub leaves_one : (start : Group K) (reference steps : List ℕ) → start.diverged ≡ false → HasEnded K (run K start reference) → IsOrderly K (history K start reference) → HasEnded K (run K start steps)
      → ((run K start steps).memory ≡ (run K start reference).memory) × ((run K start steps).released ≡ (run K start reference).released)
  leaves_one start reference steps calm over orderly ended =
      let f : Follows K start reference steps = commutes K (words_laws State does after is_over resumed spaces) start reference steps calm over orderly in (
        memories_same (run K start steps).memory (run K start reference).memory (run_length steps start ∙ sym (run_length reference start)) (f.same ended).memory,
        (f.same ended).released,
      )
