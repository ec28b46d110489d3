-- Runs of a schedule, one after another.
use Rattle.std.proofs.Common.{◌≡◌, refl, ap, ◌∙◌, subst, ℕ, zero, suc, ◌<◌, ◌⊎◌, inl, inr, Bool, true, false, ◌==◌, if◌then◌else◌, List, [], ◌∷◌, length, get_or, is_some, Option, Some, None, arith}
use Rattle.serde_json.specs.Data.{Data}
use Rattle.shade_job.specs.declared.numbers.NumberRange.TheVariants.{Between, Below}
use Rattle.shade_job.specs.Json.{number_of, items_in, sized, sized_by, by_ranges, PartsFail, ItemFails, NumbersFail}
use Rattle.shade_job.specs.Pointers.{item_pointer}
use Rattle.shade_job.specs.Schedules.{run_ranges, run_by, run_of, pair_of}
use Rattle.shade_job.proofs.ListLaws.{same_number, item_fails}

pub some_items : (ds : List Data) (o : Option (List Data)) → Some ds ≡ sized_by (λ n. n == 2) o → length ds ≡ 2
some_items ds None e = absurd (cc)
some_items ds (Some xs) e = by (length xs == 2) refl e where
  by : (b : Bool) → (length xs == 2) ≡ b → Some ds ≡ (if b then Some xs else None) → length ds ≡ 2
  by true fits is = let same : ds ≡ xs = cc in ap length same ∙ same_number (length xs) 2 fits
  by false fits is = absurd (cc)

pair_none : (first second : Option ℕ) → is_some first ≡ true → pair_of (first ∷ second ∷ []) ≡ None → second ≡ None
pair_none None second some none = absurd (cc)
pair_none (Some lane) None some none = refl
pair_none (Some lane) (Some count) some none = absurd (cc)

-- which of the two numbers is wrong, where one is
abbrev pub Wrong : Option ℕ → ℕ → Type 0
Wrong lane w = ((lane ≡ None) × (w ≡ 0)) ⊎ ((is_some lane ≡ true) × (w ≡ 1))

pair_wrong : (lanes : ℕ) (base : List ℕ) (x y : Data) (w : ℕ) (p : List ℕ) → pair_of (by_ranges (run_ranges lanes) (x ∷ y ∷ [])) ≡ None → Wrong (number_of (Below lanes) x) w → p ≡ item_pointer base w → ItemFails base (by_ranges (run_ranges lanes) (x ∷ y ∷ [])) p
pair_wrong lanes base x y w p none wrong at =
    elim wrong [
      | inl lane ↦ item_fails base (by_ranges (run_ranges lanes) (x ∷ y ∷ [])) 0 p (omega arith) lane.0 (λ k lt. absurd (omega arith)) (at ∙ ap (item_pointer base) lane.1)
      | inr count ↦ item_fails base (by_ranges (run_ranges lanes) (x ∷ y ∷ [])) 1 p (omega arith) (pair_none (number_of (Below lanes) x) (number_of (Between 1 10000000) y) count.0 none) (before count.0) (at ∙ ap (item_pointer base) count.1)
    ]
  where
    before : is_some (number_of (Below lanes) x) ≡ true → (k : ℕ) → k < 1 → is_some (get_or (by_ranges (run_ranges lanes) (x ∷ y ∷ [])) k None) ≡ true
    before some zero lt = some
    before some (suc k) lt = absurd (omega arith)

-- an item that states no run is no list of two, or has a wrong number
pub run_wrong : (lanes : ℕ) (base : List ℕ) (ds : List Data) (d x : Data) (w : ℕ) (p : List ℕ) → Some ds ≡ sized (λ n. n == 2) d → x ≡ get_or ds 0 x → run_of lanes d ≡ None → Wrong (number_of (Below lanes) x) w → p ≡ item_pointer base w → NumbersFail (run_ranges lanes) base d p
run_wrong lanes base ds d x w p are first none wrong at =
    subst (λ (o : Option (List Data)). PartsFail (by_ranges (run_ranges lanes)) base o p) are (of_two ds (some_items ds (items_in d) are) first (ap (run_by lanes) are ∙ none))
  where
    of_two : (ds : List Data) → length ds ≡ 2 → x ≡ get_or ds 0 x → run_by lanes (Some ds) ≡ None → ItemFails base (by_ranges (run_ranges lanes) ds) p
    of_two [] two at_first none = absurd (omega arith)
    of_two (a ∷ []) two at_first none = absurd (omega arith)
    of_two (a ∷ b ∷ []) two at_first none = pair_wrong lanes base a b w p none (subst (λ (e : Data). Wrong (number_of (Below lanes) e) w) at_first wrong) at
    of_two (a ∷ b ∷ e ∷ es) two at_first none = absurd (omega arith)
