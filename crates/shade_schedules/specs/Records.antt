-- The race that is recorded of a word: of all pairs that race there, the one whose second access comes first, and of those the one whose
-- first access comes first. A history has the accesses in the order of their steps.
use Rattle.std.specs.Prelude.{◌≡◌, ◌↔◌, Bool, true, false, not, ◌&&◌, ◌==◌, List, [], ◌∷◌, ◌++◌, Option, None, Some}
use Rattle.shade_schedules.specs.System.{System}
use Rattle.shade_schedules.specs.Machine.{Access}
use Rattle.shade_schedules.specs.Races.{Among, collide, IsRaceFree}

module _ (K : System) where
  abbrev pub races_at : K.Address → Access K → Access K → Bool
  races_at a x y =
      not (x.lane == y.lane) && (K.covers x.touch.spot a && (K.covers y.touch.spot a && ((K.epoch_at x.epochs a == K.epoch_at y.epochs a) && collide x.touch.kind y.touch.kind)))

  abbrev pub choose : Bool → Access K → Option (Access K) → Option (Access K)
  choose true x others = Some x
  choose false x others = others

  -- the first of some accesses that races with one
  abbrev pub first_with : K.Address → Access K → List (Access K) → Option (Access K)
  first_with a y [] = None
  first_with a y (x ∷ xs) = choose (races_at a x y) x (first_with a y xs)

  abbrev pub pair_or : Option (Access K) → Access K → Option (Access K × Access K) → Option (Access K × Access K)
  pair_or None y others = others
  pair_or (Some x) y others = Some (x, y)

  -- the recorded race among accesses after some others
  abbrev pub record_from : K.Address → List (Access K) → List (Access K) → Option (Access K × Access K)
  record_from a earlier [] = None
  record_from a earlier (y ∷ ys) = pair_or (first_with a y earlier) y (record_from a (earlier ++ y ∷ []) ys)

  -- the recorded race of a word
  abbrev pub record_at : K.Address → List (Access K) → Option (Access K × Access K)
  record_at a history = record_from a [] history

  -- A history is free of races exactly where no word has a recorded race.
  abbrev pub RecordsTell : Type 0
  RecordsTell = (history : List (Access K)) → IsRaceFree K history ↔ ((a : K.Address) → record_at a history ≡ None)

  abbrev pub record_then : Option (Access K × Access K) → List (Access K × Access K) → List (Access K × Access K)
  record_then None others = others
  record_then (Some pair) others = pair ∷ others

  -- the recorded races of some words, in their order
  abbrev pub records : List K.Address → List (Access K) → List (Access K × Access K)
  records [] history = []
  records (a ∷ words) history = record_then (record_at a history) (records words history)

  -- Where all that was touched is among some words, a history is free of races exactly where none of them has a recorded race.
  abbrev pub ListsTell : Type 0
  ListsTell = (words : List K.Address) (history : List (Access K)) → ((x : Access K) (a : K.Address) → Among x history → K.covers x.touch.spot a ≡ true → Among a words)
      → IsRaceFree K history ↔ (records words history ≡ [])
