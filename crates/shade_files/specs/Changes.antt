-- What a call does to the shelf and to the sink that it is handed.
use Rattle.std.specs.Prelude.{ℕ, List, Option}

-- The texts of a shelf, where it tells them, and the names whose reads had failed before the call and after it.
pub record ShelfChange : Type 0 where
  pub texts : Option (List ℕ → Option (List ℕ))
  pub failed : List (List ℕ)
  pub failed' : List (List ℕ)

abbrev pub shelf_change : {S : Type 0} → (S → Option (List ℕ → Option (List ℕ))) → (S → List (List ℕ)) → S → S → ShelfChange
shelf_change texts failed old new = record { texts = texts old; failed = failed old; failed' = failed new }

-- The bytes that a sink has taken, where it tells them, and its count of faults, before the call and after it.
pub record SinkChange : Type 0 where
  pub taken : Option (List ℕ)
  pub taken' : Option (List ℕ)
  pub faults : ℕ
  pub faults' : ℕ

abbrev pub sink_change : {S : Type 0} → (S → Option (List ℕ)) → (S → ℕ) → S → S → SinkChange
sink_change taken faults old new = record { taken = taken old; taken' = taken new; faults = faults old; faults' = faults new }
