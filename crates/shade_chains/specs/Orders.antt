-- Calls between functions, by the events of each, and an order in which each function stands behind those that it calls.
use Rattle.std.specs.Prelude.{◌≡◌, ℕ, ◌+◌, ◌<◌, ◌≤◌, ◌⊎◌, Bool, true, false, List, length, map, Option, None, Some, slice_get, slice_index_or, All, Contains}
use Rattle.std.specs.List.{list_all}
use Rattle.shade_chains.specs.declared.events.Event.{Event}
use Rattle.shade_chains.specs.Events.{event}

-- by function, its events
abbrev pub Rows : Type 0
Rows = List (List Event)

-- a function calls another
pub record RowCalls (rows : Rows) (k g : ℕ) : Type 0 where
  pub row : List Event
  pub at : slice_get rows k ≡ Some row
  pub loops : ℕ
  pub stands : Contains row (event loops (Some g))

-- one or more calls, one inside another, lead from a function to a function
pub data RowsLead (rows : Rows) (k : ℕ) : ℕ → Type 0 where
  first : {g : ℕ} → RowCalls rows k g → RowsLead rows k g
  more : {g h : ℕ} → RowsLead rows k g → RowCalls rows g h → RowsLead rows k h

-- calls make no cycle
abbrev pub IsAcyclic : Rows → Type 0
IsAcyclic rows = (k : ℕ) → ¬ RowsLead rows k k

-- each function once, and behind those that it calls
pub record IsOrder (rows : Rows) (order : List ℕ) : Type 0 where
  pub once : length order ≡ length rows
  pub below : All (λ k. k < length rows) order
  pub behind : (i k g : ℕ) → slice_get order i ≡ Some k → RowCalls rows k g → g < length rows → (j : ℕ) × (j < i) × (slice_get order j ≡ Some g)
  pub all : (k : ℕ) → k < length rows → Contains order k

-- ---- how the order is made

-- whether a function is placed; one that is not there is
abbrev pub is_placed : List Bool → ℕ → Bool
is_placed placed k = slice_index_or placed k true

abbrev pub callee_placed : List Bool → Option ℕ → Bool
callee_placed placed None = true
callee_placed placed (Some g) = is_placed placed g

abbrev pub event_placed : List Bool → Event → Bool
event_placed placed e = callee_placed placed e.callee

abbrev pub row_placed : List Bool → List Event → Bool
row_placed placed row = list_all (event_placed placed) row

-- the functions that are placed, in an order so far
pub record IsPlacing (rows : Rows) (order : List ℕ) (placed : List Bool) : Type 0 where
  pub long : length placed ≡ length rows
  pub below : All (λ k. k < length rows) order
  pub behind : (i k g : ℕ) → slice_get order i ≡ Some k → RowCalls rows k g → g < length rows → (j : ℕ) × (j < i) × (slice_get order j ≡ Some g)
  pub listed : (k : ℕ) → k < length rows → is_placed placed k ≡ true → Contains order k

-- a function that waits has a callee that waits
pub record IsStuck (rows : Rows) (placed : List Bool) (k : ℕ) : Type 0 where
  pub row : List Event
  pub at : slice_get rows k ≡ Some row
  pub waits : row_placed placed row ≡ false

-- one round over functions that wait, and those that still do
pub record IsRound (rows : Rows) (before after : List Bool) (waiting next : List ℕ) : Type 0 where
  pub fewer : length next ≤ length waiting
  pub below : All (λ k. k < length rows) next
  pub kept : (k : ℕ) → Contains waiting k → (is_placed after k ≡ true) ⊎ Contains next k
  pub grows : (k : ℕ) → is_placed before k ≡ true → is_placed after k ≡ true
  pub stuck : length next ≡ length waiting → All (IsStuck rows after) next

-- all callees of a function are placed
abbrev pub IsReady : Rows → List Bool → ℕ → Type 0
IsReady rows placed k = (row : List Event) → slice_get rows k ≡ Some row → row_placed placed row ≡ true
