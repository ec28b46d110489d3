-- Rules: what a write into a row of words does.
use Rattle.std.specs.Prelude.{◌≡◌, ℕ, ◌+◌, ◌<◌, ◌≤◌, ◌⊎◌, List, slice_index}
use Rattle.shade_values.specs.declared.value.Value.{Value}
use Rattle.shade_words.specs.Lays.{Lay, size, decode, Covers}

-- words that became zero
pub record Cleared (old new : List ℕ) (first count : ℕ) : Type 0 where
  pub cleared : (i : ℕ) → i < count → slice_index new (first + i) ≡ 0
  pub others : (j : ℕ) → (j < first) ⊎ (first + count ≤ j) → slice_index new j ≡ slice_index old j

-- words that went from one place to another
pub record Copied (old new : List ℕ) (from to count : ℕ) : Type 0 where
  pub copied : (i : ℕ) → i < count → slice_index new (to + i) ≡ slice_index old (from + i)
  pub others : (j : ℕ) → (j < to) ⊎ (to + count ≤ j) → slice_index new j ≡ slice_index old j

-- a value that came to a place: padding is 0, and no other word has changed
pub record Written (l : Lay) (v : Value) (old new : List ℕ) (at : ℕ) : Type 0 where
  pub value : decode l (slice_index new) at ≡ v
  pub padding : (i : ℕ) → i < size l → ¬ Covers l i → slice_index new (at + i) ≡ 0
  pub others : (j : ℕ) → (j < at) ⊎ (at + size l ≤ j) → slice_index new j ≡ slice_index old j

-- a value that came to a place: padding there is as it was, and no other word has changed
pub record Put (l : Lay) (v : Value) (old new : List ℕ) (at : ℕ) : Type 0 where
  pub value : decode l (slice_index new) at ≡ v
  pub padding : (i : ℕ) → i < size l → ¬ Covers l i → slice_index new (at + i) ≡ slice_index old (at + i)
  pub others : (j : ℕ) → (j < at) ⊎ (at + size l ≤ j) → slice_index new j ≡ slice_index old j
