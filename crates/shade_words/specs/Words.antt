-- Rules: the words of a value, one by one. (WGSL, "Internal Layout of Values".)
use Rattle.std.specs.Prelude.{ℕ, zero, suc, ◌+◌, ◌*◌, ◌-◌, Bool, ◌&&◌, ◌==◌, nat_le, nat_lt, Option, None, Some, if◌then◌else◌}
use Rattle.shade_values.specs.declared.value.Value.{Value}
use Rattle.shade_values.specs.Parts.{own_leaf, part_at}
use Rattle.shade_words.specs.Lays.{Lay, leaf, row, fields, Fields, no_field, field, size, word_of}

-- the word i is one of so many from a first one on
abbrev pub is_among : (first count i : ℕ) → Bool
is_among first count i = nat_le first i && nat_lt i (first + count)

abbrev pub or_else : Option ℕ → Option ℕ → Option ℕ
or_else None other = other
or_else (Some w) other = Some w

-- of words that begin at a place: the one that stands at i, if one of them does
abbrev pub within : (first count : ℕ) → (ℕ → Option ℕ) → ℕ → Option ℕ
within first count words i = if is_among first count i then words (i - first) else None

-- what the first one of so many gives that gives something, if any does
abbrev pub of_some : ℕ → (ℕ → Option ℕ) → Option ℕ
of_some zero gives = None
of_some (suc n) gives = or_else (of_some n gives) (gives n)

-- Word i of a value that lies so: a scalar is its word, and the word of a composite is that of the part which lies there. Padding is no
-- word of the value.
abbrev mutual
  pub word_in : Lay → Value → ℕ → Option ℕ
  word_in (leaf s) v i = if i == 0 then Some (word_of (own_leaf v)) else None
  word_in (row e n stride) v i = of_some n (λ k. within (k * stride) (size e) (word_in e (part_at v k)) i)
  word_in (fields words fs) v i = word_in_field fs v 0 i

  -- of the members from the one with number k on
  pub word_in_field : Fields → Value → (k i : ℕ) → Option ℕ
  word_in_field no_field v k i = None
  word_in_field (field offset l fs) v k i = or_else (within offset (size l) (word_in l (part_at v k)) i) (word_in_field fs v (k + 1) i)

-- a word, and another one where there is none
abbrev pub word_or : ℕ → Option ℕ → ℕ
word_or other None = other
word_or other (Some w) = w
