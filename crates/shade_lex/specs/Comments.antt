-- Comments (WGSL, "Comments"), by how many characters of a text they are.
use Rattle.std.specs.Prelude.{◌≡◌, ℕ, zero, suc, ◌+◌, ◌-◌, ◌<◌, ◌≤◌, Bool, true, false, List, length, drop, slice_index, if◌then◌else◌}
use Rattle.shade_lex.specs.Characters.{is_line_break, starts_with_two}

-- `//` and what follows up to the line break or the end of the text
pub record IsLineComment (text : List ℕ) (count : ℕ) : Type 0 where
  pub begins : starts_with_two 47 47 text ≡ true
  pub two : 2 ≤ count
  pub within : count ≤ length text
  pub one_line : (k : ℕ) → 2 ≤ k → k < count → is_line_break (slice_index text k) ≡ false
  pub ends : count < length text → is_line_break (slice_index text count) ≡ true

-- Where so many block comments are open, all are closed after so many characters: `*/` closes one, `/*` opens one more.
abbrev pub closes : ℕ → List ℕ → ℕ → Bool
closes zero text zero = true
closes zero text (suc count) = false
closes (suc open_comments) text zero = false
closes (suc open_comments) text (suc zero) = false
closes (suc open_comments) text (suc (suc count)) =
    if starts_with_two 42 47 text then closes open_comments (drop 2 text) count
    else (if starts_with_two 47 42 text then closes (suc (suc open_comments)) (drop 2 text) count
    else closes (suc open_comments) (drop 1 text) (suc count))

-- `/*` and what follows up to the `*/` that closes it
pub record IsBlockComment (text : List ℕ) (count : ℕ) : Type 0 where
  pub begins : starts_with_two 47 42 text ≡ true
  pub two : 2 ≤ count
  pub within : count ≤ length text
  pub closed : closes 1 (drop 2 text) (count - 2) ≡ true

-- What one step on leaves to close, and that nothing is closed before it.
pub record IsCommentStep (text : List ℕ) (at depth next left : ℕ) : Type 0 where
  pub later : at < next
  pub near : next ≤ at + 2
  pub within : next ≤ length text
  pub few : left ≤ depth + (next - at)
  pub leaves : (count : ℕ) → closes depth (drop at text) (count + (next - at)) ≡ closes left (drop next text) count
  pub early : (count : ℕ) → count < next - at → closes depth (drop at text) count ≡ false
