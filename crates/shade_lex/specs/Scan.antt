-- What the search for template lists keeps: the openers that are open, newest first, and the closer found for each token.
use Rattle.std.specs.Prelude.{ℕ, ◌+◌, ◌-◌, ◌<◌, ◌≤◌, Bool, true, false, ◌==◌, nat_le, List, [], ◌∷◌, length, Option, Some, All, slice_set, if◌then◌else◌}
use Rattle.shade_lex.specs.declared.role.Role.{Role}
use Rattle.shade_lex.specs.declared.role.Role.TheVariants.{Word, Less, Greater, Raise, Lower, Cut, Reset, Joined, Other}
use Rattle.shade_lex.specs.declared.candidate.Candidate.{Candidate}

pub record ScanState : Type 0 where
  pub level : ℕ
  pub candidates : List Candidate
  pub closers : List (Option ℕ)
  pub closed : Bool

-- the candidates from the first that is below a depth
abbrev pub below : ℕ → List Candidate → List Candidate
below level [] = []
below level (c ∷ candidates) = if nat_le level c.depth then below level candidates else c ∷ candidates

abbrev pub pass : ScanState → ScanState
pass s = record { level = s.level; candidates = s.candidates; closers = s.closers; closed = false }

abbrev pub push : ℕ → ScanState → ScanState
push k s = record { level = s.level; candidates = record { at = k; depth = s.level } ∷ s.candidates; closers = s.closers; closed = false }

abbrev pub close_by : ℕ → ScanState → List Candidate → ScanState
close_by k s [] = pass s
close_by k s (c ∷ candidates) =
    if c.depth == s.level then record { level = s.level; candidates = candidates; closers = slice_set s.closers c.at (Some k); closed = true } else pass s

abbrev pub cut_at : ℕ → ScanState → ScanState
cut_at level s = record { level = level; candidates = below s.level s.candidates; closers = s.closers; closed = false }

abbrev pub clear : ScanState → ScanState
clear s = record { level = 0; candidates = []; closers = s.closers; closed = false }

-- one token more, which may be an opener
abbrev pub next : Role → Bool → ℕ → ScanState → ScanState
next Less opener k s = if opener then push k s else pass s
next Greater opener k s = close_by k s s.candidates
next Raise opener k s = record { level = s.level + 1; candidates = s.candidates; closers = s.closers; closed = false }
next Lower opener k s = cut_at (s.level - 1) s
next Cut opener k s = cut_at s.level s
next Reset opener k s = clear s
next Joined opener k s = if s.closed then clear s else pass s
next Word opener k s = pass s
next Other opener k s = pass s

-- what one step on needs
pub record CanScan (s : ScanState) (k : ℕ) : Type 0 where
  pub shallow : s.level ≤ k
  pub inside : All (λ (c : Candidate). c.at < length s.closers) s.candidates
