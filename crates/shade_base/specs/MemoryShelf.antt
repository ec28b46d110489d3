use Rattle.std.specs.Prelude.{ℕ, Bool, List, [], ◌∷◌, ◌++◌, if◌then◌else◌, Option, None, ◌==◌, refl}
use Rattle.std.specs.Coded.{Coded, code_by, coded×, coded_ℕ, coded_list}
use Rattle.std.specs.List.{list_any}
use Rattle.std.specs.Map.{lookup}
use Rattle.std.specs.Str.{bytes_eq}
use Rattle.shade_base.specs.Counter.{one_more}
use Rattle.shade_base.specs.Shelf.{front_of}

-- What a shelf in memory holds: its texts beside their names, the numbers of the calls that fail, how many calls there
-- were, and the names whose reads failed.
pub record ShelfState : Type 0 where
  pub texts : List (List ℕ × List ℕ)
  pub failing : List ℕ
  pub calls : ℕ
  pub failed : List (List ℕ)

abbrev pub shelf_code : Coded ShelfState
shelf_code =
    code_by (List (List ℕ × List ℕ) × (List ℕ × (ℕ × List (List ℕ))))
    (coded× (coded_list (coded× (coded_list coded_ℕ) (coded_list coded_ℕ))) (coded× (coded_list coded_ℕ) (coded× coded_ℕ (coded_list (coded_list coded_ℕ)))))
    (λ s. (s.texts, (s.failing, (s.calls, s.failed))))
    (λ p. record { texts = p.0; failing = p.1.0; calls = p.1.1.0; failed = p.1.1.1 }) (λ _. refl)

-- the text of a name
abbrev pub text_of : List (List ℕ × List ℕ) → List ℕ → Option (List ℕ)
text_of texts name = lookup (bytes_eq name) texts

-- whether the call of this number is to fail
abbrev pub is_failing : List ℕ → ℕ → Bool
is_failing failing call = list_any (λ number. number == call) failing

-- what the next read gives: nothing, if it is to fail or the name has no text
abbrev pub read_of : ShelfState → List ℕ → ℕ → Option (List ℕ)
read_of s name limit = if is_failing s.failing s.calls then None else front_of (text_of s.texts) name limit

-- the shelf after a read that gave a text
abbrev pub after_read : ShelfState → ShelfState
after_read s = record { texts = s.texts; failing = s.failing; calls = one_more s.calls; failed = s.failed }

-- the shelf after a read that failed
abbrev pub after_failure : ShelfState → List ℕ → ShelfState
after_failure s name =
    record { texts = s.texts; failing = s.failing; calls = one_more s.calls; failed = s.failed ++ name ∷ [] }
