use Rattle.std.proofs.Common.{◌≡◌, ℕ, ◌+◌, List, [], ◌∷◌, ◌++◌, refl, cond}
use Rattle.std.specs.Str.{bytes_eq}
use Rattle.std.proofs.lemmas.List.Sums.{sum_by_push}
use Rattle.std.proofs.lemmas.Slice.Eq.{bytes_eq-Decides}
use Rattle.shade_base.specs.Shelf.{faults_of}

-- a name that is added is counted
pub faults_of-push : (name : List ℕ) (names : List (List ℕ)) → faults_of name (names ++ name ∷ []) ≡ faults_of name names + 1
faults_of-push name names = rw (sum_by_push (λ x. cond (bytes_eq name x) 1 0) names name, (bytes_eq-Decides name name).1 refl)
