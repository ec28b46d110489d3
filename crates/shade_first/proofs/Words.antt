-- Words behind references.
use Rattle.std.proofs.Common.{◌≡◌, refl, ap, ℕ, ◌||◌, nat_eq, List, [], ◌∷◌, map, Bor}
use Rattle.std.specs.List.{list_any}
use Rattle.std.specs.Cmp.Lexicographic.{pointwise}
use Rattle.shade_first.specs.Reserved.{is_one_of}

pub among : (ws : List (Bor (List ℕ))) (name : List ℕ) → list_any (λ (w : Bor (List ℕ)). pointwise nat_eq w.now name) ws ≡ is_one_of (map (λ (w : Bor (List ℕ)). w.now) ws) name
among [] name = refl
among (w ∷ ws) name = ap (λ b. pointwise nat_eq w.now name || b) (among ws name)
