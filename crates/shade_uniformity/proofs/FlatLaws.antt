-- What stands in lists that are made of lists.
use Rattle.std.proofs.Common.{◌≡◌, refl, ap, Bool, true, false, List, [], ◌∷◌, ◌++◌, map, inl, inr}
use Rattle.std.specs.Prelude.{◌⊎◌, if◌then◌else◌}
use Rattle.std.specs.List.{flat_map}
use Rattle.std.proofs.lemmas.Bool.{false≢true}
use Rattle.shade_graph.specs.Graph.{Among, here, later}
use Rattle.shade_graph.proofs.Members.{among_left, among_right, among_split}

pub flat_among : {A B : Type 0} (g : A → List B) (xs : List A) (x : A) (y : B) → Among x xs → Among y (g x) → Among y (flat_map g xs)
flat_among g [] x y h own = elim h [ ]
flat_among g (z ∷ xs) x y here own = among_left (g z) (flat_map g xs) own
flat_among g (z ∷ xs) x y (later h) own = among_right (g z) (flat_map g xs) (flat_among g xs x y h own)

pub among_flat : {A B : Type 0} (g : A → List B) (xs : List A) (y : B) → Among y (flat_map g xs) → (x : A) × Among x xs × Among y (g x)
among_flat g [] y h = elim h [ ]
among_flat g (x ∷ xs) y h = elim (among_split (g x) (flat_map g xs) h) [
  | inl own ↦ (x, here, own)
  | inr more ↦ (let r = among_flat g xs y more in (r.0, later r.1, r.2))
]

pub flat_over : {A B C : Type 0} (g : B → List C) (f : A → B) (xs : List A) → flat_map (λ x. g (f x)) xs ≡ flat_map g (map f xs)
flat_over g f [] = refl
flat_over g f (x ∷ xs) = ap (λ ys. g (f x) ++ ys) (flat_over g f xs)

-- where a test holds
pub among_when : {A : Type 0} {x : A} (b : Bool) (xs : List A) → b ≡ true → Among x xs → Among x (if b then xs else [])
among_when true xs e h = h
among_when false xs e h = absurd (false≢true e)
