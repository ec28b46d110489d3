-- Rule: in which order the declarations of a module are taken: in the order of the text, each behind those that it names and that were not
-- taken yet, in order of naming. A declaration is a number, its place in the text. (WGSL, "Declaration and Scope": a declaration of the
-- module is in force in all of it, also before its own text.)
use Rattle.std.specs.Prelude.{ℕ, zero, suc, ◌<◌, ◌≤◌, List, [], ◌∷◌, ◌++◌, length, get_or, Contains}

-- by those that each declaration names: where some are begun, those that are wanted are taken in this order, and these are begun then. One
-- that is begun is not taken again, and a number of no declaration is passed over; another is begun, and taken behind those that it names.
pub data Takes (named : List (List ℕ)) : List ℕ → List ℕ → List ℕ → List ℕ → Type 0 where
  ends : (begun : List ℕ) → Takes named begun [] [] begun
  again : (begun others order after : List ℕ) (d : ℕ) → Contains begun d → Takes named begun others order after → Takes named begun (d ∷ others) order after
  missing : (begun others order after : List ℕ) (d : ℕ) → length named ≤ d → Takes named begun others order after → Takes named begun (d ∷ others) order after
  fresh : (begun between after others first rest : List ℕ) (d : ℕ) → d < length named → ¬ Contains begun d
      → Takes named (d ∷ begun) (get_or named d []) first between → Takes named between others rest after
      → Takes named begun (d ∷ others) (first ++ d ∷ rest) after

-- the numbers of some declarations, which follow one another
abbrev pub numbers_from : ℕ → ℕ → List ℕ
numbers_from d zero = []
numbers_from d (suc n) = d ∷ numbers_from (suc d) n

abbrev pub numbers : ℕ → List ℕ
numbers count = numbers_from 0 count

-- all declarations are taken in turn, and none is begun before
pub record IsOrder (named : List (List ℕ)) (order : List ℕ) : Type 0 where
  pub after : List ℕ
  pub takes : Takes named [] (numbers (length named)) order after
