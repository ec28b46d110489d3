-- What is tested of all of a list is so of each.
use Rattle.std.proofs.Common.{◌≡◌, refl, sym, ap, ◌∙◌, ℕ, zero, suc, ◌+◌, ◌<◌, ◌≤◌, ◌^◌, Bool, true, false, ◌&&◌, List, [], ◌∷◌, length, get_or, drop, map, arith}
use Rattle.std.specs.Prelude.{leb}
use Rattle.std.specs.List.{list_all}
use Rattle.std.proofs.lemmas.Bool.Decides.{nat_tests}
use Rattle.shade_core.proofs.CodeLaws.{drop_here}

pub both : (a b : Bool) → (a && b) ≡ true → (a ≡ true) × (b ≡ true)
both true true e = (refl, refl)
both true false e = let no_one : ⊥ = cc e in absurd no_one
both false b e = let no_one : ⊥ = cc e in absurd no_one

pub few_is : (n : ℕ) → leb n 4294967295 ≡ true → n < 2 ^ 32
few_is n e = let le : n ≤ 4294967295 = grind (arith, nat_tests) in omega (arith, le)

module _ {X : Type 0} (p : X → Bool) where
  pub each_of : (xs : List X) (n : ℕ) (x : X) → list_all p xs ≡ true → n < length xs → x ≡ get_or xs n x → p x ≡ true
  each_of [] n x all lt is = absurd (omega (arith, lt))
  each_of (y ∷ xs) zero x all lt is = ap p is ∙ (both (p y) (list_all p xs) all).0
  each_of (y ∷ xs) (suc n) x all lt is = each_of xs n x (both (p y) (list_all p xs) all).1 (omega (arith, lt)) is

  -- one at a time
  pub all_here : (xs : List X) (n : ℕ) (x : X) → n < length xs → x ≡ get_or xs n x → list_all p (drop n xs) ≡ (p x && list_all p (drop (n + 1) xs))
  all_here xs n x lt is = ap (list_all p) (drop_here xs n x lt is)

  pub all_more : (xs : List X) (n : ℕ) (x : X) (few : Bool) → n < length xs → x ≡ get_or xs n x → few ≡ p x → few ≡ true → list_all p xs ≡ list_all p (drop n xs) → list_all p xs ≡ list_all p (drop (n + 1) xs)
  all_more xs n x few lt is told e h = h ∙ (all_here xs n x lt is ∙ ap (λ b. b && list_all p (drop (n + 1) xs)) (sym told ∙ e))

  pub not_all : (xs : List X) (n : ℕ) (x : X) (few : Bool) → n < length xs → x ≡ get_or xs n x → few ≡ p x → few ≡ false → list_all p xs ≡ list_all p (drop n xs) → false ≡ list_all p xs
  not_all xs n x few lt is told e h = sym (h ∙ (all_here xs n x lt is ∙ ap (λ b. b && list_all p (drop (n + 1) xs)) (sym told ∙ e)))

  dropped : (xs : List X) (n : ℕ) → length xs ≤ n → drop n xs ≡ []
  dropped [] zero past = refl
  dropped [] (suc n) past = refl
  dropped (x ∷ xs) zero past = absurd (omega (arith, past))
  dropped (x ∷ xs) (suc n) past = dropped xs n (omega (arith, past))

  pub all_of : (xs : List X) (n : ℕ) → length xs ≤ n → list_all p xs ≡ list_all p (drop n xs) → true ≡ list_all p xs
  all_of xs n past h = sym (h ∙ ap (list_all p) (dropped xs n past))

pub all_map : {X Y : Type 0} (p : Y → Bool) (f : X → Y) (xs : List X) → list_all p (map f xs) ≡ list_all (λ x. p (f x)) xs
all_map p f [] = refl
all_map p f (x ∷ xs) = ap (λ b. p (f x) && b) (all_map p f xs)

-- an item of a list that is seen of another
pub each_seen : {X Y : Type 0} (p : Y → Bool) (f : X → Y) (xs : List X) (n : ℕ) (x : X) → list_all p (map f xs) ≡ true → n < length xs → x ≡ get_or xs n x → p (f x) ≡ true
each_seen p f xs n x all lt is = each_of (λ y. p (f y)) xs n x (sym (all_map p f xs) ∙ all) lt is
