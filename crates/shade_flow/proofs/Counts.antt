-- The numbers of a function's statements, which count from 0 on where the function has its shape.
use Rattle.std.proofs.Common.{◌≡◌, ℕ, ◌+◌, Bool, true, false, ◌&&◌, List, [], ◌∷◌, ◌++◌, map, refl, ap, sym, ◌∙◌, subst, inl, inr, append_assoc}
use Rattle.std.specs.Prelude.{IsTrue, ◌==◌}
use Rattle.std.proofs.lemmas.Bool.{false≢true}
use Rattle.std.proofs.lemmas.Bool.Decides.{eqb_tells}
use Rattle.std.proofs.lemmas.List.{map-append}
use Rattle.shade_core.specs.Code.{Code, done, plain, jump, call, branch, switch, loop, no_part, part}
use Rattle.shade_core.specs.Standing.{Standing, statements, are_numbered}

-- the numbers of the statements in structure order
abbrev pub numbers_of : Code → List ℕ
numbers_of done = []
numbers_of (plain n act rest) = n ∷ numbers_of rest
numbers_of (jump n act rest) = n ∷ numbers_of rest
numbers_of (call n g args rest) = n ∷ numbers_of rest
numbers_of (branch n cond first second rest) = n ∷ (numbers_of first ++ (numbers_of second ++ numbers_of rest))
numbers_of (switch n selector parts rest) = n ∷ (numbers_of parts ++ numbers_of rest)
numbers_of (loop n body continuing leave rest) = n ∷ (numbers_of body ++ (numbers_of continuing ++ numbers_of rest))
numbers_of no_part = []
numbers_of (part n which keys fallback body others) = numbers_of body ++ numbers_of others

-- some numbers are those from one on, one after the other
abbrev pub CountFrom : ℕ → List ℕ → Type 0
CountFrom n [] = Unit {0}
CountFrom n (number ∷ numbers) = (number ≡ n) × CountFrom (n + 1) numbers

abbrev pub IsNumbered : Code → Type 0
IsNumbered body = CountFrom 0 (numbers_of body)

abbrev own : Standing → ℕ
own s = s.number

two : (xs ys : List Standing) (a b : List ℕ) → map own xs ≡ a → map own ys ≡ b → map own (xs ++ ys) ≡ a ++ b
two xs ys a b e f = map-append own xs ys ∙ (ap (λ (l : List ℕ). l ++ map own ys) e ∙ ap (λ (l : List ℕ). a ++ l) f)

three : (a b c : Code) → map own (statements a) ≡ numbers_of a → map own (statements b) ≡ numbers_of b → map own (statements c) ≡ numbers_of c
    → map own ((statements a ++ statements b) ++ statements c) ≡ numbers_of a ++ (numbers_of b ++ numbers_of c)
three a b c e f g =
    two (statements a ++ statements b) (statements c) (numbers_of a ++ numbers_of b) (numbers_of c) (two (statements a) (statements b) (numbers_of a) (numbers_of b) e f) g
    ∙ append_assoc (numbers_of a) (numbers_of b) (numbers_of c)

standing_numbers : (code : Code) → map own (statements code) ≡ numbers_of code
standing_numbers done = refl
standing_numbers (plain n act rest) = ap (λ (l : List ℕ). n ∷ l) (standing_numbers rest)
standing_numbers (jump n act rest) = ap (λ (l : List ℕ). n ∷ l) (standing_numbers rest)
standing_numbers (call n g args rest) = ap (λ (l : List ℕ). n ∷ l) (standing_numbers rest)
standing_numbers (branch n cond one second rest) = ap (λ (l : List ℕ). n ∷ l) (three one second rest (standing_numbers one) (standing_numbers second) (standing_numbers rest))
standing_numbers (switch n selector parts rest) = ap (λ (l : List ℕ). n ∷ l) (two (statements parts) _ _ _ (standing_numbers parts) (standing_numbers rest))
standing_numbers (loop n body continuing leave rest) = ap (λ (l : List ℕ). n ∷ l) (three body continuing rest (standing_numbers body) (standing_numbers continuing) (standing_numbers rest))
standing_numbers no_part = refl
standing_numbers (part n which keys fallback body others) = two (statements body) _ _ _ (standing_numbers body) (standing_numbers others)

pub both_true : (a b : Bool) → (a && b) ≡ true → (a ≡ true) × (b ≡ true)
both_true true true e = (refl, refl)
both_true true false e = cc
both_true false b e = cc

count_from : (n : ℕ) (ss : List Standing) → are_numbered n ss ≡ true → CountFrom n (map own ss)
count_from n [] e = tt
count_from n (s ∷ ss) e =
    let b : ((s.number == n) ≡ true) × (are_numbered (n + 1) ss ≡ true) = both_true (s.number == n) (are_numbered (n + 1) ss) e in
    (elim (eqb_tells s.number n) [ inl same ↦ same.1 | inr other ↦ absurd (false≢true (sym other.0 ∙ b.0)) ], count_from (n + 1) ss b.1)

pub is_numbered : (body : Code) → IsTrue (are_numbered 0 (statements body)) → IsNumbered body
is_numbered body e = subst (λ (l : List ℕ). CountFrom 0 l) (standing_numbers body) (count_from 0 (statements body) e)
