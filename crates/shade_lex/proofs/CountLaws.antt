-- Counts of characters, from a place on.
use Rattle.std.proofs.Common.{◌≡◌, ℕ, ◌+◌, ◌<◌, ◌≤◌, List, ◌∷◌, length, get_or, drop, Bool, true, false, refl, ap, arith}
use Rattle.std.proofs.lemmas.List.{drop_more, drop_all}
use Rattle.shade_lex.specs.Counts.{count}

-- one more character passes
pub count-more : (p : ℕ → Bool) (text : List ℕ) (at from d : ℕ) → at < length text → p (get_or text at d) ≡ true → count p (drop at text) + at ≡ count p (drop from text) + from → count p (drop (at + 1) text) + (at + 1) ≡ count p (drop from text) + from
count-more p text at from d h t e =
    let head : count p (drop at text) ≡ count p (get_or text at d ∷ drop (at + 1) text) = ap (count p) (drop_more text at d h) in
    let step : count p (get_or text at d ∷ drop (at + 1) text) ≡ count p (drop (at + 1) text) + 1 = rw t refl in
    omega (arith, head, step, e)

-- the first character that does not pass
pub count-stops : (p : ℕ → Bool) (text : List ℕ) (at from d : ℕ) → at < length text → p (get_or text at d) ≡ false → count p (drop at text) + at ≡ count p (drop from text) + from → at ≡ count p (drop from text) + from
count-stops p text at from d h t e =
    let head : count p (drop at text) ≡ count p (get_or text at d ∷ drop (at + 1) text) = ap (count p) (drop_more text at d h) in
    let step : count p (get_or text at d ∷ drop (at + 1) text) ≡ 0 = rw t refl in
    omega (arith, head, step, e)

-- the end of the text
pub count-ends : (p : ℕ → Bool) (text : List ℕ) (at from : ℕ) → length text ≤ at → count p (drop at text) + at ≡ count p (drop from text) + from → at ≡ count p (drop from text) + from
count-ends p text at from h e =
    let none : count p (drop at text) ≡ 0 = ap (count p) (drop_all at text h) in
    omega (arith, none, e)
