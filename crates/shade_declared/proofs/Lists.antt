-- Lists that are made item by item.
use Rattle.std.proofs.Common.{◌≡◌, ◌<◌, sym, ap, ◌∙◌, ◌+◌, ◌-◌, ℕ, zero, suc, List, [], ◌∷◌, ◌++◌, length, drop, get_or, map, reverse, arith}
use Rattle.std.proofs.lemmas.List.{drop_all, drop_more, reverse-append}
use Rattle.shade_declared.specs.declared.taking.Turn.{Turn}
use Rattle.shade_declared.specs.declared.taking.Turn.TheVariants as turn
use Rattle.shade_declared.specs.Order.{numbers_from, numbers}

numbers_on : (d n : ℕ) → numbers_from d (suc n) ≡ numbers_from d n ++ (d + n) ∷ []
numbers_on d zero = ap (λ z. z ∷ []) (omega arith)
numbers_on d (suc n) = ap (λ l. d ∷ l) (numbers_on (suc d) n ∙ ap (λ z. numbers_from (suc d) n ++ z ∷ []) (omega arith))

pub numbers_more : (n : ℕ) → numbers (n + 1) ≡ numbers n ++ n ∷ []
numbers_more n =
    let next : n + 1 ≡ suc n = omega arith in
    let at : 0 + n ≡ n = omega arith in
    ap numbers next ∙ numbers_on 0 n ∙ ap (λ z. numbers n ++ z ∷ []) at

-- turns that begin the last declarations of some, from the last one on, in front of others
pub begun_none : (wanted : List ℕ) (first : List Turn) → first ≡ map turn.Begin (drop (length wanted - 0) wanted) ++ first
begun_none wanted first = sym (ap (λ z. map turn.Begin z ++ first) (drop_all (length wanted - 0) wanted (omega arith)))

pub begun_more : (wanted : List ℕ) (turns new first : List Turn) (i d : ℕ) → i < length wanted → d ≡ get_or wanted (length wanted - 1 - i) d
    → reverse turns ≡ map turn.Begin (drop (length wanted - i) wanted) ++ first → new ≡ turns ++ turn.Begin d ∷ []
    → reverse new ≡ map turn.Begin (drop (length wanted - (i + 1)) wanted) ++ first
begun_more wanted turns new first i d within is h new_is =
    let at : length wanted - 1 - i ≡ length wanted - (i + 1) = omega (arith, within) in
    let next : length wanted - (i + 1) + 1 ≡ length wanted - i = omega (arith, within) in
    let low : length wanted - (i + 1) < length wanted = omega (arith, within) in
    ap reverse new_is ∙ reverse-append turns (turn.Begin d ∷ []) ∙ ap (λ z. turn.Begin d ∷ z) h
    ∙ ap (λ z. turn.Begin z ∷ (map turn.Begin (drop (length wanted - i) wanted) ++ first)) (is ∙ ap (λ z. get_or wanted z d) at)
    ∙ ap (λ z. turn.Begin (get_or wanted (length wanted - (i + 1)) d) ∷ (map turn.Begin (drop z wanted) ++ first)) (sym next)
    ∙ ap (λ z. map turn.Begin z ++ first) (sym (drop_more wanted (length wanted - (i + 1)) d low))

pub begun_all : (wanted : List ℕ) (first : List Turn) (i : ℕ) → length wanted ≡ i → map turn.Begin (drop (length wanted - i) wanted) ++ first ≡ map turn.Begin wanted ++ first
begun_all wanted first i is =
    let none : length wanted - i ≡ 0 = omega (arith, is) in
    ap (λ z. map turn.Begin (drop z wanted) ++ first) none
