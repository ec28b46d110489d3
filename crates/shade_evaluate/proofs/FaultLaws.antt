-- The first fault of the parts, one part after another.
use Rattle.std.proofs.Common.{◌≡◌, refl, sym, ap, ◌∙◌, ℕ, ◌+◌, ◌<◌, ◌≤◌, List, [], ◌∷◌, ◌++◌, get_or, take, drop, map, Option, Some, None, add-one, drop-cons, arith}
use Rattle.std.specs.List.{range_with_len}
use Rattle.std.proofs.lemmas.List.{take-append-drop}
use Rattle.std.proofs.lemmas.List.FromFn.{map-range_with_len_more, take-map-range_with_len, length-map-range_with_len, get_or-map-range_with_len}
use Rattle.shade_evaluate.specs.declared.fault.ConstFault.{ConstFault}
use Rattle.shade_evaluate.specs.Misuse.{first_fault}

first_behind : (xs ys : List (Option ConstFault)) → first_fault xs ≡ None → first_fault (xs ++ ys) ≡ first_fault ys
first_behind [] ys e = refl
first_behind (Some f ∷ xs) ys e = absurd (cc)
first_behind (None ∷ xs) ys e = first_behind xs ys e

pub none_more : (f : ℕ → Option ConstFault) (k : ℕ) → first_fault (map f (range_with_len 0 k)) ≡ None → None ≡ f k → first_fault (map f (range_with_len 0 (k + 1))) ≡ None
none_more f k h e =
    ap first_fault (map-range_with_len_more f 0 k k (omega arith))
    ∙ first_behind (map f (range_with_len 0 k)) (f k ∷ []) h
    ∙ ap (λ o. first_fault (o ∷ [])) (sym e)

pub first_here : (f : ℕ → Option ConstFault) (n k : ℕ) (x : ConstFault) → k < n → first_fault (map f (range_with_len 0 k)) ≡ None → Some x ≡ f k
    → Some x ≡ first_fault (map f (range_with_len 0 n))
first_here f n k x lt h e =
    let all = map f (range_with_len 0 n) in
    let before : first_fault (take k all) ≡ None = ap first_fault (take-map-range_with_len f 0 n k (omega (arith, lt))) ∙ h in
    let here : drop k all ≡ f k ∷ drop (k + 1) all =
    rw add-one (drop-cons all k (f k) (rw (length-map-range_with_len f 0 n) lt)) ∙ ap (λ o. o ∷ drop (k + 1) all) (get_or-map-range_with_len f 0 n k k (f k) lt (omega arith)) in
    let found : first_fault (f k ∷ drop (k + 1) all) ≡ Some x = ap (λ o. first_fault (o ∷ drop (k + 1) all)) (sym e) in
    sym (ap first_fault (sym (take-append-drop k all)) ∙ first_behind (take k all) (drop k all) before ∙ ap first_fault here ∙ found)
