-- Each turn leaves less to do.
use Rattle.std.proofs.Common.{◌≡◌, ◌<◌, ◌+◌, ◌∙◌, refl, sym, ap, reverse, length-append, ℕ, zero, suc, Bool, true, false, List, [], ◌∷◌, ◌++◌, length, map, get_or, set, arith}
use Rattle.std.proofs.lemmas.List.{length-reverse}
use Rattle.shade_declared.specs.declared.taking.Turn.{Turn}
use Rattle.shade_declared.specs.declared.taking.Turn.TheVariants as turn
use Rattle.shade_declared.specs.Turns.{marked, turns_by, marks_after, turns_after, turns_of, to_come}

-- a declaration that is begun gives no more turns
marked_less : (marks : List Bool) (named : List (List ℕ)) (d : ℕ) → get_or marks d true ≡ false
    → to_come marks named ≡ suc (length (get_or named d [])) + to_come (set marks d true) named
marked_less [] named d is = absurd (cc)
marked_less (mark ∷ marks) [] zero is = let one : turns_of mark 0 ≡ 1 = ap (λ z. turns_of z 0) is in omega (arith, one)
marked_less (mark ∷ marks) (names ∷ named) zero is =
    let more : turns_of mark (length names) ≡ suc (length names) = ap (λ z. turns_of z (length names)) is in
    omega (arith, more)
marked_less (mark ∷ marks) [] (suc d) is = let h = marked_less marks [] d is in omega (arith, h)
marked_less (mark ∷ marks) (names ∷ named) (suc d) is = let h = marked_less marks named d is in omega (arith, h)

length_begins : (ds : List ℕ) (d : ℕ) (turns : List Turn) → length ((map turn.Begin ds ++ turn.Take d ∷ []) ++ turns) ≡ length ds + suc (length turns)
length_begins [] d turns = omega arith
length_begins (e ∷ ds) d turns = let h = length_begins ds d turns in omega (arith, h)

begun_less : (b : Bool) (named : List (List ℕ)) (marks : List Bool) (d : ℕ) (turns : List Turn) → get_or marks d true ≡ b
    → length (turns_by b named d ++ turns) + to_come (marked b marks d) named < suc (length turns) + to_come marks named
begun_less true named marks d turns is = omega arith
begun_less false named marks d turns is =
    let h = marked_less marks named d is in
    let k = length_begins (get_or named d []) d turns in
    omega (arith, h, k)

pub less_to_do : (named : List (List ℕ)) (marks : List Bool) (t : Turn) (turns : List Turn)
    → length (turns_after named t marks ++ turns) + to_come (marks_after t marks) named < suc (length turns) + to_come marks named
less_to_do named marks (turn.Begin d) turns = begun_less (get_or marks d true) named marks d turns refl
less_to_do named marks (turn.Take d) turns = omega arith

-- a turn of the code, whose list of turns ends with the next
pub next_less : (named : List (List ℕ)) (marks new_marks : List Bool) (old rest turns : List Turn) (t : Turn)
    → old ≡ rest ++ t ∷ [] → new_marks ≡ marks_after t marks → reverse turns ≡ turns_after named t marks ++ reverse rest
    → length turns + to_come new_marks named < length old + to_come marks named
next_less named marks new_marks old rest turns t is is_marks is_turns =
    let less = less_to_do named marks t (reverse rest) in
    let many : length turns ≡ length (turns_after named t marks ++ reverse rest) = sym (length-reverse turns) ∙ ap length is_turns in
    let few : length old ≡ length rest + 1 = ap length is ∙ length-append rest (t ∷ []) in
    let same : length (reverse rest) ≡ length rest = length-reverse rest in
    let left : to_come new_marks named ≡ to_come (marks_after t marks) named = ap (λ z. to_come z named) is_marks in
    omega (arith, less, many, few, same, left)
