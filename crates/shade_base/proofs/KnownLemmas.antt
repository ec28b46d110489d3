-- What a row of writes appended, where the bytes are known.
use Rattle.std.proofs.Common.{ℕ, ◌+◌, ◌-◌, ◌≤◌, List, ◌++◌, length, take, drop, length-drop, arith, Option, Some, None, ap, ◌∙◌, append_assoc}
use Rattle.std.specs.Io.KnownBytes.{Appends}
use Rattle.std.proofs.Math.Seq.{take-add}
use Rattle.std.proofs.lemmas.List.{take_rest}

-- one piece after another
pub Appends-append : (a b c : Option (List ℕ)) (xs ys : List ℕ) → Appends a b xs → Appends b c ys → Appends a c (xs ++ ys)
Appends-append None b c xs ys h k = tt
Appends-append (Some before) None c xs ys h k = absurd h
Appends-append (Some before) (Some bs) None xs ys h k = absurd k
Appends-append (Some before) (Some bs) (Some cs) xs ys h k = k ∙ ap (λ zs. zs ++ ys) h ∙ append_assoc before xs ys

-- the first bytes, and then the first of what is left
pub Appends-take : (a b c : Option (List ℕ)) (n m : ℕ) (xs : List ℕ) → Appends a b (take n xs) → Appends b c (take m (take (length xs - n) (drop n xs))) → Appends a c (take (n + m) xs)
Appends-take a b c n m xs h k = rw (take-add n m xs) (Appends-append a b c (take n xs) (take m (drop n xs)) h (rw (take_rest xs n) at k))

-- how many bytes are out
pub le_of_rest : (n m : ℕ) (xs : List ℕ) → n ≤ length xs → m ≤ length (take (length xs - n) (drop n xs)) → n + m ≤ length xs
le_of_rest n m xs h k = omega (arith, rw (take_rest xs n, length-drop n xs) at k)
