-- Some bytes state one job.
use Rattle.std.proofs.Common.{◌≡◌, refl, sym, ap, ap₂, ◌∙◌, ℕ, ◌+◌, ◌<◌, ◌^◌, List, [], ◌∷◌, ◌++◌, length, arith}
use Rattle.std.proofs.lemmas.List.{length-append}
use Rattle.std.specs.Fmt.{decimal}
use Rattle.shade_job.specs.Steps.{line, lines, AllBelow}
use Rattle.shade_job.specs.Laws.{OneJob}
use Rattle.shade_job.proofs.Lines.{line_one}

line_some : (n : ℕ) (rest : List ℕ) → line n ++ rest ≡ [] → ⊥
line_some n rest is =
    let none : length (line n ++ rest) ≡ 0 = ap length is in
    let whole : length (line n ++ rest) ≡ length (line n) + length rest = length-append (line n) rest in
    let front : length (line n) ≡ length (decimal n) + 1 = length-append (decimal n) (10 ∷ []) in
    omega arith

lines_one : (lanes : ℕ) → lanes < 2 ^ 32 → (xs ys : List ℕ) → AllBelow lanes xs → AllBelow lanes ys → lines xs ≡ lines ys → xs ≡ ys
lines_one lanes few [] [] a b is = refl
lines_one lanes few [] (y ∷ ys) a b is = absurd (line_some y (lines ys) (sym is))
lines_one lanes few (x ∷ xs) [] a b is = absurd (line_some x (lines xs) is)
lines_one lanes few (x ∷ xs) (y ∷ ys) a b is =
    let same : (x ≡ y) × (lines xs ≡ lines ys) = line_one x y (lines xs) (lines ys) (omega (arith, a.0)) (omega (arith, b.0)) is in
    ap₂ (λ z zs. z ∷ zs) same.0 (lines_one lanes few xs ys a.1 b.1 same.1)

pub one_job : OneJob
one_job lanes bytes xs ys few x y = lines_one lanes few xs ys x.lanes_each y.lanes_each (sym x.spelled ∙ y.spelled)
