-- A sum of products that wraps at each step.
use Rattle.std.proofs.Common.{◌≡◌, ap, sym, ◌∙◌, ℕ, ◌+◌, ◌*◌, ◌%◌, ◌^◌, ◌<◌, [], ◌∷◌, map, fold, ℤ, pos, ◌+ℤ◌, ◌*ℤ◌, arith, w64, FitsSigned}
use Rattle.std.specs.Int.{int_wrap, cast_signed, cast_unsigned}
use Rattle.std.specs.List.{range_with_len}
use Rattle.std.proofs.lemmas.Int.{wrapping_add-bits, wrapping_mul_is, int_wrap-add_left, int_wrap-add_right}
use Rattle.std.proofs.lemmas.List.FromFn.{map-range_with_len_more}
use Rattle.std.proofs.lemmas.List.Sums.{fold-append}

-- the first k of the numbers that a function gives, added
abbrev pub total : (ℕ → ℤ) → ℕ → ℤ
total f k = fold (λ s x. s +ℤ x) (pos 0) (map f (range_with_len 0 k))

total_more : (f : ℕ → ℤ) (k : ℕ) → total f (k + 1) ≡ total f k +ℤ f k
total_more f k =
    ap (fold (λ s x. s +ℤ x) (pos 0)) (map-range_with_len_more f 0 k k (omega arith))
    ∙ fold-append (λ s x. s +ℤ x) (pos 0) (map f (range_with_len 0 k)) (f k ∷ [])

pub dot_step : (f : ℕ → ℤ) (k m : ℕ) (x y : ℤ) → m < 2 ^ 64 → FitsSigned w64 x → FitsSigned w64 y → cast_signed w64 m ≡ int_wrap w64 (total f k) → f k ≡ x *ℤ y
    → cast_signed w64 ((m + (cast_unsigned w64 x * cast_unsigned w64 y) % 2 ^ 64) % 2 ^ 64) ≡ int_wrap w64 (total f (k + 1))
dot_step f k m x y below fits_x fits_y so_far here =
    wrapping_add-bits w64 m ((cast_unsigned w64 x * cast_unsigned w64 y) % 2 ^ 64) below (omega arith)
    ∙ ap (λ z. int_wrap w64 (cast_signed w64 m +ℤ z)) (wrapping_mul_is w64 x y fits_x fits_y)
    ∙ int_wrap-add_right w64 (cast_signed w64 m) (x *ℤ y)
    ∙ ap (λ z. int_wrap w64 (z +ℤ (x *ℤ y))) so_far
    ∙ int_wrap-add_left w64 (total f k) (x *ℤ y)
    ∙ ap (λ z. int_wrap w64 (total f k +ℤ z)) (sym here)
    ∙ ap (int_wrap w64) (sym (total_more f k))
