-- Words of which some are changed, word by word.
use Rattle.std.proofs.Common.{◌≡◌, ℕ, zero, suc, ◌+◌, ◌-◌, ◌<◌, false, if◌then◌else◌, List, [], ◌∷◌, length, get_or, Option, Some, None, refl, ap, ◌∙◌, arith}
use Rattle.std.specs.Prelude.{slice_get}
use Rattle.shade_words.specs.Words.{is_among}
use Rattle.shade_words.proofs.ValueWords.{among_in}
use Rattle.shade_spots.specs.Changes.{Change}
use Rattle.shade_spots.specs.Memory.{word_after, changed_from, changed}

pub word_in_piece : (first count : ℕ) (change : Change) (j old : ℕ) → j < count → word_after first count change (first + j) old ≡ change j old
word_in_piece first count change j old lt =
    let e : first + j - first ≡ j = omega arith in
    ap (λ b. if b then change (first + j - first) old else old) (among_in first count (first + j) (omega arith) (omega (arith, lt))) ∙ ap (λ k. change k old) e

pub word_beside : (first count : ℕ) (change : Change) (i old : ℕ) → is_among first count i ≡ false → word_after first count change i old ≡ old
word_beside first count change i old out = ap (λ b. if b then change (i - first) old else old) out

-- what becomes of a word, if it is there
abbrev pub after_of : (first count : ℕ) → Change → ℕ → Option ℕ → Option ℕ
after_of first count change w None = None
after_of first count change w (Some x) = Some (word_after first count change w x)

from_get : (number first count : ℕ) (change : Change) (xs : List ℕ) (w : ℕ) → slice_get (changed_from number first count change xs) w ≡ after_of first count change (number + w) (slice_get xs w)
from_get number first count change [] w = refl
from_get number first count change (x ∷ xs) zero = ap (λ k. Some (word_after first count change k x)) (let e : number ≡ number + 0 = omega arith in e)
from_get number first count change (x ∷ xs) (suc w) =
    from_get (number + 1) first count change xs w ∙ ap (λ k. after_of first count change k (slice_get xs w)) (let e : number + 1 + w ≡ number + suc w = omega arith in e)

pub changed_get : (first count : ℕ) (change : Change) (xs : List ℕ) (w : ℕ) → slice_get (changed first count change xs) w ≡ after_of first count change w (slice_get xs w)
changed_get first count change xs w = from_get 0 first count change xs w ∙ ap (λ k. after_of first count change k (slice_get xs w)) (let e : 0 + w ≡ w = omega arith in e)

from_length : (number first count : ℕ) (change : Change) (xs : List ℕ) → length (changed_from number first count change xs) ≡ length xs
from_length number first count change [] = refl
from_length number first count change (x ∷ xs) = ap suc (from_length (number + 1) first count change xs)

pub changed_length : (first count : ℕ) (change : Change) (xs : List ℕ) → length (changed first count change xs) ≡ length xs
changed_length first count change xs = from_length 0 first count change xs

from_at : (number first count : ℕ) (change : Change) (xs : List ℕ) (w : ℕ) → w < length xs → get_or (changed_from number first count change xs) w 0 ≡ word_after first count change (number + w) (get_or xs w 0)
from_at number first count change [] w lt = absurd (omega (arith, lt))
from_at number first count change (x ∷ xs) zero lt = ap (λ k. word_after first count change k x) (let e : number ≡ number + 0 = omega arith in e)
from_at number first count change (x ∷ xs) (suc w) lt =
    from_at (number + 1) first count change xs w (omega (arith, lt)) ∙ ap (λ k. word_after first count change k (get_or xs w 0)) (let e : number + 1 + w ≡ number + suc w = omega arith in e)

pub changed_at : (first count : ℕ) (change : Change) (xs : List ℕ) (w : ℕ) → w < length xs → get_or (changed first count change xs) w 0 ≡ word_after first count change w (get_or xs w 0)
changed_at first count change xs w lt = from_at 0 first count change xs w lt ∙ ap (λ k. word_after first count change k (get_or xs w 0)) (let e : 0 + w ≡ w = omega arith in e)
