-- The memory of a run keeps the laws that are asked of memory which lanes share.
use Rattle.std.proofs.Common.{◌≡◌, ℕ, zero, suc, ◌+◌, ◌-◌, ◌≤◌, ◌<◌, Bool, true, false, not, ◌&&◌, List, [], ◌∷◌, take, drop, Option, Some, None, refl, ap, sym, ◌∙◌, subst, inl, inr, arith}
use Rattle.std.specs.Prelude.{◌==◌, slice_get, slice_set}
use Rattle.std.proofs.lemmas.Bool.{eqb-true, eq-eqb}
use Rattle.shade_schedules.specs.System.{Laws}
use Rattle.shade_schedules.proofs.Lists.{false_true, and_parts, same_number, set_same, set_other}
use Rattle.shade_values.specs.declared.types.Space.{Space}
use Rattle.shade_values.specs.declared.types.Space.TheVariants as space
use Rattle.shade_words.specs.Words.{is_among}
use Rattle.shade_words.proofs.ValueWords.{among_in}
use Rattle.shade_spots.specs.Changes.{Change}
use Rattle.shade_spots.specs.Memory.{Memory, words_by, words_of, read, changed, written}
use Rattle.shade_spots.specs.Spots.{Piece}
use Rattle.shade_spots.proofs.ChangeLaws.{after_of, changed_get}
use Rattle.shade_frames.specs.Frames.{Setting}
use Rattle.shade_frames.specs.Lane.{Site}
use Rattle.shade_frames.specs.Systems.{Address, word_at, covers, same_words, same_piece, same_space, unlike_sites, lanes_of}

-- ---- reads

covered : (p : Piece) (w : ℕ) → p.first ≤ w → w < p.first + p.count → covers p (record { root = p.root; word = w }) ≡ true
covered p w low high = rw (eq-eqb p.root p.root refl, among_in p.first p.count w low high) refl

drop_at : (n i : ℕ) (xs : List ℕ) → slice_get (drop n xs) i ≡ slice_get xs (n + i)
drop_at zero i xs = ap (λ k. slice_get xs k) (let e : i ≡ 0 + i = omega arith in e)
drop_at (suc n) i [] = refl
drop_at (suc n) i (x ∷ xs) = drop_at n i xs ∙ ap (λ k. slice_get (x ∷ xs) k) (let e : suc (n + i) ≡ suc n + i = omega arith in e)

take_same : (n : ℕ) (xs ys : List ℕ) → ((i : ℕ) → i < n → slice_get xs i ≡ slice_get ys i) → take n xs ≡ take n ys
take_same zero xs ys h = refl
take_same (suc n) [] [] h = refl
take_same (suc n) [] (y ∷ ys) h = let e : None ≡ Some y = h 0 (omega arith) in let no_one : ⊥ = cc e in absurd no_one
take_same (suc n) (x ∷ xs) [] h = let e : Some x ≡ None = h 0 (omega arith) in let no_one : ⊥ = cc e in absurd no_one
take_same (suc n) (x ∷ xs) (y ∷ ys) h =
    let e : Some x ≡ Some y = h 0 (omega arith) in
    let is : x ≡ y = cc e in
    ap (λ z. z ∷ take n xs) is ∙ ap (λ zs. y ∷ zs) (take_same n xs ys (λ i less. h (suc i) (let k : suc i < suc n = omega (arith, less) in k)))

-- a read depends on the words that are read alone
pub read_same : (m n : Memory) (p : Piece) → ((a : Address) → covers p a ≡ true → word_at m a ≡ word_at n a) → read m p ≡ read n p
read_same m n p same =
    take_same p.count (drop p.first (words_of m p.root)) (drop p.first (words_of n p.root))
    (λ i less. drop_at p.first i (words_of m p.root)
    ∙ (same (record { root = p.root; word = p.first + i }) (covered p (p.first + i) (let low : p.first ≤ p.first + i = omega arith in low) (let high : p.first + i < p.first + p.count = omega (arith, less) in high))
    ∙ sym (drop_at p.first i (words_of n p.root))))

-- ---- writes

-- what a write makes of a word
abbrev new_at : Piece → Change → ℕ → Option ℕ → Option ℕ
new_at p change w o = after_of p.first p.count change w o

changed_at : (p : Piece) (change : Change) (xs : List ℕ) (w : ℕ) → slice_get (changed p.first p.count change xs) w ≡ new_at p change w (slice_get xs w)
changed_at p change xs w = changed_get p.first p.count change xs w

written_there : (m : Memory) (p : Piece) (change : Change) (w : ℕ)
    → word_at (written m p change) (record { root = p.root; word = w }) ≡ new_at p change w (word_at m (record { root = p.root; word = w }))
written_there m p change w = by (slice_get m p.root) refl
  where
    by : (o : Option (List ℕ)) → slice_get m p.root ≡ o
        → word_at (written m p change) (record { root = p.root; word = w }) ≡ new_at p change w (word_at m (record { root = p.root; word = w }))
    by None e =
        ap (λ o. slice_get (words_by o) w) (no_root m p.root (changed p.first p.count change (words_of m p.root)) e)
        ∙ ap (λ o. new_at p change w (slice_get (words_by o) w)) (sym e)
      where
        no_root : (xs : Memory) (n : ℕ) (x : List ℕ) → slice_get xs n ≡ None → slice_get (slice_set xs n x) n ≡ None
        no_root [] n x e = refl
        no_root (y ∷ xs) zero x e = let no_one : ⊥ = cc e in absurd no_one
        no_root (y ∷ xs) (suc n) x e = no_root xs n x e
    by (Some words) e =
        ap (λ o. slice_get (words_by o) w) (set_same m p.root (changed p.first p.count change (words_of m p.root)) e)
        ∙ changed_at p change (words_of m p.root) w

written_elsewhere : (m : Memory) (p : Piece) (change : Change) (a : Address) → (p.root ≡ a.root → ⊥) → word_at (written m p change) a ≡ word_at m a
written_elsewhere m p change a apart = ap (λ o. slice_get (words_by o) a.word) (set_other m p.root a.root (changed p.first p.count change (words_of m p.root)) apart)

-- a write depends on the word that it changes alone
pub written_same : (m n : Memory) (p : Piece) (change : Change) (a : Address) → word_at m a ≡ word_at n a → word_at (written m p change) a ≡ word_at (written n p change) a
written_same m n p change a same = elim (same_number p.root a.root) [
  | inl is ↦ at m is ∙ (ap (new_at p change a.word) same ∙ sym (at n is))
  | inr apart ↦ written_elsewhere m p change a apart ∙ (same ∙ sym (written_elsewhere n p change a apart))
]
  where
    at : (x : Memory) → p.root ≡ a.root → word_at (written x p change) a ≡ new_at p change a.word (word_at x a)
    at x is = subst (λ r. word_at (written x p change) (record { root = r; word = a.word }) ≡ new_at p change a.word (word_at x (record { root = r; word = a.word }))) is (written_there x p change a.word)

-- a word outside of the piece stays
new_outside : (p : Piece) (change : Change) (w : ℕ) (o : Option ℕ) → is_among p.first p.count w ≡ false → new_at p change w o ≡ o
new_outside p change w None out = refl
new_outside p change w (Some x) out = rw out refl

there_not : (p : Piece) (w : ℕ) → covers p (record { root = p.root; word = w }) ≡ false → is_among p.first p.count w ≡ false
there_not p w e = sym (rw (eq-eqb p.root p.root refl) refl) ∙ e

pub written_other : (m : Memory) (p : Piece) (change : Change) (a : Address) → covers p a ≡ false → word_at (written m p change) a ≡ word_at m a
written_other m p change a out = elim (same_number p.root a.root) [
  | inl is ↦ subst (λ r. covers p (record { root = r; word = a.word }) ≡ false → word_at (written m p change) (record { root = r; word = a.word }) ≡ word_at m (record { root = r; word = a.word })) is
      (λ outside. written_there m p change a.word ∙ new_outside p change a.word (word_at m (record { root = p.root; word = a.word })) (there_not p a.word outside)) out
  | inr apart ↦ written_elsewhere m p change a apart
]

-- ---- waits

same_words_is : (xs ys : List ℕ) → same_words xs ys ≡ true → xs ≡ ys
same_words_is [] [] e = refl
same_words_is [] (y ∷ ys) e = false_true false refl e
same_words_is (x ∷ xs) [] e = false_true false refl e
same_words_is (x ∷ xs) (y ∷ ys) e =
    let parts : ((x == y) ≡ true) × (same_words xs ys ≡ true) = and_parts (x == y) (same_words xs ys) e in
    ap (λ z. z ∷ xs) (eqb-true x y parts.0) ∙ ap (λ zs. y ∷ zs) (same_words_is xs ys parts.1)

same_words_refl : (xs : List ℕ) → same_words xs xs ≡ true
same_words_refl [] = refl
same_words_refl (x ∷ xs) = rw (eq-eqb x x refl) (same_words_refl xs)

same_space_is : (a b : Space) → same_space a b ≡ true → a ≡ b
same_space_is space.Function space.Function e = refl
same_space_is space.Private space.Private e = refl
same_space_is space.Workgroup space.Workgroup e = refl
same_space_is space.Uniform space.Uniform e = refl
same_space_is space.Storage space.Storage e = refl
same_space_is _ _ e = false_true false refl e

same_space_refl : (a : Space) → same_space a a ≡ true
same_space_refl space.Function = refl
same_space_refl space.Private = refl
same_space_refl space.Workgroup = refl
same_space_refl space.Uniform = refl
same_space_refl space.Storage = refl

same_piece_is : (a b : Option Piece) → same_piece a b ≡ true → a ≡ b
same_piece_is None None e = refl
same_piece_is None (Some q) e = false_true false refl e
same_piece_is (Some p) None e = false_true false refl e
same_piece_is (Some p) (Some q) e =
    let x : ((p.root == q.root) ≡ true) × (((p.first == q.first) && (p.count == q.count)) ≡ true) = and_parts (p.root == q.root) ((p.first == q.first) && (p.count == q.count)) e in
    let y : ((p.first == q.first) ≡ true) × ((p.count == q.count) ≡ true) = and_parts (p.first == q.first) (p.count == q.count) x.1 in
    ap (λ r. Some (record { root = r; first = p.first; count = p.count })) (eqb-true p.root q.root x.0)
    ∙ (ap (λ f. Some (record { root = q.root; first = f; count = p.count })) (eqb-true p.first q.first y.0)
    ∙ ap (λ c. Some (record { root = q.root; first = q.first; count = c })) (eqb-true p.count q.count y.1))

same_piece_refl : (a : Option Piece) → same_piece a a ≡ true
same_piece_refl None = refl
same_piece_refl (Some p) = rw (eq-eqb p.root p.root refl, eq-eqb p.first p.first refl, eq-eqb p.count p.count refl) refl

not_not : (b : Bool) → not b ≡ false → b ≡ true
not_not true e = refl
not_not false e = false_true true e refl

-- waits that are not unlike are the same
pub same_site : (a b : Site) → unlike_sites a b ≡ false → a ≡ b
same_site a b e =
    let x : (same_words a.instance b.instance ≡ true) × ((same_piece a.piece b.piece && ((a.function == b.function) && ((a.number == b.number) && same_space a.space b.space))) ≡ true)
    = and_parts (same_words a.instance b.instance) (same_piece a.piece b.piece && ((a.function == b.function) && ((a.number == b.number) && same_space a.space b.space))) (not_not _ e) in
    let y : (same_piece a.piece b.piece ≡ true) × (((a.function == b.function) && ((a.number == b.number) && same_space a.space b.space)) ≡ true)
    = and_parts (same_piece a.piece b.piece) ((a.function == b.function) && ((a.number == b.number) && same_space a.space b.space)) x.1 in
    let z : ((a.function == b.function) ≡ true) × (((a.number == b.number) && same_space a.space b.space) ≡ true)
    = and_parts (a.function == b.function) ((a.number == b.number) && same_space a.space b.space) y.1 in
    let u : ((a.number == b.number) ≡ true) × (same_space a.space b.space ≡ true) = and_parts (a.number == b.number) (same_space a.space b.space) z.1 in
    let words : a.instance ≡ b.instance = same_words_is a.instance b.instance x.0 in
    let pieces : a.piece ≡ b.piece = same_piece_is a.piece b.piece y.0 in
    let functions : a.function ≡ b.function = eqb-true a.function b.function z.0 in
    let numbers : a.number ≡ b.number = eqb-true a.number b.number u.0 in
    let spaces : a.space ≡ b.space = same_space_is a.space b.space u.1 in
    λ i. record { space = spaces i; function = functions i; number = numbers i; instance = words i; piece = pieces i }

pub like_itself : (a : Site) → unlike_sites a a ≡ false
like_itself a =
    rw (same_words_refl a.instance, same_piece_refl a.piece, eq-eqb a.function a.function refl, eq-eqb a.number a.number refl, same_space_refl a.space) refl

-- words that may not differ are the same
pub stable : (v w : Option ℕ) → ((v ≡ w → ⊥) → ⊥) → v ≡ w
stable None None h = refl
stable None (Some y) h = absurd (h (λ e. cc e))
stable (Some x) None h = absurd (h (λ e. cc e))
stable (Some x) (Some y) h = elim (same_number x y) [ inl is ↦ ap Some is | inr apart ↦ absurd (h (λ e. apart (cc e))) ]

-- The lanes of a run and the memory that they share keep the laws.
pub lanes_laws : (s : Setting) → Laws (lanes_of s)
lanes_laws s = record {
  read_same = read_same;
  written_same = written_same;
  written_other = written_other;
  same_site = same_site;
  like_itself = like_itself;
  stable = stable;
}
