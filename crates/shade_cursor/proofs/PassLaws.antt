-- Walks over tokens that ask of each whether it passes a limit.
use Rattle.std.proofs.Common.{◌≡◌, ◌↔◌, refl, sym, ap, ◌∙◌, subst, ℕ, zero, suc, ◌+◌, ◌-◌, ◌<◌, ◌≤◌, ◌⊎◌, inl, inr, None, Some, List, [], ◌∷◌, ◌++◌, length, take, drop, arith, slice_get, slice_range}
use Rattle.std.specs.List.{slice_index_or}
use Rattle.std.specs.Option.{option_map}
use Rattle.std.proofs.lemmas.List.{length-map}
use Rattle.std.proofs.lemmas.Option.{slice_get_within, slice_get-map, slice_get-get_or}
use Rattle.shade_ast.specs.Lexemes.{Lexeme}
use Rattle.shade_cursor.specs.declared.piece.Piece.{Piece}
use Rattle.shade_cursor.specs.Shown.{lexeme, lexemes}
use Rattle.shade_cursor.specs.Passes.{kept, Passes, IsFirst}

take_more : (n : ℕ) (ts : List Lexeme) (t : Lexeme) → slice_get ts n ≡ Some t → take (n + 1) ts ≡ take n ts ++ t ∷ []
take_more zero [] t is = absurd (let bad : None ≡ Some t = is in cc)
take_more zero (u ∷ ts) t is = let e : Some u ≡ Some t = is in let same : u ≡ t = cc in ap (λ x. x ∷ []) same
take_more (suc n) [] t is = absurd (let bad : None ≡ Some t = is in cc)
take_more (suc n) (u ∷ ts) t is = let e : suc n + 1 ≡ suc (n + 1) = omega arith in ap (λ k. take k (u ∷ ts)) e ∙ ap (λ xs. u ∷ xs) (take_more n ts t is)

drop_get : (n m : ℕ) (ts : List Lexeme) → slice_get (drop n ts) m ≡ slice_get ts (n + m)
drop_get zero m ts = ap (slice_get ts) (let e : m ≡ 0 + m = omega arith in e)
drop_get (suc n) m [] = refl
drop_get (suc n) m (t ∷ ts) = drop_get n m ts ∙ ap (slice_get (t ∷ ts)) (let e : suc (n + m) ≡ suc n + m = omega arith in e)

range_more : (ts : List Lexeme) (from at : ℕ) (t : Lexeme) → from ≤ at → slice_get ts at ≡ Some t → slice_range ts from (at + 1) ≡ slice_range ts from at ++ t ∷ []
range_more ts from at t low is =
    let more : at + 1 - from ≡ at - from + 1 = omega arith in
    let whole : from + (at - from) ≡ at = omega arith in
    ap (λ n. take n (drop from ts)) more ∙ take_more (at - from) (drop from ts) t (drop_get from (at - from) ts ∙ ap (slice_get ts) whole ∙ is)

range_none : (ts : List Lexeme) (from : ℕ) → slice_range ts from from ≡ []
range_none ts from = let e : from - from ≡ 0 = omega arith in ap (λ n. take n (drop from ts)) e

-- the first tokens of a list
take_get : (n k : ℕ) (ts : List Lexeme) → k < n → slice_get (take n ts) k ≡ slice_get ts k
take_get zero k ts h = absurd (omega arith)
take_get (suc n) k [] h = refl
take_get (suc n) zero (t ∷ ts) h = refl
take_get (suc n) (suc k) (t ∷ ts) h = take_get n k ts (omega arith)

take_take : (i j : ℕ) (ts : List Lexeme) → i ≤ j → take i (take j ts) ≡ take i ts
take_take zero j ts h = refl
take_take (suc i) zero ts h = absurd (omega arith)
take_take (suc i) (suc j) [] h = refl
take_take (suc i) (suc j) (t ∷ ts) h = ap (λ m. t ∷ m) (take_take i j ts (omega arith))

take-nil : (n : ℕ) → take {A = Lexeme} n [] ≡ []
take-nil zero = refl
take-nil (suc n) = refl

drop_take : (n m : ℕ) (ts : List Lexeme) → n ≤ m → drop n (take m ts) ≡ take (m - n) (drop n ts)
drop_take zero m ts h = ap (λ k. take k ts) (let e : m ≡ m - 0 = omega arith in e)
drop_take (suc n) zero ts h = absurd (omega arith)
drop_take (suc n) (suc m) [] h = sym (take-nil (suc m - suc n))
drop_take (suc n) (suc m) (t ∷ ts) h = drop_take n m ts (omega arith) ∙ ap (λ k. take k (drop n ts)) (let e : m - n ≡ suc m - suc n = omega arith in e)

pub take_range : (ts : List Lexeme) (n from to : ℕ) → from ≤ to → to ≤ n → slice_range (take n ts) from to ≡ slice_range ts from to
take_range ts n from to low high = ap (take (to - from)) (drop_take from n ts (omega arith)) ∙ take_take (to - from) (n - from) (drop from ts) (omega arith)

below : (k n : ℕ) → k ≤ n → (k < n) ⊎ (k ≡ n)
below zero zero h = inr refl
below zero (suc n) h = inl (omega arith)
below (suc k) zero h = absurd (omega arith)
below (suc k) (suc n) h = elim (below k n (omega arith)) [
  | inl l ↦ inl (omega arith)
  | inr e ↦ inr (ap suc e)
]

module _ {S : Type 0} (behind : Lexeme → S → S) where
  kept_more : (ts : List Lexeme) (t : Lexeme) (s : S) → kept behind (ts ++ t ∷ []) s ≡ behind t (kept behind ts s)
  kept_more [] t s = refl
  kept_more (u ∷ ts) t s = kept_more ts t (behind u s)

  module _ (start : S) (Exceeds : Lexeme → S → Type 0) where
    -- what a walk knows before a token
    pub record Walked (tokens : List Lexeme) (from at : ℕ) (s : S) : Type 0 where
      pub walked : s ≡ kept behind (slice_range tokens from at) start
      pub none : (k : ℕ) → k < at → Passes behind start Exceeds tokens from k → ⊥

    pub walk_begins : (tokens : List Lexeme) (from : ℕ) → Walked tokens from from start
    walk_begins tokens from = record {
      walked = sym (ap (λ ts. kept behind ts start) (range_none tokens from));
      none = λ k less d. (let low : from ≤ k = d.low in omega arith);
    }

    module _ (tokens : List Lexeme) (from at : ℕ) (s : S) (t : Lexeme) (low : from ≤ at) (is : slice_get tokens at ≡ Some t) (w : Walked tokens from at s) where
      pub passes_here : Exceeds t s → IsFirst (Passes behind start Exceeds tokens from) at
      passes_here e = record {
        passes = record { token = t; stands = is; low = low; exceeds = subst (Exceeds t) w.walked e };
        first = w.none;
      }

      pub walks_on : (v : S) → v ≡ behind t s → (Exceeds t s → ⊥) → Walked tokens from (at + 1) v
      walks_on v same not = record {
        walked = same ∙ ap (behind t) w.walked ∙ sym (kept_more (slice_range tokens from at) t start) ∙ ap (λ ts. kept behind ts start) (sym (range_more tokens from at t low is));
        none = λ k less d. by k d (below k at (omega arith));
      }
        where
          by : (k : ℕ) → Passes behind start Exceeds tokens from k → (k < at) ⊎ (k ≡ at) → ⊥
          by k d (inl l) = w.none k l d
          by k d (inr e) =
              let stands : Some d.token ≡ Some t = sym d.stands ∙ ap (slice_get tokens) e ∙ is in
              let same : d.token ≡ t = cc in
              not (subst (λ u. Exceeds u s) same (subst (Exceeds d.token) (ap (λ n. kept behind (slice_range tokens from n) start) e ∙ sym w.walked) d.exceeds))

    -- no token passes, once all are behind
    pub none_passes : (tokens : List Lexeme) (from at : ℕ) (s : S) → length tokens ≤ at → Walked tokens from at s → (k : ℕ) → Passes behind start Exceeds tokens from k → ⊥
    none_passes tokens from at s all w k d = w.none k (let within : k < length tokens = slice_get_within tokens k d.token d.stands in omega arith) d

    -- the tokens behind say nothing of it
    pub passes_in_part : (ts : List Lexeme) (n from k : ℕ) → k < n → Passes behind start Exceeds (take n ts) from k ↔ Passes behind start Exceeds ts from k
    passes_in_part ts n from k h = (
      λ d. record { token = d.token; stands = sym (take_get n k ts h) ∙ d.stands; low = d.low; exceeds = subst (λ us. Exceeds d.token (kept behind us start)) (take_range ts n from k d.low (omega arith)) d.exceeds },
      λ d. record { token = d.token; stands = take_get n k ts h ∙ d.stands; low = d.low; exceeds = subst (λ us. Exceeds d.token (kept behind us start)) (sym (take_range ts n from k d.low (omega arith))) d.exceeds },
    )

-- a piece where it stands
pub piece_stands : (pieces : List Piece) (at : ℕ) (d : Piece) → at < length pieces → slice_get (lexemes pieces) at ≡ Some (lexeme (slice_index_or pieces at d))
piece_stands pieces at d lt = slice_get-map lexeme pieces at ∙ ap (option_map lexeme) (slice_get-get_or pieces at d lt)

pub pieces_behind : (pieces : List Piece) (at : ℕ) → length pieces ≤ at → length (lexemes pieces) ≤ at
pieces_behind pieces at le = omega (arith, length-map pieces lexeme)
