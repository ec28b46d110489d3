-- The names that are made of a text are its words, each once, in the order in which they first appear; and a text has no other names.
use Rattle.std.proofs.Common.{◌≡◌, refl, sym, ap, ap₂, ◌∙◌, subst, ℕ, zero, suc, ◌+◌, ◌<◌, ◌⊎◌, inl, inr, Bool, true, false, ◌||◌, cond, List, [], ◌∷◌, ◌++◌, length, arith, None, Some, slice_get}
use Rattle.std.specs.List.{fold, list_any}
use Rattle.std.specs.Str.{bytes_eq}
use Rattle.std.proofs.lemmas.List.{append-nil, append_assoc}
use Rattle.std.proofs.lemmas.Option.{slice_get_within}
use Rattle.std.proofs.lemmas.Slice.Eq.{bytes_eq-Decides}
use Rattle.shade_base.specs.declared.place.Place.{Place}
use Rattle.shade_ast.specs.Lexemes.{Lexeme, Word, Key, Number, Mark, Stray}
use Rattle.shade_ast.specs.Names.{number_in, with_name}
use Rattle.shade_ast.proofs.NameLaws.{stored_at}
use Rattle.shade_parse.specs.Words.{IsWordAt, AreWords}
use Rattle.shade_parse.specs.Tables.{with_word, names_of}

-- a list with one more
module _ {A : Type 0} where
  pub get_more : (xs ys : List A) (i : ℕ) (x : A) → slice_get xs i ≡ Some x → slice_get (xs ++ ys) i ≡ Some x
  get_more [] ys i x e = absurd (let bad : None ≡ Some x = e in cc)
  get_more (y ∷ xs) ys zero x e = e
  get_more (y ∷ xs) ys (suc i) x e = get_more xs ys i x e

  -- where what stands in it may be
  record Among (xs : List A) (last : A) (i : ℕ) (x : A) : Type 0 where
    cases : (slice_get xs i ≡ Some x) ⊎ ((i ≡ length xs) × (last ≡ x))

  among : (xs : List A) (last : A) (i : ℕ) (x : A) → slice_get (xs ++ last ∷ []) i ≡ Some x → Among xs last i x
  among [] last zero x is = record { cases = inr (refl, (let same : Some last ≡ Some x = is in let back : last ≡ x = cc in back)) }
  among [] last (suc i) x is = absurd (let bad : None ≡ Some x = is in cc)
  among (y ∷ xs) last zero x is = record { cases = inl is }
  among (y ∷ xs) last (suc i) x is = elim (among xs last i x is).cases [ inl e ↦ record { cases = inl e } | inr e ↦ record { cases = inr (ap suc e.0, e.1) } ]

  -- its last
  record Ends (xs : List A) (last : A) : Type 0 where
    is : (i : ℕ) × (i ≡ length xs) × (slice_get (xs ++ last ∷ []) i ≡ Some last)

  ends : (xs : List A) (last : A) → Ends xs last
  ends [] last = record { is = (0, refl, refl) }
  ends (y ∷ xs) last = let e = (ends xs last).is in record { is = (suc e.0, ap suc e.1, e.2) }

any_of : (names : List (List ℕ)) (text : List ℕ) (n : ℕ) → slice_get names n ≡ Some text → list_any (bytes_eq text) names ≡ true
any_of [] text n is = absurd (let bad : None ≡ Some text = is in cc)
any_of (x ∷ xs) text zero is = ap (λ b. b || list_any (bytes_eq text) xs) ((bytes_eq-Decides text x).1 (let same : Some x ≡ Some text = is in let back : x ≡ text = cc in sym back))
any_of (x ∷ xs) text (suc n) is = ap (λ b. bytes_eq text x || b) (any_of xs text n is) ∙ or_true (bytes_eq text x)
  where
    or_true : (b : Bool) → (b || true) ≡ true
    or_true true = refl
    or_true false = refl

same_text : (text other : List ℕ) (place at : Place) → Word text place ≡ Word other at → text ≡ other
same_text text other place at e = cc

-- ---- one token more

module _ (done : List Lexeme) (names : List (List ℕ)) (h : AreWords done names) where
  more : (t : Lexeme) (at : ℕ) (text : List ℕ) → IsWordAt done at text → IsWordAt (done ++ t ∷ []) at text
  more t at text w = (w.0, get_more done (t ∷ []) at (Word text w.0) w.1)

  -- a token that is no word
  no_word : (t : Lexeme) → ((text : List ℕ) (place : Place) → t ≡ Word text place → ⊥) → AreWords (done ++ t ∷ []) names
  no_word t never = record {
    all = λ at text w. h.all at text (back at text w);
    only = λ n text e. let k = h.only n text e in (k.0, more t k.0 text k.1);
    ordered = λ m n x y lt e f at w. let k = h.ordered m n x y lt e f at (back at y w) in (k.0, k.1, more t k.0 x k.2);
  }
    where
      back : (at : ℕ) (text : List ℕ) → IsWordAt (done ++ t ∷ []) at text → IsWordAt done at text
      back at text w = elim (among done t at (Word text w.0) w.1).cases [ inl e ↦ (w.0, e) | inr e ↦ absurd (never text w.0 e.1) ]

  module _ (text : List ℕ) (place : Place) where
    abbrev all_tokens : List Lexeme
    all_tokens = done ++ Word text place ∷ []

    -- the words before a word of some name, by the names before
    earlier : (m n : ℕ) (x y : List ℕ) → m < n → slice_get names m ≡ Some x → slice_get names n ≡ Some y → (at : ℕ) → IsWordAt all_tokens at y → (before : ℕ) × (before < at) × IsWordAt all_tokens before x
    earlier m n x y lt e f at w =
        elim (among done (Word text place) at (Word y w.0) w.1).cases [
          | inl g ↦ let k = h.ordered m n x y lt e f at (w.0, g) in (k.0, k.1, more (Word text place) k.0 x k.2)
          | inr g ↦
              let first = h.only n y f in
              let k = h.ordered m n x y lt e f first.0 first.1 in
              let low : first.0 < length done = slice_get_within done first.0 (Word y first.1.0) first.1.1 in
              let below : k.0 < first.0 = k.1 in
              let end : at ≡ length done = g.0 in
              (k.0, omega arith, more (Word text place) k.0 x k.2)
        ]

    known_word : (n : ℕ) → slice_get names n ≡ Some text → AreWords all_tokens names
    known_word number is = record {
      all = λ at x w. elim (among done (Word text place) at (Word x w.0) w.1).cases [
        | inl e ↦ h.all at x (w.0, e)
        | inr e ↦ (number, is ∙ ap Some (same_text text x place w.0 e.1))
      ];
      only = λ n x e. let k = h.only n x e in (k.0, more (Word text place) k.0 x k.1);
      ordered = earlier;
    }

    new_word : list_any (bytes_eq text) names ≡ false → AreWords all_tokens (names ++ text ∷ [])
    new_word none = record {
      all = λ at x w. elim (among done (Word text place) at (Word x w.0) w.1).cases [
        | inl e ↦ let k = h.all at x (w.0, e) in (k.0, get_more names (text ∷ []) k.0 x k.1)
        | inr e ↦ let k = (ends names text).is in (k.0, k.2 ∙ ap Some (same_text text x place w.0 e.1))
      ];
      only = λ n x e. elim (among names text n x e).cases [
        | inl f ↦ let k = h.only n x f in (k.0, more (Word text place) k.0 x k.1)
        | inr f ↦ let k = (ends done (Word text place)).is in (k.0, (place, k.2 ∙ ap (λ u. Some (Word u place)) f.1))
      ];
      ordered = λ m n x y lt e f at w. elim (among names text n y f).cases [
        | inl g ↦
            let low : n < length names = slice_get_within names n y g in
            elim (among names text m x e).cases [
              | inl i ↦ earlier m n x y lt i g at w
              | inr i ↦ let end : m ≡ length names = i.0 in absurd (omega arith)
            ]
        | inr g ↦
            let end : n ≡ length names = g.0 in
            elim (among names text m x e).cases [
              | inl i ↦ elim (among done (Word text place) at (Word y w.0) w.1).cases [
                | inl j ↦ let k = h.all at y (w.0, j) in let bad : true ≡ false = sym (any_of names text k.0 (k.1 ∙ ap Some (sym g.1))) ∙ none in absurd cc
                | inr j ↦
                    let k = h.only m x i in
                    let low : k.0 < length done = slice_get_within done k.0 (Word x k.1.0) k.1.1 in
                    let last : at ≡ length done = j.0 in
                    (k.0, omega arith, more (Word text place) k.0 x k.1)
              ]
              | inr i ↦ let other : m ≡ length names = i.0 in absurd (omega arith)
            ]
      ];
    }

    a_word : AreWords all_tokens (with_name names text)
    a_word = by_case (list_any (bytes_eq text) names) refl
      where
        by_case : (b : Bool) → list_any (bytes_eq text) names ≡ b → AreWords all_tokens (cond b names (names ++ text ∷ []))
        by_case true is = known_word (number_in names text) (stored_at names names text (number_in names text) refl (sym (ap (λ b. cond b names (names ++ text ∷ [])) is)))
        by_case false is = new_word is

  one_more : (t : Lexeme) → AreWords (done ++ t ∷ []) (with_word names t)
  one_more (Word text place) = a_word text place
  one_more (Key keyword place) = no_word (Key keyword place) (λ text p e. cc)
  one_more (Number value suffix place) = no_word (Number value suffix place) (λ text p e. cc)
  one_more (Mark found place) = no_word (Mark found place) (λ text p e. cc)
  one_more (Stray place) = no_word (Stray place) (λ text p e. cc)

words_more : (done ts : List Lexeme) (names : List (List ℕ)) → AreWords done names → AreWords (done ++ ts) (fold with_word names ts)
words_more done [] names h = subst (λ l. AreWords l names) (sym (append-nil done)) h
words_more done (t ∷ ts) names h = subst (λ l. AreWords l (fold with_word (with_word names t) ts)) (append_assoc done (t ∷ []) ts) (words_more (done ++ t ∷ []) ts (with_word names t) (one_more done names h t))

no_words : AreWords [] []
no_words = record {
  all = λ at text w. absurd (let bad : None ≡ Some (Word text w.0) = w.1 in cc);
  only = λ n text e. absurd (let bad : None ≡ Some text = e in cc);
  ordered = λ m n x y lt e f at w. absurd (let bad : None ≡ Some x = e in cc);
}

pub are_words : (tokens : List Lexeme) → AreWords tokens (names_of tokens)
are_words tokens = words_more [] tokens [] no_words

-- ---- no other list has the words so

module _ (tokens : List Lexeme) where
  -- a word stands before each place of another
  abbrev Before : List ℕ → List ℕ → Type 0
  Before x y = (at : ℕ) → IsWordAt tokens at y → (before : ℕ) × (before < at) × IsWordAt tokens before x

  abbrev In : List (List ℕ) → List ℕ → Type 0
  In names text = (n : ℕ) × (slice_get names n ≡ Some text)

  abbrev InTurn : List (List ℕ) → Type 0
  InTurn [] = Unit {0}
  InTurn (x ∷ xs) = ((y : List ℕ) → In xs y → Before x y) × InTurn xs

  in_turn : (names : List (List ℕ)) → ((m n : ℕ) (x y : List ℕ) → m < n → slice_get names m ≡ Some x → slice_get names n ≡ Some y → Before x y) → InTurn names
  in_turn [] o = tt
  in_turn (x ∷ xs) o = ((λ y i. o 0 (suc i.0) x y (omega arith) refl i.1), in_turn xs (λ m n u v lt e f. o (suc m) (suc n) u v (omega arith) e f))

  -- no word stands before its own first place
  never : (x : List ℕ) (fuel at : ℕ) → at < fuel → Before x x → IsWordAt tokens at x → ⊥
  never x zero at lt b w = absurd (omega arith)
  never x (suc fuel) at lt b w = let k = b at w in let low : k.0 < at = k.1 in never x fuel k.0 (omega arith) b k.2

  both_ways : (x y : List ℕ) (at : ℕ) → IsWordAt tokens at x → Before x y → Before y x → ⊥
  both_ways x y at w a b = never x (suc at) at (omega arith) (λ k v. let i = b k v in let j = a i.0 i.2 in let p : i.0 < k = i.1 in let q : j.0 < i.0 = j.1 in (j.0, omega arith, j.2)) w

  one_list : (xs ys : List (List ℕ)) → InTurn xs → InTurn ys → ((z : List ℕ) → In xs z → (at : ℕ) × IsWordAt tokens at z) → ((z : List ℕ) → In xs z → In ys z) → ((z : List ℕ) → In ys z → In xs z) → xs ≡ ys
  one_list [] [] a b w f g = refl
  one_list [] (y ∷ ys) a b w f g = absurd (let bad : None ≡ Some y = (g y (0, refl)).1 in cc)
  one_list (x ∷ xs) [] a b w f g = absurd (let bad : None ≡ Some x = (f x (0, refl)).1 in cc)
  one_list (x ∷ xs) (y ∷ ys) a b w f g = ap₂ (λ z zs. z ∷ zs) heads (one_list xs ys a.1 b.1 (λ z i. w z (suc i.0, i.1)) front back)
    where
      known : (at : ℕ) × IsWordAt tokens at x
      known = w x (0, refl)

      same : (i : In (y ∷ ys) x) (j : In (x ∷ xs) y) → x ≡ y
      same (zero, e) j = let is : Some y ≡ Some x = e in let back : y ≡ x = cc in sym back
      same (suc i, e) (zero, d) = let is : Some x ≡ Some y = d in let there : x ≡ y = cc in there
      same (suc i, e) (suc j, d) = absurd (both_ways x y known.0 known.1 (a.0 y (j, d)) (b.0 x (i, e)))

      heads : x ≡ y
      heads = same (f x (0, refl)) (g y (0, refl))

      front : (z : List ℕ) → In xs z → In ys z
      front z i = by (f z (suc i.0, i.1))
        where
          by : In (y ∷ ys) z → In ys z
          by (zero, e) = let is : Some y ≡ Some z = e in let two : y ≡ z = cc in absurd (never x (suc known.0) known.0 (omega arith) (subst (Before x) (sym (heads ∙ two)) (a.0 z i)) known.1)
          by (suc n, e) = (n, e)

      back : (z : List ℕ) → In ys z → In xs z
      back z i = by (g z (suc i.0, i.1))
        where
          by : In (x ∷ xs) z → In xs z
          by (zero, e) = let is : Some x ≡ Some z = e in let two : x ≡ z = cc in absurd (never x (suc known.0) known.0 (omega arith) (subst (λ u. Before u x) (sym heads) (subst (Before y) (sym two) (b.0 z i))) known.1)
          by (suc n, e) = (n, e)

  pub words_once : (names others : List (List ℕ)) → AreWords tokens names → AreWords tokens others → names ≡ others
  words_once names others h k = one_list names others (in_turn names h.ordered) (in_turn others k.ordered) (λ z i. h.only i.0 z i.1)
      (λ z i. let w = h.only i.0 z i.1 in k.all w.0 z w.1) (λ z i. let w = k.only i.0 z i.1 in h.all w.0 z w.1)
