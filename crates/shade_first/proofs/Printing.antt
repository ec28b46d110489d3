-- Tokens that a text may have: what they are read from when a blank follows.
use Rattle.std.proofs.Common.{◌≡◌, refl, sym, ap, ◌∙◌, subst, ℕ, suc, ◌+◌, ◌<◌, ◌^◌, Bool, true, false, ◌&&◌, ◌||◌, cond, eqb, List, [], ◌∷◌, ◌++◌, codes, length, take, get_or, append_assoc, length-append, arith}
use Rattle.std.specs.Str.{all_ascii_digits}
use Rattle.std.specs.List.{prefix_len}
use Rattle.std.specs.Fmt.{decimal}
use Rattle.std.proofs.Math.Seq.{take-append_seam, take-length}
use Rattle.std.proofs.lemmas.Bool.{eq-eqb}
use Rattle.std.proofs.lemmas.Bool.Decides.{nat_tests}
use Rattle.std.proofs.lemmas.List.Folds.{prefix_len-append, length-prefix_len}
use Rattle.shade_first.specs.declared.token.Mark.{Mark}
use Rattle.shade_first.specs.declared.token.Mark.TheVariants.{At, Open, Close, OpenBrace, CloseBrace, Colon, Semicolon, Less}
use Rattle.shade_first.specs.declared.token.Kind.{Kind}
use Rattle.shade_first.specs.declared.token.Kind.TheVariants as kind
use Rattle.shade_first.specs.declared.lex.Front.{Front}
use Rattle.shade_first.specs.declared.lex.Front.TheVariants as front
use Rattle.shade_first.specs.Tokens.{is_letter, is_digit, goes_on, is_blank, number_size, mark_front, front_of, size_of}
use Rattle.shade_base.proofs.Numbers.{digits_all, not_empty}

abbrev pub mark_byte : Mark → ℕ
mark_byte At = 64
mark_byte Open = 40
mark_byte Close = 41
mark_byte OpenBrace = 123
mark_byte CloseBrace = 125
mark_byte Colon = 58
mark_byte Semicolon = 59
mark_byte Less = 60

abbrev pub spelling : Kind → List ℕ
spelling (kind.Word w) = w
spelling (kind.Number w) = w
spelling (kind.Mark m) = mark_byte m ∷ []

-- a token that is read from its spelling where a blank follows
pub record Printable (k : Kind) : Type 0 where
  pub front : (rest : List ℕ) → front_of (spelling k ++ 32 ∷ rest) ≡ front.Token k

pub mark_printable : (m : Mark) → Printable (kind.Mark m)
mark_printable At = record { front = λ rest. refl }
mark_printable Open = record { front = λ rest. refl }
mark_printable Close = record { front = λ rest. refl }
mark_printable OpenBrace = record { front = λ rest. refl }
mark_printable CloseBrace = record { front = λ rest. refl }
mark_printable Colon = record { front = λ rest. refl }
mark_printable Semicolon = record { front = λ rest. refl }
mark_printable Less = record { front = λ rest. refl }

pub size_spelling : (k : Kind) → length (spelling k) ≡ size_of k
size_spelling (kind.Word w) = refl
size_spelling (kind.Number w) = refl
size_spelling (kind.Mark m) = refl

-- a run that ends before a byte that does not go on
run_ends : (p : ℕ → Bool) (xs : List ℕ) (c : ℕ) (rest : List ℕ) → prefix_len p xs ≡ length xs → p c ≡ false → prefix_len p (xs ++ c ∷ rest) ≡ length xs
run_ends p xs c rest full stop =
    let none : prefix_len p (c ∷ rest) ≡ 0 = ap (λ b. cond b (1 + prefix_len p rest) 0) stop in
    prefix_len-append p xs (c ∷ rest) ∙ ap (λ b. cond b (length xs + prefix_len p (c ∷ rest)) (prefix_len p xs)) (eq-eqb _ _ full) ∙ omega (arith, none)

run_full : (p : ℕ → Bool) (xs : List ℕ) → prefix_len p (take (prefix_len p xs) xs) ≡ length (take (prefix_len p xs) xs)
run_full p [] = refl
run_full p (x ∷ xs) = cases (p x) refl (run_full p xs)
  where
    cases : (u : Bool) → u ≡ p x → prefix_len p (take (prefix_len p xs) xs) ≡ length (take (prefix_len p xs) xs) → prefix_len p (take (cond u (1 + prefix_len p xs) 0) (x ∷ xs)) ≡ length (take (cond u (1 + prefix_len p xs) 0) (x ∷ xs))
    cases false e h = refl
    cases true e h =
        let one : 1 + prefix_len p xs ≡ suc (prefix_len p xs) = omega arith in
        let here : prefix_len p (x ∷ take (prefix_len p xs) xs) ≡ length (x ∷ take (prefix_len p xs) xs) = ap (λ u. cond u (1 + prefix_len p (take (prefix_len p xs) xs)) 0) (sym e) ∙ omega arith in
        subst (λ k. prefix_len p (take k (x ∷ xs)) ≡ length (take k (x ∷ xs))) (sym one) here

mark_no_text : (b : ℕ) (k : Kind) → mark_front b ≡ front.Token k → ((m : Mark) → kind.Mark m ≡ k → ⊥) → ⊥
mark_no_text b k e never =
    pick (eqb b 64) At _ (pick (eqb b 40) Open _ (pick (eqb b 41) Close _ (pick (eqb b 123) OpenBrace _ (pick (eqb b 125) CloseBrace _ (pick (eqb b 58) Colon _ (pick (eqb b 59) Semicolon _ (pick (eqb b 60) Less front.Nothing (λ e. let bad : front.Nothing ≡ front.Token k = e in cc)))))))) e
  where
    pick : (u : Bool) (m : Mark) (rest : Front) → (rest ≡ front.Token k → ⊥) → cond u (front.Token (kind.Mark m)) rest ≡ front.Token k → ⊥
    pick true m rest f e = never m (cc)
    pick false m rest f e = f e

-- words
pub record Letters (b : ℕ) (bs w : List ℕ) : Type 0 where
  pub plain : is_blank b ≡ false
  pub letter : is_letter b ≡ true
  pub run : take (prefix_len goes_on (b ∷ bs)) (b ∷ bs) ≡ w

letters : (b : ℕ) (bs w : List ℕ) → front_of (b ∷ bs) ≡ front.Token (kind.Word w) → Letters b bs w
letters b bs w e = cases (is_blank b) (is_letter b) (is_digit b) refl refl e
  where
    cases : (u v x : Bool) → u ≡ is_blank b → v ≡ is_letter b → cond u front.Blank (cond v (front.Token (kind.Word (take (prefix_len goes_on (b ∷ bs)) (b ∷ bs)))) (cond x (front.Token (kind.Number (take (number_size (b ∷ bs)) (b ∷ bs)))) (mark_front b))) ≡ front.Token (kind.Word w) → Letters b bs w
    cases true v x blank letter is = let bad : front.Blank ≡ front.Token (kind.Word w) = is in absurd (cc)
    cases false true x blank letter is = record { plain = sym blank; letter = sym letter; run = (cc) }
    cases false false true blank letter is = let bad : front.Token (kind.Number (take (number_size (b ∷ bs)) (b ∷ bs))) ≡ front.Token (kind.Word w) = is in absurd (cc)
    cases false false false blank letter is = absurd (mark_no_text b (kind.Word w) is (λ m same. let bad : kind.Mark m ≡ kind.Word w = same in cc))

word_front : (b : ℕ) (bs : List ℕ) → is_blank b ≡ false → is_letter b ≡ true → (xs : List ℕ) → prefix_len goes_on (b ∷ xs) ≡ length (b ∷ bs) → take (length (b ∷ bs)) (b ∷ xs) ≡ b ∷ bs → front_of (b ∷ xs) ≡ front.Token (kind.Word (b ∷ bs))
word_front b bs plain letter xs run taken =
    ap (λ u. cond u front.Blank (cond (is_letter b) (front.Token (kind.Word (take (prefix_len goes_on (b ∷ xs)) (b ∷ xs)))) (cond (is_digit b) (front.Token (kind.Number (take (number_size (b ∷ xs)) (b ∷ xs)))) (mark_front b)))) plain
    ∙ ap (λ v. cond v (front.Token (kind.Word (take (prefix_len goes_on (b ∷ xs)) (b ∷ xs)))) (cond (is_digit b) (front.Token (kind.Number (take (number_size (b ∷ xs)) (b ∷ xs)))) (mark_front b))) letter
    ∙ ap (λ n. front.Token (kind.Word (take n (b ∷ xs)))) run
    ∙ ap (λ w. front.Token (kind.Word w)) taken

-- a word at the front of a text is one by itself
pub word_again : (text w : List ℕ) → front_of text ≡ front.Token (kind.Word w) → front_of w ≡ front.Token (kind.Word w)
word_again [] w e = let bad : front.Nothing ≡ front.Token (kind.Word w) = e in absurd (cc)
word_again (b ∷ bs) w e =
    let l : Letters b bs w = letters b bs w e in
    let v : List ℕ = b ∷ take (prefix_len goes_on bs) bs in
    let first : prefix_len goes_on (b ∷ bs) ≡ suc (prefix_len goes_on bs) = ap (λ u. cond (u || is_digit b || eqb b 95) (1 + prefix_len goes_on bs) 0) l.letter ∙ omega arith in
    let same : take (prefix_len goes_on (b ∷ bs)) (b ∷ bs) ≡ v = ap (λ k. take k (b ∷ bs)) first in
    let run : prefix_len goes_on v ≡ length v = subst (λ x. prefix_len goes_on x ≡ length x) same (run_full goes_on (b ∷ bs)) in
    subst (λ x. front_of x ≡ front.Token (kind.Word x)) (sym same ∙ l.run) (word_front b (take (prefix_len goes_on bs) bs) l.plain l.letter (take (prefix_len goes_on bs) bs) run (take-length v))

pub word_printable : (w : List ℕ) → front_of w ≡ front.Token (kind.Word w) → Printable (kind.Word w)
word_printable [] e = let bad : front.Nothing ≡ front.Token (kind.Word []) = e in absurd (cc)
word_printable (b ∷ bs) e =
    let l : Letters b bs (b ∷ bs) = letters b bs (b ∷ bs) e in
    let full : prefix_len goes_on (b ∷ bs) ≡ length (b ∷ bs) = sym (length-prefix_len goes_on (b ∷ bs)) ∙ ap length l.run in
    record { front = λ rest. word_front b bs l.plain l.letter (bs ++ 32 ∷ rest) (run_ends goes_on (b ∷ bs) 32 rest full refl) (take-append_seam (b ∷ bs) (32 ∷ rest)) }

-- numbers
digit_is : (d : ℕ) → is_digit d ≡ true → (is_blank d ≡ false) × (is_letter d ≡ false)
digit_is d e = (grind (arith, nat_tests), grind (arith, nat_tests))

digits_full : (ds : List ℕ) → all_ascii_digits ds ≡ true → prefix_len is_digit ds ≡ length ds
digits_full [] e = refl
digits_full (d ∷ ds) e = cases (is_digit d) refl e (λ all. digits_full ds all)
  where
    cases : (u : Bool) → u ≡ is_digit d → (u && all_ascii_digits ds) ≡ true → (all_ascii_digits ds ≡ true → prefix_len is_digit ds ≡ length ds) → cond u (1 + prefix_len is_digit ds) 0 ≡ length (d ∷ ds)
    cases true is all more = let h : prefix_len is_digit ds ≡ length ds = more all in omega arith
    cases false is all more = let bad : false ≡ true = all in absurd (cc)

first_digit : (d : ℕ) (ds : List ℕ) → all_ascii_digits (d ∷ ds) ≡ true → is_digit d ≡ true
first_digit d ds e = cases (is_digit d) refl e
  where
    cases : (u : Bool) → u ≡ is_digit d → (u && all_ascii_digits ds) ≡ true → is_digit d ≡ true
    cases true is all = sym is
    cases false is all = let bad : false ≡ true = all in absurd (cc)

number_front : (d : ℕ) (xs w : List ℕ) → is_digit d ≡ true → take (number_size (d ∷ xs)) (d ∷ xs) ≡ w → front_of (d ∷ xs) ≡ front.Token (kind.Number w)
number_front d xs w digit taken =
    let no = digit_is d digit in
    ap (λ u. cond u front.Blank (cond (is_letter d) (front.Token (kind.Word (take (prefix_len goes_on (d ∷ xs)) (d ∷ xs)))) (cond (is_digit d) (front.Token (kind.Number (take (number_size (d ∷ xs)) (d ∷ xs)))) (mark_front d)))) no.0
    ∙ ap (λ v. cond v (front.Token (kind.Word (take (prefix_len goes_on (d ∷ xs)) (d ∷ xs)))) (cond (is_digit d) (front.Token (kind.Number (take (number_size (d ∷ xs)) (d ∷ xs)))) (mark_front d))) no.1
    ∙ ap (λ v. cond v (front.Token (kind.Number (take (number_size (d ∷ xs)) (d ∷ xs)))) (mark_front d)) digit
    ∙ ap (λ w. front.Token (kind.Number w)) taken

behind : (xs : List ℕ) (c : ℕ) (rest : List ℕ) → get_or (xs ++ c ∷ rest) (length xs) 0 ≡ c
behind [] c rest = refl
behind (x ∷ xs) c rest = behind xs c rest

module _ (ds : List ℕ) (all : all_ascii_digits ds ≡ true) (rest : List ℕ) where
  size_plain : number_size (ds ++ 32 ∷ rest) ≡ length ds
  size_plain =
      let n = run_ends is_digit ds 32 rest (digits_full ds all) refl in
      ap (λ k. cond (eqb (get_or (ds ++ 32 ∷ rest) k 0) 117) (k + 1) k) n ∙ ap (λ c. cond (eqb c 117) (length ds + 1) (length ds)) (behind ds 32 rest)

  size_suffixed : number_size (ds ++ 117 ∷ (32 ∷ rest)) ≡ length ds + 1
  size_suffixed =
      let n = run_ends is_digit ds 117 (32 ∷ rest) (digits_full ds all) refl in
      ap (λ k. cond (eqb (get_or (ds ++ 117 ∷ (32 ∷ rest)) k 0) 117) (k + 1) k) n ∙ ap (λ c. cond (eqb c 117) (length ds + 1) (length ds)) (behind ds 117 (32 ∷ rest))

plain_printable : (ds : List ℕ) → all_ascii_digits ds ≡ true → 0 < length ds → Printable (kind.Number ds)
plain_printable [] all some = absurd (omega arith)
plain_printable (d ∷ ds) all some = record { front = λ rest. number_front d (ds ++ 32 ∷ rest) (d ∷ ds) (first_digit d ds all) (ap (λ n. take n ((d ∷ ds) ++ 32 ∷ rest)) (size_plain (d ∷ ds) all rest) ∙ take-append_seam (d ∷ ds) (32 ∷ rest)) }

suffixed_printable : (ds : List ℕ) → all_ascii_digits ds ≡ true → 0 < length ds → Printable (kind.Number (ds ++ codes "u"))
suffixed_printable [] all some = absurd (omega arith)
suffixed_printable (d ∷ ds) all some = record {
  front =
      λ rest.
      let whole : (d ∷ ds ++ codes "u") ++ 32 ∷ rest ≡ (d ∷ ds) ++ 117 ∷ (32 ∷ rest) = append_assoc (d ∷ ds) (117 ∷ []) (32 ∷ rest) in
      let long : length (d ∷ ds) + 1 ≡ length ((d ∷ ds) ++ 117 ∷ []) = omega (arith, length-append (d ∷ ds) (117 ∷ [])) in
      subst (λ x. front_of x ≡ front.Token (kind.Number ((d ∷ ds) ++ codes "u"))) (sym whole)
      (number_front d (ds ++ 117 ∷ (32 ∷ rest)) ((d ∷ ds) ++ codes "u") (first_digit d ds all)
      (ap (λ n. take n ((d ∷ ds) ++ 117 ∷ (32 ∷ rest))) (size_suffixed (d ∷ ds) all rest ∙ long)
      ∙ ap (λ x. take (length ((d ∷ ds) ++ 117 ∷ [])) x) (sym whole)
      ∙ take-append_seam ((d ∷ ds) ++ 117 ∷ []) (32 ∷ rest)));
}

pub decimal_printable : (n : ℕ) → n < 2 ^ 32 → Printable (kind.Number (decimal n))
decimal_printable n small = plain_printable (decimal n) (digits_all n (decimal n) small refl) (not_empty n (decimal n) small refl)

pub unsigned_printable : (n : ℕ) → n < 2 ^ 32 → Printable (kind.Number (decimal n ++ codes "u"))
unsigned_printable n small = suffixed_printable (decimal n) (digits_all n (decimal n) small refl) (not_empty n (decimal n) small refl)
