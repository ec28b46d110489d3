-- A text is read in one way: at a place begins at most one piece, or one problem stands there.
use Rattle.std.proofs.Common.{◌≡◌, ℕ, zero, suc, ◌-◌, ◌<◌, List, [], ◌∷◌, length, take, drop, Bool, true, false, Some, refl, ap, sym, ◌∙◌, arith, subst, inl, inr, cond}
use Rattle.std.specs.Prelude.{◌&&◌, ◌||◌, ◌==◌, chars}
use Rattle.std.proofs.lemmas.Bool.Decides.{leb_tells, eqb_tells, nat_tests}
use Rattle.shade_base.specs.Lines.{place_of}
use Rattle.shade_lex.specs.declared.piece.Piece.{Piece}
use Rattle.shade_lex.specs.declared.piece.Piece.TheVariants as piece
use Rattle.shade_lex.specs.declared.piece.Problem.{Problem}
use Rattle.shade_lex.specs.declared.piece.Problem.TheVariants.{BadCharacter, OpenComment, BadNumber, NumberTooLarge, FloatLiteral}
use Rattle.shade_lex.specs.Characters.{starts, starts_with_two, is_blankspace}
use Rattle.shade_lex.specs.Lexemes.{is_lexeme, problem_of, kind_of}
use Rattle.shade_lex.specs.Comments.{closes, IsLineComment, IsBlockComment}
use Rattle.shade_lex.specs.Pieces.{IsLongestLexeme, IsBlank, IsWrong, IsPiece, IsProblem, is_for_blank, piece_count}
use Rattle.shade_lex.specs.Tokens.{SpellsTo, width, tokens_from, IsReadOnce}
use Rattle.shade_lex.proofs.Longest.{longest-once}

-- a `/` is no blankspace
slash_is_no_blank : (b : ℕ) (text : List ℕ) → starts_with_two 47 b text ≡ true → starts is_blankspace text ≡ true → ⊥
slash_is_no_blank b [] e h = cc
slash_is_no_blank b (c ∷ cs) e h = not_both (c == 47) refl e
  where
    not_both : (s : Bool) → (c == 47) ≡ s → (s && starts (λ d. d == b) cs) ≡ true → ⊥
    not_both true is t = let no_blank : is_blankspace c ≡ false = grind (arith, nat_tests) in cc
    not_both false is t = cc

-- a `/` has one character after it
two_differ : (text : List ℕ) → starts_with_two 47 47 text ≡ true → starts_with_two 47 42 text ≡ true → ⊥
two_differ [] e h = cc
two_differ (c ∷ []) e h = by (c == 47) e
  where
    by : (s : Bool) → (s && false) ≡ true → ⊥
    by true t = cc
    by false t = cc
two_differ (c ∷ d ∷ cs) e h = by (c == 47) e h
  where
    by : (s : Bool) → (s && (d == 47)) ≡ true → (s && (d == 42)) ≡ true → ⊥
    by true t u = let no_both : (d == 42) ≡ false = grind (arith, nat_tests) in cc
    by false t u = cc

line-once : (text : List ℕ) (n m : ℕ) → IsLineComment text n → IsLineComment text m → n ≡ m
line-once text n m a b = elim (eqb_tells n m) [
  | inl s ↦ s.1
  | inr o ↦ elim (leb_tells n m) [
    | inl t ↦ (let less : n < m = omega (arith, t.1, o.1) in let inside : n < length text = omega (arith, less, b.within) in cc (a.ends inside, b.one_line n a.two less))
    | inr f ↦ (let inside : m < length text = omega (arith, f.1, a.within) in cc (b.ends inside, a.one_line m b.two f.1))
  ]
]

closes-once : (depth : ℕ) (text : List ℕ) (n m : ℕ) → closes depth text n ≡ true → closes depth text m ≡ true → n ≡ m
closes-once zero text zero zero a b = refl
closes-once zero text zero (suc m) a b = cc
closes-once zero text (suc n) m a b = cc
closes-once (suc depth) text zero m a b = cc
closes-once (suc depth) text (suc zero) m a b = cc
closes-once (suc depth) text (suc (suc n)) zero a b = cc
closes-once (suc depth) text (suc (suc n)) (suc zero) a b = cc
closes-once (suc depth) text (suc (suc n)) (suc (suc m)) a b = by (starts_with_two 42 47 text) (starts_with_two 47 42 text) a b
    (closes-once depth (drop 2 text) n m) (closes-once (suc (suc depth)) (drop 2 text) n m) (closes-once (suc depth) (drop 1 text) (suc n) (suc m))
  where
    by : (s t : Bool) → cond s (closes depth (drop 2 text) n) (cond t (closes (suc (suc depth)) (drop 2 text) n) (closes (suc depth) (drop 1 text) (suc n))) ≡ true
        → cond s (closes depth (drop 2 text) m) (cond t (closes (suc (suc depth)) (drop 2 text) m) (closes (suc depth) (drop 1 text) (suc m))) ≡ true
        → (closes depth (drop 2 text) n ≡ true → closes depth (drop 2 text) m ≡ true → n ≡ m)
        → (closes (suc (suc depth)) (drop 2 text) n ≡ true → closes (suc (suc depth)) (drop 2 text) m ≡ true → n ≡ m)
        → (closes (suc depth) (drop 1 text) (suc n) ≡ true → closes (suc depth) (drop 1 text) (suc m) ≡ true → suc n ≡ suc m)
        → suc (suc n) ≡ suc (suc m)
    by true t p q f g h = ap (λ (k : ℕ). suc (suc k)) (f p q)
    by false true p q f g h = ap (λ (k : ℕ). suc (suc k)) (g p q)
    by false false p q f g h = ap suc (h p q)

block-once : (text : List ℕ) (n m : ℕ) → IsBlockComment text n → IsBlockComment text m → n ≡ m
block-once text n m a b = let same : n - 2 ≡ m - 2 = closes-once 1 (drop 2 text) (n - 2) (m - 2) a.closed b.closed in omega (arith, same, a.two, b.two)

-- a place where a blank begins is for blanks
blank-is : (text : List ℕ) (n : ℕ) → IsBlank text n → is_for_blank text ≡ true
blank-is text n (inl b) = rw b.0 refl
blank-is text n (inr (inl l)) = rw l.begins (or_true (starts is_blankspace text))
  where
    or_true : (a : Bool) → (a || true) ≡ true
    or_true true = refl
    or_true false = refl
blank-is text n (inr (inr l)) = open-is text l.begins
  where
    open-is : (text : List ℕ) → starts_with_two 47 42 text ≡ true → is_for_blank text ≡ true
    open-is text e = rw e (both (starts is_blankspace text) (starts_with_two 47 47 text))
      where
        both : (a b : Bool) → (a || (b || true)) ≡ true
        both true b = refl
        both false true = refl
        both false false = refl

blank-once : (text : List ℕ) (n m : ℕ) → IsBlank text n → IsBlank text m → n ≡ m
blank-once text n m (inl a) (inl b) = a.1 ∙ sym b.1
blank-once text n m (inl a) (inr (inl b)) = absurd (slash_is_no_blank 47 text b.begins a.0)
blank-once text n m (inl a) (inr (inr b)) = absurd (slash_is_no_blank 42 text b.begins a.0)
blank-once text n m (inr (inl a)) (inl b) = absurd (slash_is_no_blank 47 text a.begins b.0)
blank-once text n m (inr (inl a)) (inr (inl b)) = line-once text n m a b
blank-once text n m (inr (inl a)) (inr (inr b)) = absurd (two_differ text a.begins b.begins)
blank-once text n m (inr (inr a)) (inl b) = absurd (slash_is_no_blank 42 text a.begins b.0)
blank-once text n m (inr (inr a)) (inr (inl b)) = absurd (two_differ text b.begins a.begins)
blank-once text n m (inr (inr a)) (inr (inr b)) = block-once text n m a b

no_token : (text : List ℕ) (n m : ℕ) → IsBlank text n → IsLongestLexeme text m → ⊥
no_token text n m b l = cc (blank-is text n b, l.not_for_blank)

lexeme-once : (text : List ℕ) (n m : ℕ) → IsLongestLexeme text n → IsLongestLexeme text m → n ≡ m
lexeme-once text n m a b = longest-once is_lexeme text n m a.longest b.longest

piece-once : (text : List ℕ) (p q : Piece) → IsPiece text p → IsPiece text q → p ≡ q
piece-once text (piece.Blank n) (piece.Blank m) a b = ap (λ (k : ℕ). piece.Blank k) (blank-once text n m a b)
piece-once text (piece.Blank n) (piece.Token k m) a b = absurd (no_token text n m a b.lexeme)
piece-once text (piece.Token k n) (piece.Blank m) a b = absurd (no_token text m n b a.lexeme)
piece-once text (piece.Token k n) (piece.Token l m) a b =
    let same : n ≡ m = lexeme-once text n m a.lexeme b.lexeme in
    let kinds : k ≡ l = a.kind_is ∙ ap (λ (i : ℕ). kind_of (take i text)) same ∙ sym b.kind_is in
    λ i. piece.Token (kinds i) (same i)

-- something wrong is no piece
wrong_is_none : (text : List ℕ) (p : Problem) (q : Piece) → IsWrong text p → IsPiece text q → ⊥
wrong_is_none text p (piece.Blank n) w b = no_token text n w.count b w.lexeme
wrong_is_none text p (piece.Token k n) w t =
    let same : w.count ≡ n = lexeme-once text w.count n w.lexeme t.lexeme in
    let other : problem_of (take n text) (drop n text) ≡ Some p = subst (λ (i : ℕ). problem_of (take i text) (drop i text) ≡ Some p) same w.wrong in
    cc (other, t.sound)

open_is_for_blank : (text : List ℕ) → starts_with_two 47 42 text ≡ true → is_for_blank text ≡ true
open_is_for_blank text e = rw e (both (starts is_blankspace text) (starts_with_two 47 47 text))
  where
    both : (a b : Bool) → (a || (b || true)) ≡ true
    both true b = refl
    both false true = refl
    both false false = refl

open_is_none : (text : List ℕ) (q : Piece) → IsProblem text OpenComment → IsPiece text q → ⊥
open_is_none text (piece.Blank n) o (inl b) = slash_is_no_blank 42 text o.0 b.0
open_is_none text (piece.Blank n) o (inr (inl l)) = two_differ text l.begins o.0
open_is_none text (piece.Blank n) o (inr (inr l)) = o.1 n l
open_is_none text (piece.Token k n) o t = cc (open_is_for_blank text o.0, t.lexeme.not_for_blank)

problem_is_none : (text : List ℕ) (p : Problem) (q : Piece) → IsProblem text p → IsPiece text q → ⊥
problem_is_none text OpenComment q i b = open_is_none text q i b
problem_is_none text BadCharacter (piece.Blank n) (inl i) b = no_token text n 0 b i
problem_is_none text BadCharacter (piece.Token k n) (inl i) t = let same : 0 ≡ n = lexeme-once text 0 n i t.lexeme in absurd (omega (arith, same, t.some))
problem_is_none text BadCharacter q (inr w) b = wrong_is_none text BadCharacter q w b
problem_is_none text BadNumber q w b = wrong_is_none text BadNumber q w b
problem_is_none text NumberTooLarge q w b = wrong_is_none text NumberTooLarge q w b
problem_is_none text FloatLiteral q w b = wrong_is_none text FloatLiteral q w b

-- problems, as those of a lexeme or of an open comment
data Troubled (text : List ℕ) : Problem → Type 0 where
  opens : starts_with_two 47 42 text ≡ true → Troubled text OpenComment
  begins_none : IsLongestLexeme text 0 → Troubled text BadCharacter
  is_wrong : (p : Problem) → IsWrong text p → Troubled text p

trouble : (text : List ℕ) (p : Problem) → IsProblem text p → Troubled text p
trouble text OpenComment i = opens i.0
trouble text BadCharacter (inl i) = begins_none i
trouble text BadCharacter (inr w) = is_wrong BadCharacter w
trouble text BadNumber w = is_wrong BadNumber w
trouble text NumberTooLarge w = is_wrong NumberTooLarge w
trouble text FloatLiteral w = is_wrong FloatLiteral w

wrong-once : (text : List ℕ) (p q : Problem) → IsWrong text p → IsWrong text q → p ≡ q
wrong-once text p q a b =
    let same : a.count ≡ b.count = lexeme-once text a.count b.count a.lexeme b.lexeme in
    let other : problem_of (take b.count text) (drop b.count text) ≡ Some p = subst (λ (i : ℕ). problem_of (take i text) (drop i text) ≡ Some p) same a.wrong in
    cc (other, b.wrong)

trouble-once : (text : List ℕ) (p q : Problem) → Troubled text p → Troubled text q → p ≡ q
trouble-once text p q (opens a) (opens b) = refl
trouble-once text p q (opens a) (begins_none b) = cc (open_is_for_blank text a, b.not_for_blank)
trouble-once text p q (opens a) (is_wrong r b) = cc (open_is_for_blank text a, b.lexeme.not_for_blank)
trouble-once text p q (begins_none a) (opens b) = cc (open_is_for_blank text b, a.not_for_blank)
trouble-once text p q (begins_none a) (begins_none b) = refl
trouble-once text p q (begins_none a) (is_wrong r b) = let same : 0 ≡ b.count = lexeme-once text 0 b.count a b.lexeme in absurd (omega (arith, same, b.some))
trouble-once text p q (is_wrong r a) (opens b) = cc (open_is_for_blank text b, a.lexeme.not_for_blank)
trouble-once text p q (is_wrong r a) (begins_none b) = let same : 0 ≡ a.count = lexeme-once text 0 a.count b a.lexeme in absurd (omega (arith, same, a.some))
trouble-once text p q (is_wrong r a) (is_wrong t b) = wrong-once text r t a b

-- no piece at the end
end_is_none : (p : Piece) → IsPiece [] p → ⊥
end_is_none (piece.Blank n) (inl b) = cc (b.0)
end_is_none (piece.Blank n) (inr (inl l)) = cc (l.begins)
end_is_none (piece.Blank n) (inr (inr l)) = cc (l.begins)
end_is_none (piece.Token k n) t = absurd (omega (arith, t.lexeme.longest.within, t.some))

-- the same pieces, to the end
pieces-once : (cs : List ℕ) (ps qs : List Piece) → SpellsTo cs ps [] → SpellsTo cs qs [] → ps ≡ qs
pieces-once cs [] [] a b = refl
pieces-once cs [] (q ∷ qs) a b = absurd (end_is_none q (subst (λ (t : List ℕ). IsPiece t q) a b.0))
pieces-once cs (p ∷ ps) [] a b = absurd (end_is_none p (subst (λ (t : List ℕ). IsPiece t p) b a.0))
pieces-once cs (p ∷ ps) (q ∷ qs) a b =
    let same : p ≡ q = piece-once cs p q a.0 b.0 in
    let rest : ps ≡ qs = pieces-once (drop (piece_count q) cs) ps qs (subst (λ (r : Piece). SpellsTo (drop (piece_count r) cs) ps []) same a.1) b.1 in
    λ i. same i ∷ rest i

-- a problem stands at one place
rest-once : (cs : List ℕ) (ps qs : List Piece) (r t : List ℕ) (p q : Problem) → SpellsTo cs ps r → SpellsTo cs qs t → IsProblem r p → IsProblem t q → r ≡ t
rest-once cs [] [] r t p q a b i j = sym a ∙ b
rest-once cs [] (y ∷ qs) r t p q a b i j = absurd (problem_is_none cs p y (subst (λ (s : List ℕ). IsProblem s p) (sym a) i) b.0)
rest-once cs (x ∷ ps) [] r t p q a b i j = absurd (problem_is_none cs q x (subst (λ (s : List ℕ). IsProblem s q) (sym b) j) a.0)
rest-once cs (x ∷ ps) (y ∷ qs) r t p q a b i j =
    let same : x ≡ y = piece-once cs x y a.0 b.0 in
    rest-once (drop (piece_count y) cs) ps qs r t p q (subst (λ (z : Piece). SpellsTo (drop (piece_count z) cs) ps r) same a.1) b.1 i j

-- a text that is read to its end has no problem
never_both : (cs : List ℕ) (ps qs : List Piece) (t : List ℕ) (q : Problem) → SpellsTo cs ps [] → SpellsTo cs qs t → 0 < length t → IsProblem t q → ⊥
never_both cs [] [] t q a b some j = let none : t ≡ [] = sym b ∙ a in absurd (omega (arith, ap length none, some))
never_both cs [] (y ∷ qs) t q a b some j = end_is_none y (subst (λ (s : List ℕ). IsPiece s y) a b.0)
never_both cs (x ∷ ps) [] t q a b some j = problem_is_none cs q x (subst (λ (s : List ℕ). IsProblem s q) (sym b) j) a.0
never_both cs (x ∷ ps) (y ∷ qs) t q a b some j =
    let same : x ≡ y = piece-once cs x y a.0 b.0 in
    never_both (drop (piece_count y) cs) ps qs t q (subst (λ (z : Piece). SpellsTo (drop (piece_count z) cs) ps []) same a.1) b.1 some j

pub read_once : (text : List ℕ) → IsReadOnce text
read_once text = record {
  one_list = λ tokens others a b. a.are ∙ ap (tokens_from text 0 (chars text)) (pieces-once (chars text) a.pieces b.pieces a.spell b.spell) ∙ sym b.are;
  one_problem = λ place other p q a b. (
      let rests : a.rest ≡ b.rest = rest-once (chars text) a.pieces b.pieces a.rest b.rest p q a.spell b.spell a.wrong b.wrong in
      (a.at ∙ ap (λ (r : List ℕ). place_of text (length text - width r)) rests ∙ sym b.at, trouble-once b.rest p q (trouble b.rest p (subst (λ (r : List ℕ). IsProblem r p) rests a.wrong)) (trouble b.rest q b.wrong)));
  not_both = λ tokens place p a b. never_both (chars text) a.pieces b.pieces b.rest p a.spell b.spell b.left b.wrong;
}
