-- Pieces read one after the other: what they spell, their tokens and the bytes before them.
use Rattle.std.proofs.Common.{◌≡◌, ℕ, ◌+◌, ◌<◌, ◌≤◌, List, [], ◌∷◌, ◌++◌, length, take, drop, refl, ap, sym, ◌∙◌, arith, subst, append_assoc, length-append}
use Rattle.std.specs.Prelude.{encode_utf8_all, encode_utf8, chars}
use Rattle.std.proofs.lemmas.List.{append-nil, take-append-drop, drop-drop, length-drop}
use Rattle.shade_base.specs.declared.place.Place.{Place}
use Rattle.shade_base.specs.Lines.{place_of}
use Rattle.shade_lex.specs.declared.token.Token.{Token}
use Rattle.shade_lex.specs.declared.piece.Piece.{Piece}
use Rattle.shade_lex.specs.declared.piece.Problem.{Problem}
use Rattle.shade_lex.specs.declared.piece.Problem.TheVariants.{BadCharacter, OpenComment, BadNumber, NumberTooLarge, FloatLiteral}
use Rattle.shade_lex.specs.Pieces.{IsPiece, IsProblem, piece_count}
use Rattle.shade_lex.specs.Tokens.{SpellsTo, width, token_of, tokens_from, IsProblemOf, IsFaultOf, fault_at}

pub width-append : (xs ys : List ℕ) → width (xs ++ ys) ≡ width xs + width ys
width-append [] ys = omega arith
width-append (x ∷ xs) ys = omega (arith, length-append (encode_utf8 x) (encode_utf8_all (xs ++ ys)), length-append (encode_utf8 x) (encode_utf8_all xs), width-append xs ys)

pub width-split : (n : ℕ) (cs : List ℕ) → width (take n cs) + width (drop n cs) ≡ width cs
width-split n cs = sym (width-append (take n cs) (drop n cs)) ∙ ap width (take-append-drop n cs)

-- one more piece
pub spells-more : (cs : List ℕ) (pieces : List Piece) (rest : List ℕ) (p : Piece) → SpellsTo cs pieces rest → IsPiece rest p → SpellsTo cs (pieces ++ p ∷ []) (drop (piece_count p) rest)
spells-more cs [] rest p s is = (subst (λ (t : List ℕ). IsPiece t p) (sym s) is, ap (drop (piece_count p)) s)
spells-more cs (q ∷ pieces) rest p s is = (s.0, spells-more (drop (piece_count q) cs) pieces rest p s.1 is)

pub tokens-more : (text : List ℕ) (offset end : ℕ) (cs : List ℕ) (pieces : List Piece) (rest : List ℕ) (p : Piece) → SpellsTo cs pieces rest → offset + width cs ≡ end + width rest
    → tokens_from text offset cs (pieces ++ p ∷ []) ≡ tokens_from text offset cs pieces ++ token_of p (place_of text end) (width (take (piece_count p) rest))
tokens-more text offset end cs [] rest p s e =
    let same : width cs ≡ width rest = ap width s in
    let here : offset ≡ end = omega (arith, same, e) in
    append-nil (token_of p (place_of text offset) (width (take (piece_count p) cs)))
    ∙ ap (λ (o : ℕ). token_of p (place_of text o) (width (take (piece_count p) cs))) here
    ∙ ap (λ (t : List ℕ). token_of p (place_of text end) (width (take (piece_count p) t))) s
tokens-more text offset end cs (q ∷ pieces) rest p s e =
    let front : List Token = token_of q (place_of text offset) (width (take (piece_count q) cs)) in
    let on : offset + width (take (piece_count q) cs) + width (drop (piece_count q) cs) ≡ end + width rest = omega (arith, width-split (piece_count q) cs, e) in
    ap (λ (ts : List Token). front ++ ts) (tokens-more text (offset + width (take (piece_count q) cs)) end (drop (piece_count q) cs) pieces rest p s.1 on)
    ∙ sym (append_assoc front _ _)

-- The characters of a text are read up to a place: the pieces so far, their tokens, and the bytes that are left.
pub record IsReading (text cs : List ℕ) (at : ℕ) (place : Place) (tokens : List Token) : Type 0 where
  pub pieces : List Piece
  pub spell : SpellsTo cs pieces (drop at cs)
  pub are : tokens ≡ tokens_from text 0 cs pieces
  pub bytes : place.offset + width (drop at cs) ≡ length text
  pub place_is : place ≡ place_of text place.offset
  pub within : at ≤ length cs
  pub whole : width cs ≡ length text

pub reading-begin : (text cs : List ℕ) → width cs ≡ length text → IsReading text cs 0 (record { offset = 0; line = 1; column = 1 }) []
reading-begin text cs w = record { pieces = []; spell = refl; are = refl; bytes = omega (arith, w); place_is = refl; within = omega arith; whole = w }

pub reading-step : (text cs : List ℕ) (at next end : ℕ) (place later : Place) (tokens more : List Token) (p : Piece) → IsReading text cs at place tokens → IsPiece (drop at cs) p → piece_count p ≤ length (drop at cs) → next ≡ at + piece_count p
    → end ≡ place.offset + width (take (piece_count p) (drop at cs)) → more ≡ tokens ++ token_of p place (width (take (piece_count p) (drop at cs))) → later ≡ place_of text end
    → IsReading text cs next later more
reading-step text cs at next end place later tokens more p r is count n e m l = record {
  pieces = r.pieces ++ p ∷ [];
  spell = subst (λ (t : List ℕ). SpellsTo cs (r.pieces ++ p ∷ []) t) on (spells-more cs r.pieces (drop at cs) p r.spell is);
  are = m ∙ ap (λ (ts : List Token). ts ++ token_of p place (width (take (piece_count p) (drop at cs)))) r.are
      ∙ ap (λ (q : Place). tokens_from text 0 cs r.pieces ++ token_of p q (width (take (piece_count p) (drop at cs)))) r.place_is
      ∙ sym (tokens-more text 0 place.offset cs r.pieces (drop at cs) p r.spell all);
  bytes = omega (arith, r.bytes, width-split (piece_count p) (drop at cs), e, ap (λ (q : Place). q.offset) l, ap width on);
  place_is = l ∙ ap (place_of text) (sym (ap (λ (q : Place). q.offset) l));
  within = omega (arith, n, count, length-drop at cs, r.within);
  whole = r.whole;
}
  where
    on : drop (piece_count p) (drop at cs) ≡ drop next cs
    on = drop-drop (piece_count p) at cs ∙ ap (λ (k : ℕ). drop k cs) (sym n)

    all : 0 + width cs ≡ place.offset + width (drop at cs)
    all = omega (arith, r.whole, r.bytes)

-- what is read next lies within the text
pub reading-fits : (text cs : List ℕ) (at : ℕ) (place : Place) (tokens : List Token) → IsReading text cs at place tokens → (n : ℕ) → place.offset + width (take n (drop at cs)) ≤ length text
reading-fits text cs at place tokens r n = omega (arith, r.bytes, width-split n (drop at cs))

fault-of : (text : List ℕ) (place : Place) (p : Problem) → IsProblemOf text place p → IsFaultOf text (fault_at p place)
fault-of text place BadCharacter i = i
fault-of text place OpenComment i = i
fault-of text place BadNumber i = i
fault-of text place NumberTooLarge i = i
fault-of text place FloatLiteral i = i

pub reading-problem : (text cs : List ℕ) (at : ℕ) (place : Place) (tokens : List Token) (p : Problem) → cs ≡ chars text → IsReading text cs at place tokens → at < length cs → IsProblem (drop at cs) p → IsFaultOf text (fault_at p place)
reading-problem text cs at place tokens p e r left i = fault-of text place p (record {
  pieces = r.pieces;
  rest = drop at cs;
  spell = subst (λ (t : List ℕ). SpellsTo t r.pieces (drop at cs)) e r.spell;
  left = omega (arith, length-drop at cs, left);
  wrong = i;
  at = r.place_is ∙ ap (place_of text) (omega (arith, r.bytes));
})
