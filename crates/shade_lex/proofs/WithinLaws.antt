-- Tokens lie between characters.
use Rattle.std.proofs.Common.{◌≡◌, sym, ap, ◌∙◌, subst, ℕ, zero, suc, ◌+◌, ◌<◌, ◌≤◌, Bool, true, ◌&&◌, List, [], ◌∷◌, ◌++◌, length, take, drop, arith, length-append}
use Rattle.std.specs.Prelude.{chars, encode_utf8_all}
use Rattle.std.specs.List.{All}
use Rattle.std.specs.Str.{IsUtf8, IsCharBoundary}
use Rattle.std.proofs.Math.Utf8.{scalars}
use Rattle.std.proofs.Math.Seq.{drop-append_seam}
use Rattle.std.proofs.lemmas.List.{take-append-drop, drop-drop, length-drop}
use Rattle.std.proofs.lemmas.List.Elements.{All-nil, All-cons, All-same}
use Rattle.std.proofs.lemmas.Str.{encodes-append, encodes-chars, scalars-chars, length-le-encodes, IsCharBoundary-from_drop}
use Rattle.shade_base.specs.Lines.{place_of}
use Rattle.shade_lex.specs.declared.token.Token.{Token}
use Rattle.shade_lex.specs.declared.piece.Piece.{Piece}
use Rattle.shade_lex.specs.declared.piece.Piece.TheVariants as piece
use Rattle.shade_lex.specs.Tokens.{width, tokens_from, AreTokens, IsWithin, SpellsTo}

right : (a b : Bool) → (a && b) ≡ true → b ≡ true
right true b e = e
right _ b e = absurd (let bad : _ ≡ true = e in cc)

scalars-drop : (n : ℕ) (cs : List ℕ) → scalars cs ≡ true → scalars (drop n cs) ≡ true
scalars-drop zero cs s = s
scalars-drop (suc n) [] s = s
scalars-drop (suc n) (c ∷ cs) s = scalars-drop n cs (right _ _ s)

-- The characters that are left stand at an offset of a text.
record Stands (text : List ℕ) (offset : ℕ) (cs : List ℕ) : Type 0 where
  within : offset ≤ length text
  are : drop offset text ≡ encode_utf8_all cs
  sound : scalars cs ≡ true

stands-cut : (text : List ℕ) (offset : ℕ) (cs : List ℕ) → Stands text offset cs → IsCharBoundary text offset
stands-cut text offset cs s = IsCharBoundary-from_drop text offset s.within (cs, (s.sound, sym s.are))

stands-later : (text : List ℕ) (offset n : ℕ) (cs : List ℕ) → Stands text offset cs → Stands text (offset + width (take n cs)) (drop n cs)
stands-later text offset n cs s =
    let parts : encode_utf8_all cs ≡ encode_utf8_all (take n cs) ++ encode_utf8_all (drop n cs) = ap encode_utf8_all (sym (take-append-drop n cs)) ∙ encodes-append (take n cs) (drop n cs) in
    record {
      within = omega (arith, s.within, length-drop offset text, ap length s.are, ap length parts, length-append (encode_utf8_all (take n cs)) (encode_utf8_all (drop n cs)));
      are =
          sym (drop-drop (width (take n cs)) offset text)
          ∙ ap (drop (width (take n cs))) (s.are ∙ parts)
          ∙ drop-append_seam (encode_utf8_all (take n cs)) (encode_utf8_all (drop n cs));
      sound = scalars-drop n cs s.sound;
    }

within-from : (text : List ℕ) (offset : ℕ) (cs : List ℕ) (pieces : List Piece) → Stands text offset cs → All (IsWithin text) (tokens_from text offset cs pieces)
within-from text offset cs [] s = All-nil (IsWithin text)
within-from text offset cs (piece.Blank n ∷ pieces) s = within-from text (offset + width (take n cs)) (drop n cs) pieces (stands-later text offset n cs s)
within-from text offset cs (piece.Token kind n ∷ pieces) s =
    let later : Stands text (offset + width (take n cs)) (drop n cs) = stands-later text offset n cs s in
    All-cons (IsWithin text) (record { kind = kind; place = place_of text offset; length = width (take n cs) }) (tokens_from text (offset + width (take n cs)) (drop n cs) pieces)
    (record { begins = stands-cut text offset cs s; ends = stands-cut text (offset + width (take n cs)) (drop n cs) later })
    (within-from text (offset + width (take n cs)) (drop n cs) pieces later)

-- each token of a text begins and ends between characters
pub tokens_within : (text : List ℕ) (tokens : List Token) → IsUtf8 text → AreTokens text tokens → All (IsWithin text) tokens
tokens_within text tokens u a =
    All-same (IsWithin text) tokens (tokens_from text 0 (chars text) a.pieces) a.are
    (within-from text 0 (chars text) a.pieces (record { within = omega arith; are = sym (encodes-chars text u); sound = scalars-chars text u }))

few-from : (text : List ℕ) (offset : ℕ) (cs : List ℕ) (pieces : List Piece) → SpellsTo cs pieces [] → length (tokens_from text offset cs pieces) ≤ length cs
few-from text offset cs [] s = omega arith
few-from text offset cs (piece.Blank n ∷ pieces) s =
    let later : length (tokens_from text (offset + width (take n cs)) (drop n cs) pieces) ≤ length (drop n cs) = few-from text (offset + width (take n cs)) (drop n cs) pieces s.1 in
    omega (arith, later, length-drop n cs)
few-from text offset cs (piece.Token kind n ∷ pieces) s =
    let later : length (tokens_from text (offset + width (take n cs)) (drop n cs) pieces) ≤ length (drop n cs) = few-from text (offset + width (take n cs)) (drop n cs) pieces s.1 in
    let some : 0 < n = s.0.some in
    let within : n ≤ length cs = s.0.lexeme.longest.within in
    omega (arith, later, length-drop n cs)

-- a text has no more tokens than bytes
pub tokens_few : (text : List ℕ) (tokens : List Token) → IsUtf8 text → AreTokens text tokens → length tokens ≤ length text
tokens_few text tokens u a =
    let within : length (chars text) ≤ length text = subst (λ t. length (chars text) ≤ length t) (encodes-chars text u) (length-le-encodes (chars text)) in
    omega (arith, ap length a.are, few-from text 0 (chars text) a.pieces a.spell, within)
