-- Places and tokens of a text.
use Rattle.std.proofs.Common.{◌≡◌, refl, sym, ap, ◌∙◌, subst, ℕ, zero, suc, ◌+◌, ◌-◌, ◌≤◌, Bool, true, false, List, [], ◌∷◌, ◌++◌, length, take, drop, length-drop, arith, append_assoc, cond, Some, None, slice_get}
use Rattle.std.proofs.lemmas.List.{take_all}
use Rattle.shade_base.specs.declared.place.Place.{Place}
use Rattle.shade_first.specs.declared.token.Kind.{Kind}
use Rattle.shade_first.specs.declared.token.Kind.TheVariants as kind
use Rattle.shade_first.specs.declared.token.Token.{Token}
use Rattle.shade_first.specs.declared.lex.Front.TheVariants as front
use Rattle.shade_first.specs.Lines.{ends_break, line_at, column_at, place_of}
use Rattle.shade_first.specs.Tokens.{IsWord, AreWords, front_of, size_of, Lexes, stops, blank, token}
use Rattle.shade_first.proofs.Printing.{word_again}

pub line_small : (text : List ℕ) (n : ℕ) → line_at text n ≤ n + 1
line_small text zero = omega arith
line_small text (suc n) = let h : line_at text n ≤ n + 1 = line_small text n in small (ends_break text (suc n)) h
  where
    small : (b : Bool) → line_at text n ≤ n + 1 → cond b (line_at text n + 1) (line_at text n) ≤ suc n + 1
    small true h = omega arith
    small false h = omega arith

pub column_small : (text : List ℕ) (n : ℕ) → column_at text n ≤ n + 1
column_small text zero = omega arith
column_small text (suc n) = let h : column_at text n ≤ n + 1 = column_small text n in small (ends_break text (suc n)) h
  where
    small : (b : Bool) → column_at text n ≤ n + 1 → cond b 1 (column_at text n + 1) ≤ suc n + 1
    small true h = omega arith
    small false h = omega arith

-- a slice up to the end
pub rest_of : (text : List ℕ) (at : ℕ) → take (length text - at) (drop at text) ≡ drop at text
rest_of text at = take_all (length text - at) (drop at text) (omega (arith, length-drop at text))

-- the tokens so far, with all that may follow
pub record LexesSoFar (text : List ℕ) (at : ℕ) (tokens : List Token) : Type 0 where
  pub whole : (ts : List Token) (stop : ℕ) → Lexes text at ts stop → Lexes text 0 (tokens ++ ts) stop

pub lex_begin : (text : List ℕ) (tokens : List Token) → tokens ≡ [] → LexesSoFar text 0 tokens
lex_begin text tokens none = record { whole = λ ts stop l. subst (λ x. Lexes text 0 (x ++ ts) stop) (sym none) l }

pub lex_blank : (text : List ℕ) (at : ℕ) (tokens : List Token) → front_of (drop at text) ≡ front.Blank → LexesSoFar text at tokens → LexesSoFar text (at + 1) tokens
lex_blank text at tokens is s = record { whole = λ ts stop l. s.whole ts stop (blank at is l) }

pub lex_token : (text : List ℕ) (at : ℕ) (tokens more : List Token) (k : Kind) (place : Place) → front_of (drop at text) ≡ front.Token k → place ≡ place_of text at → more ≡ tokens ++ record { kind = k; place = place } ∷ [] → LexesSoFar text at tokens → LexesSoFar text (at + size_of k) more
lex_token text at tokens more k place is placed pushed s = record {
  whole =
      λ ts stop l.
      let t : Token = record { kind = k; place = place } in
      let u : Token = record { kind = k; place = place_of text at } in
      let same : tokens ++ u ∷ ts ≡ more ++ ts = ap (λ (p : Place). let x : Token = record { kind = k; place = p } in tokens ++ x ∷ ts) (sym placed) ∙ sym (append_assoc tokens (t ∷ []) ts) ∙ ap (λ xs. xs ++ ts) (sym pushed) in
      subst (λ xs. Lexes text 0 xs stop) same (s.whole (u ∷ ts) stop (token at k is l));
}

pub lex_end : (text : List ℕ) (at : ℕ) (tokens : List Token) → front_of (drop at text) ≡ front.Nothing → LexesSoFar text at tokens → Lexes text 0 tokens at
lex_end text at tokens is s = subst (λ xs. Lexes text 0 xs at) (append-nil tokens) (s.whole [] at (stops at is))
  where
    append-nil : (us : List Token) → us ++ [] ≡ us
    append-nil [] = refl
    append-nil (u ∷ us) = ap (λ vs. u ∷ vs) (append-nil us)

-- a text has one list of tokens
pub record SameTokens (ts us : List Token) (stop other : ℕ) : Type 0 where
  pub tokens : ts ≡ us
  pub ends : stop ≡ other

pub lexes_once : (text : List ℕ) (at : ℕ) (ts us : List Token) (stop other : ℕ) → Lexes text at ts stop → Lexes text at us other → SameTokens ts us stop other
lexes_once text at ts us stop other (stops k is) (stops j was) = record { tokens = refl; ends = refl }
lexes_once text at ts us stop other (stops k is) (blank j was m) = absurd (let a : front_of (drop k text) ≡ front.Nothing = is in let b : front_of (drop k text) ≡ front.Blank = was in cc)
lexes_once text at ts us stop other (stops k is) (token j q was m) = absurd (let a : front_of (drop k text) ≡ front.Nothing = is in let b : front_of (drop k text) ≡ front.Token q = was in cc)
lexes_once text at ts us stop other (blank k is l) (stops j was) = absurd (let a : front_of (drop k text) ≡ front.Blank = is in let b : front_of (drop k text) ≡ front.Nothing = was in cc)
lexes_once text at ts us stop other (blank k is l) (blank j was m) = lexes_once text (k + 1) ts us stop other l m
lexes_once text at ts us stop other (blank k is l) (token j q was m) = absurd (let a : front_of (drop k text) ≡ front.Blank = is in let b : front_of (drop k text) ≡ front.Token q = was in cc)
lexes_once text at ts us stop other (token k p is l) (stops j was) = absurd (let a : front_of (drop k text) ≡ front.Token p = is in let b : front_of (drop k text) ≡ front.Nothing = was in cc)
lexes_once text at ts us stop other (token k p is l) (blank j was m) = absurd (let a : front_of (drop k text) ≡ front.Token p = is in let b : front_of (drop k text) ≡ front.Blank = was in cc)
lexes_once text at ts us stop other (token k p {ts = vs} {stop = s} is l) (token j q {ts = ws} {stop = r} was m) =
    let same : p ≡ q = (let a : front_of (drop k text) ≡ front.Token p = is in let b : front_of (drop k text) ≡ front.Token q = was in cc) in
    let rest : SameTokens vs ws s r = lexes_once text (k + size_of p) vs ws s r l (subst (λ x. Lexes text (k + size_of x) ws r) (sym same) m) in
    record {
      tokens = ap (λ (x : Kind). let t : Token = record { kind = x; place = place_of text k } in t ∷ vs) same ∙ ap (λ xs. let t : Token = record { kind = q; place = place_of text k } in t ∷ xs) rest.tokens;
      ends = rest.ends;
    }

-- words are words
pub are_words : (text : List ℕ) (at : ℕ) (ts : List Token) (stop : ℕ) → Lexes text at ts stop → AreWords ts
are_words text at ts stop l = record { words = each text at ts stop l }
  where
    each : (text : List ℕ) (at : ℕ) (ts : List Token) (stop : ℕ) → Lexes text at ts stop → (i : ℕ) (w : List ℕ) (p : Place) → slice_get ts i ≡ Some (record { kind = kind.Word w; place = p }) → IsWord w
    each text at ts stop (stops k is) i w p e = let t : Token = record { kind = kind.Word w; place = p } in let bad : None ≡ Some t = e in absurd (cc)
    each text at ts stop (blank k is l) i w p e = each text (k + 1) ts stop l i w p e
    each text at ts stop (token k q {ts = us} is l) zero w p e =
        let t : Token = record { kind = q; place = place_of text k } in
        let u : Token = record { kind = kind.Word w; place = p } in
        let both : Some t ≡ Some u = e in
        let same : t ≡ u = cc in
        word_again (drop k text) w (is ∙ ap (λ (x : Token). front.Token x.kind) same)
    each text at ts stop (token k q {ts = us} is l) (suc i) w p e = each text (k + size_of q) us stop l i w p e
