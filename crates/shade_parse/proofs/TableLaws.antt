-- The names of a text are enough for each tree that its tokens spell.
use Rattle.std.proofs.Common.{◌≡◌, refl, sym, ap, ◌∙◌, subst, ℕ, ◌+◌, ◌<◌, ◌≤◌, max, Bool, true, false, cond, List, [], ◌∷◌, ◌++◌, length, take, arith, None, Some, slice_get, get_or, length-append}
use Rattle.std.specs.Prelude.{slice_index_or}
use Rattle.std.specs.List.{fold, list_any}
use Rattle.std.specs.Str.{bytes_eq}
use Rattle.std.proofs.lemmas.List.{length-map, take_all}
use Rattle.std.proofs.lemmas.List.Sums.{fold_more}
use Rattle.std.proofs.lemmas.List.Folds.{fold-map}
use Rattle.std.proofs.lemmas.Option.{slice_get_within, slice_get-get_or}
use Rattle.shade_ast.specs.declared.tree.Tree.{Tree}
use Rattle.shade_ast.specs.Lexemes.{Lexeme, Word, Key, Number, Mark, Stray}
use Rattle.shade_ast.specs.Names.{number_in, with_name, IsDistinct, Grows}
use Rattle.shade_ast.specs.Shaped.{tree_shape, directive_shape, decl_shape}
use Rattle.shade_ast.specs.Needs.{tree_needs, most_of, directive_needs, decl_needs}
use Rattle.shade_ast.specs.Nodes.{tree_nodes, CountFrom}
use Rattle.shade_ast.specs.Declarations.{Module}
use Rattle.shade_ast.specs.Places.{IsOnly}
use Rattle.shade_ast.proofs.NameLaws.{names_grow, stored_at}
use Rattle.shade_ast.proofs.ShapeLaws.{grows_here, grows_trans, list_grows, directive_grows, decl_grows}
use Rattle.shade_cursor.specs.declared.piece.Piece.{Piece}
use Rattle.shade_cursor.specs.Shown.{lexeme, lexemes}
use Rattle.shade_parse.specs.Tables.{with_word, names_of}
use Rattle.shade_parse.specs.Cuts.{IsWhole}
use Rattle.shade_parse.proofs.Worded.{OfTokens}
use Rattle.shade_parse.proofs.WordLaws.{module_words}
use Rattle.shade_parse.proofs.KeptLaws.{tree_kept}
use Rattle.shade_parse.proofs.FirstLaws.{get_more, are_words}

-- a text is a name
abbrev IsName : List (List ℕ) → List ℕ → Type 0
IsName names text = (i : ℕ) × (slice_get names i ≡ Some text)

name_grows : (old new : List (List ℕ)) (text : List ℕ) → Grows old new → IsName old text → IsName new text
name_grows old new text g p = (p.0, ap (λ ns. slice_get ns p.0) g.1 ∙ get_more old g.0 p.0 text p.1)

word_grows : (names : List (List ℕ)) (t : Lexeme) → Grows names (with_word names t)
word_grows names (Word text place) = names_grow names text
word_grows names (Key keyword place) = grows_here names
word_grows names (Number value suffix place) = grows_here names
word_grows names (Mark found place) = grows_here names
word_grows names (Stray place) = grows_here names

words_grow : (names : List (List ℕ)) (ts : List Lexeme) → Grows names (fold with_word names ts)
words_grow names [] = grows_here names
words_grow names (t ∷ ts) = grows_trans names (with_word names t) (fold with_word (with_word names t) ts) (word_grows names t) (words_grow (with_word names t) ts)

-- each word of some tokens is a name of theirs
words_are_names : (names all : List (List ℕ)) (ts : List Lexeme) → fold with_word names ts ≡ all → OfTokens (IsName all) ts
words_are_names names all [] e = tt
words_are_names names all (Word text place ∷ ts) e =
    (name_grows (with_name names text) all text (subst (Grows (with_name names text)) e (words_grow (with_name names text) ts)) (number_in names text, stored_at names (with_name names text) text (number_in names text) refl refl), words_are_names (with_name names text) all ts e)
words_are_names names all (Key keyword place ∷ ts) e = words_are_names names all ts e
words_are_names names all (Number value suffix place ∷ ts) e = words_are_names names all ts e
words_are_names names all (Mark found place ∷ ts) e = words_are_names names all ts e
words_are_names names all (Stray place ∷ ts) e = words_are_names names all ts e

-- ---- how many there are

one_more : (names : List (List ℕ)) (t : Lexeme) → length (with_word names t) ≤ length names + 1
one_more names (Word text place) = by (list_any (bytes_eq text) names)
  where
    by : (b : Bool) → length (cond b names (names ++ text ∷ [])) ≤ length names + 1
    by true = omega arith
    by false = omega (arith, length-append names (text ∷ []))
one_more names (Key keyword place) = omega arith
one_more names (Number value suffix place) = omega arith
one_more names (Mark found place) = omega arith
one_more names (Stray place) = omega arith

some_more : (names : List (List ℕ)) (ts : List Lexeme) → length (fold with_word names ts) ≤ length names + length ts
some_more names [] = omega arith
some_more names (t ∷ ts) = omega (arith, one_more names t, some_more (with_word names t) ts)

pub few_names : (ts : List Lexeme) → length (names_of ts) ≤ length ts
few_names ts = omega (arith, some_more [] ts)

-- the names once so many of the tokens were looked at
abbrev step : List (List ℕ) → Piece → List (List ℕ)
step names piece = with_word names (lexeme piece)

pub record AreNumbered (pieces : List Piece) (i : ℕ) (names : List (List ℕ)) : Type 0 where
  pub are : names ≡ fold step [] (take i pieces)
  pub few : length names ≤ i

pub none_numbered : (pieces : List Piece) (names : List (List ℕ)) → names ≡ [] → AreNumbered pieces 0 names
none_numbered pieces names none = record { are = none; few = omega (arith, ap length none) }

pub one_numbered : (pieces : List Piece) (i : ℕ) (d : Piece) → i < length pieces → (old new : List (List ℕ)) → new ≡ with_word old (lexeme (get_or pieces i d)) → AreNumbered pieces i old → AreNumbered pieces (i + 1) new
one_numbered pieces i d lt old new is h = record {
  are = is ∙ ap (λ ns. step ns (get_or pieces i d)) h.are ∙ sym (fold_more step [] pieces i d lt);
  few = let few : length old ≤ i = h.few in omega (arith, one_more old (lexeme (get_or pieces i d)), ap length is);
}

pub all_numbered : (pieces : List Piece) (i : ℕ) (names : List (List ℕ)) → length pieces ≤ i → AreNumbered pieces i names → names ≡ names_of (lexemes pieces)
all_numbered pieces i names le h = h.are ∙ ap (fold step []) (take_all i pieces le) ∙ sym (fold-map with_word lexeme [] pieces)

no_names : IsDistinct []
no_names = record { once = λ m n text at_m at_n. absurd (let bad : None ≡ Some text = at_m in cc) }

pub none_distinct : (names : List (List ℕ)) → length names ≡ 0 → IsDistinct names
none_distinct [] e = no_names
none_distinct (n ∷ ns) e = absurd (omega arith)

-- ---- a tree that was made with more names

-- a number whose text is among the first names is one of theirs
among_first : (first more : List (List ℕ)) → IsDistinct (first ++ more) → (n : ℕ) → n + 1 ≤ length (first ++ more) → IsName first (slice_index_or (first ++ more) n []) → n + 1 ≤ length first
among_first first more d n h p =
    let text : List ℕ = slice_index_or (first ++ more) n [] in
    let same : n ≡ p.0 = d.once n p.0 text (slice_get-get_or (first ++ more) n [] (omega arith)) (get_more first more p.0 text p.1) in
    let low : p.0 < length first = slice_get_within first p.0 text p.1 in
    omega arith

module _ (tokens : List Lexeme) (t : Tree) (g : Grows (names_of tokens) t.names) (d : IsDistinct t.names) (spelled : Module (tree_shape t) tokens []) (known : tree_needs t ≤ length t.names) where
  pub needs_words : tree_needs t ≤ length (names_of tokens)
  needs_words =
      tree_kept (IsName (names_of tokens)) t.names (length (names_of tokens))
      (λ n h p. among_first (names_of tokens) g.0 (subst IsDistinct g.1 d) n (subst (λ ns. n + 1 ≤ length ns) g.1 h) (subst (λ ns. IsName (names_of tokens) (slice_index_or ns n [])) g.1 p))
      t.directives t.decls known (module_words (IsName (names_of tokens)) (tree_shape t) tokens [] spelled (words_are_names [] (names_of tokens) tokens refl)).0

  pub same_shape : tree_shape t ≡ tree_shape (record { directives = t.directives; decls = t.decls; names = names_of tokens })
  same_shape =
      let few : max (most_of directive_needs t.directives) (most_of decl_needs t.decls) ≤ length (names_of tokens) = needs_words in
      λ i. record {
        directives = list_grows directive_needs directive_shape directive_grows (names_of tokens) t.names t.directives (omega arith) g i;
        decls = list_grows decl_needs decl_shape decl_grows (names_of tokens) t.names t.decls (omega arith) g i;
      }

-- the tree of all pieces, with the names of their text
pub whole_named : (pieces : List Piece) (t : Tree) (names known : List (List ℕ)) → names ≡ names_of (lexemes pieces) → known ≡ names_of (lexemes pieces) → Grows known t.names → IsDistinct t.names
    → IsOnly Module (tree_shape t) (lexemes pieces) → tree_needs t ≤ length t.names → CountFrom 0 (tree_nodes t) (length (tree_nodes t)) → length (tree_nodes t) ≤ length pieces
    → IsWhole (lexemes pieces) (record { directives = t.directives; decls = t.decls; names = names })
whole_named pieces t names known is same g d only enough numbered few =
    let tokens : List Lexeme = lexemes pieces in
    let grows : Grows (names_of tokens) t.names = subst (λ ns. Grows ns t.names) same g in
    subst (λ ns. IsWhole tokens (record { directives = t.directives; decls = t.decls; names = ns })) (sym is)
    (record {
      only = subst (λ s. IsOnly Module s tokens) (same_shape tokens t grows d only.spells enough) only;
      words = are_words tokens;
      known = needs_words tokens t grows d only.spells enough;
      nodes = length (tree_nodes t);
      numbered = numbered;
      few_nodes = omega (arith, few, length-map pieces lexeme);
    })
