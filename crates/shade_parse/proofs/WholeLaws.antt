-- Whole texts: of all tokens where the answer is one of the tokens up to the first that passes a depth, and in a text.
use Rattle.std.proofs.Common.{◌≡◌, refl, sym, ap, ◌∙◌, subst, ℕ, zero, suc, ◌+◌, ◌-◌, ◌<◌, ◌≤◌, ◌⊎◌, inl, inr, leb, cond, Bool, true, false, Option, None, Some, List, [], ◌∷◌, ◌++◌, length, take, drop, arith, slice_range, MatchOption, Result, Ok, Err, MatchResult}
use Rattle.std.proofs.lemmas.List.{length-map, length-take-le, take-append-drop}
use Rattle.std.proofs.lemmas.Option.{slice_get_within}
use Rattle.std.proofs.lemmas.Bool.Decides.{nat_tests}
use Rattle.std.specs.Str.{IsUtf8}
use Rattle.shade_lex.specs.declared.token.Token.{Token}
use Rattle.shade_lex.specs.Tokens.{AreTokens}
use Rattle.shade_lex.proofs.WithinLaws.{tokens_few}
use Rattle.shade_ast.specs.declared.tree.Tree.{Tree}
use Rattle.shade_ast.specs.Lexemes.{Lexeme, lexeme_of, lexemes as lexemes_of}
use Rattle.shade_ast.specs.Shapes.{TreeShape}
use Rattle.shade_ast.specs.Shaped.{tree_shape}
use Rattle.shade_ast.specs.Declarations.{Module}
use Rattle.shade_ast.specs.Places.{Begins, IsStop}
use Rattle.shade_cursor.specs.declared.part.Fault.{Fault}
use Rattle.shade_cursor.specs.declared.part.Fault.TheVariants as fault
use Rattle.shade_cursor.specs.declared.piece.Piece.{Piece}
use Rattle.shade_cursor.specs.declared.fault.Refusal.{Refusal}
use Rattle.shade_cursor.specs.declared.fault.Refusal.TheVariants as refusal
use Rattle.shade_cursor.specs.declared.fault.SyntaxFault.{SyntaxFault}
use Rattle.shade_cursor.specs.TokenPlaces.{fault_of}
use Rattle.shade_cursor.specs.Shown.{lexeme, lexemes}
use Rattle.shade_cursor.specs.Passes.{IsFirst}
use Rattle.shade_cursor.proofs.PassLaws.{take_range}
use Rattle.shade_parse.specs.Answers.{PassesDepth, IsTree, IsFault}
use Rattle.shade_parse.specs.Wholes.{Refused}
use Rattle.shade_parse.specs.Cuts.{IsWhole, IsRefused, cut_of, uncut_of, earlier_of}

-- the first of two kinds of places
module _ (P Q : ℕ → Type 0) where
  abbrev pub Found : (ℕ → Type 0) → Option ℕ → Type 0
  Found R r = MatchOption r ((k : ℕ) → R k → ⊥) (λ k. IsFirst R k)

  first_left : (k : ℕ) → IsFirst P k → ((j : ℕ) → j < k → Q j → ⊥) → IsFirst (λ j. P j ⊎ Q j) k
  first_left k p none = record { passes = inl p.passes; first = λ j lt e. elim e [ inl x ↦ p.first j lt x | inr y ↦ none j lt y ] }

  first_right : (k : ℕ) → IsFirst Q k → ((j : ℕ) → j < k → P j → ⊥) → IsFirst (λ j. P j ⊎ Q j) k
  first_right k q none = record { passes = inr q.passes; first = λ j lt e. elim e [ inl x ↦ none j lt x | inr y ↦ q.first j lt y ] }

  pub earlier_found : (one other r : Option ℕ) → r ≡ earlier_of one other → Found P one → Found Q other → Found (λ j. P j ⊎ Q j) r
  earlier_found one other r is p q = subst (Found (λ j. P j ⊎ Q j)) (sym is) (by one other p q)
    where
      by : (one other : Option ℕ) → Found P one → Found Q other → Found (λ j. P j ⊎ Q j) (earlier_of one other)
      by None None p q = λ k e. elim e [ inl x ↦ p k x | inr y ↦ q k y ]
      by None (Some k) p q = first_right k q (λ j lt x. p j x)
      by (Some k) None p q = first_left k p (λ j lt y. q j y)
      by (Some k) (Some m) p q = least (leb k m) refl
        where
          least : (b : Bool) → leb k m ≡ b → Found (λ j. P j ⊎ Q j) (cond b (Some k) (Some m))
          least true e = let le : k ≤ m = grind (arith, nat_tests) in first_left k p (λ j lt y. q.first j (omega arith) y)
          least false e = let gt : m < k = grind (arith, nat_tests) in first_right m q (λ j lt x. p.first j (omega arith) x)

-- no token passes a depth
pub uncut_whole : (tokens : List Lexeme) (answer : Result Tree Fault) (r : Result Tree Refusal) → ((k : ℕ) → PassesDepth tokens k → ⊥) → r ≡ uncut_of answer → MatchResult answer (IsWhole tokens) (Refused tokens) → MatchResult r (IsTree tokens) (IsRefused tokens)
uncut_whole tokens answer r never is x = subst (λ v. MatchResult v (IsTree tokens) (IsRefused tokens)) (sym is) (by answer x)
  where
    by : (a : Result Tree Fault) → MatchResult a (IsWhole tokens) (Refused tokens) → MatchResult (uncut_of a) (IsTree tokens) (IsRefused tokens)
    by (Ok tree) x = record { only = x.only; shallow = never; words = x.words; known = x.known; nodes = x.nodes; numbered = x.numbered; few_nodes = x.few_nodes }
    by (Err (fault.Unexpected at)) x = record { stop = x.0; none = x.1; shallow = λ k lt. never k }
    by (Err fault.NoMemory) x = tt

from_zero : (l : List Lexeme) (j : ℕ) → slice_range l 0 j ≡ take j l
from_zero l j = let e : j - 0 ≡ j = omega arith in ap (λ k. take k l) e

append-nil : (l : List Lexeme) → l ++ [] ≡ l
append-nil [] = refl
append-nil (t ∷ l) = ap (λ m. t ∷ m) (append-nil l)

-- the tokens up to the first that passes a depth
module _ (tokens : List Lexeme) (deep : ℕ) (first : IsFirst (PassesDepth tokens) deep) (high : deep < length tokens) where
  long : length (take (deep + 1) tokens) ≡ deep + 1
  long = length-take-le (deep + 1) tokens (omega arith)

  same : (to : ℕ) → to ≤ deep + 1 → slice_range (take (deep + 1) tokens) 0 to ≡ slice_range tokens 0 to
  same to le = take_range tokens (deep + 1) 0 to (omega arith) le

  stop : (q : ℕ) → q ≤ deep → IsStop Module (take (deep + 1) tokens) 0 q → IsStop Module tokens 0 q
  stop q le s = record {
    low = s.low;
    high = omega arith;
    before = λ k above below. subst (Begins Module) (same k (omega arith)) (s.before k above below);
    none = λ lt b. s.none (omega (arith, long)) (subst (Begins Module) (sym (same (q + 1) (omega arith))) b);
  }

  none_spelled : (q : ℕ) → q ≤ deep → IsStop Module tokens 0 q → (shape : TreeShape) → Module shape tokens [] → ⊥
  none_spelled q le s shape g = s.none (omega arith) (shape, drop (q + 1) tokens, subst (λ ts. Module shape ts []) (sym (ap (λ x. x ++ drop (q + 1) tokens) (from_zero tokens (q + 1)) ∙ take-append-drop (q + 1) tokens)) g)

  pub cut_whole : (answer : Result Tree Fault) (r : Refusal) → r ≡ cut_of answer deep → MatchResult answer (IsWhole (take (deep + 1) tokens)) (Refused (take (deep + 1) tokens)) → IsRefused tokens r
  cut_whole answer r is x = subst (IsRefused tokens) (sym is) (by answer x)
    where
      by : (a : Result Tree Fault) → MatchResult a (IsWhole (take (deep + 1) tokens)) (Refused (take (deep + 1) tokens)) → IsRefused tokens (cut_of a deep)
      by (Ok tree) x = record { first = first; begun = (tree_shape tree, [], subst (λ ts. Module (tree_shape tree) ts []) (sym (ap (λ l. l ++ []) (from_zero tokens (deep + 1)) ∙ append-nil (take (deep + 1) tokens))) x.only.spells) }
      by (Err (fault.Unexpected at)) x = within (leb at deep) refl
        where
          within : (b : Bool) → leb at deep ≡ b → IsRefused tokens (cond b (refusal.Unexpected at) (refusal.TooDeep deep))
          within true e =
              let le : at ≤ deep = grind (arith, nat_tests) in
              record { stop = stop at le x.0; none = none_spelled at le (stop at le x.0); shallow = λ k lt. first.first k (omega arith) }
          within false e =
              let gt : deep < at = grind (arith, nat_tests) in
              record { first = first; begun = subst (Begins Module) (same (deep + 1) (omega arith)) (x.0.before (deep + 1) (omega arith) (omega arith)) }
      by (Err fault.NoMemory) x = tt

within : (tokens : List Lexeme) (k : ℕ) → PassesDepth tokens k → k < length tokens
within tokens k (inl d) = slice_get_within tokens k d.token d.stands
within tokens k (inr d) = slice_get_within tokens k d.token d.stands

front_lexemes : (n : ℕ) (pieces : List Piece) → lexemes (take n pieces) ≡ take n (lexemes pieces)
front_lexemes zero pieces = refl
front_lexemes (suc n) [] = refl
front_lexemes (suc n) (p ∷ pieces) = ap (λ ls. lexeme p ∷ ls) (front_lexemes n pieces)

-- the answers of the pieces of a text, by what the scans tell
module _ (pieces : List Piece) (passing : Option ℕ) (s : MatchOption passing ((k : ℕ) → PassesDepth (lexemes pieces) k → ⊥) (λ k. IsFirst (PassesDepth (lexemes pieces)) k)) where
  pub all_pieces : (answer : Result Tree Fault) (r : Result Tree Refusal) → passing ≡ None → r ≡ uncut_of answer → MatchResult answer (IsWhole (lexemes pieces)) (Refused (lexemes pieces)) → MatchResult r (IsTree (lexemes pieces)) (IsRefused (lexemes pieces))
  all_pieces answer r none is x = uncut_whole (lexemes pieces) answer r (subst (λ p. MatchOption p ((k : ℕ) → PassesDepth (lexemes pieces) k → ⊥) (λ k. IsFirst (PassesDepth (lexemes pieces)) k)) none s) is x

  pub front_pieces : (deep : ℕ) (answer : Result Tree Fault) (r : Refusal) → passing ≡ Some deep → r ≡ cut_of answer deep → MatchResult answer (IsWhole (lexemes (take (deep + 1) pieces))) (Refused (lexemes (take (deep + 1) pieces))) → IsRefused (lexemes pieces) r
  front_pieces deep answer r some is x =
      let first : IsFirst (PassesDepth (lexemes pieces)) deep = subst (λ p. MatchOption p ((k : ℕ) → PassesDepth (lexemes pieces) k → ⊥) (λ k. IsFirst (PassesDepth (lexemes pieces)) k)) some s in
      cut_whole (lexemes pieces) deep first (within (lexemes pieces) deep first.passes) answer r is
      (subst (λ ls. MatchResult answer (IsWhole ls) (Refused ls)) (front_lexemes (deep + 1) pieces) x)

-- the answers of the tokens of a text, by those of its pieces
module _ (text : List ℕ) (pairs : List (ℕ × ℕ)) (tokens : List Token) (pieces shown : List Piece) (same : shown ≡ pieces) (are : lexemes pieces ≡ lexemes_of text pairs tokens) where
  pub tree_told : (tree : Tree) → IsTree (lexemes shown) tree → IsTree (lexemes_of text pairs tokens) tree
  tree_told tree x = subst (λ ls. IsTree ls tree) (ap lexemes same ∙ are) x

  pub refusal_told : (why : Refusal) (f : SyntaxFault) → f ≡ fault_of text tokens why → IsRefused (lexemes shown) why → IsFault text tokens (lexemes_of text pairs tokens) f
  refusal_told why f is x = subst (IsFault text tokens (lexemes_of text pairs tokens)) (sym is) (by why (subst (λ ls. IsRefused ls why) (ap lexemes same ∙ are) x))
    where
      by : (w : Refusal) → IsRefused (lexemes_of text pairs tokens) w → IsFault text tokens (lexemes_of text pairs tokens) (fault_of text tokens w)
      by (refusal.Unexpected at) x = record { token = at; stands = refl; fact = x }
      by (refusal.TooDeep at) x = record { token = at; stands = refl; fact = x }
      by refusal.NoMemory x = tt

  pub pieces_few : IsUtf8 text → AreTokens text tokens → length text ≤ 1048576 → length shown ≤ 1048576
  pieces_few u a small = omega (arith, tokens_few text tokens u a, ap length same, length-map pieces lexeme, ap length are, length-map tokens (lexeme_of text pairs))
