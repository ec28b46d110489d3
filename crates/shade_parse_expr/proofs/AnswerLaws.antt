-- Answers: without ranks, of all tokens where they are of the tokens up to one, and in a text.
use Rattle.std.proofs.Common.{◌≡◌, refl, sym, ap, ◌∙◌, subst, ℕ, zero, suc, ◌+◌, ◌-◌, ◌<◌, ◌≤◌, leb, cond, Bool, true, false, Option, None, Some, List, [], ◌∷◌, length, take, drop, arith, slice_range, MatchOption, Result, Ok, Err, MatchResult, IfOk}
use Rattle.std.proofs.lemmas.List.{drop-take, length-map, length-take-le}
use Rattle.std.proofs.lemmas.Option.{slice_get_within}
use Rattle.std.proofs.lemmas.Bool.Decides.{nat_tests}
use Rattle.shade_lex.specs.declared.token.Token.{Token}
use Rattle.shade_ast.specs.declared.expr.Expr.{Expr}
use Rattle.shade_ast.specs.Lexemes.{Lexeme, lexeme_of, lexemes as lexemes_of}
use Rattle.shade_ast.specs.Shaped.{expr_shape}
use Rattle.shade_ast.specs.Nodes.{CountFrom}
use Rattle.shade_ast.specs.Places.{Begins, IsStop, IsOnly}
use Rattle.shade_ast.proofs.PlaceLaws.{stop_of_reads, only_of_reads, stop_of_fails, none_of_fails}
use Rattle.shade_parse_expr.specs.declared.goal.Goal.{Goal}
use Rattle.shade_cursor.specs.declared.part.Part.{Part}
use Rattle.shade_cursor.specs.declared.piece.Piece.{Piece}
use Rattle.shade_cursor.specs.Shown.{lexeme, lexemes}
use Rattle.shade_cursor.specs.declared.part.Fault.{Fault}
use Rattle.shade_cursor.specs.declared.part.Fault.TheVariants as fault
use Rattle.shade_cursor.specs.declared.fault.Refusal.{Refusal}
use Rattle.shade_cursor.specs.declared.fault.Refusal.TheVariants as refusal
use Rattle.shade_cursor.specs.declared.fault.SyntaxFault.{SyntaxFault}
use Rattle.shade_parse_expr.specs.Parts.{ReadsTree, Faults}
use Rattle.shade_parse_expr.specs.Reading.{Went}
use Rattle.shade_cursor.specs.Passes.{IsFirst}
use Rattle.shade_cursor.specs.Depths.{IsDeep}
use Rattle.shade_parse_expr.specs.Answers.{production, AreFew, IsShallow, IsPhrase, IsTooDeep, IsRefused, IsFault}
use Rattle.shade_cursor.specs.TokenPlaces.{fault_of}
use Rattle.shade_parse_expr.specs.Cuts.{IsRead, IsUnread, cut_of, uncut_of}

-- what a function of the parser answers, without its rank
pub without_rank : (goal : Goal) (n : ℕ) (small : n < 10) (tokens : List Lexeme) (old new : List (List ℕ)) (from node : ℕ) (r : Result Part Fault) (pieces : List Piece) →
    MatchResult r (λ p. ReadsTree (production goal) n tokens new [] from node p) (λ f. Faults (production goal) n tokens old new from f) →
    IfOk r (λ p. Went pieces old new from node p.end p.node) → MatchResult r (IsRead goal tokens old new from node) (IsUnread goal tokens old new from)
without_rank goal n small tokens old new from node (Ok p) pieces x went = record {
  stop = stop_of_reads (production goal) n small tokens from p.end (expr_shape new p.expr) x.reads;
  only = only_of_reads (production goal) n small tokens from p.end (expr_shape new p.expr) x.reads;
  known = x.known;
  nodes = subst (λ ns. CountFrom node ns p.node) (sym x.nodes.nodes_are) x.nodes.counted;
  few_nodes = went.numbered;
  few = went.few;
}
without_rank goal n small tokens old new from node (Err (fault.Unexpected at)) pieces x went = record {
  stop = stop_of_fails (production goal) n small tokens from at x.fails;
  none = none_of_fails (production goal) n small tokens from at x.fails;
  few = x.few;
}
without_rank goal n small tokens old new from node (Err fault.NoMemory) pieces x went = x

-- no token passes a depth
pub uncut_answer : (goal : Goal) (tokens : List Lexeme) (old new : List (List ℕ)) (from node : ℕ) (answer : Result Part Fault) (r : Result Part Refusal) → ((k : ℕ) → IsDeep tokens from k → ⊥) →
    r ≡ uncut_of answer → MatchResult answer (IsRead goal tokens old new from node) (IsUnread goal tokens old new from) →
    MatchResult r (λ p. IsPhrase goal tokens old new from node p.expr p.end p.node) (IsRefused goal tokens old new from)
uncut_answer goal tokens old new from node answer r never is x = subst (λ v. MatchResult v (λ p. IsPhrase goal tokens old new from node p.expr p.end p.node) (IsRefused goal tokens old new from)) (sym is) (by answer x)
  where
    by : (a : Result Part Fault) → MatchResult a (IsRead goal tokens old new from node) (IsUnread goal tokens old new from) → MatchResult (uncut_of a) (λ p. IsPhrase goal tokens old new from node p.expr p.end p.node) (IsRefused goal tokens old new from)
    by (Ok p) x = record { stop = x.stop; only = x.only; shallow = λ k low lt. never k; known = x.known; nodes = x.nodes; few_nodes = x.few_nodes; few = x.few }
    by (Err (fault.Unexpected at)) x = record { stop = x.stop; none = x.none; shallow = λ k low lt. never k; few = x.few }
    by (Err fault.NoMemory) x = x

pub take_take : (i j : ℕ) (l : List Lexeme) → i ≤ j → take i (take j l) ≡ take i l
take_take zero j l h = refl
take_take (suc i) zero l h = absurd (omega arith)
take_take (suc i) (suc j) [] h = refl
take_take (suc i) (suc j) (x ∷ l) h = ap (λ m. x ∷ m) (take_take i j l (omega arith))

same_range : (l : List Lexeme) (n from to : ℕ) → from ≤ n → to ≤ n → slice_range (take n l) from to ≡ slice_range l from to
same_range l n from to low high =
    let parts : n ≡ from + (n - from) = omega arith in
    ap (λ k. take (to - from) (drop from (take k l))) parts ∙ ap (take (to - from)) (drop-take from (n - from) l) ∙ take_take (to - from) (n - from) (drop from l) (omega arith)

-- the tokens up to the first that passes a depth
module _ (goal : Goal) (tokens : List Lexeme) (old new : List (List ℕ)) (from node deep : ℕ) (low : from ≤ deep) (high : deep < length tokens) (is_deep : IsDeep tokens from deep) (first : (k : ℕ) → from ≤ k → k < deep → IsDeep tokens from k → ⊥) where
  front : List Lexeme
  front = take (deep + 1) tokens

  long : length (take (deep + 1) tokens) ≡ deep + 1
  long = length-take-le (deep + 1) tokens (omega arith)

  same : (to : ℕ) → to ≤ deep + 1 → slice_range (take (deep + 1) tokens) from to ≡ slice_range tokens from to
  same to le = same_range tokens (deep + 1) from to (omega arith) le

  stop : (q : ℕ) → q ≤ deep → IsStop (production goal) (take (deep + 1) tokens) from q → IsStop (production goal) tokens from q
  stop q le s = record {
    low = s.low;
    high = omega arith;
    before = λ k above below. subst (Begins (production goal)) (same k (omega arith)) (s.before k above below);
    none = λ lt b. s.none (omega (arith, long)) (subst (Begins (production goal)) (sym (same (q + 1) (omega arith))) b);
  }

  shallow : (q : ℕ) → q ≤ deep → IsShallow tokens from q
  shallow q le = λ k above below. first k above (omega arith)

  too_deep : (q : ℕ) → deep < q → IsStop (production goal) (take (deep + 1) tokens) from q → AreFew old new from q → IsTooDeep goal tokens old new from deep
  too_deep q lt s few = record {
    low = low;
    high = high;
    deep = is_deep;
    first = first;
    begun = subst (Begins (production goal)) (same (deep + 1) (omega arith)) (s.before (deep + 1) (omega arith) (omega arith));
    few = omega (arith, s.high, long, few);
  }

  pub cut_answer : (answer : Result Part Fault) (r : Result Part Refusal) → r ≡ cut_of answer deep →
      MatchResult answer (IsRead goal (take (deep + 1) tokens) old new from node) (IsUnread goal (take (deep + 1) tokens) old new from) →
      MatchResult r (λ p. IsPhrase goal tokens old new from node p.expr p.end p.node) (IsRefused goal tokens old new from)
  cut_answer answer r is x = subst (λ v. MatchResult v (λ p. IsPhrase goal tokens old new from node p.expr p.end p.node) (IsRefused goal tokens old new from)) (sym is) (by answer x)
    where
      by : (a : Result Part Fault) → MatchResult a (IsRead goal (take (deep + 1) tokens) old new from node) (IsUnread goal (take (deep + 1) tokens) old new from) → MatchResult (cut_of a deep) (λ p. IsPhrase goal tokens old new from node p.expr p.end p.node) (IsRefused goal tokens old new from)
      by (Ok p) x = within (leb p.end deep) refl
        where
          within : (b : Bool) → leb p.end deep ≡ b → MatchResult (cond b (Ok p) (Err (refusal.TooDeep deep))) (λ p. IsPhrase goal tokens old new from node p.expr p.end p.node) (IsRefused goal tokens old new from)
          within true e =
              let le : p.end ≤ deep = grind (arith, nat_tests) in
              record {
                stop = stop p.end le x.stop;
                only = subst (IsOnly (production goal) (expr_shape new p.expr)) (same p.end (omega arith)) x.only;
                shallow = shallow p.end le;
                known = x.known;
                nodes = x.nodes;
                few_nodes = x.few_nodes;
                few = x.few;
              }
          within false e = let gt : deep < p.end = grind (arith, nat_tests) in too_deep p.end gt x.stop x.few
      by (Err (fault.Unexpected at)) x = within (leb at deep) refl
        where
          within : (b : Bool) → leb at deep ≡ b → MatchResult (cond b (Err (refusal.Unexpected at)) (Err (refusal.TooDeep deep))) (λ (p : Part). IsPhrase goal tokens old new from node p.expr p.end p.node) (IsRefused goal tokens old new from)
          within true e =
              let le : at ≤ deep = grind (arith, nat_tests) in
              record {
                stop = stop at le x.stop;
                none = λ shape g. x.none shape (subst (λ us. production goal shape us []) (sym (same at (omega arith))) g);
                shallow = shallow at le;
                few = x.few;
              }
          within false e = let gt : deep < at = grind (arith, nat_tests) in too_deep at gt x.stop x.few
      by (Err fault.NoMemory) x = omega (arith, x, long)

-- a refusal in a text
told : (goal : Goal) (text : List ℕ) (tokens : List Token) (read : List Lexeme) (old new : List (List ℕ)) (from : ℕ) (why : Refusal) (f : SyntaxFault) → f ≡ fault_of text tokens why → length read ≡ length tokens → IsRefused goal read old new from why → IsFault goal text tokens read old new from f
told goal text tokens read old new from why f is long x = subst (IsFault goal text tokens read old new from) (sym is) (by why x)
  where
    by : (w : Refusal) → IsRefused goal read old new from w → IsFault goal text tokens read old new from (fault_of text tokens w)
    by (refusal.Unexpected at) x = record { token = at; stands = refl; fact = x }
    by (refusal.TooDeep at) x = record { token = at; stands = refl; fact = x }
    by refusal.NoMemory x = omega (arith, x, long)

-- what a scan for the first token that passes a depth tells
abbrev pub Scanned : List Lexeme → ℕ → Option ℕ → Type 0
Scanned tokens from r = MatchOption r ((k : ℕ) → IsDeep tokens from k → ⊥) (λ k. IsFirst (IsDeep tokens from) k)

front_lexemes : (n : ℕ) (pieces : List Piece) → lexemes (take n pieces) ≡ take n (lexemes pieces)
front_lexemes zero pieces = refl
front_lexemes (suc n) [] = refl
front_lexemes (suc n) (p ∷ pieces) = ap (λ ls. lexeme p ∷ ls) (front_lexemes n pieces)

-- the answers of the pieces of a text, by what the scan tells
module _ (goal : Goal) (pieces : List Piece) (old new : List (List ℕ)) (from node : ℕ) (scanned : Option ℕ) (s : Scanned (lexemes pieces) from scanned) where
  pub all_pieces : (answer : Result Part Fault) (r : Result Part Refusal) → scanned ≡ None → r ≡ uncut_of answer →
      MatchResult answer (IsRead goal (lexemes pieces) old new from node) (IsUnread goal (lexemes pieces) old new from) →
      MatchResult r (λ p. IsPhrase goal (lexemes pieces) old new from node p.expr p.end p.node) (IsRefused goal (lexemes pieces) old new from)
  all_pieces answer r none is x = uncut_answer goal (lexemes pieces) old new from node answer r (subst (Scanned (lexemes pieces) from) none s) is x

  pub front_pieces : (deep : ℕ) (answer : Result Part Fault) (r : Result Part Refusal) → scanned ≡ Some deep → r ≡ cut_of answer deep →
      MatchResult answer (IsRead goal (lexemes (take (deep + 1) pieces)) old new from node) (IsUnread goal (lexemes (take (deep + 1) pieces)) old new from) →
      MatchResult r (λ p. IsPhrase goal (lexemes pieces) old new from node p.expr p.end p.node) (IsRefused goal (lexemes pieces) old new from)
  front_pieces deep answer r some is x =
      let f : IsFirst (IsDeep (lexemes pieces) from) deep = subst (Scanned (lexemes pieces) from) some s in
      cut_answer goal (lexemes pieces) old new from node deep f.passes.low (slice_get_within (lexemes pieces) deep f.passes.token f.passes.stands) f.passes (λ k above below. f.first k below) answer r is
      (subst (λ ls. MatchResult answer (IsRead goal ls old new from node) (IsUnread goal ls old new from)) (front_lexemes (deep + 1) pieces) x)

-- the answers of the tokens of a text, by those of its pieces
module _ (goal : Goal) (text : List ℕ) (pairs : List (ℕ × ℕ)) (tokens : List Token) (pieces shown : List Piece) (old new : List (List ℕ)) (from : ℕ) (same : shown ≡ pieces) (are : lexemes pieces ≡ lexemes_of text pairs tokens) where
  pub phrase_told : (node : ℕ) (expr : Expr) (end next : ℕ) → IsPhrase goal (lexemes shown) old new from node expr end next → IsPhrase goal (lexemes_of text pairs tokens) old new from node expr end next
  phrase_told node expr end next x = subst (λ ls. IsPhrase goal ls old new from node expr end next) (ap lexemes same ∙ are) x

  pub refusal_told : (why : Refusal) (f : SyntaxFault) → f ≡ fault_of text tokens why → IsRefused goal (lexemes shown) old new from why → IsFault goal text tokens (lexemes_of text pairs tokens) old new from f
  refusal_told why f is x = told goal text tokens (lexemes_of text pairs tokens) old new from why f is (length-map tokens (lexeme_of text pairs)) (subst (λ ls. IsRefused goal ls old new from why) (ap lexemes same ∙ are) x)
