-- Products and sums, one operator at a time; a list, one item at a time.
use Rattle.std.proofs.Common.{◌≡◌, refl, sym, ap, ◌∙◌, subst, ℕ, ◌+◌, ◌<◌, ◌≤◌, true, false, None, Some, List, [], ◌∷◌, ◌++◌, length, map, arith, append_assoc, slice_get}
use Rattle.std.proofs.lemmas.List.{append-nil}
use Rattle.shade_base.specs.declared.place.Place.{Place}
use Rattle.shade_ast.specs.declared.lexeme.Sign.{Sign}
use Rattle.shade_ast.specs.declared.lexeme.Sign.TheVariants as sign
use Rattle.shade_ast.specs.declared.expr.Infix.{Infix as InfixOperator}
use Rattle.shade_ast.specs.declared.expr.Expr.{Expr}
use Rattle.shade_ast.specs.Lexemes.{Lexeme, Mark}
use Rattle.shade_ast.specs.Names.{Grows}
use Rattle.shade_ast.specs.Shapes.{ExprShape, infixed, place_of}
use Rattle.shade_ast.specs.Shaped.{expr_shape}
use Rattle.shade_ast.specs.Needs.{most_of, expr_needs}
use Rattle.shade_ast.specs.Nodes.{joined_of, expr_nodes, CountFrom}
use Rattle.shade_ast.specs.Repeats.{Listed}
use Rattle.shade_ast.specs.Expressions.{Additive, Expression, Multiplicative, Unary}
use Rattle.shade_ast.specs.Reads.{Reads, Fails}
use Rattle.shade_ast.proofs.Stages.{Stage}
use Rattle.shade_ast.specs.Chains.{Tail, Closed}
use Rattle.shade_ast.proofs.Tails.{tail_ends, left_more, left_more_fails}
use Rattle.shade_ast.specs.Steps.{Factor, Term}
use Rattle.shade_ast.proofs.LeftLaws.{factors, factor_ranks, terms, term_ranks}
use Rattle.shade_ast.proofs.ShapeLaws.{expr_grows, list_grows, length_grows, grows_here, grows_trans}
use Rattle.shade_cursor.specs.declared.part.Part.{Part}
use Rattle.shade_cursor.specs.declared.part.Listing.{Listing}
use Rattle.shade_cursor.specs.Operators.{found, factor_of, term_of, Closing}
use Rattle.shade_parse_expr.specs.Parts.{ReadsTree, ReadsList}
use Rattle.shade_cursor.proofs.Tokens.{Told, told, untold, pair}
use Rattle.shade_cursor.proofs.Stands.{factor_there, factor_here, factor_low, factor_none, term_there, term_here, term_low, term_none}
use Rattle.shade_parse_expr.proofs.Trees.{count_join, counted_all}
use Rattle.shade_parse_expr.proofs.Turns.{ListTurn}
use Rattle.shade_parse_expr.proofs.Listings.{list_begin, list_close, list_comma_close, list_item_fails, list_more, list_stuck}

module _ (tokens : List Lexeme) (from at : ℕ) (l : ExprShape) (s : Stage Multiplicative 3 tokens from at (Tail Factor l)) where
  pub factor_end : None ≡ found factor_of (slice_get tokens at) → Reads Multiplicative 3 tokens from l at
  factor_end none = tail_ends Factor Multiplicative 3 tokens from at l (λ t q us zs is i. factor_none t (untold factor_of (slice_get tokens at) t none is) l q us zs i) s

  module _ (i : InfixOperator) (p : Place) (is : Some (pair i p) ≡ found factor_of (slice_get tokens at)) (to : ℕ) where
    factor_token : Told factor_of (slice_get tokens at) (pair i p)
    factor_token = told factor_of (slice_get tokens at) (pair i p) is

    pub factor_more : (b : ExprShape) → Reads Unary 2 tokens (at + 1) b to → Stage Multiplicative 3 tokens from to (Tail Factor (infixed (place_of l) l i p b))
    factor_more b x =
        let t = factor_token in
        left_more Multiplicative Unary Factor 3 2 factors tokens from Unary 2 (λ l b. infixed (place_of l) l i p b) t.token (omega arith) factor_ranks (factor_low t.token i p t.tells) at l
        (factor_there t.token i p t.tells l) (factor_here t.token i p t.tells l) t.stands s to b (infixed (place_of l) l i p b) refl x

    pub factor_fails : Fails Unary 2 tokens (at + 1) to → Fails Multiplicative 3 tokens from to
    factor_fails f =
        let t = factor_token in
        left_more_fails Multiplicative Unary Factor 3 2 factors tokens from Unary 2 (λ l b. infixed (place_of l) l i p b) t.token (omega arith) factor_ranks (factor_low t.token i p t.tells) at l (factor_there t.token i p t.tells l) (factor_here t.token i p t.tells l) t.stands s to f

module _ (tokens : List Lexeme) (from at : ℕ) (l : ExprShape) (s : Stage Additive 4 tokens from at (Tail Term l)) where
  pub term_end : None ≡ found term_of (slice_get tokens at) → Reads Additive 4 tokens from l at
  term_end none = tail_ends Term Additive 4 tokens from at l (λ t q us zs is i. term_none t (untold term_of (slice_get tokens at) t none is) l q us zs i) s

  module _ (i : InfixOperator) (p : Place) (is : Some (pair i p) ≡ found term_of (slice_get tokens at)) (to : ℕ) where
    term_token : Told term_of (slice_get tokens at) (pair i p)
    term_token = told term_of (slice_get tokens at) (pair i p) is

    pub term_more : (b : ExprShape) → Reads Multiplicative 3 tokens (at + 1) b to → Stage Additive 4 tokens from to (Tail Term (infixed (place_of l) l i p b))
    term_more b x =
        let t = term_token in
        left_more Additive Multiplicative Term 4 3 terms tokens from Multiplicative 3 (λ l b. infixed (place_of l) l i p b) t.token (omega arith) term_ranks (term_low t.token i p t.tells) at l
        (term_there t.token i p t.tells l) (term_here t.token i p t.tells l) t.stands s to b (infixed (place_of l) l i p b) refl x

    pub term_fails : Fails Multiplicative 3 tokens (at + 1) to → Fails Additive 4 tokens from to
    term_fails f =
        let t = term_token in
        left_more_fails Additive Multiplicative Term 4 3 terms tokens from Multiplicative 3 (λ l b. infixed (place_of l) l i p b) t.token (omega arith) term_ranks (term_low t.token i p t.tells) at l (term_there t.token i p t.tells l) (term_here t.token i p t.tells l) t.stands s to f

-- lists
map_one : {A B : Type 0} (f : A → B) (xs : List A) (x : A) → map f (xs ++ x ∷ []) ≡ map f xs ++ f x ∷ []
map_one f [] x = refl
map_one f (y ∷ xs) x = ap (λ l. f y ∷ l) (map_one f xs x)

most_one : (xs : List Expr) (x : Expr) (n : ℕ) → most_of expr_needs xs ≤ n → expr_needs x ≤ n → most_of expr_needs (xs ++ x ∷ []) ≤ n
most_one [] x n a b = omega arith
most_one (y ∷ xs) x n a b = let rest : most_of expr_needs (xs ++ x ∷ []) ≤ n = most_one xs x n (omega arith) b in omega arith

joined_one : (xs : List Expr) (x : Expr) → joined_of expr_nodes (xs ++ x ∷ []) ≡ joined_of expr_nodes xs ++ expr_nodes x
joined_one [] x = append-nil (expr_nodes x)
joined_one (y ∷ xs) x = ap (λ l. expr_nodes y ++ l) (joined_one xs x) ∙ sym (append_assoc (expr_nodes y) (joined_of expr_nodes xs) (expr_nodes x))

pub turn_list : (s : Sign) (c : Closing s) (tokens : List Lexeme) (size : ℕ) (names : List (List ℕ)) (from start : ℕ) (items : List Expr) → items ≡ [] → from ≤ length tokens → from ≤ size → ListTurn s tokens size names names from start items from start
turn_list s c tokens size names from start items none h within =
    subst (λ l. ListTurn s tokens size names names from start l from start) (sym none)
    (record {
      stage = list_begin s c tokens from h;
      known = omega arith;
      nodes = refl;
      grows = grows_here names;
      past = omega arith;
      within = within;
      numbered = omega arith;
      few = omega arith;
    })

module _ (s : Sign) (c : Closing s) (tokens : List Lexeme) (size : ℕ) (first mid new : List (List ℕ)) (from start : ℕ) (items more : List Expr) (at node : ℕ) (t : ListTurn s tokens size first mid from start items at node) where
  pub turn_item_fails : (to : ℕ) → Fails Expression 7 tokens at to → Fails (Closed (Listed Expression) (Mark s)) 0 tokens from to
  turn_item_fails to f = list_item_fails s c tokens from at (map (expr_shape mid) items) t.stage to f

  module _ (g : Grows mid new) (r : Part) (x : ReadsTree Expression 7 tokens new [] at node r) (is : more ≡ items ++ r.expr ∷ []) where
    grown : map (expr_shape new) items ≡ map (expr_shape mid) items
    grown = list_grows expr_needs expr_shape expr_grows mid new items t.known g

    shapes : map (expr_shape new) more ≡ map (expr_shape mid) items ++ expr_shape new r.expr ∷ []
    shapes = ap (map (expr_shape new)) is ∙ map_one (expr_shape new) items r.expr ∙ ap (λ l. l ++ expr_shape new r.expr ∷ []) grown

    known : most_of expr_needs more ≤ length new
    known = subst (λ l. most_of expr_needs l ≤ length new) (sym is) (most_one items r.expr (length new) (let k : most_of expr_needs items ≤ length mid = t.known in let le : length mid ≤ length new = length_grows mid new g in omega arith) x.known)

    numbers : CountFrom start (joined_of expr_nodes more) r.node
    numbers = subst (λ l. CountFrom start l r.node) (sym (ap (joined_of expr_nodes) is ∙ joined_one items r.expr)) (count_join (joined_of expr_nodes items) (expr_nodes r.expr) start node r.node t.nodes (counted_all (expr_nodes r.expr) node r.node x.nodes))

    pub turn_stuck : ((q : Place) → slice_get tokens r.end ≡ Some (Mark s q) → ⊥) → ((q : Place) → slice_get tokens r.end ≡ Some (Mark sign.Comma q) → ⊥) → Fails (Closed (Listed Expression) (Mark s)) 0 tokens from r.end
    turn_stuck no_close no_comma = list_stuck s c tokens from at (map (expr_shape mid) items) t.stage (expr_shape new r.expr) (map (expr_shape new) more) r.end x.reads shapes no_close no_comma

    pub turn_close : (l : Listing) (q : Place) → slice_get tokens r.end ≡ Some (Mark s q) → l ≡ record { items = more; trailing = false; end = r.end + 1; node = r.node } → ReadsList (Closed (Listed Expression) (Mark s)) 0 tokens new from start l
    turn_close l q closes same =
        subst (λ y. ReadsList (Closed (Listed Expression) (Mark s)) 0 tokens new from start y) (sym same)
        (record { reads = list_close s c tokens from at (map (expr_shape mid) items) t.stage (expr_shape new r.expr) (map (expr_shape new) more) r.end x.reads shapes q closes; known = known; nodes = numbers })

    module _ (q : Place) (commas : slice_get tokens r.end ≡ Some (Mark sign.Comma q)) where
      pub turn_comma_close : (l : Listing) (p : Place) → slice_get tokens (r.end + 1) ≡ Some (Mark s p) → l ≡ record { items = more; trailing = true; end = r.end + 1 + 1; node = r.node } → ReadsList (Closed (Listed Expression) (Mark s)) 0 tokens new from start l
      turn_comma_close l p closes same =
          subst (λ y. ReadsList (Closed (Listed Expression) (Mark s)) 0 tokens new from start y) (sym same)
          (record { reads = list_comma_close s c tokens from at (map (expr_shape mid) items) t.stage (expr_shape new r.expr) (map (expr_shape new) more) r.end x.reads shapes q commas p closes; known = known; nodes = numbers })

      pub turn_more : ((p : Place) → slice_get tokens (r.end + 1) ≡ Some (Mark s p) → ⊥) → at < r.end → r.end + 1 ≤ size → r.node + at ≤ node + r.end → length new + at ≤ length mid + r.end → ListTurn s tokens size first new from start more (r.end + 1) r.node
      turn_more never past within numbered few =
          let t_past : from ≤ at = t.past in
          let t_numbered : node + from ≤ start + at = t.numbered in
          let t_few : length mid + from ≤ length first + at = t.few in
          record {
            stage = list_more s c tokens from at (map (expr_shape mid) items) t.stage (expr_shape new r.expr) (map (expr_shape new) more) r.end x.reads shapes q commas never;
            known = known;
            nodes = numbers;
            grows = grows_trans first mid new t.grows g;
            past = omega arith;
            within = within;
            numbered = omega arith;
            few = omega arith;
          }
