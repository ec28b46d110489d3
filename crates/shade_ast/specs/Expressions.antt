-- Types, expressions and left sides (WGSL, "Expression Grammar"): a relation for each production, a constructor for each
-- alternative, and none is preferred to another. Each relates the shape of what is read, the tokens from its first one on and
-- the tokens behind it.
use Rattle.std.specs.Prelude.{ℕ, Bool, true, false, List, ◌∷◌}
use Rattle.shade_base.specs.declared.place.Place.{Place}
use Rattle.shade_lex.specs.declared.token.Suffix.{Suffix}
use Rattle.shade_ast.specs.declared.lexeme.Keyword.TheVariants as word
use Rattle.shade_ast.specs.declared.lexeme.Sign.TheVariants as sign
use Rattle.shade_ast.specs.declared.expr.Infix.TheVariants as between
use Rattle.shade_ast.specs.declared.expr.Prefix.TheVariants as before
use Rattle.shade_ast.specs.Lexemes.{Lexeme, Word, Key, Number, Mark, Adjacent}
use Rattle.shade_ast.specs.Shapes.{NameShape, ExprShape, ExprShapes, infixed, prefixed, member, index, call, template, named, number, truth, falsity, paren, no_exprs, exprs, place_of}

mutual
  -- type : NAME ('<' expr,+ '>')?
  pub data TypeName : ExprShape → List Lexeme → List Lexeme → Type 0 where
    plain_type : (p : Place) (text : List ℕ) {ts : List Lexeme} → TypeName (named p text) (Word text p ∷ ts) ts
    template_type : (p q r : Place) (text : List ℕ) {es : ExprShapes} {trailing : Bool} {ts us : List Lexeme} → Expressions (es, trailing) ts (Mark sign.CloseTemplate r ∷ us) → TypeName (template p text es trailing) (Word text p ∷ (Mark sign.OpenTemplate q ∷ ts)) us

  -- expr,+
  pub data Expressions : ExprShapes × Bool → List Lexeme → List Lexeme → Type 0 where
    last_expr : {e : ExprShape} {ts us : List Lexeme} → Expression e ts us → Expressions (exprs e no_exprs, false) ts us
    last_expr_comma : {e : ExprShape} (p : Place) {ts us : List Lexeme} → Expression e ts (Mark sign.Comma p ∷ us) → Expressions (exprs e no_exprs, true) ts us
    more_exprs : {e : ExprShape} {es : ExprShapes} {trailing : Bool} (p : Place) {ts us vs : List Lexeme} → Expression e ts (Mark sign.Comma p ∷ us) → Expressions (es, trailing) us vs → Expressions (exprs e es, trailing) ts vs

  -- expr,*
  pub data MaybeExpressions : ExprShapes × Bool → List Lexeme → List Lexeme → Type 0 where
    no_expr : {ts : List Lexeme} → MaybeExpressions (no_exprs, false) ts ts
    some_exprs : {es : ExprShapes × Bool} {ts us : List Lexeme} → Expressions es ts us → MaybeExpressions es ts us

  -- expr : rel | or '||' rel | and '&&' rel | bitand '&' unary | bitor '|' unary | bitxor '^' unary
  pub data Expression : ExprShape → List Lexeme → List Lexeme → Type 0 where
    relational : {e : ExprShape} {ts us : List Lexeme} → Relational e ts us → Expression e ts us
    either : {a b : ExprShape} (p : Place) {ts us vs : List Lexeme} → Or a ts (Mark sign.OrOr p ∷ us) → Relational b us vs → Expression (infixed (place_of a) a between.Or p b) ts vs
    both : {a b : ExprShape} (p : Place) {ts us vs : List Lexeme} → And a ts (Mark sign.AndAnd p ∷ us) → Relational b us vs → Expression (infixed (place_of a) a between.And p b) ts vs
    bit_and : {a b : ExprShape} (p : Place) {ts us vs : List Lexeme} → BitAnd a ts (Mark sign.Ampersand p ∷ us) → Unary b us vs → Expression (infixed (place_of a) a between.BitAnd p b) ts vs
    bit_or : {a b : ExprShape} (p : Place) {ts us vs : List Lexeme} → BitOr a ts (Mark sign.Bar p ∷ us) → Unary b us vs → Expression (infixed (place_of a) a between.BitOr p b) ts vs
    bit_xor : {a b : ExprShape} (p : Place) {ts us vs : List Lexeme} → BitXor a ts (Mark sign.Caret p ∷ us) → Unary b us vs → Expression (infixed (place_of a) a between.BitXor p b) ts vs

  -- or : rel | or '||' rel
  pub data Or : ExprShape → List Lexeme → List Lexeme → Type 0 where
    or_first : {e : ExprShape} {ts us : List Lexeme} → Relational e ts us → Or e ts us
    or_more : {a b : ExprShape} (p : Place) {ts us vs : List Lexeme} → Or a ts (Mark sign.OrOr p ∷ us) → Relational b us vs → Or (infixed (place_of a) a between.Or p b) ts vs

  -- and : rel | and '&&' rel
  pub data And : ExprShape → List Lexeme → List Lexeme → Type 0 where
    and_first : {e : ExprShape} {ts us : List Lexeme} → Relational e ts us → And e ts us
    and_more : {a b : ExprShape} (p : Place) {ts us vs : List Lexeme} → And a ts (Mark sign.AndAnd p ∷ us) → Relational b us vs → And (infixed (place_of a) a between.And p b) ts vs

  -- bitand : unary | bitand '&' unary
  pub data BitAnd : ExprShape → List Lexeme → List Lexeme → Type 0 where
    bit_and_first : {e : ExprShape} {ts us : List Lexeme} → Unary e ts us → BitAnd e ts us
    bit_and_more : {a b : ExprShape} (p : Place) {ts us vs : List Lexeme} → BitAnd a ts (Mark sign.Ampersand p ∷ us) → Unary b us vs → BitAnd (infixed (place_of a) a between.BitAnd p b) ts vs

  -- bitor : unary | bitor '|' unary
  pub data BitOr : ExprShape → List Lexeme → List Lexeme → Type 0 where
    bit_or_first : {e : ExprShape} {ts us : List Lexeme} → Unary e ts us → BitOr e ts us
    bit_or_more : {a b : ExprShape} (p : Place) {ts us vs : List Lexeme} → BitOr a ts (Mark sign.Bar p ∷ us) → Unary b us vs → BitOr (infixed (place_of a) a between.BitOr p b) ts vs

  -- bitxor : unary | bitxor '^' unary
  pub data BitXor : ExprShape → List Lexeme → List Lexeme → Type 0 where
    bit_xor_first : {e : ExprShape} {ts us : List Lexeme} → Unary e ts us → BitXor e ts us
    bit_xor_more : {a b : ExprShape} (p : Place) {ts us vs : List Lexeme} → BitXor a ts (Mark sign.Caret p ∷ us) → Unary b us vs → BitXor (infixed (place_of a) a between.BitXor p b) ts vs

  -- rel : shift | shift ('<' | '>' | '<=' | '>=' | '==' | '!=') shift
  pub data Relational : ExprShape → List Lexeme → List Lexeme → Type 0 where
    shifted : {e : ExprShape} {ts us : List Lexeme} → Shift e ts us → Relational e ts us
    less : {a b : ExprShape} (p : Place) {ts us vs : List Lexeme} → Shift a ts (Mark sign.Less p ∷ us) → Shift b us vs → Relational (infixed (place_of a) a between.Less p b) ts vs
    greater : {a b : ExprShape} (p : Place) {ts us vs : List Lexeme} → Shift a ts (Mark sign.Greater p ∷ us) → Shift b us vs → Relational (infixed (place_of a) a between.Greater p b) ts vs
    less_equal : {a b : ExprShape} (p : Place) {ts us vs : List Lexeme} → Shift a ts (Mark sign.LessEqual p ∷ us) → Shift b us vs → Relational (infixed (place_of a) a between.LessEqual p b) ts vs
    greater_equal : {a b : ExprShape} (p q : Place) {ts us vs : List Lexeme} → Adjacent p q → Shift a ts (Mark sign.Greater p ∷ (Mark sign.Equal q ∷ us)) → Shift b us vs → Relational (infixed (place_of a) a between.GreaterEqual p b) ts vs
    equal : {a b : ExprShape} (p : Place) {ts us vs : List Lexeme} → Shift a ts (Mark sign.EqualEqual p ∷ us) → Shift b us vs → Relational (infixed (place_of a) a between.Equal p b) ts vs
    not_equal : {a b : ExprShape} (p : Place) {ts us vs : List Lexeme} → Shift a ts (Mark sign.NotEqual p ∷ us) → Shift b us vs → Relational (infixed (place_of a) a between.NotEqual p b) ts vs

  -- shift : add | unary ('<<' | '>>') unary
  pub data Shift : ExprShape → List Lexeme → List Lexeme → Type 0 where
    additive : {e : ExprShape} {ts us : List Lexeme} → Additive e ts us → Shift e ts us
    shift_left : {a b : ExprShape} (p : Place) {ts us vs : List Lexeme} → Unary a ts (Mark sign.ShiftLeft p ∷ us) → Unary b us vs → Shift (infixed (place_of a) a between.ShiftLeft p b) ts vs
    shift_right : {a b : ExprShape} (p q : Place) {ts us vs : List Lexeme} → Adjacent p q → Unary a ts (Mark sign.Greater p ∷ (Mark sign.Greater q ∷ us)) → Unary b us vs → Shift (infixed (place_of a) a between.ShiftRight p b) ts vs

  -- add : mul | add ('+' | '-') mul
  pub data Additive : ExprShape → List Lexeme → List Lexeme → Type 0 where
    multiplicative : {e : ExprShape} {ts us : List Lexeme} → Multiplicative e ts us → Additive e ts us
    add : {a b : ExprShape} (p : Place) {ts us vs : List Lexeme} → Additive a ts (Mark sign.Plus p ∷ us) → Multiplicative b us vs → Additive (infixed (place_of a) a between.Add p b) ts vs
    subtract : {a b : ExprShape} (p : Place) {ts us vs : List Lexeme} → Additive a ts (Mark sign.Minus p ∷ us) → Multiplicative b us vs → Additive (infixed (place_of a) a between.Subtract p b) ts vs

  -- mul : unary | mul ('*' | '/' | '%') unary
  pub data Multiplicative : ExprShape → List Lexeme → List Lexeme → Type 0 where
    unary : {e : ExprShape} {ts us : List Lexeme} → Unary e ts us → Multiplicative e ts us
    multiply : {a b : ExprShape} (p : Place) {ts us vs : List Lexeme} → Multiplicative a ts (Mark sign.Star p ∷ us) → Unary b us vs → Multiplicative (infixed (place_of a) a between.Multiply p b) ts vs
    divide : {a b : ExprShape} (p : Place) {ts us vs : List Lexeme} → Multiplicative a ts (Mark sign.Slash p ∷ us) → Unary b us vs → Multiplicative (infixed (place_of a) a between.Divide p b) ts vs
    remainder : {a b : ExprShape} (p : Place) {ts us vs : List Lexeme} → Multiplicative a ts (Mark sign.Percent p ∷ us) → Unary b us vs → Multiplicative (infixed (place_of a) a between.Remainder p b) ts vs

  -- unary : ('-' | '!' | '~' | '*' | '&') unary | primary access*
  pub data Unary : ExprShape → List Lexeme → List Lexeme → Type 0 where
    negate : {e : ExprShape} (p : Place) {ts us : List Lexeme} → Unary e ts us → Unary (prefixed p before.Negate e) (Mark sign.Minus p ∷ ts) us
    not : {e : ExprShape} (p : Place) {ts us : List Lexeme} → Unary e ts us → Unary (prefixed p before.Not e) (Mark sign.Bang p ∷ ts) us
    complement : {e : ExprShape} (p : Place) {ts us : List Lexeme} → Unary e ts us → Unary (prefixed p before.Complement e) (Mark sign.Tilde p ∷ ts) us
    deref : {e : ExprShape} (p : Place) {ts us : List Lexeme} → Unary e ts us → Unary (prefixed p before.Deref e) (Mark sign.Star p ∷ ts) us
    address_of : {e : ExprShape} (p : Place) {ts us : List Lexeme} → Unary e ts us → Unary (prefixed p before.AddressOf e) (Mark sign.Ampersand p ∷ ts) us
    operand : {e : ExprShape} {ts us : List Lexeme} → Singular e ts us → Unary e ts us

  -- primary access*
  pub data Singular : ExprShape → List Lexeme → List Lexeme → Type 0 where
    primary : {e : ExprShape} {ts us : List Lexeme} → Primary e ts us → Singular e ts us
    accessed : {e f : ExprShape} {ts us vs : List Lexeme} → Singular e ts us → Access e f us vs → Singular f ts vs

  -- access : '.' NAME | '[' expr ']', from the whole to its part
  pub data Access : ExprShape → ExprShape → List Lexeme → List Lexeme → Type 0 where
    by_name : {e : ExprShape} (p : Place) (n : NameShape) {ts : List Lexeme} → Access e (member (place_of e) e p n) (Mark sign.Dot p ∷ (Word n.text n.place ∷ ts)) ts
    by_index : {e i : ExprShape} (p q : Place) {ts us : List Lexeme} → Expression i ts (Mark sign.CloseBracket q ∷ us) → Access e (index (place_of e) e p i) (Mark sign.OpenBracket p ∷ ts) us

  -- primary : call | type | NUMBER | 'true' | 'false' | '(' expr ')'
  pub data Primary : ExprShape → List Lexeme → List Lexeme → Type 0 where
    called : {e : ExprShape} {ts us : List Lexeme} → Call e ts us → Primary e ts us
    typed : {e : ExprShape} {ts us : List Lexeme} → TypeName e ts us → Primary e ts us
    numeral : (p : Place) (value : ℕ) (suffix : Suffix) {ts : List Lexeme} → Primary (number p value suffix) (Number value suffix p ∷ ts) ts
    true_word : (p : Place) {ts : List Lexeme} → Primary (truth p) (Key word.True p ∷ ts) ts
    false_word : (p : Place) {ts : List Lexeme} → Primary (falsity p) (Key word.False p ∷ ts) ts
    parens : {e : ExprShape} (p q : Place) {ts us : List Lexeme} → Expression e ts (Mark sign.Close q ∷ us) → Primary (paren p e) (Mark sign.Open p ∷ ts) us

  -- call : type '(' expr,* ')'
  pub data Call : ExprShape → List Lexeme → List Lexeme → Type 0 where
    calls : {e : ExprShape} {es : ExprShapes} {trailing : Bool} (p q : Place) {ts us vs : List Lexeme} → TypeName e ts (Mark sign.Open p ∷ us) → MaybeExpressions (es, trailing) us (Mark sign.Close q ∷ vs) → Call (call (place_of e) e es trailing) ts vs

mutual
  -- lhs : '*' lhs | '&' lhs | (NAME | '(' lhs ')') access*
  pub data LeftSide : ExprShape → List Lexeme → List Lexeme → Type 0 where
    left_deref : {e : ExprShape} (p : Place) {ts us : List Lexeme} → LeftSide e ts us → LeftSide (prefixed p before.Deref e) (Mark sign.Star p ∷ ts) us
    left_address_of : {e : ExprShape} (p : Place) {ts us : List Lexeme} → LeftSide e ts us → LeftSide (prefixed p before.AddressOf e) (Mark sign.Ampersand p ∷ ts) us
    left_singular : {e : ExprShape} {ts us : List Lexeme} → LeftSingular e ts us → LeftSide e ts us

  -- (NAME | '(' lhs ')') access*
  pub data LeftSingular : ExprShape → List Lexeme → List Lexeme → Type 0 where
    left_name : (p : Place) (text : List ℕ) {ts : List Lexeme} → LeftSingular (named p text) (Word text p ∷ ts) ts
    left_parens : {e : ExprShape} (p q : Place) {ts us : List Lexeme} → LeftSide e ts (Mark sign.Close q ∷ us) → LeftSingular (paren p e) (Mark sign.Open p ∷ ts) us
    left_accessed : {e f : ExprShape} {ts us vs : List Lexeme} → LeftSingular e ts us → Access e f us vs → LeftSingular f ts vs
