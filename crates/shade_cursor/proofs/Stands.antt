-- Operators where they stand.
use Rattle.std.proofs.Common.{◌≡◌, sym, ap, ◌∙◌, subst, ◌≤◌, Option, None, Some, List, arith}
use Rattle.shade_base.specs.declared.place.Place.{Place}
use Rattle.shade_ast.specs.declared.lexeme.Sign.TheVariants as sign
use Rattle.shade_ast.specs.declared.expr.Infix.{Infix as InfixOperator}
use Rattle.shade_ast.specs.declared.expr.Infix.TheVariants as between
use Rattle.shade_ast.specs.Lexemes.{Lexeme, Mark}
use Rattle.shade_ast.specs.Shapes.{ExprShape, infixed, place_of}
use Rattle.shade_ast.specs.Expressions.{Unary, Multiplicative}
use Rattle.shade_ast.specs.Reads.{rank_of}
use Rattle.shade_ast.specs.Chains.{Infix}
use Rattle.shade_ast.specs.Steps.{Factor, Term}
use Rattle.shade_cursor.specs.Operators.{found, factor_of, term_of, relation_of}
use Rattle.shade_cursor.proofs.Tokens.{Told, told, pair, op_one}

relation_greater : (t : Lexeme) (p : Place) → relation_of t ≡ Some (between.Greater, p) → t ≡ Mark sign.Greater p
relation_greater (Mark sign.Greater q) p e = let both : pair between.Greater q ≡ pair between.Greater p = op_one between.Greater between.Greater q p e in ap (λ x. Mark sign.Greater x.1) both
relation_greater (Mark sign.Less q) p e = absurd (let both : pair between.Less q ≡ pair between.Greater p = op_one between.Less between.Greater q p e in let bad : between.Less ≡ between.Greater = ap (λ x. x.0) both in cc)
relation_greater (Mark sign.LessEqual q) p e = absurd (let both : pair between.LessEqual q ≡ pair between.Greater p = op_one between.LessEqual between.Greater q p e in let bad : between.LessEqual ≡ between.Greater = ap (λ x. x.0) both in cc)
relation_greater (Mark sign.EqualEqual q) p e = absurd (let both : pair between.Equal q ≡ pair between.Greater p = op_one between.Equal between.Greater q p e in let bad : between.Equal ≡ between.Greater = ap (λ x. x.0) both in cc)
relation_greater (Mark sign.NotEqual q) p e = absurd (let both : pair between.NotEqual q ≡ pair between.Greater p = op_one between.NotEqual between.Greater q p e in let bad : between.NotEqual ≡ between.Greater = ap (λ x. x.0) both in cc)
relation_greater _ p e = absurd (let bad : None ≡ Some (between.Greater, p) = e in cc)

pub greater_stands : (m : Option Lexeme) (i : InfixOperator) (p : Place) → Some (i, p) ≡ found relation_of m → i ≡ between.Greater → m ≡ Some (Mark sign.Greater p)
greater_stands m i p e same =
    let t : Told relation_of m (i, p) = told relation_of m (i, p) e in
    t.stands ∙ ap Some (relation_greater t.token p (t.tells ∙ ap (λ x. Some (x, p)) same))

pub factor_there : (t : Lexeme) (i : InfixOperator) (p : Place) → factor_of t ≡ Some (i, p) → (l q : ExprShape) (us zs : List Lexeme) → Factor t l q us zs → Infix Unary (infixed (place_of l) l i p) q us zs
factor_there (Mark sign.Star s) i p e l q us zs k = let both : pair between.Multiply s ≡ pair i p = op_one between.Multiply i s p e in subst (λ x. Infix Unary (infixed (place_of l) l x.0 x.1) q us zs) both k
factor_there (Mark sign.Slash s) i p e l q us zs k = let both : pair between.Divide s ≡ pair i p = op_one between.Divide i s p e in subst (λ x. Infix Unary (infixed (place_of l) l x.0 x.1) q us zs) both k
factor_there (Mark sign.Percent s) i p e l q us zs k = let both : pair between.Remainder s ≡ pair i p = op_one between.Remainder i s p e in subst (λ x. Infix Unary (infixed (place_of l) l x.0 x.1) q us zs) both k
factor_there _ i p e l q us zs k = absurd k

pub factor_here : (t : Lexeme) (i : InfixOperator) (p : Place) → factor_of t ≡ Some (i, p) → (l q : ExprShape) (us zs : List Lexeme) → Infix Unary (infixed (place_of l) l i p) q us zs → Factor t l q us zs
factor_here (Mark sign.Star s) i p e l q us zs k = let both : pair between.Multiply s ≡ pair i p = op_one between.Multiply i s p e in subst (λ x. Infix Unary (infixed (place_of l) l x.0 x.1) q us zs) (sym both) k
factor_here (Mark sign.Slash s) i p e l q us zs k = let both : pair between.Divide s ≡ pair i p = op_one between.Divide i s p e in subst (λ x. Infix Unary (infixed (place_of l) l x.0 x.1) q us zs) (sym both) k
factor_here (Mark sign.Percent s) i p e l q us zs k = let both : pair between.Remainder s ≡ pair i p = op_one between.Remainder i s p e in subst (λ x. Infix Unary (infixed (place_of l) l x.0 x.1) q us zs) (sym both) k
factor_here _ i p e l q us zs k = absurd (let bad : None ≡ Some (i, p) = e in cc)

pub factor_low : (t : Lexeme) (i : InfixOperator) (p : Place) → factor_of t ≡ Some (i, p) → rank_of t ≤ 3
factor_low (Mark sign.Star s) i p e = omega arith
factor_low (Mark sign.Slash s) i p e = omega arith
factor_low (Mark sign.Percent s) i p e = omega arith
factor_low _ i p e = absurd (let bad : None ≡ Some (i, p) = e in cc)

pub factor_none : (t : Lexeme) → factor_of t ≡ None → (l q : ExprShape) (us zs : List Lexeme) → Factor t l q us zs → ⊥
factor_none (Mark sign.Star s) e l q us zs k = let bad : Some (pair between.Multiply s) ≡ None = e in cc
factor_none (Mark sign.Slash s) e l q us zs k = let bad : Some (pair between.Divide s) ≡ None = e in cc
factor_none (Mark sign.Percent s) e l q us zs k = let bad : Some (pair between.Remainder s) ≡ None = e in cc
factor_none _ e l q us zs k = k

pub term_there : (t : Lexeme) (i : InfixOperator) (p : Place) → term_of t ≡ Some (i, p) → (l q : ExprShape) (us zs : List Lexeme) → Term t l q us zs → Infix Multiplicative (infixed (place_of l) l i p) q us zs
term_there (Mark sign.Plus s) i p e l q us zs k = let both : pair between.Add s ≡ pair i p = op_one between.Add i s p e in subst (λ x. Infix Multiplicative (infixed (place_of l) l x.0 x.1) q us zs) both k
term_there (Mark sign.Minus s) i p e l q us zs k = let both : pair between.Subtract s ≡ pair i p = op_one between.Subtract i s p e in subst (λ x. Infix Multiplicative (infixed (place_of l) l x.0 x.1) q us zs) both k
term_there _ i p e l q us zs k = absurd k

pub term_here : (t : Lexeme) (i : InfixOperator) (p : Place) → term_of t ≡ Some (i, p) → (l q : ExprShape) (us zs : List Lexeme) → Infix Multiplicative (infixed (place_of l) l i p) q us zs → Term t l q us zs
term_here (Mark sign.Plus s) i p e l q us zs k = let both : pair between.Add s ≡ pair i p = op_one between.Add i s p e in subst (λ x. Infix Multiplicative (infixed (place_of l) l x.0 x.1) q us zs) (sym both) k
term_here (Mark sign.Minus s) i p e l q us zs k = let both : pair between.Subtract s ≡ pair i p = op_one between.Subtract i s p e in subst (λ x. Infix Multiplicative (infixed (place_of l) l x.0 x.1) q us zs) (sym both) k
term_here _ i p e l q us zs k = absurd (let bad : None ≡ Some (i, p) = e in cc)

pub term_low : (t : Lexeme) (i : InfixOperator) (p : Place) → term_of t ≡ Some (i, p) → rank_of t ≤ 4
term_low (Mark sign.Plus s) i p e = omega arith
term_low (Mark sign.Minus s) i p e = omega arith
term_low _ i p e = absurd (let bad : None ≡ Some (i, p) = e in cc)

pub term_none : (t : Lexeme) → term_of t ≡ None → (l q : ExprShape) (us zs : List Lexeme) → Term t l q us zs → ⊥
term_none (Mark sign.Plus s) e l q us zs k = let bad : Some (pair between.Add s) ≡ None = e in cc
term_none (Mark sign.Minus s) e l q us zs k = let bad : Some (pair between.Subtract s) ≡ None = e in cc
term_none _ e l q us zs k = k
