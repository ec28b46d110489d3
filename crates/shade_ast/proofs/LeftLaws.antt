-- The productions that lead to themselves on their left: each is a first phrase and any number of steps to its right.
use Rattle.std.proofs.Common.{◌≡◌, refl, sym, subst, ℕ, ◌<◌, List, ◌∷◌, arith}
use Rattle.shade_base.specs.declared.place.Place.{Place}
use Rattle.shade_ast.specs.declared.lexeme.Sign.TheVariants as sign
use Rattle.shade_ast.specs.declared.expr.Infix.TheVariants as between
use Rattle.shade_ast.specs.Lexemes.{Lexeme, Word, Mark}
use Rattle.shade_ast.specs.Shapes.{NameShape, ExprShape, infixed, member, index, named, paren, place_of}
use Rattle.shade_ast.specs.Expressions.{Access, Additive, And, BitAnd, BitOr, BitXor, Expression, LeftSide, LeftSingular, Multiplicative, Or, Primary, Relational, Singular, Unary, accessed, add, and_first, and_more, bit_and_first, bit_and_more, bit_or_first, bit_or_more, bit_xor_first, bit_xor_more, by_index, by_name, divide, left_accessed, left_name, left_parens, multiplicative, multiply, or_first, or_more, primary, remainder, subtract, unary}
use Rattle.shade_ast.specs.Reads.{rank_of}
use Rattle.shade_ast.specs.Chains.{After, Tail, on, Infix}
use Rattle.shade_ast.proofs.Tails.{Leftward}
use Rattle.shade_ast.specs.Steps.{Factor, Term, OrStep, AndStep, BitAndStep, BitOrStep, BitXorStep, MemberStep, IndexStep, AccessStep, LeftFirst, first_name, first_parens}

-- products
pub factor_ranks : (t : Lexeme) (l q : ExprShape) (us zs : List Lexeme) → Factor t l q us zs → 2 < rank_of t
factor_ranks (Mark sign.Star p) l q us zs i = omega arith
factor_ranks (Mark sign.Slash p) l q us zs i = omega arith
factor_ranks (Mark sign.Percent p) l q us zs i = omega arith
factor_ranks _ l q us zs i = absurd i

pub factors : Leftward Multiplicative Unary Factor 3 2
factors = record { base = λ e ts w g. unary g; grow = grow; spine = spine; ranks = factor_ranks; low = omega arith }
  where
    grow : (t : Lexeme) (l q : ExprShape) (ts us zs : List Lexeme) → Multiplicative l ts (t ∷ us) → Factor t l q us zs → Multiplicative q ts zs
    grow (Mark sign.Star p) l q ts us zs g i = subst (λ x. Multiplicative x ts zs) (sym i.same) (multiply p g i.phrase)
    grow (Mark sign.Slash p) l q ts us zs g i = subst (λ x. Multiplicative x ts zs) (sym i.same) (divide p g i.phrase)
    grow (Mark sign.Percent p) l q ts us zs g i = subst (λ x. Multiplicative x ts zs) (sym i.same) (remainder p g i.phrase)
    grow _ l q ts us zs g i = absurd i

    spine : (l : ExprShape) (ts us : List Lexeme) → Multiplicative l ts us → (r : ExprShape) (w : List Lexeme) → Tail Factor l r us w → After Unary (λ b. Tail Factor b) r ts w
    spine l ts us (unary g) r w t = record { part = l; others = us; phrase = g; rest = t }
    spine l ts us (multiply {a = a} {b = b} p {us = vs} g h) r w t = spine a ts (Mark sign.Star p ∷ vs) g r w (on (Mark sign.Star p) (record { right = b; phrase = h; same = refl }) t)
    spine l ts us (divide {a = a} {b = b} p {us = vs} g h) r w t = spine a ts (Mark sign.Slash p ∷ vs) g r w (on (Mark sign.Slash p) (record { right = b; phrase = h; same = refl }) t)
    spine l ts us (remainder {a = a} {b = b} p {us = vs} g h) r w t = spine a ts (Mark sign.Percent p ∷ vs) g r w (on (Mark sign.Percent p) (record { right = b; phrase = h; same = refl }) t)

-- sums
pub term_ranks : (t : Lexeme) (l q : ExprShape) (us zs : List Lexeme) → Term t l q us zs → 3 < rank_of t
term_ranks (Mark sign.Plus p) l q us zs i = omega arith
term_ranks (Mark sign.Minus p) l q us zs i = omega arith
term_ranks _ l q us zs i = absurd i

pub terms : Leftward Additive Multiplicative Term 4 3
terms = record { base = λ e ts w g. multiplicative g; grow = grow; spine = spine; ranks = term_ranks; low = omega arith }
  where
    grow : (t : Lexeme) (l q : ExprShape) (ts us zs : List Lexeme) → Additive l ts (t ∷ us) → Term t l q us zs → Additive q ts zs
    grow (Mark sign.Plus p) l q ts us zs g i = subst (λ x. Additive x ts zs) (sym i.same) (add p g i.phrase)
    grow (Mark sign.Minus p) l q ts us zs g i = subst (λ x. Additive x ts zs) (sym i.same) (subtract p g i.phrase)
    grow _ l q ts us zs g i = absurd i

    spine : (l : ExprShape) (ts us : List Lexeme) → Additive l ts us → (r : ExprShape) (w : List Lexeme) → Tail Term l r us w → After Multiplicative (λ b. Tail Term b) r ts w
    spine l ts us (multiplicative g) r w t = record { part = l; others = us; phrase = g; rest = t }
    spine l ts us (add {a = a} {b = b} p {us = vs} g h) r w t = spine a ts (Mark sign.Plus p ∷ vs) g r w (on (Mark sign.Plus p) (record { right = b; phrase = h; same = refl }) t)
    spine l ts us (subtract {a = a} {b = b} p {us = vs} g h) r w t = spine a ts (Mark sign.Minus p ∷ vs) g r w (on (Mark sign.Minus p) (record { right = b; phrase = h; same = refl }) t)

-- `||`
pub or_step_ranks : (t : Lexeme) (l q : ExprShape) (us zs : List Lexeme) → OrStep t l q us zs → 6 < rank_of t
or_step_ranks (Mark sign.OrOr p) l q us zs i = omega arith
or_step_ranks _ l q us zs i = absurd i

pub or_steps : Leftward Or Relational OrStep 7 6
or_steps = record { base = λ e ts w g. or_first g; grow = grow; spine = spine; ranks = or_step_ranks; low = omega arith }
  where
    grow : (t : Lexeme) (l q : ExprShape) (ts us zs : List Lexeme) → Or l ts (t ∷ us) → OrStep t l q us zs → Or q ts zs
    grow (Mark sign.OrOr p) l q ts us zs g i = subst (λ x. Or x ts zs) (sym i.same) (or_more p g i.phrase)
    grow _ l q ts us zs g i = absurd i

    spine : (l : ExprShape) (ts us : List Lexeme) → Or l ts us → (r : ExprShape) (w : List Lexeme) → Tail OrStep l r us w → After Relational (λ b. Tail OrStep b) r ts w
    spine l ts us (or_first g) r w t = record { part = l; others = us; phrase = g; rest = t }
    spine l ts us (or_more {a = a} {b = b} p {us = vs} g h) r w t = spine a ts (Mark sign.OrOr p ∷ vs) g r w (on (Mark sign.OrOr p) (record { right = b; phrase = h; same = refl }) t)

-- `&&`
pub and_step_ranks : (t : Lexeme) (l q : ExprShape) (us zs : List Lexeme) → AndStep t l q us zs → 6 < rank_of t
and_step_ranks (Mark sign.AndAnd p) l q us zs i = omega arith
and_step_ranks _ l q us zs i = absurd i

pub and_steps : Leftward And Relational AndStep 7 6
and_steps = record { base = λ e ts w g. and_first g; grow = grow; spine = spine; ranks = and_step_ranks; low = omega arith }
  where
    grow : (t : Lexeme) (l q : ExprShape) (ts us zs : List Lexeme) → And l ts (t ∷ us) → AndStep t l q us zs → And q ts zs
    grow (Mark sign.AndAnd p) l q ts us zs g i = subst (λ x. And x ts zs) (sym i.same) (and_more p g i.phrase)
    grow _ l q ts us zs g i = absurd i

    spine : (l : ExprShape) (ts us : List Lexeme) → And l ts us → (r : ExprShape) (w : List Lexeme) → Tail AndStep l r us w → After Relational (λ b. Tail AndStep b) r ts w
    spine l ts us (and_first g) r w t = record { part = l; others = us; phrase = g; rest = t }
    spine l ts us (and_more {a = a} {b = b} p {us = vs} g h) r w t = spine a ts (Mark sign.AndAnd p ∷ vs) g r w (on (Mark sign.AndAnd p) (record { right = b; phrase = h; same = refl }) t)

-- `&`
pub bit_and_step_ranks : (t : Lexeme) (l q : ExprShape) (us zs : List Lexeme) → BitAndStep t l q us zs → 2 < rank_of t
bit_and_step_ranks (Mark sign.Ampersand p) l q us zs i = omega arith
bit_and_step_ranks _ l q us zs i = absurd i

pub bit_and_steps : Leftward BitAnd Unary BitAndStep 7 2
bit_and_steps = record { base = λ e ts w g. bit_and_first g; grow = grow; spine = spine; ranks = bit_and_step_ranks; low = omega arith }
  where
    grow : (t : Lexeme) (l q : ExprShape) (ts us zs : List Lexeme) → BitAnd l ts (t ∷ us) → BitAndStep t l q us zs → BitAnd q ts zs
    grow (Mark sign.Ampersand p) l q ts us zs g i = subst (λ x. BitAnd x ts zs) (sym i.same) (bit_and_more p g i.phrase)
    grow _ l q ts us zs g i = absurd i

    spine : (l : ExprShape) (ts us : List Lexeme) → BitAnd l ts us → (r : ExprShape) (w : List Lexeme) → Tail BitAndStep l r us w → After Unary (λ b. Tail BitAndStep b) r ts w
    spine l ts us (bit_and_first g) r w t = record { part = l; others = us; phrase = g; rest = t }
    spine l ts us (bit_and_more {a = a} {b = b} p {us = vs} g h) r w t = spine a ts (Mark sign.Ampersand p ∷ vs) g r w (on (Mark sign.Ampersand p) (record { right = b; phrase = h; same = refl }) t)

-- `|`
pub bit_or_step_ranks : (t : Lexeme) (l q : ExprShape) (us zs : List Lexeme) → BitOrStep t l q us zs → 2 < rank_of t
bit_or_step_ranks (Mark sign.Bar p) l q us zs i = omega arith
bit_or_step_ranks _ l q us zs i = absurd i

pub bit_or_steps : Leftward BitOr Unary BitOrStep 7 2
bit_or_steps = record { base = λ e ts w g. bit_or_first g; grow = grow; spine = spine; ranks = bit_or_step_ranks; low = omega arith }
  where
    grow : (t : Lexeme) (l q : ExprShape) (ts us zs : List Lexeme) → BitOr l ts (t ∷ us) → BitOrStep t l q us zs → BitOr q ts zs
    grow (Mark sign.Bar p) l q ts us zs g i = subst (λ x. BitOr x ts zs) (sym i.same) (bit_or_more p g i.phrase)
    grow _ l q ts us zs g i = absurd i

    spine : (l : ExprShape) (ts us : List Lexeme) → BitOr l ts us → (r : ExprShape) (w : List Lexeme) → Tail BitOrStep l r us w → After Unary (λ b. Tail BitOrStep b) r ts w
    spine l ts us (bit_or_first g) r w t = record { part = l; others = us; phrase = g; rest = t }
    spine l ts us (bit_or_more {a = a} {b = b} p {us = vs} g h) r w t = spine a ts (Mark sign.Bar p ∷ vs) g r w (on (Mark sign.Bar p) (record { right = b; phrase = h; same = refl }) t)

-- `^`
pub bit_xor_step_ranks : (t : Lexeme) (l q : ExprShape) (us zs : List Lexeme) → BitXorStep t l q us zs → 2 < rank_of t
bit_xor_step_ranks (Mark sign.Caret p) l q us zs i = omega arith
bit_xor_step_ranks _ l q us zs i = absurd i

pub bit_xor_steps : Leftward BitXor Unary BitXorStep 7 2
bit_xor_steps = record { base = λ e ts w g. bit_xor_first g; grow = grow; spine = spine; ranks = bit_xor_step_ranks; low = omega arith }
  where
    grow : (t : Lexeme) (l q : ExprShape) (ts us zs : List Lexeme) → BitXor l ts (t ∷ us) → BitXorStep t l q us zs → BitXor q ts zs
    grow (Mark sign.Caret p) l q ts us zs g i = subst (λ x. BitXor x ts zs) (sym i.same) (bit_xor_more p g i.phrase)
    grow _ l q ts us zs g i = absurd i

    spine : (l : ExprShape) (ts us : List Lexeme) → BitXor l ts us → (r : ExprShape) (w : List Lexeme) → Tail BitXorStep l r us w → After Unary (λ b. Tail BitXorStep b) r ts w
    spine l ts us (bit_xor_first g) r w t = record { part = l; others = us; phrase = g; rest = t }
    spine l ts us (bit_xor_more {a = a} {b = b} p {us = vs} g h) r w t = spine a ts (Mark sign.Caret p ∷ vs) g r w (on (Mark sign.Caret p) (record { right = b; phrase = h; same = refl }) t)

-- accesses
pub access_ranks : (t : Lexeme) (l q : ExprShape) (us zs : List Lexeme) → AccessStep t l q us zs → 1 < rank_of t
access_ranks (Mark sign.Dot p) l q us zs i = omega arith
access_ranks (Mark sign.OpenBracket p) l q us zs i = omega arith
access_ranks _ l q us zs i = absurd i

-- a step is an access, and the other way round
step_access : (t : Lexeme) (l q : ExprShape) (us zs : List Lexeme) → AccessStep t l q us zs → Access l q (t ∷ us) zs
step_access (Mark sign.Dot p) l q us zs i = subst (λ x. Access l x (Mark sign.Dot p ∷ us) zs) (sym i.same) (subst (λ x. Access l (member (place_of l) l p i.name) (Mark sign.Dot p ∷ x) zs) (sym i.split) (by_name p i.name))
step_access (Mark sign.OpenBracket p) l q us zs i = subst (λ x. Access l x (Mark sign.OpenBracket p ∷ us) zs) (sym i.same) (by_index p i.close i.phrase)
step_access _ l q us zs i = absurd i

access_tail : (l q r : ExprShape) (us zs w : List Lexeme) → Access l q us zs → Tail AccessStep q r zs w → Tail AccessStep l r us w
access_tail l q r us zs w (by_name p n) t = on (Mark sign.Dot p) (record { name = n; split = refl; same = refl }) t
access_tail l q r us zs w (by_index {i = i} p c g) t = on (Mark sign.OpenBracket p) (record { inner = i; close = c; phrase = g; same = refl }) t

pub accesses : Leftward Singular Primary AccessStep 2 1
accesses = record { base = λ e ts w g. primary g; grow = λ t l q ts us zs g i. accessed g (step_access t l q us zs i); spine = spine; ranks = access_ranks; low = omega arith }
  where
    spine : (l : ExprShape) (ts us : List Lexeme) → Singular l ts us → (r : ExprShape) (w : List Lexeme) → Tail AccessStep l r us w → After Primary (λ b. Tail AccessStep b) r ts w
    spine l ts us (primary g) r w t = record { part = l; others = us; phrase = g; rest = t }
    spine l ts us (accessed {e = e} {us = vs} g a) r w t = spine e ts vs g r w (access_tail e l r vs us w a t)

pub left_accesses : Leftward LeftSingular LeftFirst AccessStep 2 1
left_accesses = record { base = base; grow = λ t l q ts us zs g i. left_accessed g (step_access t l q us zs i); spine = spine; ranks = access_ranks; low = omega arith }
  where
    base : (e : ExprShape) (ts w : List Lexeme) → LeftFirst e ts w → LeftSingular e ts w
    base e ts w (first_name p text) = left_name p text
    base e ts w (first_parens p q g) = left_parens p q g

    spine : (l : ExprShape) (ts us : List Lexeme) → LeftSingular l ts us → (r : ExprShape) (w : List Lexeme) → Tail AccessStep l r us w → After LeftFirst (λ b. Tail AccessStep b) r ts w
    spine l ts us (left_name p text) r w t = record { part = l; others = us; phrase = first_name p text; rest = t }
    spine l ts us (left_parens p q g) r w t = record { part = l; others = us; phrase = first_parens p q g; rest = t }
    spine l ts us (left_accessed {e = e} {us = vs} g a) r w t = spine e ts vs g r w (access_tail e l r vs us w a t)
