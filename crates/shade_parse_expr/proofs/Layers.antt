-- Expressions as layers: what follows their first part.
use Rattle.std.proofs.Common.{◌≡◌, refl, subst, ℕ, true, false, None, Some, List, ◌∷◌}
use Rattle.shade_base.specs.declared.place.Place.{Place}
use Rattle.shade_ast.specs.declared.lexeme.Sign.TheVariants as sign
use Rattle.shade_ast.specs.declared.expr.Infix.{Infix as InfixOperator}
use Rattle.shade_ast.specs.declared.expr.Infix.TheVariants as between
use Rattle.shade_ast.specs.Lexemes.{Lexeme, Mark}
use Rattle.shade_ast.specs.Shapes.{ExprShape, infixed, place_of}
use Rattle.shade_ast.specs.Expressions.{Access, by_name, by_index, Additive, multiplicative, add, subtract, And, and_first, and_more, BitAnd, bit_and_first, bit_and_more, BitOr, bit_or_first, bit_or_more, BitXor, bit_xor_first, bit_xor_more, calls, Expression, relational, either}
use Rattle.shade_ast.specs.Expressions.{both as both_sides, bit_and, bit_or, bit_xor, Multiplicative, unary, multiply, divide, remainder, Or, or_first, or_more, Primary, called, typed, numeral, true_word, false_word, parens, Relational, shifted as shift_alone, less, greater}
use Rattle.shade_ast.specs.Expressions.{less_equal, greater_equal as greater_or_equal, equal, not_equal, Shift, additive, shift_left, shift_right, Singular, primary, accessed, TypeName, plain_type, template_type, Unary, negate, not, complement, deref, address_of, operand}
use Rattle.shade_ast.specs.Chains.{After, Tail, done, on}
use Rattle.shade_ast.proofs.Tails.{Leftward}
use Rattle.shade_ast.specs.Steps.{OrStep, AndStep, BitAndStep, BitOrStep, BitXorStep}
use Rattle.shade_ast.proofs.LeftLaws.{or_steps, and_steps, bit_and_steps, bit_or_steps, bit_xor_steps}
use Rattle.shade_cursor.proofs.Tokens.{pair, op_one}
use Rattle.shade_cursor.specs.declared.operators.Joint.{Joint}
use Rattle.shade_cursor.specs.declared.operators.Joint.TheVariants as joint
use Rattle.shade_cursor.specs.Operators.{relation_of, Joins}
use Rattle.shade_parse_expr.specs.Rests.{is_bare, Comparison, plain, greater_equal, Compared, not_compared, compared, Shifting, leftwards, rightwards, Shifted, not_shifted, shifted, JoinStep, Joined, not_joined, joined}

type_bare : (e : ExprShape) (ts w : List Lexeme) → TypeName e ts w → is_bare e ≡ true
type_bare e ts w (plain_type p text) = refl
type_bare e ts w (template_type p q r text g) = refl

primary_bare : (e : ExprShape) (ts w : List Lexeme) → Primary e ts w → is_bare e ≡ true
primary_bare e ts w (called (calls p q g h)) = refl
primary_bare e ts w (typed g) = type_bare e ts w g
primary_bare e ts w (numeral p value suffix) = refl
primary_bare e ts w (true_word p) = refl
primary_bare e ts w (false_word p) = refl
primary_bare e ts w (parens p q g) = refl

access_bare : (e f : ExprShape) (ts w : List Lexeme) → Access e f ts w → is_bare f ≡ true
access_bare e f ts w (by_name p n) = refl
access_bare e f ts w (by_index p q g) = refl

singular_bare : (e : ExprShape) (ts w : List Lexeme) → Singular e ts w → is_bare e ≡ true
singular_bare e ts w (primary g) = primary_bare e ts w g
singular_bare e ts w (accessed {e = f} {us = us} g a) = access_bare f e us w a

pub unary_bare : (e : ExprShape) (ts w : List Lexeme) → Unary e ts w → is_bare e ≡ true
unary_bare e ts w (negate p g) = refl
unary_bare e ts w (not p g) = refl
unary_bare e ts w (complement p g) = refl
unary_bare e ts w (deref p g) = refl
unary_bare e ts w (address_of p g) = refl
unary_bare e ts w (operand g) = singular_bare e ts w g

-- what is bare is an operand
product_bare : (e : ExprShape) (ts w : List Lexeme) → Multiplicative e ts w → is_bare e ≡ true → Unary e ts w
product_bare e ts w (unary g) b = g
product_bare e ts w (multiply p g h) b = absurd (let bad : false ≡ true = b in cc)
product_bare e ts w (divide p g h) b = absurd (let bad : false ≡ true = b in cc)
product_bare e ts w (remainder p g h) b = absurd (let bad : false ≡ true = b in cc)

pub sum_bare : (e : ExprShape) (ts w : List Lexeme) → Additive e ts w → is_bare e ≡ true → Unary e ts w
sum_bare e ts w (multiplicative g) b = product_bare e ts w g b
sum_bare e ts w (add p g h) b = absurd (let bad : false ≡ true = b in cc)
sum_bare e ts w (subtract p g h) b = absurd (let bad : false ≡ true = b in cc)

shift_bare : (e : ExprShape) (ts w : List Lexeme) → Shift e ts w → is_bare e ≡ true → Unary e ts w
shift_bare e ts w (additive g) b = sum_bare e ts w g b
shift_bare e ts w (shift_left p g h) b = absurd (let bad : false ≡ true = b in cc)
shift_bare e ts w (shift_right p q n g h) b = absurd (let bad : false ≡ true = b in cc)

pub relation_bare : (e : ExprShape) (ts w : List Lexeme) → Relational e ts w → is_bare e ≡ true → Unary e ts w
relation_bare e ts w (shift_alone g) b = shift_bare e ts w g b
relation_bare e ts w (less p g h) b = absurd (let bad : false ≡ true = b in cc)
relation_bare e ts w (greater p g h) b = absurd (let bad : false ≡ true = b in cc)
relation_bare e ts w (less_equal p g h) b = absurd (let bad : false ≡ true = b in cc)
relation_bare e ts w (greater_or_equal p q n g h) b = absurd (let bad : false ≡ true = b in cc)
relation_bare e ts w (equal p g h) b = absurd (let bad : false ≡ true = b in cc)
relation_bare e ts w (not_equal p g h) b = absurd (let bad : false ≡ true = b in cc)

-- a shift is a sum and what follows it
pub shift_there : (e : ExprShape) (ts w : List Lexeme) → Shift e ts w → After Additive Shifted e ts w
shift_there e ts w (additive g) = record { part = e; others = w; phrase = g; rest = not_shifted }
shift_there e ts w (shift_left {a = a} p {us = us} g h) = record { part = a; others = Mark sign.ShiftLeft p ∷ us; phrase = multiplicative (unary g); rest = shifted (unary_bare a ts (Mark sign.ShiftLeft p ∷ us) g) (leftwards p) h }
shift_there e ts w (shift_right {a = a} p q {us = us} n g h) = record { part = a; others = Mark sign.Greater p ∷ (Mark sign.Greater q ∷ us); phrase = multiplicative (unary g); rest = shifted (unary_bare a ts (Mark sign.Greater p ∷ (Mark sign.Greater q ∷ us)) g) (rightwards p q n) h }

shift_by : (l b : ExprShape) (i : InfixOperator) (p : Place) (ts us zs w : List Lexeme) → Unary l ts us → Shifting i p us zs → Unary b zs w → Shift (infixed (place_of l) l i p b) ts w
shift_by l b i p ts us zs w g (leftwards q) h = shift_left q g h
shift_by l b i p ts us zs w g (rightwards q r n) h = shift_right q r n g h

shift_on : (l : ExprShape) (ts us : List Lexeme) → Additive l ts us → (e : ExprShape) (w : List Lexeme) → Shifted l e us w → Shift e ts w
shift_on l ts us g e w not_shifted = additive g
shift_on l ts us g e w (shifted {i = i} {p = p} {b = b} {us = zs} bare o h) = shift_by l b i p ts us zs w (sum_bare l ts us g bare) o h

pub shift_back : (e : ExprShape) (ts w : List Lexeme) → After Additive Shifted e ts w → Shift e ts w
shift_back e ts w a = shift_on a.part ts a.others a.phrase e w a.rest

-- a comparison is a sum and what follows it
relation_there : (e : ExprShape) (ts w : List Lexeme) → Relational e ts w → After Shift Compared e ts w
relation_there e ts w (shift_alone g) = record { part = e; others = w; phrase = g; rest = not_compared }
relation_there e ts w (less {a = a} p {us = us} g h) = record { part = a; others = Mark sign.Less p ∷ us; phrase = g; rest = compared (plain (Mark sign.Less p) refl) h }
relation_there e ts w (greater {a = a} p {us = us} g h) = record { part = a; others = Mark sign.Greater p ∷ us; phrase = g; rest = compared (plain (Mark sign.Greater p) refl) h }
relation_there e ts w (less_equal {a = a} p {us = us} g h) = record { part = a; others = Mark sign.LessEqual p ∷ us; phrase = g; rest = compared (plain (Mark sign.LessEqual p) refl) h }
relation_there e ts w (greater_or_equal {a = a} p q {us = us} n g h) = record { part = a; others = Mark sign.Greater p ∷ (Mark sign.Equal q ∷ us); phrase = g; rest = compared (greater_equal p q n) h }
relation_there e ts w (equal {a = a} p {us = us} g h) = record { part = a; others = Mark sign.EqualEqual p ∷ us; phrase = g; rest = compared (plain (Mark sign.EqualEqual p) refl) h }
relation_there e ts w (not_equal {a = a} p {us = us} g h) = record { part = a; others = Mark sign.NotEqual p ∷ us; phrase = g; rest = compared (plain (Mark sign.NotEqual p) refl) h }

relation_plain : (l b : ExprShape) (i : InfixOperator) (p : Place) (t : Lexeme) → relation_of t ≡ Some (i, p) → (ts us w : List Lexeme) → Shift l ts (t ∷ us) → Shift b us w → Relational (infixed (place_of l) l i p b) ts w
relation_plain l b i p (Mark sign.Less q) e ts us w g h = let both : pair between.Less q ≡ pair i p = op_one between.Less i q p e in subst (λ x. Relational (infixed (place_of l) l x.0 x.1 b) ts w) both (less q g h)
relation_plain l b i p (Mark sign.Greater q) e ts us w g h = let both : pair between.Greater q ≡ pair i p = op_one between.Greater i q p e in subst (λ x. Relational (infixed (place_of l) l x.0 x.1 b) ts w) both (greater q g h)
relation_plain l b i p (Mark sign.LessEqual q) e ts us w g h = let both : pair between.LessEqual q ≡ pair i p = op_one between.LessEqual i q p e in subst (λ x. Relational (infixed (place_of l) l x.0 x.1 b) ts w) both (less_equal q g h)
relation_plain l b i p (Mark sign.EqualEqual q) e ts us w g h = let both : pair between.Equal q ≡ pair i p = op_one between.Equal i q p e in subst (λ x. Relational (infixed (place_of l) l x.0 x.1 b) ts w) both (equal q g h)
relation_plain l b i p (Mark sign.NotEqual q) e ts us w g h = let both : pair between.NotEqual q ≡ pair i p = op_one between.NotEqual i q p e in subst (λ x. Relational (infixed (place_of l) l x.0 x.1 b) ts w) both (not_equal q g h)
relation_plain l b i p _ e ts us w g h = absurd (let bad : None ≡ Some (i, p) = e in cc)

relation_by : (l b : ExprShape) (i : InfixOperator) (p : Place) (ts us zs w : List Lexeme) → Shift l ts us → Comparison i p us zs → Shift b zs w → Relational (infixed (place_of l) l i p b) ts w
relation_by l b i p ts us zs w g (plain t e) h = relation_plain l b i p t e ts zs w g h
relation_by l b i p ts us zs w g (greater_equal q r n) h = greater_or_equal q r n g h

relation_on : (l : ExprShape) (ts us : List Lexeme) → Shift l ts us → (e : ExprShape) (w : List Lexeme) → Compared l e us w → Relational e ts w
relation_on l ts us g e w not_compared = shift_alone g
relation_on l ts us g e w (compared {i = i} {p = p} {b = b} {us = zs} o h) = relation_by l b i p ts us zs w g o h

pub comparison_there : (e : ExprShape) (ts w : List Lexeme) → Relational e ts w → After Additive (λ l. After (Shifted l) Compared) e ts w
comparison_there e ts w g =
    let a : After Shift Compared e ts w = relation_there e ts w g in
    let s : After Additive Shifted a.part ts a.others = shift_there a.part ts a.others a.phrase in
    record { part = s.part; others = s.others; phrase = s.phrase; rest = record { part = a.part; others = a.others; phrase = s.rest; rest = a.rest } }

pub comparison_back : (e : ExprShape) (ts w : List Lexeme) → After Additive (λ l. After (Shifted l) Compared) e ts w → Relational e ts w
comparison_back e ts w a = relation_on a.rest.part ts a.rest.others (shift_on a.part ts a.others a.phrase a.rest.part a.rest.others a.rest.phrase) e w a.rest.rest

-- an expression is a comparison and what is joined to it
operand_relation : (e : ExprShape) (ts w : List Lexeme) → Unary e ts w → Relational e ts w
operand_relation e ts w g = shift_alone (additive (multiplicative (unary g)))

bits_there : (j : Joint) → ((l : ExprShape) → is_bare l ≡ true → Joins j (is_bare l)) → (e : ExprShape) (ts w : List Lexeme) → After Unary (λ l. Tail (JoinStep j) l) e ts w → After Relational Joined e ts w
bits_there j joins e ts w a = record { part = a.part; others = a.others; phrase = operand_relation a.part ts a.others a.phrase; rest = joined j (joins a.part (unary_bare a.part ts a.others a.phrase)) a.rest }

pub expression_there : (e : ExprShape) (ts w : List Lexeme) → Expression e ts w → After Relational Joined e ts w
expression_there e ts w (relational g) = record { part = e; others = w; phrase = g; rest = not_joined }
expression_there e ts w (either {a = a} {b = b} p {us = us} g h) =
    let s : After Relational (λ l. Tail OrStep l) e ts w = or_steps.spine a ts (Mark sign.OrOr p ∷ us) g e w (on (Mark sign.OrOr p) (record { right = b; phrase = h; same = refl }) done) in
    record { part = s.part; others = s.others; phrase = s.phrase; rest = joined joint.Or tt s.rest }
expression_there e ts w (both_sides {a = a} {b = b} p {us = us} g h) =
    let s : After Relational (λ l. Tail AndStep l) e ts w = and_steps.spine a ts (Mark sign.AndAnd p ∷ us) g e w (on (Mark sign.AndAnd p) (record { right = b; phrase = h; same = refl }) done) in
    record { part = s.part; others = s.others; phrase = s.phrase; rest = joined joint.And tt s.rest }
expression_there e ts w (bit_and {a = a} {b = b} p {us = us} g h) = bits_there joint.BitAnd (λ l x. x) e ts w (bit_and_steps.spine a ts (Mark sign.Ampersand p ∷ us) g e w (on (Mark sign.Ampersand p) (record { right = b; phrase = h; same = refl }) done))
expression_there e ts w (bit_or {a = a} {b = b} p {us = us} g h) = bits_there joint.BitOr (λ l x. x) e ts w (bit_or_steps.spine a ts (Mark sign.Bar p ∷ us) g e w (on (Mark sign.Bar p) (record { right = b; phrase = h; same = refl }) done))
expression_there e ts w (bit_xor {a = a} {b = b} p {us = us} g h) = bits_there joint.BitXor (λ l x. x) e ts w (bit_xor_steps.spine a ts (Mark sign.Caret p ∷ us) g e w (on (Mark sign.Caret p) (record { right = b; phrase = h; same = refl }) done))

module _ (G B : ExprShape → List Lexeme → List Lexeme → Type 0) (At : Lexeme → ExprShape → ExprShape → List Lexeme → List Lexeme → Type 0) (n m : ℕ) (k : Leftward G B At n m) where
  all_steps : (l r : ExprShape) (ts us w : List Lexeme) → G l ts us → Tail At l r us w → G r ts w
  all_steps l r ts us w g done = g
  all_steps l r ts us w g (on {m = q} t {us = vs} {zs = zs} a rest) = all_steps q r ts zs w (k.grow t l q ts vs zs g a) rest

or_expression : (e : ExprShape) (ts w : List Lexeme) → Or e ts w → Expression e ts w
or_expression e ts w (or_first g) = relational g
or_expression e ts w (or_more p g h) = either p g h

and_expression : (e : ExprShape) (ts w : List Lexeme) → And e ts w → Expression e ts w
and_expression e ts w (and_first g) = relational g
and_expression e ts w (and_more p g h) = both_sides p g h

bit_and_expression : (e : ExprShape) (ts w : List Lexeme) → BitAnd e ts w → Expression e ts w
bit_and_expression e ts w (bit_and_first g) = relational (operand_relation e ts w g)
bit_and_expression e ts w (bit_and_more p g h) = bit_and p g h

bit_or_expression : (e : ExprShape) (ts w : List Lexeme) → BitOr e ts w → Expression e ts w
bit_or_expression e ts w (bit_or_first g) = relational (operand_relation e ts w g)
bit_or_expression e ts w (bit_or_more p g h) = bit_or p g h

bit_xor_expression : (e : ExprShape) (ts w : List Lexeme) → BitXor e ts w → Expression e ts w
bit_xor_expression e ts w (bit_xor_first g) = relational (operand_relation e ts w g)
bit_xor_expression e ts w (bit_xor_more p g h) = bit_xor p g h

join_on : (j : Joint) (l e : ExprShape) (ts us w : List Lexeme) → Relational l ts us → Joins j (is_bare l) → Tail (JoinStep j) l e us w → Expression e ts w
join_on joint.Or l e ts us w g b t = or_expression e ts w (all_steps Or Relational OrStep 7 6 or_steps l e ts us w (or_first g) t)
join_on joint.And l e ts us w g b t = and_expression e ts w (all_steps And Relational AndStep 7 6 and_steps l e ts us w (and_first g) t)
join_on joint.BitAnd l e ts us w g b t = bit_and_expression e ts w (all_steps BitAnd Unary BitAndStep 7 2 bit_and_steps l e ts us w (bit_and_first (relation_bare l ts us g b)) t)
join_on joint.BitOr l e ts us w g b t = bit_or_expression e ts w (all_steps BitOr Unary BitOrStep 7 2 bit_or_steps l e ts us w (bit_or_first (relation_bare l ts us g b)) t)
join_on joint.BitXor l e ts us w g b t = bit_xor_expression e ts w (all_steps BitXor Unary BitXorStep 7 2 bit_xor_steps l e ts us w (bit_xor_first (relation_bare l ts us g b)) t)

expression_on : (l : ExprShape) (ts us : List Lexeme) → Relational l ts us → (e : ExprShape) (w : List Lexeme) → Joined l e us w → Expression e ts w
expression_on l ts us g e w not_joined = relational g
expression_on l ts us g e w (joined j b t) = join_on j l e ts us w g b t

pub expression_back : (e : ExprShape) (ts w : List Lexeme) → After Relational Joined e ts w → Expression e ts w
expression_back e ts w a = expression_on a.part ts a.others a.phrase e w a.rest
