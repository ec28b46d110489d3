-- Operators before a phrase, and the token that closes one.
use Rattle.std.proofs.Common.{◌≡◌, refl, sym, ap, ◌∙◌, subst, ℕ, ◌+◌, ◌<◌, ◌≤◌, ◌⊎◌, inl, inr, Option, None, Some, List, [], ◌∷◌, length, drop, arith, slice_get}
use Rattle.shade_base.specs.declared.place.Place.{Place}
use Rattle.shade_ast.specs.declared.expr.Prefix.{Prefix}
use Rattle.shade_ast.specs.declared.expr.Prefix.TheVariants as before
use Rattle.shade_ast.specs.declared.lexeme.Keyword.TheVariants as word
use Rattle.shade_ast.specs.declared.lexeme.Sign.TheVariants as sign
use Rattle.shade_ast.specs.Lexemes.{Lexeme, Word, Key, Number, Mark}
use Rattle.shade_ast.specs.Shapes.{ExprShape, prefixed}
use Rattle.shade_ast.specs.Expressions.{calls, LeftSide, left_deref, left_address_of, left_singular, LeftSingular, left_name, left_parens, left_accessed, Primary, called, typed, numeral, true_word, false_word}
use Rattle.shade_ast.specs.Expressions.{parens, Singular, primary, accessed, TypeName, plain_type, template_type, Unary, negate, not, complement, deref, address_of, operand}
use Rattle.shade_ast.specs.Reads.{Near, Reads, Fails, rank, rank_of}
use Rattle.shade_ast.proofs.Stages.{Stage, Closes, near_get, begin, change, consume, phrase, phrase_fails, finish_ends, ends_stops, closes_end, stuck}
use Rattle.shade_ast.specs.Chains.{After, Ends}
use Rattle.shade_ast.proofs.Placed.{some_place}
use Rattle.shade_cursor.specs.Operators.{found, prefix_of, left_prefix_of}
use Rattle.shade_cursor.proofs.Tokens.{Told, told, untold, some_one}
use Rattle.shade_parse_expr.proofs.Chains.{then_reads, then_fails}

-- a token that closes a phrase
pub record Closer {R : Type 0} (closer : Place → Lexeme) (e r : R) (ys w : List Lexeme) : Type 0 where
  pub place : Place
  pub split : ys ≡ closer place ∷ w
  pub same : r ≡ e

module _ {R : Type 0} (closer : Place → Lexeme) (e : R) where
  pub closer_closes : Closes (Closer closer e)
  closer_closes = record { tree = e; more = closer some_place ∷ []; closed = λ w. record { place = some_place; split = refl; same = refl } }

  pub closer_stops : (m : ℕ) → ((p : Place) → m < rank_of (closer p)) → (r : R) (ys w : List Lexeme) → Closer closer e r ys w → m < rank ys
  closer_stops m low r ys w c = subst (λ x. m < rank x) (sym c.split) (low c.place)

  module _ (G : R → List Lexeme → List Lexeme → Type 0) (n : ℕ) (tokens : List Lexeme) (from at : ℕ) (s : Stage G n tokens from at (Closer closer e)) where
    pub closer_reads : (p : Place) → slice_get tokens at ≡ Some (closer p) → Reads G n tokens from e (at + 1)
    closer_reads p is =
        finish_ends G n tokens from (at + 1) e e refl
        (change G n tokens from (at + 1) (λ r zs w. Closer closer e r (closer p ∷ zs) w) (Ends e)
        (λ r zs w stop near c. record { same = c.same; left = (let both : closer p ∷ zs ≡ closer c.place ∷ w = c.split in cc) })
        (λ r zs w a. record { place = p; split = ap (λ x. closer p ∷ x) a.left; same = a.same })
        (consume G n tokens from at (Closer closer e) (closer p) is s))

    pub closer_stuck : ((p : Place) → slice_get tokens at ≡ Some (closer p) → ⊥) → Fails G n tokens from at
    closer_stuck never = stuck G n tokens from at (Closer closer e) closer_closes (λ r ys w stop c near. never c.place (near_get tokens at (closer c.place) w (subst (λ x. Near x (drop at tokens)) c.split near))) s

abbrev op : Prefix → Place → Prefix × Place
op o p = (o, p)

pub record Prefixed (of : Lexeme → Option (Prefix × Place)) (U : ExprShape → List Lexeme → List Lexeme → Type 0) (r : ExprShape) (ts w : List Lexeme) : Type 0 where
  pub token : Lexeme
  pub operator : Prefix
  pub place : Place
  pub inner : ExprShape
  pub others : List Lexeme
  pub split : ts ≡ token ∷ others
  pub tells : of token ≡ Some (op operator place)
  pub same : r ≡ prefixed place operator inner
  pub phrase : U inner others w

module _ (of : Lexeme → Option (Prefix × Place)) (U S : ExprShape → List Lexeme → List Lexeme → Type 0) (there : (r : ExprShape) (ts w : List Lexeme) → U r ts w → S r ts w ⊎ Prefixed of U r ts w) (by : (t : Lexeme) (o : Prefix) (p : Place) → of t ≡ Some (op o p) → (b : ExprShape) (us w : List Lexeme) → U b us w → U (prefixed p o b) (t ∷ us) w) (alone : (r : ExprShape) (ts w : List Lexeme) → S r ts w → U r ts w) (free : (r : ExprShape) (ts w : List Lexeme) → S r ts w → (t : Lexeme) (us : List Lexeme) → ts ≡ t ∷ us → of t ≡ None) (tokens : List Lexeme) (from : ℕ) (h : from ≤ length tokens) where
  module _ (o : Prefix) (p : Place) (is : Some (op o p) ≡ found of (slice_get tokens from)) where
    stands : Told of (slice_get tokens from) (op o p)
    stands = told of (slice_get tokens from) (op o p) is

    behind : Stage U 2 tokens from (from + 1) (After U (λ b. Ends (prefixed p o b)))
    behind =
        change U 2 tokens from (from + 1) (λ r zs w. U r (stands.token ∷ zs) w) (After U (λ b. Ends (prefixed p o b)))
        (λ r zs w stop near g.
        elim (there r (stands.token ∷ zs) w g) [
          | inl s ↦ absurd (let bad : Some (op o p) ≡ None = sym stands.tells ∙ free r (stands.token ∷ zs) w s stands.token zs refl in cc)
          | inr k ↦
              (let e : stands.token ∷ zs ≡ k.token ∷ k.others = k.split in
              let same : stands.token ≡ k.token = cc in
              let rest : k.others ≡ zs = cc in
              let one : op k.operator k.place ≡ op o p = some_one (op k.operator k.place) (op o p) (sym k.tells ∙ ap of (sym same) ∙ stands.tells) in
              record { part = k.inner; others = w; phrase = subst (λ x. U k.inner x w) rest k.phrase; rest = record { same = k.same ∙ ap (λ x. prefixed x.1 x.0 k.inner) one; left = refl } })
        ])
        (λ r zs w a. subst (λ x. U x (stands.token ∷ zs) w) (sym a.rest.same) (subst (λ x. U (prefixed p o a.part) (stands.token ∷ zs) x) a.rest.left (by stands.token o p stands.tells a.part zs a.others a.phrase)))
        (consume U 2 tokens from from U stands.token stands.stands (begin U 2 tokens from h))

    pub prefix_reads : (b : ExprShape) (to : ℕ) → Reads U 2 tokens (from + 1) b to → Reads U 2 tokens from (prefixed p o b) to
    prefix_reads b to x = finish_ends U 2 tokens from to (prefixed p o b) (prefixed p o b) refl (phrase U 2 tokens from U 2 (λ b. Ends (prefixed p o b)) (λ b q zs w. ends_stops 2 2 (prefixed p o b) q zs w (omega arith)) (from + 1) to b behind x)

    pub prefix_fails : (to : ℕ) → Fails U 2 tokens (from + 1) to → Fails U 2 tokens from to
    prefix_fails to x = phrase_fails U 2 tokens from U 2 (λ b. Ends (prefixed p o b)) (λ b q zs w. ends_stops 2 2 (prefixed p o b) q zs w (omega arith)) (from + 1) to (λ b. closes_end (prefixed p o b)) behind x

  module _ (none : None ≡ found of (slice_get tokens from)) (to : ℕ) where
    free_stage : Stage U 2 tokens from from S
    free_stage =
        change U 2 tokens from from U S
        (λ r ys w stop near g.
        elim (there r ys w g) [
          | inl s ↦ s
          | inr k ↦ absurd (let bad : Some (op k.operator k.place) ≡ None = sym k.tells ∙ untold of (slice_get tokens from) k.token none (near_get tokens from k.token k.others (subst (λ x. Near x (drop from tokens)) k.split near)) in cc)
        ])
        (λ r ys w s. alone r ys w s)
        (begin U 2 tokens from h)

    pub free_reads : (e : ExprShape) → Reads S 2 tokens from e to → Reads U 2 tokens from e to
    free_reads e x = then_reads U S 2 tokens from from to free_stage e x

    pub free_fails : Fails S 2 tokens from to → Fails U 2 tokens from to
    free_fails x = then_fails U S 2 tokens from from to free_stage x

pub unary_there : (r : ExprShape) (ts w : List Lexeme) → Unary r ts w → Singular r ts w ⊎ Prefixed prefix_of Unary r ts w
unary_there r ts w (negate {e = e} p {ts = us} g) = inr (record { token = Mark sign.Minus p; operator = before.Negate; place = p; inner = e; others = us; split = refl; tells = refl; same = refl; phrase = g })
unary_there r ts w (not {e = e} p {ts = us} g) = inr (record { token = Mark sign.Bang p; operator = before.Not; place = p; inner = e; others = us; split = refl; tells = refl; same = refl; phrase = g })
unary_there r ts w (complement {e = e} p {ts = us} g) = inr (record { token = Mark sign.Tilde p; operator = before.Complement; place = p; inner = e; others = us; split = refl; tells = refl; same = refl; phrase = g })
unary_there r ts w (deref {e = e} p {ts = us} g) = inr (record { token = Mark sign.Star p; operator = before.Deref; place = p; inner = e; others = us; split = refl; tells = refl; same = refl; phrase = g })
unary_there r ts w (address_of {e = e} p {ts = us} g) = inr (record { token = Mark sign.Ampersand p; operator = before.AddressOf; place = p; inner = e; others = us; split = refl; tells = refl; same = refl; phrase = g })
unary_there r ts w (operand g) = inl g

pub unary_by : (t : Lexeme) (o : Prefix) (p : Place) → prefix_of t ≡ Some (op o p) → (b : ExprShape) (us w : List Lexeme) → Unary b us w → Unary (prefixed p o b) (t ∷ us) w
unary_by (Mark sign.Minus q) o p e b us w g = let both : op before.Negate q ≡ op o p = some_one (op before.Negate q) (op o p) e in subst (λ x. Unary (prefixed x.1 x.0 b) (Mark sign.Minus q ∷ us) w) both (negate q g)
unary_by (Mark sign.Bang q) o p e b us w g = let both : op before.Not q ≡ op o p = some_one (op before.Not q) (op o p) e in subst (λ x. Unary (prefixed x.1 x.0 b) (Mark sign.Bang q ∷ us) w) both (not q g)
unary_by (Mark sign.Tilde q) o p e b us w g = let both : op before.Complement q ≡ op o p = some_one (op before.Complement q) (op o p) e in subst (λ x. Unary (prefixed x.1 x.0 b) (Mark sign.Tilde q ∷ us) w) both (complement q g)
unary_by (Mark sign.Star q) o p e b us w g = let both : op before.Deref q ≡ op o p = some_one (op before.Deref q) (op o p) e in subst (λ x. Unary (prefixed x.1 x.0 b) (Mark sign.Star q ∷ us) w) both (deref q g)
unary_by (Mark sign.Ampersand q) o p e b us w g = let both : op before.AddressOf q ≡ op o p = some_one (op before.AddressOf q) (op o p) e in subst (λ x. Unary (prefixed x.1 x.0 b) (Mark sign.Ampersand q ∷ us) w) both (address_of q g)
unary_by _ o p e b us w g = absurd (let bad : None ≡ Some (op o p) = e in cc)

pub left_there : (r : ExprShape) (ts w : List Lexeme) → LeftSide r ts w → LeftSingular r ts w ⊎ Prefixed left_prefix_of LeftSide r ts w
left_there r ts w (left_deref {e = e} p {ts = us} g) = inr (record { token = Mark sign.Star p; operator = before.Deref; place = p; inner = e; others = us; split = refl; tells = refl; same = refl; phrase = g })
left_there r ts w (left_address_of {e = e} p {ts = us} g) = inr (record { token = Mark sign.Ampersand p; operator = before.AddressOf; place = p; inner = e; others = us; split = refl; tells = refl; same = refl; phrase = g })
left_there r ts w (left_singular g) = inl g

pub left_by : (t : Lexeme) (o : Prefix) (p : Place) → left_prefix_of t ≡ Some (op o p) → (b : ExprShape) (us w : List Lexeme) → LeftSide b us w → LeftSide (prefixed p o b) (t ∷ us) w
left_by (Mark sign.Star q) o p e b us w g = let both : op before.Deref q ≡ op o p = some_one (op before.Deref q) (op o p) e in subst (λ x. LeftSide (prefixed x.1 x.0 b) (Mark sign.Star q ∷ us) w) both (left_deref q g)
left_by (Mark sign.Ampersand q) o p e b us w g = let both : op before.AddressOf q ≡ op o p = some_one (op before.AddressOf q) (op o p) e in subst (λ x. LeftSide (prefixed x.1 x.0 b) (Mark sign.Ampersand q ∷ us) w) both (left_address_of q g)
left_by _ o p e b us w g = absurd (let bad : None ≡ Some (op o p) = e in cc)

pub type_free : (r : ExprShape) (ts w : List Lexeme) → TypeName r ts w → (t : Lexeme) (us : List Lexeme) → ts ≡ t ∷ us → prefix_of t ≡ None
type_free r ts w (plain_type p text {ts = vs}) t us e = let same : Word text p ≡ t = cc in ap prefix_of (sym same)
type_free r ts w (template_type p q z text {ts = vs} g) t us e = let same : Word text p ≡ t = cc in ap prefix_of (sym same)

primary_free : (r : ExprShape) (ts w : List Lexeme) → Primary r ts w → (t : Lexeme) (us : List Lexeme) → ts ≡ t ∷ us → prefix_of t ≡ None
primary_free r ts w (called (calls {e = f} p q {us = vs} g h)) t us e = type_free f ts (Mark sign.Open p ∷ vs) g t us e
primary_free r ts w (typed g) t us e = type_free r ts w g t us e
primary_free r ts w (numeral p value suffix {ts = vs}) t us e = let same : Number value suffix p ≡ t = cc in ap prefix_of (sym same)
primary_free r ts w (true_word p {ts = vs}) t us e = let same : Key word.True p ≡ t = cc in ap prefix_of (sym same)
primary_free r ts w (false_word p {ts = vs}) t us e = let same : Key word.False p ≡ t = cc in ap prefix_of (sym same)
primary_free r ts w (parens p q {ts = vs} g) t us e = let same : Mark sign.Open p ≡ t = cc in ap prefix_of (sym same)

pub singular_free : (r : ExprShape) (ts w : List Lexeme) → Singular r ts w → (t : Lexeme) (us : List Lexeme) → ts ≡ t ∷ us → prefix_of t ≡ None
singular_free r ts w (primary g) t us e = primary_free r ts w g t us e
singular_free r ts w (accessed {e = f} {us = vs} g a) t us e = singular_free f ts vs g t us e

pub left_free : (r : ExprShape) (ts w : List Lexeme) → LeftSingular r ts w → (t : Lexeme) (us : List Lexeme) → ts ≡ t ∷ us → left_prefix_of t ≡ None
left_free r ts w (left_name p text {ts = vs}) t us e = let same : Word text p ≡ t = cc in ap left_prefix_of (sym same)
left_free r ts w (left_parens p q {ts = vs} g) t us e = let same : Mark sign.Open p ≡ t = cc in ap left_prefix_of (sym same)
left_free r ts w (left_accessed {e = f} {us = vs} g a) t us e = left_free f ts vs g t us e
