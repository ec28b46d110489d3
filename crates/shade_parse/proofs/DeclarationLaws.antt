-- Declarations that may begin with attributes, part by part.
use Rattle.std.proofs.Common.{◌≡◌, refl, sym, ap, ◌∙◌, subst, ℕ, ◌+◌, ◌<◌, ◌≤◌, ◌⊎◌, inl, inr, Bool, false, Option, None, Some, List, [], ◌∷◌, length, drop, arith, slice_get}
use Rattle.shade_base.specs.declared.place.Place.{Place}
use Rattle.shade_ast.specs.declared.lexeme.Keyword.TheVariants as word
use Rattle.shade_ast.specs.declared.lexeme.Sign.TheVariants as sign
use Rattle.shade_ast.specs.Lexemes.{Lexeme, Word, Key, Mark}
use Rattle.shade_ast.specs.Shapes.{named, NameShape, ExprShape, AttrShape, first_place, VarShape, BindingShape, BlockShape, braces, no_stmts, MemberShape, ResultShape, DeclShape, empty_decl, alias_decl, const_decl, assert_decl, struct_decl, var_decl, override_decl, fn_decl}
use Rattle.shade_ast.specs.Repeats.{Maybe, Many, no_more, more, Listed, last, MaybeListed, nothing}
use Rattle.shade_ast.specs.Expressions.{plain_type}
use Rattle.shade_ast.specs.Statements.{Name, name, Attribute, OfType, of_type, HasValue, Const, const, Var, Block, block, no_statement}
use Rattle.shade_ast.specs.Declarations.{MemberOf, a_member, ResultOf, Declaration, no_declaration, alias, constant, assertion, struct, variable, overridable, function}
use Rattle.shade_ast.specs.Reads.{Near, Reads, Fails, rank, rank_of}
use Rattle.shade_ast.proofs.Stages.{Stage, Closes, near_get, begin, change, stuck, closes_end, closes_after}
use Rattle.shade_ast.specs.Chains.{After, Ends, Headed, Placed}
use Rattle.shade_ast.proofs.Placed.{placed_closes, name_closes, name_begins, some_place, some_name}
use Rattle.shade_parse_expr.proofs.Chains.{then_reads, then_fails}
use Rattle.shade_parse_simple.specs.Maybes.{Stands, ReadsMaybe}
use Rattle.shade_parse_simple.specs.Rests.{bound}
use Rattle.shade_parse.specs.Rests.{Enclosed, enclosed, PlainAt, OverrideShape, OverrideRest, FnShape, FnRest}
use Rattle.shade_parse.specs.Wholes.{BeginsDirective}
use Rattle.shade_parse_simple.proofs.Steps.{Stops, Avoids, end_stops, token_stops, token_avoids, maybe_stops, maybe_avoids, maybe_closes, next, next_fails, token, token_or, no_token, not_here, begins_not_here, either_avoids, either_stops, left, right, ended, maybe, maybe_fails}
use Rattle.shade_parse_simple.proofs.Openings.{begins_stops, begins_avoids}
use Rattle.shade_parse_simple.proofs.BindingLaws.{of_type_first, has_value_first, no_colon, var_begins}
use Rattle.shade_parse.proofs.MemberLaws.{member_of, attrs_begin, result_first, block_stops, block_avoids}
use Rattle.shade_parse.proofs.PlainLaws.{Closed, closed_fails, closed_stuck, plain_by, plain_rank, plain_no_directive}

-- an `override` behind its keyword
abbrev pub overridden : NameShape → Option ExprShape → Option ExprShape → OverrideShape
overridden n t v = record { name = n; ty = t; value = v }

abbrev OverrideEnd : NameShape → Option ExprShape → Option ExprShape → OverrideShape → List Lexeme → List Lexeme → Type 0
OverrideEnd n t v = After (Placed (Mark sign.Semicolon)) (λ x. Ends (overridden n t v))

abbrev OverrideValue : NameShape → Option ExprShape → OverrideShape → List Lexeme → List Lexeme → Type 0
OverrideValue n t = After (Maybe HasValue) (OverrideEnd n t)

abbrev OverrideType : NameShape → OverrideShape → List Lexeme → List Lexeme → Type 0
OverrideType n = After (Maybe OfType) (OverrideValue n)

override_end_stops : (m : ℕ) → m < 9 → (n : NameShape) (t v : Option ExprShape) → Stops 0 m (OverrideEnd n t v)
override_end_stops m low n t v = token_stops (Mark sign.Semicolon) 0 m (λ p. low)

override_value_stops : (n : NameShape) (t : Option ExprShape) → Stops 0 0 (OverrideValue n t)
override_value_stops n t = maybe_stops (Mark sign.Equal) HasValue has_value_first 0 0 (λ p. omega arith) (override_end_stops 0 (omega arith) n t None)

override_type_stops : (n : NameShape) → Stops 0 0 (OverrideType n)
override_type_stops n = maybe_stops (Mark sign.Colon) OfType of_type_first 0 0 (λ p. omega arith) (override_value_stops n None)

override_end_avoids : (n : NameShape) (t v : Option ExprShape) (s : Lexeme) → ((p : Place) → s ≡ Mark sign.Semicolon p → ⊥) → Avoids 0 s (OverrideEnd n t v)
override_end_avoids n t v s other = token_avoids (Mark sign.Semicolon) 0 s other

override_value_avoids : (n : NameShape) (q : Place) → Avoids 0 (Mark sign.Colon q) (OverrideValue n None)
override_value_avoids n q = maybe_avoids (Mark sign.Equal) HasValue has_value_first 0 (Mark sign.Colon q) (no_colon q) (override_end_avoids n None None (Mark sign.Colon q) (λ p e. cc))

override_end_closes : (n : NameShape) (t v : Option ExprShape) → Closes (OverrideEnd n t v)
override_end_closes n t v = closes_after (Placed (Mark sign.Semicolon)) (λ x. Ends (overridden n t v)) (placed_closes (Mark sign.Semicolon)) (λ x. closes_end (overridden n t v))

override_value_closes : (n : NameShape) (t : Option ExprShape) → Closes (OverrideValue n t)
override_value_closes n t = closes_after (Maybe HasValue) (OverrideEnd n t) (maybe_closes HasValue) (override_end_closes n t)

override_type_closes : (n : NameShape) → Closes (OverrideType n)
override_type_closes n = closes_after (Maybe OfType) (OverrideValue n) (maybe_closes OfType) (override_value_closes n)

pub override_closes : Closes OverrideRest
override_closes = closes_after Name OverrideType name_closes override_type_closes

module _ {tokens : List Lexeme} {from : ℕ} (h : from ≤ length tokens) where
  pub override_name_fails : {to : ℕ} → Fails Name 0 tokens from to → Fails OverrideRest 0 tokens from to
  override_name_fails f = next_fails override_type_stops override_type_closes (begin OverrideRest 0 tokens from h) f

  module _ {n : NameShape} {at : ℕ} (x : Reads Name 0 tokens from n at) where
    override_named : Stage OverrideRest 0 tokens from at (OverrideType n)
    override_named = next override_type_stops (begin OverrideRest 0 tokens from h) x

    pub override_type_fails : {to : ℕ} → Stands (Mark sign.Colon) tokens at → at < to → Fails OfType 0 tokens at to → Fails OverrideRest 0 tokens from to
    override_type_fails t lt f = maybe_fails (Mark sign.Colon) OfType of_type_first (λ b. override_value_stops n (Some b)) (override_value_avoids n) (λ b. override_value_closes n (Some b)) override_named t lt f

    module _ (t : Option ExprShape) (second : ℕ) (y : ReadsMaybe (Mark sign.Colon) OfType 0 tokens at t second) where
      override_typed : Stage OverrideRest 0 tokens from second (OverrideValue n t)
      override_typed = maybe (Mark sign.Colon) OfType of_type_first (λ b. override_value_stops n (Some b)) (override_value_avoids n) override_named y

      pub override_value_fails : {to : ℕ} → Stands (Mark sign.Equal) tokens second → second < to → Fails HasValue 7 tokens second to → Fails OverrideRest 0 tokens from to
      override_value_fails s lt f = maybe_fails (Mark sign.Equal) HasValue has_value_first (λ v. override_end_stops 7 (omega arith) n t (Some v)) (λ q. override_end_avoids n t None (Mark sign.Equal q) (λ p e. cc)) (λ v. override_end_closes n t (Some v)) override_typed s lt f

      module _ (v : Option ExprShape) (third : ℕ) (z : ReadsMaybe (Mark sign.Equal) HasValue 7 tokens second v third) where
        override_valued : Stage OverrideRest 0 tokens from third (OverrideEnd n t v)
        override_valued = maybe (Mark sign.Equal) HasValue has_value_first (λ v. override_end_stops 7 (omega arith) n t (Some v)) (λ q. override_end_avoids n t None (Mark sign.Equal q) (λ p e. cc)) override_typed z

        pub override_stuck : ((p : Place) → slice_get tokens third ≡ Some (Mark sign.Semicolon p) → ⊥) → Fails OverrideRest 0 tokens from third
        override_stuck never = no_token (λ x. closes_end (overridden n t v)) never override_valued

        pub override_reads : (p : Place) → slice_get tokens third ≡ Some (Mark sign.Semicolon p) → Reads OverrideRest 0 tokens from (overridden n t v) (third + 1)
        override_reads p is = ended (token (λ p. refl) p is override_valued)

-- a `fn` behind its keyword
abbrev pub callable : NameShape → (List MemberShape × Bool) × Place → Option ResultShape → BlockShape → FnShape
callable n l r b = record { name = n; params = l.0.0; trailing = l.0.1; result = r; body = b }

abbrev FnBody : NameShape → (List MemberShape × Bool) × Place → Option ResultShape → FnShape → List Lexeme → List Lexeme → Type 0
FnBody n l r = After Block (λ b. Ends (callable n l r b))

abbrev FnResult : NameShape → (List MemberShape × Bool) × Place → FnShape → List Lexeme → List Lexeme → Type 0
FnResult n l = After (Maybe ResultOf) (FnBody n l)

abbrev FnParams : NameShape → FnShape → List Lexeme → List Lexeme → Type 0
FnParams n = After (Enclosed (MaybeListed MemberOf) sign.Close) (FnResult n)

abbrev FnOpen : NameShape → FnShape → List Lexeme → List Lexeme → Type 0
FnOpen n = After (Placed (Mark sign.Open)) (λ q. FnParams n)

block_closes : Closes Block
block_closes = record { tree = braces some_place [] no_stmts some_place; more = Mark sign.OpenBrace some_place ∷ (Mark sign.CloseBrace some_place ∷ []); closed = λ w. block [] some_place some_place no_more no_statement }

params_close : Closes (Enclosed (MaybeListed MemberOf) sign.Close)
params_close = record { tree = (([], false), some_place); more = Mark sign.Close some_place ∷ []; closed = λ w. enclosed some_place nothing }

fn_body_closes : (n : NameShape) (l : (List MemberShape × Bool) × Place) (r : Option ResultShape) → Closes (FnBody n l r)
fn_body_closes n l r = closes_after Block (λ b. Ends (callable n l r b)) block_closes (λ b. closes_end (callable n l r b))

fn_result_closes : (n : NameShape) (l : (List MemberShape × Bool) × Place) → Closes (FnResult n l)
fn_result_closes n l = closes_after (Maybe ResultOf) (FnBody n l) (maybe_closes ResultOf) (fn_body_closes n l)

fn_params_close : (n : NameShape) → Closes (FnParams n)
fn_params_close n = closes_after (Enclosed (MaybeListed MemberOf) sign.Close) (FnResult n) params_close (fn_result_closes n)

fn_open_closes : (n : NameShape) → Closes (FnOpen n)
fn_open_closes n = closes_after (Placed (Mark sign.Open)) (λ q. FnParams n) (placed_closes (Mark sign.Open)) (λ q. fn_params_close n)

pub fn_closes : Closes FnRest
fn_closes = closes_after Name FnOpen name_closes fn_open_closes

fn_body_stops : (n : NameShape) (l : (List MemberShape × Bool) × Place) (r : Option ResultShape) → Stops 0 0 (FnBody n l r)
fn_body_stops n l r = block_stops 0 0 (omega arith)

fn_result_stops : (n : NameShape) (l : (List MemberShape × Bool) × Place) → Stops 0 0 (FnResult n l)
fn_result_stops n l = maybe_stops (Mark sign.Arrow) ResultOf result_first 0 0 (λ p. omega arith) (fn_body_stops n l None)

module _ {tokens : List Lexeme} {from : ℕ} (h : from ≤ length tokens) where
  pub fn_name_fails : {to : ℕ} → Fails Name 0 tokens from to → Fails FnRest 0 tokens from to
  fn_name_fails f = next_fails (λ n. token_stops (Mark sign.Open) 0 0 (λ p. omega arith)) fn_open_closes (begin FnRest 0 tokens from h) f

  module _ {n : NameShape} {at : ℕ} (x : Reads Name 0 tokens from n at) where
    fn_named : Stage FnRest 0 tokens from at (FnOpen n)
    fn_named = next (λ n. token_stops (Mark sign.Open) 0 0 (λ p. omega arith)) (begin FnRest 0 tokens from h) x

    pub fn_stuck : ((q : Place) → slice_get tokens at ≡ Some (Mark sign.Open q) → ⊥) → Fails FnRest 0 tokens from at
    fn_stuck never = no_token (λ q. fn_params_close n) never fn_named

    module _ (q : Place) (is : slice_get tokens at ≡ Some (Mark sign.Open q)) where
      fn_open : Stage FnRest 0 tokens from (at + 1) (FnParams n)
      fn_open = token (λ p. refl) q is fn_named

      pub fn_params_fail : {to : ℕ} → Fails (Enclosed (MaybeListed MemberOf) sign.Close) 0 tokens (at + 1) to → Fails FnRest 0 tokens from to
      fn_params_fail f = next_fails (fn_result_stops n) (fn_result_closes n) fn_open f

      module _ {l : (List MemberShape × Bool) × Place} {second : ℕ} (y : Reads (Enclosed (MaybeListed MemberOf) sign.Close) 0 tokens (at + 1) l second) where
        fn_listed : Stage FnRest 0 tokens from second (FnResult n l)
        fn_listed = next (fn_result_stops n) fn_open y

        pub fn_result_fails : {to : ℕ} → Stands (Mark sign.Arrow) tokens second → second < to → Fails ResultOf 0 tokens second to → Fails FnRest 0 tokens from to
        fn_result_fails t lt f = maybe_fails (Mark sign.Arrow) ResultOf result_first (λ r. fn_body_stops n l (Some r)) (λ p. block_avoids 0 p) (λ r. fn_body_closes n l (Some r)) fn_listed t lt f

        module _ (r : Option ResultShape) (third : ℕ) (z : ReadsMaybe (Mark sign.Arrow) ResultOf 0 tokens second r third) where
          fn_resulted : Stage FnRest 0 tokens from third (FnBody n l r)
          fn_resulted = maybe (Mark sign.Arrow) ResultOf result_first (λ r. fn_body_stops n l (Some r)) (λ p. block_avoids 0 p) fn_listed z

          pub fn_body_fails : {to : ℕ} → Fails Block 0 tokens third to → Fails FnRest 0 tokens from to
          fn_body_fails f = next_fails (λ b. end_stops 0 0 (omega arith)) (λ b. closes_end (callable n l r b)) fn_resulted f

          pub fn_reads : {b : BlockShape} {to : ℕ} → Reads Block 0 tokens third b to → Reads FnRest 0 tokens from (callable n l r b) to
          fn_reads u = ended (next (λ b. end_stops 0 0 (omega arith)) fn_resulted u)

-- what stands behind attributes
abbrev pub fn_shape : List AttrShape → Place → FnShape → DeclShape
fn_shape ls p f = fn_decl (first_place ls p) ls p f.name f.params f.trailing f.result f.body

abbrev pub override_shape : List AttrShape → Place → OverrideShape → DeclShape
override_shape ls p o = override_decl (first_place ls p) ls p o.name o.ty o.value

abbrev pub var_shape_of : List AttrShape → VarShape → DeclShape
var_shape_of ls v = var_decl (first_place ls v.place) ls v

abbrev FnAlternative : List AttrShape → DeclShape → List Lexeme → List Lexeme → Type 0
FnAlternative ls = After (Placed (Key word.Fn)) (λ p. After FnRest (λ f. Ends (fn_shape ls p f)))

abbrev OverrideAlternative : List AttrShape → DeclShape → List Lexeme → List Lexeme → Type 0
OverrideAlternative ls = After (Placed (Key word.Override)) (λ p. After OverrideRest (λ o. Ends (override_shape ls p o)))

abbrev VarAlternative : List AttrShape → DeclShape → List Lexeme → List Lexeme → Type 0
VarAlternative ls = Closed Var (var_shape_of ls)

abbrev PlainAlternative : List AttrShape → DeclShape → List Lexeme → List Lexeme → Type 0
PlainAlternative ls r ys w = (ls ≡ []) × Headed PlainAt r ys w

abbrev VarOrPlain : List AttrShape → DeclShape → List Lexeme → List Lexeme → Type 0
VarOrPlain ls r ys w = VarAlternative ls r ys w ⊎ PlainAlternative ls r ys w

abbrev NotFn : List AttrShape → DeclShape → List Lexeme → List Lexeme → Type 0
NotFn ls r ys w = OverrideAlternative ls r ys w ⊎ VarOrPlain ls r ys w

abbrev Behind : List AttrShape → DeclShape → List Lexeme → List Lexeme → Type 0
Behind ls r ys w = FnAlternative ls r ys w ⊎ NotFn ls r ys w

plain_here : (t : Lexeme) (r : DeclShape) (us w : List Lexeme) → PlainAt t r us w → After (Many Attribute) Behind r (t ∷ us) w
plain_here t r us w a = record { part = []; others = t ∷ us; phrase = no_more; rest = inr (inr (inr (refl, record { first = t; others = us; split = refl; at = a }))) }

const_there : (b : BindingShape) (p : Place) (ts us w : List Lexeme) → Const b ts us → us ≡ Mark sign.Semicolon p ∷ w → After (Many Attribute) Behind (const_decl b.place b) ts w
const_there b p ts us w (const c {ts = vs} t v) e = plain_here (Key word.Const b.place) (const_decl b.place b) (Word b.name.text b.name.place ∷ vs) w
    (record { part = b; others = us; phrase = bound b refl t v; rest = record { part = p; others = w; phrase = record { is = e }; rest = record { same = refl; left = refl } } })

decl_there : (r : DeclShape) (ts w : List Lexeme) → Declaration r ts w → After (Many Attribute) Behind r ts w
decl_there r ts w (no_declaration p) = plain_here (Mark sign.Semicolon p) (empty_decl p) w w (record { same = refl; left = refl })
decl_there r ts w (alias n {e = e} p q x {ts = us} g) = plain_here (Key word.Alias p) (alias_decl p n e) (Word n.text n.place ∷ (Mark sign.Equal q ∷ us)) w
    (record {
      part = n;
      others = Mark sign.Equal q ∷ us;
      phrase = name n;
      rest = record {
        part = q;
        others = us;
        phrase = record { is = refl };
        rest = record
            { part = e; others = Mark sign.Semicolon x ∷ w; phrase = g; rest = record { part = x; others = w; phrase = record { is = refl }; rest = record { same = refl; left = refl } } };
      };
    })
decl_there r ts w (constant b p g) = const_there b p ts (Mark sign.Semicolon p ∷ w) w g refl
decl_there r ts w (assertion {e = e} p q {ts = us} g) = plain_here (Key word.ConstAssert p) (assert_decl p e) us w (record { part = e; others = Mark sign.Semicolon q ∷ w; phrase = g; rest = record { part = q; others = w; phrase = record { is = refl }; rest = record { same = refl; left = refl } } })
decl_there r ts w (struct n {members = ms} {trailing = t} p q x {ts = us} g) = plain_here (Key word.Struct p) (struct_decl p n ms t x) (Word n.text n.place ∷ (Mark sign.OpenBrace q ∷ us)) w
    (record {
      part = n;
      others = Mark sign.OpenBrace q ∷ us;
      phrase = name n;
      rest = record
          { part = q; others = us; phrase = record { is = refl }; rest = record { part = ((ms, t), x); others = w; phrase = enclosed x g; rest = record { same = refl; left = refl } } };
    })
decl_there r ts w (variable ls v p {us = us} g k) = record {
  part = ls;
  others = us;
  phrase = g;
  rest = inr
      (inr
      (inl
      (record
      { part = v; others = Mark sign.Semicolon p ∷ w; phrase = k; rest = record { part = p; others = w; phrase = record { is = refl }; rest = record { same = refl; left = refl } } })));
}
decl_there r ts w (overridable ls n {ty = t} {value = v} p q {us = us} {vs = vs} g a b) =
    record { part = ls; others = Key word.Override p ∷ (Word n.text n.place ∷ us); phrase = g; rest = inr (inl (record { part = p; others = Word n.text n.place ∷ us; phrase = record { is = refl }; rest = record { part = overridden n t v; others = w; phrase = record { part = n; others = us; phrase = name n; rest = record { part = t; others = vs; phrase = a; rest = record { part = v; others = Mark sign.Semicolon q ∷ w; phrase = b; rest = record { part = q; others = w; phrase = record { is = refl }; rest = record { same = refl; left = refl } } } } }; rest = record { same = refl; left = refl } } })) }
decl_there r ts w (function ls n {params = ps} {trailing = t} {r = z} {b = b} p q o {us = us} {vs = vs} {ws = xs} g a k l) =
    record { part = ls; others = Key word.Fn p ∷ (Word n.text n.place ∷ (Mark sign.Open q ∷ us)); phrase = g; rest = inl (record { part = p; others = Word n.text n.place ∷ (Mark sign.Open q ∷ us); phrase = record { is = refl }; rest = record { part = callable n ((ps, t), o) z b; others = w; phrase = record { part = n; others = Mark sign.Open q ∷ us; phrase = name n; rest = record { part = q; others = us; phrase = record { is = refl }; rest = record { part = ((ps, t), o); others = vs; phrase = enclosed o a; rest = record { part = z; others = xs; phrase = k; rest = record { part = b; others = w; phrase = l; rest = record { same = refl; left = refl } } } } } }; rest = record { same = refl; left = refl } } }) }

many_nil : (ls : List AttrShape) (ts us : List Lexeme) → ls ≡ [] → Many Attribute ls ts us → ts ≡ us
many_nil ls ts us e no_more = refl
many_nil ls ts us e (more g l) = absurd (let bad = e in cc)

fn_by : (ls : List AttrShape) (p : Place) (n : NameShape) (q : Place) (l : (List MemberShape × Bool) × Place) (r : Option ResultShape) (b : BlockShape) (ts us vs xs w : List Lexeme) →
    Many Attribute ls ts (Key word.Fn p ∷ (Word n.text n.place ∷ (Mark sign.Open q ∷ us))) → Enclosed (MaybeListed MemberOf) sign.Close l us vs → Maybe ResultOf r vs xs → Block b xs w →
    Declaration (fn_shape ls p (callable n l r b)) ts w
fn_by ls p n q l r b ts us vs xs w g (enclosed o a) k z = function ls n p q o g a k z

decl_by : (ls : List AttrShape) (r : DeclShape) (ts us w : List Lexeme) → Many Attribute ls ts us → Behind ls r us w → Declaration r ts w
decl_by ls r ts us w g c =
    elim c [
      | inl a ↦
          (let f = a.rest in
          let n = f.phrase in
          let q = n.rest in
          let l = q.rest in
          let z = l.rest in
          let b = z.rest in
          let whole = callable n.part l.part z.part b.part in
          subst (λ y. Declaration y ts w) (sym (f.rest.same ∙ ap (fn_shape ls a.part) b.rest.same))
          (fn_by ls a.part n.part q.part l.part z.part b.part ts q.others l.others z.others w
          (subst (λ v. Many Attribute ls ts v) (a.phrase.is ∙ ap (λ v. Key word.Fn a.part ∷ v) (name_begins n.part a.others n.others n.phrase ∙ ap (λ v. Word n.part.text n.part.place ∷ v) q.phrase.is)) g)
          l.phrase z.phrase (subst (λ v. Block b.part z.others v) (b.rest.left ∙ f.rest.left) b.phrase)))
      | inr d ↦
          elim d [
            | inl a ↦
                (let f = a.rest in
                let n = f.phrase in
                let t = n.rest in
                let v = t.rest in
                let x = v.rest in
                subst (λ y. Declaration y ts w) (sym (f.rest.same ∙ ap (override_shape ls a.part) x.rest.same))
                (overridable ls n.part a.part x.part
                (subst (λ l. Many Attribute ls ts l) (a.phrase.is ∙ ap (λ l. Key word.Override a.part ∷ l) (name_begins n.part a.others n.others n.phrase)) g)
                t.phrase (subst (λ l. Maybe HasValue v.part t.others l) (x.phrase.is ∙ ap (λ l. Mark sign.Semicolon x.part ∷ l) (x.rest.left ∙ f.rest.left)) v.phrase)))
            | inr e ↦
                elim e [
                  | inl a ↦
                      (let x = a.rest in
                      subst (λ y. Declaration y ts w) (sym x.rest.same)
                      (variable ls a.part x.part g (subst (λ l. Var a.part us l) (x.phrase.is ∙ ap (λ l. Mark sign.Semicolon x.part ∷ l) x.rest.left) a.phrase)))
                  | inr k ↦ subst (λ l. Declaration r l w) (sym (many_nil ls ts us k.0 g ∙ k.1.split)) (plain_by k.1.first r k.1.others w k.1.at)
                ]
          ]
    ]

decl_back : (r : DeclShape) (ts w : List Lexeme) → After (Many Attribute) Behind r ts w → Declaration r ts w
decl_back r ts w a = decl_by a.part r ts a.others w a.phrase a.rest

plain_avoids : (ls : List AttrShape) (n : ℕ) (t : Lexeme) → ((r : DeclShape) (us w : List Lexeme) → PlainAt t r us w → ⊥) → Avoids n t (PlainAlternative ls)
plain_avoids ls n t never r zs w stop k =
    let e : t ∷ zs ≡ k.1.first ∷ k.1.others = k.1.split in
    let same : k.1.first ≡ t = cc in
    never r k.1.others w (subst (λ x. PlainAt x r k.1.others w) same k.1.at)

plain_stops : (ls : List AttrShape) → Stops 0 8 (PlainAlternative ls)
plain_stops ls r zs w stop k = let is : rank_of k.1.first ≡ 9 = plain_rank k.1.first r k.1.others w k.1.at in subst (λ x. 8 < rank x) (sym k.1.split) (omega arith)

behind_stops : (ls : List AttrShape) → Stops 0 8 (Behind ls)
behind_stops ls =
    either_stops (FnAlternative ls) (NotFn ls) 0 8 (token_stops (Key word.Fn) 0 8 (λ p. omega arith))
    (either_stops (OverrideAlternative ls) (VarOrPlain ls) 0 8 (token_stops (Key word.Override) 0 8 (λ p. omega arith))
    (either_stops (VarAlternative ls) (PlainAlternative ls) 0 8 (begins_stops (Key word.Var) Var var_begins 0 8 (λ p. omega arith)) (plain_stops ls)))

override_rest_closes : (ls : List AttrShape) → Closes (OverrideAlternative ls)
override_rest_closes ls = closes_after (Placed (Key word.Override)) (λ p. After OverrideRest (λ o. Ends (override_shape ls p o))) (placed_closes (Key word.Override)) (λ p. closes_after OverrideRest (λ o. Ends (override_shape ls p o)) override_closes (λ o. closes_end (override_shape ls p o)))

behind_closes : (ls : List AttrShape) → Closes (Behind ls)
behind_closes ls = let c = override_rest_closes ls in record { tree = c.tree; more = c.more; closed = λ w. inr (inl (c.closed w)) }

module _ {tokens : List Lexeme} {from : ℕ} (h : from ≤ length tokens) where
  decl_begin : Stage Declaration 0 tokens from from (After (Many Attribute) Behind)
  decl_begin = change Declaration 0 tokens from from Declaration (After (Many Attribute) Behind) (λ r ys w stop near g. decl_there r ys w g) decl_back (begin Declaration 0 tokens from h)

  pub decl_attrs_fail : {to : ℕ} → Fails (Many Attribute) 8 tokens from to → Fails Declaration 0 tokens from to
  decl_attrs_fail f = next_fails behind_stops behind_closes decl_begin f

  module _ {ls : List AttrShape} {at : ℕ} (x : Reads (Many Attribute) 8 tokens from ls at) where
    decl_behind : Stage Declaration 0 tokens from at (Behind ls)
    decl_behind = next behind_stops decl_begin x

    module _ (p : Place) (is : slice_get tokens at ≡ Some (Key word.Fn p)) where
      decl_fn : Stage Declaration 0 tokens from (at + 1) (After FnRest (λ f. Ends (fn_shape ls p f)))
      decl_fn =
          token_or (λ p. refl) p is
          (either_avoids (OverrideAlternative ls) (VarOrPlain ls) 0 (Key word.Fn p) (token_avoids (Key word.Override) 0 (Key word.Fn p) (λ q e. cc))
          (either_avoids (VarAlternative ls) (PlainAlternative ls) 0 (Key word.Fn p) (begins_avoids (Key word.Var) Var var_begins 0 (Key word.Fn p) (λ q e. cc)) (plain_avoids ls 0 (Key word.Fn p) (λ r us w k. k))))
          decl_behind

      pub decl_fn_fails : {to : ℕ} → Fails FnRest 0 tokens (at + 1) to → Fails Declaration 0 tokens from to
      decl_fn_fails f = next_fails (λ f. end_stops 0 0 (omega arith)) (λ f. closes_end (fn_shape ls p f)) decl_fn f

      pub decl_fn_reads : {f : FnShape} {to : ℕ} → Reads FnRest 0 tokens (at + 1) f to → Reads Declaration 0 tokens from (fn_shape ls p f) to
      decl_fn_reads y = ended (next (λ f. end_stops 0 0 (omega arith)) decl_fn y)

    module _ (no_fn : (p : Place) → slice_get tokens at ≡ Some (Key word.Fn p) → ⊥) where
      decl_not_fn : Stage Declaration 0 tokens from at (NotFn ls)
      decl_not_fn = right (not_here 0 tokens at (Key word.Fn) (λ p. After FnRest (λ f. Ends (fn_shape ls p f))) no_fn) decl_behind

      module _ (p : Place) (is : slice_get tokens at ≡ Some (Key word.Override p)) where
        decl_override : Stage Declaration 0 tokens from (at + 1) (After OverrideRest (λ o. Ends (override_shape ls p o)))
        decl_override =
            token_or (λ p. refl) p is
            (either_avoids (VarAlternative ls) (PlainAlternative ls) 0 (Key word.Override p) (begins_avoids (Key word.Var) Var var_begins 0 (Key word.Override p) (λ q e. cc)) (plain_avoids ls 0 (Key word.Override p) (λ r us w k. k)))
            decl_not_fn

        pub decl_override_fails : {to : ℕ} → Fails OverrideRest 0 tokens (at + 1) to → Fails Declaration 0 tokens from to
        decl_override_fails f = next_fails (λ o. end_stops 0 0 (omega arith)) (λ o. closes_end (override_shape ls p o)) decl_override f

        pub decl_override_reads : {o : OverrideShape} {to : ℕ} → Reads OverrideRest 0 tokens (at + 1) o to → Reads Declaration 0 tokens from (override_shape ls p o) to
        decl_override_reads y = ended (next (λ o. end_stops 0 0 (omega arith)) decl_override y)

      module _ (no_override : (p : Place) → slice_get tokens at ≡ Some (Key word.Override p) → ⊥) where
        decl_var_or_plain : Stage Declaration 0 tokens from at (VarOrPlain ls)
        decl_var_or_plain = right (not_here 0 tokens at (Key word.Override) (λ p. After OverrideRest (λ o. Ends (override_shape ls p o))) no_override) decl_not_fn

        pub decl_var : (p : Place) → slice_get tokens at ≡ Some (Key word.Var p) → Stage Declaration 0 tokens from at (VarAlternative ls)
        decl_var p is =
            left
            (λ r ys w stop k near.
            let e : slice_get tokens at ≡ Some k.1.first = near_get tokens at k.1.first k.1.others (subst (λ x. Near x (drop at tokens)) k.1.split near) in
            let f : Some (Key word.Var p) ≡ Some k.1.first = sym is ∙ e in
            let same : k.1.first ≡ Key word.Var p = cc in
            subst (λ x. PlainAt x r k.1.others w) same k.1.at)
            decl_var_or_plain

        pub decl_var_fails : (p : Place) → slice_get tokens at ≡ Some (Key word.Var p) → {to : ℕ} → Fails Var 8 tokens at to → Fails Declaration 0 tokens from to
        decl_var_fails p is f = closed_fails Var (var_shape_of ls) (omega arith) (decl_var p is) f

        pub decl_var_stuck : (p : Place) → slice_get tokens at ≡ Some (Key word.Var p) → {v : VarShape} {to : ℕ} → Reads Var 8 tokens at v to → ((q : Place) → slice_get tokens to ≡ Some (Mark sign.Semicolon q) → ⊥) → Fails Declaration 0 tokens from to
        decl_var_stuck p is y never = closed_stuck Var (var_shape_of ls) (omega arith) (decl_var p is) y never

        module _ (no_var : (p : Place) → slice_get tokens at ≡ Some (Key word.Var p) → ⊥) where
          decl_plain : Stage Declaration 0 tokens from at (PlainAlternative ls)
          decl_plain = right (begins_not_here 0 tokens at (Key word.Var) Var var_begins (λ v. After (Placed (Mark sign.Semicolon)) (λ x. Ends (var_shape_of ls v))) no_var) decl_var_or_plain

          module _ (none : ls ≡ []) where
            decl_alone : Stage Declaration 0 tokens from at (Headed PlainAt)
            decl_alone = change Declaration 0 tokens from at (PlainAlternative ls) (Headed PlainAt) (λ r ys w stop near k. k.1) (λ r ys w k. (none, k)) decl_plain

            pub decl_plain_reads : {r : DeclShape} {to : ℕ} → Reads (Headed PlainAt) 0 tokens at r to → Reads Declaration 0 tokens from r to
            decl_plain_reads {r = r} {to = to} y = then_reads Declaration (Headed PlainAt) 0 tokens from at to decl_alone r y

            pub decl_plain_fails : {to : ℕ} → Fails (Headed PlainAt) 0 tokens at to → Fails Declaration 0 tokens from to
            decl_plain_fails {to = to} f = then_fails Declaration (Headed PlainAt) 0 tokens from at to decl_alone f

          -- what has attributes is a `fn`, an `override` or a `var`
          pub decl_stuck : (ls ≡ [] → ⊥) → Fails Declaration 0 tokens from at
          decl_stuck some =
              stuck Declaration 0 tokens from at (Behind ls) (behind_closes ls)
              (λ r ys w stop c near.
              elim c [
                | inl a ↦ not_here 0 tokens at (Key word.Fn) (λ p. After FnRest (λ f. Ends (fn_shape ls p f))) no_fn r ys w stop a near
                | inr d ↦
                    elim d [
                      | inl a ↦ not_here 0 tokens at (Key word.Override) (λ p. After OverrideRest (λ o. Ends (override_shape ls p o))) no_override r ys w stop a near
                      | inr e ↦
                          elim e [
                            | inl a ↦ begins_not_here 0 tokens at (Key word.Var) Var var_begins (λ v. After (Placed (Mark sign.Semicolon)) (λ x. Ends (var_shape_of ls v))) no_var r ys w stop a near
                            | inr k ↦ some k.0
                          ]
                    ]
              ])
              decl_behind

-- the first token of a declaration
pub decl_first : (r : DeclShape) (ts w : List Lexeme) → Declaration r ts w → (t : Lexeme) × (us : List Lexeme) × (ts ≡ t ∷ us) × (7 < rank_of t) × (rank_of t < 10)
decl_first r ts w g =
    let a = decl_there r ts w g in
    elim (attrs_begin a.part ts a.others a.phrase) [
      | inl f ↦ (Mark sign.At f.0, f.1, f.2, omega arith, omega arith)
      | inr same ↦
          elim a.rest [
            | inl b ↦ (Key word.Fn b.part, b.others, same ∙ b.phrase.is, omega arith, omega arith)
            | inr d ↦
                elim d [
                  | inl b ↦ (Key word.Override b.part, b.others, same ∙ b.phrase.is, omega arith, omega arith)
                  | inr e ↦
                      elim e [
                        | inl b ↦ (let f = var_begins b.part a.others b.others b.phrase in (Key word.Var f.0, f.1, same ∙ f.2, omega arith, omega arith))
                        | inr k ↦ (let is : rank_of k.1.first ≡ 9 = plain_rank k.1.first r k.1.others w k.1.at in (k.1.first, k.1.others, same ∙ k.1.split, omega arith, omega arith))
                      ]
                ]
          ]
    ]

pub some_members : Closes (Enclosed (Listed MemberOf) sign.CloseBrace)
some_members = record {
  tree = ((member_of [] some_name (named some_place []) ∷ [], false), some_place);
  more = Word some_name.text some_name.place ∷
      (Mark sign.Colon some_place ∷ (Word [] some_place ∷ (Mark sign.CloseBrace some_place ∷ [])));
  closed = λ w. enclosed some_place
      (last (a_member [] some_name no_more (of_type some_place (plain_type some_place []))));
}

-- no declaration begins with the keyword of a directive
pub decl_no_directive : (t : Lexeme) (r : DeclShape) (us w : List Lexeme) → BeginsDirective t → Declaration r (t ∷ us) w → ⊥
decl_no_directive t r us w b g =
    let a = decl_there r (t ∷ us) w g in
    elim (attrs_begin a.part (t ∷ us) a.others a.phrase) [
      | inl f ↦ (let e : t ∷ us ≡ Mark sign.At f.0 ∷ f.1 = f.2 in let same : t ≡ Mark sign.At f.0 = cc in subst BeginsDirective same b)
      | inr same ↦
          elim a.rest [
            | inl k ↦ (let e : t ∷ us ≡ Key word.Fn k.part ∷ k.others = same ∙ k.phrase.is in let s : t ≡ Key word.Fn k.part = cc in subst BeginsDirective s b)
            | inr d ↦
                elim d [
                  | inl k ↦ (let e : t ∷ us ≡ Key word.Override k.part ∷ k.others = same ∙ k.phrase.is in let s : t ≡ Key word.Override k.part = cc in subst BeginsDirective s b)
                  | inr v ↦
                      elim v [
                        | inl k ↦ (let f = var_begins k.part a.others k.others k.phrase in let e : t ∷ us ≡ Key word.Var f.0 ∷ f.1 = same ∙ f.2 in let s : t ≡ Key word.Var f.0 = cc in subst BeginsDirective s b)
                        | inr k ↦ (let e : t ∷ us ≡ k.1.first ∷ k.1.others = same ∙ k.1.split in let s : t ≡ k.1.first = cc in plain_no_directive k.1.first r k.1.others w k.1.at (subst BeginsDirective s b))
                      ]
                ]
          ]
    ]
