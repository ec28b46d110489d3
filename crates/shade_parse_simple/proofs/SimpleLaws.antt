-- Statements that may begin a `for`, by their first token.
use Rattle.std.proofs.Common.{◌≡◌, refl, sym, ap, ◌∙◌, subst, ℕ, ◌+◌, ◌≤◌, Some, List, ◌∷◌, ◌++◌, length, drop, arith, slice_get}
use Rattle.shade_base.specs.declared.place.Place.{Place}
use Rattle.shade_ast.specs.declared.lexeme.Keyword.{Keyword}
use Rattle.shade_ast.specs.declared.lexeme.Keyword.TheVariants as word
use Rattle.shade_ast.specs.declared.lexeme.Sign.TheVariants as sign
use Rattle.shade_ast.specs.Lexemes.{Lexeme, Word, Key, Mark}
use Rattle.shade_ast.specs.Shapes.{VarShape, BindingShape, UpdateShape, SimpleShape, var_simple, const_simple, let_simple, update_simple}
use Rattle.shade_ast.specs.Statements.{Var, var, Const, const, UpdateOf, assigned, compounded, dropped, incremented, decremented, called_alone, SimpleStatement, simple_var, simple_const, simple_let, simple_update}
use Rattle.shade_ast.specs.Reads.{Near, Reads, Fails}
use Rattle.shade_ast.proofs.Stages.{Stage, begin, change, closes_end}
use Rattle.shade_ast.specs.Chains.{After, Ends, Placed}
use Rattle.shade_ast.proofs.Firsts.{First, BeginsLeft, IsName, call_first, left_side_first}
use Rattle.shade_parse_simple.specs.Maybes.{Stands}
use Rattle.shade_parse_simple.specs.Rests.{Bound, bound}
use Rattle.shade_parse_simple.proofs.Steps.{end_stops, next, next_fails, token, ended}
use Rattle.shade_parse_simple.proofs.UpdateLaws.{near_whole, first_stands}

-- A phrase that is one of another production, as every phrase is that begins with a token there.
module _ {R S : Type 0} {G : R → List Lexeme → List Lexeme → Type 0} {B : S → List Lexeme → List Lexeme → Type 0} {n m : ℕ} {tokens : List Lexeme} {from : ℕ} (le : m ≤ n) (build : S → R) (back : (b : S) (ts w : List Lexeme) → B b ts w → G (build b) ts w) (there : (r : R) (ts w : List Lexeme) → Near ts (drop from tokens) → G r ts w → (b : S) × (r ≡ build b) × B b ts w) where
  pub way_reads : {b : S} {to : ℕ} → Reads B m tokens from b to → Reads G n tokens from (build b) to
  way_reads {b = b} {to = to} x = record {
    low = x.low;
    high = x.high;
    us = x.us;
    spelled = x.spelled;
    phrase = λ w. back b (x.us ++ w) w (x.phrase w);
    only =
        λ s ys w g stop near.
        let h : (c : S) × (s ≡ build c) × B c (x.us ++ ys) w = there s (x.us ++ ys) w (near_whole tokens x.us ys from to x.spelled near) g in
        let o : (h.0 ≡ b) × (ys ≡ w) = x.only h.0 ys w h.2 (omega arith) near in
        (h.1 ∙ ap build o.0, o.1);
  }

  pub way_fails : {to : ℕ} → Fails B m tokens from to → Fails G n tokens from to
  way_fails {to = to} f = record {
    low = f.low;
    high = f.high;
    us = f.us;
    spelled = f.spelled;
    begun = (build f.begun.0, f.begun.1, λ w. back f.begun.0 (f.us ++ (f.begun.1 ++ w)) w (f.begun.2 w));
    none =
        λ s ys w g stop near.
        let h : (c : S) × (s ≡ build c) × B c (f.us ++ ys) w = there s (f.us ++ ys) w (near_whole tokens f.us ys from to f.spelled near) g in
        f.none h.0 ys w h.2 (omega arith) near;
  }

-- two tokens that stand at one place are one
pub same_token : (tokens ts zs : List Lexeme) (at : ℕ) (t u : Lexeme) → ts ≡ t ∷ zs → Near ts (drop at tokens) → slice_get tokens at ≡ Some u → t ≡ u
same_token tokens ts zs at t u e near is = let both : Some t ≡ Some u = sym (first_stands tokens ts zs at t e near) ∙ is in cc

-- no update begins with a keyword
abbrev pub NoKey : Lexeme → Type 0
NoKey t = (k : Keyword) (p : Place) → t ≡ Key k p → ⊥

left_no_key : (t : Lexeme) → BeginsLeft t → NoKey t
left_no_key (Word text p) h k q e = cc
left_no_key (Mark sign.Open p) h k q e = cc
left_no_key (Mark sign.Star p) h k q e = cc
left_no_key (Mark sign.Ampersand p) h k q e = cc
left_no_key _ h k q e = absurd h

name_no_key : (t : Lexeme) → IsName t → NoKey t
name_no_key (Word text p) h k q e = cc
name_no_key _ h k q e = absurd h

left_begins : (ts : List Lexeme) → First BeginsLeft ts → First NoKey ts
left_begins ts f = record { first = f.first; others = f.others; split = f.split; fits = left_no_key f.first f.fits }

call_begins : (ts : List Lexeme) → First IsName ts → First NoKey ts
call_begins ts f = record { first = f.first; others = f.others; split = f.split; fits = name_no_key f.first f.fits }

pub update_no_key : (r : UpdateShape) (ts w : List Lexeme) → UpdateOf r ts w → First NoKey ts
update_no_key r ts w (assigned {e = e} p {us = us} g h) = left_begins ts (left_side_first e ts (Mark sign.Equal p ∷ us) g)
update_no_key r ts w (compounded {e = e} p {us = us} g a h) = left_begins ts (left_side_first e ts us g)
update_no_key r ts w (dropped p q {ts = us} h) = record { first = Mark sign.Underscore p; others = Mark sign.Equal q ∷ us; split = refl; fits = λ k o e. cc }
update_no_key r ts w (incremented {e = e} p g) = left_begins ts (left_side_first e ts (Mark sign.PlusPlus p ∷ w) g)
update_no_key r ts w (decremented {e = e} p g) = left_begins ts (left_side_first e ts (Mark sign.MinusMinus p ∷ w) g)
update_no_key r ts w (called_alone {e = e} g) = call_begins ts (call_first e ts w g)

-- what a `const` or a `let` is behind its keyword
abbrev Binds : (BindingShape → SimpleShape) → Place → SimpleShape → List Lexeme → List Lexeme → Type 0
Binds build p = After (Bound p) (λ b. Ends (build b))

const_by : (p : Place) (b : BindingShape) (us w : List Lexeme) → Bound p b us w → SimpleStatement (const_simple b) (Key word.Const p ∷ us) w
const_by p b us w (bound c same t v) = subst (λ x. SimpleStatement (const_simple b) (Key word.Const x ∷ us) w) same (simple_const (const b t v))

let_by : (p : Place) (b : BindingShape) (us w : List Lexeme) → Bound p b us w → SimpleStatement (let_simple b) (Key word.Let p ∷ us) w
let_by p b us w (bound c same t v) = subst (λ x. SimpleStatement (let_simple b) (Key word.Let x ∷ us) w) same (simple_let b t v)

const_part : (b : BindingShape) (ts w : List Lexeme) → Const b ts w → After (Placed (Key word.Const)) (Binds const_simple) (const_simple b) ts w
const_part b ts w (const c {ts = us} t v) = record { part = b.place; others = Word b.name.text b.name.place ∷ us; phrase = record { is = refl }; rest = record { part = b; others = w; phrase = bound b refl t v; rest = record { same = refl; left = refl } } }

var_part : (v : VarShape) (ts w : List Lexeme) → Var v ts w → (us : List Lexeme) × (ts ≡ Key word.Var v.place ∷ us)
var_part v ts w (var u {ts = us} s t e) = (us, refl)

module _ (tokens : List Lexeme) (from : ℕ) where
  -- another keyword stands there
  other_key : (k l : Keyword) (p : Place) (ts us : List Lexeme) → ts ≡ Key k p ∷ us → Near ts (drop from tokens) → Stands (Key l) tokens from → (k ≡ l)
  other_key k l p ts us e near s = let same : Key k p ≡ Key l s.0 = same_token tokens ts us from (Key k p) (Key l s.0) e near s.1 in cc

  no_update : (r : UpdateShape) (ts w : List Lexeme) (l : Keyword) → UpdateOf r ts w → Near ts (drop from tokens) → Stands (Key l) tokens from → ⊥
  no_update r ts w l g near s =
      let f : First NoKey ts = update_no_key r ts w g in
      f.fits l s.0 (same_token tokens ts f.others from f.first (Key l s.0) f.split near s.1)

  var_there : Stands (Key word.Var) tokens from → (r : SimpleShape) (ts w : List Lexeme) → Near ts (drop from tokens) → SimpleStatement r ts w → (v : VarShape) × (r ≡ var_simple v) × Var v ts w
  var_there s r ts w near (simple_var {v = v} g) = (v, refl, g)
  var_there s r ts w near (simple_const {b = b} g) = absurd (let a = const_part b ts w g in let bad : word.Const ≡ word.Var = other_key word.Const word.Var a.part ts a.others a.phrase.is near s in cc)
  var_there s r ts w near (simple_let b {ts = us} t v) = absurd (let bad : word.Let ≡ word.Var = other_key word.Let word.Var b.place ts (Word b.name.text b.name.place ∷ us) refl near s in cc)
  var_there s r ts w near (simple_update {u = u} g) = absurd (no_update u ts w word.Var g near s)

  const_there : Stands (Key word.Const) tokens from → (r : SimpleShape) (ts w : List Lexeme) → Near ts (drop from tokens) → SimpleStatement r ts w → After (Placed (Key word.Const)) (Binds const_simple) r ts w
  const_there s r ts w near (simple_var {v = v} g) = absurd (let a = var_part v ts w g in let bad : word.Var ≡ word.Const = other_key word.Var word.Const v.place ts a.0 a.1 near s in cc)
  const_there s r ts w near (simple_const {b = b} g) = const_part b ts w g
  const_there s r ts w near (simple_let b {ts = us} t v) = absurd (let bad : word.Let ≡ word.Const = other_key word.Let word.Const b.place ts (Word b.name.text b.name.place ∷ us) refl near s in cc)
  const_there s r ts w near (simple_update {u = u} g) = absurd (no_update u ts w word.Const g near s)

  let_there : Stands (Key word.Let) tokens from → (r : SimpleShape) (ts w : List Lexeme) → Near ts (drop from tokens) → SimpleStatement r ts w → After (Placed (Key word.Let)) (Binds let_simple) r ts w
  let_there s r ts w near (simple_var {v = v} g) = absurd (let a = var_part v ts w g in let bad : word.Var ≡ word.Let = other_key word.Var word.Let v.place ts a.0 a.1 near s in cc)
  let_there s r ts w near (simple_const {b = b} g) = absurd (let a = const_part b ts w g in let bad : word.Const ≡ word.Let = other_key word.Const word.Let a.part ts a.others a.phrase.is near s in cc)
  let_there s r ts w near (simple_let b {ts = us} t v) = record { part = b.place; others = Word b.name.text b.name.place ∷ us; phrase = record { is = refl }; rest = record { part = b; others = w; phrase = bound b refl t v; rest = record { same = refl; left = refl } } }
  let_there s r ts w near (simple_update {u = u} g) = absurd (no_update u ts w word.Let g near s)

  update_there : (Stands (Key word.Var) tokens from → ⊥) → (Stands (Key word.Const) tokens from → ⊥) → (Stands (Key word.Let) tokens from → ⊥) → (r : SimpleShape) (ts w : List Lexeme) → Near ts (drop from tokens) → SimpleStatement r ts w → (u : UpdateShape) × (r ≡ update_simple u) × UpdateOf u ts w
  update_there no_var no_const no_let r ts w near (simple_var {v = v} g) = absurd (let a = var_part v ts w g in no_var (v.place, first_stands tokens ts a.0 from (Key word.Var v.place) a.1 near))
  update_there no_var no_const no_let r ts w near (simple_const {b = b} g) = absurd (let a = const_part b ts w g in no_const (a.part, first_stands tokens ts a.others from (Key word.Const a.part) a.phrase.is near))
  update_there no_var no_const no_let r ts w near (simple_let b {ts = us} t v) = absurd (no_let (b.place, first_stands tokens ts (Word b.name.text b.name.place ∷ us) from (Key word.Let b.place) refl near))
  update_there no_var no_const no_let r ts w near (simple_update {u = u} g) = (u, refl, g)

module _ {tokens : List Lexeme} {from : ℕ} where
  -- by `var`
  module _ (s : Stands (Key word.Var) tokens from) where
    pub by_var_reads : {v : VarShape} {to : ℕ} → Reads Var 8 tokens from v to → Reads SimpleStatement 8 tokens from (var_simple v) to
    by_var_reads x = way_reads (omega arith) var_simple (λ b ts w g. simple_var g) (var_there tokens from s) x

    pub by_var_fails : {to : ℕ} → Fails Var 8 tokens from to → Fails SimpleStatement 8 tokens from to
    by_var_fails f = way_fails (omega arith) var_simple (λ b ts w g. simple_var g) (var_there tokens from s) f

  -- by an update
  module _ (no_var : Stands (Key word.Var) tokens from → ⊥) (no_const : Stands (Key word.Const) tokens from → ⊥) (no_let : Stands (Key word.Let) tokens from → ⊥) where
    pub by_update_reads : {u : UpdateShape} {to : ℕ} → Reads UpdateOf 7 tokens from u to → Reads SimpleStatement 8 tokens from (update_simple u) to
    by_update_reads x = way_reads (omega arith) update_simple (λ b ts w g. simple_update g) (update_there tokens from no_var no_const no_let) x

    pub by_update_fails : {to : ℕ} → Fails UpdateOf 7 tokens from to → Fails SimpleStatement 8 tokens from to
    by_update_fails f = way_fails (omega arith) update_simple (λ b ts w g. simple_update g) (update_there tokens from no_var no_const no_let) f

  -- by a keyword and what it binds
  module _ (h : from ≤ length tokens) (kw : Keyword) (build : BindingShape → SimpleShape) (there : Stands (Key kw) tokens from → (r : SimpleShape) (ts w : List Lexeme) → Near ts (drop from tokens) → SimpleStatement r ts w → After (Placed (Key kw)) (Binds build) r ts w) (back : (p : Place) (b : BindingShape) (us w : List Lexeme) → Bound p b us w → SimpleStatement (build b) (Key kw p ∷ us) w) (p : Place) (is : slice_get tokens from ≡ Some (Key kw p)) where
    binds_begin : Stage SimpleStatement 8 tokens from (from + 1) (Binds build p)
    binds_begin =
        token (λ p. refl) p is
        (change SimpleStatement 8 tokens from from SimpleStatement (After (Placed (Key kw)) (Binds build)) (λ r ys w stop near g. there (p, is) r ys w near g)
        (λ r ys w a.
        let b = a.rest in
        subst (λ x. SimpleStatement x ys w) (sym b.rest.same)
        (subst (λ l. SimpleStatement (build b.part) ys l) b.rest.left (subst (λ l. SimpleStatement (build b.part) l b.others) (sym a.phrase.is) (back a.part b.part a.others b.others b.phrase))))
        (begin SimpleStatement 8 tokens from h))

    binds_reads : {b : BindingShape} {to : ℕ} → Reads (Bound p) 7 tokens (from + 1) b to → Reads SimpleStatement 8 tokens from (build b) to
    binds_reads x = ended (next (λ b. end_stops 8 7 (omega arith)) binds_begin x)

    binds_fails : {to : ℕ} → Fails (Bound p) 7 tokens (from + 1) to → Fails SimpleStatement 8 tokens from to
    binds_fails f = next_fails (λ b. end_stops 8 7 (omega arith)) (λ b. closes_end (build b)) binds_begin f

  module _ (h : from ≤ length tokens) (p : Place) where
    pub by_const_reads : slice_get tokens from ≡ Some (Key word.Const p) → {b : BindingShape} {to : ℕ} → Reads (Bound p) 7 tokens (from + 1) b to → Reads SimpleStatement 8 tokens from (const_simple b) to
    by_const_reads is x = binds_reads h word.Const const_simple (const_there tokens from) const_by p is x

    pub by_const_fails : slice_get tokens from ≡ Some (Key word.Const p) → {to : ℕ} → Fails (Bound p) 7 tokens (from + 1) to → Fails SimpleStatement 8 tokens from to
    by_const_fails is f = binds_fails h word.Const const_simple (const_there tokens from) const_by p is f

    pub by_let_reads : slice_get tokens from ≡ Some (Key word.Let p) → {b : BindingShape} {to : ℕ} → Reads (Bound p) 7 tokens (from + 1) b to → Reads SimpleStatement 8 tokens from (let_simple b) to
    by_let_reads is x = binds_reads h word.Let let_simple (let_there tokens from) let_by p is x

    pub by_let_fails : slice_get tokens from ≡ Some (Key word.Let p) → {to : ℕ} → Fails (Bound p) 7 tokens (from + 1) to → Fails SimpleStatement 8 tokens from to
    by_let_fails is f = binds_fails h word.Let let_simple (let_there tokens from) let_by p is f
