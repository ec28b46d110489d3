-- Declarations that begin with no attribute, part by part.
use Rattle.std.proofs.Common.{◌≡◌, refl, sym, ap, ◌∙◌, subst, ℕ, ◌+◌, ◌<◌, ◌≤◌, ◌⊎◌, inl, inr, Bool, Some, List, [], ◌∷◌, length, drop, arith, slice_get}
use Rattle.shade_base.specs.declared.place.Place.{Place}
use Rattle.shade_ast.specs.declared.lexeme.Keyword.TheVariants as word
use Rattle.shade_ast.specs.declared.lexeme.Sign.TheVariants as sign
use Rattle.shade_ast.specs.Lexemes.{Lexeme, Word, Key, Mark}
use Rattle.shade_ast.specs.Shapes.{NameShape, BindingShape, MemberShape, DeclShape, empty_decl, alias_decl, const_decl, struct_decl}
use Rattle.shade_ast.specs.Repeats.{Listed}
use Rattle.shade_ast.specs.Expressions.{TypeName, Expression}
use Rattle.shade_ast.specs.Statements.{Name, Const, const}
use Rattle.shade_ast.specs.Declarations.{MemberOf, Declaration, no_declaration, alias, constant, assertion, struct}
use Rattle.shade_ast.specs.Reads.{Near, Reads, Fails, rank_of}
use Rattle.shade_ast.proofs.Stages.{Stage, Closes, near_get, begin, change, stuck, closes_end, closes_after}
use Rattle.shade_ast.specs.Chains.{After, Ends, Headed, Placed}
use Rattle.shade_ast.proofs.Heads.{take_head}
use Rattle.shade_ast.proofs.Placed.{placed_closes, name_begins, some_place}
use Rattle.shade_parse_expr.proofs.Chains.{then_reads, then_fails}
use Rattle.shade_parse_simple.specs.Rests.{Bound, bound}
use Rattle.shade_parse.specs.Rests.{Enclosed, enclosed, AliasRest, StructRest, PlainAt}
use Rattle.shade_parse.specs.Wholes.{BeginsDirective}
use Rattle.shade_parse_simple.proofs.Steps.{end_stops, token_stops, next, next_fails, token, no_token, ended}
use Rattle.shade_parse_simple.proofs.Openings.{type_closes}

-- a phrase and a `;`
module _ {R S : Type 0} (B : S → List Lexeme → List Lexeme → Type 0) (build : S → R) where
  abbrev pub Closed : R → List Lexeme → List Lexeme → Type 0
  Closed = After B (λ b. After (Placed (Mark sign.Semicolon)) (λ x. Ends (build b)))

  semicolon_closes : (b : S) → Closes (After (Placed (Mark sign.Semicolon)) (λ x. Ends (build b)))
  semicolon_closes b = closes_after (Placed (Mark sign.Semicolon)) (λ x. Ends (build b)) (placed_closes (Mark sign.Semicolon)) (λ x. closes_end (build b))

  pub closed_closes : Closes B → Closes Closed
  closed_closes c = closes_after B (λ b. After (Placed (Mark sign.Semicolon)) (λ x. Ends (build b))) c semicolon_closes

  module _ {G : R → List Lexeme → List Lexeme → Type 0} {n m : ℕ} (low : m < 9) {tokens : List Lexeme} {from at : ℕ} (s : Stage G n tokens from at Closed) where
    pub closed_fails : {to : ℕ} → Fails B m tokens at to → Fails G n tokens from to
    closed_fails f = next_fails (λ b. token_stops (Mark sign.Semicolon) n m (λ p. low)) semicolon_closes s f

    module _ {b : S} {to : ℕ} (x : Reads B m tokens at b to) where
      closed_stage : Stage G n tokens from to (After (Placed (Mark sign.Semicolon)) (λ x. Ends (build b)))
      closed_stage = next (λ b. token_stops (Mark sign.Semicolon) n m (λ p. low)) s x

      pub closed_stuck : ((p : Place) → slice_get tokens to ≡ Some (Mark sign.Semicolon p) → ⊥) → Fails G n tokens from to
      closed_stuck never = no_token (λ x. closes_end (build b)) never closed_stage

      pub closed_reads : (p : Place) → slice_get tokens to ≡ Some (Mark sign.Semicolon p) → Reads G n tokens from (build b) (to + 1)
      closed_reads p is = ended (token (λ p. refl) p is closed_stage)

-- what stands behind `alias`
module _ (p : Place) where
  abbrev AliasType : NameShape → DeclShape → List Lexeme → List Lexeme → Type 0
  AliasType n = Closed TypeName (alias_decl p n)

  alias_type_closes : (n : NameShape) → Closes (AliasType n)
  alias_type_closes n = closed_closes TypeName (alias_decl p n) type_closes

  alias_equal_closes : (n : NameShape) → Closes (After (Placed (Mark sign.Equal)) (λ q. AliasType n))
  alias_equal_closes n = closes_after (Placed (Mark sign.Equal)) (λ q. AliasType n) (placed_closes (Mark sign.Equal)) (λ q. alias_type_closes n)

  module _ {tokens : List Lexeme} {from : ℕ} (h : from ≤ length tokens) where
    pub alias_name_fails : {to : ℕ} → Fails Name 0 tokens from to → Fails (AliasRest p) 0 tokens from to
    alias_name_fails f = next_fails (λ n. token_stops (Mark sign.Equal) 0 0 (λ p. omega arith)) alias_equal_closes (begin (AliasRest p) 0 tokens from h) f

    module _ {n : NameShape} {at : ℕ} (x : Reads Name 0 tokens from n at) where
      alias_named : Stage (AliasRest p) 0 tokens from at (After (Placed (Mark sign.Equal)) (λ q. AliasType n))
      alias_named = next (λ n. token_stops (Mark sign.Equal) 0 0 (λ p. omega arith)) (begin (AliasRest p) 0 tokens from h) x

      pub alias_stuck : ((q : Place) → slice_get tokens at ≡ Some (Mark sign.Equal q) → ⊥) → Fails (AliasRest p) 0 tokens from at
      alias_stuck never = no_token (λ q. alias_type_closes n) never alias_named

      pub alias_equal : (q : Place) → slice_get tokens at ≡ Some (Mark sign.Equal q) → Stage (AliasRest p) 0 tokens from (at + 1) (AliasType n)
      alias_equal q is = token (λ p. refl) q is alias_named

-- what stands behind `struct`
module _ (p : Place) where
  abbrev StructMembers : NameShape → DeclShape → List Lexeme → List Lexeme → Type 0
  StructMembers n = After (Enclosed (Listed MemberOf) sign.CloseBrace) (λ l. Ends (struct_decl p n l.0.0 l.0.1 l.1))

  abbrev StructBrace : NameShape → DeclShape → List Lexeme → List Lexeme → Type 0
  StructBrace n = After (Placed (Mark sign.OpenBrace)) (λ q. StructMembers n)

  module _ (some : Closes (Enclosed (Listed MemberOf) sign.CloseBrace)) where
    struct_members_close : (n : NameShape) → Closes (StructMembers n)
    struct_members_close n = closes_after (Enclosed (Listed MemberOf) sign.CloseBrace) (λ l. Ends (struct_decl p n l.0.0 l.0.1 l.1)) some (λ l. closes_end (struct_decl p n l.0.0 l.0.1 l.1))

    struct_brace_closes : (n : NameShape) → Closes (StructBrace n)
    struct_brace_closes n = closes_after (Placed (Mark sign.OpenBrace)) (λ q. StructMembers n) (placed_closes (Mark sign.OpenBrace)) (λ q. struct_members_close n)

    module _ {tokens : List Lexeme} {from : ℕ} (h : from ≤ length tokens) where
      pub struct_name_fails : {to : ℕ} → Fails Name 0 tokens from to → Fails (StructRest p) 0 tokens from to
      struct_name_fails f = next_fails (λ n. token_stops (Mark sign.OpenBrace) 0 0 (λ p. omega arith)) struct_brace_closes (begin (StructRest p) 0 tokens from h) f

      module _ {n : NameShape} {at : ℕ} (x : Reads Name 0 tokens from n at) where
        struct_named : Stage (StructRest p) 0 tokens from at (StructBrace n)
        struct_named = next (λ n. token_stops (Mark sign.OpenBrace) 0 0 (λ p. omega arith)) (begin (StructRest p) 0 tokens from h) x

        pub struct_stuck : ((q : Place) → slice_get tokens at ≡ Some (Mark sign.OpenBrace q) → ⊥) → Fails (StructRest p) 0 tokens from at
        struct_stuck never = no_token (λ q. struct_members_close n) never struct_named

        module _ (q : Place) (is : slice_get tokens at ≡ Some (Mark sign.OpenBrace q)) where
          struct_open : Stage (StructRest p) 0 tokens from (at + 1) (StructMembers n)
          struct_open = token (λ p. refl) q is struct_named

          pub struct_members_fail : {to : ℕ} → Fails (Enclosed (Listed MemberOf) sign.CloseBrace) 0 tokens (at + 1) to → Fails (StructRest p) 0 tokens from to
          struct_members_fail f = next_fails (λ l. end_stops 0 0 (omega arith)) (λ l. closes_end (struct_decl p n l.0.0 l.0.1 l.1)) struct_open f

          pub struct_reads : {l : (List MemberShape × Bool) × Place} {to : ℕ} → Reads (Enclosed (Listed MemberOf) sign.CloseBrace) 0 tokens (at + 1) l to → Reads (StructRest p) 0 tokens from (struct_decl p n l.0.0 l.0.1 l.1) to
          struct_reads y = ended (next (λ l. end_stops 0 0 (omega arith)) struct_open y)

-- each stands for a declaration
alias_by : (p : Place) (r : DeclShape) (us w : List Lexeme) → AliasRest p r us w → Declaration r (Key word.Alias p ∷ us) w
alias_by p r us w a =
    let q = a.rest in
    let e = q.rest in
    let x = e.rest in
    subst (λ y. Declaration y (Key word.Alias p ∷ us) w) (sym x.rest.same)
    (subst (λ l. Declaration (alias_decl p a.part e.part) (Key word.Alias p ∷ l) w) (sym (name_begins a.part us a.others a.phrase ∙ ap (λ l. Word a.part.text a.part.place ∷ l) q.phrase.is))
    (alias a.part p q.part x.part (subst (λ l. TypeName e.part q.others l) (x.phrase.is ∙ ap (λ l. Mark sign.Semicolon x.part ∷ l) x.rest.left) e.phrase)))

const_by : (p : Place) (b : BindingShape) (x : Place) (us vs w : List Lexeme) → Bound p b us vs → vs ≡ Mark sign.Semicolon x ∷ w → Declaration (const_decl p b) (Key word.Const p ∷ us) w
const_by p b x us vs w (bound c {ts = ts} same t v) e =
    subst (λ y. Declaration (const_decl y b) (Key word.Const y ∷ (Word b.name.text b.name.place ∷ ts)) w) same
    (constant b x (subst (λ l. Const b (Key word.Const b.place ∷ (Word b.name.text b.name.place ∷ ts)) l) e (const b t v)))

struct_by : (p : Place) (n : NameShape) (l : (List MemberShape × Bool) × Place) (q : Place) (us w : List Lexeme) → Enclosed (Listed MemberOf) sign.CloseBrace l us w → Declaration (struct_decl p n l.0.0 l.0.1 l.1) (Key word.Struct p ∷ (Word n.text n.place ∷ (Mark sign.OpenBrace q ∷ us))) w
struct_by p n l q us w (enclosed r g) = struct n p q r g

pub plain_by : (t : Lexeme) (r : DeclShape) (us w : List Lexeme) → PlainAt t r us w → Declaration r (t ∷ us) w
plain_by (Mark sign.Semicolon p) r us w a = subst (λ y. Declaration y (Mark sign.Semicolon p ∷ us) w) (sym a.same) (subst (λ l. Declaration (empty_decl p) (Mark sign.Semicolon p ∷ us) l) a.left (no_declaration p))
plain_by (Key word.Alias p) r us w a = alias_by p r us w a
plain_by (Key word.Const p) r us w a = subst (λ y. Declaration y (Key word.Const p ∷ us) w) (sym a.rest.rest.same) (const_by p a.part a.rest.part us a.others w a.phrase (a.rest.phrase.is ∙ ap (λ l. Mark sign.Semicolon a.rest.part ∷ l) a.rest.rest.left))
plain_by (Key word.ConstAssert p) r us w a = subst (λ y. Declaration y (Key word.ConstAssert p ∷ us) w) (sym a.rest.rest.same) (assertion p a.rest.part (subst (λ l. Expression a.part us l) (a.rest.phrase.is ∙ ap (λ l. Mark sign.Semicolon a.rest.part ∷ l) a.rest.rest.left) a.phrase))
plain_by (Key word.Struct p) r us w a =
    let q = a.rest in
    let l = q.rest in
    subst (λ y. Declaration y (Key word.Struct p ∷ us) w) (sym l.rest.same)
    (subst (λ z. Declaration (struct_decl p a.part l.part.0.0 l.part.0.1 l.part.1) (Key word.Struct p ∷ us) z) l.rest.left
    (subst (λ z. Declaration (struct_decl p a.part l.part.0.0 l.part.0.1 l.part.1) (Key word.Struct p ∷ z) l.others) (sym (name_begins a.part us a.others a.phrase ∙ ap (λ z. Word a.part.text a.part.place ∷ z) q.phrase.is))
    (struct_by p a.part l.part q.part q.others l.others l.phrase)))
plain_by _ r us w a = absurd a

-- the first token of one
pub plain_rank : (t : Lexeme) (r : DeclShape) (us w : List Lexeme) → PlainAt t r us w → rank_of t ≡ 9
plain_rank (Mark sign.Semicolon p) r us w a = refl
plain_rank (Key word.Alias p) r us w a = refl
plain_rank (Key word.Const p) r us w a = refl
plain_rank (Key word.ConstAssert p) r us w a = refl
plain_rank (Key word.Struct p) r us w a = refl
plain_rank _ r us w a = absurd a

module _ {tokens : List Lexeme} {from : ℕ} (h : from ≤ length tokens) where
  pub plain_stuck : ((p : Place) → slice_get tokens from ≡ Some (Mark sign.Semicolon p) → ⊥) → ((p : Place) → slice_get tokens from ≡ Some (Key word.Alias p) → ⊥) →
      ((p : Place) → slice_get tokens from ≡ Some (Key word.Const p) → ⊥) → ((p : Place) → slice_get tokens from ≡ Some (Key word.ConstAssert p) → ⊥) →
      ((p : Place) → slice_get tokens from ≡ Some (Key word.Struct p) → ⊥) → Fails (Headed PlainAt) 0 tokens from from
  plain_stuck a b c d e =
      stuck (Headed PlainAt) 0 tokens from from (Headed PlainAt)
      (record { tree = empty_decl some_place; more = Mark sign.Semicolon some_place ∷ []; closed = λ w. record { first = Mark sign.Semicolon some_place; others = w; split = refl; at = record { same = refl; left = refl } } })
      (λ r ys w stop k near. by k.first r k.others w (near_get tokens from k.first k.others (subst (λ x. Near x (drop from tokens)) k.split near)) k.at)
      (begin (Headed PlainAt) 0 tokens from h)
    where
      by : (t : Lexeme) (r : DeclShape) (us w : List Lexeme) → slice_get tokens from ≡ Some t → PlainAt t r us w → ⊥
      by (Mark sign.Semicolon p) r us w is k = a p is
      by (Key word.Alias p) r us w is k = b p is
      by (Key word.Const p) r us w is k = c p is
      by (Key word.ConstAssert p) r us w is k = d p is
      by (Key word.Struct p) r us w is k = e p is
      by _ r us w is k = k

  module _ (t : Lexeme) (is : slice_get tokens from ≡ Some t) where
    plain_head : Stage (Headed PlainAt) 0 tokens from (from + 1) (PlainAt t)
    plain_head =
        take_head (Headed PlainAt) 0 tokens from from PlainAt (λ r ys w. ⊥) t is (λ r zs w stop d. d)
        (change (Headed PlainAt) 0 tokens from from (Headed PlainAt) (λ r ys w. Headed PlainAt r ys w ⊎ ⊥) (λ r ys w stop near k. inl k) (λ r ys w c. elim c [ inl k ↦ k | inr d ↦ absurd d ]) (begin (Headed PlainAt) 0 tokens from h))

    pub plain_reads : {r : DeclShape} {to : ℕ} → Reads (PlainAt t) 0 tokens (from + 1) r to → Reads (Headed PlainAt) 0 tokens from r to
    plain_reads {r = r} {to = to} x = then_reads (Headed PlainAt) (PlainAt t) 0 tokens from (from + 1) to plain_head r x

    pub plain_fails : {to : ℕ} → Fails (PlainAt t) 0 tokens (from + 1) to → Fails (Headed PlainAt) 0 tokens from to
    plain_fails {to = to} x = then_fails (Headed PlainAt) (PlainAt t) 0 tokens from (from + 1) to plain_head x

  pub plain_empty : (p : Place) → slice_get tokens from ≡ Some (Mark sign.Semicolon p) → Reads (Headed PlainAt) 0 tokens from (empty_decl p) (from + 1)
  plain_empty p is = ended (plain_head (Mark sign.Semicolon p) is)

pub plain_no_directive : (t : Lexeme) (r : DeclShape) (us w : List Lexeme) → PlainAt t r us w → BeginsDirective t → ⊥
plain_no_directive (Key word.Diagnostic p) r us w a b = a
plain_no_directive (Key word.Requires p) r us w a b = a
plain_no_directive (Key word.Enable p) r us w a b = a
plain_no_directive _ r us w a b = absurd b
