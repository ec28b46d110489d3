-- Directives, part by part.
use Rattle.std.proofs.Common.{◌≡◌, refl, sym, ap, ◌∙◌, subst, ℕ, ◌+◌, ◌<◌, ◌≤◌, ◌⊎◌, inl, inr, Bool, List, [], ◌∷◌, ◌++◌, length, drop, arith, Some, slice_get}
use Rattle.shade_base.specs.declared.place.Place.{Place}
use Rattle.shade_ast.specs.declared.lexeme.Keyword.TheVariants as word
use Rattle.shade_ast.specs.declared.lexeme.Sign.TheVariants as sign
use Rattle.shade_ast.specs.Lexemes.{Lexeme, Word, Key, Mark}
use Rattle.shade_ast.specs.Shapes.{NameShape, RuleShape, plain_rule, scoped_rule, DirectiveShape, diagnostic_directive, requires_directive, enable_directive}
use Rattle.shade_ast.specs.Repeats.{Listed}
use Rattle.shade_ast.specs.Statements.{Name, name, MaybeMark}
use Rattle.shade_ast.specs.Declarations.{RuleOf, rule, dotted_rule, DirectiveOf, diagnostic, requires_names, enables_names}
use Rattle.shade_ast.specs.Reads.{Near, Reads, Fails, rank}
use Rattle.shade_ast.proofs.Stages.{Stage, Closes, near_get, begin, change, stuck, closes_end, closes_after}
use Rattle.shade_ast.specs.Chains.{After, Ends, Headed, Placed}
use Rattle.shade_ast.proofs.Heads.{take_head}
use Rattle.shade_ast.proofs.Placed.{placed_closes, name_closes, name_begins, some_place, some_name}
use Rattle.shade_parse_simple.specs.Rests.{Ending, ending}
use Rattle.shade_parse.specs.Rests.{Enclosed, enclosed, DiagnosticRest, DirectiveAt}
use Rattle.shade_parse_simple.proofs.Steps.{Stops, end_stops, end_avoids, token_stops, next, next_fails, token, token_or, no_token, not_here, right, ended}
use Rattle.shade_parse_simple.proofs.Endings.{ending_closes, ending_stops}
use Rattle.shade_parse_expr.proofs.Chains.{then_reads, then_fails}

-- rules
abbrev RuleDot : NameShape → RuleShape → List Lexeme → List Lexeme → Type 0
RuleDot n = After (Placed (Mark sign.Dot)) (λ p. After Name (λ m. Ends (scoped_rule n p m)))

abbrev RuleRest : NameShape → RuleShape → List Lexeme → List Lexeme → Type 0
RuleRest n r ys w = RuleDot n r ys w ⊎ Ends (plain_rule n) r ys w

rule_there : (r : RuleShape) (ts w : List Lexeme) → RuleOf r ts w → After Name RuleRest r ts w
rule_there r ts w (rule n) = record { part = n; others = w; phrase = name n; rest = inr (record { same = refl; left = refl }) }
rule_there r ts w (dotted_rule m p n) = record {
  part = m;
  others = Mark sign.Dot p ∷ (Word n.text n.place ∷ w);
  phrase = name m;
  rest = inl
      (record
      { part = p; others = Word n.text n.place ∷ w; phrase = record { is = refl }; rest = record { part = n; others = w; phrase = name n; rest = record { same = refl; left = refl } } });
}

rule_back : (r : RuleShape) (ts w : List Lexeme) → After Name RuleRest r ts w → RuleOf r ts w
rule_back r ts w a =
    subst (λ l. RuleOf r l w) (sym (name_begins a.part ts a.others a.phrase))
    (elim a.rest [
      | inl d ↦
          (let n = d.rest in
          subst (λ x. RuleOf x (Word a.part.text a.part.place ∷ a.others) w) (sym n.rest.same)
          (subst (λ l. RuleOf (scoped_rule a.part d.part n.part) (Word a.part.text a.part.place ∷ l) w) (sym (d.phrase.is ∙ ap (λ l. Mark sign.Dot d.part ∷ l) (name_begins n.part d.others n.others n.phrase ∙ ap (λ l. Word n.part.text n.part.place ∷ l) n.rest.left)))
          (dotted_rule a.part d.part n.part)))
      | inr e ↦ subst (λ x. RuleOf x (Word a.part.text a.part.place ∷ a.others) w) (sym e.same) (subst (λ l. RuleOf (plain_rule a.part) (Word a.part.text a.part.place ∷ a.others) l) e.left (rule a.part))
    ])

rule_rank : (n : NameShape) → Stops 2 0 (RuleRest n)
rule_rank n r zs w stop c =
    elim c [
      | inl d ↦ subst (λ l. 0 < rank l) (sym d.phrase.is) (omega arith)
      | inr e ↦ subst (λ l. 0 < rank l) (sym e.left) (omega arith)
    ]

rule_rest_closes : (n : NameShape) → Closes (RuleRest n)
rule_rest_closes n = record { tree = plain_rule n; more = []; closed = λ w. inr (record { same = refl; left = refl }) }

pub rule_closes : Closes RuleOf
rule_closes = record { tree = plain_rule some_name; more = Word some_name.text some_name.place ∷ []; closed = λ w. rule some_name }

rule_stops : {S : Type 0} {C : RuleShape → S → List Lexeme → List Lexeme → Type 0} (n m : ℕ) → m < 9 → Stops n m (After RuleOf C)
rule_stops n m low r zs w stop a = let b = rule_there a.part zs a.others a.phrase in subst (λ l. m < rank l) (sym (name_begins b.part zs b.others b.phrase)) low

module _ {tokens : List Lexeme} {from : ℕ} (h : from ≤ length tokens) where
  rule_begin : Stage RuleOf 2 tokens from from (After Name RuleRest)
  rule_begin = change RuleOf 2 tokens from from RuleOf (After Name RuleRest) (λ r ys w stop near g. rule_there r ys w g) rule_back (begin RuleOf 2 tokens from h)

  pub rule_name_fails : {to : ℕ} → Fails Name 0 tokens from to → Fails RuleOf 2 tokens from to
  rule_name_fails f = next_fails rule_rank rule_rest_closes rule_begin f

  module _ {n : NameShape} {at : ℕ} (x : Reads Name 0 tokens from n at) where
    rule_named : Stage RuleOf 2 tokens from at (RuleRest n)
    rule_named = next rule_rank rule_begin x

    pub rule_plain : ((p : Place) → slice_get tokens at ≡ Some (Mark sign.Dot p) → ⊥) → Reads RuleOf 2 tokens from (plain_rule n) at
    rule_plain never = ended (right (not_here 2 tokens at (Mark sign.Dot) (λ p. After Name (λ m. Ends (scoped_rule n p m))) never) rule_named)

    module _ (p : Place) (is : slice_get tokens at ≡ Some (Mark sign.Dot p)) where
      rule_dot : Stage RuleOf 2 tokens from (at + 1) (After Name (λ m. Ends (scoped_rule n p m)))
      rule_dot = token_or (λ p. refl) p is (end_avoids 2 (Mark sign.Dot p) (omega arith)) rule_named

      pub rule_second_fails : {to : ℕ} → Fails Name 0 tokens (at + 1) to → Fails RuleOf 2 tokens from to
      rule_second_fails f = next_fails (λ m. end_stops 2 0 (omega arith)) (λ m. closes_end (scoped_rule n p m)) rule_dot f

      pub rule_scoped : {m : NameShape} {to : ℕ} → Reads Name 0 tokens (at + 1) m to → Reads RuleOf 2 tokens from (scoped_rule n p m) to
      rule_scoped y = ended (next (λ m. end_stops 2 0 (omega arith)) rule_dot y)

-- a diagnostic filter behind its keyword
module _ (p : Place) where
  abbrev DiagnosticEnd : NameShape → RuleShape → Bool → DirectiveShape → List Lexeme → List Lexeme → Type 0
  DiagnosticEnd n r t = After (Placed (Mark sign.Semicolon)) (λ x. Ends (diagnostic_directive p n r t))

  abbrev DiagnosticClose : NameShape → RuleShape → DirectiveShape → List Lexeme → List Lexeme → Type 0
  DiagnosticClose n r = After (Ending sign.Close) (DiagnosticEnd n r)

  abbrev DiagnosticRule : NameShape → DirectiveShape → List Lexeme → List Lexeme → Type 0
  DiagnosticRule n = After RuleOf (DiagnosticClose n)

  abbrev DiagnosticName : DirectiveShape → List Lexeme → List Lexeme → Type 0
  DiagnosticName = After Name (λ n. After (Placed (Mark sign.Comma)) (λ o. DiagnosticRule n))

  end_closes : (n : NameShape) (r : RuleShape) (t : Bool) → Closes (DiagnosticEnd n r t)
  end_closes n r t = closes_after (Placed (Mark sign.Semicolon)) (λ x. Ends (diagnostic_directive p n r t)) (placed_closes (Mark sign.Semicolon)) (λ x. closes_end (diagnostic_directive p n r t))

  close_closes : (n : NameShape) (r : RuleShape) → Closes (DiagnosticClose n r)
  close_closes n r = closes_after (Ending sign.Close) (DiagnosticEnd n r) (ending_closes sign.Close) (end_closes n r)

  rules_close : (n : NameShape) → Closes (DiagnosticRule n)
  rules_close n = closes_after RuleOf (DiagnosticClose n) rule_closes (close_closes n)

  comma_closes : (n : NameShape) → Closes (After (Placed (Mark sign.Comma)) (λ o. DiagnosticRule n))
  comma_closes n = closes_after (Placed (Mark sign.Comma)) (λ o. DiagnosticRule n) (placed_closes (Mark sign.Comma)) (λ o. rules_close n)

  names_close : Closes DiagnosticName
  names_close = closes_after Name (λ n. After (Placed (Mark sign.Comma)) (λ o. DiagnosticRule n)) name_closes comma_closes

  pub diagnostic_closes : Closes (DiagnosticRest p)
  diagnostic_closes = closes_after (Placed (Mark sign.Open)) (λ q. DiagnosticName) (placed_closes (Mark sign.Open)) (λ q. names_close)

  module _ {tokens : List Lexeme} {from : ℕ} (h : from ≤ length tokens) where
    pub diagnostic_open : ((q : Place) → slice_get tokens from ≡ Some (Mark sign.Open q) → ⊥) → Fails (DiagnosticRest p) 0 tokens from from
    diagnostic_open never = no_token (λ q. names_close) never (begin (DiagnosticRest p) 0 tokens from h)

    module _ (q : Place) (is : slice_get tokens from ≡ Some (Mark sign.Open q)) where
      diagnostic_in : Stage (DiagnosticRest p) 0 tokens from (from + 1) DiagnosticName
      diagnostic_in = token (λ p. refl) q is (begin (DiagnosticRest p) 0 tokens from h)

      pub diagnostic_name_fails : {to : ℕ} → Fails Name 0 tokens (from + 1) to → Fails (DiagnosticRest p) 0 tokens from to
      diagnostic_name_fails f = next_fails (λ n. token_stops (Mark sign.Comma) 0 0 (λ p. omega arith)) comma_closes diagnostic_in f

      module _ {n : NameShape} {at : ℕ} (x : Reads Name 0 tokens (from + 1) n at) where
        diagnostic_named : Stage (DiagnosticRest p) 0 tokens from at (After (Placed (Mark sign.Comma)) (λ o. DiagnosticRule n))
        diagnostic_named = next (λ n. token_stops (Mark sign.Comma) 0 0 (λ p. omega arith)) diagnostic_in x

        pub diagnostic_comma : ((o : Place) → slice_get tokens at ≡ Some (Mark sign.Comma o) → ⊥) → Fails (DiagnosticRest p) 0 tokens from at
        diagnostic_comma never = no_token (λ o. rules_close n) never diagnostic_named

        module _ (o : Place) (comma : slice_get tokens at ≡ Some (Mark sign.Comma o)) where
          diagnostic_rule : Stage (DiagnosticRest p) 0 tokens from (at + 1) (DiagnosticRule n)
          diagnostic_rule = token (λ p. refl) o comma diagnostic_named

          pub diagnostic_rule_fails : {to : ℕ} → Fails RuleOf 2 tokens (at + 1) to → Fails (DiagnosticRest p) 0 tokens from to
          diagnostic_rule_fails f = next_fails (λ r. ending_stops sign.Close 0 2 (λ p. omega arith) (omega arith)) (close_closes n) diagnostic_rule f

          module _ {r : RuleShape} {second : ℕ} (y : Reads RuleOf 2 tokens (at + 1) r second) where
            diagnostic_ruled : Stage (DiagnosticRest p) 0 tokens from second (DiagnosticClose n r)
            diagnostic_ruled = next (λ r. ending_stops sign.Close 0 2 (λ p. omega arith) (omega arith)) diagnostic_rule y

            pub diagnostic_ending_fails : {to : ℕ} → Fails (Ending sign.Close) 0 tokens second to → Fails (DiagnosticRest p) 0 tokens from to
            diagnostic_ending_fails f = next_fails (λ t. token_stops (Mark sign.Semicolon) 0 0 (λ p. omega arith)) (end_closes n r) diagnostic_ruled f

            module _ {t : Bool} {third : ℕ} (z : Reads (Ending sign.Close) 0 tokens second t third) where
              diagnostic_closed : Stage (DiagnosticRest p) 0 tokens from third (DiagnosticEnd n r t)
              diagnostic_closed = next (λ t. token_stops (Mark sign.Semicolon) 0 0 (λ p. omega arith)) diagnostic_ruled z

              pub diagnostic_stuck : ((x : Place) → slice_get tokens third ≡ Some (Mark sign.Semicolon x) → ⊥) → Fails (DiagnosticRest p) 0 tokens from third
              diagnostic_stuck never = no_token (λ x. closes_end (diagnostic_directive p n r t)) never diagnostic_closed

              pub diagnostic_reads : (x : Place) → slice_get tokens third ≡ Some (Mark sign.Semicolon x) → Reads (DiagnosticRest p) 0 tokens from (diagnostic_directive p n r t) (third + 1)
              diagnostic_reads x ends = ended (token (λ p. refl) x ends diagnostic_closed)

-- directives, by their keywords
pub directive_there : (r : DirectiveShape) (ts w : List Lexeme) → DirectiveOf r ts w → Headed DirectiveAt r ts w
directive_there r ts w (diagnostic n {r = s} {trailing = t} p q o k x {ts = us} {us = vs} g m) =
    record { first = Key word.Diagnostic p; others = Mark sign.Open q ∷ (Word n.text n.place ∷ (Mark sign.Comma o ∷ us)); split = refl; at = record { part = q; others = Word n.text n.place ∷ (Mark sign.Comma o ∷ us); phrase = record { is = refl }; rest = record { part = n; others = Mark sign.Comma o ∷ us; phrase = name n; rest = record { part = o; others = us; phrase = record { is = refl }; rest = record { part = s; others = vs; phrase = g; rest = record { part = t; others = Mark sign.Semicolon x ∷ w; phrase = ending k m; rest = record { part = x; others = w; phrase = record { is = refl }; rest = record { same = refl; left = refl } } } } } } } }
directive_there r ts w (requires_names {ns = ns} {trailing = t} p q {ts = us} g) = record { first = Key word.Requires p; others = us; split = refl; at = record { part = ((ns, t), q); others = w; phrase = enclosed q g; rest = record { same = refl; left = refl } } }
directive_there r ts w (enables_names {ns = ns} {trailing = t} p q {ts = us} g) = record { first = Key word.Enable p; others = us; split = refl; at = record { part = ((ns, t), q); others = w; phrase = enclosed q g; rest = record { same = refl; left = refl } } }

diagnostic_by : (p q o : Place) (n : NameShape) (s : RuleShape) (t : Bool) (us vs xs w : List Lexeme) (x : Place) → RuleOf s us vs → Ending sign.Close t vs xs →
    xs ≡ Mark sign.Semicolon x ∷ w → DirectiveOf (diagnostic_directive p n s t) (Key word.Diagnostic p ∷ (Mark sign.Open q ∷ (Word n.text n.place ∷ (Mark sign.Comma o ∷ us)))) w
diagnostic_by p q o n s t us vs xs w x g (ending k m) e = diagnostic n p q o k x g (subst (λ l. MaybeMark sign.Comma t vs (Mark sign.Close k ∷ l)) e m)

requires_by : (p : Place) (l : (List NameShape × Bool) × Place) (us w : List Lexeme) → Enclosed (Listed Name) sign.Semicolon l us w → DirectiveOf (requires_directive p l.0.0 l.0.1) (Key word.Requires p ∷ us) w
requires_by p l us w (enclosed q g) = requires_names p q g

enables_by : (p : Place) (l : (List NameShape × Bool) × Place) (us w : List Lexeme) → Enclosed (Listed Name) sign.Semicolon l us w → DirectiveOf (enable_directive p l.0.0 l.0.1) (Key word.Enable p ∷ us) w
enables_by p l us w (enclosed q g) = enables_names p q g

directive_by : (t : Lexeme) (r : DirectiveShape) (us w : List Lexeme) → DirectiveAt t r us w → DirectiveOf r (t ∷ us) w
directive_by (Key word.Diagnostic p) r us w a =
    let n = a.rest in
    let o = n.rest in
    let s = o.rest in
    let e = s.rest in
    let x = e.rest in
    subst (λ y. DirectiveOf y (Key word.Diagnostic p ∷ us) w) (sym x.rest.same)
    (subst (λ l. DirectiveOf (diagnostic_directive p n.part s.part e.part) (Key word.Diagnostic p ∷ l) w) (sym (a.phrase.is ∙ ap (λ l. Mark sign.Open a.part ∷ l) (name_begins n.part a.others n.others n.phrase ∙ ap (λ l. Word n.part.text n.part.place ∷ l) o.phrase.is)))
    (diagnostic_by p a.part o.part n.part s.part e.part o.others s.others e.others w x.part s.phrase e.phrase (x.phrase.is ∙ ap (λ l. Mark sign.Semicolon x.part ∷ l) x.rest.left)))
directive_by (Key word.Requires p) r us w a = subst (λ y. DirectiveOf y (Key word.Requires p ∷ us) w) (sym a.rest.same) (subst (λ l. DirectiveOf (requires_directive p a.part.0.0 a.part.0.1) (Key word.Requires p ∷ us) l) a.rest.left (requires_by p a.part us a.others a.phrase))
directive_by (Key word.Enable p) r us w a = subst (λ y. DirectiveOf y (Key word.Enable p ∷ us) w) (sym a.rest.same) (subst (λ l. DirectiveOf (enable_directive p a.part.0.0 a.part.0.1) (Key word.Enable p ∷ us) l) a.rest.left (enables_by p a.part us a.others a.phrase))
directive_by _ r us w a = absurd a

directive_back : (r : DirectiveShape) (ts w : List Lexeme) → Headed DirectiveAt r ts w → DirectiveOf r ts w
directive_back r ts w k = subst (λ l. DirectiveOf r l w) (sym k.split) (directive_by k.first r k.others w k.at)

-- a token that no directive begins with
pub no_directive : (tokens : List Lexeme) (at : ℕ) → ((p : Place) → slice_get tokens at ≡ Some (Key word.Diagnostic p) → ⊥) →
    ((p : Place) → slice_get tokens at ≡ Some (Key word.Requires p) → ⊥) → ((p : Place) → slice_get tokens at ≡ Some (Key word.Enable p) → ⊥) → (r : DirectiveShape) (ys w : List Lexeme) →
    DirectiveOf r ys w → Near ys (drop at tokens) → ⊥
no_directive tokens at a b c r ys w g near = let k = directive_there r ys w g in by k.first r k.others w (near_get tokens at k.first k.others (subst (λ x. Near x (drop at tokens)) k.split near)) k.at
  where
    by : (t : Lexeme) (r : DirectiveShape) (us w : List Lexeme) → slice_get tokens at ≡ Some t → DirectiveAt t r us w → ⊥
    by (Key word.Diagnostic p) r us w is d = a p is
    by (Key word.Requires p) r us w is d = b p is
    by (Key word.Enable p) r us w is d = c p is
    by _ r us w is d = d

module _ {tokens : List Lexeme} {from : ℕ} (h : from ≤ length tokens) where
  directive_begin : Stage DirectiveOf 0 tokens from from (Headed DirectiveAt)
  directive_begin = change DirectiveOf 0 tokens from from DirectiveOf (Headed DirectiveAt) (λ r ys w stop near g. directive_there r ys w g) directive_back (begin DirectiveOf 0 tokens from h)

  pub directive_stuck : ((p : Place) → slice_get tokens from ≡ Some (Key word.Diagnostic p) → ⊥) → ((p : Place) → slice_get tokens from ≡ Some (Key word.Requires p) → ⊥) → ((p : Place) → slice_get tokens from ≡ Some (Key word.Enable p) → ⊥) → Fails DirectiveOf 0 tokens from from
  directive_stuck a b c =
      stuck DirectiveOf 0 tokens from from DirectiveOf
      (let k = diagnostic_closes some_place in record { tree = k.tree; more = Key word.Diagnostic some_place ∷ k.more; closed = λ w. directive_by (Key word.Diagnostic some_place) k.tree (k.more ++ w) w (k.closed w) })
      (λ r ys w stop g near. no_directive tokens from a b c r ys w g near)
      (begin DirectiveOf 0 tokens from h)

  module _ (t : Lexeme) (is : slice_get tokens from ≡ Some t) where
    directive_key : Stage DirectiveOf 0 tokens from (from + 1) (DirectiveAt t)
    directive_key =
        take_head DirectiveOf 0 tokens from from DirectiveAt (λ r ys w. ⊥) t is (λ r zs w stop d. d)
        (change DirectiveOf 0 tokens from from (Headed DirectiveAt) (λ r ys w. Headed DirectiveAt r ys w ⊎ ⊥) (λ r ys w stop near k. inl k) (λ r ys w c. elim c [ inl k ↦ k | inr d ↦ absurd d ]) directive_begin)

    pub directive_reads : {r : DirectiveShape} {to : ℕ} → Reads (DirectiveAt t) 0 tokens (from + 1) r to → Reads DirectiveOf 0 tokens from r to
    directive_reads {r = r} {to = to} x = then_reads DirectiveOf (DirectiveAt t) 0 tokens from (from + 1) to directive_key r x

    pub directive_fails : {to : ℕ} → Fails (DirectiveAt t) 0 tokens (from + 1) to → Fails DirectiveOf 0 tokens from to
    directive_fails {to = to} x = then_fails DirectiveOf (DirectiveAt t) 0 tokens from (from + 1) to directive_key x

-- names behind `requires` or `enable`
module _ {S : Type 0} {R : Type 0} {L : R → List Lexeme → List Lexeme → Type 0} (build : R → S) {tokens : List Lexeme} {from : ℕ} (h : from ≤ length tokens) {to : ℕ} where
  pub built_reads : {r : R} → Reads L 0 tokens from r to → Reads (After L (λ l. Ends (build l))) 0 tokens from (build r) to
  built_reads x = ended (next (λ l. end_stops 0 0 (omega arith)) (begin (After L (λ l. Ends (build l))) 0 tokens from h) x)

  pub built_fails : Fails L 0 tokens from to → Fails (After L (λ l. Ends (build l))) 0 tokens from to
  built_fails f = next_fails (λ l. end_stops 0 0 (omega arith)) (λ l. closes_end (build l)) (begin (After L (λ l. Ends (build l))) 0 tokens from h) f
