-- Statements by their first tokens, and lists of parts as lists.
use Rattle.std.proofs.Common.{◌≡◌, refl, sym, ap, ◌∙◌, subst, ◌⊎◌, inl, inr, Option, None, Some, List, [], ◌∷◌}
use Rattle.shade_base.specs.declared.place.Place.{Place}
use Rattle.shade_ast.specs.declared.lexeme.Keyword.TheVariants as word
use Rattle.shade_ast.specs.declared.lexeme.Sign.TheVariants as sign
use Rattle.shade_ast.specs.Lexemes.{Lexeme, Key, Mark}
use Rattle.shade_ast.specs.Shapes.{AttrShape, first_place, ExprShape, simple_place, BlockShape, StmtShape, empty_stmt, block_stmt, block_place, simple_stmt, return_stmt, break_stmt, continue_stmt, discard_stmt, assert_stmt, if_stmt, switch_stmt, loop_stmt, for_stmt, while_stmt, StmtShapes, stmts, braces, ArmShapes, no_arms, else_arm, else_if_arm, ClauseShapes, case_clause, default_clause, ContinuingShape, no_continuing, continuing_part}
use Rattle.shade_ast.specs.Shaped.{stmt_shapes, clause_shapes, arm_shapes}
use Rattle.shade_ast.specs.Repeats.{Many, no_more, more, Maybe, absent, present}
use Rattle.shade_ast.specs.Expressions.{Expression}
use Rattle.shade_ast.specs.Statements.{Attribute, SimpleStatement, UpdateOf, MaybeMark, Block, block, Statements, no_statement, more_statements, Statement, is_empty, is_block, is_simple, is_return, is_break, is_continue, is_discard, is_assert, is_if, is_switch, is_loop, is_for, is_while, Arms, no_else, otherwise, else_if, Clauses, no_clause, case, default, MaybeContinuing, not_continuing, continuing, BreaksIf}
use Rattle.shade_ast.specs.Chains.{After, Ends, Headed}
use Rattle.shade_parse_stmt.specs.Follows.{Marked}
use Rattle.shade_parse_stmt.specs.StatementParts.{Until, Braced, Guards, ForHeadShape, OneClause, ClauseAt, SwitchShape, SwitchRest, ContinuingRest, LoopEnds, LoopShape, LoopRest, OneArm, LastArm, AllArms, CompoundAt, Compound, PlainAt, Plain}

pub ended : {R : Type 0} (e : R) (w : List Lexeme) → Ends e e w w
ended e w = record { same = refl; left = refl }

-- a list of its own type as a list
pub record Lists {S T : Type 0} (G : S → List Lexeme → List Lexeme → Type 0) (of : List S → T) (t : T) (ts us : List Lexeme) : Type 0 where
  pub list : List S
  pub same : t ≡ of list
  pub phrases : Many G list ts us

pub statements_there : (ss : StmtShapes) (ts us : List Lexeme) → Statements ss ts us → Lists Statement stmt_shapes ss ts us
statements_there ss ts us no_statement = record { list = []; same = refl; phrases = no_more }
statements_there ss ts us (more_statements {s = s} {ss = others} {us = vs} g h) =
    let l : Lists Statement stmt_shapes others vs us = statements_there others vs us h in
    record { list = s ∷ l.list; same = ap (stmts s) l.same; phrases = more g l.phrases }

pub statements_back : (l : List StmtShape) (ts us : List Lexeme) → Many Statement l ts us → Statements (stmt_shapes l) ts us
statements_back l ts us no_more = no_statement
statements_back l ts us (more {rs = rs} {us = vs} g m) = more_statements g (statements_back rs vs us m)

pub clauses_there : (cs : ClauseShapes) (ts us : List Lexeme) → Clauses cs ts us → Lists OneClause clause_shapes cs ts us
clauses_there cs ts us no_clause = record { list = []; same = refl; phrases = no_more }
clauses_there cs ts us (case {selectors = ss} {trailing = trailing} {colon = colon} {b = b} {clauses = others} p {ts = vs} {us = ws} {vs = xs} {ws = zs} l m g h) =
    let k : Lists OneClause clause_shapes others zs us = clauses_there others zs us h in
    record {
      list = case_clause p ss trailing colon b ∷ k.list;
      same = ap (case_clause p ss trailing colon b) k.same;
      phrases = more
          (record {
            first = Key word.Case p;
            others = vs;
            split = refl;
            at = record {
              part = (ss, trailing);
              others = ws;
              phrase = l;
              rest = record {
                part = (colon, b);
                others = zs;
                phrase = record { part = colon; others = xs; phrase = m; rest = record { part = b; others = zs; phrase = g; rest = ended (colon, b) zs } };
                rest = ended (case_clause p ss trailing colon b) zs;
              };
            };
          }) k.phrases;
    }
clauses_there cs ts us (default {colon = colon} {b = b} {clauses = others} p {ts = vs} {us = ws} {vs = zs} m g h) =
    let k : Lists OneClause clause_shapes others zs us = clauses_there others zs us h in
    record {
      list = default_clause p colon b ∷ k.list;
      same = ap (default_clause p colon b) k.same;
      phrases = more
          (record {
            first = Key word.Default p;
            others = vs;
            split = refl;
            at = record {
              part = (colon, b);
              others = zs;
              phrase = record { part = colon; others = ws; phrase = m; rest = record { part = b; others = zs; phrase = g; rest = ended (colon, b) zs } };
              rest = ended (default_clause p colon b) zs;
            };
          }) k.phrases;
    }

clause_back : (c : ClauseShapes → ClauseShapes) (t : Lexeme) (ts us : List Lexeme) → ClauseAt t c ts us → (cs : ClauseShapes) (vs : List Lexeme) → Clauses cs us vs → Clauses (c cs) (t ∷ ts) vs
clause_back c (Key word.Case p) ts us a cs vs h =
    let b = a.rest.part in
    let g : Block b.1 a.rest.phrase.others us = subst (λ x. Block b.1 a.rest.phrase.others x) (a.rest.phrase.rest.rest.left ∙ a.rest.rest.left) (subst (λ x. Block x a.rest.phrase.others a.rest.phrase.rest.others) (ap (λ x. x.1) (sym a.rest.phrase.rest.rest.same)) a.rest.phrase.rest.phrase) in
    subst (λ x. Clauses x (Key word.Case p ∷ ts) vs) (ap (λ f. f cs) (sym a.rest.rest.same)) (case p a.phrase (subst (λ x. MaybeMark sign.Colon x a.others a.rest.phrase.others) (ap (λ x. x.0) (sym a.rest.phrase.rest.rest.same)) a.rest.phrase.phrase) g h)
clause_back c (Key word.Default p) ts us a cs vs h =
    let b = a.part in
    let g : Block b.1 a.phrase.others us = subst (λ x. Block b.1 a.phrase.others x) (a.phrase.rest.rest.left ∙ a.rest.left) (subst (λ x. Block x a.phrase.others a.phrase.rest.others) (ap (λ x. x.1) (sym a.phrase.rest.rest.same)) a.phrase.rest.phrase) in
    subst (λ x. Clauses x (Key word.Default p ∷ ts) vs) (ap (λ f. f cs) (sym a.rest.same)) (default p (subst (λ x. MaybeMark sign.Colon x ts a.phrase.others) (ap (λ x. x.0) (sym a.phrase.rest.rest.same)) a.phrase.phrase) g h)
clause_back c _ ts us a cs vs h = absurd a

pub clauses_back : (l : List (ClauseShapes → ClauseShapes)) (ts us : List Lexeme) → Many OneClause l ts us → Clauses (clause_shapes l) ts us
clauses_back l ts us no_more = no_clause
clauses_back l ts us (more {r = c} {rs = rs} {us = vs} g m) = subst (λ x. Clauses (c (clause_shapes rs)) x us) (sym g.split) (clause_back c g.first g.others vs g.at (clause_shapes rs) us (clauses_back rs vs us m))

-- what follows the first block of an `if`
pub arms_there : (a : ArmShapes) (ts w : List Lexeme) → Arms a ts w → AllArms a ts w
arms_there a ts w no_else = record { part = []; others = ts; phrase = no_more; rest = record { part = None; others = ts; phrase = absent; rest = ended no_arms ts } }
arms_there a ts w (otherwise {b = b} p {ts = us} g) =
    record { part = []; others = ts; phrase = no_more; rest = record { part = Some (else_arm p b); others = w; phrase = present (record { place = p; others = us; split = refl; rest = record { part = b; others = w; phrase = g; rest = ended (else_arm p b) w } }); rest = ended (else_arm p b) w } }
arms_there a ts w (else_if {e = e} {b = b} {arms = others} p q {ts = us} {us = vs} {vs = ws} g h more_arms) =
    let k : AllArms others ws w = arms_there others ws w more_arms in
    record {
      part = else_if_arm p q e b ∷ k.part;
      others = k.others;
      phrase = more
          (record {
            place = p;
            others = Key word.If q ∷ us;
            split = refl;
            rest = record {
              place = q;
              others = us;
              split = refl;
              rest = record {
                part = (e, b);
                others = ws;
                phrase = record { part = e; others = vs; phrase = g; rest = record { part = b; others = ws; phrase = h; rest = ended (e, b) ws } };
                rest = ended
                    (else_if_arm p q e b) ws;
              };
            };
          }) k.phrase;
      rest = record { part = k.rest.part; others = k.rest.others; phrase = k.rest.phrase; rest = record { same = ap (else_if_arm p q e b) k.rest.rest.same; left = k.rest.rest.left } };
    }

guards_expression : (g : ExprShape × BlockShape) (ts w : List Lexeme) → (k : Guards g ts w) → Expression g.0 ts k.others
guards_expression g ts w k = subst (λ x. Expression x ts k.others) (ap (λ x. x.0) (sym k.rest.rest.same)) k.phrase

guards_block : (g : ExprShape × BlockShape) (ts w : List Lexeme) → (k : Guards g ts w) → Block g.1 k.others w
guards_block g ts w k = subst (λ x. Block g.1 k.others x) k.rest.rest.left (subst (λ x. Block x k.others k.rest.others) (ap (λ x. x.1) (sym k.rest.rest.same)) k.rest.phrase)

last_back : (o : Option ArmShapes) (ts w : List Lexeme) → Maybe LastArm o ts w → Arms (arm_shapes [] o) ts w
last_back o ts w absent = no_else
last_back o ts w (present {r = r} g) =
    subst (λ x. Arms x ts w) (sym g.rest.rest.same) (subst (λ x. Arms (else_arm g.place g.rest.part) x w) (sym g.split) (otherwise g.place (subst (λ x. Block g.rest.part g.others x) g.rest.rest.left g.rest.phrase)))

arms_back : (l : List (ArmShapes → ArmShapes)) (o : Option ArmShapes) (ts us w : List Lexeme) → Many OneArm l ts us → Maybe LastArm o us w → Arms (arm_shapes l o) ts w
arms_back l o ts us w no_more e = last_back o ts w e
arms_back l o ts us w (more {r = f} {rs = rs} {us = vs} g m) e =
    let k = g.rest.rest in
    let arm : f ≡ else_if_arm g.place g.rest.place k.part.0 k.part.1 = k.rest.same in
    let later : Arms (arm_shapes rs o) vs w = arms_back rs o vs us w m e in
    let b : Block k.part.1 k.phrase.others vs = subst (λ x. Block k.part.1 k.phrase.others x) k.rest.left (guards_block k.part g.rest.others k.others k.phrase) in
    subst (λ x. Arms x ts w) (ap (λ h. h (arm_shapes rs o)) (sym arm))
    (subst (λ x. Arms (else_if_arm g.place g.rest.place k.part.0 k.part.1 (arm_shapes rs o)) x w) (sym (g.split ∙ ap (λ x. Key word.Else g.place ∷ x) g.rest.split))
    (else_if g.place g.rest.place (guards_expression k.part g.rest.others k.others k.phrase) b later))

pub all_arms_back : (a : ArmShapes) (ts w : List Lexeme) → AllArms a ts w → Arms a ts w
all_arms_back a ts w k = subst (λ x. Arms x ts w) (sym k.rest.rest.same) (subst (Arms (arm_shapes k.part k.rest.part) ts) k.rest.rest.left (arms_back k.part k.rest.part ts k.others k.rest.others k.phrase k.rest.phrase))

-- a block behind its attributes
abbrev pub BlockRest : BlockShape → List Lexeme → List Lexeme → Type 0
BlockRest = After (Many Attribute) (λ attrs. Marked (Mark sign.OpenBrace) (λ p. After Braced (λ b. Ends (braces (first_place attrs p) attrs (stmt_shapes b.0) b.1))))

braced_there : (body : StmtShapes) (q : Place) (us w : List Lexeme) → (l : Lists Statement stmt_shapes body us (Mark sign.CloseBrace q ∷ w)) → Braced (l.list, q) us w
braced_there body q us w l = record { part = l.list; others = Mark sign.CloseBrace q ∷ w; phrase = l.phrases; rest = record { place = q; others = w; split = refl; rest = ended (l.list, q) w } }

pub block_there : (b : BlockShape) (ts w : List Lexeme) → Block b ts w → BlockRest b ts w
block_there b ts w (block attrs {body = body} p q {us = us} m s) =
    let l = statements_there body us (Mark sign.CloseBrace q ∷ w) s in
    record { part = attrs; others = Mark sign.OpenBrace p ∷ us; phrase = m; rest = record { place = p; others = us; split = refl; rest = record { part = (l.list, q); others = w; phrase = braced_there body q us w l; rest = record { same = ap (λ x. braces (first_place attrs p) attrs x q) l.same; left = refl } } } }

braced_back : (b : List StmtShape × Place) (us w : List Lexeme) → Braced b us w → Statements (stmt_shapes b.0) us (Mark sign.CloseBrace b.1 ∷ w)
braced_back b us w k =
    subst (λ x. Statements (stmt_shapes x.0) us (Mark sign.CloseBrace x.1 ∷ w)) (sym k.rest.rest.same)
    (statements_back k.part us (Mark sign.CloseBrace k.rest.place ∷ w) (subst (Many Statement k.part us) (k.rest.split ∙ ap (λ x. Mark sign.CloseBrace k.rest.place ∷ x) k.rest.rest.left) k.phrase))

pub block_back : (b : BlockShape) (ts w : List Lexeme) → BlockRest b ts w → Block b ts w
block_back b ts w k =
    let c = k.rest.rest in
    subst (λ x. Block x ts w) (sym c.rest.same)
    (block k.part k.rest.place c.part.1 (subst (Many Attribute k.part ts) k.rest.split k.phrase) (subst (λ x. Statements (stmt_shapes c.part.0) k.rest.others (Mark sign.CloseBrace c.part.1 ∷ x)) c.rest.left (braced_back c.part k.rest.others c.others c.phrase)))

-- what is left out or not, and the mark behind it
until_there : {S : Type 0} (closer : Place → Lexeme) (B : S → List Lexeme → List Lexeme → Type 0) (o : Option S) (ts w : List Lexeme) (q : Place) → Maybe B o ts (closer q ∷ w) → Until closer B o ts w
until_there closer B o ts w q m = record { part = o; others = closer q ∷ w; phrase = m; rest = record { place = q; others = w; split = refl; rest = ended o w } }

until_back : {S : Type 0} (closer : Place → Lexeme) (B : S → List Lexeme → List Lexeme → Type 0) (o : Option S) (ts w : List Lexeme) → (k : Until closer B o ts w) → Maybe B o ts (closer k.rest.place ∷ w)
until_back closer B o ts w k = subst (λ x. Maybe B x ts (closer k.rest.place ∷ w)) (sym k.rest.rest.same) (subst (Maybe B k.part ts) (k.rest.split ∙ ap (λ x. closer k.rest.place ∷ x) k.rest.rest.left) k.phrase)

-- a statement that attributes may stand before, or one that none may
head : {attrs : List AttrShape} {r : StmtShape} {ts us w : List Lexeme} (t : Lexeme) → Many Attribute attrs ts (t ∷ us) → CompoundAt attrs t r us w → Compound r ts w
head {attrs = attrs} {us = us} t m a = record { part = attrs; others = t ∷ us; phrase = m; rest = record { first = t; others = us; split = refl; at = a } }

block_statement : (b : BlockShape) (ts w : List Lexeme) → Block b ts w → Compound (block_stmt (block_place b) b) ts w
block_statement b ts w (block attrs {body = body} p q {us = us} m s) =
    let l = statements_there body us (Mark sign.CloseBrace q ∷ w) s in
    head (Mark sign.OpenBrace p) m (record { part = (l.list, q); others = w; phrase = braced_there body q us w l; rest = record { same = ap (λ x. block_stmt (first_place attrs p) (braces (first_place attrs p) attrs x q)) l.same; left = refl } })

loop_there : (inner : List AttrShape) (body : StmtShapes) (c : ContinuingShape) (q r : Place) (us vs ws w : List Lexeme) → Many Attribute inner us (Mark sign.OpenBrace q ∷ vs) →
    (l : Lists Statement stmt_shapes body vs ws) → MaybeContinuing c ws (Mark sign.CloseBrace r ∷ w) → LoopRest (record { inner = inner; body = l.list; continuing = c; end = r }) us w
loop_there inner body c q r us vs ws w i l k =
    record { part = inner; others = Mark sign.OpenBrace q ∷ vs; phrase = i; rest = record { place = q; others = vs; split = refl; rest = record { part = l.list; others = ws; phrase = l.phrases; rest = record { part = (c, r); others = w; phrase = record { part = c; others = Mark sign.CloseBrace r ∷ w; phrase = k; rest = record { place = r; others = w; split = refl; rest = ended (c, r) w } }; rest = ended (record { inner = inner; body = l.list; continuing = c; end = r }) w } } } }

pub statement_there : (s : StmtShape) (ts w : List Lexeme) → Statement s ts w → Compound s ts w ⊎ Plain s ts w
statement_there s ts w (is_empty p) = inr (inl (record { first = Mark sign.Semicolon p; others = w; split = refl; at = ended (empty_stmt p) w }))
statement_there s ts w (is_block {b = b} g) = inl (block_statement b ts w g)
statement_there s ts w (is_simple {s = t} p g) = inr (inr (record { part = t; others = Mark sign.Semicolon p ∷ w; phrase = g; rest = record { place = p; others = w; split = refl; rest = ended (simple_stmt (simple_place t) t) w } }))
statement_there s ts w (is_return {e = e} p q {ts = us} g) = inr (inl (record { first = Key word.Return p; others = us; split = refl; at = record { part = e; others = w; phrase = until_there (Mark sign.Semicolon) Expression e us w q g; rest = ended (return_stmt p e) w } }))
statement_there s ts w (is_break p q) = inr (inl (record { first = Key word.Break p; others = Mark sign.Semicolon q ∷ w; split = refl; at = record { place = q; others = w; split = refl; rest = ended (break_stmt p) w } }))
statement_there s ts w (is_continue p q) = inr (inl (record { first = Key word.Continue p; others = Mark sign.Semicolon q ∷ w; split = refl; at = record { place = q; others = w; split = refl; rest = ended (continue_stmt p) w } }))
statement_there s ts w (is_discard p q) = inr (inl (record { first = Key word.Discard p; others = Mark sign.Semicolon q ∷ w; split = refl; at = record { place = q; others = w; split = refl; rest = ended (discard_stmt p) w } }))
statement_there s ts w (is_assert {e = e} p q {ts = us} g) = inr
    (inl
    (record {
      first = Key word.ConstAssert p;
      others = us;
      split = refl;
      at = record {
        part = e;
        others = w;
        phrase = record { part = e; others = Mark sign.Semicolon q ∷ w; phrase = g; rest = record { place = q; others = w; split = refl; rest = ended e w } };
        rest =
            ended (assert_stmt p e) w;
      };
    }))
statement_there s ts w (is_if attrs {e = e} {b = b} {arms = arms} p {us = us} {vs = vs} {ws = ws} m g h a) = inl
    (head (Key word.If p) m
    (record {
      part = (e, b);
      others = ws;
      phrase = record { part = e; others = vs; phrase = g; rest = record { part = b; others = ws; phrase = h; rest = ended (e, b) ws } };
      rest = record
          { part = arms; others = w; phrase = arms_there arms ws w a; rest = ended (if_stmt (first_place attrs p) attrs p e b arms) w };
    }))
statement_there s ts w (is_switch attrs {e = e} {inner = inner} {clauses = cs} p q r {us = us} {vs = vs} {ws = ws} m g i c) =
    let l : Lists OneClause clause_shapes cs ws (Mark sign.CloseBrace r ∷ w) = clauses_there cs ws (Mark sign.CloseBrace r ∷ w) c in
    inl
    (head (Key word.Switch p) m
    (record {
      part = record { selector = e; inner = inner; clauses = cs; end = r };
      others = w;
      phrase = record {
        part = e;
        others = vs;
        phrase = g;
        rest = record {
          part = inner;
          others = Mark sign.OpenBrace q ∷ ws;
          phrase = i;
          rest = record {
            place = q;
            others = ws;
            split = refl;
            rest = record {
              part = l.list;
              others = Mark sign.CloseBrace r ∷ w;
              phrase = l.phrases;
              rest = record
                  { place = r; others = w; split = refl; rest = record { same = λ k. record { selector = e; inner = inner; clauses = l.same k; end = r }; left = refl } };
            };
          };
        };
      };
      rest =
          ended (switch_stmt (first_place attrs p) attrs p e inner cs r) w;
    }))
statement_there s ts w (is_loop attrs {inner = inner} {body = body} {continuing = c} p q r {us = us} {vs = vs} {ws = ws} m i b k) =
    let l : Lists Statement stmt_shapes body vs ws = statements_there body vs ws b in
    inl (head (Key word.Loop p) m (record { part = record { inner = inner; body = l.list; continuing = c; end = r }; others = w; phrase = loop_there inner body c q r us vs ws w i l k; rest = record { same = ap (λ x. loop_stmt (first_place attrs p) attrs p inner x c r) l.same; left = refl } }))
statement_there s ts w (is_for attrs {initial = i} {condition = c} {update = u} {b = b} p q r x o {us = us} {vs = vs} {ws = ws} {xs = xs} m f g h k) =
    let top : ForHeadShape = record { initial = i; condition = c; update = u } in
    inl
    (head (Key word.For p) m
    (record {
      part = record { head = top; body = b };
      others = w;
      phrase = record {
        part = top;
        others = xs;
        phrase = record {
          place = q;
          others = us;
          split = refl;
          rest = record {
            part = i;
            others = vs;
            phrase = until_there (Mark sign.Semicolon) SimpleStatement i us vs r f;
            rest = record {
              part = c;
              others = ws;
              phrase = until_there (Mark sign.Semicolon) Expression c vs ws x g;
              rest = record
                  { part = u; others = xs; phrase = until_there (Mark sign.Close) UpdateOf u ws xs o h; rest = ended top xs };
            };
          };
        };
        rest = record
            { part = b; others = w; phrase = k; rest = ended (record { head = top; body = b }) w };
      };
      rest = ended (for_stmt (first_place attrs p) attrs p i c u b) w;
    }))
statement_there s ts w (is_while attrs {e = e} {b = b} p {us = us} {vs = vs} m g h) = inl
    (head (Key word.While p) m
    (record {
      part = (e, b);
      others = w;
      phrase = record { part = e; others = vs; phrase = g; rest = record { part = b; others = w; phrase = h; rest = ended (e, b) w } };
      rest = ended
          (while_stmt (first_place attrs p) attrs p e b) w;
    }))

guarded_back : (g : ExprShape × BlockShape) (ts us w : List Lexeme) → us ≡ w → Guards g ts us → (vs : List Lexeme) × Expression g.0 ts vs × Block g.1 vs w
guarded_back g ts us w same k = (k.others, guards_expression g ts us k, subst (Block g.1 k.others) same (guards_block g ts us k))

switch_back : (s : SwitchShape) (ts w : List Lexeme) → SwitchRest s ts w → (q : Place) × (us vs : List Lexeme) × Expression s.selector ts us × Many Attribute s.inner us (Mark sign.OpenBrace q ∷ vs) × Clauses s.clauses vs (Mark sign.CloseBrace s.end ∷ w)
switch_back s ts w k =
    let i = k.rest in
    let c = i.rest.rest in
    let is : s ≡ record { selector = k.part; inner = i.part; clauses = clause_shapes c.part; end = c.rest.place } = c.rest.rest.same in
    let all : Many OneClause c.part i.rest.others (Mark sign.CloseBrace c.rest.place ∷ w) = subst (Many OneClause c.part i.rest.others) (c.rest.split ∙ ap (λ x. Mark sign.CloseBrace c.rest.place ∷ x) c.rest.rest.left) c.phrase in (
      i.rest.place,
      k.others,
      i.rest.others,
      subst (λ x. Expression x ts k.others) (ap (λ x. x.selector) (sym is)) k.phrase,
      subst (λ x. Many Attribute x k.others (Mark sign.OpenBrace i.rest.place ∷ i.rest.others)) (ap (λ x. x.inner) (sym is)) (subst (Many Attribute i.part k.others) i.rest.split i.phrase),
      subst (λ x. Clauses x.clauses i.rest.others (Mark sign.CloseBrace x.end ∷ w)) (sym is) (clauses_back c.part i.rest.others (Mark sign.CloseBrace c.rest.place ∷ w) all),
    )

loop_back : (l : LoopShape) (ts w : List Lexeme) → LoopRest l ts w → (q : Place) × (us vs : List Lexeme) × Many Attribute l.inner ts (Mark sign.OpenBrace q ∷ us) × Statements (stmt_shapes l.body) us vs × MaybeContinuing l.continuing vs (Mark sign.CloseBrace l.end ∷ w)
loop_back l ts w k =
    let b = k.rest.rest in
    let e = b.rest in
    let is : l ≡ record { inner = k.part; body = b.part; continuing = e.part.0; end = e.part.1 } = e.rest.same in
    let pair : e.part ≡ (e.phrase.part, e.phrase.rest.place) = e.phrase.rest.rest.same in
    let m : MaybeContinuing e.phrase.part b.others (Mark sign.CloseBrace e.phrase.rest.place ∷ w) = subst (MaybeContinuing e.phrase.part b.others) (e.phrase.rest.split ∙ ap (λ x. Mark sign.CloseBrace e.phrase.rest.place ∷ x) (e.phrase.rest.rest.left ∙ e.rest.left)) e.phrase.phrase in (
      k.rest.place,
      k.rest.others,
      b.others,
      subst (λ x. Many Attribute x ts (Mark sign.OpenBrace k.rest.place ∷ k.rest.others)) (ap (λ x. x.inner) (sym is)) (subst (Many Attribute k.part ts) k.rest.split k.phrase),
      subst (λ x. Statements (stmt_shapes x) k.rest.others b.others) (ap (λ x. x.body) (sym is)) (statements_back b.part k.rest.others b.others b.phrase),
      subst (λ x. MaybeContinuing x.continuing b.others (Mark sign.CloseBrace x.end ∷ w)) (sym is) (subst (λ x. MaybeContinuing x.0 b.others (Mark sign.CloseBrace x.1 ∷ w)) (sym pair) m),
    )

compound_at_back : (attrs : List AttrShape) (t : Lexeme) (ts us w : List Lexeme) (s : StmtShape) → Many Attribute attrs ts (t ∷ us) → CompoundAt attrs t s us w → Statement s ts w
compound_at_back attrs (Mark sign.OpenBrace p) ts us w s m k =
    subst (λ x. Statement x ts w) (sym k.rest.same) (is_block (block attrs p k.part.1 m (subst (λ x. Statements (stmt_shapes k.part.0) us (Mark sign.CloseBrace k.part.1 ∷ x)) k.rest.left (braced_back k.part us k.others k.phrase))))
compound_at_back attrs (Key word.If p) ts us w s m k =
    let g : (vs : List Lexeme) × Expression k.part.0 us vs × Block k.part.1 vs k.others = guarded_back k.part us k.others k.others refl k.phrase in
    subst (λ x. Statement x ts w) (sym k.rest.rest.same) (is_if attrs p m g.1 g.2 (subst (Arms k.rest.part k.others) k.rest.rest.left (all_arms_back k.rest.part k.others k.rest.others k.rest.phrase)))
compound_at_back attrs (Key word.Switch p) ts us w s m k =
    let g = switch_back k.part us w (subst (SwitchRest k.part us) k.rest.left k.phrase) in
    subst (λ x. Statement x ts w) (sym k.rest.same) (is_switch attrs p g.0 k.part.end m g.3 g.4 g.5)
compound_at_back attrs (Key word.Loop p) ts us w s m k =
    let g = loop_back k.part us w (subst (LoopRest k.part us) k.rest.left k.phrase) in
    subst (λ x. Statement x ts w) (sym k.rest.same) (is_loop attrs p g.0 k.part.end m g.3 g.4 g.5)
compound_at_back attrs (Key word.For p) ts us w s m k =
    let f = k.phrase.phrase in
    let i = f.rest in
    let c = i.rest in
    let u = c.rest in
    let b = k.phrase.rest in
    let is : k.part ≡ record { head = record { initial = i.part; condition = c.part; update = u.part }; body = b.part } = b.rest.same ∙ ap (λ x. record { head = x; body = b.part }) u.rest.same in
    let whole : s ≡ for_stmt (first_place attrs p) attrs p i.part c.part u.part b.part = k.rest.same ∙ ap (λ x. for_stmt (first_place attrs p) attrs p x.head.initial x.head.condition x.head.update x.body) is in
    subst (λ x. Statement x ts w) (sym whole)
    (is_for attrs p f.place i.phrase.rest.place c.phrase.rest.place u.phrase.rest.place (subst (λ x. Many Attribute attrs ts (Key word.For p ∷ x)) f.split m)
    (until_back (Mark sign.Semicolon) SimpleStatement i.part f.others i.others i.phrase) (until_back (Mark sign.Semicolon) Expression c.part i.others c.others c.phrase)
    (subst (λ x. Maybe UpdateOf u.part c.others (Mark sign.Close u.phrase.rest.place ∷ x)) u.rest.left (until_back (Mark sign.Close) UpdateOf u.part c.others u.others u.phrase))
    (subst (Block b.part k.phrase.others) (b.rest.left ∙ k.rest.left) b.phrase))
compound_at_back attrs (Key word.While p) ts us w s m k =
    let g : (vs : List Lexeme) × Expression k.part.0 us vs × Block k.part.1 vs w = guarded_back k.part us k.others w k.rest.left k.phrase in
    subst (λ x. Statement x ts w) (sym k.rest.same) (is_while attrs p m g.1 g.2)
compound_at_back attrs _ ts us w s m k = absurd k

pub compound_back : (s : StmtShape) (ts w : List Lexeme) → Compound s ts w → Statement s ts w
compound_back s ts w k = compound_at_back k.part k.rest.first ts k.rest.others w s (subst (Many Attribute k.part ts) k.rest.split k.phrase) k.rest.at

plain_at_back : (t : Lexeme) (s : StmtShape) (us w : List Lexeme) → PlainAt t s us w → Statement s (t ∷ us) w
plain_at_back (Mark sign.Semicolon p) s us w k = subst (λ x. Statement x (Mark sign.Semicolon p ∷ us) w) (sym k.same) (subst (Statement (empty_stmt p) (Mark sign.Semicolon p ∷ us)) k.left (is_empty p))
plain_at_back (Key word.Return p) s us w k =
    subst (λ x. Statement x (Key word.Return p ∷ us) w) (sym k.rest.same) (is_return p k.phrase.rest.place (subst (λ x. Maybe Expression k.part us (Mark sign.Semicolon k.phrase.rest.place ∷ x)) k.rest.left (until_back (Mark sign.Semicolon) Expression k.part us k.others k.phrase)))
plain_at_back (Key word.Break p) s us w k = subst (λ x. Statement x (Key word.Break p ∷ us) w) (sym k.rest.same) (subst (λ x. Statement (break_stmt p) (Key word.Break p ∷ x) w) (sym (k.split ∙ ap (λ x. Mark sign.Semicolon k.place ∷ x) k.rest.left)) (is_break p k.place))
plain_at_back (Key word.Continue p) s us w k = subst (λ x. Statement x (Key word.Continue p ∷ us) w) (sym k.rest.same) (subst (λ x. Statement (continue_stmt p) (Key word.Continue p ∷ x) w) (sym (k.split ∙ ap (λ x. Mark sign.Semicolon k.place ∷ x) k.rest.left)) (is_continue p k.place))
plain_at_back (Key word.Discard p) s us w k = subst (λ x. Statement x (Key word.Discard p ∷ us) w) (sym k.rest.same) (subst (λ x. Statement (discard_stmt p) (Key word.Discard p ∷ x) w) (sym (k.split ∙ ap (λ x. Mark sign.Semicolon k.place ∷ x) k.rest.left)) (is_discard p k.place))
plain_at_back (Key word.ConstAssert p) s us w k =
    let v = k.phrase in
    subst (λ x. Statement x (Key word.ConstAssert p ∷ us) w) (sym (k.rest.same ∙ ap (assert_stmt p) v.rest.rest.same))
    (is_assert p v.rest.place (subst (Expression v.part us) (v.rest.split ∙ ap (λ x. Mark sign.Semicolon v.rest.place ∷ x) (v.rest.rest.left ∙ k.rest.left)) v.phrase))
plain_at_back _ s us w k = absurd k

pub plain_back : (s : StmtShape) (ts w : List Lexeme) → Plain s ts w → Statement s ts w
plain_back s ts w c =
    elim c [
      | inl h ↦ subst (λ x. Statement s x w) (sym h.split) (plain_at_back h.first s h.others w h.at)
      | inr k ↦ subst (λ x. Statement x ts w) (sym k.rest.rest.same) (is_simple k.rest.place (subst (SimpleStatement k.part ts) (k.rest.split ∙ ap (λ x. Mark sign.Semicolon k.rest.place ∷ x) k.rest.rest.left) k.phrase))
    ]

-- what ends a `loop`, by its first token
abbrev pub LoopEndAt : Lexeme → ContinuingShape × Place → List Lexeme → List Lexeme → Type 0
LoopEndAt (Key word.Continuing p) = After (ContinuingRest p) (λ c. Marked (Mark sign.CloseBrace) (λ q. Ends (c, q)))
LoopEndAt (Mark sign.CloseBrace q) = Ends (no_continuing, q)
LoopEndAt _ = λ r us w. ⊥

pub loop_ends_there : (r : ContinuingShape × Place) (ts w : List Lexeme) → LoopEnds r ts w → Headed LoopEndAt r ts w
loop_ends_there r ts w k = by k.part ts k.others k.phrase k.rest.place k.rest.split k.rest.rest.same k.rest.rest.left
  where
    by : (c : ContinuingShape) (ts us : List Lexeme) → MaybeContinuing c ts us → (q : Place) {vs : List Lexeme} → us ≡ Mark sign.CloseBrace q ∷ vs → r ≡ (c, q) → vs ≡ w → Headed LoopEndAt r ts w
    by c ts us not_continuing q {vs} e same left = record { first = Mark sign.CloseBrace q; others = vs; split = e; at = record { same = same; left = left } }
    by c ts us (continuing {attrs = attrs} {body = body} {leave = leave} p o s {ts = xs} {us = ys} {vs = zs} m b l) q {vs} e same left =
        let k : Lists Statement stmt_shapes body ys zs = statements_there body ys zs b in
        record {
          first = Key word.Continuing p;
          others = xs;
          split = refl;
          at = record {
            part = c;
            others = us;
            phrase = record {
              part = attrs;
              others = Mark sign.OpenBrace o ∷ ys;
              phrase = m;
              rest = record {
                place = o;
                others = ys;
                split = refl;
                rest = record {
                  part = record { body = k.list; leave = leave; end = s };
                  others = us;
                  phrase = record {
                    part = k.list;
                    others = zs;
                    phrase = k.phrases;
                    rest = record {
                      part = leave;
                      others = Mark sign.CloseBrace s ∷ us;
                      phrase = l;
                      rest = record
                          { place = s; others = us; split = refl; rest = ended (record { body = k.list; leave = leave; end = s }) us };
                    };
                  };
                  rest = record
                      { same = ap (λ x. continuing_part p attrs x leave s) k.same; left = refl };
                };
              };
            };
            rest = record { place = q; others = vs; split = e; rest = record { same = same; left = left } };
          };
        }

continuing_back : (p : Place) (c : ContinuingShape) (ts w : List Lexeme) → ContinuingRest p c ts w → MaybeContinuing c (Key word.Continuing p ∷ ts) w
continuing_back p c ts w k =
    let l = k.rest.rest in
    let e = l.phrase.rest in
    let is : l.part ≡ record { body = l.phrase.part; leave = e.part; end = e.rest.place } = e.rest.rest.same in
    subst (λ x. MaybeContinuing x (Key word.Continuing p ∷ ts) w) (sym (l.rest.same ∙ ap (λ x. continuing_part p k.part (stmt_shapes x.body) x.leave x.end) is))
    (continuing p k.rest.place e.rest.place (subst (Many Attribute k.part ts) k.rest.split k.phrase) (statements_back l.phrase.part k.rest.others l.phrase.others l.phrase.phrase)
    (subst (Maybe BreaksIf e.part l.phrase.others) (e.rest.split ∙ ap (λ x. Mark sign.CloseBrace e.rest.place ∷ x) (e.rest.rest.left ∙ l.rest.left)) e.phrase))

loop_end_at_back : (t : Lexeme) (r : ContinuingShape × Place) (us w : List Lexeme) → LoopEndAt t r us w → LoopEnds r (t ∷ us) w
loop_end_at_back (Key word.Continuing p) r us w k = record { part = k.part; others = k.others; phrase = continuing_back p k.part us k.others k.phrase; rest = k.rest }
loop_end_at_back (Mark sign.CloseBrace q) r us w k = record { part = no_continuing; others = Mark sign.CloseBrace q ∷ us; phrase = not_continuing; rest = record { place = q; others = us; split = refl; rest = k } }
loop_end_at_back _ r us w k = absurd k

pub loop_ends_back : (r : ContinuingShape × Place) (ts w : List Lexeme) → Headed LoopEndAt r ts w → LoopEnds r ts w
loop_ends_back r ts w h = subst (λ x. LoopEnds r x w) (sym h.split) (loop_end_at_back h.first r h.others w h.at)
