-- Statements that attributes may stand before.
use Rattle.std.proofs.Common.{◌≡◌, refl, sym, ap, ◌∙◌, subst, ℕ, ◌+◌, ◌<◌, ◌≤◌, inl, inr, true, false, Some, List, ◌∷◌, ◌++◌, length, drop, arith, slice_get}
use Rattle.shade_base.specs.declared.place.Place.{Place}
use Rattle.shade_ast.specs.declared.attr.Attr.{Attr}
use Rattle.shade_ast.specs.declared.lexeme.Keyword.TheVariants as word
use Rattle.shade_ast.specs.declared.lexeme.Sign.TheVariants as sign
use Rattle.shade_ast.specs.declared.stmt.Stmt.{Stmt}
use Rattle.shade_ast.specs.declared.stmt.StmtKind.{StmtKind}
use Rattle.shade_ast.specs.Lexemes.{Lexeme, Word, Key, Mark}
use Rattle.shade_ast.specs.Names.{Grows}
use Rattle.shade_ast.specs.Needs.{attrs_need}
use Rattle.shade_ast.specs.Nodes.{attrs_nodes, CountFrom}
use Rattle.shade_ast.specs.Shapes.{AttrShape, first_place, braces, StmtShape, block_stmt}
use Rattle.shade_ast.specs.Shaped.{attr_shapes, stmt_shapes}
use Rattle.shade_ast.specs.Repeats.{Many}
use Rattle.shade_ast.specs.Statements.{Attribute, Statement}
use Rattle.shade_ast.specs.Reads.{Near, rank_of}
use Rattle.shade_ast.proofs.Firsts.{First}
use Rattle.shade_ast.specs.Chains.{After, Ends, Headed}
use Rattle.shade_ast.proofs.Stages.{Closes, closes_end, closes_after, near_get}
use Rattle.shade_ast.proofs.Placed.{some_place}
use Rattle.shade_ast.proofs.StmtLayers.{stmt_kind_shaped, stmt_kind_count}
use Rattle.shade_ast.proofs.StmtNodes.{stmt_kind_numbers}
use Rattle.shade_parse_simple.specs.declared.read.Read.{Read}
use Rattle.shade_parse_simple.specs.Readings.{Seen, attrs_seen, ReadsOf}
use Rattle.shade_parse_stmt.specs.StatementParts.{stmt_seen, Braced, CompoundAt, Compound, PlainAt, Plain}
use Rattle.shade_parse_stmt.specs.Follows.{Above, Anything, Free, ReadsBy, FailsBy, ReadsOfBy}
use Rattle.shade_parse_stmt.specs.Trees.{holds, is_compound}
use Rattle.shade_parse_stmt.proofs.FollowSteps.{Step, begin, change, phrase, phrase_fails, head, stuck, then_reads, then_fails}
use Rattle.shade_parse_stmt.proofs.StatementFirsts.{IsAt, BeginsSimple, simple_first, attributed_first}
use Rattle.shade_parse_stmt.proofs.StatementTrees.{statement_tree}
use Rattle.shade_parse_stmt.proofs.Phrasings.{statement_there, compound_back, plain_back}
use Rattle.shade_parse_stmt.proofs.Grown.{grown, attrs_steady}
use Rattle.shade_parse_stmt.proofs.Handing.{ranked_read}
use Rattle.shade_parse_stmt.proofs.Blocks.{braced_closes}
use Rattle.shade_parse_stmt.proofs.Closings.{last_fails, last_reads}

-- what decides behind attributes
compound_rank : (attrs : List AttrShape) (t : Lexeme) (r : StmtShape) (us w : List Lexeme) → CompoundAt attrs t r us w → 8 < rank_of t
compound_rank attrs (Mark sign.OpenBrace p) r us w a = omega arith
compound_rank attrs (Key word.If p) r us w a = omega arith
compound_rank attrs (Key word.Switch p) r us w a = omega arith
compound_rank attrs (Key word.Loop p) r us w a = omega arith
compound_rank attrs (Key word.For p) r us w a = omega arith
compound_rank attrs (Key word.While p) r us w a = omega arith
compound_rank attrs _ r us w a = absurd a

abbrev IsCompound : Lexeme → Type 0
IsCompound t = is_compound t ≡ true

compound_token : (attrs : List AttrShape) (t : Lexeme) (r : StmtShape) (us w : List Lexeme) → CompoundAt attrs t r us w → IsCompound t
compound_token attrs (Mark sign.OpenBrace p) r us w a = refl
compound_token attrs (Key word.If p) r us w a = refl
compound_token attrs (Key word.Switch p) r us w a = refl
compound_token attrs (Key word.Loop p) r us w a = refl
compound_token attrs (Key word.For p) r us w a = refl
compound_token attrs (Key word.While p) r us w a = refl
compound_token attrs _ r us w a = absurd a

at_compound : (t : Lexeme) → IsAt t → IsCompound t
at_compound (Mark sign.At place) h = refl
at_compound _ h = absurd h

pub compound_first : (r : StmtShape) (ys w : List Lexeme) → Compound r ys w → First IsCompound ys
compound_first r ys w k = attributed_first IsCompound at_compound k.part ys k.others k.rest.others k.rest.first k.phrase k.rest.split (compound_token k.part k.rest.first r k.rest.others w k.rest.at)

plain_token : (t : Lexeme) (r : StmtShape) (us w : List Lexeme) → PlainAt t r us w → is_compound t ≡ false
plain_token (Mark sign.Semicolon p) r us w a = refl
plain_token (Key word.Return p) r us w a = refl
plain_token (Key word.Break p) r us w a = refl
plain_token (Key word.Continue p) r us w a = refl
plain_token (Key word.Discard p) r us w a = refl
plain_token (Key word.ConstAssert p) r us w a = refl
plain_token _ r us w a = absurd a

simple_token : (t : Lexeme) → BeginsSimple t → is_compound t ≡ false
simple_token (Word text place) h = refl
simple_token (Mark sign.Open place) h = refl
simple_token (Mark sign.Star place) h = refl
simple_token (Mark sign.Ampersand place) h = refl
simple_token (Mark sign.Underscore place) h = refl
simple_token (Key word.Var place) h = refl
simple_token (Key word.Const place) h = refl
simple_token (Key word.Let place) h = refl
simple_token _ h = absurd h

abbrev IsPlain : Lexeme → Type 0
IsPlain t = is_compound t ≡ false

plain_first : (r : StmtShape) (ys w : List Lexeme) → Plain r ys w → First IsPlain ys
plain_first r ys w c =
    elim c [
      | inl h ↦ record { first = h.first; others = h.others; split = h.split; fits = plain_token h.first r h.others w h.at }
      | inr k ↦ (let f : First BeginsSimple ys = simple_first k.part ys k.others k.phrase in record { first = f.first; others = f.others; split = f.split; fits = simple_token f.first f.fits })
    ]

first_near : (E : Lexeme → Type 0) (tokens : List Lexeme) (at : ℕ) (ys : List Lexeme) → (f : First E ys) → Near ys (drop at tokens) → slice_get tokens at ≡ Some f.first
first_near E tokens at ys f near = near_get tokens at f.first f.others (subst (λ x. Near x (drop at tokens)) f.split near)

-- a statement by its first token
module _ (tokens : List Lexeme) (from : ℕ) (h : from ≤ length tokens) where
  module _ (is : true ≡ holds is_compound (slice_get tokens from)) where
    compound_stage : Step Statement Free tokens from from Compound
    compound_stage =
        change Statement Free tokens from from Statement Compound
        (λ r ys w stop near g.
        elim (statement_there r ys w g) [
          | inl k ↦ k
          | inr k ↦ absurd (let f : First IsPlain ys = plain_first r ys w k in let bad : true ≡ false = is ∙ ap (holds is_compound) (first_near IsPlain tokens from ys f near) ∙ f.fits in cc)
        ])
        compound_back
        (begin Statement Free tokens from h)

    pub by_compound_fails : (to : ℕ) → FailsBy Compound Free tokens from to → FailsBy Statement Free tokens from to
    by_compound_fails to x = then_fails Statement Free tokens from from to Compound compound_stage x

    pub by_compound : (names : List (List ℕ)) (node : ℕ) (s : Read Stmt) → ReadsOfBy stmt_seen Compound Free tokens names from node s → ReadsOfBy stmt_seen Statement Free tokens names from node s
    by_compound names node s x = record { reads = then_reads Statement Free tokens from from s.end Compound (stmt_seen.shape names s.tree) compound_stage x.reads; known = x.known; nodes = x.nodes }

  module _ (is : false ≡ holds is_compound (slice_get tokens from)) where
    plain_stage : Step Statement Free tokens from from Plain
    plain_stage =
        change Statement Free tokens from from Statement Plain
        (λ r ys w stop near g.
        elim (statement_there r ys w g) [
          | inl k ↦ absurd (let f : First IsCompound ys = compound_first r ys w k in let bad : false ≡ true = is ∙ ap (holds is_compound) (first_near IsCompound tokens from ys f near) ∙ f.fits in cc)
          | inr k ↦ k
        ])
        plain_back
        (begin Statement Free tokens from h)

    anything_reads : (s : StmtShape) (to : ℕ) → ReadsBy Plain Anything tokens from s to → ReadsBy Plain Free tokens from s to
    anything_reads s to x = record { low = x.low; high = x.high; us = x.us; spelled = x.spelled; phrase = x.phrase; only = λ r ys w g stop near. x.only r ys w g tt near }

    anything_fails : (to : ℕ) → FailsBy Plain Anything tokens from to → FailsBy Plain Free tokens from to
    anything_fails to x = record { low = x.low; high = x.high; us = x.us; spelled = x.spelled; begun = x.begun; none = λ r ys w g stop near. x.none r ys w g tt near }

    pub by_plain_fails : (to : ℕ) → FailsBy Plain Anything tokens from to → FailsBy Statement Free tokens from to
    by_plain_fails to x = then_fails Statement Free tokens from from to Plain plain_stage (anything_fails to x)

    pub by_plain : (names : List (List ℕ)) (node : ℕ) (s : Read Stmt) → ReadsOfBy stmt_seen Plain Anything tokens names from node s → ReadsOfBy stmt_seen Statement Free tokens names from node s
    by_plain names node s x = record { reads = then_reads Statement Free tokens from from s.end Plain (stmt_seen.shape names s.tree) plain_stage (anything_reads (stmt_seen.shape names s.tree) s.end x.reads); known = x.known; nodes = x.nodes }

abbrev Heads : List AttrShape → StmtShape → List Lexeme → List Lexeme → Type 0
Heads attrs = Headed (CompoundAt attrs)

heads_closes : (attrs : List AttrShape) → Closes (Heads attrs)
heads_closes attrs =
    let c : Closes (CompoundAt attrs (Mark sign.OpenBrace some_place)) = closes_after Braced
    (λ b. Ends (block_stmt (first_place attrs some_place) (braces (first_place attrs some_place) attrs (stmt_shapes b.0) b.1))) braced_closes
    (λ b. closes_end (block_stmt (first_place attrs some_place) (braces (first_place attrs some_place) attrs (stmt_shapes b.0) b.1))) in
    record { tree = c.tree; more = Mark sign.OpenBrace some_place ∷ c.more; closed = λ w. record { first = Mark sign.OpenBrace some_place; others = c.more ++ w; split = refl; at = c.closed w } }

heads_stops : (attrs : List AttrShape) (r : StmtShape) (zs w : List Lexeme) → Free w → Heads attrs r zs w → Above 8 zs
heads_stops attrs r zs w stop k = subst (Above 8) (sym k.split) (compound_rank attrs k.first r k.others w k.at)

module _ (tokens : List Lexeme) (from : ℕ) (h : from ≤ length tokens) where
  pub compound_attrs_fails : (to : ℕ) → FailsBy (Many Attribute) (Above 8) tokens from to → FailsBy Compound Free tokens from to
  compound_attrs_fails to x = phrase_fails Compound Free tokens from (Many Attribute) (Above 8) Heads heads_stops from to heads_closes (begin Compound Free tokens from h) x

  module _ (names : List (List ℕ)) (node : ℕ) (a : Read (List Attr)) (x : ReadsOf attrs_seen (Many Attribute) 8 tokens names from node a) where
    heads_stage : Step Compound Free tokens from a.end (Heads (attr_shapes names a.tree))
    heads_stage = phrase Compound Free tokens from (Many Attribute) (Above 8) Heads heads_stops from a.end (attr_shapes names a.tree) (begin Compound Free tokens from h) (ranked_read attrs_seen (Many Attribute) 8 tokens names from node a x).reads

    pub compound_stuck : ((p : Place) → slice_get tokens a.end ≡ Some (Mark sign.OpenBrace p) → ⊥) → ((p : Place) → slice_get tokens a.end ≡ Some (Key word.If p) → ⊥) →
        ((p : Place) → slice_get tokens a.end ≡ Some (Key word.Switch p) → ⊥) → ((p : Place) → slice_get tokens a.end ≡ Some (Key word.Loop p) → ⊥) →
        ((p : Place) → slice_get tokens a.end ≡ Some (Key word.For p) → ⊥) → ((p : Place) → slice_get tokens a.end ≡ Some (Key word.While p) → ⊥) → FailsBy Compound Free tokens from a.end
    compound_stuck no_brace no_if no_switch no_loop no_for no_while =
        stuck Compound Free tokens from a.end (Heads (attr_shapes names a.tree)) (heads_closes (attr_shapes names a.tree))
        (λ r ys w stop k near. by k.first r k.others w (near_get tokens a.end k.first k.others (subst (λ y. Near y (drop a.end tokens)) k.split near)) k.at)
        heads_stage
      where
        by : (t : Lexeme) (r : StmtShape) (us w : List Lexeme) → slice_get tokens a.end ≡ Some t → CompoundAt (attr_shapes names a.tree) t r us w → ⊥
        by (Mark sign.OpenBrace p) r us w is k = no_brace p is
        by (Key word.If p) r us w is k = no_if p is
        by (Key word.Switch p) r us w is k = no_switch p is
        by (Key word.Loop p) r us w is k = no_loop p is
        by (Key word.For p) r us w is k = no_for p is
        by (Key word.While p) r us w is k = no_while p is
        by _ r us w is k = k

    pub head_stage : (t : Lexeme) → slice_get tokens a.end ≡ Some t → Step Compound Free tokens from (a.end + 1) (CompoundAt (attr_shapes names a.tree) t)
    head_stage t is = head Compound Free tokens from a.end (CompoundAt (attr_shapes names a.tree)) t is heads_stage

  -- the attributes, once names were added
  pub attrs_later : (mid new : List (List ℕ)) (node : ℕ) (a : Read (List Attr)) → Grows mid new → ReadsOf attrs_seen (Many Attribute) 8 tokens mid from node a → ReadsOf attrs_seen (Many Attribute) 8 tokens new from node a
  attrs_later mid new node a g x =
      let later : ReadsOfBy attrs_seen (Many Attribute) (Above 8) tokens new from node a = grown attrs_seen attrs_steady (Many Attribute) (Above 8) tokens mid new from node a g (ranked_read attrs_seen (Many Attribute) 8 tokens mid from node a x) in
      record { reads = record { low = later.reads.low; high = later.reads.high; us = later.reads.us; spelled = later.reads.spelled; phrase = later.reads.phrase; only = later.reads.only }; known = later.known; nodes = later.nodes }

  -- A part behind the token that decides, which is the last. `f` says what it makes of the attributes.
  module _ {T R : Type 0} (seen : Seen T R) (B : R → List Lexeme → List Lexeme → Type 0) (H : List Lexeme → Type 0) (follows : (w : List Lexeme) → Free w → H w) (token : Lexeme) (f : List AttrShape → R → StmtShape) (same : (attrs : List AttrShape) → CompoundAt attrs token ≡ After B (λ b. Ends (f attrs b))) where
    one_stage : (names : List (List ℕ)) (node : ℕ) (a : Read (List Attr)) → ReadsOf attrs_seen (Many Attribute) 8 tokens names from node a → slice_get tokens a.end ≡ Some token → Step Compound Free tokens from (a.end + 1) (After B (λ b. Ends (f (attr_shapes names a.tree) b)))
    one_stage names node a x is = subst (Step Compound Free tokens from (a.end + 1)) (same (attr_shapes names a.tree)) (head_stage names node a x token is)

    pub one_fails : (names : List (List ℕ)) (node : ℕ) (a : Read (List Attr)) → ReadsOf attrs_seen (Many Attribute) 8 tokens names from node a → slice_get tokens a.end ≡ Some token → (to : ℕ) → FailsBy B H tokens (a.end + 1) to → FailsBy Compound Free tokens from to
    one_fails names node a x is to y = last_fails Compound Free tokens from B H (f (attr_shapes names a.tree)) follows (a.end + 1) (one_stage names node a x is) to y

    pub one_tree : (k : StmtKind) (place : Place) (mid new : List (List ℕ)) (node : ℕ) (a : Read (List Attr)) → ReadsOf attrs_seen (Many Attribute) 8 tokens mid from node a →
        slice_get tokens a.end ≡ Some token → Grows mid new → (b : Read T) → ReadsOfBy seen B H tokens new (a.end + 1) a.node b → (needs : ℕ) (nodes : List ℕ) (last : ℕ) →
        stmt_kind_shaped new k place ≡ f (attr_shapes new a.tree) (seen.shape new b.tree) → stmt_kind_count k ≡ needs →
        (attrs_need a.tree ≤ length new → seen.needs b.tree ≤ length new → needs ≤ length new) → stmt_kind_numbers k ≡ nodes →
        (CountFrom node (attrs_nodes a.tree) a.node → CountFrom a.node (seen.nodes b.tree) b.node → CountFrom node nodes last) → (s : Read Stmt) →
        s ≡ record { tree = record { node = last; place = place; kind = k }; end = b.end; node = last + 1 } → ReadsOfBy stmt_seen Compound Free tokens new from node s
    one_tree k place mid new node a x is g b y needs nodes last shaped count known numbers counted s same_tree =
        let later : ReadsOf attrs_seen (Many Attribute) 8 tokens new from node a = attrs_later mid new node a g x in
        subst (ReadsOfBy stmt_seen Compound Free tokens new from node) (sym same_tree)
        (statement_tree Compound Free tokens new from node k place b.end last (f (attr_shapes new a.tree) (seen.shape new b.tree)) needs nodes shaped count (known later.known y.known) numbers (counted later.nodes y.nodes)
        (last_reads Compound Free tokens from B H (f (attr_shapes new a.tree)) follows (a.end + 1) (one_stage new node a later is) b.end (seen.shape new b.tree) y.reads))
